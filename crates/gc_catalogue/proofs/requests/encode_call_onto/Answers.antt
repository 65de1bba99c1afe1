use Rattle.gc_catalogue.proofs.Common.{◌≡◌, ◌++◌, [], sym, append-nil, request_text, request_plain, AreValues, call_fields, before_commas, request_of}
use Rattle.gc_catalogue.proofs.Joining.{request_with_list}
use Rattle.gc_catalogue.proofs.LineLaws.{call_again, id_in_range}
use Rattle.gc_catalogue.proofs.Plain.{plain_params}
use Rattle.gc_catalogue.proofs.Table.{number_fits}
use Rattle.gc_catalogue.proofs.requests.encode_call_onto.Goals as goal

-- the request's head and the call's values before commas were appended, and the values lie in their ranges
begun : (g : _) (c : goal.After-end_list g) → (c.write_row.new.to.items ≡ c.args.out.now.items ++
    (request_text (record { rpc = (call_fields c.args.call.now).number; id = c.args.id; params = [] }) ++ before_commas (call_fields c.args.call.now).values))
    × AreValues (call_fields c.args.call.now).values
begun g c = c.write_row.ensures.takes c.write_row.new.to (sym (append-nil _), tt)

pub returns-clause-line : goal.returns-clause-line
returns-clause-line g c =
    request_with_list c.args.out.now.items (call_fields c.args.call.now).number c.args.id
    (call_fields c.args.call.now).values c.write_row.new.to.items c.end_list.new.out.items (begun g c).0
    c.end_list.ensures

pub returns-clause-fitting : goal.returns-clause-fitting
returns-clause-fitting g c = (begun g c).1

pub returns-clause-plain : goal.returns-clause-plain
returns-clause-plain g c =
    request_plain (request_of c.args.id c.args.call.now) (record { rpc = number_fits c.args.call.now; id = id_in_range c.args.id c.requires.id }) (plain_params _ (begun g c).1)

pub returns-clause-reads_back : goal.returns-clause-reads_back
returns-clause-reads_back g c = call_again c.args.id c.args.call.now (id_in_range c.args.id c.requires.id) (begun g c).1
