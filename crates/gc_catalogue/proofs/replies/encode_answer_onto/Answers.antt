use Rattle.gc_catalogue.proofs.Common.{◌≡◌, ◌++◌, ℕ, List, [], append-nil, append_assoc, ap, sym, ◌∙◌, arith, lit<, length, length-append, reply_text, reply_plain, AreValues, Value, answer_fields, rounded_answer, before_commas, behind_commas, params_of, shown_values, reply_of}
use Rattle.std.proofs.Common.{Some}
use Rattle.gc_catalogue.proofs.Joining.{list_behind_comma, params_text-params_of, reply_text-params}
use Rattle.gc_catalogue.proofs.Lengths.{behind_short}
use Rattle.gc_catalogue.proofs.LineLaws.{answer_again, refusal_again}
use Rattle.gc_catalogue.proofs.Plain.{plain_params}
use Rattle.gc_catalogue.proofs.Table.{few_answer_values, values-rounded}
use Rattle.gc_catalogue.proofs.replies.encode_answer_onto.Goals as goal

-- the answer's values, each double rounded, were appended, each before a comma, and lie in their ranges
handed : (g : _) (c : goal.After-pop g) → (c.write_row.new.to.items ≡ c.push.new.self.items ++ before_commas
    (shown_values c.args.places (answer_fields c.args.answer.now).values))
    × AreValues (shown_values c.args.places (answer_fields c.args.answer.now).values)
handed g c = c.write_row.ensures c.write_row.new.to (sym (append-nil _), tt)

-- the rounded answer's values, each after a comma, follow the reply's return code
listed : (g : _) (c : goal.After-pop g) → c.pop.new.self.items ≡ c.push_reply.new.to.items ++ behind_commas (answer_fields (rounded_answer c.args.places c.args.answer.now)).values
listed g c =
    let vs : List Value = shown_values c.args.places (answer_fields c.args.answer.now).values in
    list_behind_comma c.push_reply.new.to.items vs c.write_row.new.to.items c.pop.new.self.items
    ((handed g c).0 ∙ ap (λ bytes. bytes ++ before_commas vs) c.push.ensures.items) c.pop.ensures.rest
    ∙ ap (λ vs. c.push_reply.new.to.items ++ behind_commas vs) (sym (values-rounded c.args.places c.args.answer.now))

pub returns-clause-line : goal.returns-clause-line
returns-clause-line g c =
    let vs : List Value = (answer_fields (rounded_answer c.args.places c.args.answer.now)).values in
    let head : List ℕ = reply_text (record { rc_com = 0; id = Some c.args.id; rc = c.args.rc; params = [] }) in
    let whole : head ++ behind_commas vs ≡ reply_text (record { rc_com = 0; id = Some c.args.id; rc = c.args.rc; params = params_of vs }) =
    ap (λ bytes. head ++ bytes) (sym (params_text-params_of vs)) ∙ reply_text-params 0 (Some c.args.id) c.args.rc (params_of vs) in
    listed g c ∙ ap (λ bytes. bytes ++ behind_commas vs) c.push_reply.ensures.items ∙ append_assoc c.args.out.now.items head (behind_commas vs) ∙ ap (λ bytes. c.args.out.now.items ++ bytes) whole

pub returns-clause-fitting : goal.returns-clause-fitting
returns-clause-fitting g c = rw (values-rounded c.args.places c.args.answer.now) (handed g c).1

pub returns-clause-plain : goal.returns-clause-plain
returns-clause-plain g c =
    reply_plain (reply_of c.args.id c.args.rc c.args.answer.now c.args.places) (record { rc_com = lit< tt; id = c.requires.id; rc = c.ranges.rc.fits })
    (plain_params _ (returns-clause-fitting g c))

pub returns-clause-reads_back : goal.returns-clause-reads_back
returns-clause-reads_back g c = λ call success of_call.
    rw success (answer_again call c.args.id c.args.answer.now c.args.places c.requires.id of_call (returns-clause-fitting g c))

pub returns-clause-refused : goal.returns-clause-refused
returns-clause-refused g c = λ nothing call refused.
    rw nothing (refusal_again call c.args.id c.args.rc c.args.places c.requires.id (omega arith) c.ranges.rc.fits)

pub returns-clause-bound : goal.returns-clause-bound
returns-clause-bound g c =
    let answer = rounded_answer c.args.places c.args.answer.now in
    omega (
      arith,
      ap (λ (bytes : List ℕ). length bytes) (listed g c),
      length-append c.push_reply.new.to.items
          (behind_commas (answer_fields answer).values),
      behind_short (answer_fields answer).values
          (returns-clause-fitting g c),
      few_answer_values answer,
      c.push_reply.ensures.len,
    )
