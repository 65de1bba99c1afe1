use Rattle.gc_catalogue.proofs.Common.{◌≡◌, true, [], append-nil, subst, rules, IsListFault}
use Rattle.gc_catalogue.proofs.requests.read_any_spelling.Goals as goal

pub returns-in-Err-clause-fault : goal.returns-in-Err-clause-fault
returns-in-Err-clause-fault c =
    let known : c.read_row.result ≡ true = search rules in
    let fails = c.new-listed.ensures.fails _ _ ((c.read_row.ensures.row known).1 [] _ c.in-Err.ensures.fails) in
    (c.read_row.new.call, c.read_row.ensures.found known, subst (λ ks. IsListFault ks c.args.params.now c.in-Err.fault) (append-nil _) fails)
