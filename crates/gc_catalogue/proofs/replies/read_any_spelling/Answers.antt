use Rattle.gc_catalogue.proofs.Common.{[], append-nil, refl, subst, ◌∙◌, IsListFault}
use Rattle.gc_catalogue.proofs.replies.read_any_spelling.Goals as goal

pub returns-in-Err : goal.returns-in-Err
returns-in-Err c =
    let fails = c.new-listed.ensures.fails _ _ (c.read_answer_row.ensures.row.1 [] _ c.in-Err.ensures.fails) in
    (refl, refl, (c.read_answer_row.new.answer, c.read_answer_row.ensures.found ∙ c.shape.ensures, subst (λ ks. IsListFault ks c.args.params.now c.in-Err.fault) (append-nil _) fails))
