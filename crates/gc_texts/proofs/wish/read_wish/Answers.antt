use Rattle.gc_texts.proofs.Common.{rules, None, Some, option_copied, IsWorded, Wish, Wording}
use Rattle.gc_texts.proofs.DescribedForms.{unspaced_is_not_worded, worded_of_cut}
use Rattle.gc_texts.proofs.Procedures.{with_rest}
use Rattle.gc_texts.proofs.wish.read_wish.Goals as goal

pub returns-in_err-rest : goal.returns-in_err-rest
returns-in_err-rest c =
    let none : (r : Wish × Wording) → IsWorded r.1 c.args.line.now r.0 → ⊥ =
    unspaced_is_not_worded c.args.line.now c.cut_at.result.0.now (with_rest 32 c.args.line.now c.cut_at.result.0.now (option_copied c.cut_at.result.1) None c.cut_at.ensures (search rules)) in
    search rules

pub returns : goal.returns
returns c =
    worded_of_cut c.args.line.now c.cut_at.result.0.now c.in_ok-rest.field-0.now c.read_worded.result
    (with_rest 32 c.args.line.now c.cut_at.result.0.now (option_copied c.cut_at.result.1) (Some c.in_ok-rest.field-0.now) c.cut_at.ensures (search rules)) c.read_worded.ensures
