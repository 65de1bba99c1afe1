use Rattle.gc_texts.proofs.Common.{rules, Some, None, option_copied, IsNameLine, Name}
use Rattle.gc_texts.proofs.Procedures.{with_rest}
use Rattle.gc_texts.proofs.TaskForms.{unspaced_is_no_name, targetless_is_no_name, nameless_is_no_name}
use Rattle.gc_texts.proofs.task_line.read_naming.Goals as goal

pub returns-in_err-text : goal.returns-in_err-text
returns-in_err-text c =
    let none : (name : Name) → IsNameLine c.args.line.now name → ⊥ =
    λ name is. unspaced_is_no_name c.args.line.now c.in_ok-rest.rest.now name c.in_ok-rest.ensures is c.cut_at.result.0.now
    (with_rest 32 c.in_ok-rest.rest.now c.cut_at.result.0.now (option_copied c.cut_at.result.1) None c.cut_at.ensures (search rules)) in
    search rules

pub returns-in_err-target : goal.returns-in_err-target
returns-in_err-target c =
    let none : (name : Name) → IsNameLine c.args.line.now name → ⊥ =
    λ name is. targetless_is_no_name c.args.line.now c.in_ok-rest.rest.now name c.in_ok-rest.ensures is c.cut_at.result.0.now
    (option_copied c.cut_at.result.1) c.cut_at.ensures c.in_err-target.ensures in
    search rules

pub returns-then-not-is_name : goal.returns-then-not-is_name
returns-then-not-is_name c name is =
    nameless_is_no_name c.args.line.now c.in_ok-rest.rest.now name c.in_ok-rest.ensures is c.cut_at.result.0.now c.in_ok-text.text.now
    (with_rest 32 c.in_ok-rest.rest.now c.cut_at.result.0.now (option_copied c.cut_at.result.1) (Some c.in_ok-text.text.now) c.cut_at.ensures (search rules))
    (search rules)
