use Rattle.gc_texts.proofs.Common.{rules, Some, None, option_copied, IsCommand, Command}
use Rattle.gc_texts.proofs.Procedures.{with_rest}
use Rattle.gc_texts.proofs.CommandForms.{unspaced_is_no_command, targetless_is_no_command, callless_is_no_command}
use Rattle.gc_texts.proofs.commands.read_command.Goals as goal

pub returns-in_err-procedure : goal.returns-in_err-procedure
returns-in_err-procedure c =
    let none : (command : Command) → IsCommand c.args.line.now command → ⊥ =
    λ command is. unspaced_is_no_command c.args.line.now command is c.cut_at.result.0.now
    (with_rest 32 c.args.line.now c.cut_at.result.0.now (option_copied c.cut_at.result.1) None c.cut_at.ensures (search rules)) in
    search rules

pub returns-in_err-target : goal.returns-in_err-target
returns-in_err-target c =
    let none : (command : Command) → IsCommand c.args.line.now command → ⊥ =
    λ command is. targetless_is_no_command c.args.line.now command is c.cut_at.result.0.now (option_copied c.cut_at.result.1) c.cut_at.ensures c.in_err-target.ensures in
    search rules

pub returns-in_err-call : goal.returns-in_err-call
returns-in_err-call c =
    let none : (command : Command) → IsCommand c.args.line.now command → ⊥ =
    λ command is. callless_is_no_command c.args.line.now command is c.cut_at.result.0.now c.in_ok-procedure.procedure.now
    (with_rest 32 c.args.line.now c.cut_at.result.0.now (option_copied c.cut_at.result.1) (Some c.in_ok-procedure.procedure.now) c.cut_at.ensures (search rules))
    c.in_err-call.ensures in
    search rules
