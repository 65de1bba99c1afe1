use Rattle.gc_texts.proofs.Common.{rules, Option, SetsAgree, Agree}
use Rattle.gc_texts.proofs.AgreeForms.{no_agree_of_rest}
use Rattle.gc_texts.proofs.task_line.read_agreeing.Goals as goal

pub returns-in_err-agree : goal.returns-in_err-agree
returns-in_err-agree c =
    let none : (said : Option Agree) → SetsAgree c.args.line.now said → ⊥ = no_agree_of_rest c.args.line.now c.in_ok-rest.rest.now c.in_ok-rest.ensures c.in_err-agree.ensures in
    search rules
