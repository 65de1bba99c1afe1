use Rattle.gc_rehearsal.proofs.Common.{ap, subst, option_copied}
use Rattle.gc_rehearsal.proofs.Leading.{Comes, comes_on, faulty_here}
use Rattle.gc_rehearsal.proofs.reading.read_lines.Goals as goal

pub loop-left-preserved : goal.loop-left-preserved
loop-left-preserved c =
    comes_on c.args.text.now c.in-Some.text.now c.cut_line.result.0.now (option_copied c.cut_line.result.1) c.loop-left.number c.loop-left.rules c.in-Ok.new
    (subst (λ left. Comes c.args.text.now left c.loop-left.number c.loop-left.rules) (ap option_copied c.in-Some.is) c.loop-left.invariant) c.cut_line.ensures
    c.in-Ok.ensures.found

pub returns-in-Err-clause-fault : goal.returns-in-Err-clause-fault
returns-in-Err-clause-fault c = (
  c.requires,
  faulty_here c.args.text.now c.in-Some.text.now c.cut_line.result.0.now (option_copied c.cut_line.result.1) c.loop-left.number c.loop-left.rules c.in-Err.fault
      (subst (λ left. Comes c.args.text.now left c.loop-left.number c.loop-left.rules) (ap option_copied c.in-Some.is) c.loop-left.invariant) c.cut_line.ensures
      c.in-Err.ensures.fault,
)
