use Rattle.gc_world.proofs.Common.{ℕ, Call, ById, stage_parts, staging, Shows, HasLeft, Streams}
use Rattle.gc_world.proofs.Handed.{IsReached}
use Rattle.gc_world.proofs.stage.Stage.deliver_bytes.Given as goal

-- what is left of the bytes hands over what is left of the lines
abbrev pub invariant-loop-left : goal.invariant-loop-left
invariant-loop-left g l =
    record {
      follows : (width : ℕ) (v : Streams (ById Call) g.row.I.Denot) → Shows width l.fn.self v → IsReached g.I.Executes.acts width l.direction (stage_parts l.self) v l.n l.left;
      remaining : HasLeft (staging g.I.Executes.acts) l.self l.direction l.remaining;
    }

abbrev pub decreases-loop-left : goal.decreases-loop-left
decreases-loop-left g l = l.left
