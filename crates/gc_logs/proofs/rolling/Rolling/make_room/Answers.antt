use Rattle.gc_logs.proofs.LogCuts.{begun_here}
use Rattle.gc_logs.proofs.rolling.Rolling.make_room.Goals.{then-not-self+in_ok-begin_line, else-not-self}
use Rattle.gc_logs.proofs.rolling.Rolling.make_room.Goals as goal

pub returns-then-has_room-clause-begun : goal.returns-then-has_room-clause-begun
returns-then-has_room-clause-begun g c =
    let old = c.args.self.now in
    let there = begun_here (g.K.Rolls.files old.files) c.args.bytes.now old.most in
    elim c.if-not-self.branch [
      | then-not-self+in_ok-begin_line w ↦ rw w.self-is w.in_ok-begin_line.ensures.begun
      | else-not-self w ↦ rw w.self-is there
    ]
