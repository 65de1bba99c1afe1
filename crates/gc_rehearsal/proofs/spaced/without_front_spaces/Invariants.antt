use Rattle.gc_rehearsal.proofs.Common.{◌≡◌, length}
use Rattle.gc_values.specs.Prelude.{without_front_spaces}
use Rattle.gc_rehearsal.proofs.spaced.without_front_spaces.Given as goal

-- only spaces were taken off the front of the text
abbrev pub invariant-loop-rest : goal.invariant-loop-rest
invariant-loop-rest l = without_front_spaces l.left ≡ without_front_spaces l.text

-- each space that is taken off leaves less of the text
abbrev pub decreases-loop-rest : goal.decreases-loop-rest
decreases-loop-rest l = length l.left
