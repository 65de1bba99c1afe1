use Rattle.gc_rehearsal.proofs.Common.{◌≡◌, ◌+◌, ◌*◌, ◌≤◌, ◌++◌, length}
use Rattle.gc_rehearsal.specs.Altering.{altered_from}
use Rattle.gc_rehearsal.proofs.altering.alter_by.Given as goal

-- what became of the bytes so far, and what becomes of those that are left, are what becomes of all
abbrev pub invariant-loop-byte : goal.invariant-loop-byte
invariant-loop-byte l =
    (l.out.items ++ altered_from l.draws.start l.share l.place l.left ≡ altered_from l.draws.start l.share 1 l.bytes)
    × (length l.out.items + 2 * length l.left ≤ 1028) × (l.place + length l.left ≤ 515) × (1 ≤ l.place)

-- each byte leaves fewer of them
abbrev pub decreases-loop-byte : goal.decreases-loop-byte
decreases-loop-byte l = length l.left
