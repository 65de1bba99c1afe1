use Rattle.gc_client.proofs.Common.{◌≡◌, ◌≤◌, length}
use Rattle.gc_client.proofs.ending.make_places.Given as goal

-- the list has as many settlements as the counter says
abbrev pub invariant-loop : goal.invariant-loop
invariant-loop g l = (length l.settled.items ≡ l.counter) × (l.counter ≤ l.count)
