use Rattle.gc_links.proofs.Common.{◌≤◌}
use Rattle.gc_links.proofs.system.files.read_front.Given as goal

-- the bytes so far have room
abbrev pub invariant-loop : goal.invariant-loop
invariant-loop l = l.len ≤ 65
