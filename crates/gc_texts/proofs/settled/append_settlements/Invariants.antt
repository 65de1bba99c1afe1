use Rattle.gc_texts.proofs.Common.{◌≡◌, ◌++◌, take, map, settlement_seen, settlement_lines}
use Rattle.gc_texts.proofs.settled.append_settlements.Given as goal

-- the lines of the settlements so far were appended
abbrev pub invariant-loop-place : goal.invariant-loop-place
invariant-loop-place l = l.text.items ≡ l.initial.text.items ++ settlement_lines (map settlement_seen (take l.place l.settlements))
