use Rattle.geocom_c.proofs.Common.{◌≡◌, ◌+◌, ◌++◌, ℕ, List, length, take, FirstAre, total_length, StandsAt}
use Rattle.geocom_c.proofs.listed.put_items.Given as goal

-- the first k items, and nothing else, were appended to the text, and the first k places say where they are
abbrev pub invariant-loop-k : goal.invariant-loop-k
invariant-loop-k l =
    record {
      front : (more : List ℕ) × (l.text.items ≡ l.initial.text.items ++ more);
      places : FirstAre (StandsAt l.text.items) l.places (take l.k l.items);
      size : length l.places ≡ length l.initial.places;
      room : length l.text.items ≡ length l.initial.text.items + total_length (take l.k l.items);
    }
