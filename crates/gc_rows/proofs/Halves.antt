-- How long the two parts are into which a text is cut at its first mark.
use Rattle.gc_rows.proofs.Common.{◌+◌, ◌≤◌, ◌==◌, ℕ, Bool, true, false, List, [], ◌∷◌, length, cond, arith, lit≤, before, behind}

-- what is before the mark and what is behind it are together no longer than the text
pub parts_short : (mark : ℕ) (bs : List ℕ) → length (before mark bs) + length (behind mark bs) ≤ length bs
parts_short mark [] = lit≤ tt
parts_short mark (b ∷ bs) = chosen (b == mark) (parts_short mark bs) where
  -- so it is whether the first byte is the mark (`same`) or not
  chosen : (same : Bool) → length (before mark bs) + length (behind mark bs) ≤ length bs
      → length (cond same [] (b ∷ before mark bs)) + length (cond same bs (behind mark bs)) ≤ length (b ∷ bs)
  chosen true short = omega arith
  chosen false short = omega (arith, short)
