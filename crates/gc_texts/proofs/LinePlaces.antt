-- A line of a text by its number: the lines are cut off one by one, `left` is what is left of the text (`now` where there is
-- something), and `wanted` is the wanted line's number among the lines that are left, from 1.
use Rattle.gc_texts.proofs.Common.{◌≡◌, ◌-◌, ◌<◌, ◌≤◌, ℕ, suc, List, [], ◌∷◌, get_or, Option, Some, arith, ap, sym, ◌∙◌, CutsLine}
use Rattle.gc_texts.proofs.TextLines.{lines_left, lines-cut}

-- the lines of what is left are the line that is cut off, and then those of the rest
lines_left_cut : (left : Option (List ℕ)) (now line : List ℕ) (rest : Option (List ℕ))
    → left ≡ Some now → CutsLine now line rest → lines_left left ≡ line ∷ lines_left rest
lines_left_cut left now line rest some cut = ap lines_left some ∙ lines-cut now line rest cut

-- `wanted_line` is number `wanted` of the lines left, the first for 0, and empty where they are fewer. `line` is the line that
-- is cut off next, and `rest` what is left then
module _
    (wanted_line : List ℕ) (left : Option (List ℕ)) (now line : List ℕ) (rest : Option (List ℕ)) (wanted : ℕ)
    (so : wanted_line ≡ get_or (lines_left left) (wanted - 1) []) (some : left ≡ Some now) (cut : CutsLine now line rest) where
  -- where the first of the lines left is the wanted one (`wanted` is 1, or 0), the wanted line is the line that is cut off next
  pub line_here : wanted ≤ 1 → line ≡ wanted_line
  line_here last =
      let none : wanted - 1 ≡ 0 = omega (arith, last) in
      sym (so ∙ ap (λ n. get_or (lines_left left) n []) none ∙ ap (λ ls. get_or ls 0 []) (lines_left_cut left now line rest some cut))

  -- where a later one of the lines left is wanted, it is number `wanted - 1` of the rest's lines, and empty where they are fewer
  pub line_behind : 1 < wanted → wanted_line ≡ get_or (lines_left rest) (wanted - 1 - 1) []
  line_behind more =
      let one : wanted - 1 ≡ suc (wanted - 1 - 1) = omega (arith, more) in
      so ∙ ap (λ n. get_or (lines_left left) n []) one ∙ ap (λ ls. get_or ls (suc (wanted - 1 - 1)) []) (lines_left_cut left now line rest some cut)
