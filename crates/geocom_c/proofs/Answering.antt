-- What a synchronization hears of bytes, and how many of its eight null procedures are answered. The word is the ids of these, and
-- `left` those of them that aren't answered yet.
use Rattle.geocom_c.proofs.Common.{◌≡◌, ℕ, ◌≤◌, ◌<◌, List, [], ◌∷◌, length, drop, refl, ap, arith, filter_map, drop_all, length-drop, line_in, Frame, Line, Cleared, Overlong, More, the_word, left_past, IsRest, GeocomRest}
use Rattle.geocom_c.specs.Beginning.{unanswered_after}
use Rattle.geocom_c.proofs.Hearings.{HearsInTurn}

-- a synchronization hears lines in turn, frame by frame (`left_past`)
pub synchronizes_in_turn : HearsInTurn unanswered_after left_past
synchronizes_in_turn = record { none = λ left. refl; first = first } where
  -- hearing the lines of the frames f and `fs` is hearing f, and then the lines of `fs`
  first : (left : List ℕ) (f : Frame) (fs : List Frame)
      → unanswered_after left (filter_map line_in (f ∷ fs)) ≡ unanswered_after (left_past left f) (filter_map line_in fs)
  first left (Line line) fs = refl
  first left Cleared fs = refl
  first left Overlong fs = refl
  first left More fs = refl

-- `rest` has the bytes `now` since the last line feed, and `left`, the ids that aren't answered, are `ids`
abbrev pub HasLeft : GeocomRest → (left ids now : List ℕ) → Type 0
HasLeft rest left ids now = IsRest rest now × (left ≡ ids)

-- Of how many null procedures are answered.

-- after eight answers or more no id of the synchronization is left
pub none_left_at_eight : (a : ℕ) → 8 ≤ a → drop a the_word ≡ []
none_left_at_eight a le = drop_all a the_word le

-- after fewer than eight answers some id is left
pub some_left_below_eight : (a : ℕ) → a < 8 → drop a the_word ≡ [] → ⊥
some_left_below_eight a lt e = let n = length-drop a the_word in let none : length (drop a the_word) ≡ 0 = ap length e in absurd (omega (arith, lt, n, none))
