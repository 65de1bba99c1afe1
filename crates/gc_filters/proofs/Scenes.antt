-- That a text is one scene without rules at most.
use Rattle.gc_filters.proofs.Common.{◌≡◌, arith, ℕ, List, inl, inr, ap, subst, sym, ◌∙◌, codes, IsTrue, filter, append_cancel_left, State, Target, behind, IsTextOf, is_kept, text_lines, first_word, second_word, after_two_words, one_list, IsLineOf, IsTargetLine, need_of, takes, IsScene, IsOverfullScene, OverfillAnInstrument, FitAnInstrument, scene_opening, SceneLine}
use Rattle.gc_values.proofs.DecimalLaws.{spells_unique}
use Rattle.gc_values.proofs.WholeLemmas.{one_whole}
use Rattle.gc_filters.proofs.SceneWords.{begins, one_word, word_in}
use Rattle.gc_filters.specs.declared.scene_line.SceneKind.TheVariants as kind
use Rattle.gc_filters.specs.declared.scene_line.SceneLine.TheVariants as says

-- two targets with one direction and one distance are one
same_target : (t u : Target) → t.hz ≡ u.hz → t.v ≡ u.v → t.distance ≡ u.distance → t ≡ u
same_target t u e f g =
    ap (λ x. record { hz = x; v = t.v; distance = t.distance }) e ∙ ap (λ x. record { hz = u.hz; v = x; distance = t.distance }) f ∙ ap (λ x. record { hz = u.hz; v = u.v; distance = x }) g

-- a line says one target at most
one_target : (line : List ℕ) (t u : Target) → IsTargetLine line t → IsTargetLine line u → t ≡ u
one_target line t u x y =
    same_target t u (spells_unique (first_word (behind 32 line)) t.hz u.hz x.1.hz y.1.hz) (spells_unique (second_word (behind 32 line)) t.v u.v x.1.v y.1.v)
    (spells_unique (after_two_words (behind 32 line)) t.distance u.distance x.1.distance y.1.distance)

-- a line of a scene without rules says one serial number, name or target at most
one_plain_line : (line : List ℕ) (a b : SceneLine) → IsLineOf kind.Plain line a → IsLineOf kind.Plain line b → a ≡ b
one_plain_line line a b x y = by_word a b x y (one_word line (word_in a) (word_in b) (begins line a x.0) (begins line b y.0)) where
  -- where a line says a and says b, with one word, a is b
  by_word : (a b : SceneLine) → IsLineOf kind.Plain line a → IsLineOf kind.Plain line b → word_in a ≡ word_in b → a ≡ b
  by_word (says.Serial m) (says.Serial n) x y h = ap says.Serial (one_whole (behind 32 line) m n x.0.1 y.0.1)
  by_word (says.Name bs) (says.Name cs) x y h = ap says.Name (append_cancel_left (codes "name ") bs cs (sym x.0.line_is ∙ y.0.line_is))
  by_word (says.Target t) (says.Target u) x y h = ap says.Target (one_target line t u x.0 y.0)
  by_word a b x y h = let taken : IsTrue (takes kind.Plain (need_of a)) = x.1 in first_of (cc, grind arith)

-- the lines of a text say one list of serial numbers, names and targets at most
one_plain_list : (text : List ℕ) (xs ys : List SceneLine) → IsTextOf (IsLineOf kind.Plain) text xs → IsTextOf (IsLineOf kind.Plain) text ys → xs ≡ ys
one_plain_list text xs ys h k = one_list (IsLineOf kind.Plain) one_plain_line (filter is_kept (text_lines text)) xs ys h k

-- a text sets up one instrument at most
pub one_state : (text : List ℕ) (s t : State) → IsScene text s → IsScene text t → s ≡ t
one_state text s t x y = x.opens.0 ∙ ap scene_opening (one_plain_list text x.lines y.lines x.are y.are) ∙ sym y.opens.0

-- lines that fit an instrument don't overfill it
fit_is_not_overfull : (lines : List SceneLine) → FitAnInstrument lines → OverfillAnInstrument lines → ⊥
fit_is_not_overfull lines few (inl many) = omega (arith, few.targets, many)
fit_is_not_overfull lines few (inr (inl (inl many))) = omega (arith, few.faults, many)
fit_is_not_overfull lines few (inr (inl (inr many))) = omega (arith, few.answers, many)
fit_is_not_overfull lines few (inr (inr (inl many))) = omega (arith, few.starts, many)
fit_is_not_overfull lines few (inr (inr (inr (inl many)))) = omega (arith, few.delays, many)
fit_is_not_overfull lines few (inr (inr (inr (inr many)))) = omega (arith, few.late, many)

-- a text that sets up an instrument isn't a scene of too many targets
pub scene_is_not_overfull : (text : List ℕ) (s : State) → IsScene text s → IsOverfullScene text → ⊥
scene_is_not_overfull text s x full =
    fit_is_not_overfull full.lines (subst FitAnInstrument (one_plain_list text x.lines full.lines x.are full.are) x.few) full.many
