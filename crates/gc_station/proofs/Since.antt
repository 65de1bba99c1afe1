-- Facts of the past: what has held since an element of a growing list, as since an act of a run.
use Rattle.gc_station.proofs.Common.{◌≡◌, List, [], ◌∷◌, ◌++◌, refl, ap, ◌∙◌, append_assoc}

-- among all these elements there is one, `start`, with P of the elements before it, of `start`, and of those after it
pub record Since {A : Type 0} (P : List A → A → List A → Type 0) (all : List A) : Type 0 where
  pub before : List A
  pub start : A
  pub behind : List A
  pub order : all ≡ before ++ start ∷ behind
  pub holds : P before start behind

-- where P holds of the last element, with nothing after it, P holds since that element
pub since_now : {A : Type 0} (P : List A → A → List A → Type 0) (all : List A) (last : A) → P all last [] → Since P (all ++ last ∷ [])
since_now P all last p = record { before = all; start = last; behind = []; order = refl; holds = p }

-- if P has held since an element of `all`, Q has held since it in `all ++ more`. It is given that wherever P holds with `behind`
-- after an element, Q holds with `behind ++ more` after it
pub since_on : {A : Type 0} (P Q : List A → A → List A → Type 0) (all more : List A)
    → ((before : List A) (start : A) (behind : List A) → all ≡ before ++ start ∷ behind → P before start behind → Q before start (behind ++ more))
    → Since P all → Since Q (all ++ more)
since_on P Q all more step s = record {
  before = s.before;
  start = s.start;
  behind = s.behind ++ more;
  order = ap (λ xs. xs ++ more) s.order ∙ append_assoc s.before (s.start ∷ s.behind) more;
  holds = step s.before s.start s.behind s.order s.holds;
}

-- if a front of a list is `before` and then `rest`, the list is `before`, then `rest`, and then what comes after the front
-- (`tail`)
pub extend_cut : {A : Type 0} (all front before rest tail : List A) → all ≡ front ++ tail → front ≡ before ++ rest → all ≡ before ++ (rest ++ tail)
extend_cut all front before rest tail outer inner = outer ∙ ap (λ xs. xs ++ tail) inner ∙ append_assoc before rest tail
