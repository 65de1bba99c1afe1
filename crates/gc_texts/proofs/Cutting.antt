-- Texts cut at the first mark, which is a byte, as LF between lines or a space between words; and what is read of a text, if
-- anything.
use Rattle.gc_texts.proofs.Common.{◌≡◌, ◌≢◌, ◌<◌, ◌+◌, ◌≤◌, ◌==◌, false, ℕ, zero, suc, List, [], ◌∷◌, ◌++◌, length, take, drop, get_or, Option, Some, None, arith, refl, ap, subst, sym, ◌∙◌, list_any, eqb-true, eqb-false, eq-eqb, or_parts, append_cancel_left, take_all, take-append-drop, drop_more, AreDigits, Lacks, Cuts, IsReadAs, IsWordAnd}
use Rattle.memchr.specs.Find.{IsFirstByte, is_byte}

-- where `Says` and `Sets` hold of the same values, what is read by the one (`IsReadAs`) is read by the other
pub read_alike : {Value : Type 0} (Says Sets : Value → Type 0) (r : Option Value) → ((v : Value) → Says v → Sets v) → ((v : Value) → Sets v → Says v)
    → IsReadAs Says r → IsReadAs Sets r
read_alike Says Sets None to from none = λ v is. none v (from v is)
read_alike Says Sets (Some v) to from is = to v is

-- where a line is `word` and `rest`, and it is known as that word and a text of which `Is` is true (`IsWordAnd`), `Is` is true of
-- `rest`
pub holds_of_rest : (word : List ℕ) (Is : List ℕ → Type 0) (line rest : List ℕ) → line ≡ word ++ rest → IsWordAnd word Is line → Is rest
holds_of_rest word Is line rest e w = subst Is (append_cancel_left word w.rest rest (sym w.line_is ∙ e)) w.is

-- where a text has at least i bytes, and none of the first i is the mark, these lack it
lacks_before : (mark : ℕ) (bs : List ℕ) (i : ℕ) → i ≤ length bs → ((j : ℕ) → j < i → get_or bs j 0 ≢ mark) → Lacks mark (take i bs)
lacks_before mark bs zero le none = tt
lacks_before mark [] (suc i) le none = tt
lacks_before mark (b ∷ bs) (suc i) le none = (none 0 (omega arith), lacks_before mark bs i (omega (arith, le)) (λ j lt. none (suc j) (omega (arith, lt))))

-- a list with x at place i, whatever d is, is what is before that place, x, and what follows it
pub split_place : {A : Type 0} (xs : List A) (i : ℕ) (d x : A) → i < length xs → get_or xs i d ≡ x → xs ≡ take i xs ++ x ∷ drop (i + 1) xs
split_place xs i d x below is = sym (take-append-drop i xs) ∙ ap (λ ys. take i xs ++ ys) (drop_more xs i d below ∙ ap (λ y. y ∷ drop (i + 1) xs) is)

-- where a search for the mark finds it first at place i, the first i bytes as the front, and what follows that place as the rest,
-- are a cut of the text
pub found_mark_cuts : (mark : ℕ) (bs : List ℕ) (i : ℕ) (rest : List ℕ)
    → IsFirstByte (is_byte mark) bs (Some i) → rest ≡ drop (i + 1) bs → Cuts mark bs (take i bs) (Some rest)
found_mark_cuts mark bs i rest first is = (
  split_place bs i 0 mark first.0.high (eqb-true (get_or bs i 0) mark first.1) ∙ ap (λ l. take i bs ++ mark ∷ l) (sym is),
  lacks_before mark bs i (omega (arith, first.0.high)) (λ j lt e. first.0.before j (omega arith) lt (eq-eqb (get_or bs j 0) mark e)),
)

-- where a search for the mark finds none in a text, the whole text as the front, and no rest, are a cut of it
pub missing_mark_cuts : (mark : ℕ) (bs : List ℕ) → IsFirstByte (is_byte mark) bs None → Cuts mark bs bs None
missing_mark_cuts mark bs none =
    (refl, subst (Lacks mark) (take_all (length bs) bs (omega arith)) (lacks_before mark bs (length bs) (omega arith) (λ j lt e. none j (omega arith) lt (eq-eqb (get_or bs j 0) mark e))))

-- a text is a front without the mark, then the mark, then a rest, with one front and one rest at most
pub one_front : (mark : ℕ) (f g r s : List ℕ) → f ++ mark ∷ r ≡ g ++ mark ∷ s → Lacks mark f → Lacks mark g → (f ≡ g) × (r ≡ s)
one_front mark [] [] r s e lf lg = (refl, cc)
one_front mark [] (b ∷ g) r s e lf lg = let same : b ≡ mark = cc in absurd (lg.0 same)
one_front mark (a ∷ f) [] r s e lf lg = let same : a ≡ mark = cc in absurd (lf.0 same)
one_front mark (a ∷ f) (b ∷ g) r s e lf lg =
    let heads : a ≡ b = cc in
    let tails : f ++ mark ∷ r ≡ g ++ mark ∷ s = cc in
    let rest = one_front mark f g r s tails lf.1 lg.1 in
    (cc (heads, rest.0), rest.1)

-- a text with a mark doesn't lack it
pub has_mark : (mark : ℕ) (f r g : List ℕ) → f ++ mark ∷ r ≡ g → Lacks mark g → ⊥
has_mark mark [] r [] e lg = cc
has_mark mark [] r (b ∷ g) e lg = let same : b ≡ mark = cc in lg.0 same
has_mark mark (a ∷ f) r [] e lg = cc
has_mark mark (a ∷ f) r (b ∷ g) e lg = let tails : f ++ mark ∷ r ≡ g = cc in has_mark mark f r g tails lg.1

-- a text is cut at its first mark in one way
pub cut_once : (mark : ℕ) (text f g : List ℕ) (r s : Option (List ℕ)) → Cuts mark text f r → Cuts mark text g s → (f ≡ g) × (r ≡ s)
cut_once mark text f g None None x y = (sym x.0 ∙ y.0, refl)
cut_once mark text f g None (Some s) x y = absurd (has_mark mark g s f (sym y.0 ∙ x.0) x.1)
cut_once mark text f g (Some r) None x y = absurd (has_mark mark f r g (sym x.0 ∙ y.0) y.1)
cut_once mark text f g (Some r) (Some s) x y = let both = one_front mark f g r s (sym x.0 ∙ y.0) x.1 y.1 in (both.0, ap Some both.1)

-- whatever cut there is of a text that is `g` without the mark, then the mark, then `s`: its front is `g`, and its rest `s`
pub cut_found : (mark : ℕ) (text front : List ℕ) (rest : Option (List ℕ)) (g s : List ℕ)
    → Cuts mark text front rest → text ≡ g ++ mark ∷ s → Lacks mark g → (front ≡ g) × (rest ≡ Some s)
cut_found mark text front rest g s cut e lg = cut_once mark text front g rest (Some s) cut (e, lg)

-- whatever cut there is of a text without the mark: its front is the whole text, and its rest `None`
pub cut_none : (mark : ℕ) (text front : List ℕ) (rest : Option (List ℕ))
    → Cuts mark text front rest → Lacks mark text → (front ≡ text) × (rest ≡ None)
cut_none mark text front rest cut lacks = cut_once mark text front text rest None cut (refl, lacks)

-- a text lacks the mark where the test of its bytes finds none that is the mark
pub lacks_by_test : (mark : ℕ) (bs : List ℕ) → list_any (λ b. b == mark) bs ≡ false → Lacks mark bs
lacks_by_test mark [] none = tt
lacks_by_test mark (b ∷ bs) none =
    let apart = or_parts (b == mark) (list_any (λ c. c == mark) bs) none in
    (eqb-false b mark apart.0, lacks_by_test mark bs apart.1)

-- digits are no spaces
pub digits_lack_spaces : (ds : List ℕ) → AreDigits ds → Lacks 32 ds
digits_lack_spaces [] digits = tt
digits_lack_spaces (d ∷ ds) digits = ((λ e. absurd (omega (arith, digits.0.0))), digits_lack_spaces ds digits.1)
