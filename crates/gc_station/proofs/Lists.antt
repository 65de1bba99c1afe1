-- Lists: facts of each element alone (`AllByRecursion`), by its place and the element beside it in another list (`AllAt`), or
-- with a rising number besides (`AllRisingAt`); and lists cut at an element.
use Rattle.gc_station.proofs.Common.{◌≡◌, ℕ, zero, suc, ◌+◌, ◌<◌, ◌≤◌, List, [], ◌∷◌, ◌++◌, length, drop, map, Some, refl, sym, ap, ◌∙◌, subst, arith, append_assoc, ◌⊎◌, inl, inr, slice_get, AllByRecursion}
pub use Rattle.gc_lines.proofs.Lists.{all_append, all_at, get_more, cons_head, cons_tail}
pub use Rattle.gc_session.proofs.Behind.{get_behind}
pub use Rattle.gc_values.proofs.Every.{every_weaker as all_on}

-- the element at place k + n of a list is at place n after its first k
pub get_dropped : {A : Type 0} (k n j : ℕ) (xs : List A) (x : A) → j ≡ k + n → slice_get xs j ≡ Some x → slice_get (drop k xs) n ≡ Some x
get_dropped zero n j xs x e got = let same : j ≡ n = omega (arith, e) in subst (λ i. slice_get xs i ≡ Some x) same got
get_dropped (suc k) n zero xs x e got = absurd (omega (arith, e))
get_dropped (suc k) n (suc j) [] x e got = cc
get_dropped (suc k) n (suc j) (y ∷ xs) x e got = get_dropped k n j xs x (omega (arith, e)) got

-- if Q follows from P for each element of the list `all`, with what comes before and after it there, and P holds of all elements
-- of `xs`, with which `all` ends, Q holds of them, too
pub all_split : {A : Type 0} (P Q : A → Type 0) (front xs all : List A) → front ++ xs ≡ all
    → ((earlier : List A) (x : A) (later : List A) → earlier ++ x ∷ later ≡ all → P x → Q x) → AllByRecursion P xs → AllByRecursion Q xs
all_split P Q front [] all e step p = tt
all_split P Q front (x ∷ xs) all e step p = (step front x xs e p.0, all_split P Q (front ++ x ∷ []) xs all (append_assoc front (x ∷ []) xs ∙ e) step p.1)

-- P holds of each element of the first list, with its place (k for the first one) and the element beside it in the second list,
-- as far as that has one
abbrev pub AllAt : {A B : Type 0} → (P : ℕ → A → B → Type 0) → (k : ℕ) → List A → List B → Type 0
AllAt P k [] ys = Unit {0}
AllAt P k (x ∷ xs) [] = Unit {0}
AllAt P k (x ∷ xs) (y ∷ ys) = P k x y × AllAt P (suc k) xs ys

-- P holds of each element of the first list, with a number, its place (k for the first one) and the element beside it in the
-- second list, which must have one. The numbers are at least `low`, and rise
abbrev pub AllRisingAt : {A B : Type 0} → (P : ℕ → ℕ → A → B → Type 0) → (low k : ℕ) → List A → List B → Type 0
AllRisingAt P low k [] ys = Unit {0}
AllRisingAt P low k (x ∷ xs) [] = ⊥
AllRisingAt P low k (x ∷ xs) (y ∷ ys) = (n : ℕ) × (low ≤ n) × P n k x y × AllRisingAt P (suc n) (suc k) xs ys

-- `AllRisingAt` holds with a bound `low` that isn't above `high` in place of `high`, too
pub rising_from : {A B : Type 0} (P : ℕ → ℕ → A → B → Type 0) (low high k : ℕ) (xs : List A) (ys : List B) → low ≤ high → AllRisingAt P high k xs ys → AllRisingAt P low k xs ys
rising_from P low high k [] ys le p = tt
rising_from P low high k (x ∷ xs) [] le p = absurd p
rising_from P low high k (x ∷ xs) (y ∷ ys) le p = let from : low ≤ p.0 = omega (arith, le, p.1) in (p.0, from, p.2, p.3)

-- `AllRisingAt` of one property gives `AllRisingAt` of another that follows from it
pub rising_follow : {A B : Type 0} (P Q : ℕ → ℕ → A → B → Type 0) (low k : ℕ) (xs : List A) (ys : List B)
    → ((n j : ℕ) (x : A) (y : B) → P n j x y → Q n j x y) → AllRisingAt P low k xs ys → AllRisingAt Q low k xs ys
rising_follow P Q low k [] ys step p = tt
rising_follow P Q low k (x ∷ xs) [] step p = absurd p
rising_follow P Q low k (x ∷ xs) (y ∷ ys) step p = (p.0, p.1, step p.0 k x y p.2, rising_follow P Q (suc p.0) (suc k) xs ys step p.3)

-- `AllRisingAt` of one property, at places that are higher by d, gives `AllRisingAt` of another that follows from it
pub rising_shifted : {A B : Type 0} (P Q : ℕ → ℕ → A → B → Type 0) (d low k : ℕ) (xs : List A) (ys : List B)
    → ((n j : ℕ) (x : A) (y : B) → j < k + length xs → P n (d + j) x y → Q n j x y) → AllRisingAt P low (d + k) xs ys → AllRisingAt Q low k xs ys
rising_shifted P Q d low k [] ys step p = tt
rising_shifted P Q d low k (x ∷ xs) [] step p = absurd p
rising_shifted P Q d low k (x ∷ xs) (y ∷ ys) step p =
    let next : suc (d + k) ≡ d + suc k = omega arith in (
      p.0,
      p.1,
      step p.0 k x y (omega arith) p.2,
      rising_shifted P Q d (suc p.0) (suc k) xs ys (λ n j a b below. step n j a b (omega (arith, below)))
          (subst (λ (i : ℕ). AllRisingAt P (suc p.0) i xs ys) next p.3),
    )

-- `AllRisingAt` of P gives `AllRisingAt` of Q over the list with its elements mapped by f, if Q follows from P
pub rising_map : {A B C : Type 0} (P : ℕ → ℕ → A → C → Type 0) (Q : ℕ → ℕ → B → C → Type 0) (f : A → B) (low k : ℕ) (xs : List A) (ys : List C)
    → ((n j : ℕ) (x : A) (y : C) → j < k + length xs → P n j x y → Q n j (f x) y)
    → AllRisingAt P low k xs ys → AllRisingAt Q low k (map f xs) ys
rising_map P Q f low k [] ys step p = tt
rising_map P Q f low k (x ∷ xs) [] step p = absurd p
rising_map P Q f low k (x ∷ xs) (y ∷ ys) step p = (p.0, p.1, step p.0 k x y (omega arith) p.2, rising_map P Q f (suc p.0) (suc k) xs ys (λ n j a b below. step n j a b (omega (arith, below))) p.3)

-- `AllRisingAt` holds without the first d elements of both lists, at the places from d + k on
pub rising_drop : {A B : Type 0} (P : ℕ → ℕ → A → B → Type 0) (d low k : ℕ) (xs : List A) (ys : List B) → AllRisingAt P low k xs ys → AllRisingAt P low (d + k) (drop d xs) (drop d ys)
rising_drop P zero low k xs ys p = let here : 0 + k ≡ k = omega arith in subst (λ (i : ℕ). AllRisingAt P low i xs ys) (sym here) p
rising_drop P (suc d) low k [] ys p = tt
rising_drop P (suc d) low k (x ∷ xs) [] p = absurd p
rising_drop P (suc d) low k (x ∷ xs) (y ∷ ys) p =
    let next : d + suc k ≡ suc d + k = omega arith in
    let from : low ≤ suc p.0 = omega (arith, p.1) in
    rising_from P low (suc p.0) (suc d + k) (drop d xs) (drop d ys) from (subst (λ (i : ℕ). AllRisingAt P (suc p.0) i (drop d xs) (drop d ys)) next (rising_drop P d (suc p.0) (suc k) xs ys p.3))

-- `AllRisingAt` of Q for lists with one more element at their ends, which has the number `last` and the place `place`: P holds of
-- the other elements, and gives Q and a number below `last` for each
pub rising_more : {A B : Type 0} (P Q : ℕ → ℕ → A → B → Type 0) (low k last place : ℕ) (xs : List A) (ys : List B) (x : A) (y : B) → (is_place : place ≡ k + length xs) → (same : length ys ≡ length xs)
    → (from : low ≤ last)
    → (step : (n j : ℕ) (a : A) (b : B) → j < k + length xs → P n j a b → (n < last) × Q n j a b)
    → AllRisingAt P low k xs ys → (one : Q last place x y) → AllRisingAt Q low k (xs ++ x ∷ []) (ys ++ y ∷ [])
rising_more P Q low k last place [] [] x y is same from step p one = let here : place ≡ k = omega (arith, is) in (last, from, subst (λ (i : ℕ). Q last i x y) here one, tt)
rising_more P Q low k last place [] (b ∷ ys) x y is same from step p one = absurd (omega (arith, same))
rising_more P Q low k last place (a ∷ xs) [] x y is same from step p one = absurd p
rising_more P Q low k last place (a ∷ xs) (b ∷ ys) x y is same from step p one =
    let next : place ≡ suc k + length xs = omega (arith, is) in
    let fewer : length ys ≡ length xs = omega (arith, same) in
    let here = step p.0 k a b (omega arith) p.2 in
    let above : suc p.0 ≤ last = omega (arith, here.0) in
    (p.0, p.1, here.1, rising_more P Q (suc p.0) (suc k) last place xs ys x y next fewer above (λ n j c d below. step n j c d (omega (arith, below))) p.3 one)

-- P holds of an element at this place, with the one beside it and a number, which is at least `low`
pub record RisingAt {A B : Type 0} (P : ℕ → ℕ → A → B → Type 0) (low place : ℕ) : Type 0 where
  pub number : ℕ
  pub least : low ≤ number
  pub one : A
  pub beside : B
  pub holds : P number place one beside

-- where `AllRisingAt` holds, `RisingAt` holds of each place within the list
pub rising_at : {A B : Type 0} (P : ℕ → ℕ → A → B → Type 0) (low k j place : ℕ) (xs : List A) (ys : List B) → place ≡ k + j → j < length xs → AllRisingAt P low k xs ys → RisingAt P low place
rising_at P low k j place [] ys is below p = absurd (omega (arith, below))
rising_at P low k j place (x ∷ xs) [] is below p = absurd p
rising_at P low k zero place (x ∷ xs) (y ∷ ys) is below p = let here : k ≡ place = omega (arith, is) in
    record { number = p.0; least = p.1; one = x; beside = y; holds = subst (λ (i : ℕ). P p.0 i x y) here p.2 }
rising_at P low k (suc j) place (x ∷ xs) (y ∷ ys) is below p =
    let next : place ≡ suc k + j = omega (arith, is) in
    let low_next : j < length xs = omega (arith, below) in
    let found = rising_at P (suc p.0) (suc k) j place xs ys next low_next p.3 in
    let from : low ≤ found.number = omega (arith, p.1, found.least) in
    record { number = found.number; least = from; one = found.one; beside = found.beside; holds = found.holds }

-- `AllRisingAt` gives `AllAt` of a property that follows from it, for the elements mapped by f
pub rising_all : {A B C : Type 0} (P : ℕ → ℕ → A → B → Type 0) (Q : ℕ → C → B → Type 0) (f : A → C) (low k : ℕ) (xs : List A) (ys : List B)
    → ((n j : ℕ) (x : A) (y : B) → P n j x y → Q j (f x) y) → AllRisingAt P low k xs ys → AllAt Q k (map f xs) ys
rising_all P Q f low k [] ys step p = tt
rising_all P Q f low k (x ∷ xs) [] step p = tt
rising_all P Q f low k (x ∷ xs) (y ∷ ys) step p = (step p.0 k x y p.2, rising_all P Q f (suc p.0) (suc k) xs ys step p.3)

-- Lists cut at an element.

-- of two fronts of the same list, one is a front of the other
pub one_front_begins_other : {A : Type 0} (xs ys fs gs : List A) → xs ++ ys ≡ fs ++ gs → ((more : List A) × (fs ≡ xs ++ more)) ⊎ ((more : List A) × (xs ≡ fs ++ more))
one_front_begins_other [] ys fs gs e = inl (fs, refl)
one_front_begins_other (x ∷ xs) ys [] gs e = inr (x ∷ xs, refl)
one_front_begins_other (x ∷ xs) ys (f ∷ fs) gs e =
    let head : x ≡ f = cons_head x f (xs ++ ys) (fs ++ gs) e in
    elim (one_front_begins_other xs ys fs gs (cons_tail x f (xs ++ ys) (fs ++ gs) e)) [
      | inl h ↦ inl (h.0, ap (λ y. y ∷ fs) (sym head) ∙ ap (λ l. x ∷ l) h.1)
      | inr h ↦ inr (h.0, ap (λ y. y ∷ xs) head ∙ ap (λ l. f ∷ l) h.1)
    ]

-- of two cuts of a list, one after `front` at x and one after `longer` at y, the second lies after the first: `between` lies
-- between x and y
pub record CutsOn {A : Type 0} (front behind longer : List A) (x y : A) (tail : List A) : Type 0 where
  pub between : List A
  pub goes_on : longer ≡ front ++ x ∷ between
  pub splits : behind ≡ between ++ y ∷ tail

-- two cuts of one list, of which the first has the shorter front, are `CutsOn`
pub cuts_on : {A : Type 0} (front longer behind tail : List A) (x y : A) → front ++ x ∷ behind ≡ longer ++ y ∷ tail → length front < length longer → CutsOn front behind longer x y tail
cuts_on [] [] behind tail x y e low = absurd (omega (arith, low))
cuts_on [] (b ∷ longer) behind tail x y e low = let head : x ≡ b = cc in let others : behind ≡ longer ++ y ∷ tail = cc in
    record { between = longer; goes_on = ap (λ z. z ∷ longer) (sym head); splits = others }
cuts_on (a ∷ front) [] behind tail x y e low = absurd (omega (arith, low))
cuts_on (a ∷ front) (b ∷ longer) behind tail x y e low =
    let head : a ≡ b = cc in
    let others : front ++ x ∷ behind ≡ longer ++ y ∷ tail = cc in
    let fewer : length front < length longer = omega (arith, low) in
    let on = cuts_on front longer behind tail x y others fewer in
    record { between = on.between; goes_on = ap (λ z. z ∷ longer) (sym head) ∙ ap (λ zs. a ∷ zs) on.goes_on; splits = on.splits }

-- a list with one more element at its end is cut at that one, or before it
pub data CutOf {A : Type 0} (xs : List A) (last : A) (front behind : List A) (x : A) : Type 0 where
  AtEnd : (same : xs ≡ front) → CutOf xs last front behind x
  Before : (between : List A) → (at : xs ≡ front ++ x ∷ between) → (tail : behind ≡ between ++ last ∷ []) → CutOf xs last front behind x

-- a cut of a list with a last element is at that element, or before it
pub cut_at_end_or_before : {A : Type 0} (xs front behind : List A) (last x : A) → xs ++ last ∷ [] ≡ front ++ x ∷ behind → CutOf xs last front behind x
cut_at_end_or_before [] [] behind last x e = AtEnd refl
cut_at_end_or_before [] (b ∷ []) behind last x e = cc
cut_at_end_or_before [] (b ∷ c ∷ front) behind last x e = cc
cut_at_end_or_before (a ∷ xs) [] behind last x e = let head : a ≡ x = cc in let others : xs ++ last ∷ [] ≡ behind = cc in Before xs (ap (λ z. z ∷ xs) head) (sym others)
cut_at_end_or_before (a ∷ xs) (b ∷ front) behind last x e = on (cut_at_end_or_before xs front behind last x others) where
  -- equal lists have the same first element
  head : a ≡ b
  head = cc

  -- equal lists are equal after their first elements
  others : xs ++ last ∷ [] ≡ front ++ x ∷ behind
  others = cc

  -- the lemma above with one more element at the front of both lists
  on : CutOf xs last front behind x → CutOf (a ∷ xs) last (b ∷ front) behind x
  on (AtEnd same) = AtEnd (ap (λ z. z ∷ xs) head ∙ ap (λ zs. b ∷ zs) same)
  on (Before between at tail) = Before between (ap (λ z. z ∷ xs) head ∙ ap (λ zs. b ∷ zs) at) tail
