-- Decimals of the same digits and scale are equal: the facts that a decimal carries have one proof each.
use Rattle.gc_values.proofs.Common.{◌≡◌, ℕ, ◌≤◌, ℤ, ap, ◌∙◌, subst, IsCanonical, IsInRange, Decimal}
use Rattle.std.proofs.Props.{props}

-- the decimal of digits and a scale, with the proofs of its facts
abbrev decimal_with : (m : ℤ) (s : ℕ) → s ≤ 24 → IsInRange m s → IsCanonical m s → Decimal
decimal_with m s p r c = record { digits = m; scale = s; has_few_places = p; is_in_range = r; is_canonical = c }

-- two decimals that are made of one number as digits and one scale are equal, whatever the proofs of their facts are
same_proofs : (m : ℤ) (s : ℕ) (p p' : s ≤ 24) (r r' : IsInRange m s) (c c' : IsCanonical m s) → decimal_with m s p r c ≡ decimal_with m s p' r' c'
same_proofs m s p p' r r' c c' =
    let one_few : IsProp (s ≤ 24) = hlevel props in
    let one_in_range : IsProp (IsInRange m s) = hlevel props in
    let one_canonical : IsProp (IsCanonical m s) = hlevel props in
    ap (λ x. decimal_with m s x r c) (one_few p p') ∙ ap (λ x. decimal_with m s p' x c) (one_in_range r r') ∙ ap (decimal_with m s p' r') (one_canonical c c')

-- two decimals are equal if their digits and their scales are, whatever the proofs of their facts are
same_fields : (m : ℤ) (s : ℕ) (p : s ≤ 24) (r : IsInRange m s) (c : IsCanonical m s) (n : ℤ) (t : ℕ) → m ≡ n → s ≡ t
    → (p' : t ≤ 24) (r' : IsInRange n t) (c' : IsCanonical n t) → decimal_with m s p r c ≡ decimal_with n t p' r' c'
same_fields m s p r c n t e f =
    let P : ℤ → Type 0 = λ n. (p' : t ≤ 24) (r' : IsInRange n t) (c' : IsCanonical n t) → decimal_with m s p r c ≡ decimal_with n t p' r' c' in
    let Q : ℕ → Type 0 = λ t. (p' : t ≤ 24) (r' : IsInRange m t) (c' : IsCanonical m t) → decimal_with m s p r c ≡ decimal_with m t p' r' c' in
    subst P e (subst Q f (λ p' r' c'. same_proofs m s p p' r r' c c'))

-- decimals of equal digits and scale are equal
pub same_decimal : (a b : Decimal) → a.digits ≡ b.digits → a.scale ≡ b.scale → a ≡ b
same_decimal a b e f = same_fields a.digits a.scale a.has_few_places a.is_in_range a.is_canonical b.digits b.scale e f b.has_few_places b.is_in_range b.is_canonical
