-- Which words are percentages. A word is cut at its first point (byte 46) in one way, so that it is one percentage at most.
use Rattle.gc_rehearsal.proofs.Common.{◌≡◌, ℕ, ◌<◌, ◌+◌, ◌*◌, List, length, inl, inr, Option, None, Some, subst, arith, IsShare, IsParts, IsPlaces, AreThousandths, Cuts, IsNumber}
use Rattle.gc_texts.proofs.Cutting.{cut_once}
use Rattle.gc_texts.proofs.Procedures.{one_number}

-- where a word that is a percentage is cut at its first point (`Cuts`), what the cut gives are the parts of that percentage
-- (`IsParts`)
pub parts_of_share : (word whole : List ℕ) (places : Option (List ℕ)) (n : ℕ) → Cuts 46 word whole places → IsShare word n → IsParts whole places n
parts_of_share word whole places n cut is =
    let both = cut_once 46 word is.0 whole is.1 places is.2 cut in
    subst (λ w. IsParts w places n) both.0 (subst (λ p. IsParts is.0 p n) both.1 is.3)

-- where what is before a word's point, or all of a word without one (`whole`), is no number of at most 100, it and what follows
-- the point are no percentage (`IsParts`)
pub no_parts_without_whole : (whole : List ℕ) (places : Option (List ℕ)) (n : ℕ) → ((m : ℕ) → IsNumber whole m 100 → ⊥) → IsParts whole places n → ⊥
no_parts_without_whole whole None n none is = none is.0 is.1
no_parts_without_whole whole (Some places) n none is = none is.0 is.2

-- where what follows a word's point (`digits`) isn't one to three digits (`IsPlaces`), it and what is before the
-- point are no percentage (`IsParts`)
pub no_parts_without_places : (whole : List ℕ) (places : Option (List ℕ)) (digits : List ℕ) (n : ℕ)
    → places ≡ Some digits → ((m : ℕ) → IsPlaces digits m → ⊥) → IsParts whole places n → ⊥
no_parts_without_places whole places digits n cut none is =
    let parts : IsParts whole (Some digits) n = subst (λ p. IsParts whole p n) cut is in none parts.1 parts.3

-- how many digits there are, and the number that they write, determine the number of thousandths
one_count : (count m x y : ℕ) → AreThousandths count m x → AreThousandths count m y → x ≡ y
one_count count m x y (inl a) (inl b) = omega (arith, a.0, a.1, b.0, b.1)
one_count count m x y (inl a) (inr (inl b)) = omega (arith, a.0, b.0)
one_count count m x y (inl a) (inr (inr b)) = omega (arith, a.0, b.0)
one_count count m x y (inr (inl a)) (inl b) = omega (arith, a.0, b.0)
one_count count m x y (inr (inl a)) (inr (inl b)) = omega (arith, a.0, a.1, b.0, b.1)
one_count count m x y (inr (inl a)) (inr (inr b)) = omega (arith, a.0, b.0)
one_count count m x y (inr (inr a)) (inl b) = omega (arith, a.0, b.0)
one_count count m x y (inr (inr a)) (inr (inl b)) = omega (arith, a.0, b.0)
one_count count m x y (inr (inr a)) (inr (inr b)) = omega (arith, a.1, b.1)

-- the digits after a point determine the number of thousandths
one_places : (digits : List ℕ) (m n : ℕ) → IsPlaces digits m → IsPlaces digits n → m ≡ n
one_places digits m n x y =
    let same : x.0 ≡ y.0 = one_number digits x.0 y.0 999 x.1 y.1 in
    one_count (length digits) y.0 m n (subst (λ k. AreThousandths (length digits) k m) same x.2) y.2

-- where the number before a word's point and the thousandths after it are together more than 100 percent, they are no percentage
-- of at most 100 (`IsParts`)
pub no_parts_above_100 : (whole : List ℕ) (places : Option (List ℕ)) (digits : List ℕ) (w t n : ℕ)
    → (cut : places ≡ Some digits) → (number : IsNumber whole w 100)
    → (are : IsPlaces digits t) → (above : 100000 < w * 1000 + t) → (is : IsParts whole places n) → ⊥
no_parts_above_100 whole places digits w t n cut number are above is =
    let parts : IsParts whole (Some digits) n = subst (λ p. IsParts whole p n) cut is in
    let same : parts.0 ≡ w = one_number whole parts.0 w 100 parts.2 number in
    let also : parts.1 ≡ t = one_places digits parts.1 t parts.3 are in
    omega (arith, same, also, parts.4, parts.5, above)
