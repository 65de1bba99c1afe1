-- Items, as texts of values, that stand in a text: at a place, which is an offset and a length in bytes.
use Rattle.geocom_c.proofs.Common.{◌≡◌, ℕ, zero, suc, ◌+◌, ◌≤◌, List, [], ◌∷◌, ◌++◌, length, take, drop, refl, ap, ◌∙◌, arith, length-append, drop_at, take_all, take-append-le, StandsAt, GeocomItem}

-- the k bytes from place n on, if they are within t, are the same once u is appended
take_drop_front : (n k : ℕ) (t u : List ℕ) → n + k ≤ length t → take k (drop n (t ++ u)) ≡ take k (drop n t)
take_drop_front zero k t u fits = take-append-le k t u (omega (arith, fits))
take_drop_front (suc n) k [] u fits = absurd (omega (arith, fits))
take_drop_front (suc n) k (x ∷ t) u fits = take_drop_front n k t u (omega (arith, fits))

-- an item that is appended to a text stands at the place where that text ended
pub stands_here : (text item : List ℕ) (place : GeocomItem) → place.offset ≡ length text → place.length ≡ length item → StandsAt (text ++ item) place item
stands_here text item place o n =
    record {
      within = omega (arith, o, n, length-append text item);
      stands = ap (λ m. take place.length (drop m (text ++ item))) o ∙ ap (take place.length) (drop_at text item (length text) refl) ∙ take_all place.length item (omega (arith, n));
    }

-- an item that stands in a text still does once more is appended
pub stands_more : (text more : List ℕ) (place : GeocomItem) (item : List ℕ) → StandsAt text place item → StandsAt (text ++ more) place item
stands_more text more place item is =
    record {
      within = omega (arith, is.within, length-append text more);
      stands = take_drop_front place.offset place.length text more is.within ∙ is.stands;
    }
