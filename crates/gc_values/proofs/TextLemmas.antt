-- Strings between double quotes, and the bytes that a text keeps of one: 64 in all, the unused ones zero.
use Rattle.gc_values.proofs.Common.{◌≡◌, ℕ, ◌-◌, ◌≤◌, List, [], ◌∷◌, ◌++◌, length, take, drop, replicate, sym, ap, ◌∙◌, subst, arith, length-append, append_cancel_right, length-replicate, take-append_seam, drop-append_seam, AreStringBytes, quoted, IsString}
use Rattle.gc_values.specs.Padding.{IsZeroPadded}
use Rattle.gc_values.specs.declared.text.Text.TheInside.{Inside}

-- two lists of bytes that are equal between double quotes are equal
pub one_quoted : (xs ys : List ℕ) → quoted xs ≡ quoted ys → xs ≡ ys
one_quoted xs ys e = let t : xs ++ 34 ∷ [] ≡ ys ++ 34 ∷ [] = cc in append_cancel_right xs ys (34 ∷ []) t

-- an item is a string of at most one list of bytes
pub one_string : (item xs ys : List ℕ) → IsString item xs → IsString item ys → xs ≡ ys
one_string item xs ys x y = one_quoted xs ys (sym x.item_is ∙ y.item_is)

-- at most 64 bytes of a string, with zeros after them up to 64, are padded as `IsZeroPadded` has it
pub filled_is_zero_padded : (bytes all : List ℕ) → all ≡ bytes ++ replicate (64 - length bytes) 0 → length bytes ≤ 64 → AreStringBytes bytes
    → (let t : Inside = record { bytes = all; len = length bytes } in IsZeroPadded t)
filled_is_zero_padded bytes all e few plain =
    let front : take (length bytes) all ≡ bytes = ap (take (length bytes)) e ∙ take-append_seam bytes (replicate (64 - length bytes) 0) in
    record {
      few = few;
      zeros = ap (drop (length bytes)) e ∙ drop-append_seam bytes (replicate (64 - length bytes) 0);
      long = ap length e ∙ omega (arith, length-append bytes (replicate (64 - length bytes) 0), length-replicate {A = ℕ} (64 - length bytes) 0);
      plain = subst AreStringBytes (sym front) plain;
    }
