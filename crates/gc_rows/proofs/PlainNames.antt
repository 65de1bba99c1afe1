-- Plain names: a test that shows that a name or a word appears unchanged in a string of JSON.
use Rattle.gc_rows.proofs.Common.{◌≡◌, ◌≢◌, ◌≤◌, ◌==◌, ◌++◌, ◌∷◌, [], ℕ, List, Bool, true, refl, arith, codes, nat_lt, not, ◌&&◌, and_parts, eqb-false, ltb-true, not-true, all_append, IsPlainName, IsOfBytes}

-- whether a byte may occur in a plain name: printable ASCII other than the double quote and the backslash
abbrev pub is_plain_name_byte : ℕ → Bool
is_plain_name_byte b = (nat_lt 31 b && nat_lt b 127) && (not (b == 34) && not (b == 92))

-- whether each byte of a name may occur in a plain name
abbrev pub is_plain_name : List ℕ → Bool
is_plain_name [] = true
is_plain_name (b ∷ bs) = is_plain_name_byte b && is_plain_name bs

-- a name that passes the test `is_plain_name` is plain
pub plain_name : (name : List ℕ) → is_plain_name name ≡ true → IsPlainName name
plain_name [] e = tt
plain_name (b ∷ bs) e =
    let one = (and_parts (is_plain_name_byte b) (is_plain_name bs) e).0 in
    let shown = (and_parts (nat_lt 31 b && nat_lt b 127) (not (b == 34) && not (b == 92)) one).0 in
    let marks = (and_parts (nat_lt 31 b && nat_lt b 127) (not (b == 34) && not (b == 92)) one).1 in
    let above = ltb-true 31 b (and_parts (nat_lt 31 b) (nat_lt b 127) shown).0 in (
      (
        omega (arith, above),
        (
          eqb-false b 34 (not-true (b == 34) (and_parts (not (b == 34)) (not (b == 92)) marks).0),
          eqb-false b 92 (not-true (b == 92) (and_parts (not (b == 34)) (not (b == 92)) marks).1),
        ),
      ),
      plain_name bs (and_parts (is_plain_name_byte b) (is_plain_name bs) e).1,
    )

-- a name that passes the test `is_plain_name` is of bytes
pub plain_bytes : (name : List ℕ) → is_plain_name name ≡ true → IsOfBytes name
plain_bytes [] e = tt
plain_bytes (b ∷ bs) e =
    let one = (and_parts (is_plain_name_byte b) (is_plain_name bs) e).0 in
    let shown = (and_parts (nat_lt 31 b && nat_lt b 127) (not (b == 34) && not (b == 92)) one).0 in
    let below = ltb-true b 127 (and_parts (nat_lt 31 b) (nat_lt b 127) shown).1 in
    (omega (arith, below), plain_bytes bs (and_parts (is_plain_name_byte b) (is_plain_name bs) e).1)

-- whether each of these names passes the test `is_plain_name`
abbrev pub are_plain_names : List (List ℕ) → Bool
are_plain_names [] = true
are_plain_names (name ∷ names) = is_plain_name name && are_plain_names names

-- a plain name with `_text` after it is plain
pub text_name_plain : (name : List ℕ) → IsPlainName name → IsPlainName (name ++ codes "_text")
text_name_plain name is = all_append (λ b. (32 ≤ b) × ((b ≢ 34) × (b ≢ 92))) name (codes "_text") is (plain_name (codes "_text") refl)
