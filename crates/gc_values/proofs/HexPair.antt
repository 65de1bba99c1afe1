-- A byte from two hexadecimal digits: what `hex_byte` returns, by what the library's decoding returns.
use Rattle.gc_values.proofs.Common.{◌≡◌, ℕ, ◌+◌, ◌*◌, List, [], ◌∷◌, Option, Some, None, Result, Ok, refl, sym, ap, ◌∙◌, MatchResult, IsSomeAnd, hex_digit_value, digit_or_error, decode_sized, ◌>>=◌, IsByte}
use Rattle.hex.specs.Hex.{decode_pairs}
use Rattle.hex.specs.declared.error.FromHexError.{FromHexError}

-- what decoding the bytes a and b as two hexadecimal digits returns, where x and y are their values (`None`: no such digit)
abbrev pub decoded_pair : (a b : ℕ) (x y : Option ℕ) → Result (List ℕ) FromHexError
decoded_pair a b x y = (digit_or_error a 0 x >>= λ h. digit_or_error b 1 y >>= λ l. Ok (h * 16 + l)) >>= λ byte. Ok [] >>= λ bytes. Ok (byte ∷ bytes)

-- decoding the bytes a and b returns what `decoded_pair` has for their values
pub decode_sized-pair : (a b : ℕ) → decode_sized (a ∷ b ∷ []) 1 ≡ decoded_pair a b (hex_digit_value a) (hex_digit_value b)
unfolding decode_pairs
decode_sized-pair a b = refl

-- the contract of `hex_byte`: r is the byte that a and b write, or `None` where they aren't two hexadecimal digits
abbrev pub IsResultOfHexByte : (a b : ℕ) → (r : Option ℕ) → Type 0
IsResultOfHexByte a b r = MatchResult (decode_sized (a ∷ b ∷ []) 1) (λ bytes. IsSomeAnd r (λ n. bytes ≡ n ∷ [])) (λ _. r ≡ None)

-- if decoding a and b gave the byte n, both are digits, and n is made of their values h and l
decoded_digits : (a b n : ℕ) (x y : Option ℕ) → hex_digit_value a ≡ x → hex_digit_value b ≡ y
    → MatchResult (decoded_pair a b x y) (λ bytes. bytes ≡ n ∷ []) (λ _. Some n ≡ None)
    → (h : ℕ) × (l : ℕ) × (hex_digit_value a ≡ Some h) × (hex_digit_value b ≡ Some l) × (n ≡ h * 16 + l)
decoded_digits a b n (Some h) (Some l) p q m = (h, l, p, q, let e : n ≡ h * 16 + l = cc in e)
decoded_digits a b n (Some h) None p q m = absurd (cc)
decoded_digits a b n None y p q m = absurd (cc)

-- if `hex_byte` returned n for a and b, these two between single quotes are the byte parameter n
pub byte_found : (text : List ℕ) (a b n : ℕ) → text ≡ 39 ∷ a ∷ b ∷ 39 ∷ [] → IsResultOfHexByte a b (Some n) → IsByte text n
byte_found text a b n e m =
    let r = decoded_digits a b n (hex_digit_value a) (hex_digit_value b) refl refl (rw decode_sized-pair at m) in
    record { a = a; b = b; high = r.0; low = r.1; text_is = e; high_is = r.2; low_is = r.3; value = r.4 }

-- if both bytes have values as hexadecimal digits, `None` isn't what `hex_byte` returns for them
digits_decode : (a b : ℕ) (x y : Option ℕ) (h l : ℕ) → x ≡ Some h → y ≡ Some l
    → MatchResult (decoded_pair a b x y) (λ bytes. IsSomeAnd {T = ℕ} None (λ n. bytes ≡ n ∷ [])) (λ _. ◌≡◌ {A = Option ℕ} None None) → ⊥
digits_decode a b (Some x) (Some y) h l p q m = m
digits_decode a b (Some x) None h l p q m = cc
digits_decode a b None y h l p q m = cc

-- if `hex_byte` returned `None` for a and b, these two between single quotes are no byte parameter
pub no_byte : (text : List ℕ) (a b : ℕ) → text ≡ 39 ∷ a ∷ b ∷ 39 ∷ [] → IsResultOfHexByte a b None → (n : ℕ) → IsByte text n → ⊥
no_byte text a b e m n is =
    let first : is.a ≡ a = let t = is.text_is in cc in
    let second : is.b ≡ b = let t = is.text_is in cc in
    digits_decode a b (hex_digit_value a) (hex_digit_value b) is.high is.low (ap hex_digit_value (sym first) ∙ is.high_is) (ap hex_digit_value (sym second) ∙ is.low_is) (rw decode_sized-pair at m)
