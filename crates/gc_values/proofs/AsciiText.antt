-- A written decimal is ASCII, and so it is UTF-8.
use Rattle.gc_values.proofs.Common.{ℕ, ◌/◌, ◌%◌, ◌^◌, ◌<◌, ℤ, pos, negsuc, unsigned_abs, List, [], ◌∷◌, ◌++◌, arith, lit<, All-weaker, All-from_recursion, IsDigit, AreDigits, minus_text, whole_text, places_text, written}
use Rattle.std.specs.Str.{IsAscii, IsUtf8}
use Rattle.std.proofs.lemmas.Str.{IsAscii-append, IsUtf8-from_ascii}
use Rattle.std.proofs.lemmas.Str.Ascii.{IsAscii-nil, IsAscii-cons, IsAscii-from_all}
use Rattle.gc_values.proofs.WrittenSpells.{writes_whole, is_fraction_text}

-- digits are ASCII
ascii_digits : (ds : List ℕ) → AreDigits ds → IsAscii ds
ascii_digits ds h = IsAscii-from_all ds (All-weaker IsDigit (λ b. b < 128) (λ d digit. let top = digit.1 in omega (arith, top)) ds (All-from_recursion IsDigit ds h))

-- a minus, or none, is ASCII
ascii_minus : (z : ℤ) → IsAscii (minus_text z)
ascii_minus (pos n) = IsAscii-nil
ascii_minus (negsuc n) = IsAscii-cons 45 [] (lit< tt) IsAscii-nil

-- a written decimal is UTF-8
pub utf8_written : (m : ℤ) (s : ℕ) → IsUtf8 (written m s)
utf8_written m s =
    let n = unsigned_abs m in
    IsUtf8-from_ascii (written m s)
    (IsAscii-append (minus_text m) (whole_text (n / 10 ^ s) ++ (46 ∷ places_text s (n % 10 ^ s))) (ascii_minus m)
    (IsAscii-append (whole_text (n / 10 ^ s)) (46 ∷ places_text s (n % 10 ^ s)) (ascii_digits (whole_text (n / 10 ^ s)) (writes_whole (n / 10 ^ s)).digits)
    (IsAscii-cons 46 (places_text s (n % 10 ^ s)) (lit< tt) (ascii_digits (places_text s (n % 10 ^ s)) (is_fraction_text n s).digits))))
