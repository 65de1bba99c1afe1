-- The written texts of whole numbers and Booleans: how long they are, and that they read back.
use Rattle.gc_values.proofs.Common.{ℕ, suc, ◌+◌, ◌<◌, ◌≤◌, ◌^◌, Bool, true, false, eqb, ℤ, pos, negsuc, unsigned_abs, [], ◌∷◌, length, refl, arith, lit<, length-append, cond_both, ints, number_of, NamesBoolean, boolean_text, Absent, Minus, NamesWhole, IsBetween, FitsLong, FitsShort, signed_text, digits_text, whole_text, minus_text}
use Rattle.gc_values.proofs.WrittenLemmas.{length-digits_text}
use Rattle.gc_values.proofs.WrittenSpells.{writes_whole}

-- a number below 10^k, for k above 0, is written with at most k digits
pub length-whole_text : (n k : ℕ) → 0 < k → n < 10 ^ k → length (whole_text n) ≤ k
length-whole_text n k some small = cond_both (eqb n 0) (48 ∷ []) (digits_text n) (λ ds. length ds ≤ k) (λ _. some) (λ _. length-digits_text n k small)

-- a minus, or none, is at most one byte
pub length-minus_text : (z : ℤ) → length (minus_text z) ≤ 1
length-minus_text (pos n) = omega arith
length-minus_text (negsuc n) = omega arith

-- a number of magnitude below 10^k, for k above 0, is written with at most k + 1 bytes
pub length-signed_text : (z : ℤ) (k : ℕ) → 0 < k → unsigned_abs z < 10 ^ k → length (signed_text z) ≤ k + 1
length-signed_text z k some small = omega (arith, length-append (minus_text z) (whole_text (unsigned_abs z)), length-minus_text z, length-whole_text (unsigned_abs z) k some small)

-- a number from -below to above has a magnitude below n where both bounds are below n
abs_below : (z : ℤ) (below above n : ℕ) → IsBetween below above z → below < n → above < n → unsigned_abs z < n
abs_below (pos m) below above n h b a = let u = h.1 in omega (arith, ints, u)
abs_below (negsuc m) below above n h b a = let l = h.0 in omega (arith, ints, l)

-- a Long is written with at most 11 bytes
pub length-long : (z : ℤ) → FitsLong z → length (signed_text z) ≤ 11
length-long z h = length-signed_text z 10 (lit< tt) (abs_below z 2147483648 2147483647 (10 ^ 10) h (lit< tt) (lit< tt))

-- a Short is written with at most 6 bytes
pub length-short : (z : ℤ) → FitsShort z → length (signed_text z) ≤ 6
length-short z h = length-signed_text z 5 (lit< tt) (abs_below z 32768 32767 (10 ^ 5) h (lit< tt) (lit< tt))

-- a whole number's text writes the number
pub signed_reads : (z : ℤ) → NamesWhole (signed_text z) z
signed_reads (pos n) = record { sign = Absent; digits = whole_text n; n = n; text_is = refl; number_is = writes_whole n; value = refl }
signed_reads (negsuc n) = record { sign = Minus; digits = whole_text (suc n); n = suc n; text_is = refl; number_is = writes_whole (suc n); value = refl }

-- a truth value's number is 0 or 1
pub boolean_between : (b : Bool) → IsBetween 0 1 (pos (number_of b))
boolean_between false = (omega (arith, ints), omega (arith, ints))
boolean_between true = (omega (arith, ints), omega (arith, ints))

-- a Boolean's text reads as the Boolean
pub boolean_reads : (b : Bool) → NamesBoolean (boolean_text b) b
boolean_reads false = signed_reads (pos 0)
boolean_reads true = signed_reads (pos 1)
