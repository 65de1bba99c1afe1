-- Whole numbers that are read digit by digit. The number that is counted is cut off at a cap: it is `min cap` of the number
-- itself.
use Rattle.gc_values.proofs.Common.{◌≡◌, ℕ, ◌+◌, ◌-◌, ◌*◌, ◌<◌, ◌≤◌, min, Bool, true, false, cond, ℤ, List, length, get_or, take, refl, sym, ap, ◌∙◌, subst, inl, inr, arith, ints, CutsSign, IsDigit, AreDigits, number, signed, is_minus, NamesNumber, IsNumberFault, NamesWhole, IsBetween, IsWholeFault, ValueFault}
use Rattle.gc_values.proofs.Every.{every_at, every_more}
use Rattle.gc_values.proofs.Kept.{number-take_more}
use Rattle.gc_values.proofs.Unique.{sign_once, digits_no_sign}

-- the first i bytes are digits, and the value is the number that they write, at most the cap
pub record CountedSoFar (text : List ℕ) (i cap value : ℕ) : Type 0 where
  pub digits : AreDigits (take i text)
  pub value_is : value ≡ min cap (number (take i text))

-- if a number was cut at the cap, appending a digit and cutting again gives the longer number, cut at the cap
capped_step : (n d cap value more whole : ℕ) → value ≡ min cap n → whole ≡ n * 10 + d → more ≡ min (value * 10 + d) cap → more ≡ min cap whole
capped_step n d cap value more whole e f g = omega arith

-- `CountedSoFar` is true of one digit more, once it was appended and the value cut at the cap
pub counted_more : (text : List ℕ) (i cap value more : ℕ) → CountedSoFar text i cap value → i < length text → IsDigit (get_or text i 0)
    → more ≡ min (value * 10 + (get_or text i 0 - 48)) cap → CountedSoFar text (i + 1) cap more
counted_more text i cap value more c within here e = record {
  digits = every_more IsDigit text i 0 within c.digits here;
  value_is = capped_step (number (take i text)) (get_or text i 0 - 48) cap value more (number (take (i + 1) text)) c.value_is (number-take_more text i within) e;
}

-- a text with a byte that is no digit writes no number
pub not_number : (text : List ℕ) (i n : ℕ) → i < length text → (IsDigit (get_or text i 0) → ⊥) → NamesNumber text n → ⊥
not_number text i n within other names = other (every_at IsDigit text i 0 within names.digits)

-- a text writes at most one number
pub one_number : (text : List ℕ) (m n : ℕ) → NamesNumber text m → NamesNumber text n → m ≡ n
one_number text m n x y = x.value ∙ sym y.value

-- if a text is cut into a sign and a rest, and the rest writes the number n, the text writes n with that sign
pub text_names_from_rest : (text rest : List ℕ) (negative : Bool) (n : ℕ) → CutsSign text negative rest → NamesNumber rest n
    → NamesWhole text (signed negative n)
text_names_from_rest text rest negative n cut names = record {
  sign = cut.sign;
  digits = rest;
  n = n;
  text_is = cut.text_is;
  number_is = names;
  value = ap (λ b. signed b n) cut.negative_is;
}

-- if a text writes the whole number z and is cut into a sign and a rest, the rest writes a number n, and z is n with that sign
pub rest_names_from_text : (text rest : List ℕ) (negative : Bool) (z : ℤ) → CutsSign text negative rest → NamesWhole text z
    → (n : ℕ) × NamesNumber rest n × (z ≡ signed negative n)
rest_names_from_text text rest negative z cut w =
    let same = sign_once cut.sign w.sign rest w.digits cut.first (digits_no_sign w.digits w.number_is.digits) (sym cut.text_is ∙ w.text_is) in
    (w.n, subst (λ ds. NamesNumber ds w.n) (sym same.1) w.number_is, w.value ∙ ap (λ b. signed b w.n) (sym (cut.negative_is ∙ same.0)))

-- a whole number's text is cut into its sign and its digits
whole_cut : (text : List ℕ) (z : ℤ) (w : NamesWhole text z) → CutsSign text (is_minus w.sign) w.digits
whole_cut text z w = record { sign = w.sign; text_is = w.text_is; negative_is = refl; first = λ _. digits_no_sign w.digits w.number_is.digits }

-- a text writes at most one whole number
pub one_whole : (text : List ℕ) (y z : ℤ) → NamesWhole text y → NamesWhole text z → y ≡ z
one_whole text y z v w =
    let r = rest_names_from_text text v.digits (is_minus v.sign) z (whole_cut text y v) w in
    v.value ∙ ap (signed (is_minus v.sign)) (one_number v.digits v.n r.0 v.number_is r.1) ∙ sym r.2

-- if n with a sign is from -below to above, n is at most `below` with a minus, and else at most `above`
pub magnitude_within : (negative : Bool) (n below above : ℕ) → IsBetween below above (signed negative n) → n ≤ cond negative below above
magnitude_within false n below above h = let u = h.1 in omega (arith, ints, u)
magnitude_within true n below above h = let l = h.0 in omega (arith, ints, l)

-- a number n with a sign is out of range where n is above `most`, which is `below` with a minus, and else `above`
magnitude_beyond : (negative : Bool) (n most below above : ℕ) → most ≡ cond negative below above → most < n → IsBetween below above (signed negative n) → ⊥
magnitude_beyond negative n most below above e far between = let few = magnitude_within negative n below above between in omega (arith, e, few)

-- if a text is cut into a sign and a rest, and `most` is `below` with a minus, and else `above`, the rest's fault as a number
-- of at most `most` is the text's fault as a whole number
pub whole_fault : (text rest : List ℕ) (negative : Bool) (most below above : ℕ) (e : ValueFault) → CutsSign text negative rest
    → most ≡ cond negative below above → IsNumberFault most rest e → IsWholeFault below above text e
whole_fault text rest negative most below above e cut size (inl none) = inl (none.0, λ z w. let r = rest_names_from_text text rest negative z cut w in none.1 r.0 r.1)
whole_fault text rest negative most below above e cut size (inr far) =
    inr (far.0, (signed negative far.1.0, text_names_from_rest text rest negative far.1.0 cut far.1.1, magnitude_beyond negative far.1.0 most below above size far.1.2))
