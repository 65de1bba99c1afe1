-- What a few digits are worth. The run is the longest row of digits at the front of some bytes.
use Rattle.gc_lines.proofs.Common.{◌≡◌, ℕ, ◌+◌, ◌-◌, ◌*◌, ◌/◌, ◌%◌, ◌^◌, ◌<◌, ◌≤◌, List, [], ◌∷◌, ◌++◌, true, false, cond, length, take, get_or, drop, slice_set, arith, refl, ap, ◌∙◌, sym, subst, inl, inr, lit<, append_assoc, add-one, Ok, Err, ◌⊎◌, length-drop, decimal, decimal_step, decimal_digit, length-set, drop-set, take-append-drop, length-take-le, take_all, length-take, nil_from_length, drop_more, cases_lt, lt-ltb, le-ltb, LineFault, digits_value, AllDigits, prefix_len, one-add, nat_tests, IsNumeralModel, numerals_by_value, tells_digits, digits_value_short, digit_from_value, NoDigitFirst, digits_len, number_at}
use Rattle.std.proofs.Math.Nat.{pow-suc, div-lt_iff_lt-mul}
use Rattle.std.specs.Char.{is_ascii_digit, digit_value}
use Rattle.std.proofs.lemmas.Int.Digits.{digits_value_more, digits_more}
use Rattle.std.proofs.lemmas.Str.{digit_value_digit}
use Rattle.std.proofs.lemmas.List.Folds.{length-prefix_len}

-- texts of digits, with their values, are numerals of base 10 as the library's lemmas on numerals take them
pub digits_are_numerals : IsNumeralModel (AllDigits 10) (digits_value 10)
digits_are_numerals = numerals_by_value _ tells_digits

-- an ASCII digit is a byte from 48 to 57
pub digit_range : (b : ℕ) → is_ascii_digit b ≡ true → (48 ≤ b) × (b ≤ 57)
digit_range b e = grind (arith, nat_tests)

-- an ASCII digit is worth less than ten
digit_value_below_ten : (b : ℕ) → is_ascii_digit b ≡ true → digit_value b < 10
digit_value_below_ten b e = let r = digit_range b e in omega (arith, digit_value_digit b r)

-- the digits at the front that `prefix_len` counts are digits, as `AllDigits` has it
prefix_digits : (bs : List ℕ) → AllDigits 10 (take (prefix_len is_ascii_digit bs) bs)
prefix_digits [] = tt
prefix_digits (b ∷ bs) = elim (is_ascii_digit b) as (λ v. is_ascii_digit b ≡ v → AllDigits 10 (take (cond v (1 + prefix_len is_ascii_digit bs) 0) (b ∷ bs))) [
  | true ↦ λ e. rw (one-add (prefix_len is_ascii_digit bs)) (digit_value_below_ten b e, prefix_digits bs)
  | false ↦ λ e. tt
] refl

-- `digits_len` and `prefix_len` count as many digits at the front
pub same_run : (bs : List ℕ) → digits_len bs ≡ prefix_len is_ascii_digit bs
same_run bs = length-prefix_len is_ascii_digit bs

-- the first `digits_len bs` bytes of bs are digits
pub run_digits : (bs : List ℕ) → AllDigits 10 (take (digits_len bs) bs)
run_digits bs = subst (λ (n : ℕ). AllDigits 10 (take n bs)) (sym (same_run bs)) (prefix_digits bs)

-- what follows the digits at the front of bs that `prefix_len` counts doesn't begin with a digit
prefix_stops : (bs : List ℕ) → NoDigitFirst (drop (prefix_len is_ascii_digit bs) bs)
prefix_stops [] = tt
prefix_stops (b ∷ bs) = elim (is_ascii_digit b) as (λ v. is_ascii_digit b ≡ v → NoDigitFirst (drop (cond v (1 + prefix_len is_ascii_digit bs) 0) (b ∷ bs))) [
  | true ↦ λ e. rw (one-add (prefix_len is_ascii_digit bs)) (prefix_stops bs)
  | false ↦ λ e. e
] refl

-- what follows the first `digits_len bs` bytes of bs doesn't begin with a digit
pub run_stops : (bs : List ℕ) → NoDigitFirst (drop (digits_len bs) bs)
run_stops bs = subst (λ (n : ℕ). NoDigitFirst (drop n bs)) (sym (same_run bs)) (prefix_stops bs)

-- `prefix_len` counts no digit at the front of bytes that don't begin with a digit
no_run : (rest : List ℕ) → NoDigitFirst rest → prefix_len is_ascii_digit rest ≡ 0
no_run [] h = refl
no_run (b ∷ bs) h = rw h refl

-- a byte that is worth less than ten is an ASCII digit
below_ten_is_digit : (c : ℕ) → digit_value c < 10 → is_ascii_digit c ≡ true
below_ten_is_digit c h = let r = digit_from_value c h in grind (arith, nat_tests)

-- if `text` is digits, `prefix_len` counts as many digits at the front of `text ++ rest` as `text` has, and those at the front
-- of `rest`
prefix_run : (text rest : List ℕ) → AllDigits 10 text → prefix_len is_ascii_digit (text ++ rest) ≡ length text + prefix_len is_ascii_digit rest
prefix_run [] rest a = omega arith
prefix_run (c ∷ cs) rest a = rw (below_ten_is_digit c a.0) (omega (arith, prefix_run cs rest a.1))

-- if `text` is digits, and `rest` doesn't begin with a digit, the run of `text ++ rest` is as long as `text`
pub run_length : (text rest : List ℕ) → AllDigits 10 text → NoDigitFirst rest → digits_len (text ++ rest) ≡ length text
run_length text rest a h = omega (arith, same_run (text ++ rest), prefix_run text rest a, no_run rest h)

-- if the run of b and then bs has length 1, b is from 48 to 57, and bs doesn't begin with a digit
pub run_of_length_one : (b : ℕ) (bs : List ℕ) → digits_len (b ∷ bs) ≡ 1 → (48 ≤ b) × (b ≤ 57) × NoDigitFirst bs
run_of_length_one b bs e = elim (is_ascii_digit b) as (λ v. is_ascii_digit b ≡ v → cond v (1 + prefix_len is_ascii_digit bs) 0 ≡ 1 → (48 ≤ b) × (b ≤ 57) × NoDigitFirst bs) [
  | true ↦ λ t h. let r = digit_range b t in let none : prefix_len is_ascii_digit bs ≡ 0 = omega arith in (r.0, r.1, subst (λ (n : ℕ). NoDigitFirst (drop n bs)) none (prefix_stops bs))
  | false ↦ λ _ h. absurd (omega arith)
] refl (sym (same_run (b ∷ bs)) ∙ e)

-- if i is below ten, and `rest` doesn't begin with a digit, the digit of i and then `rest` have a run of length 1
pub run_of_digit : (i : ℕ) (rest : List ℕ) → i < 10 → NoDigitFirst rest → digits_len ((48 + i) ∷ rest) ≡ 1
run_of_digit i rest h stop = same_run ((48 + i) ∷ rest) ∙ rw (digit_of i h, no_run rest stop) refl where
  -- 48 plus a number below ten is an ASCII digit
  digit_of : (i : ℕ) → i < 10 → is_ascii_digit (48 + i) ≡ true
  digit_of i h = grind (arith, nat_tests)

-- writing a number's digits into five places, from the last one on

-- a number from ten on doesn't fit into one place: it isn't below 10^1
not_in_one_place : (left : ℕ) → left < 10 ^ (0 + 1) → 10 ≤ left → ⊥
not_in_one_place left below more = omega arith

-- if a number from ten on fits into the places through `at`, these are more than place 0
not_first_place : (at left : ℕ) → left < 10 ^ (at + 1) → 10 ≤ left → 0 < at
not_first_place at left below more = elim (cases_lt 0 at) [
  | inl some ↦ some
  | inr none ↦ let zero : at ≡ 0 = omega arith in absurd (not_in_one_place left (subst (λ (n : ℕ). left < 10 ^ (n + 1)) zero below) more)
]

-- `digits` has five places, of which those after `at` are written: the digits of `left`, which aren't written yet, and then the
-- written ones are the digits of n
pub record AreWrittenAfter (digits : List ℕ) (at left n : ℕ) : Type 0 where
  pub room : at ≤ 4
  pub size : length digits ≡ 5
  pub text : decimal left ++ drop (at + 1) digits ≡ decimal n

-- a step of `push_digits`: if `AreWrittenAfter` is true of `left`, a number of 16 bits from ten on that fits into the places
-- through `at`, then with its last digit written at place `at` it is true of `left / 10` and the place before, and `left / 10`
-- fits into the places through that one
pub digit_written : (digits : List ℕ) (at left n : ℕ) → AreWrittenAfter digits at left n → left < 10 ^ (at + 1) → left < 2 ^ 16 → 10 ≤ left
    → (left / 10 < 10 ^ (at - 1 + 1)) × AreWrittenAfter (slice_set digits at (48 + left % 10)) (at - 1) (left / 10) n
digit_written digits at left n so below range more =
    let room : at ≤ 4 = so.room in
    let size : length digits ≡ 5 = so.size in
    let some : 0 < at = not_first_place at left below more in
    let same : at - 1 + 1 ≡ at = omega arith in (
      subst (λ (m : ℕ). left / 10 < 10 ^ m) (sym same) ((div-lt_iff_lt-mul (lit< tt)).1 (subst (λ (m : ℕ). left < m) (pow-suc 10 at) (subst (λ (m : ℕ). left < 10 ^ m) (add-one at) below))),
      record {
        room = omega (arith, room);
        size = length-set digits at (48 + left % 10) ∙ size;
        text = rw (same, drop-set digits at (48 + left % 10) (omega (arith, size)))
            (sym (append_assoc (decimal (left / 10)) ((48 + left % 10) ∷ []) (drop (at + 1) digits)) ∙ ap (λ ds. ds ++ drop (at + 1) digits) (sym (decimal_step left more (omega arith))) ∙ so.text);
      },
    )

-- the last step of `push_digits`: if `AreWrittenAfter` is true of `left`, which is below ten, then with that digit written at
-- place `at` the digits from there on are those of n
pub last_digit_written : (digits : List ℕ) (at left n : ℕ) → AreWrittenAfter digits at left n → left < 10
    → take (5 - at) (drop at (slice_set digits at (48 + left))) ≡ decimal n
last_digit_written digits at left n so small =
    let room : at ≤ 4 = so.room in
    let size : length digits ≡ 5 = so.size in
    take_all (5 - at) (drop at (slice_set digits at (48 + left))) (omega (arith, length-drop at (slice_set digits at (48 + left)), length-set digits at (48 + left), size))
    ∙ drop-set digits at (48 + left) (omega (arith, size)) ∙ ap (λ ds. ds ++ drop (at + 1) digits) (sym (decimal_digit left small)) ∙ so.text

-- reading a run digit by digit

-- if the first i bytes are digits, and so is the next one, the first i + 1 bytes are digits
pub run_more : (bytes : List ℕ) (i : ℕ) → i < length bytes → AllDigits 10 (take i bytes) → is_ascii_digit (get_or bytes i 0) ≡ true
    → AllDigits 10 (take (i + 1) bytes)
run_more bytes i within all digit = digits_more 10 bytes i within all (digit_value_below_ten (get_or bytes i 0) digit)

-- if the byte at place i is a digit, the value of the first i + 1 bytes is ten times that of the first i, plus the digit's
pub value_next : (bytes : List ℕ) (i : ℕ) → i < length bytes → is_ascii_digit (get_or bytes i 0) ≡ true
    → digits_value 10 (take (i + 1) bytes) ≡ digits_value 10 (take i bytes) * 10 + (get_or bytes i 0 - 48)
value_next bytes i within digit = let r = digit_range (get_or bytes i 0) digit in omega (arith, r, digits_value_more 10 bytes i within, digit_value_digit (get_or bytes i 0) r)

-- if the first i bytes are digits, and i is at most 5, their value is below 100000
pub value_small : (bytes : List ℕ) (i : ℕ) → AllDigits 10 (take i bytes) → i ≤ 5 → digits_value 10 (take i bytes) < 100000
value_small bytes i all few = omega (arith, digits_value_short digits_are_numerals (take i bytes) 5 all (omega (arith, few, length-take i bytes)))

-- if the first i bytes are there and are digits, the run has at least i digits
pub run_at_least : (bytes : List ℕ) (i : ℕ) → i ≤ length bytes → AllDigits 10 (take i bytes) → i ≤ digits_len bytes
run_at_least bytes i within all =
    let cut : prefix_len is_ascii_digit (take i bytes ++ drop i bytes) ≡ prefix_len is_ascii_digit bytes = ap (λ xs. prefix_len is_ascii_digit xs) (take-append-drop i bytes) in
    omega (arith, same_run bytes, cut, prefix_run (take i bytes) (drop i bytes) all, length-take-le i bytes within)

-- if the run has six digits or more, `number_at` gives the fault
pub number_too_long : (fault : LineFault) (bytes : List ℕ) → 6 ≤ digits_len bytes → number_at fault bytes ≡ Err fault
number_too_long fault bytes h = rw (lt-ltb 0 (digits_len bytes) (omega (arith, h)), le-ltb (digits_len bytes) 6 h) refl

-- the first `len` bytes are digits, and no digit follows them
pub record IsWholeRun (bytes : List ℕ) (len : ℕ) : Type 0 where
  pub within : len ≤ length bytes
  pub digits : AllDigits 10 (take len bytes)
  pub stops : NoDigitFirst (drop len bytes)

-- if the first `len` bytes are a whole run (`IsWholeRun`), the run has `len` digits
whole_run_length : (bytes : List ℕ) (len : ℕ) → IsWholeRun bytes len → digits_len bytes ≡ len
whole_run_length bytes len run =
    ap digits_len (sym (take-append-drop len bytes)) ∙ run_length (take len bytes) (drop len bytes) run.digits run.stops ∙ length-take-le len bytes run.within

-- if the first `len` bytes are a whole run of one to five digits with a value below 65536, `number_at` gives this value and what
-- follows the run
pub number_read : (fault : LineFault) (bytes : List ℕ) (len : ℕ) → IsWholeRun bytes len → 0 < len → len ≤ 5 → digits_value 10 (take len bytes) < 65536
    → number_at fault bytes ≡ Ok (digits_value 10 (take len bytes), drop len bytes)
number_read fault bytes len run some few bound =
    rw (whole_run_length bytes len run, lt-ltb 0 len some, lt-ltb len 6 (omega (arith, few)), lt-ltb (digits_value 10 (take len bytes)) 65536 bound) refl

-- if the first `len` bytes, at most five, are a whole run, and either there are none or their value is from 65536 on,
-- `number_at` gives the fault
pub number_refused : (fault : LineFault) (bytes : List ℕ) (len : ℕ) → IsWholeRun bytes len
    → (len ≡ 0) ⊎ (65536 ≤ digits_value 10 (take len bytes)) → len ≤ 5
    → number_at fault bytes ≡ Err fault
number_refused fault bytes len run (inl none) few = rw (whole_run_length bytes len run, none) refl
number_refused fault bytes len run (inr wide) few = elim (cases_lt 0 len) [
  | inl some ↦ rw (whole_run_length bytes len run, lt-ltb 0 len some, lt-ltb len 6 (omega (arith, few)), le-ltb (digits_value 10 (take len bytes)) 65536 wide) refl
  | inr none ↦ rw (whole_run_length bytes len run, le-ltb 0 len none) refl
]

-- if there is a byte at place `len`, and it is no digit, the bytes from there on don't begin with a digit
pub stops_at : (bytes : List ℕ) (len : ℕ) → len < length bytes → is_ascii_digit (get_or bytes len 0) ≡ false → NoDigitFirst (drop len bytes)
stops_at bytes len within other = subst NoDigitFirst (sym (drop_more bytes len 0 within)) other

-- if there is no byte at place `len`, what is left from there on is empty, and so doesn't begin with a digit
pub stops_at_end : (bytes : List ℕ) (len : ℕ) → length bytes ≤ len → NoDigitFirst (drop len bytes)
stops_at_end bytes len over = subst NoDigitFirst (sym (nil_from_length (drop len bytes) (omega (arith, length-drop len bytes)))) tt
