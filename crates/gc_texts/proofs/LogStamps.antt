-- The bytes of a log line: none of them is a space in its moment, and all of them are printable.
use Rattle.gc_texts.proofs.Common.{◌≡◌, ℕ, zero, suc, ◌+◌, ◌/◌, ◌%◌, ◌<◌, ◌≤◌, ◌^◌, true, List, [], ◌∷◌, ◌++◌, refl, sym, subst, arith, decimal, All, AllByRecursion, div-add-mod, cond_both, ltb-true, and_parts, recursion_from_All, All-from_recursion, All-append, Lacks, LogLinesReadBack, LogLinesArePrintable, mark_text, is_unescaped, hex_digit, escape, escaped, IsPrintable, IsPrintableByte, month_days, next_day, days_after, date_of, two_digits, three_digits, date_text, time_text, stamp_text, LogMark, Went, WentPart, Came, CamePart, Link, Date}
use Rattle.std.specs.Prelude.{nat_lt, ◌==◌, ◌&&◌, not}
use Rattle.std.specs.Str.Parse.{AllDigits}
use Rattle.std.proofs.lemmas.Fmt.{decimal_is_IsNumeral}
use Rattle.std.proofs.lemmas.Str.Parse.{digit_from_value}
use Rattle.gc_values.proofs.Every.{every_weaker as all_on}
use Rattle.gc_texts.proofs.Dates.{at_most_31_days}
use Rattle.gc_texts.proofs.Logs.{IsOfBytes, bytes_by_recursion, high_digit_small, one_log_line}

-- a byte of a moment: printable, and no space
record IsVisible (b : ℕ) : Type 0 where
  above : 32 < b
  below : b ≤ 126

-- a byte from 33 to 126 is printable, and no space
visible_byte : (b : ℕ) → 32 < b → b ≤ 126 → IsVisible b
visible_byte b above below = record { above = above; below = below }

-- each digit of a numeral of base 10 is printable, and no space
digits_visible : (ds : List ℕ) → AllDigits 10 ds → AllByRecursion IsVisible ds
digits_visible [] digits = tt
digits_visible (d ∷ ds) digits = let r = digit_from_value d digits.0 in (visible_byte d (omega (arith, r.0)) (omega (arith, r.1)), digits_visible ds digits.1)

-- a number of 64 bits in decimal is printable, without a space
decimal_visible : (n : ℕ) → n < 2 ^ 64 → All IsVisible (decimal n)
decimal_visible n h = All-from_recursion IsVisible (decimal n) (digits_visible (decimal n) (decimal_is_IsNumeral n h).0.1)

-- a text of one byte from 33 to 126 is printable, without a space
one_visible : (b : ℕ) → 32 < b → b ≤ 126 → All IsVisible (b ∷ [])
one_visible b above below = All-from_recursion IsVisible (b ∷ []) (visible_byte b above below, tt)

-- a number below 100, in two digits, is printable, without a space
two_visible : (n : ℕ) → n < 100 → All IsVisible (two_digits n)
two_visible n h =
    All-from_recursion IsVisible (two_digits n)
    (visible_byte (48 + n / 10) (omega arith) (omega (arith, h, div-add-mod n 10)), (visible_byte (48 + n % 10) (omega arith) (omega arith), tt))

-- a number below 1000, in three digits, is printable, without a space
three_visible : (n : ℕ) → n < 1000 → All IsVisible (three_digits n)
three_visible n h =
    All-append IsVisible ((48 + n / 100) ∷ []) (two_digits (n % 100)) (one_visible (48 + n / 100) (omega arith) (omega (arith, h, div-add-mod n 100)))
    (two_visible (n % 100) (omega arith))

-- the month of a date is at most 12, its day at most 31, and its year at most `year`
pub record IsDateUpTo (d : Date) (year : ℕ) : Type 0 where
  pub month : d.month ≤ 12
  pub day : d.day ≤ 31
  pub years : d.year ≤ year

-- where a date's year is at most `year`, the next day's is at most `year + 1`; month and day keep their bounds
next_day_within : (d : Date) (year : ℕ) → IsDateUpTo d year → IsDateUpTo (next_day d) (suc year)
next_day_within d year h =
    cond_both (nat_lt d.day (month_days d.year d.month)) _ _ (λ e. IsDateUpTo e (suc year))
    (λ less. record { month = h.month; day = omega (arith, ltb-true d.day (month_days d.year d.month) less, at_most_31_days d.year d.month); years = omega (arith, h.years) })
    (λ _. cond_both (nat_lt d.month 12) _ _ (λ e. IsDateUpTo e (suc year))
    (λ less. record { month = omega (arith, ltb-true d.month 12 less); day = omega arith; years = omega (arith, h.years) })
    (λ _. record { month = omega arith; day = omega arith; years = omega (arith, h.years) }))

-- where a date's year is at most `year`, that of the date n days later is at most `year + n`; month and day keep their bounds
later_within : (n : ℕ) (d : Date) (year : ℕ) → IsDateUpTo d year → IsDateUpTo (days_after n d) (year + n)
unfolding days_after
later_within zero d year h = let e : year + 0 ≡ year = omega arith in subst (IsDateUpTo d) (sym e) h
later_within (suc n) d year h = let e : year + suc n ≡ suc year + n = omega arith in
    subst (IsDateUpTo (days_after n (next_day d))) (sym e) (later_within n (next_day d) (suc year) (next_day_within d year h))

-- the date n days after 1 January 1970 has a year of at most 1970 + n, and a month and a day within bounds
pub date_within : (n : ℕ) → IsDateUpTo (date_of n) (1970 + n)
date_within n = later_within n (record { year = 1970; month = 1; day = 1 }) 1970 (record { month = omega arith; day = omega arith; years = omega arith })

-- the text of a date with a year of 64 bits, and a month and a day below 100, is printable, without a space
date_visible : (d : Date) → d.year < 2 ^ 64 → d.month < 100 → d.day < 100 → All IsVisible (date_text d)
date_visible d year month day =
    let dash = one_visible 45 (omega arith) (omega arith) in
    let first = All-append IsVisible (decimal d.year) (45 ∷ []) (decimal_visible d.year year) dash in
    let second = All-append IsVisible (decimal d.year ++ 45 ∷ []) (two_digits d.month) first (two_visible d.month month) in
    let third = All-append IsVisible (decimal d.year ++ 45 ∷ [] ++ two_digits d.month) (45 ∷ []) second dash in
    All-append IsVisible (decimal d.year ++ 45 ∷ [] ++ two_digits d.month ++ 45 ∷ []) (two_digits d.day) third (two_visible d.day day)

-- the text of a time of day, `millis` milliseconds after midnight and before the next, is printable, without a space
time_visible : (millis : ℕ) → millis < 86400000 → All IsVisible (time_text millis)
time_visible millis h =
    let hours = two_visible (millis / 3600000) (omega (arith, h, div-add-mod millis 3600000)) in
    let minutes = two_visible (millis / 60000 % 60) (omega arith) in
    let seconds = two_visible (millis / 1000 % 60) (omega arith) in
    let colon = one_visible 58 (omega arith) (omega arith) in
    let point = one_visible 46 (omega arith) (omega arith) in
    let rest = three_digits (millis % 1000) in
    let least : All IsVisible (46 ∷ rest) = All-append IsVisible (46 ∷ []) rest point (three_visible (millis % 1000) (omega arith)) in
    let third : All IsVisible (58 ∷ (two_digits (millis / 1000 % 60) ++ 46 ∷ rest)) =
    All-append IsVisible (58 ∷ []) (two_digits (millis / 1000 % 60) ++ 46 ∷ rest) colon (All-append IsVisible (two_digits (millis / 1000 % 60)) (46 ∷ rest) seconds least) in
    let second : All IsVisible (58 ∷ (two_digits (millis / 60000 % 60) ++ 58 ∷ (two_digits (millis / 1000 % 60) ++ 46 ∷ rest))) =
    All-append IsVisible (58 ∷ []) (two_digits (millis / 60000 % 60) ++ 58 ∷ (two_digits (millis / 1000 % 60) ++ 46 ∷ rest)) colon
    (All-append IsVisible (two_digits (millis / 60000 % 60)) (58 ∷ (two_digits (millis / 1000 % 60) ++ 46 ∷ rest)) minutes third) in
    All-append IsVisible (two_digits (millis / 3600000)) (58 ∷ (two_digits (millis / 60000 % 60) ++ 58 ∷ (two_digits (millis / 1000 % 60) ++ 46 ∷ rest))) hours second

-- of a stamp of a moment of 64 bits, the bytes are printable, and none is a space
stamp_visible : (utc : ℕ) → utc < 2 ^ 64 → All IsVisible (stamp_text utc)
stamp_visible utc h =
    let days = utc / 86400000 in
    let d = date_within days in
    let few : days < 2 ^ 63 = omega (arith, h, div-add-mod utc 86400000) in
    let moment = time_text (utc % 86400000) in
    let first = All-append IsVisible (date_text (date_of days)) (84 ∷ []) (date_visible (date_of days) (omega (arith, few, d.years)) (omega (arith, d.month))
    (omega (arith, d.day))) (one_visible 84 (omega arith) (omega arith)) in
    let second = All-append IsVisible (date_text (date_of days) ++ 84 ∷ []) moment first (time_visible (utc % 86400000) (omega arith)) in
    All-append IsVisible (date_text (date_of days) ++ 84 ∷ [] ++ moment) (90 ∷ []) second (one_visible 90 (omega arith) (omega arith))

-- a text whose bytes are printable, and none a space, lacks the space
visible_lacks_space : (bs : List ℕ) → AllByRecursion IsVisible bs → Lacks 32 bs
visible_lacks_space [] h = tt
visible_lacks_space (b ∷ bs) h = ((λ e. absurd (omega (arith, e, h.0.above))), visible_lacks_space bs h.1)

-- bytes that are printable, and no spaces, are printable
visible_prints : (bs : List ℕ) → AllByRecursion IsVisible bs → AllByRecursion IsPrintableByte bs
visible_prints bs h = all_on IsVisible IsPrintableByte bs (λ b is. (omega (arith, is.above), is.below)) h

-- a digit of base 16, as it is written, is printable
hex_digit_prints : (n : ℕ) → n < 16 → IsPrintableByte (hex_digit n)
hex_digit_prints n h = cond_both (nat_lt n 10) (48 + n) (87 + n) IsPrintableByte (λ e. (omega (arith, h), omega (arith, h))) (λ e. (omega (arith, h), omega (arith, h)))

-- a byte that a log writes as it is, is printable
as_it_is_prints : (b : ℕ) → is_unescaped b ≡ true → IsPrintableByte b
as_it_is_prints b e =
    let bounds = and_parts (nat_lt 31 b) (nat_lt b 127) (and_parts (nat_lt 31 b && nat_lt b 127) (not (b == 92)) e).0 in
    (omega (arith, ltb-true 31 b bounds.0), omega (arith, ltb-true b 127 bounds.1))

-- the escaped form of a byte is printable
escape_prints : (b : ℕ) → b < 256 → IsPrintable (escape b)
escape_prints b h =
    cond_both (is_unescaped b) (b ∷ []) (92 ∷ 120 ∷ hex_digit (b / 16) ∷ hex_digit (b % 16) ∷ []) (All IsPrintableByte)
    (λ e. All-from_recursion IsPrintableByte (b ∷ []) (as_it_is_prints b e, tt))
    (λ _. All-from_recursion IsPrintableByte (92 ∷ 120 ∷ hex_digit (b / 16) ∷ hex_digit (b % 16) ∷ [])
    ((omega arith, omega arith), ((omega arith, omega arith), (hex_digit_prints (b / 16) (high_digit_small b h), (hex_digit_prints (b % 16) (omega arith), tt)))))

-- the escaped form of bytes is printable
pub escaped_prints : (bs : List ℕ) → IsOfBytes bs → IsPrintable (escaped bs)
escaped_prints [] h = All-from_recursion IsPrintableByte [] tt
escaped_prints (b ∷ bs) h = All-append IsPrintableByte (escape b) (escaped bs) (escape_prints b h.0) (escaped_prints bs h.1)

-- the text of a mark is printable
mark_prints : (mark : LogMark) → IsPrintable (mark_text mark)
mark_prints Went = All-from_recursion IsPrintableByte (62 ∷ []) ((omega arith, omega arith), tt)
mark_prints WentPart = All-from_recursion IsPrintableByte (62 ∷ 124 ∷ []) ((omega arith, omega arith), ((omega arith, omega arith), tt))
mark_prints Came = All-from_recursion IsPrintableByte (60 ∷ []) ((omega arith, omega arith), tt)
mark_prints CamePart = All-from_recursion IsPrintableByte (60 ∷ 124 ∷ []) ((omega arith, omega arith), ((omega arith, omega arith), tt))
mark_prints Link = All-from_recursion IsPrintableByte (45 ∷ []) ((omega arith, omega arith), tt)

-- a printable text after a space is printable
space_prints : (bs : List ℕ) → IsPrintable bs → IsPrintable (32 ∷ bs)
space_prints bs h = All-append IsPrintableByte (32 ∷ []) bs (All-from_recursion IsPrintableByte (32 ∷ []) ((omega arith, omega arith), tt)) h

-- the text of a stamp of a moment of 64 bits is printable
pub stamp_prints : (utc : ℕ) → utc < 2 ^ 64 → IsPrintable (stamp_text utc)
stamp_prints utc h = All-from_recursion IsPrintableByte (stamp_text utc) (visible_prints (stamp_text utc) (recursion_from_All IsVisible (stamp_text utc) (stamp_visible utc h)))

-- the law: what is written of a moment of 64 bits, a mark and bytes is a log line of these, and no text is a log line of two
-- moments, marks or lists of bytes
pub log_lines_read_back : LogLinesReadBack
log_lines_read_back = record {
  written = λ utc mark bytes h are. record {
    is = refl;
    one_word = visible_lacks_space (stamp_text utc) (recursion_from_All IsVisible (stamp_text utc) (stamp_visible utc h));
    is_printable = stamp_prints utc h;
    are_bytes = are;
  };
  once = λ text one other mark other_mark bytes other_bytes. one_log_line text one other mark other_mark bytes other_bytes;
}

-- the law: the text of a log line (`log_text`) of a moment of 64 bits, a mark and bytes is printable
pub log_lines_are_printable : LogLinesArePrintable
log_lines_are_printable utc mark bytes h are =
    All-append IsPrintableByte (stamp_text utc) (32 ∷ (mark_text mark ++ 32 ∷ escaped bytes)) (stamp_prints utc h)
    (space_prints (mark_text mark ++ 32 ∷ escaped bytes) (All-append IsPrintableByte (mark_text mark) (32 ∷ escaped bytes) (mark_prints mark)
    (space_prints (escaped bytes) (escaped_prints bytes (bytes_by_recursion bytes are)))))
