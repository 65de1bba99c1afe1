-- A number in the common spelling at the front of a list.
use Rattle.gc_values.proofs.Common.{◌≡◌, ℕ, ℤ, ◌+◌, ◌-◌, ◌*◌, ◌^◌, ◌<◌, ◌≤◌, false, List, [], ◌∷◌, ◌++◌, length, get_or, take, drop, Option, Some, None, refl, sym, ◌∙◌, ap, subst, arith, add-one, append_assoc, length-append, lit≤, mul-le-mul_left, mul-le-mul_right, pow-suc, pow-add, drop_more, length-take-le, take-append-drop, AreDigits, IsDigit, number, SignedWithoutZeros, CountsDigits, CutsPlain, CutsDecimal, CutsNumber, IsItemAndRest, ten_pow_cut, Absent, Spells, Decimal, Numeral}
use Rattle.std.proofs.Common.{append-nil}
use Rattle.gc_values.proofs.Every.{every_append, every_more}
use Rattle.gc_values.proofs.Kept.{followed_more, number-append, number-lt}
use Rattle.gc_values.proofs.Powers.{ten_pow_le}
use Rattle.gc_values.proofs.ReadLemmas.{reads_value}
use Rattle.gc_values.proofs.TextShape.{IsBare, bare_above, bare_digits, bare_param}
use Rattle.gc_values.proofs.UnitsLemmas.{capped_short}

-- if i digits were counted after those of `front` (`CountsDigits`), fewer than `most`, and the next byte is a digit, i + 1 are
-- counted with it, and their number is ten times the one so far, plus that digit
pub counts_more : (front : ℕ) (text : List ℕ) (most value more i : ℕ) → (counted : CountsDigits front text most value i)
    → (inside : i < length text) → (few : i < most) → (digit : IsDigit (get_or text i 0)) → (more_is : more ≡ value * 10 + (get_or text i 0 - 48))
    → CountsDigits front text most more (i + 1)
counts_more front text most value more i c inside few digit e = record {
  within = omega arith;
  few = omega arith;
  digits = every_more IsDigit text i 0 inside c.digits digit;
  value_is = followed_more front value more text i inside c.value_is e;
}

-- while fewer than `most` digits were counted, and `front` leaves room within 10^18 for `most` digits, ten times the number that
-- was counted, plus 10, is at most 10^18, so that 64 bits hold the number with one more digit
pub counts_small : (front : ℕ) (text : List ℕ) (most value i : ℕ) → CountsDigits front text most value i → i < most
    → (front + 1) * 10 ^ most ≤ 10 ^ 18 → value * 10 + 10 ≤ 10 ^ 18
counts_small front text most value i c inside room =
    let small : number (take i text) < 10 ^ length (take i text) = number-lt (take i text) c.digits in
    let size : length (take i text) ≡ i = length-take-le i text c.within in
    let power : 10 ^ (i + 1) ≡ 10 ^ i * 10 = rw add-one (pow-suc 10 i) in
    let all : (front + 1) * 10 ^ (i + 1) ≤ (front + 1) * 10 ^ most = mul-le-mul_left {m = 10 ^ (i + 1)} {n = 10 ^ most} (front + 1) (ten_pow_le (i + 1) most (omega arith)) in
    omega (arith, c.value_is, small, ap (λ k. 10 ^ k) size, ap (λ p. (front + 1) * p) power, all, room)

-- if i digits, at most 18, were counted with no number in front, their number leaves room within 10^18 for 18 - i more: that
-- number plus 1, times 10^(18 - i), is at most 10^18
pub counted_leave_room : (text : List ℕ) (most value i : ℕ) → CountsDigits 0 text most value i → i ≤ 18 → (value + 1) * 10 ^ (18 - i) ≤ 10 ^ 18
counted_leave_room text most value i c few =
    let small : number (take i text) < 10 ^ length (take i text) = number-lt (take i text) c.digits in
    let size : length (take i text) ≡ i = length-take-le i text c.within in
    let most : (value + 1) * 10 ^ (18 - i) ≤ 10 ^ i * 10 ^ (18 - i) = mul-le-mul_right {m = value + 1} {n = 10 ^ i} (10 ^ (18 - i)) (omega (arith, c.value_is, small, ap (λ k. 10 ^ k) size)) in
    omega (arith, most, ten_pow_cut i 18 few)

-- if a text is an item and then a tail, and the tail is empty or begins with a comma, the text is the item and what follows
-- the item's comma, if there is one, as `IsItemAndRest` has it
item_before_comma : (text item tail : List ℕ) (rest : Option (List ℕ)) → text ≡ item ++ tail → IsItemAndRest tail [] rest
    → IsItemAndRest text item rest
item_before_comma text item tail None e h = e ∙ ap (λ t. item ++ t) h ∙ append-nil item
item_before_comma text item tail (Some behind) e h = e ∙ ap (λ t. item ++ t) h

-- digits, a point and digits, up to the end or a comma, are cut off as an item
front_decimal_cut : (text w f tail : List ℕ) (rest : Option (List ℕ)) → text ≡ w ++ 46 ∷ (f ++ tail) → AreDigits w → AreDigits f
    → IsItemAndRest tail [] rest → CutsPlain text (w ++ 46 ∷ f) rest
front_decimal_cut text w f tail rest e is_w is_f stands = record {
  text_is = item_before_comma text (w ++ 46 ∷ f) tail rest (e ∙ sym (append_assoc w (46 ∷ f) tail)) stands;
  param = bare_param (w ++ 46 ∷ f) (every_append IsBare w (46 ∷ f) (bare_digits w is_w) (bare_above 46 (omega arith), bare_digits f is_f));
  some = omega (arith, length-append w (46 ∷ f));
}

-- digits w, 1 to 13 of them, a point and digits f, at most 18 digits in all, spell the decimal made of their number with as many
-- places as f has digits
front_decimal_spells : (w f : List ℕ) (units : ℕ) (m : ℤ) (s : ℕ) → (is_w : AreDigits w) → (is_f : AreDigits f) → (some : 0 < length w)
    → (short : length w ≤ 13) → (few : length w + length f ≤ 18) → (units_are : units ≡ number (w ++ f))
    → (made : SignedWithoutZeros false units (length f) m s) → Spells (w ++ 46 ∷ f) m s
front_decimal_spells w f units m s is_w is_f some short few e made =
    let n : Numeral = record {
      negative = false;
      whole = record { ref_ptr = (0, 0); now = w };
      fraction = record { ref_ptr = (0, 0); now = f };
      up = 0;
      down = 0;
      whole_are_digits = is_w;
      fraction_are_digits = is_f;
    } in
    let size = length-append w f in
    let below : number (w ++ f) < 10 ^ length (w ++ f) = number-lt (w ++ f) (every_append IsDigit w f is_w is_f) in
    let most : 10 ^ length (w ++ f) ≤ 10 ^ (13 + length f) = ten_pow_le (length (w ++ f)) (13 + length f) (omega (arith, size)) in
    reads_value (w ++ 46 ∷ f) n units (length f) m s
    (record {
      numeral = record {
        parts = record { sign = Absent; whole = w; fraction = Some f; exponent = None };
        form = record { whole = is_w; fraction = is_f; some = omega arith; exponent = tt };
        text_is = ap (λ t. w ++ 46 ∷ t) (sym (append-nil f));
        negative_is = refl;
        whole_is = refl;
        fraction_is = refl;
        up_is = refl;
        down_is = refl;
      };
      rounded = capped_short n (10 ^ 37 + 1) units few refl refl (lit≤ tt) e;
    })
    (omega (arith, e, below, most, pow-add 10 13 (length f))) made

-- the text is 1 to 13 digits, a point, and digits (`behind` is what follows the point), at most 18 digits in all, and then the
-- tail; `value` is the number of all these digits, and `places` is how many of them follow the point
pub record HasFrontDigits (text tail : List ℕ) (value places : ℕ) : Type 0 where
  pub at : ℕ
  pub whole : ℕ
  pub behind : List ℕ
  pub before_point : CountsDigits 0 text 13 whole at
  pub some : 0 < at
  pub inside : at < length text
  pub point : get_or text at 0 ≡ 46
  pub behind_is : behind ≡ drop (at + 1) text
  pub after_point : CountsDigits whole behind (18 - at) value places
  pub tail_is : tail ≡ drop places behind

-- if digits, a point and digits come first in a text (`HasFrontDigits`), and the end or a comma follows them, the decimal that
-- is made of their number was cut off
pub front_decimal_found : (text tail : List ℕ) (value places : ℕ) (rest : Option (List ℕ)) (d : Decimal) → HasFrontDigits text tail value places
    → IsItemAndRest tail [] rest → SignedWithoutZeros false value places d.digits d.scale → CutsDecimal text d rest
front_decimal_found text tail value places rest d h stands made =
    let at : ℕ = h.at in
    let behind : List ℕ = h.behind in
    let a = h.before_point in
    let b = h.after_point in
    let some = h.some in
    let w : List ℕ = take at text in
    let f : List ℕ = take places behind in
    let long_w : length w ≡ at = length-take-le at text a.within in
    let long_f : length f ≡ places = length-take-le places behind b.within in
    let few_a = a.few in
    let few_b = b.few in
    let parted : behind ≡ f ++ tail = sym (take-append-drop places behind) ∙ ap (λ t. f ++ t) (sym h.tail_is) in
    let whole_text : text ≡ w ++ 46 ∷ (f ++ tail) = sym (take-append-drop at text)
    ∙ ap (λ t. w ++ t) (drop_more text at 0 h.inside ∙ ap (λ b. b ∷ drop (at + 1) text) h.point ∙ ap (λ t. 46 ∷ t) (sym h.behind_is ∙ parted)) in
    let number_is : value ≡ number (w ++ f) = b.value_is ∙ ap (λ n. n * 10 ^ places + number f) (let n : h.whole ≡ number w = omega (arith, a.value_is) in n)
    ∙ ap (λ k. number w * 10 ^ k + number f) (sym long_f) ∙ sym (number-append w f) in
    record {
      item = w ++ 46 ∷ f;
      cut = front_decimal_cut text w f tail rest whole_text a.digits b.digits stands;
      is = front_decimal_spells w f value d.digits d.scale a.digits b.digits (omega (arith, long_w)) (omega (arith, long_w))
          (omega (arith, long_w, long_f)) number_is (subst (λ k. SignedWithoutZeros false value k d.digits d.scale) (sym long_f) made);
    }

-- if at most 13 digits were counted before the point, and others after it, the number of all, with as many places as there are
-- digits after the point, is in range
pub front_decimal_in_range : (text behind : List ℕ) (at places whole value : ℕ) → CountsDigits 0 text 13 whole at
    → CountsDigits whole behind (18 - at) value places → value ≤ 10 ^ 13 * 10 ^ places
front_decimal_in_range text behind at places whole value a b =
    let small_a : number (take at text) < 10 ^ length (take at text) = number-lt (take at text) a.digits in
    let small_b : number (take places behind) < 10 ^ length (take places behind) = number-lt (take places behind) b.digits in
    let long_w : length (take at text) ≡ at = length-take-le at text a.within in
    let long_f : length (take places behind) ≡ places = length-take-le places behind b.within in
    let few_a = a.few in
    let most : 10 ^ at ≤ 10 ^ 13 = ten_pow_le at 13 (omega arith) in
    let all : (whole + 1) * 10 ^ places ≤ 10 ^ 13 * 10 ^ places = mul-le-mul_right {m = whole + 1} {n = 10 ^ 13} (10 ^ places) (omega (arith, a.value_is, small_a, ap (λ k. 10 ^ k) long_w, most)) in
    omega (arith, b.value_is, small_b, ap (λ k. 10 ^ k) long_f, all)

-- if 1 to 18 digits were counted, and the end or a comma follows them, a whole number was cut off
pub front_number_found : (text tail : List ℕ) (count n : ℕ) (rest : Option (List ℕ)) → CountsDigits 0 text 18 n count → 0 < count → tail ≡ drop count text
    → IsItemAndRest tail [] rest → CutsNumber text n rest
front_number_found text tail count n rest c some tail_is stands =
    let ds : List ℕ = take count text in
    let size : length ds ≡ count = length-take-le count text c.within in
    let parted : text ≡ ds ++ tail = sym (take-append-drop count text) ∙ ap (λ t. ds ++ t) (sym tail_is) in
    record {
      item = ds;
      cut = record {
        text_is = item_before_comma text ds tail rest parted stands;
        param = bare_param ds (bare_digits ds c.digits);
        some = omega (arith, size);
      };
      is = record { sign = Absent; digits = ds; n = n; text_is = refl; number_is = record { digits = c.digits; some = omega (arith, size); value = omega (arith, c.value_is) }; value = refl };
    }
