-- Chains that are sent twice: how far apart the answers of the two sendings may be, and whether two answers agree. This project's own.
use Rattle.gc_texts.specs.Common.{bytes_eq, Answer, Nothing, Short, Version, Long, Name, Date, Temperature, Place, Height, Angles, Measured, MeasuredMode, DateTime, SpellsDecimal, decimal_eq, is_within, zero, is_near, is_tolerance, Decimal}
use Rattle.std.specs.Prelude.{◌≡◌, ℕ, ◌==◌, ◌&&◌, Bool, true, false, List, Option, None, Some}
use Rattle.std.specs.Ordering.{int_eq}
use Rattle.gc_catalogue.specs.declared.call.Station.{Station}
use Rattle.gc_texts.specs.Nears.{is_length}
use Rattle.gc_texts.specs.Words.{first_word, second_word, after_two_words}
use Rattle.gc_texts.specs.declared.agree.Agree.{Agree}

-- these three words say how far apart values may be: horizontal and vertical angles, from 0 to half a turn, in radians, and distances,
-- from 0 to 100,000 metres
pub record AreAgreeWords (hz v distance : List ℕ) (agree : Agree) : Type 0 where
  pub hz_is : SpellsDecimal hz agree.hz
  pub v_is : SpellsDecimal v agree.v
  pub distance_is : SpellsDecimal distance agree.distance
  pub hz_in : is_tolerance agree.hz ≡ true
  pub v_in : is_tolerance agree.v ≡ true
  pub distance_in : is_length agree.distance ≡ true

-- `HZ V D`, with one space between two words
abbrev pub IsAgreeText : List ℕ → Agree → Type 0
IsAgreeText text agree = AreAgreeWords (first_word text) (second_word text) (after_two_words text) agree

-- whether two horizontal angles are near enough to each other, on the circle: as directions whose vertical angle is 0 are
abbrev pub hz_agrees : Agree → (first second : Decimal) → Bool
hz_agrees agree first second = is_near (record { hz = second; v = zero }) (record { hz = first; v = zero }) agree.hz

-- whether two vertical angles are near enough to each other
abbrev pub v_agrees : Agree → (first second : Decimal) → Bool
v_agrees agree first second = is_within first second agree.v

-- whether two distances, coordinates or heights are near enough to each other
abbrev pub length_agrees : Agree → (first second : Decimal) → Bool
length_agrees agree first second = is_within first second agree.distance

-- whether each coordinate and the instrument's height of two stations are near enough to each other
abbrev pub place_agrees : Agree → (first second : Station) → Bool
place_agrees agree first second =
    length_agrees agree first.e0 second.e0 && (length_agrees agree first.n0 second.n0
    && (length_agrees agree first.h0 second.h0 && length_agrees agree first.hi second.hi))

-- whether two moments of an instrument's clock are the same
abbrev pub is_same_date : (first second : DateTime) → Bool
is_same_date first second =
    int_eq first.year second.year && ((first.month == second.month) && ((first.day == second.day)
    && ((first.hour == second.hour) && ((first.minute == second.minute) && (first.second == second.second)))))

-- whether two answers agree: they have the same shape, and of their values the angles, distances, coordinates and heights are near enough
-- to each other, and any others are the same
abbrev pub answers_agree : Agree → (first second : Answer) → Bool
answers_agree agree Nothing Nothing = true
answers_agree agree (Short x) (Short y) = int_eq x y
answers_agree agree (Version x y z) (Version a b c) = int_eq x a && (int_eq y b && int_eq z c)
answers_agree agree (Long x) (Long y) = int_eq x y
answers_agree agree (Name x) (Name y) = bytes_eq x y
answers_agree agree (Date x) (Date y) = is_same_date x y
answers_agree agree (Temperature x) (Temperature y) = decimal_eq x y
answers_agree agree (Place x) (Place y) = place_agrees agree x y
answers_agree agree (Height x) (Height y) = length_agrees agree x y
answers_agree agree (Angles x v) (Angles y w) = hz_agrees agree x y && v_agrees agree v w
answers_agree agree (Measured x v d) (Measured y w e) = hz_agrees agree x y && (v_agrees agree v w && length_agrees agree d e)
answers_agree agree (MeasuredMode x v d m) (MeasuredMode y w e n) =
    hz_agrees agree x y && (v_agrees agree v w && (length_agrees agree d e && int_eq m n))
answers_agree agree _ _ = false

-- whether the answers of two sendings of a command agree: neither has values, or both have, and these agree
abbrev pub agrees : Agree → (first second : Option Answer) → Bool
agrees agree None None = true
agrees agree (Some first) (Some second) = answers_agree agree first second
agrees agree _ _ = false
