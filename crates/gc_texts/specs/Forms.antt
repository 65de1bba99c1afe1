-- The forms of described procedures' answers, and what a reply says by one: this project's own.
use Rattle.gc_texts.specs.Common.{bytes_eq, Answer, Angles, Measured, Nothing, Reading, Decimal, ValueFault, Value}
use Rattle.std.specs.Prelude.{◌≡◌, ◌+◌, ◌&&◌, ℕ, Bool, false, is_some, nat_eq, List, [], ◌∷◌, drop, map, Option, None, Some, if◌then◌else◌, codes}
use Rattle.std.specs.Option.{option_map}
use Rattle.gc_texts.specs.Descriptions.{described_as}
use Rattle.gc_texts.specs.Fields.{FieldSeen, field_seen}
use Rattle.gc_texts.specs.KindLists.{AreOfKinds, IsKindsFault, kinds_of, kinds_seen}
use Rattle.gc_texts.specs.Measured.{decimal_in, first_value}
use Rattle.gc_texts.specs.declared.description.Description.{Description}
use Rattle.gc_texts.specs.declared.form.Form.{Form}
use Rattle.gc_catalogue.specs.declared.answer.Reading.TheVariants as reading

-- the place of the field with this name, counted from 0, if there is one
abbrev pub place_named : (name : List ℕ) → List FieldSeen → Option ℕ
place_named name [] = None
place_named name (f ∷ fs) = if bytes_eq f.name name then Some 0 else option_map (λ k. k + 1) (place_named name fs)

-- the decimal at this place of values, if there is one
abbrev pub decimal_at : List Value → (place : Option ℕ) → Option Decimal
decimal_at values None = None
decimal_at values (Some k) = decimal_in (first_value (drop k values))

-- the answer with these angles and this distance: with nothing unless both angles are there
abbrev pub answer_from : (hz v distance : Option Decimal) → Answer
answer_from (Some hz) (Some v) (Some distance) = Measured hz v distance
answer_from (Some hz) (Some v) None = Angles hz v
answer_from _ _ _ = Nothing

-- the form of the answers of a described procedure
abbrev pub form_of : Description → Form
form_of d = record {
  kinds = kinds_of (map field_seen d.values.items) d.more;
  hz = place_named (codes "hz_rad") (map field_seen d.values.items);
  v = place_named (codes "v_rad") (map field_seen d.values.items);
  distance = place_named (codes "distance_m") (map field_seen d.values.items);
}

-- the form of the answers of the procedure with this number, if one of these describes it
abbrev pub form_for : (rpc : ℕ) → List Description → Option Form
form_for rpc described = option_map form_of (described_as rpc described)

-- what of these values says where an answer of this form was measured
abbrev pub measured_part : Form → List Value → Answer
measured_part form values = answer_from (decimal_at values form.hz) (decimal_at values form.v) (decimal_at values form.distance)

-- whether an answer whose form has these places and so many values has nothing else in columns than what says where it was measured: both
-- angles, or these and the distance, or nothing
abbrev pub has_these_alone : (hz v distance : Option ℕ) → (count : ℕ) → Bool
has_these_alone (Some hz) (Some v) (Some distance) count = nat_eq count 3
has_these_alone (Some hz) (Some v) None count = nat_eq count 2
has_these_alone _ _ _ count = nat_eq count 0

-- so it is of an answer of this form
abbrev pub is_compared : Form → Bool
is_compared form = has_these_alone form.hz form.v form.distance form.kinds.len

-- whether answers of this form have a direction: both columns `hz_rad` and `v_rad`
abbrev pub form_gives_direction : Option Form → Bool
form_gives_direction None = false
form_gives_direction (Some form) = is_some form.hz && is_some form.v

-- whether answers of this form have a distance: a direction, and the column `distance_m`
abbrev pub form_gives_distance : Option Form → Bool
form_gives_distance None = false
form_gives_distance (Some form) = is_some form.hz && is_some form.v && is_some form.distance

-- the parameters of a reply are values of the form's kinds, and of these the answer has what says where it was measured
pub record IsFormAnswer (form : Form) (params : List ℕ) (answer : Answer) : Type 0 where
  pub values : List Value
  pub are : AreOfKinds (kinds_seen form.kinds) params values
  pub answer_is : answer ≡ measured_part form values

-- the parameters of a reply aren't values of the form's kinds, with this fault
abbrev pub IsFormFault : Form → List ℕ → ValueFault → Type 0
IsFormFault form params e = IsKindsFault (kinds_seen form.kinds) params e

-- a reply with both codes 0 and these parameters has this reading by the form
abbrev pub IsFormReading : Form → (params : List ℕ) → Reading → Type 0
IsFormReading form params (reading.Value answer) = IsFormAnswer form params answer
IsFormReading form params (reading.Unreadable e) = IsFormFault form params e
IsFormReading form params _ = ⊥
