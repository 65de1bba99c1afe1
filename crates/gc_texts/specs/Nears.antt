-- Where a target is, and whether an answer was measured there: this project's own. When a direction is near another is the
-- rule of gc_values' `Directions`; when a distance is, that of its `Decimals`.
use Rattle.gc_texts.specs.Common.{list_any, IsAnswerOf, call_fields, Answer, Angles, Measured, MeasuredMode, Asked, Table, Raw, Call, GetAngle, SimpleMea, QuickDist, MeasDistance, SpellsDecimal, fraction, is_within, units, IsNear, is_near, is_place, is_tolerance, is_up_to, IsWithin, Decimal, Direction}
use Rattle.std.specs.Prelude.{◌≡◌, ◌⊎◌, ℕ, pos, ◌==◌, ◌||◌, Bool, true, false, not, List, [], ◌∷◌, Option, None, Some, is_some, find}
use Rattle.gc_texts.specs.Cuts.{Cuts, behind}
use Rattle.gc_texts.specs.Procedures.{IsTarget}
use Rattle.gc_texts.specs.Words.{first_word, second_word, third_word, after_three_words}
use Rattle.gc_texts.specs.declared.near.Near.{Near}
use Rattle.gc_texts.specs.declared.near.Range.{Range}

-- whether a number, in metres, is from 0 to 100,000; the bound is in units of 10^-24 metres
unfoldable pub is_length : Decimal → Bool
is_length d = is_up_to (pos 100000000000000000000000000000) (units d)

-- these two words are the distance at which a target is, and how far from there a measured one may be: in metres, from 0 to 100,000
pub record AreRangeWords (distance tolerance : List ℕ) (range : Range) : Type 0 where
  pub distance_is : SpellsDecimal distance range.distance
  pub tolerance_is : SpellsDecimal tolerance range.tolerance
  pub distance_in : is_length range.distance ≡ true
  pub tolerance_in : is_length range.tolerance ≡ true

-- what follows the tolerance of a target's angles says this of its distance: nothing follows, and it says nothing; or two words do
abbrev pub IsRangeOf : Option (List ℕ) → Option Range → Type 0
IsRangeOf None range = range ≡ None
IsRangeOf (Some words) (Some range) = AreRangeWords (first_word words) (behind 32 words) range
IsRangeOf (Some words) None = ⊥

-- these four words are a target's number, the direction in which the target is, and how far from there each angle of a measurement may
-- be; and `words` is what follows them, which says how far away the target is. Angles are in radians: `hz` is from 0 to a turn, and `v`
-- and `tolerance` are from 0 to half a turn
pub record AreNearWords (target hz v tolerance : List ℕ) (words : Option (List ℕ)) (near : Near) : Type 0 where
  pub target_is : IsTarget target near.target
  pub hz_is : SpellsDecimal hz near.place.hz
  pub v_is : SpellsDecimal v near.place.v
  pub tolerance_is : SpellsDecimal tolerance near.tolerance
  pub place_is : is_place near.place ≡ true
  pub tolerance_in : is_tolerance near.tolerance ≡ true
  pub range_is : IsRangeOf words near.range

-- `T HZ V TOLERANCE` or `T HZ V TOLERANCE DISTANCE TOLERANCE`, with one space between two words
pub record IsNearText (text : List ℕ) (near : Near) : Type 0 where
  pub tolerance : List ℕ
  pub words : Option (List ℕ)
  pub cut : Cuts 32 (after_three_words text) tolerance words
  pub are : AreNearWords (first_word text) (second_word text) (third_word text) tolerance words near

-- whether one of these places is of this target
abbrev pub has_near : ℕ → List Near → Bool
has_near target nears = list_any (λ near. near.target == target) nears

-- the first of these places that is of this target, if there is one
abbrev pub near_of : ℕ → List Near → Option Near
near_of target nears = find (λ near. near.target == target) nears

-- the direction that an answer has, if it has one
abbrev pub direction_of : Answer → Option Direction
direction_of (Angles hz v) = Some (record { hz = hz; v = v })
direction_of (Measured hz v distance) = Some (record { hz = hz; v = v })
direction_of (MeasuredMode hz v distance mode) = Some (record { hz = hz; v = v })
direction_of _ = None

-- the distance that an answer has, if it has one
abbrev pub distance_of : Answer → Option Decimal
distance_of (Measured hz v distance) = Some distance
distance_of (MeasuredMode hz v distance mode) = Some distance
distance_of _ = None

-- whether the answers of a call have a direction
abbrev pub call_gives_direction : Call → Bool
call_gives_direction (GetAngle mode) = true
call_gives_direction (SimpleMea wait mode) = true
call_gives_direction QuickDist = true
call_gives_direction (MeasDistance mode) = true
call_gives_direction _ = false

-- whether the answers of what is asked have a direction; those of a raw request have none
abbrev pub asked_gives_direction : Asked → Bool
asked_gives_direction (Table call) = call_gives_direction call
asked_gives_direction (Raw raw) = false

-- whether the answers of a call have a distance
abbrev pub call_gives_distance : Call → Bool
call_gives_distance (SimpleMea wait mode) = true
call_gives_distance QuickDist = true
call_gives_distance (MeasDistance mode) = true
call_gives_distance _ = false

-- whether the answers of what is asked have a distance; those of a raw request have none
abbrev pub asked_gives_distance : Asked → Bool
asked_gives_distance (Table call) = call_gives_distance call
asked_gives_distance (Raw raw) = false

-- whether there is a direction that isn't near the place of the target
abbrev pub is_away : Near → Option Direction → Bool
is_away near None = false
is_away near (Some d) = not (is_near d near.place near.tolerance)

-- whether there is a distance that is further from the one of the range than the range's tolerance
abbrev pub is_out_of_range : Option Range → Option Decimal → Bool
is_out_of_range None distance = false
is_out_of_range (Some range) None = false
is_out_of_range (Some range) (Some d) = not (is_within d range.distance range.tolerance)

-- whether an answer was measured away from its target: its direction isn't near the target's place, or its distance isn't the target's;
-- false where no place is known of the target, or the answer has no direction. A distance is compared only where the place has one
unfoldable pub is_off_target : Option Near → Answer → Bool
is_off_target None answer = false
is_off_target (Some near) answer = is_away near (direction_of answer) || is_out_of_range near.range (distance_of answer)

-- the distance d is at most the range's tolerance from the range's distance
abbrev pub IsInRange : Decimal → Range → Type 0
IsInRange d range = IsWithin (fraction d) (fraction range.distance) (fraction range.tolerance)

-- the answer was measured at the target, as far as it says where: its direction, if it has one, is near the target's place; and its
-- distance, if it has one and that of the target is known, is in its range
pub record IsThere (near : Near) (answer : Answer) : Type 0 where
  pub direction : (d : Direction) → direction_of answer ≡ Some d → IsNear d near.place near.tolerance
  pub distance : (range : Range) (d : Decimal) → near.range ≡ Some range → distance_of answer ≡ Some d → IsInRange d range

-- the answer has a direction that isn't near the target's place
pub record IsInAnotherDirection (near : Near) (answer : Answer) : Type 0 where
  pub direction : Direction
  pub toward : direction_of answer ≡ Some direction
  pub away : IsNear direction near.place near.tolerance → ⊥

-- the target's distance is known, and the answer has one that isn't in its range
pub record IsAtAnotherDistance (near : Near) (answer : Answer) : Type 0 where
  pub range : Range
  pub distance : Decimal
  pub known : near.range ≡ Some range
  pub measured : distance_of answer ≡ Some distance
  pub away : IsInRange distance range → ⊥

-- the answer was measured away from the target: in another direction, or at another distance
abbrev pub IsAway : Near → Answer → Type 0
IsAway near answer = IsInAnotherDirection near answer ⊎ IsAtAnotherDistance near answer

-- the answers that have a direction are those of procedures 2107, 2108, 2117 and 17017
pub record DirectionsAreAskedFor : Type 0 where
  pub answers : (call : Call) (answer : Answer) → IsAnswerOf call answer → is_some (direction_of answer) ≡ call_gives_direction call
  pub procedures : (call : Call) → call_gives_direction call ≡ list_any (λ n. n == (call_fields call).number) (2107 ∷ 2108 ∷ 2117 ∷ 17017 ∷ [])

-- the answers that have a distance are those of procedures 2108, 2117 and 17017
pub record DistancesAreAskedFor : Type 0 where
  pub answers : (call : Call) (answer : Answer) → IsAnswerOf call answer → is_some (distance_of answer) ≡ call_gives_distance call
  pub procedures : (call : Call) → call_gives_distance call ≡ list_any (λ n. n == (call_fields call).number) (2108 ∷ 2117 ∷ 17017 ∷ [])
