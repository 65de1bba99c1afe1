-- Chains that are sent twice, this project's own: an answer of a second sending agrees with that of the same command in the first.
-- An act is one call on the link, with its result.
use Rattle.gc_station.specs.Common.{Answer, agrees, Answered, Judged, is_good, Disagree, Quality, Unconfirmed, Task, Turn}
use Rattle.std.specs.Prelude.{◌≡◌, ℕ, ◌+◌, true, List, ◌∷◌, ◌++◌, Option, Some, slice_get}
use Rattle.gc_texts.specs.declared.agree.Agree.{Agree}
use Rattle.gc_station.specs.Firsts.{compares}
use Rattle.gc_station.specs.Records.{Record}
use Rattle.gc_station.specs.Runs.{state_after, OfAnyActs, OfAnyRecord}
use Rattle.gc_texts.specs.declared.agree.Twice.TheVariants as twice

-- among these records is one of the first sending of the command of the text that has this turn, in this cycle: it is of the same place in
-- the text, and of the attempt before. It ended as answered and unconfirmed, with this answer, or none
pub record HasFirst (records : List Record) (cycle : ℕ) (turn : Turn) (answer : Option Answer) : Type 0 where
  pub front : List Record
  pub first : Record
  pub behind : List Record
  pub order : records ≡ front ++ first ∷ behind
  pub own_cycle : first.cycle ≡ cycle
  pub own_place : first.turn.place ≡ turn.place
  pub one_before : turn.attempt ≡ first.turn.attempt + 1
  pub line : List ℕ
  pub answered : first.end ≡ Answered Unconfirmed answer line

-- this answer of the record `r`, or none, agrees within `agree` with that of the first sending, of which there is a record among those
-- before (`HasFirst`)
pub record AgreesWithFirst (agree : Agree) (before : List Record) (r : Record) (answer : Option Answer) : Type 0 where
  pub said : Option Answer
  pub first : HasFirst before r.cycle r.turn said
  pub agreed : agrees agree said answer ≡ true

-- if the record `r` is of a second sending, and ended as answered and isn't refused, its answer agrees with that of the first
-- (`AgreesWithFirst`). `before` are the records before it
abbrev pub IsConfirmed : List Task → (before : List Record) → Record → Type 0
IsConfirmed commands before r =
    (task : Task) (agree : Agree) (nth : ℕ) (quality : Quality) (answer : Option Answer) (line : List ℕ)
    → slice_get commands r.place ≡ Some task → task.twice ≡ twice.Second agree nth → r.end ≡ Answered quality answer line → is_good quality ≡ true
    → AgreesWithFirst agree before r answer

-- if the record `r` is of a first sending, and ended as answered, and isn't refused, it is unconfirmed
abbrev pub IsUnconfirmed : List Task → Record → Type 0
IsUnconfirmed commands r =
    (task : Task) (quality : Quality) (answer : Option Answer) (line : List ℕ)
    → slice_get commands r.place ≡ Some task → task.twice ≡ twice.First → r.end ≡ Answered quality answer line → is_good quality ≡ true → quality ≡ Unconfirmed

-- if the record `r` is of a second sending, and ended as answered and isn't refused, its answer is compared in all that it has in columns
abbrev pub IsComparedInFull : List Task → Record → Type 0
IsComparedInFull commands r =
    (task : Task) (agree : Agree) (nth : ℕ) (quality : Quality) (answer : Option Answer) (line : List ℕ)
    → slice_get commands r.place ≡ Some task → task.twice ≡ twice.Second agree nth → r.end ≡ Answered quality answer line → is_good quality ≡ true
    → compares task.form ≡ true

-- if the record `r` ended as disagreeing, it is of a second sending
abbrev pub DisagreesInSecond : List Task → Record → Type 0
DisagreesInSecond commands r =
    (task : Task) (line : List ℕ) → slice_get commands r.place ≡ Some task → r.end ≡ Judged Disagree line
    → (agree : Agree) × (nth : ℕ) × (task.twice ≡ twice.Second agree nth)

-- what the records of a chain that is sent twice say of each other
pub record AgreedRowsAgree : Type 0 where
  -- after any acts, `IsConfirmed` holds of each record, with the records before it
  pub second : OfAnyActs (λ plan commands scope acts.
      (earlier later : List Record) (r : Record) → (state_after plan commands scope acts).records ≡ earlier ++ r ∷ later → IsConfirmed commands earlier r)
  -- after any acts, `IsComparedInFull` holds of each record
  pub compared : OfAnyRecord (λ commands scope r. IsComparedInFull commands r)
  -- and `IsUnconfirmed` holds of each record
  pub first : OfAnyRecord (λ commands scope r. IsUnconfirmed commands r)
  -- and `DisagreesInSecond` does
  pub disagree : OfAnyRecord (λ commands scope r. DisagreesInSecond commands r)
