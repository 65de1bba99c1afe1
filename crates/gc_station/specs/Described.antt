-- Answers of described procedures, this project's own: whatever the line, the instrument or its operator did, an answer of a command whose
-- procedure the text describes is read by that description.
use Rattle.gc_station.specs.Common.{ReplyFields, IsReply, ValueFault, Answer, Answered, Unreadable, line_of, IsFormAnswer, IsFormFault, Form, Quality, Task}
use Rattle.std.specs.Prelude.{◌≡◌, ℕ, List, Some}
use Rattle.gc_station.specs.Qualities.{form_at}
use Rattle.gc_station.specs.Records.{Record}
use Rattle.gc_station.specs.Runs.{OfAnyRecord}
use Rattle.gc_station.specs.Scopes.{AreReadings}

-- the record `r` is of a reply in time, `line`, with the fields `reply`, to a command whose answers are read by `form`
pub record IsReadBy (form : Form) (r : Record) (line : List ℕ) (reply : ReplyFields) : Type 0 where
  -- if it is answered, with an answer, the parameters are values of the form's kinds, and the answer has of these what says where it was
  -- measured
  pub answered : (quality : Quality) (answer : Answer) → r.end ≡ Answered quality (Some answer) line → IsFormAnswer form reply.params answer
  -- if it is unreadable, both codes are 0, and the parameters aren't values of these kinds, for the very fault that it has
  pub unreadable : (why : ValueFault) → r.end ≡ Unreadable line why → (reply.rc_com ≡ 0) × (reply.rc ≡ 0) × IsFormFault form reply.params why
  -- and if both codes are 0, and the parameters aren't values of these kinds, it is unreadable, for that fault
  pub faulty : (why : ValueFault) → reply.rc_com ≡ 0 → reply.rc ≡ 0 → IsFormFault form reply.params why → r.end ≡ Unreadable line why

-- if the record `r` is of a reply in time to a command whose answers are read by a form, it is as that form reads the reply
abbrev pub IsReadByItsForm : List Task → Record → Type 0
IsReadByItsForm commands r =
    (form : Form) (line : List ℕ) (reply : ReplyFields) → form_at commands r.place ≡ Some form → line_of r.end ≡ Some line → IsReply line reply
    → IsReadBy form r line reply

-- after any acts, `IsReadByItsForm` holds of each record, where the scope gives each line's reading
abbrev pub DescribedAnswersAreReadByTheirKinds : Type 0
DescribedAnswersAreReadByTheirKinds = OfAnyRecord (λ commands scope r. AreReadings scope.reads → IsReadByItsForm commands r)
