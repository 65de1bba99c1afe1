-- What the quality of an answer says of its line, this project's own: fine with both codes 0, a warning with a return code that
-- the text accepts of that command, unconfirmed with either in the first sending of a chain that is sent twice, and else refused.
use Rattle.gc_station.specs.Common.{Answer, Reading, Asked, lists_code, no_codes, Answered, is_good, as_zero, Twice, First, Codes, Form, Quality, Fine, Warning, Unconfirmed, Task}
use Rattle.std.specs.Prelude.{◌≡◌, ℕ, true, false, List, Option, Some, None}
use Rattle.gc_texts.specs.declared.quality.Quality.TheVariants.{Refused}
use Rattle.gc_station.specs.NextCommand.{expected_at}
use Rattle.gc_station.specs.Records.{Record}
use Rattle.gc_station.specs.Runs.{OfAnyRecord}
use Rattle.gc_station.specs.Saying.{Says}
use Rattle.gc_station.specs.Scopes.{Reads}
use Rattle.gc_catalogue.specs.declared.answer.Reading.TheVariants as reading

-- the answer that a reading has; `None` if it is a refusal, a fault of communication or unreadable
abbrev pub answer_in : Reading → Option Answer
answer_in (reading.Value answer) = Some answer
answer_in _ = None

-- a reading is a refusal with a return code that isn't in `accepted`, or a fault of communication
abbrev pub IsRefusedReading : Codes → Reading → Type 0
IsRefusedReading accepted (reading.Value answer) = ⊥
IsRefusedReading accepted (reading.Refused code) = lists_code accepted code ≡ false
IsRefusedReading accepted (reading.ComFault code) = Unit {0}
IsRefusedReading accepted (reading.Unreadable fault) = ⊥

-- `line`, the reply to `call`, says an answer, and the record has it (`said`)
abbrev pub SaysAnswer : Says → Asked → (said : Option Answer) (line : List ℕ) → Type 0
SaysAnswer says call said line = (answer : Answer) × (said ≡ Some answer) × (says call line ≡ reading.Value answer)

-- `line`, the reply to `call`, says a refusal with a code of `accepted`, and the record has the answer, if any, that it would say with
-- return code 0 (`said`)
abbrev pub SaysAccepted : Says → (accepted : Codes) → Asked → (said : Option Answer) (line : List ℕ) → Type 0
SaysAccepted says accepted call said line =
    (code : ℕ) × (says call line ≡ reading.Refused code) × (lists_code accepted code ≡ true) × (said ≡ answer_in (says call (as_zero line)))

-- what `line`, the reply to `call`, says if its answer is of this quality, and which values its record has (`said`)
abbrev pub IsOfQuality : Says → (accepted : Codes) → Asked → Quality → (said : Option Answer) (line : List ℕ) → Type 0
-- the line says an answer
IsOfQuality says accepted call Fine said line = SaysAnswer says call said line
-- the line says a refusal with an accepted code
IsOfQuality says accepted call Warning said line = SaysAccepted says accepted call said line
-- no line says by itself that its answer is unconfirmed (`quality_as`)
IsOfQuality says accepted call Unconfirmed said line = ⊥
-- the line says any other refusal or a fault of communication, and the record has no answer
IsOfQuality says accepted call Refused said line = (said ≡ None) × IsRefusedReading accepted (says call line)

-- the quality of an answer in a sending of its chain, which would have this one if its chain were sent once: a good one of a first sending
-- is unconfirmed
abbrev pub quality_as : Twice → Quality → Quality
quality_as First Fine = Unconfirmed
quality_as First Warning = Unconfirmed
quality_as _ quality = quality

-- which sending of its chain the command at `place` in the list `commands` is in
abbrev pub twice_at : List Task → (place : ℕ) → Twice
twice_at commands place = (expected_at commands place).twice

-- the return codes that are accepted of the command at `place` in the list `commands`
abbrev pub accepted_at : List Task → (place : ℕ) → Codes
accepted_at commands place = (expected_at commands place).accepted

-- the form by which the answers of the command at `place` in the list `commands` are read, if there is one
abbrev pub form_at : List Task → (place : ℕ) → Option Form
form_at commands place = (expected_at commands place).form

-- the record `r` is an answer of a good quality: with both codes 0 and values that read, or with a return code that is accepted
-- of its command, confirmed or not. `line` is its reply, and `said` the values that it has; the line says them, with the quality `plain`, which
-- its sending makes the record's (`says`, `sent_as`)
pub record IsGoodAnswer (reads : Reads) (commands : List Task) (r : Record) : Type 0 where
  pub line : List ℕ
  pub quality : Quality
  pub said : Option Answer
  pub answered : r.end ≡ Answered quality said line
  pub well : is_good quality ≡ true
  pub plain : Quality
  pub sent_as : quality ≡ quality_as (twice_at commands r.place) plain
  pub says : IsOfQuality (reads (form_at commands r.place)) (accepted_at commands r.place) r.command.call plain said line

-- if the record `r` is answered, its answer has the quality of its line, by the codes that are accepted of its command, in its sending
abbrev pub IsAsListed : Reads → List Task → Record → Type 0
IsAsListed reads commands r =
    (quality : Quality) (said : Option Answer) (line : List ℕ) → r.end ≡ Answered quality said line
    → (plain : Quality) × (quality ≡ quality_as (twice_at commands r.place) plain) × IsOfQuality (reads (form_at commands r.place)) (accepted_at commands r.place) r.command.call plain said line

-- after any acts `IsAsListed` holds of each record
abbrev pub QualitiesAreAsListed : Type 0
QualitiesAreAsListed = OfAnyRecord (λ commands scope r. IsAsListed scope.reads commands r)

-- if no code is accepted, the line of an answer of a good quality has both codes 0, and values that read
abbrev pub GoodIsAnAnswer : Type 0
GoodIsAnAnswer =
    (says : Says) (call : Asked) (quality : Quality) (said : Option Answer) (line : List ℕ)
    → IsOfQuality says no_codes call quality said line → is_good quality ≡ true
    → (answer : Answer) × (said ≡ Some answer) × (says call line ≡ reading.Value answer)
