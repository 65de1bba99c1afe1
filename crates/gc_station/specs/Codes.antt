-- Whether a command was answered well, in the codes of its reply's line: this project's own.
use Rattle.gc_station.specs.Common.{ReplyFields, IsReply, Answer, Reading, Asked, Lost, lists_code, no_codes, is_off_target, Expected, ValueFault, OffTarget}
use Rattle.std.specs.Prelude.{◌≡◌, ◌≢◌, ◌⊎◌, ℕ, true, false, List, Some, None}
use Rattle.gc_client.specs.Prelude.{Answered, Late}
use Rattle.gc_station.specs.Marks.{answered_as, end_of, is_well, passes_rules}
use Rattle.gc_station.specs.Saying.{IsSaid}
use Rattle.gc_station.specs.Scopes.{AreReadings, Reads}
use Rattle.gc_catalogue.specs.declared.answer.Reading.TheVariants as reading
use Rattle.gc_texts.specs.Endings as end
use Rattle.gc_texts.specs.declared.quality.Quality.TheVariants as quality

-- `claim` is true if these fields of a reply to `call` have communication code 0 and an accepted return code other than 0, and
-- would say `zeroed` with return code 0, by the form if there is one
abbrev pub IfAccepted : Expected → (call : Asked) → ReplyFields → (zeroed : Reading) → (claim : Type 0) → Type 0
IfAccepted expected call r zeroed claim =
    r.rc_com ≡ 0 → r.rc ≢ 0 → lists_code expected.accepted r.rc ≡ true → IsSaid expected.form call (record r { rc = 0 }) zeroed → claim

-- how a command ended (`ended`) that asked for `call`, and whose reply, `line`, came in time. `r` has the reply's fields.
-- `expected` says by which form the reply is read, if there is one, where the command's target is, if the text says so, which return codes
-- are accepted of it, which values are expected, and with which answer of a first sending its own is compared
pub record EndsByItsCodes (expected : Expected) (call : Asked) (line : List ℕ) (r : ReplyFields) (ended : end.End) : Type 0 where
  -- it was answered well only if the communication code is 0, and the return code is 0 or an accepted one
  pub only : is_well ended ≡ true → (r.rc_com ≡ 0) × ((r.rc ≡ 0) ⊎ (lists_code expected.accepted r.rc ≡ true))
  -- if no code is accepted, both codes have to be 0
  pub without : expected.accepted ≡ no_codes → is_well ended ≡ true → (r.rc_com ≡ 0) × (r.rc ≡ 0)
  -- it wasn't answered well if the reply says neither an answer nor a refusal with an accepted code
  pub unread : (said : Reading) → IsSaid expected.form call r said → ((answer : Answer) → said ≡ reading.Value answer → ⊥)
      → ((code : ℕ) → said ≡ reading.Refused code → lists_code expected.accepted code ≡ false) → is_well ended ≡ false
  -- if both codes are 0, and the parameters are an answer to what was asked, it was answered well, unless a rule of the text sets that
  -- aside
  pub found : (answer : Answer) → IsSaid expected.form call r (reading.Value answer)
      → is_well ended ≡ passes_rules expected (is_off_target expected.near answer) (Some answer) line
  -- and where the answer was measured off target, it ended as off target
  pub away : (answer : Answer) → IsSaid expected.form call r (reading.Value answer) → is_off_target expected.near answer ≡ true
      → ended ≡ end.Judged OffTarget line
  -- as `found`, with an accepted return code other than 0
  pub warned : (answer : Answer)
      → IfAccepted expected call r (reading.Value answer)
      (is_well ended ≡ passes_rules expected (is_off_target expected.near answer) (Some answer) line)
  -- as `away`, with an accepted return code other than 0
  pub warned_away : (answer : Answer)
      → IfAccepted expected call r (reading.Value answer) (is_off_target expected.near answer ≡ true → ended ≡ end.Judged OffTarget line)
  -- with an accepted return code other than 0, and parameters that don't read, it is answered with a warning, and without values, if the
  -- line is as the text expects it; in a chain that is sent twice as its sending has it (`answered_as`)
  pub warned_without : (fault : ValueFault)
      → IfAccepted expected call r (reading.Unreadable fault) (ended ≡ answered_as expected quality.Warning false None line)

-- which commands are answered well
pub record WellIsAnAcceptedCode : Type 0 where
  -- a command that a reply in time ended, by its codes
  pub replied : (reads : Reads) (expected : Expected) (call : Asked) (line : List ℕ) (r : ReplyFields)
      → AreReadings reads → IsReply line r → EndsByItsCodes expected call line r (end_of reads expected call (Answered line))
  -- a command that is late, lost, skipped or missed never
  pub none : (reads : Reads) (expected : Expected) (call : Asked)
      → (is_well (end_of reads expected call Late) ≡ false) × (is_well (end_of reads expected call Lost) ≡ false)
      × (is_well end.Skipped ≡ false) × (is_well end.NoValue ≡ false) × (is_well end.Missed ≡ false)
