-- What is in a row of a table, or in an object, under each name: this project's own. Both are given by the function from a name
-- to the text under it, so that one definition serves both. Where the line of a row's reply comes from is left to a parameter.
use Rattle.gc_program_theorems.specs.Common.{decimal, IsSmallNumber, ReplyFields, IsReply, call_fields, is_of_table, Asked, Table, Raw, SetDate, Answer, IsJudgement, lists_code, is_named, DescriptionSeen, described_as, description_seen, fault_of, word_of, escaped, name_text, quality_word, date_time, stamp_text, Fine, Warning, Unconfirmed, Refused, Task, described_value, is_among, value_text, fault_field, moment_text, procedure_of, request_sent, value_texts, quantity_names, quantities_returned, went_out, accepted_at, form_at, quality_as, twice_at, IsSaid, Record, HasItsRequest, request_of, Scope, CameAt, HasItsMoment, Act, Survey, value_fault_number, ValueFault}
use Rattle.std.specs.Prelude.{◌≡◌, ◌⊎◌, ℕ, Bool, true, false, List, [], Option, None, Some, option_map, if◌then◌else◌, slice_get, codes}
use Rattle.gc_catalogue.specs.declared.answer.Reading.{Reading}
use Rattle.gc_texts.specs.declared.judgement.Judgement.{Judgement}
use Rattle.gc_texts.specs.declared.agree.Twice.{Twice}
use Rattle.gc_texts.specs.declared.codes.Codes.{Codes}
use Rattle.gc_texts.specs.declared.form.Form.{Form}
use Rattle.gc_texts.specs.declared.quality.Quality.{Quality}
use Rattle.gc_catalogue.specs.declared.answer.Reading.TheVariants as reading
pub use Rattle.gc_rows.specs.Lookup.{under}

-- the row says of its record's command, however that ended, when the request was sent and when the command ended, the cycle, the
-- place of the turn, the target, the procedure, the outcome, and the number of the fault of an unreadable reply. Nothing is under
-- `sent` if the record has no moment of sending, and nothing under `fault` if the ending has no fault. `at` gives the text under a name
pub record SaysCommand (at : List ℕ → List ℕ) (r : Record) : Type 0 where
  pub sent : at (codes "sent") ≡ moment_text r.sent
  pub time : at (codes "time") ≡ stamp_text r.utc
  pub cycle : at (codes "cycle") ≡ decimal r.cycle
  pub step : at (codes "step") ≡ decimal r.turn.place
  pub target : at (codes "target") ≡ decimal r.command.target
  pub procedure : at (codes "procedure") ≡ decimal (procedure_of r.command.call)
  pub outcome : at (codes "outcome") ≡ word_of r.end
  pub fault : at (codes "fault") ≡ fault_field (fault_of r.end)

-- the description of the procedure of a record's command, in a run of this survey
abbrev pub description_of : Survey → Record → Option DescriptionSeen
description_of survey r = option_map description_seen (described_as (procedure_of r.command.call) survey.labels.described)

-- the row has what its record says, however the command ended: what `SaysCommand` lists, the attempt of the turn, and the request line,
-- `escaped` (nothing if the record has no moment of sending); and what it has of the run, which measures this survey: the moment at which the run began, and the name of the target, `escaped`
pub record IsRowOf (survey : Survey) (at : List ℕ → List ℕ) (r : Record) : Type 0 where
  pub command : SaysCommand at r
  pub attempt : at (codes "attempt") ≡ decimal r.turn.attempt
  pub request : at (codes "request") ≡ escaped (request_sent r.sent r.id r.command.call)
  pub run : at (codes "run") ≡ stamp_text survey.layout.run
  pub name : at (codes "name") ≡ escaped (name_text r.command.target survey.labels.names)

-- the row has the codes of this line, which is a reply. `at` gives the text under a name
pub record SaysCodes (at : List ℕ → List ℕ) (line : List ℕ) : Type 0 where
  pub reply : ReplyFields
  pub is_reply : IsReply line reply
  pub rc_com : IsSmallNumber (at (codes "rc_com")) reply.rc_com
  pub rc : IsSmallNumber (at (codes "rc")) reply.rc

-- the row of a command that sets the clock: the request asked for the moment that is under `sent`, cut to seconds
pub record IsSetTo (at : List ℕ → List ℕ) (r : Record) : Type 0 where
  pub utc : ℕ
  pub sent : at (codes "sent") ≡ stamp_text utc
  pub asked : r.command.call ≡ Table (SetDate (date_time utc))

-- the outcome, as it is written in a row, is that of a command that a reply in time has ended
abbrev pub IsOutcomeOfReply : List ℕ → Type 0
IsOutcomeOfReply outcome = (outcome ≡ codes "answered") ⊎ (outcome ≡ codes "unreadable") ⊎ ((judgement : Judgement) × IsJudgement outcome judgement)

-- the name is that of a quantity's column
abbrev pub IsQuantity : List ℕ → Type 0
IsQuantity name = (k : ℕ) × (slice_get quantity_names k ≡ Some name)

-- the text of the value of this name in this line, of an answer to a procedure that is described so, by the kinds of the description. Empty if
-- there is no such value, or no description
abbrev pub value_in : Option DescriptionSeen → (line : List ℕ) → (name : List ℕ) → List ℕ
value_in None line name = []
value_in (Some d) line name = value_text (described_value d line name)

-- the text of the quantity of this name in an answer, which came in this line, to what was asked: an answer to a call of the table has the
-- quantities of its call, in the manual's order, and that to a described procedure the values that its description names. Empty if it has
-- no such quantity
abbrev pub quantity_of : Asked → Option DescriptionSeen → Answer → (line : List ℕ) → (name : List ℕ) → List ℕ
quantity_of (Table call) described answer line name = under name (quantities_returned (call_fields call).number) (value_texts answer)
quantity_of (Raw raw) described answer line name = value_in described line name

-- the text of the quantity of this name in a reply to what was asked, this line, by what the reply says. Empty if it is no answer
abbrev pub quantity_in : Asked → Option DescriptionSeen → Reading → (line : List ℕ) → (name : List ℕ) → List ℕ
quantity_in asked described (reading.Value answer) line name = quantity_of asked described answer line name
quantity_in asked described _ line name = []

-- the quality of an answer whose reply says this, if its chain is sent once and these return codes are accepted: fine if it says values, a warning if its
-- communication code is 0 and its return code an accepted one, otherwise refused. (Where the values don't read, the command isn't
-- answered, and its row has no quality.)
abbrev pub quality_in : Codes → Reading → Quality
quality_in accepted (reading.Value answer) = Fine
quality_in accepted (reading.Refused code) = if lists_code accepted code then Warning else Refused
quality_in accepted (reading.ComFault code) = Refused
quality_in accepted (reading.Unreadable fault) = Refused

-- the fields from which a row has its quantities, of a reply that makes an answer of this quality: those of the reply; for a
-- warning, with its return code set to 0
abbrev pub quantity_source : Quality → ReplyFields → ReplyFields
quantity_source Fine reply = reply
quantity_source Warning reply = record reply { rc = 0 }
quantity_source Unconfirmed reply = reply
quantity_source Refused reply = reply

-- a quantity as it is in the row of an answer of this quality: none, if the answer is unconfirmed
abbrev pub shown_as : Quality → List ℕ → List ℕ
shown_as Fine text = text
shown_as Warning text = text
shown_as Unconfirmed text = []
shown_as Refused text = text

-- the procedure that was asked for isn't in the table
abbrev pub IsOutside : Asked → Type 0
IsOutside (Table call) = ⊥
IsOutside (Raw raw) = Unit {0}

-- the answers to a call of the table are read without a form, as they are in each text (`IsRunOfProgram`)
abbrev pub IsPlain : Option Form → Asked → Type 0
IsPlain form (Table call) = form ≡ None
IsPlain form (Raw raw) = Unit {0}

-- the name is that of a column that the description has, and that descriptions add to those of the table
abbrev pub IsAdded : (columns : List (List ℕ)) → Option DescriptionSeen → (name : List ℕ) → Type 0
IsAdded columns None name = ⊥
IsAdded columns (Some d) name = (is_among name columns ≡ true) × (is_named name d.values ≡ true)

-- the row of a command that this line ended, in which `at` gives the text under each name, has the line's codes, and its
-- parameters, `escaped`. If the command is answered, the row has the quality of the answer, by the return codes that are
-- accepted of the command, and by which sending of its chain it is in; and, if rows have quantities, it has those of the line,
-- `escaped`, unless the answer is unconfirmed: under the names of the table's, and under those that the description of the command's
-- procedure, `described`, adds among these columns. The reply is read by the form, if there is one
pub record HasReply (has_quantities : Bool) (at : List ℕ → List ℕ) (twice : Twice) (accepted : Codes) (form : Option Form) (described : Option DescriptionSeen)
    (columns : List (List ℕ)) (call : Asked) (line : List ℕ) : Type 0 where
  pub says : SaysCodes at line
  pub values : at (codes "values") ≡ escaped says.reply.params
  -- what the reply says of the call, and so which quality the answer has
  pub answer_reading : Reading
  pub is_answer_reading : IsSaid form call says.reply answer_reading
  pub quality : at (codes "outcome") ≡ codes "answered" → at (codes "quality") ≡ quality_word (quality_as twice (quality_in accepted answer_reading))
  -- if the command is unreadable, the row has the number of the fault for which the reply's parameters don't read
  pub fault : at (codes "outcome") ≡ codes "unreadable" → (why : ValueFault) × (answer_reading ≡ reading.Unreadable why) × (at (codes "fault") ≡ decimal (value_fault_number why))
  -- what the reply says of the call where its quantities are read, as `quantity_source` has it
  pub quantity_reading : Reading
  pub is_quantity_reading : IsSaid form call (quantity_source (quality_in accepted answer_reading) says.reply) quantity_reading
  pub quantities :
      has_quantities ≡ true → at (codes "outcome") ≡ codes "answered" → IsPlain form call →
      (name : List ℕ) → IsQuantity name → at name ≡ shown_as (quality_as twice (quality_in accepted answer_reading)) (escaped (quantity_in call described quantity_reading line name))
  -- and so it has under the names that the description adds
  pub added :
      has_quantities ≡ true → at (codes "outcome") ≡ codes "answered" → IsOutside call →
      (name : List ℕ) → IsAdded columns described name → at name ≡ shown_as (quality_as twice (quality_in accepted answer_reading)) (escaped (quantity_in call described quantity_reading line name))

-- the row of record `r`, in which `at` gives the text under each name, in a run of this survey with these acts. What it has of a reply is
-- what a line says for which `IsAnswer` holds: it says which lines may have answered the record's command
pub record IsRowBy (IsAnswer : List ℕ → Type 0) (has_quantities : Bool) (at : List ℕ → List ℕ) (survey : Survey) (scope : Scope) (acts : List Act) (r : Record) : Type 0 where
  pub is_of : IsRowOf survey at r
  -- under `time` is the moment of the act by which the command ended
  pub ended : HasItsMoment survey.plan survey.tasks scope acts r
  -- if the command sets the clock and its request was sent, that asked for the moment under `sent`, cut to seconds
  pub clock : (task : Task) → slice_get survey.tasks r.place ≡ Some task → task.now ≡ true → is_of_table task.command.call ≡ true → went_out r.end ≡ true
      → IsSetTo at r
  -- if a request was sent, its line is under `request`, `escaped`, and an act of the run put that line, at the moment under `sent`
  pub asked : went_out r.end ≡ true → HasItsRequest survey.plan survey.tasks scope acts r × (at (codes "request") ≡ escaped (request_of r))
  -- if no request was sent, nothing is under `sent`, nor under `request`
  pub unsent : went_out r.end ≡ false → (at (codes "sent") ≡ []) × (at (codes "request") ≡ [])
  -- if the outcome is that of a reply, the row says what a line says that may have answered the command, and has under `time` the moment
  -- of the read that brought that line
  pub replied :
      IsOutcomeOfReply (at (codes "outcome")) →
      (line : List ℕ) × HasReply has_quantities at (twice_at survey.tasks r.place) (accepted_at survey.tasks r.place) (form_at survey.tasks r.place) (description_of survey r) survey.labels.columns r.command.call line × IsAnswer line
      × CameAt survey.plan survey.tasks scope acts r line
  -- if the outcome isn't `answered`, the row has no quantity, where rows have quantities, and no quality
  pub without : has_quantities ≡ true → (at (codes "outcome") ≡ codes "answered" → ⊥) → (name : List ℕ) → IsQuantity name → at name ≡ []
  pub blank : has_quantities ≡ true → (at (codes "outcome") ≡ codes "answered" → ⊥) → (name : List ℕ) → IsAdded survey.labels.columns (description_of survey r) name → at name ≡ []
  pub unqualified : (at (codes "outcome") ≡ codes "answered" → ⊥) → at (codes "quality") ≡ []
  -- if it isn't `unreadable`, the row has no fault
  pub faultless : (at (codes "outcome") ≡ codes "unreadable" → ⊥) → at (codes "fault") ≡ []
