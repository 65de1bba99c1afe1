-- Marks, this project's own: for each outstanding request, which command of which cycle it is; a null procedure of the
-- station's own has none.
use Rattle.gc_station.specs.Common.{Answer, Reading, Asked, Settlement, Outcome, Lost, Wish, agrees, lists_code, End, meets, is_off_target, is_good, is_confirmed, as_zero, Judgement, OffTarget, Unexpected, Disagree, Expected, Occasion, Twice, Quality}
use Rattle.std.specs.Prelude.{ℕ, suc, Bool, true, false, List, [], ◌∷◌, map, Option, Some, None, ◌&&◌, not, slice_get, unwrap_or}
use Rattle.gc_client.specs.Prelude.{Answered, Late}
use Rattle.gc_station.specs.declared.mark.Mark.{Mark}
use Rattle.gc_station.specs.Records.{Record}
use Rattle.gc_station.specs.Scopes.{Reads}
use Rattle.gc_catalogue.specs.declared.answer.Reading.TheVariants as reading
use Rattle.gc_texts.specs.declared.agree.Twice.TheVariants as twice
use Rattle.gc_texts.specs.declared.quality.Quality.TheVariants as quality
use Rattle.gc_texts.specs.Endings as end

-- how many of these marks are of commands; a null procedure has none
abbrev pub commands_in : List (Option Mark) → ℕ
commands_in [] = 0
commands_in (None ∷ marks) = commands_in marks
commands_in (Some mark ∷ marks) = suc (commands_in marks)

-- the first of these marks; `None` also if there is none
abbrev pub first_mark : List (Option Mark) → Option Mark
first_mark marks = unwrap_or (slice_get marks 0) None

-- the mark of a command whose request has this id
abbrev pub with_id : (id : ℕ) → Mark → Mark
with_id id mark = record mark { id = id }

-- the mark of a command that is sent when files have these values
abbrev pub with_values : (values : List (List ℕ)) → Mark → Mark
with_values values mark = record mark { expected = record mark.expected { values = values } }

-- what a request with this mark takes from the moment at which it is sent: that moment, and the values of files
abbrev pub occasion_of : Mark → Occasion
occasion_of mark = record { utc = mark.sent; values = mark.expected.values }

-- those of `xs` that are of commands, each with its mark. The marks are those of all outstanding requests, the oldest first, and
-- `xs` has one for each of these, or for each of the oldest ones; a null procedure has no mark, and is left out
abbrev pub with_marks : {A : Type 0} → List (Option Mark) → (xs : List A) → List (Mark × A)
with_marks [] xs = []
with_marks (mark ∷ marks) [] = []
with_marks (None ∷ marks) (x ∷ xs) = with_marks marks xs
with_marks (Some mark ∷ marks) (x ∷ xs) = (mark, x) ∷ with_marks marks xs

-- whether an answer, or none, may end a command as answered, by which sending of its chain it is of: one of a second sending only if there
-- is an answer of the first, `first`, and it agrees with that; any other always
abbrev pub agrees_in : Twice → (first : Option (Option Answer)) → (answer : Option Answer) → Bool
agrees_in (twice.Second agree nth) None answer = false
agrees_in (twice.Second agree nth) (Some first) answer = agrees agree first answer
agrees_in _ first answer = true

-- the quality of an answer that would have this one if its chain were sent once: in a first sending it is unconfirmed
abbrev pub quality_in : Twice → Quality → Quality
quality_in twice.First q = quality.Unconfirmed
quality_in _ q = q

-- the judgement of the rules of a command's text, in their order, on an answer: it was measured elsewhere than the target is (`away`), its
-- values are as the text expects them (`met`), and, in a second sending, it agrees with that of the first (`agreed`). `None`: no rule sets it
-- aside
abbrev pub judgement_of : (away met agreed : Bool) → Option Judgement
judgement_of true met agreed = Some OffTarget
judgement_of false false agreed = Some Unexpected
judgement_of false true false = Some Disagree
judgement_of false true true = None

-- the judgement on a reply, `line`, that has this answer, or none
abbrev pub judged_by : Expected → (away : Bool) → (answer : Option Answer) → (line : List ℕ) → Option Judgement
judged_by expected away answer line =
    judgement_of away (meets expected.expects expected.before line) (agrees_in expected.twice expected.first answer)

-- whether no rule sets that reply aside
abbrev pub passes_rules : Expected → (away : Bool) → (answer : Option Answer) → (line : List ℕ) → Bool
passes_rules expected away answer line =
    not away && meets expected.expects expected.before line && agrees_in expected.twice expected.first answer

-- how a command ends whose reply, `line`, would end it so: as judged, if there is a judgement
abbrev pub unless_judged : Option Judgement → End → (line : List ℕ) → End
unless_judged None so line = so
unless_judged (Some judgement) so line = end.Judged judgement line

-- how a command ends whose reply, `line`, has this answer, or none, and this quality: as answered, unless a rule sets it aside
abbrev pub answered_as : Expected → Quality → (away : Bool) → (answer : Option Answer) → (line : List ℕ) → End
answered_as expected quality away answer line =
    unless_judged (judged_by expected away answer line) (end.Answered (quality_in expected.twice quality) answer line) line

-- how a command ends whose reply, `line`, has a return code that is accepted. The reading is what the line would say with
-- return code 0. If that is an answer, the command ends with a warning and the answer, and otherwise with a warning and no answer, unless
-- a rule sets it aside
abbrev pub warned_as : Expected → Reading → List ℕ → End
warned_as expected (reading.Value answer) line = answered_as expected quality.Warning (is_off_target expected.near answer) (Some answer) line
warned_as expected _ line = answered_as expected quality.Warning false None line

-- how a command ends whose reply, `line`, has a return code other than 0, which is accepted or not. The line would say `zeroed`
-- with return code 0. `expected` says where the command's target is, if the text says so, which values are expected, and with which answer
-- its own is compared
abbrev pub refused_as : (accepted : Bool) → Expected → (zeroed : Reading) → (line : List ℕ) → End
refused_as true expected zeroed line = warned_as expected zeroed line
refused_as false expected zeroed line = end.Answered quality.Refused None line

-- how a command ends whose reply, `line`, came in time. The line says `said`, and would say `zeroed` with return code 0;
-- `expected` says where the target is, if the text says so, which return codes are accepted, which values are expected, and with which
-- answer of a first sending the answer is compared. An answer ends it as `answered_as` says, and a return code as `refused_as` does. It is
-- unreadable if its values don't read, and refused with a communication code
abbrev pub answer_as : Expected → (said zeroed : Reading) → (line : List ℕ) → End
answer_as expected (reading.Unreadable fault) zeroed line = end.Unreadable line fault
answer_as expected (reading.Value answer) zeroed line = answered_as expected quality.Fine (is_off_target expected.near answer) (Some answer) line
answer_as expected (reading.Refused code) zeroed line = refused_as (lists_code expected.accepted code) expected zeroed line
answer_as expected (reading.ComFault code) zeroed line = end.Answered quality.Refused None line

-- how a command ended that asked for `call`, if its request had this outcome, and `expected` is expected of its answer, with the form by which
-- it is read, if there is one
abbrev pub end_of : Reads → Expected → Asked → Outcome → End
end_of reads expected call (Answered line) = answer_as expected (reads expected.form call line) (reads expected.form call (as_zero line)) line
end_of reads expected call Late = end.Late
end_of reads expected call Lost = end.Lost

-- the command whose request was settled
abbrev pub command_of : Settlement Asked → Wish
command_of settlement = record { target = settlement.target; call = settlement.call }

-- the record of a command with `mark`, made at the moment `utc`, by the clock of time stamps, with this ending. It was sent at
-- the moment `sent`, or wasn't sent (`None`)
abbrev pub record_with : (utc : ℕ) → Mark → (sent : Option ℕ) → (command : Wish) → (ending : End) → Record
record_with utc mark sent command ending = record {
  sent = sent;
  id = mark.id;
  utc = utc;
  cycle = mark.cycle;
  place = mark.place;
  turn = mark.expected.turn;
  command = command;
  end = ending;
}

-- the record of the command with `mark` whose request was settled at the moment `utc`
abbrev pub record_of : Reads → (utc : ℕ) → Mark → Settlement Asked → Record
record_of reads utc mark settlement =
    record_with utc mark (Some mark.sent) (command_of settlement) (end_of reads mark.expected settlement.call settlement.outcome)

-- the records of these settlements, by the marks of all outstanding requests (`with_marks`), all made at the moment `utc`
abbrev pub records_of : Reads → (utc : ℕ) → List (Option Mark) → List (Settlement Asked) → List Record
records_of reads utc marks settlements = map (λ (x : Mark × Settlement Asked). record_of reads utc x.0 x.1) (with_marks marks settlements)

-- whether a command with this ending was answered well: with an answer of a good quality, fine or with a warning
abbrev pub is_well : End → Bool
is_well (end.Answered quality answer line) = is_good quality
is_well _ = false

-- whether a command with this ending was answered well, and its answer doesn't wait to be confirmed by a second sending
abbrev pub ended_confirmed : End → Bool
ended_confirmed (end.Answered quality answer line) = is_confirmed quality
ended_confirmed _ = false

-- whether a command that ended as unexpected was recorded, once one more command with this ending was; `was`: whether one had before
abbrev pub unexpected_noted : End → (was : Bool) → Bool
unexpected_noted (end.Judged Unexpected line) was = true
unexpected_noted _ was = was

-- whether one of these records is of a command that ended as unexpected; true if `was` is
abbrev pub any_unexpected : (was : Bool) → List Record → Bool
any_unexpected was [] = was
any_unexpected was (r ∷ others) = any_unexpected (unexpected_noted r.end was) others

-- whether the last of these records is of a command that was answered well; if there are none, `well`
abbrev pub last_well : (well : Bool) → List Record → Bool
last_well well [] = well
last_well well (r ∷ others) = last_well (is_well r.end) others
