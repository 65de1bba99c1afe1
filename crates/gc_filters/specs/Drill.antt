-- What a schedule that is played writes: this project's own. A run of events ends with a wire: the line, the instrument, and
-- the lists and counts of what has happened.
use Rattle.gc_filters.specs.Common.{Appends, Ports, TakesPart, State, Event, played, Wire, FirstFaulty, MemoryOnlyIf, FailsAtRead, IsReadFault, GaveBytes, IsReadToEnd, source_of, TEXT_LIMIT, RunFault, Schedule, Output}
use Rattle.std.specs.Prelude.{◌≡◌, ℕ, ◌+◌, ◌<◌, ◌≤◌, Bool, true, false, List, length, Option, Result, Ok, Err}
use Rattle.gc_filters.specs.Reports.{run_text}
use Rattle.gc_filters.specs.Schedule.{IsEvent, IsSchedule}
use Rattle.gc_filters.specs.declared.report_text.Totals.{Totals}

-- the counts of a run, by the wire with which it ends
abbrev pub totals_of : {S : Type 0} → Wire S → Totals
totals_of w = record {
  sent = length w.sent;
  executed = length w.executed;
  made = length w.made;
  settled = length w.settled;
  refused = w.refused;
  idle = w.idle;
}

-- what is written of a run: its settlements, and after them the totals if they are asked for
abbrev pub wire_text : {S : Type 0} → Wire S → (totals : Bool) → List ℕ
wire_text w totals = run_text w.settled (totals_of w) totals

-- what is written of events that are played on an instrument with this opening state, with a window of this width
unfoldable pub drill_text_on : (opening : State) → (width : ℕ) → List Event → (totals : Bool) → List ℕ
drill_text_on opening width events totals = wire_text (played width opening events).wire totals

-- the text is a schedule, and a sink took all that is written of its events (`text_of`), with the line of totals if `totals` is true
abbrev pub PlaysAll : (text_of : List Event → (totals : Bool) → List ℕ) → (text : List ℕ) → (totals : Bool) → (old new : Option (List ℕ)) → Type 0
PlaysAll text_of text totals old new = (events : List Event) × IsSchedule text events × Appends old new (text_of events totals)

-- the text is a schedule, and a sink took only a part of what is written of its events, as for `PlaysAll`
abbrev pub PlaysPart : (text_of : List Event → (totals : Bool) → List ℕ) → (text : List ℕ) → (totals : Bool) → (old new : Option (List ℕ)) → Type 0
PlaysPart text_of text totals old new = (events : List Event) × IsSchedule text events × TakesPart old new (text_of events totals)

-- what a sink took by the result of a drill whose source gave these bytes: all that is written of the events of their schedule,
-- or, with `Output`, a part of it. With any other fault it took nothing: `Schedule` has the number of the schedule's first faulty
-- line, and else reading had the fault (`IsReadFault`). The bytes aren't too long, unless that is the fault
abbrev pub DrillsAs : (text_of : List Event → (totals : Bool) → List ℕ) → (given : List ℕ) → (totals : Bool) → (old new : Option (List ℕ))
    → Result (Unit {0}) RunFault → Type 0
DrillsAs text_of given totals old new (Ok _) = (length given ≤ TEXT_LIMIT) × PlaysAll text_of given totals old new
DrillsAs text_of given totals old new (Err (Schedule n)) = (length given ≤ TEXT_LIMIT) × FirstFaulty IsEvent given n × (new ≡ old)
DrillsAs text_of given totals old new (Err Output) = (length given ≤ TEXT_LIMIT) × PlaysPart text_of given totals old new
DrillsAs text_of given totals old new (Err fault) = IsReadFault given fault × (new ≡ old)

-- whether this result shows that a drill has read its source to the end: it has where the schedule was played, or has a faulty line. With
-- `Memory` it may have, too, but the result doesn't show it
abbrev pub is_read_whole : Result (Unit {0}) RunFault → Bool
is_read_whole (Ok _) = true
is_read_whole (Err (Schedule n)) = true
is_read_whole (Err Output) = true
is_read_whole (Err _) = false

-- whether the sink has failed after a drill with this result; `failed` says whether it had before
abbrev pub output_failed : Result (Unit {0}) RunFault → (failed : Bool) → Bool
output_failed (Err Output) failed = true
output_failed _ failed = failed

-- a drill took source and sink from `old` to `new`, with this result. `text_of` gives what is written of events that are played
-- on its instrument, as for `DrillsAs`, and `totals` says whether the line of totals is asked for
pub record IsDrill (text_of : List Event → (totals : Bool) → List ℕ) (totals : Bool) (old new : Ports) (result : Result (Unit {0}) RunFault) : Type 0 where
  -- which bytes the source gave, and how much of their schedule's output the sink took. Each answered read gave at least one
  -- byte, except a last one that was the end. After the end nothing was read
  pub writes : GaveBytes (source_of old) (source_of new) (λ given. DrillsAs text_of given totals old.taken new.taken result)
  -- at most 65,537 reads were answered
  pub bounded : new.reads ≤ old.reads + (TEXT_LIMIT + 1)
  -- a schedule is played, or found faulty, only if the last read was the end, and the source has no byte left
  pub whole : is_read_whole result ≡ true → IsReadToEnd (source_of old) (source_of new)
  -- `Memory` comes only after a read that was answered
  pub memory : MemoryOnlyIf (old.reads < new.reads) result
  -- `Read` exactly if the source failed, and `Output` exactly if the sink did
  pub source : FailsAtRead old.source_failed new.source_failed result
  pub sink : new.sink_failed ≡ output_failed result old.sink_failed
