-- What a station does with the tasks of a text, what it writes of them, and how its end is reported: this project's own. A
-- `Snapshot` is what was seen of link and sink before one act.
use Rattle.gc_measuring.specs.Common.{decimal, Consumes, Appends, Input, GaveBytes, described_as, description_seen, name_text, TasksSeen, Settings, Act, Snapshot, KeepsUpBy, close_at_output, Record, RunSeen, RanBy, LastUnlessFailed, watched_of, ForEachAndSomeReadings, Plan, Tally, procedure_of, Entry, record_text, head_text, RunFault, Output, Task}
use Rattle.std.specs.Prelude.{◌≡◌, ℕ, Bool, true, ◌⊎◌, List, [], ◌++◌, if◌then◌else◌, Option, option_map, Result, Ok, Err, codes}
use Rattle.gc_measuring.specs.Choices.{plan_of}
use Rattle.gc_measuring.specs.Labels.{LabelsSeen, labels_of}
use Rattle.gc_measuring.specs.Stops.{stop_text, end_of_run}
use Rattle.gc_measuring.specs.TaskTexts.{GivesTasks, RefusesTasks}
use Rattle.gc_options.specs.declared.layout.Layout.{Layout}
use Rattle.gc_measuring.specs.declared.stop.Stop.{Stop}
use Rattle.gc_measuring.specs.declared.stop.Stop.TheVariants.{Run}
use Rattle.gc_lines.specs.Prelude.{TakesFront}
use Rattle.gc_rows.specs.declared.when.When.{When}

-- the moments, the id, the cycle, the place and the turn of a record, in a run that began at `run`, in milliseconds since 1970-01-01, UTC
abbrev pub when_of : (run : ℕ) → Record → When
when_of run r = record { run = run; stamp = record { sent = r.sent; id = r.id; utc = r.utc; cycle = r.cycle; place = r.place; turn = r.turn } }

-- what a layout has of a record with these labels
abbrev pub entry_in : Layout → LabelsSeen → Record → Entry
entry_in layout labels r = record {
  when = when_of layout.run r;
  name = name_text r.command.target labels.names;
  command = r.command;
  end = r.end;
  described = option_map description_seen (described_as (procedure_of r.command.call) labels.described);
  columns = labels.columns;
}

-- the text of a record in a layout with these labels
abbrev pub text_in : Layout → LabelsSeen → Record → List ℕ
text_in layout labels r = record_text layout.form (entry_in layout labels r)

-- what is to be written before the records, where tables have these columns beside those of the table's quantities: nothing if the sink
-- has its header already
abbrev pub front_text : Layout → (columns : List (List ℕ)) → List ℕ
front_text layout columns = if layout.headed then [] else head_text layout.form columns

-- what is seen of a station's ports at one moment: its source; the acts that its link recorded, the bytes that its sink took and
-- those that were written on its messages, if these are known; and what was seen of link and sink at each act so far (`turns`)
pub record PortsSeen : Type 0 where
  pub input : Input
  pub acts : Option (List Act)
  pub taken : Option (List ℕ)
  pub messages : Option (List ℕ)
  pub turns : List Snapshot

-- the run ended with `Output`, because the sink failed before the records: of what comes before them it took the first `bytes`
-- bytes, not all, and nothing else was done
pub record FailsInFront (layout : Layout) (columns : List (List ℕ)) (old new : PortsSeen) (result : Result Tally Stop) : Type 0 where
  pub is : result ≡ Err (Run Output)
  pub bytes : ℕ
  pub took : TakesFront old.taken new.taken bytes (front_text layout columns)
  pub acts : new.acts ≡ old.acts
  pub messages : new.messages ≡ old.messages
  pub turns : new.turns ≡ old.turns

-- what a run measures: tasks, by a plan, in at most `max_turns` acts, with its records in a layout, and their labels
pub record Survey : Type 0 where
  pub plan : Plan
  pub tasks : List Task
  pub max_turns : ℕ
  pub layout : Layout
  pub labels : LabelsSeen

-- the text of a record of this survey
abbrev pub text_by : Survey → Record → List ℕ
text_by survey = text_in survey.layout survey.labels

-- what a station measures, in at most `max_turns` acts, of a text with these tasks and labels
abbrev pub survey_of : Settings → (max_turns : ℕ) → TasksSeen → Survey
survey_of station max_turns all =
    record { plan = plan_of station.choice station.layout.run all.setup all.tasks; tasks = all.tasks; max_turns = max_turns; layout = station.layout; labels = labels_of all }

-- what is seen of the link and the book of a run that measures this survey, by what is seen of its ports
abbrev pub run_in : Survey → PortsSeen → RunSeen
run_in survey seen = record { acts = seen.acts; text = text_by survey; taken = seen.taken }

-- a run over a link wrote the records that its acts give of the tasks into a sink, and ended with `end` (`RanBy`); and at each
-- act all that the acts before it settled was recorded, and lasted unless the act is a mere reading of the clock (`KeepsUpBy`). If
-- the sink failed the connection was closed at the end (`close_at_output`)
pub record RunsSurvey (survey : Survey) (old new : PortsSeen) (end : Result Tally RunFault) : Type 0 where
  pub ran : ForEachAndSomeReadings (RanBy survey.plan survey.tasks survey.max_turns (watched_of survey.plan.setup survey.tasks) (run_in survey old) (run_in survey new) end)
  pub keeps : ForEachAndSomeReadings (KeepsUpBy survey.plan survey.tasks survey.max_turns (watched_of survey.plan.setup survey.tasks) (run_in survey old) (run_in survey new)
      old.turns new.turns (close_at_output end))

-- the sink took what comes before the records, and then what a run over the link records of the tasks (`RunsSurvey`). `between`
-- is what the sink had taken before the records
pub record RunsAfterFront (survey : Survey) (old new : PortsSeen) (result : Result Tally Stop) : Type 0 where
  pub between : Option (List ℕ)
  pub front : Appends old.taken between (front_text survey.layout survey.labels.columns)
  pub end : Result Tally RunFault
  pub is : result ≡ end_of_run end
  pub run : RunsSurvey survey (record old { taken = between }) new end

-- nothing was done over the link, and nothing written
pub record IsUnused (old new : PortsSeen) : Type 0 where
  pub acts : new.acts ≡ old.acts
  pub taken : new.taken ≡ old.taken
  pub messages : new.messages ≡ old.messages
  pub turns : new.turns ≡ old.turns

-- the text `given` by a source was refused, and then nothing was done over the link, and nothing written; or the sink failed
-- before the records; or the text's tasks were measured, in at most `max_turns` acts
abbrev pub Measures : (given : List ℕ) → Settings → (max_turns : ℕ) → (old new : PortsSeen) → Result Tally Stop → Type 0
Measures given station max_turns old new result =
    ((stop : Stop) × (result ≡ Err stop) × RefusesTasks given old.input new.input stop × IsUnused old new)
    ⊎ ((all : TasksSeen) × GivesTasks given old.input new.input station.choice all
    × (FailsInFront station.layout (labels_of all).columns old new result ⊎ RunsAfterFront (survey_of station max_turns all) old new result))

-- a source gave bytes, by at most one read for each and one for the end, and of these `Measures` holds, in at most `max_turns`
-- acts
abbrev pub MeasuresText : Settings → (max_turns : ℕ) → (old new : PortsSeen) → Result Tally Stop → Type 0
MeasuresText station max_turns old new result = GaveBytes old.input new.input (λ given. Measures given station max_turns old new result)

-- as many acts as a u64 counts
abbrev pub most_turns : ℕ
most_turns = 18446744073709551615

-- a source gave bytes, by any number of reads, and of these `Measures` holds, in at most `most_turns` acts
abbrev pub MeasuresGiven : Settings → (old new : PortsSeen) → Result Tally Stop → Type 0
MeasuresGiven station old new result =
    (given : List ℕ) × Consumes old.input.remaining new.input.remaining given × Measures given station most_turns old new result

-- a source gave a text to its end, and the run over its tasks, in at most `most_turns` acts, is done, or its end was asked for
pub record IsMeasured (station : Settings) (old new : PortsSeen) : Type 0 where
  pub given : List ℕ
  pub takes : Consumes old.input.remaining new.input.remaining given
  pub all : TasksSeen
  pub gives : GivesTasks given old.input new.input station.choice all
  pub tally : Tally
  pub ran : RunsAfterFront (survey_of station most_turns all) old new (Ok tally)

-- if the text was refused nothing was done over the link, and nothing written; a stop other than `Run` is such a refusal
abbrev pub IsUnusedIfRefused : (old new : PortsSeen) → Result Tally Stop → Type 0
IsUnusedIfRefused old new (Ok _) = Unit {0}
IsUnusedIfRefused old new (Err (Run fault)) = Unit {0}
IsUnusedIfRefused old new (Err _) = IsUnused old new

-- all records last, as `is_durable` says; nothing is said where the text was refused or the sink failed
abbrev pub AllLast : (is_durable : Bool) → Result Tally Stop → Type 0
AllLast is_durable (Ok _) = is_durable ≡ true
AllLast is_durable (Err (Run fault)) = LastUnlessFailed {X = Tally} is_durable (Err fault)
AllLast is_durable (Err _) = Unit {0}

-- the line of a cycle that was not done when the next was due
abbrev pub overrun_line : (cycle : ℕ) → List ℕ
overrun_line cycle = codes "geocom: cycle " ++ decimal cycle ++ codes " was not done when the next was due\n"

-- the front of the line of the counts: how many commands were answered, how many of these were refused, and how many were late
abbrev pub main_counts_text : Tally → List ℕ
main_counts_text t = codes "answered " ++ decimal t.answered ++ codes " (refused " ++ decimal t.refused ++ codes ") late " ++ decimal t.late ++ codes " "

-- what follows in the line of the counts: how many commands were lost, skipped and unreadable
abbrev pub other_counts_text : Tally → List ℕ
other_counts_text t = codes "lost " ++ decimal t.lost ++ codes " skipped " ++ decimal t.skipped ++ codes " unreadable " ++ decimal t.unreadable ++ codes " "

-- what follows then: how many commands were missed, off target, unexpected and in disagreement
abbrev pub judged_counts_text : Tally → List ℕ
judged_counts_text t =
    codes "missed " ++ decimal t.missed ++ codes " off_target " ++ decimal t.judged.off_target ++ codes " unexpected " ++ decimal t.judged.unexpected ++ codes " disagree " ++ decimal t.judged.disagree

-- the end of the line of the counts: how many times a chain was sent again
abbrev pub repeats_text : Tally → List ℕ
repeats_text t = codes " retried " ++ decimal t.retried ++ codes "\n"

-- the line of the counts of a run that is done, or whose end was asked for
abbrev pub tally_line : Tally → List ℕ
tally_line t = main_counts_text t ++ other_counts_text t ++ judged_counts_text t ++ repeats_text t

-- how the program reports a station's end: by status 0 and the line of its counts, or by status 1 and the lines of its stop
abbrev pub ReportsEndOfRun : Result Tally Stop → (status : ℕ) → (old new : Option (List ℕ)) → Type 0
ReportsEndOfRun (Ok tally) status old new = (status ≡ 0) × Appends old new (tally_line tally)
ReportsEndOfRun (Err stop) status old new = (status ≡ 1) × Appends old new (stop_text stop)
