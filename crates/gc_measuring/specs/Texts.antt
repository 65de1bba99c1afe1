-- A station that reads its whole text before anything else is done, and then runs over the text: this project's own. That run has
-- streams of its own, whose source gives exactly the text. `before` and `after` are the run at its start and at its end, with the
-- streams of its caller, of whose input it is noted what the reads gave.
use Rattle.gc_measuring.specs.Common.{Appends, Consumes, Ghosts as Source, Hearing, hearing_of, Streams, TasksSeen, ReadsFew, Choice, Settings}
use Rattle.std.specs.Prelude.{◌≡◌, ℕ, ◌⊎◌, Bool, List, ◌++◌, Option, Some, None}
use Rattle.gc_measuring.specs.Appending.{AppendsToFile}
use Rattle.gc_measuring.specs.Labels.{labels_of}
use Rattle.gc_measuring.specs.Stops.{stop_text}
use Rattle.gc_measuring.specs.TaskTexts.{GivesTasks, HearsNoTasks}
use Rattle.gc_measuring.specs.Telling.{AppendingRun, MeasuresAllAtLink, ReportsAtSite, Stage, Views, stage}
use Rattle.gc_measuring.specs.declared.stop.Stop.{Stop}
use Rattle.gc_logs.specs.declared.heard.Heard.{Heard}

-- the reads of an input, which took it from `old` to `new`, gave exactly this text, to its end; and a station with this choice finds
-- commands of a cycle in it (`all` are its tasks), and these columns beside those of the table's quantities
pub record ReadsTaskText (old new : Hearing) (choice : Choice) (text : List ℕ) (columns : List (List ℕ)) : Type 0 where
  pub heard : new.heard ≡ old.heard ++ text
  pub takes : Consumes old.input.remaining new.input.remaining text
  pub few : ReadsFew old.input new.input text
  pub all : TasksSeen
  pub gives : GivesTasks text old.input new.input choice all
  pub columns_are : (labels_of all).columns ≡ columns

-- the input gave no text that a station can measure, for the reason that `stop` says; that is reported with status 1, and nothing
-- was written on the output
pub record RefusesTaskText {S K E : Type 0} (source : Source S) (shown : E → Option (List ℕ)) (old new : Streams (Heard S) K E) (status : ℕ)
    : Type 0 where
  pub stop : Stop
  pub why : HearsNoTasks (hearing_of source old.input) (hearing_of source new.input) stop
  pub is : status ≡ 1
  pub tells : Appends (shown old.messages) (shown new.messages) (stop_text stop)
  pub output : new.output ≡ old.output

-- a text was refused (`RefusesTaskText`) before a log, a link or a file was opened or made: there is no link, and no act was seen
pub record RefusesBefore {S K E : Type 0} (source : Source S) (shown : E → Option (List ℕ)) (before after : Stage (Heard S) K E) (status : ℕ)
    : Type 0 where
  pub refuses : RefusesTaskText source shown before.streams after.streams status
  pub acts : after.acts ≡ None
  pub turns : after.turns ≡ before.turns

-- `begun` are the streams of a run over a text that its caller, with the streams `old`, has read: the source gives exactly this
-- text, and has given nothing of it yet; the run writes on its caller's output and messages
pub record IsOverText {S T K E : Type 0} (over : Source T) (text : List ℕ) (old : Streams S K E) (begun : Streams T K E) : Type 0 where
  pub gives : over.remaining begun.input ≡ Some text
  pub unread : over.reads begun.input ≡ 0
  pub output : begun.output ≡ old.output
  pub messages : begun.messages ≡ old.messages

-- the caller's input gave a text (`ReadsTaskText`), and `Holds` is true of its columns and of the run over it, at its start and at its end.
-- `begun` and `ended` are that run's own streams (`IsOverText`); the caller gets the output as the run left it
pub record HoldsOverText {S T K E : Type 0} (source : Source S) (over : Source T) (choice : Choice) (before after : Stage (Heard S) K E)
    (Holds : (columns : List (List ℕ)) → Stage T K E → Stage T K E → Type 0) : Type 0 where
  pub text : List ℕ
  pub columns : List (List ℕ)
  pub read : ReadsTaskText (hearing_of source before.streams.input) (hearing_of source after.streams.input) choice text columns
  pub begun : Streams T K E
  pub ended : Streams T K E
  pub over_text : IsOverText over text before.streams begun
  pub output : after.streams.output ≡ ended.output
  pub holds : Holds columns (stage begun before.began before.acts before.turns) (stage ended after.began after.acts after.turns)

-- how a run at a site ended (`ReportsAtSite`), which left its caller these messages: and with status 0 it is done, or its end was asked for
-- (`MeasuresAllAtLink`)
pub record EndsAtSite {S K E : Type 0} (views : Views S K E) (has_log : Bool) (station : Settings) (left : E) (old new : Stage S K E)
    (status : ℕ) : Type 0 where
  pub told : ReportsAtSite views has_log station old new status
  pub done : status ≡ 0 → MeasuresAllAtLink views station old new
  pub messages : left ≡ new.streams.messages

-- a station that writes its records on the output ended with this status: its text was refused before anything was opened
-- (`RefusesBefore`), or it was read, and the run over it ended as `EndsAtSite` says
abbrev pub ReadsAndMeasures : {S T K E : Type 0} → Source S → (over : Views T K E) → (has_log : Bool) → Settings → (before after : Stage (Heard S) K E) → (status : ℕ) → Type 0
ReadsAndMeasures source over has_log station before after status =
    RefusesBefore source over.shown before after status
    ⊎ HoldsOverText source over.source station.choice before after (λ columns old new. EndsAtSite over has_log station after.streams.messages old new status)

-- the run of a station that appends to a file, between these moments of its own, with the file that it left
abbrev pub run_between : {S F K E : Type 0} → (file : Option F) → (old new : Stage S K E) → AppendingRun S F K E
run_between file old new = record { before = old; after = new; file = file }

-- how a run that appends to a file ended, where `IsBegun` holds of the file as the run began (`AppendsToFile`): and nothing was written on
-- its output
pub record EndsAppending {S F K E : Type 0} (IsBegun : F → Type 0) (views : Views S F E) (has_log : Bool) (station : Settings)
    (whole : AppendingRun S F K E) (status : ℕ) : Type 0 where
  pub ended : AppendsToFile IsBegun views has_log station whole status
  pub output : whole.after.streams.output ≡ whole.before.streams.output

-- a text was refused before anything was opened (`RefusesBefore`), and the run has no file
pub record RefusesBeforeFile {S F K E : Type 0} (source : Source S) (shown : E → Option (List ℕ)) (whole : AppendingRun (Heard S) F K E)
    (status : ℕ) : Type 0 where
  pub refuses : RefusesBefore source shown whole.before whole.after status
  pub file : whole.file ≡ None

-- a station that appends its records to a file ended with this status: its text was refused before anything was opened
-- (`RefusesBeforeFile`), or it was read, and the run over it ended as `EndsAppending` says: the file couldn't be had, or it has the rows of
-- exactly the acts. `IsBegun` says, by the text's columns, what holds of the file as the run began, and `into` how that run is seen. After
-- the run's messages its caller's may have one more line, of what the system refused
abbrev pub ReadsAndAppends : {S T F K E : Type 0} → (IsBegun : (columns : List (List ℕ)) → F → Type 0) → Source S → Source T → (into : Views T F E) → (has_log : Bool) → Settings → AppendingRun (Heard S) F K E → (status : ℕ) → Type 0
ReadsAndAppends IsBegun source over into has_log station whole status =
    RefusesBeforeFile source into.shown whole status
    ⊎ HoldsOverText source over station.choice whole.before whole.after (λ columns old new. EndsAppending (IsBegun columns) into has_log station (run_between whole.file old new) status)
