-- What a station's status and messages report of its run, and what it measured then: this project's own. `old` and `new` are the
-- run at its start and at its end.
use Rattle.gc_measuring.specs.Common.{Appends, begun_at, for_file, Settings, Streams, Unfit, Ghosts as Source, Act, LinkRecord, Snapshot, FailsAtOutput, Tally, input_of, RunFault, Log}
use Rattle.std.specs.Prelude.{◌≡◌, ℕ, Bool, true, ◌⊎◌, List, [], Option, Some, None, Result, Err}
use Rattle.gc_measuring.specs.Logging.{ReportsLoss}
use Rattle.gc_measuring.specs.Measuring.{PortsSeen, MeasuresGiven, IsMeasured, AllLast, ReportsEndOfRun}
use Rattle.gc_measuring.specs.Recording.{unfit_text}
use Rattle.gc_measuring.specs.Stops.{IsFaultWithoutLink, with_fault}
use Rattle.gc_measuring.specs.declared.stop.Stop.{Stop}
use Rattle.gc_measuring.specs.declared.stop.Stop.TheVariants.{Run}
use Rattle.gc_lines.specs.declared.ports.Sink.{Ghosts as Sink}
use Rattle.gc_links.specs.declared.watched.Watched.{Watched}

-- what is seen of a station's ports: of its streams by the ghost members of their traits, the acts that its link recorded, and
-- what was seen at each of them
abbrev pub ports_seen : {S K E : Type 0} → Source S → Sink K → (shown : E → Option (List ℕ)) → Streams S K E → Option (List Act) → List Snapshot → PortsSeen
ports_seen source sink shown streams acts turns =
    record { input = input_of source streams.input; acts = acts; taken = sink.taken streams.output; messages = shown streams.messages; turns = turns }

-- the acts that a link recorded, if there is one
abbrev pub acts_of : {R : Type 0} → Option (Watched R) → Option (List Act)
acts_of None = None
acts_of (Some link) = Some link.history.acts

-- the moment at which a link was made, if there is one: milliseconds since 1970-01-01, UTC
abbrev pub began_of : {R : Type 0} → Option (Watched R) → Option ℕ
began_of None = None
began_of (Some link) = Some link.began.utc

-- the acts of a link that was closed, if there was one
abbrev pub acts_noted : Option LinkRecord → Option (List Act)
acts_noted None = None
acts_noted (Some link) = Some link.history.acts

-- the moment at which a link that was closed was made, if there was one
abbrev pub began_noted : Option LinkRecord → Option ℕ
began_noted None = None
began_noted (Some link) = Some link.began.utc

-- how the ports of a run are seen: its source and its sink by the ghost members of their traits; `lasts` says whether all that
-- the sink took lasts, and `shown` gives what was written on the messages, if that is known
pub record Views (S K E : Type 0) : Type 1 where
  pub source : Source S
  pub sink : Sink K
  pub lasts : K → Bool
  pub shown : E → Option (List ℕ)

-- the views of a run by these ghost members of its source and its sink, and by these functions
abbrev pub views_by : {S K E : Type 0} → Source S → Sink K → (lasts : K → Bool) → (shown : E → Option (List ℕ)) → Views S K E
views_by source sink lasts shown = record { source = source; sink = sink; lasts = lasts; shown = shown }

-- a run at one moment: its streams; when its link was made (`began`) and the acts that it recorded, if there is a link and they are
-- known; and what was seen of link and sink at each act so far (`turns`)
pub record Stage (S K E : Type 0) : Type 0 where
  pub streams : Streams S K E
  pub began : Option ℕ
  pub acts : Option (List Act)
  pub turns : List Snapshot

-- a run at the moment at which it has these streams, this link and these turns
abbrev pub stage : {S K E : Type 0} → Streams S K E → (began : Option ℕ) → Option (List Act) → (turns : List Snapshot) → Stage S K E
stage streams began acts turns = record { streams = streams; began = began; acts = acts; turns = turns }

-- the same moment, with these messages
abbrev pub with_messages : {S K E : Type 0} → Stage S K E → E → Stage S K E
with_messages at messages = record at { streams = record at.streams { messages = messages } }

-- what is seen of a run's ports at this moment
abbrev pub seen_at : {S K E : Type 0} → Views S K E → Stage S K E → PortsSeen
seen_at views at = ports_seen views.source views.sink views.shown at.streams at.acts at.turns

-- the sink has failed if the run, from `old` to `new`, ended with `Output`, else only if it had before
abbrev pub SinkFailsAtOutput : {S K E : Type 0} → Views S K E → (old new : Stage S K E) → Result Tally Stop → Type 0
SinkFailsAtOutput views old new end = FailsAtOutput (views.sink.failed old.streams.output) (views.sink.failed new.streams.output) (with_fault end)

-- the messages report whether a log isn't complete (`is_lost`), and after that, with the status, how a run ended. `behind` are
-- the messages between the two
pub record ReportsLossAndEnd (is_lost : Bool) (end : Result Tally Stop) (status : ℕ) (old new : Option (List ℕ)) : Type 0 where
  pub behind : Option (List ℕ)
  pub loss : ReportsLoss is_lost old behind
  pub counts : ReportsEndOfRun end status behind new

-- a text was refused, or its commands were measured, from `old` to `new`; and the messages report whether the log, if there is
-- one, isn't complete (`is_lost`), and after that, with the status, how the run ended. All records last, as `AllLast` has it.
-- `between` are the messages before the report
pub record ReportsMeasuring {S K E : Type 0} (views : Views S K E) (station : Settings) (old new : Stage S K E) (is_lost : Bool) (status : ℕ)
    : Type 0 where
  pub end : Result Tally Stop
  pub between : E
  pub measured : MeasuresGiven station (seen_at views old) (seen_at views (with_messages new between)) end
  pub all_last : AllLast (views.lasts new.streams.output) end
  pub fails : SinkFailsAtOutput views old new end
  pub tells : ReportsLossAndEnd is_lost end status (views.shown between) (views.shown new.streams.messages)

-- a source gave a text to its end, and the run over its commands, from `old` to `new`, is done, or its end was asked for.
-- `between` are the messages as the run left them
pub record MeasuresAll {S K E : Type 0} (views : Views S K E) (station : Settings) (old new : Stage S K E) : Type 0 where
  pub between : E
  pub is : IsMeasured station (seen_at views old) (seen_at views (with_messages new between))

-- a run can't begin, for this fault: there is no link, or, if a log was asked for (`has_log`), the log can't be had
abbrev pub CannotBegin : (has_log : Bool) → RunFault → Type 0
CannotBegin has_log fault = IsFaultWithoutLink fault ⊎ ((has_log ≡ true) × (fault ≡ Log))

-- a run didn't begin, and ended with a fault for which it can't (`CannotBegin`); then there was no link, and nothing was read or
-- written
pub record IsUnbegun {S K E : Type 0} (has_log : Bool) (old new : Stage S K E) (end : Result Tally Stop) : Type 0 where
  pub fault : RunFault
  pub is : end ≡ Err (Run fault)
  pub cannot : CannotBegin has_log fault
  pub input : new.streams.input ≡ old.streams.input
  pub output : new.streams.output ≡ old.streams.output
  pub messages : new.streams.messages ≡ old.streams.messages
  pub acts : new.acts ≡ None
  pub turns : new.turns ≡ old.turns

-- a text was refused, or its commands were measured, from `old` to `new`, in a run that began when its link was made (`run`); the link
-- has then recorded the acts `told`. All records last; nothing is said of that if the text was refused or the sink failed
pub record MeasuresAtLink {S K E : Type 0} (views : Views S K E) (station : Settings) (old new : Stage S K E) (end : Result Tally Stop)
    : Type 0 where
  pub told : List Act
  pub is : new.acts ≡ Some told
  pub run : ℕ
  pub began : new.began ≡ Some run
  pub measured : MeasuresGiven (begun_at run station) (seen_at views old) (seen_at views new) end
  pub all_last : AllLast (views.lasts new.streams.output) end

-- a run measured over its link, or it didn't begin; and the messages report whether the log, if one was asked for (`has_log`),
-- isn't complete (`is_lost`), and after that, with the status, how the run ended. `between` are the messages before the report
pub record ReportsAtSite {S K E : Type 0} (views : Views S K E) (has_log : Bool) (station : Settings) (old new : Stage S K E) (status : ℕ)
    : Type 0 where
  pub end : Result Tally Stop
  pub between : E
  pub is_lost : Bool
  pub logged : is_lost ≡ true → has_log ≡ true
  pub ran : MeasuresAtLink views station old (with_messages new between) end
      ⊎ IsUnbegun has_log old (with_messages new between) end
  pub fails : SinkFailsAtOutput views old new end
  pub tells : ReportsLossAndEnd is_lost end status (views.shown between) (views.shown new.streams.messages)

-- as `MeasuresAll` says, of a run that began when its link was made (`run`), which has recorded the acts `told`
pub record MeasuresAllAtLink {S K E : Type 0} (views : Views S K E) (station : Settings) (old new : Stage S K E) : Type 0 where
  pub told : List Act
  pub is : new.acts ≡ Some told
  pub run : ℕ
  pub began : new.began ≡ Some run
  pub all : MeasuresAll views (begun_at run station) old new

-- a file of records can't be had, which is reported with status 1, and nothing was read
pub record RefusesFile {S K E : Type 0} (shown : E → Option (List ℕ)) (old new : Streams S K E) (status : ℕ) : Type 0 where
  pub why : Unfit
  pub is : status ≡ 1
  pub tells : Appends (shown old.messages) (shown new.messages) (unfit_text why)
  pub unread : new.input ≡ old.input

-- a run that appends to a file: the run before it and after it, with the streams of its caller, and the file that it left, if
-- there is one
pub record AppendingRun (S F K E : Type 0) : Type 0 where
  pub before : Stage S K E
  pub after : Stage S K E
  pub file : Option F

-- the own streams of a run that appends to a file, at its start (`begun`) and at its end (`ended`), have the file as output. It
-- had taken nothing at first, and is handed back as the run left it. The run reads its caller's source, and the caller gets the
-- messages as the run left them
pub record IsFiled {S F K E : Type 0} (sink : Sink F) (whole : AppendingRun S F K E) (begun ended : Streams S F E) : Type 0 where
  pub fresh : sink.taken begun.output ≡ Some []
  pub left : whole.file ≡ Some ended.output
  pub input : begun.input ≡ whole.before.streams.input
  pub read : whole.after.streams.input ≡ ended.input
  pub messages : whole.after.streams.messages ≡ ended.messages

-- `Holds` is true of the own stages of a run that appends to a file, at its start and at its end. `begun` and `ended` are the
-- run's own streams, with the file as output (`IsFiled`)
pub record HoldsOfFiled {S F K E : Type 0} (sink : Sink F) (whole : AppendingRun S F K E) (Holds : Stage S F E → Stage S F E → Type 0) : Type 0 where
  pub begun : Streams S F E
  pub ended : Streams S F E
  pub filed : IsFiled sink whole begun ended
  pub holds : Holds (stage begun whole.before.began whole.before.acts whole.before.turns) (stage ended whole.after.began whole.after.acts whole.after.turns)

-- the end of a run that appends to a file is reported, as `ReportsAtSite` says of the run's own streams. What had been written on
-- its messages before it began, of the file's opening, isn't said
abbrev pub ReportsAppended : {S F K E : Type 0} → Views S F E → (has_log : Bool) → Settings → AppendingRun S F K E → (status : ℕ) → Type 0
ReportsAppended views has_log station whole status = HoldsOfFiled views.sink whole (λ old new. ReportsAtSite views has_log (for_file station) old new status)

-- a file of records can't be had, which is reported (`RefusesFile`); or a run appended to it, and its end is reported
-- (`ReportsAppended`)
abbrev pub ReportsAppending : {S F K E : Type 0} → Views S F E → (has_log : Bool) → Settings → AppendingRun S F K E → (status : ℕ) → Type 0
ReportsAppending views has_log station whole status =
    RefusesFile views.shown whole.before.streams whole.after.streams status ⊎ ReportsAppended views has_log station whole status

-- a source gave a text to its end, and the run over its commands, which appended to a file, is done, or its end was asked for
abbrev pub AppendsAll : {S F K E : Type 0} → Views S F E → Settings → AppendingRun S F K E → Type 0
AppendsAll views station whole = HoldsOfFiled views.sink whole (λ old new. MeasuresAllAtLink views (for_file station) old new)
