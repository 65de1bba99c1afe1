-- What `geocom station` had done when it ended, by the job that its words named: this project's own. `old` and `new` are streams at its
-- start and at its end, of whose input it is noted which bytes its reads gave. `acted` is what was noted of the link and the file, and
-- `traces` of the whole program.
use Rattle.gc_console.specs.Common.{ports_of, path_of, are_open, ReportsClosed, hearing_of, Standard, with_status_line, Settings, Recording, Site}
use Rattle.std.specs.Prelude.{◌≡◌, ℕ, Bool, true, false, List, [], Option, Some, None, option_map, IfSome}
use Rattle.std.specs.Option.{is_some}
use Rattle.gc_files.specs.Prelude.{appended, asks_sync}
use Rattle.gc_files.specs.declared.past.Past.{Past}
use Rattle.gc_lines.specs.declared.ports.Sink.{Ghosts as Sink}
use Rattle.gc_lines.specs.declared.ports.Source.{Ghosts as Source}
use Rattle.gc_links.specs.Prelude.{place_seen, signals_at}
use Rattle.gc_measuring.specs.Prelude.{IsMeantRecord, IsBegunAt, IsCheckable, AppendingRun, Stage, Views, acts_noted, began_noted, stage, views_by, ReadsAndAppends, ReadsAndMeasures}
use Rattle.gc_logs.specs.declared.following.Followed.{Followed}
use Rattle.gc_logs.specs.declared.heard.Heard.{Heard}
use Rattle.gc_logs.specs.declared.streams.Streams.{Streams}
use Rattle.gc_console.specs.declared.words.ClientJob.{ClientJob}
use Rattle.gc_console.specs.Refusing.{EndSeen, end_seen}
use Rattle.gc_console.specs.Subcommands.{DoesAsk, DoesLoop, Opening}
use Rattle.gc_console.specs.declared.traces.Acted.{Acted}
use Rattle.gc_console.specs.declared.traces.Traces.{Traces}
use Rattle.gc_console.specs.declared.words.ClientJob.TheVariants as client

-- how the ports of a station are seen: its input by the ghost members of `source`; by `onto` a run over its text that writes on the
-- output, and by `into` one that appends to a file. `begun` says what holds of a file that was just opened, for these records of a
-- station with these settings and a text that has these columns beside those of the table's quantities, `at` gives the path at which a file
-- is, and `syncs` whether each of its rows is synced
pub record Seeing (S T F K E : Type 0) : Type 1 where
  pub source : Source S
  pub begun : Recording → Settings → (columns : List (List ℕ)) → F → Type 0
  pub at : F → List ℕ
  pub syncs : F → Bool
  pub onto : Views T K E
  pub into : Views T F E

-- a station's ports as seen by these ghost members: of its input, the source over its text, its output and its file; and by the function
-- that gives what was written on the messages, if that is known
abbrev pub seeing_by : {S T R K E : Type 0} → Source S → (over : Source T) → (sink : Sink K) → (lasts : K → Bool) → (file : Sink (Followed R)) → (file_lasts : Followed R → Bool)
    → (shown : E → Option (List ℕ)) → Seeing S T (Followed R) K E
seeing_by source over sink lasts file file_lasts shown =
    record {
      source = source;
      begun = IsBegunAt;
      at = path_of;
      syncs = λ followed. asks_sync followed.rows;
      onto = views_by over sink lasts shown;
      into = views_by over file file_lasts shown;
    }

-- of no link, no act and no file anything is noted
pub record HasNoRun (acted : Acted) : Type 0 where
  pub link : acted.link ≡ None
  pub turns : acted.kept.turns ≡ []
  pub file : acted.file ≡ None

-- the bytes that were appended to a file by the steps that are noted of it
abbrev pub rows_noted : Past → Option (List ℕ)
rows_noted past = Some (appended past.steps)

-- a run of a station that began with these streams: there was no link yet, and no act was seen
abbrev pub stage_before : {S K E : Type 0} → Streams S K E → Stage S K E
stage_before streams = stage streams None (Some []) []

-- a run of a station that ended with these streams, and of which this was noted
abbrev pub stage_after : {S K E : Type 0} → Streams S K E → Acted → Stage S K E
stage_after streams acted = stage streams (began_noted acted.link) (acts_noted acted.link) acted.kept.turns

-- the acts of the link, if there was one, are what the system's calls did at this site's place, as both were noted (`IsMeantRecord`)
abbrev pub ActsAt : Site → Acted → Type 0
ActsAt site acted = IfSome acted.link (λ link. ∥ IsMeantRecord (place_seen site.place) (signals_at site.signals) link ∥₁)

-- a station at this site that writes its records on the output ended with this status: its text was refused, and there was no link; or
-- the input gave a text, and over exactly its commands the station ran: what its link recorded, its output took and its messages say is
-- as `ReadsAndMeasures` has it; with status 0 the run is done, or its end was asked for. What the link recorded are the system's calls at
-- the site's place (`ActsAt`). Of no file anything is noted
pub record MeasuresOnto {S T F K E : Type 0} (seeing : Seeing S T F K E) (site : Site) (station : Settings) (old new : Streams (Heard S) K E)
    (acted : Acted) (status : ℕ) : Type 0 where
  pub ran : ReadsAndMeasures seeing.source seeing.onto (is_some site.log) station (stage_before old) (stage_after new acted) status
  pub place : ActsAt site acted
  pub file : acted.file ≡ None

-- the run of a station that began with the streams `old`, had the streams `new` at its end, of which this was noted, and left this file
abbrev pub run_into : {S F K E : Type 0} → (old new : Streams S K E) → Acted → (file : Option F) → AppendingRun S F K E
run_into old new acted file = record { before = stage_before old; after = stage_after new acted; file = file }

-- a station at this site that appends its records to a file ended with this status: its text was refused, and there was no link and no
-- file; or the file couldn't be had, and nothing was sent; or the input gave a text, and over exactly its commands the station ran: what
-- its link recorded, the file took and the messages say is as `ReadsAndAppends` has it; with status 0 the run is done, or its end was asked
-- for, and its rows are in the file. What the link recorded are the system's calls at the site's place (`ActsAt`). The file is at the
-- recording's path, syncs exactly if the recording asks for that, and took exactly the bytes that are noted of it (`rows`); and nothing was
-- written on the output
pub record AppendsInto {S T F K E : Type 0} (seeing : Seeing S T F K E) (recording : Recording) (site : Site) (station : Settings) (old new : Streams (Heard S) K E)
    (acted : Acted) (status : ℕ) : Type 0 where
  pub file : Option F
  pub ran : ReadsAndAppends (seeing.begun recording station) seeing.source seeing.onto.source seeing.into (is_some site.log) station (run_into old new acted file) status
  pub place : ActsAt site acted
  pub path : IfSome file (λ left. seeing.at left ≡ recording.path.now)
  pub sync : IfSome file (λ left. seeing.syncs left ≡ recording.sync)
  pub rows : option_map seeing.into.sink.taken file ≡ option_map rows_noted acted.file
  pub output : new.output ≡ old.output

-- a station ended with this status: it appended its records to a file if one was named, and else wrote them on the output
abbrev pub Records : {S T F K E : Type 0} → Seeing S T F K E → Site → Option Recording → Settings → (old new : Streams (Heard S) K E) → Acted → (status : ℕ) → Type 0
Records seeing site None station old new acted status = MeasuresOnto seeing site station old new acted status
Records seeing site (Some recording) station old new acted status = AppendsInto seeing recording site station old new acted status

-- as `Records` says, of streams with messages of another kind, which may be lost: what the caller's own messages got isn't told.
-- The station has read its caller's input, and written on its output (`begun`, `ended`)
pub record RecordsLossy {S T F K E M : Type 0} (seeing : Seeing S T F K M) (site : Site) (recording : Option Recording) (station : Settings)
    (old new : Streams (Heard S) K E) (acted : Acted) (status : ℕ) : Type 0 where
  pub begun : Streams (Heard S) K M
  pub ended : Streams (Heard S) K M
  pub input : begun.input ≡ old.input
  pub output : begun.output ≡ old.output
  pub read : new.input ≡ ended.input
  pub written : new.output ≡ ended.output
  pub is : Records seeing site recording station begun ended acted status

-- what is seen of a subcommand that began over these streams and ended with those, by the ghost members of their ports; `shown` gives what
-- was written on the messages, if that is known
abbrev pub ports_seen : {S K E : Type 0} → Source S → Sink K → (shown : E → Option (List ℕ)) → (old new : Streams (Heard S) K E) → (status : ℕ) → EndSeen
ports_seen source sink shown old new status =
    end_seen (ports_of source old.input.source sink old.output) (ports_of source new.input.source sink new.output) status (shown old.messages) (shown new.messages)

-- a job without a link did this, and no station ran
pub record DoesAlone (Does : Type 0) (acted : Acted) : Type 0 where
  pub does : Does
  pub none : HasNoRun acted

-- what this job of a client did, over standard streams that are open. A station: what `RecordsLossy` says of the site, the settings and
-- the file of the job; somebody at a terminal may watch it. An outline: with status 0 the input gave a text that a station of this choice
-- measures. `loop` and `ask`: what `DoesLoop` and `DoesAsk` say. Of these three no station ran
abbrev pub DoesJob : {S T F K E M : Type 0} → Seeing S T F K M → (shown : E → Option (List ℕ)) → Standard → ClientJob → (old new : Streams (Heard S) K E) → Acted → (status : ℕ) → Type 0
DoesJob seeing shown standard (client.Station site station recording) old new acted status =
    RecordsLossy seeing site recording (with_status_line standard.terminal station) old new acted status
DoesJob seeing shown standard (client.Outline choice unit) old new acted status =
    DoesAlone (status ≡ 0 → IsCheckable choice (hearing_of seeing.source old.input) (hearing_of seeing.source new.input)) acted
DoesJob seeing shown standard (client.Loop scene) old new acted status =
    DoesAlone (DoesLoop standard.output_terminal scene (ports_seen seeing.source seeing.onto.sink shown old new status)) acted
DoesJob seeing shown standard (client.Ask place) old new acted status =
    DoesAlone (DoesAsk standard.output_terminal place (ports_seen seeing.source seeing.onto.sink shown old new status)) acted

-- a client's job was done over streams of which this is known at the start (`begun`): no read was answered yet, and nothing was written.
-- If the standard streams are open, it did what `DoesJob` says, and else it wasn't begun, which is reported (`ReportsClosed`). The traces
-- have exactly the bytes that the input gave, and those that the output and the messages took
pub record DoesOver {S T F K E M : Type 0} (seeing : Seeing S T F K M) (shown : E → Option (List ℕ)) (standard : Standard) (begun : Opening)
    (job : ClientJob) (traces : Traces) (status : ℕ) : Type 0 where
  pub old : Streams (Heard S) K E
  pub new : Streams (Heard S) K E
  pub bytes : seeing.source.remaining old.input.source ≡ begun.remaining
  pub reads : seeing.source.reads old.input.source ≡ 0
  pub unheard : old.input.heard.bytes ≡ []
  pub untold : seeing.onto.sink.taken old.output ≡ Some []
  pub messages : shown old.messages ≡ begun.told
  pub heard : new.input.heard.bytes ≡ traces.heard.bytes
  pub told : seeing.onto.sink.taken new.output ≡ Some traces.told.bytes
  pub said : shown new.messages ≡ Some traces.said.bytes
  pub does : are_open standard ≡ true → DoesJob seeing shown standard job old new traces.acted status
  pub closed : are_open standard ≡ false
      → ReportsClosed standard status (shown old.messages) (shown new.messages) × HasNoRun traces.acted × (new.input ≡ old.input) × (new.output ≡ old.output)
