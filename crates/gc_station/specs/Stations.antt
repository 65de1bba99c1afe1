-- No part of a promise: what the functions of a station do to it, in terms of its model. An act is one call on the link, with
-- its result.
use Rattle.gc_station.specs.Common.{Appends, option_to_list, StandsFor, line_in, lent_seen, WINDOW, expires, Task, Act, Told, Untold, AddsActs, Moment}
use Rattle.std.specs.Prelude.{◌≡◌, ℕ, ◌<◌, ◌≤◌, Bool, false, List, [], ◌∷◌, ◌++◌, length, drop, map, Option, Some, None, Result, Ok, Err}
use Rattle.gc_lines.specs.declared.frame.Lent.{Lent}
use Rattle.gc_station.specs.declared.plan.Plan.{Plan}
use Rattle.gc_station.specs.declared.progress.Action.{Action}
use Rattle.gc_station.specs.declared.progress.Action.TheVariants.{Prepare, Send, Skip, Ask, Flush, Read, Stop}
use Rattle.gc_station.specs.declared.progress.Progress.{Progress}
use Rattle.gc_station.specs.declared.progress.Until.{Until}
use Rattle.gc_station.specs.declared.progress.Waiting.{Waiting}
use Rattle.gc_station.specs.declared.station.Station.{Station}
use Rattle.gc_station.specs.declared.station.sending.Outgoing.{Outgoing}
use Rattle.gc_station.specs.Deciding.{has_begun}
use Rattle.gc_station.specs.Marks.{commands_in, last_well}
use Rattle.gc_station.specs.NextCommand.{upcoming_after}
use Rattle.gc_station.specs.Runs.{RunSeen}
use Rattle.gc_station.specs.Scopes.{AreReadings}
use Rattle.gc_station.specs.Progressing.{failing, moment_noted_meanwhile, advanced, early_noted}
use Rattle.gc_station.specs.Records.{Record, texts_of, WritesPart}
use Rattle.gc_station.specs.Model.{Model, Performs, moved, stepped, waiting_by, lines_taken, sent_to, unsent_record, listed_unsent, firsts_of}
use Rattle.gc_station.specs.Tallies.{empty_counts, tallied}
use Rattle.gc_station.specs.Watching.{fresh_of, cut_to}
use Rattle.gc_station.specs.Writing.{recorded_unsent}
use Rattle.gc_station.specs.declared.cause.Cause.TheVariants as cause

-- what a decision looks at besides the progress, of a station
abbrev pub waiting_of_station : Station → Waiting
waiting_of_station station = waiting_by station.client.ids station.marks.items station.recorded.well station.recorded.listed (fresh_of station.progress.moment.elapsed station.recorded.fresh)

-- a station has one mark for each outstanding request
abbrev pub IsPaired : Station → Type 0
IsPaired station = length station.marks.items ≡ length station.client.ids.waiting

-- a station can send a request: its window is the widest and has room, and each outstanding request has a mark
abbrev pub CanSend : Station → Type 0
CanSend station = (station.client.width ≡ WINDOW) × (length station.client.ids.waiting < WINDOW) × IsPaired station

-- the model `s` describes `station`, and `s.reads` gives each reply's reading for its call
pub record Refines (station : Station) (s : Model) : Type 0 where
  -- replies are read as the model says
  pub reads : AreReadings s.reads
  -- the progress is the model's
  pub progress : station.progress ≡ s.progress
  -- the client's ids and outstanding requests are the model's
  pub ids : station.client.ids ≡ s.client
  -- the client's window is the widest: seven requests may be outstanding
  pub width : station.client.width ≡ WINDOW
  -- the marks are the model's, one for each outstanding request
  pub marks : station.marks.items ≡ s.marks
  pub paired : length s.marks ≡ length s.client.waiting
  -- the assembler stores the model's bytes since the last line feed
  pub assembles : StandsFor station.assembler s.rest
  -- the tally counts the model's records
  pub tally : AreReadings s.reads → station.recorded.tally ≡ tallied empty_counts s.records
  -- whether the last of the model's records is of a command that was answered well; false if there is none
  pub well : AreReadings s.reads → station.recorded.well ≡ last_well false s.records
  -- whether a recorded command of the current attempt ended as its rule names: as the model says
  pub listed : AreReadings s.reads → station.recorded.listed ≡ s.listed
  -- when each watched command was recorded last as answered well: as the model says
  pub fresh : AreReadings s.reads → station.recorded.fresh ≡ s.fresh
  -- the kept answers of a first sending are those of the model's records
  pub firsts : station.recorded.firsts ≡ firsts_of s
  -- the numbers that are kept of the counters are the model's
  pub counts : AreReadings s.reads → station.recorded.counts ≡ s.counts

-- from `start`, what it had taken before the run, to `taken` a book took the texts of the records of the model `s`, each
-- written by `text`; if `s.reads` gives each reply's reading for its call
abbrev pub Took : (Record → List ℕ) → (start taken : Option (List ℕ)) → Model → Type 0
Took text start taken s = AreReadings s.reads → Appends start taken (texts_of text s.records)

-- from `start`, what it had taken before the run, to `taken` a book took the records `before`, which the model `s` had earlier,
-- and a part of the further records of `s`; if `s.reads` gives each reply's reading for its call
abbrev pub TookPart : (Record → List ℕ) → (before : List Record) → (start taken : Option (List ℕ)) → Model → Type 0
TookPart text before start taken s = AreReadings s.reads → WritesPart text before s.records start taken

-- what contracts see of a station at a moment of its run
pub record StationSeen : Type 0 where
  -- the link and the book
  pub run : RunSeen
  -- the station itself
  pub station : Station

-- what is seen of this station, if its link has recorded these acts, and its book writes each record by `text` and has taken
-- these bytes
abbrev pub as_seen : (acts : Option (List Act)) (text : Record → List ℕ) (taken : Option (List ℕ)) → Station → StationSeen
as_seen acts text taken station = record { run = record { acts = acts; text = text; taken = taken }; station = station }

-- between `old` and `new` the link recorded one act, and it performs `action`. If the model `s` describes the station before
-- it, and the book had taken the records of `s`, then `next s act` describes the station after it, and the book has taken the
-- records of that model
pub record Makes (commands : List Task) (action : Action) (next : Model → Act → Model) (old new : StationSeen) : Type 0 where
  pub act : Act
  pub tells : AddsActs old.run.acts new.run.acts (act ∷ [])
  pub goes : (s : Model) (start : Option (List ℕ)) → Refines old.station s → Took old.run.text start old.run.taken s
      → Performs commands s action act × Refines new.station (next s act) × Took new.run.text start new.run.taken (next s act)

-- the link recorded one act after those of `old`, up to `told`, and it performs `action`. If the model `s` describes the
-- station before it, and the book had taken the records of `s`, the book has taken `taken` by now: it failed at one of the
-- records that the model `next s act` has beyond those of `s`
pub record Breaks (commands : List Task) (action : Action) (next : Model → Act → Model) (old : StationSeen) (told : Option (List Act))
    (taken : Option (List ℕ)) : Type 0 where
  pub act : Act
  pub tells : AddsActs old.run.acts told (act ∷ [])
  pub goes : (s : Model) (start : Option (List ℕ)) → Refines old.station s → Took old.run.text start old.run.taken s
      → Performs commands s action act × TookPart old.run.text s.records start taken (next s act)

-- the link recorded one act that performs `action`. If the result is `Ok`, the model changed by `next`, and the book has the
-- new records (`Makes`); if it is `Err`, the book failed at one of them (`Breaks`)
abbrev pub MakesOrBreaks : {X E : Type 0} → List Task → Action → (next : Model → Act → Model) → (old new : StationSeen) → Result X E → Type 0
MakesOrBreaks commands action next old new (Ok _) = Makes commands action next old new
MakesOrBreaks commands action next old new (Err _) = Breaks commands action next old new.run.acts new.run.taken

-- from `old` to `new` a station made an act that performs `action`, its model changed as `moved` says, and the book took the new
-- records whole (`Makes`)
abbrev pub MakesMove : Plan → List Task → Action → (old new : StationSeen) → Type 0
MakesMove plan commands action old new = Makes commands action (moved plan commands action) old new

-- the station `old`, which became `new`, made an act that performs `action` (`MakesMove`), whatever a book is like and has taken.
-- `told` and `told'` are what the link had recorded before the act and after it
abbrev pub MakesMoveAlone : Plan → List Task → Action → (told told' : Option (List Act)) → (old new : Station) → Type 0
MakesMoveAlone plan commands action told told' old new =
    (text : Record → List ℕ) (known : Option (List ℕ)) → MakesMove plan commands action (as_seen told text known old) (as_seen told' text known new)

-- from `old` to `new` a station made an act as `MakesMove` says if this result is `Ok`; if it is `Err`, the book failed at one of
-- the records that `moved` adds (`Breaks`)
abbrev pub Moves : {X E : Type 0} → Plan → List Task → Action → (old new : StationSeen) → Result X E → Type 0
Moves plan commands action old new result = MakesOrBreaks commands action (moved plan commands action) old new result

-- from `old` to `new` a station made a read that ends as `until` says (`Moves`), whatever its commands are
abbrev pub MovesByReading : {X E : Type 0} → Plan → Until → (old new : StationSeen) → Result X E → Type 0
MovesByReading plan until old new result = (commands : List Task) → Moves plan commands (Read until) old new result

-- from `old` to `new` a station took a turn with an act that performs `action`: as `Moves`, with `stepped` in place of `moved`
abbrev pub Steps : {X E : Type 0} → Plan → List Task → Action → (old new : StationSeen) → Result X E → Type 0
Steps plan commands action old new result = MakesOrBreaks commands action (stepped plan commands action) old new result

-- the progress after a write with this result: `p` itself or, if the write was cut after `n` bytes (`Err n`), failing for a
-- cause that has `n` and the number `requests`
abbrev pub cut_progress : Result (Unit {0}) ℕ → (requests : ℕ) → Progress → Progress
cut_progress (Ok _) requests p = p
cut_progress (Err n) requests p = failing (cause.Write requests n) p

-- what an action needs, at the progress `p` with `waiting` outstanding requests: room in the window for a request, a command
-- that is left to be sent or skipped, and for a null procedure of a synchronization that the station hasn't synchronized
abbrev pub SuitsAction : Progress → (waiting : ℕ) → Action → Type 0
SuitsAction p waiting Send = (0 < p.unsent) × (waiting < WINDOW)
SuitsAction p waiting Prepare = waiting < WINDOW
SuitsAction p waiting Skip = 0 < p.unsent
SuitsAction p waiting Ask = has_begun p ≡ false
SuitsAction p waiting Flush = waiting < WINDOW
SuitsAction p waiting _ = Unit {0}

-- a station can perform this action, if these are all commands: its window is the widest, each outstanding request has a mark, no
-- more commands are left than there are, and it has what the action needs (`SuitsAction`)
abbrev pub CanPerform : List Task → Action → Station → Type 0
CanPerform commands action station =
    (station.client.width ≡ WINDOW) × IsPaired station × (station.progress.unsent ≤ length commands)
    × SuitsAction station.progress (length station.client.ids.waiting) action

-- after a call with this result: the model `s` describes the station, and the book, which had taken `start` before the run, has
-- taken the records of `s` (`Ok`); or the book failed at one of the records of `s` that come after `before` (`Err`)
abbrev pub RefinesOrTookPart : {X E : Type 0} → (Record → List ℕ) → (before : List Record) → Station → (start taken : Option (List ℕ)) → Model → Result X E → Type 0
RefinesOrTookPart text before station start taken s (Ok _) = Refines station s × Took text start taken s
RefinesOrTookPart text before station start taken s (Err _) = TookPart text before start taken s

-- if the model `s` describes the station `old`, and a book that has taken `taken` has taken the records of `s`, then after a call
-- with this result, which left the station `new` and the book with `taken'`, they are as `RefinesOrTookPart` says of the model
-- `next s`
abbrev pub KeepsToModel : {X E : Type 0} → (next : Model → Model) → (Record → List ℕ) → (taken taken' : Option (List ℕ)) → (old new : Station) → Result X E → Type 0
KeepsToModel next text taken taken' old new result =
    (s : Model) (start : Option (List ℕ)) → Refines old s → Took text start taken s → RefinesOrTookPart text s.records new start taken' (next s) result

-- the model `s` after the line of this frame, if it is a line, was heard as `lines_taken` says
abbrev pub frame_came : (begun : Bool) → Lent → Model → Model
frame_came begun frame s = lines_taken begun (option_to_list (line_in (lent_seen frame))) s

-- the station once it sent the request `asking`
abbrev pub station_asking : Outgoing → Station → Station
station_asking asking station = record station {
  client = record station.client { ids = sent_to station.client.width station.client.ids asking.command station.progress.moment.elapsed asking.wait };
  marks = record { items = station.marks.items ++ asking.mark ∷ [] };
}

-- the station at the moment `now`: requests whose deadline has come have timed out, and each of `fresh` is
-- cut to `now`
abbrev pub station_expiring : (now : ℕ) → Station → Station
station_expiring now station = record station {
  client = record station.client { ids = expires station.client.ids now };
  recorded = record station.recorded { fresh = map (cut_to now) station.recorded.fresh };
}

-- from `old` to `new` a station read the clock, the one act of the link between `told` and `told'`. With a moment, its requests
-- have timed out as `station_expiring` says. If the clock couldn't be read (`None`), that is the cause to close the connection;
-- without one the run is over (`failing`)
abbrev pub ReadsMoment : (told told' : Option (List Act)) → (old new : Station) → Option Moment → Type 0
ReadsMoment told told' old new (Some m) = AddsActs told told' (Told m ∷ []) × (new ≡ station_expiring m.elapsed old)
ReadsMoment told told' old new None = AddsActs told told' (Untold ∷ []) × (new ≡ record old { progress = failing cause.Clock old.progress })

-- the station once the next `count` commands of the cycle had their turn at the moment `moment` without being sent
abbrev pub station_advancing : Plan → List Task → (count : ℕ) → Moment → Station → Station
station_advancing plan commands count moment station =
    let p = station.progress in
    let past = advanced count (upcoming_after plan count commands p) false (moment_noted_meanwhile moment p) in
    record station { progress = early_noted plan (commands_in station.marks.items) past }

-- the station once the record of its next command, which isn't sent, is written at the moment `moment`, counted and noted
abbrev pub station_skipping : Plan → List Task → Moment → Station → Station
station_skipping plan commands moment station = record station {
  recorded = recorded_unsent (unsent_record plan commands station.progress (Told moment))
      (listed_unsent plan commands station.progress station.recorded.listed) station.recorded;
}

-- from `old` to `new` a station dropped the marks of the oldest `count` outstanding requests; what it keeps of its records may
-- have changed, and the rest didn't
abbrev pub DropsMarks : (old new : Station) → (count : ℕ) → Type 0
DropsMarks old new count = new ≡ record old {
  marks = record { items = drop count old.marks.items };
  recorded = new.recorded;
}

-- the claim, for an action that makes a call of the link; nothing for `Stop`, which makes none
abbrev pub OnCall : Action → Type 0 → Type 0
OnCall (Stop cause) claim = Unit {0}
OnCall _ claim = claim
