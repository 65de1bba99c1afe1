-- What the words of the command line ask for, each value by the name of its argument: this project's own.
use Rattle.gc_console.specs.Common.{bytes_eq, Text, Place, GivesPlace, HasNumbers, HasRehearsalNumbers, IsChosen, IsLog, IsRecording, IsRehearsal, IsSite, HasLimits, LacksLimit, is_at_without_multiple, is_stale_too_soon, unit_in, IsNumberOr, ReadsNumber, Words, has_flag, text_in, is_dated_path, Settings, Recording, Site}
use Rattle.std.specs.Prelude.{◌≡◌, ◌⊎◌, ⊤, ℕ, Bool, true, false, not, ◌&&◌, List, [], ◌∷◌, Option, Some, None, codes, find, option_map, if◌then◌else◌}
use Rattle.std.specs.Borrow.{Bor}
use Rattle.gc_console.specs.declared.drill.Drilling.{Drilling}
use Rattle.gc_console.specs.declared.serve.Serving.{Serving}
use Rattle.gc_console.specs.declared.words.ClientJob.{ClientJob}
use Rattle.gc_console.specs.declared.words.Job.{Job}
use Rattle.gc_console.specs.declared.words.Subcommand.{Subcommand}
use Rattle.gc_options.specs.declared.choice.Choice.{Choice}
use Rattle.gc_options.specs.declared.limit.Limit.TheVariants.{Cycles, NightCycles}
use Rattle.gc_options.specs.declared.rehearsal.Rehearsal.{Rehearsal}
use Rattle.gc_options.specs.declared.site.LogPlace.{LogPlace}
use Rattle.gc_options.specs.declared.unit.Unit.{Unit}
use Rattle.gc_links.specs.declared.place.Place.TheVariants as place
use Rattle.gc_console.specs.declared.words.ClientJob.TheVariants as kind
use Rattle.gc_console.specs.declared.words.Job.TheVariants as job
use Rattle.gc_console.specs.declared.words.Subcommand.TheVariants as subcommand

-- what clap found: the name of the subcommand and the words behind it, if there is one
abbrev pub Asked : Type 0
Asked = Option (Text × Words)

-- the subcommand of this name was asked for, and `Is` holds of the words behind it
pub record AsksFor (name : Text) (Is : Words → Type 0) (asked : Asked) : Type 0 where
  pub words : Words
  pub named : asked ≡ Some (name, words)
  pub is : Is words

-- the words name this path of a scene's file, or none
abbrev pub IsScene : Words → Option (Bor (List ℕ)) → Type 0
IsScene words scene = option_map (λ path. path.now) scene ≡ text_in words (codes "scene")

-- the words of `drill` ask for this: without a width of 8 bits it is 0, which is refused
pub record IsDrilling (words : Words) (drilling : Drilling) : Type 0 where
  pub scene : IsScene words drilling.scene
  pub totals : drilling.totals ≡ has_flag words (codes "totals")
  pub width : IsNumberOr words (codes "width") 8 0 drilling.width

-- the address may be served at: that of another place than a port or a device only with `--any-address`
abbrev pub IsServed : Words → Place → Type 0
IsServed words (place.Host address) = has_flag words (codes "any-address") ≡ true
IsServed words _ = ⊤

-- after how many seconds a connection is idle: none without `--keep`; without a number of 32 bits it is 0, which is refused
abbrev pub IsIdle : Words → Option ℕ → Type 0
IsIdle words None = has_flag words (codes "keep") ≡ false
IsIdle words (Some seconds) = (has_flag words (codes "keep") ≡ true) × IsNumberOr words (codes "idle") 32 0 seconds

-- the words of `serve` ask for this
pub record IsServing (words : Words) (serving : Serving) : Type 0 where
  pub scene : IsScene words serving.scene
  pub place : GivesPlace words serving.place
  pub served : IsServed words serving.place
  pub connections : ReadsNumber words (codes "connections") 32 serving.connections
  pub idle : IsIdle words serving.idle

-- the words of `station` ask for these settings, and name a place
pub record IsPlanned (words : Words) (station : Settings) : Type 0 where
  pub place : Place
  pub given : GivesPlace words place
  pub chosen : IsChosen Cycles words station

-- whether in the name of this log, if there is one, each percent sign begins a part of a date, or another percent sign (`is_dated_path`)
abbrev pub is_log_dated : Option LogPlace → Bool
is_log_dated None = true
is_log_dated (Some log) = is_dated_path log.path.now

-- the same of a file of records
abbrev pub is_recording_dated : Option Recording → Bool
is_recording_dated None = true
is_recording_dated (Some recording) = is_dated_path recording.path.now

-- the same of both
abbrev pub are_dated : Option LogPlace → Option Recording → Bool
are_dated log recording = is_log_dated log && is_recording_dated recording

-- the words of `station` ask to measure at this site, with these settings, and with its records in this file
pub record IsStation (words : Words) (site : Site) (station : Settings) (recording : Option Recording) : Type 0 where
  pub at_site : IsSite words site
  pub chosen : IsChosen Cycles words station
  pub recorded : IsRecording words recording
  pub measures : has_flag words (codes "check") ≡ false
  pub fresh : is_stale_too_soon station.choice ≡ false
  pub due : is_at_without_multiple station.choice ≡ false
  pub dated : are_dated site.log recording ≡ true

-- the words of `station` ask what a station of this choice would do, with angles in this unit if they name one
pub record IsOutline (words : Words) (choice : Choice) (unit : Option Unit) : Type 0 where
  pub station : Settings
  pub planned : IsPlanned words station
  pub is : choice ≡ station.choice
  pub shown : unit_in words ≡ Some unit
  pub checks : has_flag words (codes "check") ≡ true
  pub fresh : is_stale_too_soon choice ≡ false
  pub due : is_at_without_multiple choice ≡ false

-- the words of `rehearse` ask for this rehearsal
pub record IsRehearse (words : Words) (rehearsal : Rehearsal) : Type 0 where
  pub is : IsRehearsal words rehearsal
  pub fresh : is_stale_too_soon rehearsal.station.choice ≡ false

-- a station of these words would end for want of an answer before its second cycle is due
pub record IsStaleStation (words : Words) : Type 0 where
  pub station : Settings
  pub planned : IsPlanned words station
  pub stale : is_stale_too_soon station.choice ≡ true

-- and so a station that is rehearsed
pub record IsStaleRehearsal (words : Words) : Type 0 where
  pub rehearsal : Rehearsal
  pub is : IsRehearsal words rehearsal
  pub stale : is_stale_too_soon rehearsal.station.choice ≡ true

-- a station of these words would have cycles that are due by the clock, but not before the next whole multiple of their period
pub record IsWithoutMultiple (words : Words) : Type 0 where
  pub station : Settings
  pub planned : IsPlanned words station
  pub late : is_at_without_multiple station.choice ≡ true

-- these words name a log or a file of records in whose name a percent sign begins no part of a date
pub record IsUndated (words : Words) : Type 0 where
  pub log : Option LogPlace
  pub logged : IsLog words log
  pub recording : Option Recording
  pub recorded : IsRecording words recording
  pub undated : are_dated log recording ≡ false

-- what a client is asked to do
abbrev pub IsClientJobOf : Asked → ClientJob → Type 0
IsClientJobOf asked (kind.Loop scene) = AsksFor (codes "loop") (λ words. IsScene words scene) asked
IsClientJobOf asked (kind.Ask place) = AsksFor (codes "ask") (λ words. GivesPlace words place) asked
IsClientJobOf asked (kind.Outline choice unit) = AsksFor (codes "station") (λ words. IsOutline words choice unit) asked
IsClientJobOf asked (kind.Station site station recording) =
    AsksFor (codes "station") (λ words. IsStation words site station recording) asked

-- the subcommand that was asked for and the words behind it ask for this job: each job has the name of its subcommand and the
-- values of its arguments. `BadLimit` comes only if an option with a limit has neither its word nor a number within its bounds,
-- `NumberMissing` only if all limits are within their bounds and another number is missing or doesn't fit its type, `NoUnit` only if the word for a unit names
-- none, `StaleTooSoon` only if the run would end too soon, `AtWithoutMultiple` only if its cycles would be due after the next whole
-- multiple, and `NoDate` only if the name of a file has a percent sign that begins no part of a date; which words name no place isn't said
abbrev pub IsJobOf : Asked → Job → Type 0
IsJobOf asked (job.Exec scene) = AsksFor (codes "exec") (λ words. IsScene words scene) asked
IsJobOf asked (job.Check log) = AsksFor (codes "check") (λ words. log ≡ has_flag words (codes "log")) asked
IsJobOf asked (job.Drill drilling) = AsksFor (codes "drill") (λ words. IsDrilling words drilling) asked
IsJobOf asked (job.Serve serving) = AsksFor (codes "serve") (λ words. IsServing words serving) asked
IsJobOf asked (job.Rehearse rehearsal) = AsksFor (codes "rehearse") (λ words. IsRehearse words rehearsal) asked
IsJobOf asked (job.Client client) = IsClientJobOf asked client
IsJobOf asked (job.Nowhere true) = AsksFor (codes "serve") (λ words. ⊤) asked
IsJobOf asked (job.Nowhere false) = AsksFor (codes "ask") (λ words. ⊤) asked ⊎ AsksFor (codes "station") (λ words. ⊤) asked
IsJobOf asked (job.BadLimit limit) =
    AsksFor (codes "station") (λ words. LacksLimit words Cycles limit) asked ⊎ AsksFor (codes "rehearse") (λ words. LacksLimit words NightCycles limit) asked
IsJobOf asked job.NumberMissing =
    AsksFor (codes "station") (λ words. HasLimits words Cycles × (HasNumbers words → ⊥)) asked
    ⊎ AsksFor (codes "rehearse") (λ words. HasLimits words NightCycles × (HasRehearsalNumbers words → ⊥)) asked
IsJobOf asked job.NoUnit = AsksFor (codes "station") (λ words. unit_in words ≡ None) asked
IsJobOf asked job.StaleTooSoon = AsksFor (codes "station") IsStaleStation asked ⊎ AsksFor (codes "rehearse") IsStaleRehearsal asked
IsJobOf asked job.AtWithoutMultiple = AsksFor (codes "station") IsWithoutMultiple asked
IsJobOf asked job.NoDate = AsksFor (codes "station") IsUndated asked

-- the name of a subcommand, by which it is asked for
abbrev pub name_of : Subcommand → Text
name_of subcommand.Exec = codes "exec"
name_of subcommand.Check = codes "check"
name_of subcommand.Drill = codes "drill"
name_of subcommand.Loop = codes "loop"
name_of subcommand.Serve = codes "serve"
name_of subcommand.Ask = codes "ask"
name_of subcommand.Station = codes "station"
name_of subcommand.Rehearse = codes "rehearse"

-- the subcommands, in the order of the help
abbrev pub subcommands : List Subcommand
subcommands =
    subcommand.Exec
    ∷ subcommand.Check
    ∷ subcommand.Drill
    ∷ subcommand.Loop
    ∷ subcommand.Serve
    ∷ subcommand.Ask
    ∷ subcommand.Station
    ∷ subcommand.Rehearse
    ∷ []

-- the subcommand of this name, if there is one
abbrev pub subcommand_named : Text → Option Subcommand
subcommand_named name = find (λ known. bytes_eq (name_of known) name) subcommands

-- one of the subcommands was asked for
pub record AsksSubcommand (asked : Asked) : Type 0 where
  pub subcommand : Subcommand
  pub words : Words
  pub named : asked ≡ Some (name_of subcommand, words)

-- what is done of a station at this site, with these settings and records: it is refused if its run would end before the second
-- cycle, if its cycles would be due after the next whole multiple of their period, or if in the name of a file a percent sign begins no part
-- of a date, also with `--check` (`checks`); with `--check` it is outlined, in this unit; and otherwise it measures there, with its log, its
-- end and its records where the words name them
abbrev pub station_job : Site → Settings → Option Recording → (checks : Bool) → Option Unit → Job
station_job site station recording checks unit =
    if is_stale_too_soon station.choice then job.StaleTooSoon
    else if is_at_without_multiple station.choice then job.AtWithoutMultiple
    else if not (are_dated site.log recording) then job.NoDate
    else if checks then job.Client (kind.Outline station.choice unit)
    else job.Client (kind.Station site station recording)
