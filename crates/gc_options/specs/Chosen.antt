-- What the words of `station` and of `rehearse` choose, each value by the name of its option: this project's own.
use Rattle.std.specs.Prelude.{◌≡◌, ◌⊎◌, ℕ, ◌*◌, ◌/◌, ◌^◌, ◌-◌, ◌||◌, Bool, true, false, not, List, Option, Some, None, min, is_some, IfSome, IsSome, option_map, if◌then◌else◌, nat_eq, codes}
use Rattle.gc_links.specs.Prelude.{NamesPlace}
use Rattle.gc_links.specs.declared.place.Place.{Place}
use Rattle.gc_links.specs.declared.signals.Signals.{Signals}
use Rattle.gc_rows.specs.declared.record.Form.{Form}
use Rattle.gc_options.specs.Limits.{GivesLimit}
use Rattle.gc_options.specs.Words.{Words, text_in, has_flag, GivesNumber, HasNumber, IsNumberOr}
use Rattle.gc_options.specs.declared.choice.Watch.{Watch}
use Rattle.gc_options.specs.declared.limit.Limit.{Limit}
use Rattle.gc_options.specs.declared.limit.Limit.TheVariants.{NightCycles, Retries, Stale}
use Rattle.gc_options.specs.declared.rehearsal.Rehearsal.{Rehearsal}
use Rattle.gc_options.specs.declared.settings.Settings.{Settings}
use Rattle.gc_options.specs.declared.site.LogPlace.{LogPlace}
use Rattle.gc_options.specs.declared.site.Recording.{Recording}
use Rattle.gc_options.specs.declared.site.Site.{Site}
use Rattle.gc_rows.specs.declared.record.Form.TheVariants as form
use Rattle.gc_options.specs.declared.choice.Watch.TheVariants as watch

-- the option of this name gives seconds, which are so many milliseconds; the greatest number of 64 bits if they are more
pub record GivesSeconds (words : Words) (name : List ℕ) (milliseconds : ℕ) : Type 0 where
  pub seconds : ℕ
  pub gives : GivesNumber words name seconds
  pub is : milliseconds ≡ min (seconds * 1000) (2 ^ 64 - 1)

-- the option with this limit gives seconds, which are so many milliseconds; its word gives the seconds that it stands for
pub record GivesLimitSeconds (words : Words) (limit : Limit) (milliseconds : ℕ) : Type 0 where
  pub seconds : ℕ
  pub gives : GivesLimit words limit seconds
  pub is : milliseconds ≡ min (seconds * 1000) (2 ^ 64 - 1)

-- what is read for an option that gives seconds: so many milliseconds, if the words give it
pub record ReadsSeconds (words : Words) (name : List ℕ) (r : Option ℕ) : Type 0 where
  pub found : IfSome r (λ milliseconds. GivesSeconds words name milliseconds)
  pub only : HasNumber words name 64 → IsSome r

-- the period of cycles is what `--every` gives, in milliseconds; it is 0, for none, so that a cycle begins as soon as the last is done, if
-- the words don't give that
abbrev pub IsPeriod : (words : Words) (milliseconds : ℕ) → Type 0
IsPeriod words milliseconds = GivesSeconds words (codes "every") milliseconds ⊎ ((HasNumber words (codes "every") 64 → ⊥) × (milliseconds ≡ 0))

-- who watches a station: nobody with `--silent`, and otherwise somebody who reads lines
abbrev pub watch_for : (silent : Bool) → Watch
watch_for silent = if silent then watch.Nobody else watch.Lines

-- the form of records: that of the first of these flags that is set, and lines without one
abbrev pub form_for : (json columns csv : Bool) → Form
form_for json columns csv = if json then form.Json else if columns then form.Columns else if csv then form.Csv else form.Lines

-- the words choose these settings of a station: each option gives the value of its own name, in its unit, and the run hasn't begun. The limit
-- for cycles is `of_cycles`: that of `station`, or of a night
pub record IsChosen (of_cycles : Limit) (words : Words) (station : Settings) : Type 0 where
  pub width : GivesNumber words (codes "width") station.choice.width
  pub deadline : GivesNumber words (codes "deadline") station.choice.deadline
  pub unchained : station.choice.chained ≡ not (has_flag words (codes "unchained"))
  pub every : IsPeriod words station.choice.every
  pub cycles : GivesLimit words of_cycles station.choice.cycles
  pub quiet : GivesNumber words (codes "settle") station.choice.quiet
  pub retries : GivesLimit words Retries station.choice.retries
  pub stale : GivesLimitSeconds words Stale station.choice.stale
  pub at : ReadsSeconds words (codes "at") station.choice.at
  pub watched : station.choice.watched ≡ (is_some (text_in words (codes "until")) || is_some (text_in words (codes "now")))
  pub silent : station.choice.watch ≡ watch_for (has_flag words (codes "silent"))
  pub form : station.layout.form ≡ form_for (has_flag words (codes "json")) (has_flag words (codes "columns")) (has_flag words (codes "csv"))
  pub headed : station.layout.headed ≡ false
  pub run : station.layout.run ≡ 0

-- each number that the settings of a station need, apart from the limits (`HasLimits`), is given, and fits its type
pub record HasNumbers (words : Words) : Type 0 where
  pub width : HasNumber words (codes "width") 8
  pub deadline : HasNumber words (codes "deadline") 64
  pub quiet : HasNumber words (codes "settle") 64

-- the argument WHERE names this place
pub record GivesPlace (words : Words) (place : Place) : Type 0 where
  pub word : List ℕ
  pub given : text_in words (codes "where") ≡ Some word
  pub names : NamesPlace word place

-- the most bytes of a log: the number of `--log-bytes`, or, if it isn't given, the greatest number of 64 bits, which is no bound
abbrev pub IsLogBound : Words → ℕ → Type 0
IsLogBound words most = IsNumberOr words (codes "log-bytes") 64 (2 ^ 64 - 1) most

-- the words ask for this log: the path is that of `--log`, and none is kept without it
abbrev pub IsLog : Words → Option LogPlace → Type 0
IsLog words None = text_in words (codes "log") ≡ None
IsLog words (Some log) = (text_in words (codes "log") ≡ Some log.path.now) × IsLogBound words log.most

-- the words name these files: the one that asks for the end by `--until`, and the one that asks for a cycle by `--now`
pub record AreSignals (words : Words) (signals : Signals) : Type 0 where
  pub until : option_map (λ path. path.now) signals.until ≡ text_in words (codes "until")
  pub now : option_map (λ path. path.now) signals.now ≡ text_in words (codes "now")

-- the words name this site: the place by WHERE, the log by `--log`, and the files that ask for something (`AreSignals`)
pub record IsSite (words : Words) (site : Site) : Type 0 where
  pub place : GivesPlace words site.place
  pub log : IsLog words site.log
  pub signals : AreSignals words site.signals

-- the words ask for this file of records: the path is that of `--append`, and none is written without it; with `--fsync` each row
-- is on the disk before the next command
abbrev pub IsRecording : Words → Option Recording → Type 0
IsRecording words None = text_in words (codes "append") ≡ None
IsRecording words (Some recording) =
    (text_in words (codes "append") ≡ Some recording.path.now) × (recording.sync ≡ has_flag words (codes "fsync"))

-- how many cycles a night has: the number that was chosen, or for 0, for which the word stands, one for each whole period of `every`
-- milliseconds in a day
abbrev pub cycles_a_night : (number every : ℕ) → ℕ
cycles_a_night number every = if nat_eq number 0 then (if nat_eq every 0 then 0 else 86400000 / every) else number

-- `--cycles` of a rehearsal says how many cycles a night has
pub record GivesNightCycles (words : Words) (every cycles : ℕ) : Type 0 where
  pub number : ℕ
  pub gives : GivesLimit words NightCycles number
  pub is : cycles ≡ cycles_a_night number every

-- the words of `rehearse` ask for this rehearsal: each option gives the value of its own name
pub record IsRehearsal (words : Words) (rehearsal : Rehearsal) : Type 0 where
  pub scene : option_map (λ path. path.now) rehearsal.scene ≡ text_in words (codes "scene")
  pub line : option_map (λ path. path.now) rehearsal.line ≡ text_in words (codes "line")
  pub nights : GivesNumber words (codes "nights") rehearsal.nights
  pub cycles : GivesNightCycles words rehearsal.station.choice.every rehearsal.cycles
  pub seed : GivesNumber words (codes "seed") rehearsal.seed
  pub station : IsChosen NightCycles words rehearsal.station

-- each number that a rehearsal needs, apart from the limits, is given, and fits its type
pub record HasRehearsalNumbers (words : Words) : Type 0 where
  pub station : HasNumbers words
  pub nights : HasNumber words (codes "nights") 64
  pub seed : HasNumber words (codes "seed") 64
