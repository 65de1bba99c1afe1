-- When each command of a run ended, in the moments that its acts read, by the clock of time stamps; and why a reply is unreadable: this
-- project's own. An act is one call on the link, with its result.
use Rattle.gc_station.specs.Common.{Act, Moment, Missed, Unreadable, line_of, ValueFault, Task}
use Rattle.std.specs.Prelude.{◌≡◌, ℕ, ◌<◌, List, [], ◌∷◌, ◌++◌, Option, Some, None}
use Rattle.gc_station.specs.ActKinds.{moment_in}
use Rattle.gc_station.specs.Answers.{IsAnsweredIn, IsWrittenAt}
use Rattle.gc_station.specs.Cycles.{ClockRises, IsMissedIn}
use Rattle.gc_station.specs.Qualities.{form_at}
use Rattle.gc_station.specs.Records.{Record}
use Rattle.gc_station.specs.Runs.{OfEachRecord}
use Rattle.gc_station.specs.Saying.{Says}
use Rattle.gc_station.specs.Scopes.{Scope}
use Rattle.gc_station.specs.declared.plan.Plan.{Plan}
use Rattle.gc_catalogue.specs.declared.answer.Reading.TheVariants as reading

-- the moment `m`, by the clock of time stamps; `now` if there is none
abbrev pub utc_or : (now : ℕ) → Option Moment → ℕ
utc_or now None = now
utc_or now (Some m) = m.utc

-- the moment that these acts read last, by the clock of time stamps; `now` if they read none
abbrev pub utc_read : (now : ℕ) → List Act → ℕ
utc_read now [] = now
utc_read now (act ∷ acts) = utc_read (utc_or now (moment_in act)) acts

-- Of the acts of a run, and a record of it.
module _ (plan : Plan) (commands : List Task) (scope : Scope) (acts : List Act) (r : Record) where
  -- the record was added by the act by which its command ended (`act`), and has the moment that was read last by then: that of `act`, if it
  -- reads one. Of a missed command `missed` says which moment it is
  pub record HasItsMoment : Type 0 where
    pub before : List Act
    pub act : Act
    pub behind : List Act
    pub order : acts ≡ before ++ act ∷ behind
    pub written : IsWrittenAt plan commands scope before act r
    pub moment : (r.end ≡ Missed → ⊥) → r.utc ≡ utc_read 0 (before ++ act ∷ [])
    -- where cycles have due moments and the clock doesn't go back, the moment of a missed command is the one at which its cycle was due
    pub missed : r.end ≡ Missed → 0 < plan.every → ClockRises 0 acts → IsMissedIn plan commands scope acts r

  -- the line came as `IsAnsweredIn` says, and the record has the moment of the read that brought it
  pub record CameAt (line : List ℕ) : Type 0 where
    pub came : IsAnsweredIn plan commands scope acts r line
    pub moment : r.utc ≡ came.reply.moment.utc

-- the record is unreadable only if its line, as the reply to its call, doesn't read, and for the very fault for which that doesn't; `says` is
-- what lines say by the form of its command, or without one
abbrev pub IsAsRead : Says → Record → Type 0
IsAsRead says r = (line : List ℕ) (why : ValueFault) → r.end ≡ Unreadable line why → says r.command.call line ≡ reading.Unreadable why

-- and if the line of the record, as the reply to its call, doesn't read, the record is unreadable, for the fault for which that doesn't
abbrev pub IsUnreadableIfSo : Says → Record → Type 0
IsUnreadableIfSo says r = (line : List ℕ) (why : ValueFault) → line_of r.end ≡ Some line → says r.command.call line ≡ reading.Unreadable why → r.end ≡ Unreadable line why

-- each record of a run has its moment (`HasItsMoment`)
abbrev pub EachRecordHasItsMoment : Type 0
EachRecordHasItsMoment = OfEachRecord HasItsMoment

-- each record of a reply in time has the moment of the read that brought the reply's line (`CameAt`)
abbrev pub AnswersHaveTheirMoments : Type 0
AnswersHaveTheirMoments = OfEachRecord (λ plan commands scope acts r. (line : List ℕ) → line_of r.end ≡ Some line → CameAt plan commands scope acts r line)

-- each record of a run is unreadable only as its line reads (`IsAsRead`)
abbrev pub UnreadableAsTheyRead : Type 0
UnreadableAsTheyRead = OfEachRecord (λ plan commands scope acts r. IsAsRead (scope.reads (form_at commands r.place)) r)
