-- How long no reply line came before a connection is closed for that: this project's own. An act is one call on the link, with
-- its result.
use Rattle.gc_station.specs.Common.{AllByRecursion, option_map_or, deadlines, Task, is_reply, Act, Put, Gave}
use Rattle.std.specs.Prelude.{◌≡◌, ◌⊎◌, ℕ, ◌-◌, ◌<◌, ◌≤◌, false, List, [], ◌∷◌, ◌++◌}
use Rattle.gc_station.specs.declared.plan.Plan.{Plan}
use Rattle.gc_station.specs.ActKinds.{moment_in}
use Rattle.gc_station.specs.Deciding.{has_begun}
use Rattle.gc_station.specs.Quiet.{TellsMoment, IsListening, StaysConnected}
use Rattle.gc_station.specs.Runs.{state_after}
use Rattle.gc_station.specs.Model.{Model, lines_completed, after}
use Rattle.gc_station.specs.Scopes.{Scope}

-- for a station with the model `s`, each outstanding request has timed out; and while the station synchronizes, so has the null
-- procedure that was sent last
abbrev pub HasAllTimedOut : Model → Type 0
HasAllTimedOut s =
    (deadlines s.client.waiting ≡ []) × (has_begun s.progress ≡ false → s.progress.exchange.again ≤ s.progress.moment.elapsed)

-- the moment that these acts read last; `now` if they read none
abbrev pub latest : (now : ℕ) → List Act → ℕ
latest now [] = now
latest now (act ∷ acts) = latest (option_map_or (λ m. m.elapsed) (moment_in act) now) acts

-- `line` doesn't read as a reply
abbrev pub IsNoReply : List ℕ → Type 0
IsNoReply line = is_reply line ≡ false

-- the act completes no line that reads as a reply, if `rest` are the bytes before it since the last line feed
abbrev pub BringsNoReply : List ℕ → Act → Type 0
BringsNoReply rest (Gave piece m) = AllByRecursion IsNoReply (lines_completed rest piece)
BringsNoReply rest act = Unit {0}

-- none of these acts completes a line that reads as a reply, from the model `s` on
abbrev pub IsMute : Plan → List Task → Model → List Act → Type 0
IsMute plan commands s [] = Unit {0}
IsMute plan commands s (act ∷ acts) = BringsNoReply s.rest act × IsMute plan commands (after plan commands s act) acts

-- after `acts` the clock goes back to the moment `from`: one of them (`act`) read a moment, and the moment that was read last is
-- later than `from`
pub record WentBack (from : ℕ) (acts : List Act) : Type 0 where
  pub earlier : List Act
  pub act : Act
  pub told : ℕ
  pub others : List Act
  pub order : acts ≡ earlier ++ act ∷ others
  pub tells : TellsMoment told act
  pub later : from < latest told others

-- the first of these acts sent all its bytes
abbrev pub PutsFirst : List Act → Type 0
PutsFirst acts = (text : List ℕ) × (others : List Act) × (acts ≡ Put text ∷ others)

-- among `acts` the act `start` read the moment `from`. After it, on the same connection, no line came that reads as a reply,
-- and the moment that was read last is at least `wait` milliseconds later. After `start` nothing was sent, or bytes were sent at
-- once, so that a reply to them had all that time; or the clock went back at `start`
pub record IsMuteFor (wait : ℕ) (plan : Plan) (commands : List Task) (scope : Scope) (acts : List Act) : Type 0 where
  pub before : List Act
  pub start : Act
  pub from : ℕ
  pub behind : List Act
  pub order : acts ≡ before ++ start ∷ behind
  pub starts : TellsMoment from start
  pub stays : AllByRecursion StaysConnected behind
  pub mute : IsMute plan commands (state_after plan commands scope (before ++ start ∷ [])) behind
  pub asked : AllByRecursion IsListening behind ⊎ (PutsFirst behind ⊎ WentBack from before)
  pub long : wait ≤ latest from behind - from
