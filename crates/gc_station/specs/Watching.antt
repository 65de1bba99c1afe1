-- Which commands of a run are watched, and when each of them was answered well last: this project's own.
use Rattle.gc_station.specs.Common.{AllByRecursion, flat_map, option_map_or, End, Task}
use Rattle.std.specs.Prelude.{◌≡◌, ℕ, ◌≤◌, ◌==◌, ◌&&◌, Bool, if◌then◌else◌, nat_lt, min, List, [], ◌∷◌, drop, map, Option, Some, None}
use Rattle.gc_station.specs.declared.watching.Watch.{Watch}
use Rattle.gc_station.specs.Marks.{ended_confirmed}
use Rattle.gc_station.specs.Records.{Record}

-- whether a task stands for a command that is watched: its text doesn't leave its target unwatched, and the task is in the first
-- attempt of its chain, so that each command of the text counts once
abbrev pub is_watched : Task → Bool
is_watched task = task.watched && (task.turn.attempt == 1)

-- the place of a task among the commands of the text's cycle, as a list of one; none if the task isn't watched
abbrev pub watched_at : Task → List ℕ
watched_at task = if is_watched task then task.turn.place ∷ [] else []

-- the places, among the commands of the text's cycle, of those of these tasks that are watched
abbrev pub watched_in : List Task → List ℕ
watched_in tasks = flat_map watched_at tasks

-- what is watched of these commands, of which the first `setup` are the setup, which isn't watched: their places among the commands of
-- the text's cycle
abbrev pub watched_of : (setup : ℕ) → List Task → List ℕ
watched_of setup commands = watched_in (drop setup commands)

-- the places of these watched commands
abbrev pub places_of : List Watch → List ℕ
places_of watches = map (λ watch. watch.place) watches

-- a watched command before its first answer
abbrev pub unanswered : (place : ℕ) → Watch
unanswered place = record { place = place; fresh = 0; utc = None }

-- whether the record of a command with this cycle, place in the text and ending renews the watched command with the place `watched`:
-- it is of that command, in some cycle, and was answered well, without having to be confirmed by a second sending. A command of the
-- setup, whose cycle is 0, renews none
abbrev pub renews : (cycle place : ℕ) → End → (watched : ℕ) → Bool
renews cycle place end watched = ended_confirmed end && (nat_lt 0 cycle && (watched == place))

-- a watched command, if it `is` renewed at the moment `now`, by the clock for deadlines, and `utc`, by that of time stamps; otherwise as it
-- was
abbrev pub renewed_if : (is : Bool) → (now utc : ℕ) → Watch → Watch
renewed_if is now utc watch = if is then record { place = watch.place; fresh = now; utc = Some utc } else watch

-- a watched command once a command with this cycle, place in the text and ending was recorded at these moments (`renewed_if`)
abbrev pub renewed : (now utc cycle place : ℕ) → End → Watch → Watch
renewed now utc cycle place end watch = renewed_if (renews cycle place end watch.place) now utc watch

-- a watched command once this record was made at the moment `now`, by the clock for deadlines
abbrev pub renewed_by : (now : ℕ) → Record → Watch → Watch
renewed_by now r watch = renewed now r.utc r.cycle r.turn.place r.end watch

-- the watched commands once these records were made at the moment `now`, by the clock for deadlines
abbrev pub fresh_after : (now : ℕ) → List Watch → List Record → List Watch
fresh_after now watches [] = watches
fresh_after now watches (r ∷ others) = fresh_after now (map (renewed_by now r) watches) others

-- a watched command at the moment `now`: it was answered well last by then, also if the clock went back past that
abbrev pub cut_to : (now : ℕ) → Watch → Watch
cut_to now watch = record watch { fresh = min watch.fresh now }

-- the one of two watched commands that was answered well longer ago; the first, `found`, if both were at one moment or there is no other
abbrev pub older : (found : Option Watch) → Watch → Watch
older None watch = watch
older (Some found) watch = if nat_lt watch.fresh found.fresh then watch else found

-- of `found` and these watched commands the one that was answered well the longest ago
abbrev pub oldest_from : (found : Option Watch) → List Watch → Option Watch
oldest_from found [] = found
oldest_from found (watch ∷ others) = oldest_from (Some (older found watch)) others

-- the watched command that was answered well the longest ago; `None` if nothing is watched
abbrev pub oldest : List Watch → Option Watch
oldest watches = oldest_from None watches

-- when the watched command that was answered well the longest ago was; `moment`, the one read last, if nothing is watched
abbrev pub fresh_in : Option Watch → (moment : ℕ) → ℕ
fresh_in found moment = option_map_or (λ watch. watch.fresh) found moment

-- as `fresh_in`, of these watched commands
abbrev pub fresh_of : (moment : ℕ) → List Watch → ℕ
fresh_of moment watches = fresh_in (oldest watches) moment

-- `found` is the one of these watched commands that was answered well the longest ago, and none was after `newest`
pub record AreWatched (watches : List Watch) (found : Option Watch) (newest : ℕ) : Type 0 where
  pub oldest_is : found ≡ oldest watches
  pub none_newer : AllByRecursion (λ watch. watch.fresh ≤ newest) watches
