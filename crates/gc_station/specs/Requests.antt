-- The requests of a run, by their cycles and places: this project's own. A command that sets the clock asks for the moment at
-- which its request is sent, and one that takes values of files for these; as the text has it, either counts as one for the beginning of
-- 1970.
use Rattle.gc_station.specs.Common.{Asked, Table, SetDate, Wanted, date_time, call_at, Occasion, Task, Wish}
use Rattle.std.specs.Prelude.{ℕ, ◌+◌, Bool, true, false, List, [], ◌∷◌, drop, Option, Some, None}

-- a request of a run
pub record RunRequest : Type 0 where
  -- its cycle, counted from 1; 0 for the setup
  pub cycle : ℕ
  -- its command's place in the station's list, counted from 0
  pub place : ℕ
  -- its target and its call
  pub asked : Wanted Asked

-- the requests of the cycle `cycle` for these targets and calls; the first one has the place `place`, and each further one the
-- next place
abbrev pub requests : (cycle place : ℕ) → List (Wanted Asked) → List RunRequest
requests cycle place [] = []
requests cycle place (a ∷ others) = record { cycle = cycle; place = place; asked = a } ∷ requests cycle (place + 1) others

-- the target and the call of the command `c`
abbrev pub of_command : Wish → Wanted Asked
of_command c = record { target = c.target; call = c.call }

-- the call of a command as the text has it: if its request is made anew each time (`sets`), as that of one which sets the clock or takes
-- values of files is, the call for the beginning of 1970; otherwise `call` itself
abbrev pub untimed : (sets : Bool) → Asked → Asked
untimed true call = Table (SetDate (date_time 0))
untimed false call = call

-- the target and the call of the command of `task`, as the text has it
abbrev pub of_task : Task → Wanted Asked
of_task task = record { target = task.command.target; call = untimed task.now task.command.call }

-- the command of `task` if its request is sent on this occasion
abbrev pub command_at : Occasion → Task → Wish
command_at occasion task = record { target = task.command.target; call = call_at task occasion }

-- the command of `task` if its request was sent at this moment, when files had these values; if it wasn't sent (`None`), the command as in
-- the text
abbrev pub command_sent : (values : List (List ℕ)) → Option ℕ → Task → Wish
command_sent values None task = task.command
command_sent values (Some utc) task = command_at (record { utc = utc; values = values }) task

-- the target and the call of the command of `task` if its request is sent on this occasion
abbrev pub asked_at : Occasion → Task → Wanted Asked
asked_at occasion task = of_command (command_at occasion task)

-- whether the request of the first of these commands is made anew each time; false if there is none
abbrev pub sets_clock : List Task → Bool
sets_clock [] = false
sets_clock (task ∷ others) = task.now

-- the request `x` for one of these commands, as the text has it: without its moment and its values if its command takes any
abbrev pub in_text : List Task → RunRequest → RunRequest
in_text commands x = record x { asked = record x.asked { call = untimed (sets_clock (drop x.place commands)) x.asked.call } }
