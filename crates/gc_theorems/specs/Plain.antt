-- Plain commands, this project's own: commands of which the station's text says what they ask, their deadline, and whether they
-- are chained, and nothing else. Runs that are computed have them.
use Rattle.gc_theorems.specs.Common.{Asked, no_again, no_codes, End, no_needs, Once, Task, no_turn, Record}
use Rattle.std.specs.Prelude.{ℕ, Bool, None, Some, false}

-- a plain command that asks this of this target, with this deadline in milliseconds, chained to the command before it or not; its
-- turn is the one where there is no command (`no_turn`), and it isn't watched
abbrev pub plain_task : (target : ℕ) → Asked → (deadline : ℕ) → (chained : Bool) → Task
plain_task target call deadline chained =
    record {
      command = record { target = target; call = call };
      deadline = deadline;
      chained = chained;
      near = None;
      form = None;
      watched = false;
      accepted = no_codes;
      busy = no_codes;
      expects = None;
      counter = None;
      again = no_again;
      turn = no_turn;
      others = 0;
      every = 1;
      now = false;
      needs = no_needs;
      twice = Once;
    }

-- the record of a plain command of the first cycle, at this place in the list, whose request was sent with this id at the moment
-- `sent`, and which ended at the moment `utc`
abbrev pub plain_record : (sent id utc place target : ℕ) → Asked → End → Record
plain_record sent id utc place target call end =
    record { sent = Some sent; id = id; utc = utc; cycle = 1; place = place; turn = no_turn; command = record { target = target; call = call }; end = end }
