-- What an operator chooses, and the plan that it makes with the tasks of a text: this project's own.
use Rattle.gc_measuring.specs.Common.{Choice, Plan, Task}
use Rattle.std.specs.Prelude.{◌≡◌, ◌<◌, ◌+◌, ◌-◌, ◌*◌, ◌%◌, ℕ, List, [], ◌∷◌, Option, Some, None, max, nat_eq, nat_le, if◌then◌else◌}

-- the longest deadline in use: the greatest of this one and those of the tasks
abbrev pub longest_deadline : (deadline : ℕ) → List Task → ℕ
longest_deadline deadline [] = deadline
longest_deadline deadline (task ∷ later) = longest_deadline (max deadline task.deadline) later

-- how long after the moment `run` the first one comes that is `at` after a whole multiple of `every` (`IsTimeToMultiple`); 0 if `every` is
abbrev pub time_to_multiple : (every at run : ℕ) → ℕ
time_to_multiple every at run =
    if nat_eq every 0 then 0
    else (if nat_le (run % every) (at % every) then at % every - run % every else every - run % every + at % every)

-- so long after the moment `run` the first one comes that is `at` after a whole multiple of `every`: less than `every` after it, and any
-- such moments are whole multiples of `every` apart
pub record IsTimeToMultiple (every at run time : ℕ) : Type 0 where
  pub soon : time < every
  pub multiple : ℕ
  pub is : run + time ≡ multiple * every + at % every

-- how long after the beginning of a run its first cycle is due, if that was at the moment `run`: `every`, or, where cycles are due by the
-- clock, the time to a moment that is `at` after a whole multiple of `every`
abbrev pub first_of : (every run : ℕ) → Option ℕ → ℕ
first_of every run None = every
first_of every run (Some at) = time_to_multiple every at run

-- the plan of a choice, for a run that began at the moment `run`, in milliseconds since 1970, with these tasks, of which the first `setup`
-- are the setup. Its deadline is the longest in use
abbrev pub plan_of : Choice → (run setup : ℕ) → List Task → Plan
plan_of choice run setup tasks =
    record {
      width = choice.width;
      deadline = longest_deadline choice.deadline tasks;
      every = choice.every;
      cycles = choice.cycles;
      quiet = choice.quiet;
      retries = choice.retries;
      setup = setup;
      stale = choice.stale;
      watched = choice.watched;
      first = first_of choice.every run choice.at;
      at = choice.at;
    }
