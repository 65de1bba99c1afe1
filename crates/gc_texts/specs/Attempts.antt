-- The attempts of the chains of a station's text: this project's own. A chain is a command that isn't chained, and the
-- chained ones after it. It is sent once, and again at most as often as its line `retry` says, each time from its first command on. Where
-- a line `agree` holds for it, each attempt sends it twice (`sendings`).
use Rattle.std.specs.Prelude.{ℕ, zero, suc, ◌+◌, ◌-◌, ◌*◌, ◌==◌, ◌&&◌, nat_lt, List, [], ◌∷◌, ◌++◌, length, map, Option, None, if◌then◌else◌}
use Rattle.gc_texts.specs.Again.{no_again}
use Rattle.gc_texts.specs.Retries.{no_retry}
use Rattle.gc_texts.specs.Sendings.{sendings}
use Rattle.gc_texts.specs.declared.again.Again.{Again}
use Rattle.gc_texts.specs.declared.agree.Agree.{Agree}
use Rattle.gc_texts.specs.declared.agree.Twice.{Twice}
use Rattle.gc_texts.specs.declared.agree.Twice.TheVariants.{Once, First, Second}
use Rattle.gc_texts.specs.declared.retry.Retry.{Retry}
use Rattle.gc_texts.specs.declared.attempts.Planned.{Planned}
use Rattle.gc_texts.specs.declared.tasks.Task.{Task}

-- the number of an attempt as its tasks have it, by their sending: two sendings are counted as two attempts
abbrev pub attempt_number : (attempt : ℕ) → Twice → ℕ
attempt_number attempt Once = attempt
attempt_number attempt First = 2 * attempt - 1
attempt_number attempt (Second agree nth) = 2 * attempt

-- a command in this attempt of its chain. `again` says after which endings the chain is repeated, and `commands` how many
-- commands this attempt and those after it have together: only the first command of a later attempt records that
abbrev pub in_attempt : (attempt : ℕ) → Again → (commands : ℕ) → Task → Task
in_attempt attempt again commands task =
    record task {
      again = again;
      turn = record { place = task.turn.place; attempt = attempt_number attempt task.twice; link = task.turn.link };
      others = if (nat_lt 1 attempt) && (task.turn.link == 0) then commands else 0;
    }

-- the tasks of a chain's attempts from this one on, if each has these commands and `left` more may follow it; after the last attempt the
-- chain isn't repeated
abbrev pub attempts_from : (attempt left : ℕ) → Again → (commands : List Task) → List Task
attempts_from attempt zero again commands = map (in_attempt attempt no_again (length commands)) commands
attempts_from attempt (suc left) again commands =
    map (in_attempt attempt again (length commands * suc (suc left))) commands ++ attempts_from (attempt + 1) left again commands

-- the tasks of these commands
abbrev pub tasks_planned : List Planned → List Task
tasks_planned planned = map (λ p. p.task) planned

-- the tasks of all attempts of a chain, of which each sends it once, or twice where there is an `agree`
abbrev pub attempts : Retry → Option Agree → List Planned → List Task
attempts retry agree chain = attempts_from 1 retry.times retry.again (sendings agree (tasks_planned chain))

-- the tasks of all attempts of `chain`, whose retry and `agree` are these, and then of the chains that the commands `later` form. A chained
-- command is one more of the chain before it, as of `chain` at first, and one that isn't chained begins the next chain
abbrev pub laid_from : Retry → Option Agree → (chain later : List Planned) → List Task
laid_from retry agree chain [] = attempts retry agree chain
laid_from retry agree chain (planned ∷ later) =
    if planned.task.chained then laid_from retry agree (chain ++ planned ∷ []) later
    else attempts retry agree chain ++ laid_from planned.retry planned.agree (planned ∷ []) later

-- the tasks of all attempts of the chains that these commands form, chain by chain. A first command that is chained, which no text
-- gives, would begin a chain that isn't repeated
abbrev pub laid_out : List Planned → List Task
laid_out planned = laid_from no_retry None [] planned
