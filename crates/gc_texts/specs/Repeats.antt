-- What holds of the chains of a station's text and of their attempts: this project's own.
use Rattle.gc_texts.specs.Common.{AllByRecursion, flat_map}
use Rattle.std.specs.Prelude.{◌≡◌, ℕ, zero, suc, ◌+◌, Bool, false, List, [], ◌∷◌, ◌++◌, length, map, Option}
use Rattle.gc_texts.specs.Again.{no_again}
use Rattle.gc_texts.specs.Attempts.{attempt_number}
use Rattle.gc_texts.specs.Chained.{section_after, IsRetryAfter, IsAgreeAfter}
use Rattle.gc_texts.specs.Laws.{IsOneChain}
use Rattle.gc_texts.specs.Sendings.{sendings}
use Rattle.gc_texts.specs.Tasks.{TasksSeen, IsTasks, first_mode, planned_of, placed}
use Rattle.gc_texts.specs.declared.again.Again.{Again}
use Rattle.gc_texts.specs.declared.agree.Agree.{Agree}
use Rattle.gc_texts.specs.declared.expectation.Expectation.{Expectation}
use Rattle.gc_texts.specs.declared.description.Description.{Description}
use Rattle.gc_texts.specs.declared.near.Near.{Near}
use Rattle.gc_texts.specs.declared.retry.Retry.{Retry}
use Rattle.gc_texts.specs.declared.task_line.TaskLine.{TaskLine}
use Rattle.gc_texts.specs.declared.wish.Wish.{Wish}
use Rattle.gc_texts.specs.declared.wording.Wording.{Wording}
use Rattle.gc_texts.specs.declared.attempts.Planned.{Planned}
use Rattle.gc_texts.specs.declared.tasks.Task.{Task}
use Rattle.gc_texts.specs.declared.task_line.TaskLine.TheVariants as says

-- a task without what distinguishes the attempts of its chain: it has no rule, attempt number 1 and a count of others of 0, as before its
-- chain was laid out in attempts, and all else is kept
abbrev pub as_planned : Task → Task
as_planned task = record task { again = no_again; turn = record { place = task.turn.place; attempt = 1; link = task.turn.link }; others = 0 }

-- these tasks are one attempt of a chain: these commands, in order, each in this attempt, by its sending, and with this rule
pub record IsAttempt (attempt : ℕ) (again : Again) (commands tasks : List Task) : Type 0 where
  pub same : map as_planned tasks ≡ commands
  pub numbered : AllByRecursion (λ task. task.turn.attempt ≡ attempt_number attempt task.twice) tasks
  pub ruled : AllByRecursion (λ task. task.again ≡ again) tasks

-- these tasks are a chain's attempts from this one on, in order; `left` more follow it. Each but the last has the rule
-- `again`, and the last has none
abbrev pub AreAttempts : (attempt left : ℕ) → Again → (commands tasks : List Task) → Type 0
AreAttempts attempt zero again commands tasks = IsAttempt attempt no_again commands tasks
AreAttempts attempt (suc left) again commands tasks =
    (first : List Task) × (later : List Task) × (tasks ≡ first ++ later)
    × IsAttempt attempt again commands first × AreAttempts (attempt + 1) left again commands later

-- a chain of a text: its commands, how often and after which endings it is repeated, and whether an attempt sends it twice
pub record Chain : Type 0 where
  pub retry : Retry
  pub agree : Option Agree
  pub commands : List Task

-- the commands of a chain, each with the chain's retry and `agree`
abbrev pub planned_in : Chain → List Planned
planned_in chain = map (λ task. record { task = task; retry = chain.retry; agree = chain.agree }) chain.commands

-- a command with the place of its target (`placed`)
abbrev pub placed_planned : List Near → (unwatched : List ℕ) → List Description → Planned → Planned
placed_planned nears unwatched described planned = record { task = placed nears unwatched described planned.task; retry = planned.retry; agree = planned.agree }

-- the commands of each of these chains are one chain (`IsOneChain`), and these tasks are the attempts of the chains, in order: of each
-- chain the first, and as many more as its line `retry` says; each has the chain's commands, or, where the chain has an `agree`, its
-- commands twice (`sendings`)
abbrev pub AreLaidOut : List Chain → List Task → Type 0
AreLaidOut [] tasks = tasks ≡ []
AreLaidOut (chain ∷ others) tasks =
    IsOneChain chain.commands
    × ((mine : List Task) × (later : List Task) × (tasks ≡ mine ++ later)
    × AreAttempts 1 chain.retry.times chain.retry.again (sendings chain.agree chain.commands) mine × AreLaidOut others later)

-- the tasks after the setup are the attempts of chains, in order, and the commands of these chains, each with its chain's
-- retry and `agree`, are the text's commands of the cycle, in order, each once, with its target's place (`placed`) and the retry and `agree`
-- that hold for it
abbrev pub ChainsGoOutAgain : Type 0
ChainsGoOutAgain =
    (text : List ℕ) (deadline : ℕ) (chained : Bool) (all : TasksSeen) (is : IsTasks text deadline chained all)
    → (chains : List Chain) × (front : List Task) × (cycle : List Task)
    × (all.tasks ≡ front ++ cycle) × (all.setup ≡ length front) × AreLaidOut chains cycle
    × (flat_map planned_in chains ≡ map (placed_planned all.nears all.unwatched all.described) (planned_of (first_mode deadline chained) is.said))

-- a command of the cycle has the retry that the last line `retry` before it says, and what the last line `agree` says; without such lines
-- its chain isn't repeated, and is sent once in an attempt
abbrev pub RetriesHold : Type 0
RetriesHold =
    (deadline : ℕ) (chained : Bool) (front later : List TaskLine) (command : Wish) (wording : Wording) (expects : Option Expectation) → section_after false front ≡ false
    → (planned : Planned) × (others : List Planned) × (planned_of (first_mode deadline chained) (front ++ says.Command command wording expects ∷ later)
    ≡ planned_of (first_mode deadline chained) front ++ planned ∷ others)
    × (planned.task.command ≡ command) × IsRetryAfter front planned.retry × IsAgreeAfter front planned.agree
