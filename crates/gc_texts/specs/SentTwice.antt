-- What holds of the tasks of a chain that is sent twice: this project's own.
use Rattle.gc_texts.specs.Common.{AllByRecursion}
use Rattle.std.specs.Prelude.{◌≡◌, ℕ, ◌+◌, ◌<◌, Bool, true, List, [], ◌∷◌, ◌++◌}
use Rattle.gc_texts.specs.Tasks.{TasksSeen, IsTasks}
use Rattle.gc_texts.specs.declared.agree.Agree.{Agree}
use Rattle.gc_texts.specs.declared.agree.Twice.TheVariants.{First, Second}
use Rattle.gc_texts.specs.declared.tasks.Task.{Task}

-- a task is one more of the chain of task number `nth`, counted from 0, and comes after it
pub record FollowsInChain (nth : ℕ) (task : Task) : Type 0 where
  pub chained : task.chained ≡ true
  pub behind : nth < task.turn.link

-- these two tasks are of one command and of one attempt of its chain: `first` is the command in its first sending, where it has place `nth`,
-- and `second` in the second. They differ in nothing else
pub record AreBothSendings (nth : ℕ) (first second : Task) : Type 0 where
  pub is_first : first.twice ≡ First
  pub same : record first { chained = second.chained; turn = second.turn; twice = second.twice } ≡ record second { others = first.others }
  pub place : first.turn.place ≡ second.turn.place
  pub attempt : first.turn.attempt + 1 ≡ second.turn.attempt
  pub link : first.turn.link ≡ nth

-- before the task `second`, whose command is number `nth` of its chain, these tasks have the same command in the first sending
-- (`AreBothSendings`), and between the two are tasks of the same chain alone
pub record HasFirstSending (earlier : List Task) (second : Task) (nth : ℕ) : Type 0 where
  pub before : List Task
  pub first : Task
  pub between : List Task
  pub are : earlier ≡ before ++ first ∷ between
  pub both : AreBothSendings nth first second
  pub in_chain : AllByRecursion (FollowsInChain nth) (between ++ second ∷ [])

-- of each task in a second sending, the tasks before it have the first sending
abbrev pub SecondsFollowFirsts : List Task → Type 0
SecondsFollowFirsts tasks =
    (earlier others : List Task) (second : Task) (agree : Agree) (nth : ℕ) → tasks ≡ earlier ++ second ∷ others
    → second.twice ≡ Second agree nth → HasFirstSending earlier second nth

-- in the tasks of a text each second sending of a command follows its first
abbrev pub SecondsFollowTheirFirsts : Type 0
SecondsFollowTheirFirsts =
    (text : List ℕ) (deadline : ℕ) (chained : Bool) (all : TasksSeen) → IsTasks text deadline chained all → SecondsFollowFirsts all.tasks
