-- What each act leaves of the counts: the turns, the cycles that haven't begun, and the commands of the cycle that are left
-- (`unsent`): neither sent, nor recorded without being sent, nor left out. An act is one call on the link, with its result.
use Rattle.gc_station.proofs.Common.{◌≡◌, ℕ, ◌-◌, ◌≤◌, ◌⊎◌, inl, inr, Bool, List, refl, ap, subst, arith, Task, Plan, Action, Begin, Send, Skip, Pass, Progress, Act, Told, Cut, Model, cycle_length, moved, losing, with_losses, commands_before, failing, skipped, loses_all}
use Rattle.gc_station.proofs.Walk.{losing_along, moved_changed, sent_same}
use Rattle.gc_station.specs.declared.cause.Cause.TheVariants as cause

-- from p to q the turns, the cycles that are left and the commands that are unsent stay the same
pub record KeepsCounts (p q : Progress) : Type 0 where
  pub turns : q.turns ≡ p.turns
  pub left : q.left ≡ p.left
  pub unsent : q.unsent ≡ p.unsent

-- `KeepsCounts`, from its three parts
pub keeps_counts : (p q : Progress) → q.turns ≡ p.turns → q.left ≡ p.left → q.unsent ≡ p.unsent → KeepsCounts p q
keeps_counts p q turns left unsent = record { turns = turns; left = left; unsent = unsent }

-- the progress with a cycle of `count` commands begun, as far as these counts go
abbrev pub counted_begun : (count : ℕ) → Progress → Progress
counted_begun count p = record p { left = p.left - 1; unsent = count }

-- the progress with one command fewer unsent
abbrev pub counted_sent : Progress → Progress
counted_sent p = record p { unsent = p.unsent - 1 }

-- the progress with as many commands fewer unsent as the attempt that the next one begins, and the chain's later ones, have
abbrev pub counted_passed : Progress → Progress
counted_passed p = record p { unsent = p.unsent - p.next_others }

-- what an act of an action does to these counts, from p to q, where a cycle has `count` commands: it leaves them, begins a cycle,
-- sends or skips a command, or leaves out some. If an action has two cases, the first is that the clock couldn't be read
abbrev pub ChangesCounts : (count : ℕ) → Action → (p q : Progress) → Type 0
ChangesCounts count Begin p q = KeepsCounts p q ⊎ KeepsCounts (counted_begun count p) q
ChangesCounts count Send p q = KeepsCounts (counted_sent p) q
ChangesCounts count Skip p q = KeepsCounts p q ⊎ KeepsCounts (counted_sent p) q
ChangesCounts count Pass p q = KeepsCounts p q ⊎ KeepsCounts (counted_passed p) q
ChangesCounts count _ p q = KeepsCounts p q

-- each act does to the counts what `ChangesCounts` says
pub moved_counts : (plan : Plan) (commands : List Task) (action : Action) (s : Model) (act : Act)
    → ChangesCounts (cycle_length plan commands) action s.progress (moved plan commands action s act).progress
moved_counts plan commands Begin s (Told m) = inr (keeps_counts (counted_begun (cycle_length plan commands) s.progress) _ refl refl refl)
moved_counts plan commands Begin s act = inl (keeps_counts s.progress _ refl refl refl)
moved_counts plan commands Skip s (Told m) = inr (keeps_counts (counted_sent s.progress) _ refl refl refl)
moved_counts plan commands Skip s act = inl (keeps_counts s.progress _ refl refl refl)
moved_counts plan commands Pass s (Told m) = inr (keeps_counts (counted_passed s.progress) _ refl refl refl)
moved_counts plan commands Pass s act = inl (keeps_counts s.progress _ refl refl refl)
moved_counts plan commands Send s (Cut bytes n) = subst (λ (x : Model). KeepsCounts (counted_sent s.progress)
    (failing (cause.Write (commands_before plan commands s.progress) n) x.progress)) (sent_same plan commands s) (keeps_counts (counted_sent s.progress) _ refl refl refl)
moved_counts plan commands Send s act = subst (λ (x : Model). KeepsCounts (counted_sent s.progress) x.progress) (sent_same plan commands s) (keeps_counts (counted_sent s.progress) _ refl refl refl)
moved_counts plan commands action s act =
    let is = moved_changed plan commands action s act in
    keeps_counts s.progress _ (ap (λ (x : Model). x.progress.turns) is) (ap (λ (x : Model). x.progress.left) is) (ap (λ (x : Model). x.progress.unsent) is)

-- the loss of requests, all or none, changes no progress
pub losing_progress : (all : Bool) (s : Model) → (losing all s).progress ≡ s.progress
losing_progress all s = losing_along (λ (t : Model). t.progress ≡ s.progress) all s refl refl

-- the loss of what is outstanding, at the end of an act, changes no progress
pub with_losses_progress : (s : Model) → (with_losses s).progress ≡ s.progress
with_losses_progress s = losing_progress (loses_all s.progress) s

-- the loss of requests, all or none, leaves no command out
losing_passes : (all : Bool) (s : Model) → (losing all s).passes ≡ s.passes
losing_passes all s = losing_along (λ (t : Model). t.passes ≡ s.passes) all s refl refl

-- the loss of what is outstanding, at the end of an act, leaves no command out
pub with_losses_passes : (s : Model) → (with_losses s).passes ≡ s.passes
with_losses_passes s = losing_passes (loses_all s.progress) s

-- what an act does, apart from the turn that it takes, leaves the number of turns
pub turns_kept : (plan : Plan) (commands : List Task) (action : Action) (s : Model) (act : Act) → (moved plan commands action s act).progress.turns ≡ s.progress.turns
turns_kept plan commands action s act = ap (λ (x : Model). x.progress.turns) (moved_changed plan commands action s act)

-- where the counts change from p to q as `ChangesCounts` says, q has no more commands unsent than a cycle has (`count`), if p
-- has no more
counts_within : (count : ℕ) (action : Action) (p q : Progress) → ChangesCounts count action p q → p.unsent ≤ count → q.unsent ≤ count
counts_within count Begin p q (inl same) h = omega (arith, same.unsent, h)
counts_within count Begin p q (inr began) h = omega (arith, began.unsent)
counts_within count Skip p q (inl same) h = omega (arith, same.unsent, h)
counts_within count Skip p q (inr skipped) h = omega (arith, skipped.unsent, h)
counts_within count Pass p q (inl same) h = omega (arith, same.unsent, h)
counts_within count Pass p q (inr passed) h = omega (arith, passed.unsent, h)
counts_within count action p q is h = omega (arith, is.unsent, h)

-- no more commands are unsent after an act than a cycle has, if no more were before
pub unsent_within : (plan : Plan) (commands : List Task) (action : Action) (s : Model) (act : Act) → s.progress.unsent ≤ cycle_length plan commands
    → (moved plan commands action s act).progress.unsent ≤ cycle_length plan commands
unsent_within plan commands action s act h = counts_within (cycle_length plan commands) action s.progress (moved plan commands action s act).progress (moved_counts plan commands action s act) h
