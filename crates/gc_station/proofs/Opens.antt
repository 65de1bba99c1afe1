-- Each connection that ends was asked for, and so was each that couldn't be made. `IsBalanced` says of one act: connections
-- before it and asked for by it are as many as those that end at it, can't be made, or are there after it. An act is one call on
-- the link, with its result.
use Rattle.gc_station.proofs.Common.{◌≡◌, ◌+◌, Bool, true, false, List, [], ◌∷◌, refl, sym, ap, ◌∙◌, arith, Task, Plan, Cause, Progress, Action, Act, Closed, Unopened, has_begun, is_up, commands_in, failing, turned, cleared, time_passed, closed, HoldsBefore, HasConnectionFor, Model, waiting_of, with_progress, is_heard, after_open, Performs, moved, commands_before, disconnections_in, openings_in}
use Rattle.gc_station.proofs.Closings.{came_phase, cleared_up}
use Rattle.gc_station.proofs.Silences.{quieted_up}
use Rattle.gc_station.proofs.Walk.{walk, piece_before}
use Rattle.gc_station.proofs.Turns.{up_count, after_failure_down, closed_down}
use Rattle.gc_station.proofs.Unbroken.{failure_keeps_line}
use Rattle.gc_station.specs.declared.cause.Cause.TheVariants as cause
use Rattle.gc_station.specs.declared.progress.Action.TheVariants as actions

-- an act balances connections: those that it asks for, and 1 if there is one before it (`before`), are as many as those that it
-- ends or can't make, and 1 if there is one after it (`behind`)
abbrev pub IsBalanced : (before : Bool) → Act → (behind : Bool) → Type 0
IsBalanced before act behind = openings_in (act ∷ []) + up_count before ≡ disconnections_in (act ∷ []) + up_count behind

-- `IsBalanced`, by the phases of models
abbrev pub IsBalancedAt : Model → Act → Model → Type 0
IsBalancedAt s act t = IsBalanced (is_up s.progress.phase) act (is_up t.progress.phase)

-- `IsBalanced` holds of an act that asks for no connection and ends none, if there is a connection after it just when there was
-- one before
balanced_unchanged : (before behind : Bool) → behind ≡ before → 0 + up_count before ≡ 0 + up_count behind
balanced_unchanged before behind same = ap (λ b. 0 + up_count b) (sym same)

-- what `IsBalanced` says of a failed call: it ends no connection, and there is one after it just when there was one before
failure_balanced : (s : Model) (why : Cause) → 0 + up_count (is_up s.progress.phase) ≡ 0 + up_count (is_up (with_progress (failing why) s).progress.phase)
failure_balanced s why = balanced_unchanged (is_up s.progress.phase) (is_up (failing why s.progress).phase) (failure_keeps_line s.progress why)

-- `IsBalanced` holds of a close, if there was a connection before it, and there is none after it
close_balanced : (before behind : Bool) → before ≡ true → behind ≡ false → IsBalanced before Closed behind
close_balanced before behind up down = let a : up_count before ≡ 1 = ap up_count up in let b : up_count behind ≡ 0 = ap up_count down in omega (arith, a, b)

-- the action closes a connection for `Stale` or `Stopped`: that ends a run without a connection, too
abbrev pub Quits : Action → Type 0
Quits (actions.Close cause.Stale) = Unit {0}
Quits (actions.Close cause.Stopped) = Unit {0}
Quits next = ⊥

-- if `HasConnectionFor` holds for a cause, and a close for this cause isn't one of `Quits`, there is a connection
up_unless_quits : (why : Cause) (p : Progress) → HasConnectionFor why p → (Quits (actions.Close why) → ⊥) → is_up p.phase ≡ true
up_unless_quits cause.Stale p has never = absurd (never tt)
up_unless_quits cause.Stopped p has never = absurd (never tt)
up_unless_quits why p has never = has

-- `IsBalanced` holds of an act of each action but those of `Quits`, if `HoldsBefore` holds of the action
pub moved_balanced : (plan : Plan) (commands : List Task) (next : Action) (s : Model) (act : Act) → Performs commands s next act → HoldsBefore plan s.progress (waiting_of s) next → (Quits next → ⊥)
    → IsBalancedAt s act (moved plan commands next (with_progress turned s) act)
moved_balanced plan commands actions.Open s act o needs never =
    let down : up_count (is_up s.progress.phase) ≡ 0 = ap (λ at. up_count (is_up at)) needs in
    let again : up_count (is_up (after_open plan (with_progress turned s) Unopened).progress.phase) ≡ 0 = ap up_count (after_failure_down plan (commands_in s.marks) cause.Open (turned s.progress)) in
    walk plan commands (IsBalancedAt s) actions.Open (with_progress turned s) act o (λ m. omega (arith, down), λ n. omega (arith, down, again))
moved_balanced plan commands actions.Clear s act o needs never =
    let at = (cleared (turned s.progress)).phase in
    let up : is_up at ≡ is_up s.progress.phase = cleared_up (has_begun s.progress) ∙ sym (ap is_up needs) in
    walk plan commands (IsBalancedAt s) actions.Clear (with_progress turned s) act o (
      λ m. balanced_unchanged (is_up s.progress.phase) (is_up at) up,
      λ n. balanced_unchanged (is_up s.progress.phase) _ (failure_keeps_line (cleared (turned s.progress)) (cause.Write (commands_before plan commands (turned s.progress)) n) ∙ up),
    )
moved_balanced plan commands actions.Ask s act o needs never =
    walk plan commands (IsBalancedAt s) actions.Ask (with_progress turned s) act o (λ m. refl, λ n. failure_balanced s (cause.Write (commands_before plan commands (turned s.progress)) n))
moved_balanced plan commands actions.Prepare s act o needs never =
    walk plan commands (IsBalancedAt s) actions.Prepare (with_progress turned s) act o (λ m. refl, λ n. failure_balanced s (cause.Write (commands_before plan commands (turned s.progress)) n))
moved_balanced plan commands actions.Send s act o needs never =
    walk plan commands (IsBalancedAt s) actions.Send (with_progress turned s) act o (λ m. refl, λ n. failure_balanced s (cause.Write (commands_before plan commands (turned s.progress)) n))
moved_balanced plan commands actions.Flush s act o needs never =
    walk plan commands (IsBalancedAt s) actions.Flush (with_progress turned s) act o (λ m. refl, λ n. failure_balanced s (cause.Write (commands_before plan commands (turned s.progress)) n))
moved_balanced plan commands (actions.Read until) s act o needs never =
    walk plan commands (IsBalancedAt s) (actions.Read until) (with_progress turned s) act o (
      λ bytes m. balanced_unchanged (is_up s.progress.phase) _ (ap is_up (came_phase (is_heard s.progress.phase) s.progress.exchange.word bytes (piece_before m s))),
      λ m. balanced_unchanged (is_up s.progress.phase) _ (quieted_up plan s.progress.phase (time_passed until m (turned s.progress)) refl),
      failure_balanced s cause.End,
      failure_balanced s cause.Read,
      failure_balanced s cause.Clock,
    )
moved_balanced plan commands (actions.Close why) s act o needs never =
    walk plan commands (IsBalancedAt s) (actions.Close why) (with_progress turned s) act o
    (close_balanced (is_up s.progress.phase) (is_up (closed plan (waiting_of s) why (turned s.progress)).phase) (up_unless_quits why s.progress needs.0 never)
    (closed_down plan (waiting_of s) why (turned s.progress)))
moved_balanced plan commands (actions.Stop why) s act o needs never = absurd o
moved_balanced plan commands next s act o needs never = walk plan commands (IsBalancedAt s) next (with_progress turned s) act o (λ m. refl, λ n. failure_balanced s cause.Clock)
