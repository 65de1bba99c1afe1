-- A connection is closed, and a run stops, because its turns are used up only after as many acts as it had turns. An act is one
-- call on the link, with its result.
use Rattle.gc_station.proofs.Common.{◌≡◌, ◌-◌, ◌≤◌, ◌⊎◌, inl, inr, List, [], ◌∷◌, ◌++◌, length, ap, ◌∙◌, subst, arith, length-append, Task, Plan, Progress, Act, EndsRun, turned, HasLast, state_after, Model, opening, action_at, with_progress, moved, after, after_all, Runs, Scope}
use Rattle.gc_station.proofs.Closings.{runs_split, stopped_for}
use Rattle.gc_station.proofs.Counts.{turns_kept, with_losses_progress}
use Rattle.gc_station.proofs.Silences.{not_closing, closes_at_its_end, ended_by_close}
use Rattle.gc_station.specs.declared.cause.Cause.TheVariants as cause
use Rattle.gc_station.specs.declared.progress.Action.TheVariants as actions

-- acts take as many turns as they are, or all that are left if these are fewer
turns_after : (plan : Plan) (commands : List Task) (s : Model) (acts : List Act) → (after_all plan commands s acts).progress.turns ≡ s.progress.turns - length acts
turns_after plan commands s [] = omega arith
turns_after plan commands s (act ∷ acts) =
    let on = turns_after plan commands (after plan commands s act) acts in
    let one : (after plan commands s act).progress.turns ≡ s.progress.turns - 1 =
    ap (λ (p : Progress). p.turns) (with_losses_progress (moved plan commands (action_at plan s) (with_progress turned s) act))
    ∙ turns_kept plan commands (action_at plan s) (with_progress turned s) act in
    omega (arith, on, one)

module _ (plan : Plan) (commands : List Task) (scope : Scope) where
  -- the model after these acts
  abbrev state : List Act → Model
  state acts = state_after plan commands scope acts

  -- if no turn is left, at least as many acts were made as the run had turns
  used_up : (acts : List Act) → (state acts).progress.turns ≡ 0 → scope.turns ≤ length acts
  used_up acts none = let left : (state acts).progress.turns ≡ scope.turns - length acts =
      turns_after plan commands (opening plan scope) acts in omega (arith, none, left)

  -- a connection is closed for its turns only after as many acts as the run had turns
  close_used : (acts : List Act) → Runs plan commands (opening plan scope) acts
      → action_at plan (state acts) ≡ actions.Close cause.Turns → scope.turns ≤ length acts
  close_used acts runs is =
      used_up acts (closes_at_its_end plan (state acts) cause.Turns is (not_closing plan commands scope acts cause.Turns runs (λ act shows. shows)))

  -- a run stops for its turns only after as many acts as it had turns
  stop_used : (acts : List Act) → Runs plan commands (opening plan scope) acts
      → action_at plan (state acts) ≡ actions.Stop cause.Turns → scope.turns ≤ length acts
  stop_used acts runs is = by_shown (stopped_for plan commands scope acts cause.Turns runs is).shown where
    -- if the last act closed a connection for the turns, the acts are at least as many as the run had turns
    before : (earlier : List Act) (last : Act) → acts ≡ earlier ++ last ∷ [] → action_at plan (state earlier) ≡ actions.Close cause.Turns → scope.turns ≤ length acts
    before earlier last order closes =
        let front = (runs_split plan commands (opening plan scope) earlier [] last (subst (λ (xs : List Act). Runs plan commands (opening plan scope) xs) order runs)).0 in
        let fewer = close_used earlier front closes in
        let long = ap length order in
        let more = length-append earlier (last ∷ []) in
        omega (arith, fewer, long, more)

    -- the lemma above, by why the run stopped: no turn is left, or the last act closed a connection for the turns
    by_shown : ((cause.Turns ≡ cause.Turns) × ((state acts).progress.turns ≡ 0))
        ⊎ HasLast acts (λ earlier last. EndsRun plan (state earlier) cause.Turns last)
        → scope.turns ≤ length acts
    by_shown (inl none) = used_up acts none.1
    by_shown (inr (earlier, last, order, ends)) =
        before earlier last order (ended_by_close plan (state earlier) cause.Turns last (λ e. cc) (λ e. cc) (λ shows. shows) ends).1

  -- the law: a connection is closed, or a run stops, for its turns only after as many acts as the run had turns
  pub turns_used : (acts : List Act) → Runs plan commands (opening plan scope) acts
      → (action_at plan (state acts) ≡ actions.Close cause.Turns) ⊎ (action_at plan (state acts) ≡ actions.Stop cause.Turns)
      → scope.turns ≤ length acts
  turns_used acts runs (inl is) = close_used acts runs is
  turns_used acts runs (inr is) = stop_used acts runs is
