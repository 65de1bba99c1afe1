-- Which values of files the next command takes: what a progress notes of them (`next_needs`) is what the text says. An act is one call on
-- the link, with its result.
use Rattle.gc_station.proofs.Common.{◌≡◌, ℕ, ◌+◌, ◌-◌, ◌≤◌, Bool, true, false, List, drop, length, nat_le, refl, sym, ap, ◌∙◌, subst, arith, leb-true, leb-false, drop_all, lack, Task, Needs, Act, Told, Cut, IsWithoutValue, lacks_value, Model, opening, action_at, with_progress, moved, Runs, waiting_of, cycle_length, commands_left, commands_left_after, commands_before, needs_first, turned, failing, HoldsBefore, state_after, Scope, Plan, Action, Progress}
use Rattle.gc_station.proofs.Always.{always_of_progress}
use Rattle.gc_station.proofs.EachRun.{invariant_holds}
use Rattle.gc_station.proofs.Facts.{action_for}
use Rattle.gc_station.proofs.Interleaving.{drop_past}
use Rattle.gc_station.proofs.Walk.{moved_changed, model_sent, sent_same}
use Rattle.gc_station.specs.declared.cause.Cause.TheVariants as cause
use Rattle.gc_station.specs.declared.progress.Action.TheVariants as actions

-- the values that a progress notes of the next command are those that the text says it takes
abbrev pub NeedsFit : List Task → Progress → Type 0
NeedsFit commands p = p.next_needs ≡ needs_first (commands_left commands p)

module _ (plan : Plan) (commands : List Task) where
  -- `NeedsFit` is preserved if the next command stays the same
  needs_kept : (p q : Progress) → q.unsent ≡ p.unsent → q.next_needs ≡ p.next_needs → NeedsFit commands p → NeedsFit commands q
  needs_kept p q unsent same h = same ∙ h ∙ ap (λ (n : ℕ). needs_first (drop (length commands - n) commands)) (sym unsent)

  -- `NeedsFit` holds once the next `count` commands had their turn, if no more were unsent than a cycle has
  needs_after_turns : (count : ℕ) (p q : Progress) → (unsent : q.unsent ≡ p.unsent - count) → (noted : q.next_needs ≡ needs_first (commands_left_after count commands p))
      → (within : p.unsent ≤ cycle_length plan commands) → NeedsFit commands q
  needs_after_turns count p q unsent noted within =
      let at : drop ((length commands - p.unsent) + count) commands ≡ drop (length commands - q.unsent) commands =
      drop_past commands p.unsent count (omega (arith, within)) ∙ ap (λ (n : ℕ). drop (length commands - n) commands) (sym unsent) in
      noted ∙ ap needs_first at

  -- the commands behind the setup are the last ones, as many as a cycle has
  pub cycle_is_last : drop plan.setup commands ≡ drop (length commands - cycle_length plan commands) commands
  cycle_is_last = by_test (nat_le plan.setup (length commands)) refl where
    -- the lemma above, whether the list has each command of the setup
    by_test : (b : Bool) → nat_le plan.setup (length commands) ≡ b → drop plan.setup commands ≡ drop (length commands - cycle_length plan commands) commands
    by_test true e = let few = leb-true plan.setup (length commands) e in ap (λ (n : ℕ). drop n commands) (omega (arith, few))
    by_test false e =
        let many = leb-false plan.setup (length commands) e in
        drop_all plan.setup commands (omega (arith, many)) ∙ sym (drop_all (length commands - cycle_length plan commands) commands (omega (arith, many)))

  -- `NeedsFit` holds at the beginning of a cycle
  needs_at_beginning : (q : Progress) → q.unsent ≡ cycle_length plan commands → q.next_needs ≡ needs_first (drop plan.setup commands) → NeedsFit commands q
  needs_at_beginning q unsent noted = noted ∙ ap needs_first (cycle_is_last ∙ ap (λ (n : ℕ). drop (length commands - n) commands) (sym unsent))

  -- the progress after an act of an action and the turn that it takes, before what is outstanding is lost
  abbrev progress_after : Action → Model → Act → Progress
  progress_after next s act = (moved plan commands next (with_progress turned s) act).progress

  -- `NeedsFit` is preserved by an act of each action, if no more commands are unsent than a cycle has
  moved_needs : (next : Action) (s : Model) (act : Act) → s.progress.unsent ≤ cycle_length plan commands → NeedsFit commands s.progress → NeedsFit commands (progress_after next s act)
  moved_needs actions.Begin s (Told m) within h = needs_at_beginning (progress_after actions.Begin s (Told m)) refl refl
  moved_needs actions.Send s (Cut bytes n) within h =
      let t = with_progress turned s in
      let q = failing (cause.Write (commands_before plan commands t.progress) n) (model_sent plan commands t).progress in
      subst (λ (x : Model). NeedsFit commands (failing (cause.Write (commands_before plan commands t.progress) n) x.progress)) (sent_same plan commands t)
      (needs_after_turns 1 s.progress q refl refl within)
  moved_needs actions.Send s act within h =
      let t = with_progress turned s in
      subst (λ (x : Model). NeedsFit commands x.progress) (sent_same plan commands t) (needs_after_turns 1 s.progress (model_sent plan commands t).progress refl refl within)
  moved_needs actions.Skip s (Told m) within h = needs_after_turns 1 s.progress (progress_after actions.Skip s (Told m)) refl refl within
  moved_needs actions.Pass s (Told m) within h = needs_after_turns s.progress.next_others s.progress (progress_after actions.Pass s (Told m)) refl refl within
  moved_needs actions.Begin s act within h = needs_kept s.progress (progress_after actions.Begin s act) refl refl h
  moved_needs actions.Skip s act within h = needs_kept s.progress (progress_after actions.Skip s act) refl refl h
  moved_needs actions.Pass s act within h = needs_kept s.progress (progress_after actions.Pass s act) refl refl h
  moved_needs next s act within h =
      let is = moved_changed plan commands next (with_progress turned s) act in
      needs_kept s.progress (progress_after next s act) (ap (λ (x : Model). x.progress.unsent) is) (ap (λ (x : Model). x.progress.next_needs) is) h

-- `NeedsFit` holds after every run
pub needs_hold : (plan : Plan) (commands : List Task) (scope : Scope) (acts : List Act) → Runs plan commands (opening plan scope) acts
    → NeedsFit commands (state_after plan commands scope acts).progress
needs_hold plan commands scope acts runs =
    always_of_progress plan commands (opening plan scope) (λ (p : Progress) (done : List Act). NeedsFit commands p)
    (λ done act runs' o h.
    let s = state_after plan commands scope done in
    moved_needs plan commands (action_at plan s) s act (invariant_holds plan commands scope done).unsent h)
    (sym (ap needs_first (drop_all (length commands - 0) commands (omega arith)))) acts runs

-- after every run, whether a value lacks that the next command takes of a file is what the text says of it
pub lacks_as_text_says : (plan : Plan) (commands : List Task) (scope : Scope) (acts : List Act) → Runs plan commands (opening plan scope) acts
    → let p = (state_after plan commands scope acts).progress in lacks_value p ≡ lack (needs_first (commands_left commands p)) p.moment.values
lacks_as_text_says plan commands scope acts runs =
    let p = (state_after plan commands scope acts).progress in ap (λ (needs : Needs). lack needs p.moment.values) (needs_hold plan commands scope acts runs)

-- if a command of a cycle is sent, each value that it takes of a file is there
pub sent_with_its_values : (plan : Plan) (commands : List Task) (scope : Scope) (acts : List Act) → Runs plan commands (opening plan scope) acts
    → action_at plan (state_after plan commands scope acts) ≡ actions.Send
    → let p = (state_after plan commands scope acts).progress in lack (needs_first (commands_left commands p)) p.moment.values ≡ false
sent_with_its_values plan commands scope acts runs is =
    let s = state_after plan commands scope acts in
    let its = subst (λ (o : Action). HoldsBefore plan s.progress (waiting_of s) o) is (action_for plan s.progress (waiting_of s)) in
    sym (lacks_as_text_says plan commands scope acts runs) ∙ its.10

-- if a value lacks that the next command takes of a file, the command is without it by its text (`IsWithoutValue`)
pub without_value : (plan : Plan) (commands : List Task) (scope : Scope) (acts : List Act) → Runs plan commands (opening plan scope) acts
    → lacks_value (state_after plan commands scope acts).progress ≡ true → IsWithoutValue commands (state_after plan commands scope acts)
without_value plan commands scope acts runs lacks = sym (lacks_as_text_says plan commands scope acts runs) ∙ lacks
