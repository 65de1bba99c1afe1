-- A command that rests in its cycle counts as chained, and as an attempt of its own (`RestFits`): so it is neither sent nor recorded. An
-- act is one call on the link, with its result.
use Rattle.gc_station.proofs.Common.{◌≡◌, inl, inr, ℕ, ◌+◌, ◌-◌, ◌≤◌, ◌||◌, Bool, true, false, if◌then◌else◌, List, drop, length, refl, sym, ap, ◌∙◌, subst, arith, both_ways, or_right, false_from_ne_true, Task, Act, Told, Cut, Model, opening, action_at, with_progress, moved, Runs, cycle_length, place_next, commands_left, cycles_begun, cycle_next, commands_before, first_is_chained, others_in, rests, is_chained_after, others_after, turned, failing, is_missed_at, IsInItsTurn, state_after, Scope, Plan, Action, Progress}
use Rattle.gc_station.proofs.Always.{always_of_progress}
use Rattle.gc_station.proofs.Chaining.{no_next_command}
use Rattle.gc_station.proofs.Closings.{needs_of}
use Rattle.gc_station.proofs.EachRun.{invariant_holds}
use Rattle.gc_station.proofs.Interleaving.{drop_past}
use Rattle.gc_station.proofs.Needed.{cycle_is_last}
use Rattle.gc_station.proofs.Walk.{moved_changed, model_sent, sent_same}
use Rattle.gc_station.specs.declared.cause.Cause.TheVariants as cause
use Rattle.gc_station.specs.declared.progress.Action.TheVariants as actions

module _ (plan : Plan) (commands : List Task) where
  -- whether the next command rests in its cycle
  abbrev pub is_resting_next : Progress → Bool
  is_resting_next p = rests (cycles_begun plan p) (commands_left commands p)

  -- if the next command rests, it counts as chained, and as an attempt of its own
  abbrev pub RestFits : Progress → Type 0
  RestFits p = is_resting_next p ≡ true → (p.next_is_chained ≡ true) × (p.next_others ≡ 1)

  -- in the same cycle, at the same command, it rests still
  pub rests_still : (p q : Progress) → q.left ≡ p.left → q.unsent ≡ p.unsent → is_resting_next q ≡ is_resting_next p
  rests_still p q left unsent =
      ap (λ (n : ℕ). rests (plan.cycles - n) (drop (length commands - q.unsent) commands)) left
      ∙ ap (λ (n : ℕ). rests (plan.cycles - p.left) (drop (length commands - n) commands)) unsent

  -- `RestFits` is preserved if the next command stays the same
  rest_kept : (p q : Progress) → q.left ≡ p.left → q.unsent ≡ p.unsent → q.next_is_chained ≡ p.next_is_chained → q.next_others ≡ p.next_others → RestFits p → RestFits q
  rest_kept p q left unsent chained others h e =
      let was = h (sym (rests_still p q left unsent) ∙ e) in (chained ∙ was.0, others ∙ was.1)

  -- `RestFits` holds once the next `count` commands had their turn, if no more were unsent than a cycle has
  rest_after_turns : (count : ℕ) (p q : Progress) → (left : q.left ≡ p.left) → (unsent : q.unsent ≡ p.unsent - count)
      → (chained : q.next_is_chained ≡ is_chained_after plan count commands p) → (others : q.next_others ≡ others_after plan count commands p)
      → (within : p.unsent ≤ cycle_length plan commands) → RestFits q
  rest_after_turns count p q left unsent chained others within e =
      let front : List Task = drop (place_next commands p + count) commands in
      let at : front ≡ drop (length commands - q.unsent) commands =
      drop_past commands p.unsent count (omega (arith, within)) ∙ ap (λ (n : ℕ). drop (length commands - n) commands) (sym unsent) in
      let here : rests (cycles_begun plan p) front ≡ true =
      ap (λ (n : ℕ). rests (plan.cycles - n) front) (sym left) ∙ ap (rests (cycles_begun plan q)) at ∙ e in (
        chained ∙ ap (λ (b : Bool). p.missed || (b || first_is_chained front)) here ∙ or_right p.missed true refl,
        others ∙ ap (λ (b : Bool). if b then 1 else others_in front) here,
      )

  -- `RestFits` holds at the beginning of a cycle
  rest_at_beginning : (p q : Progress) (missed : Bool) → (left : q.left ≡ p.left - 1) → (unsent : q.unsent ≡ cycle_length plan commands)
      → (chained : q.next_is_chained ≡ (missed || rests (cycle_next plan p) (drop plan.setup commands)))
      → (others : q.next_others ≡ (if rests (cycle_next plan p) (drop plan.setup commands) then 1 else 0)) → RestFits q
  rest_at_beginning p q missed left unsent chained others e =
      let first : List Task = drop plan.setup commands in
      let at : first ≡ drop (length commands - q.unsent) commands =
      cycle_is_last plan commands ∙ ap (λ (n : ℕ). drop (length commands - n) commands) (sym unsent) in
      let here : rests (cycle_next plan p) first ≡ true =
      ap (λ (n : ℕ). rests (plan.cycles - n) first) (sym left) ∙ ap (rests (cycles_begun plan q)) at ∙ e in (
        chained ∙ or_right missed (rests (cycle_next plan p) first) here,
        others ∙ ap (λ (b : Bool). if b then 1 else 0) here,
      )

  -- the progress after an act of an action and the turn that it takes, before what is outstanding is lost
  abbrev progress_after : Action → Model → Act → Progress
  progress_after next s act = (moved plan commands next (with_progress turned s) act).progress

  -- `RestFits` is preserved by an act of each action, if no more commands are unsent than a cycle has
  moved_rest : (next : Action) (s : Model) (act : Act) → s.progress.unsent ≤ cycle_length plan commands → RestFits s.progress → RestFits (progress_after next s act)
  moved_rest actions.Begin s (Told m) within h =
      rest_at_beginning s.progress (progress_after actions.Begin s (Told m)) (is_missed_at plan m (turned s.progress)) refl refl refl refl
  moved_rest actions.Send s (Cut bytes n) within h =
      let t = with_progress turned s in
      let q = failing (cause.Write (commands_before plan commands t.progress) n) (model_sent plan commands t).progress in
      subst (λ (x : Model). RestFits (failing (cause.Write (commands_before plan commands t.progress) n) x.progress)) (sent_same plan commands t)
      (rest_after_turns 1 s.progress q refl refl refl refl within)
  moved_rest actions.Send s act within h =
      let t = with_progress turned s in
      subst (λ (x : Model). RestFits x.progress) (sent_same plan commands t) (rest_after_turns 1 s.progress (model_sent plan commands t).progress refl refl refl refl within)
  moved_rest actions.Skip s (Told m) within h = rest_after_turns 1 s.progress (progress_after actions.Skip s (Told m)) refl refl refl refl within
  moved_rest actions.Pass s (Told m) within h = rest_after_turns s.progress.next_others s.progress (progress_after actions.Pass s (Told m)) refl refl refl refl within
  moved_rest actions.Begin s act within h = rest_kept s.progress (progress_after actions.Begin s act) refl refl refl refl h
  moved_rest actions.Skip s act within h = rest_kept s.progress (progress_after actions.Skip s act) refl refl refl refl h
  moved_rest actions.Pass s act within h = rest_kept s.progress (progress_after actions.Pass s act) refl refl refl refl h
  moved_rest next s act within h =
      let is = moved_changed plan commands next (with_progress turned s) act in
      rest_kept s.progress (progress_after next s act) (ap (λ (x : Model). x.progress.left) is) (ap (λ (x : Model). x.progress.unsent) is)
      (ap (λ (x : Model). x.progress.next_is_chained) is) (ap (λ (x : Model). x.progress.next_others) is) h

  -- a command that isn't left out whatever came before it doesn't rest
  pub in_turn : (p : Progress) → IsInItsTurn p → RestFits p → is_resting_next p ≡ false
  in_turn p turn h = false_from_ne_true (is_resting_next p) (λ e. by_turn turn (h e)) where
    -- the lemma above, by why the command isn't left out
    by_turn : IsInItsTurn p → (p.next_is_chained ≡ true) × (p.next_others ≡ 1) → ⊥
    by_turn (inl none) was = let one = was.1 in omega (arith, none, one)
    by_turn (inr free) was = both_ways p.next_is_chained free was.0

-- `RestFits` holds after every run
pub rest_holds : (plan : Plan) (commands : List Task) (scope : Scope) (acts : List Act) → Runs plan commands (opening plan scope) acts
    → RestFits plan commands (state_after plan commands scope acts).progress
rest_holds plan commands scope acts runs =
    always_of_progress plan commands (opening plan scope) (λ (p : Progress) (done : List Act). RestFits plan commands p)
    (λ done act runs' o h.
    let s = state_after plan commands scope done in
    moved_rest plan commands (action_at plan s) s act (invariant_holds plan commands scope done).unsent h)
    (λ e. absurd (both_ways (is_resting_next plan commands (opening plan scope).progress) (ap (rests (plan.cycles - plan.cycles)) (no_next_command commands)) e)) acts runs

-- no command is sent that rests in its cycle
pub sent_in_turn : (plan : Plan) (commands : List Task) (scope : Scope) (acts : List Act) → Runs plan commands (opening plan scope) acts
    → action_at plan (state_after plan commands scope acts) ≡ actions.Send → is_resting_next plan commands (state_after plan commands scope acts).progress ≡ false
sent_in_turn plan commands scope acts runs is =
    let s = state_after plan commands scope acts in in_turn plan commands s.progress (needs_of plan s actions.Send is).11 (rest_holds plan commands scope acts runs)

-- nor is one recorded without being sent
pub skipped_in_turn : (plan : Plan) (commands : List Task) (scope : Scope) (acts : List Act) → Runs plan commands (opening plan scope) acts
    → action_at plan (state_after plan commands scope acts) ≡ actions.Skip → is_resting_next plan commands (state_after plan commands scope acts).progress ≡ false
skipped_in_turn plan commands scope acts runs is =
    let s = state_after plan commands scope acts in in_turn plan commands s.progress (needs_of plan s actions.Skip is).6 (rest_holds plan commands scope acts runs)
