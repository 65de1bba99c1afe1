-- Further attempts of a chain are sent, and left out, only for a cause: `listed` of a model is what its records say. An act is
-- one call on the link, with its result.
use Rattle.gc_station.proofs.Common.{◌≡◌, ℕ, Bool, if◌then◌else◌, List, drop, refl, sym, ap, ◌∙◌, subst, ◌⊎◌, inl, inr, ◌+◌, ◌-◌, ◌<◌, ◌≤◌, ◌||◌, true, false, length, nat_lt, arith, Task, Act, Told, Cut, commands_in, Model, opening, action_at, with_progress, moved, Runs, waiting_of, cycle_length, place_next, commands_left, cycles_begun, cycle_next, first_is_chained, others_in, rests, left_out_in, others_after, commands_before, turned, failing, state_after, Scope, Plan, Action, Progress, ltb-true, ltb-false, both_ways, Waiting, HoldsBefore, IsOverdue, HasListed, IsFurtherAttempt, MayLeaveOut, Rests, FurtherAttemptsHaveACause, EachRecordHasItsTurn, HasItsTurn}
use Rattle.gc_station.proofs.Lists.{all_on}
use Rattle.gc_station.proofs.Walk.{moved_changed, model_sent, sent_same}
use Rattle.gc_station.proofs.Always.{always_of_progress}
use Rattle.gc_station.proofs.Chaining.{chained_as_text_says, no_next_command}
use Rattle.gc_station.proofs.Interleaving.{drop_past}
use Rattle.gc_station.proofs.EachRun.{invariant_holds}
use Rattle.gc_station.proofs.Facts.{action_for}
use Rattle.gc_station.proofs.Listed.{has_if_listed, listed_if_has}
use Rattle.gc_station.proofs.Closings.{needs_of}
use Rattle.gc_station.proofs.Needed.{cycle_is_last}
use Rattle.gc_station.proofs.Resting.{is_resting_next, rests_still, sent_in_turn}
use Rattle.gc_station.proofs.AsText.{IsAsItsText, kept_all}
use Rattle.gc_station.specs.declared.progress.Action.TheVariants as actions
use Rattle.gc_station.specs.declared.cause.Cause.TheVariants as cause

-- the law: each record has its command's turn
pub each_has_its_turn : EachRecordHasItsTurn
each_has_its_turn plan commands scope acts =
    all_on (IsAsItsText plan commands scope) (HasItsTurn commands) (state_after plan commands scope acts).records (λ r so. so.0) (kept_all plan commands scope acts).records

module _ (plan : Plan) (commands : List Task) (scope : Scope) where
  -- the model after these acts
  abbrev state : List Act → Model
  state acts = state_after plan commands scope acts

  -- What a progress says of the next command.

  -- `next_others` is what the text says of the next command, if that isn't the first of its cycle, and else 0, unless the command rests
  abbrev OthersFit : Progress → Type 0
  OthersFit p =
      (is_resting_next plan commands p ≡ false → plan.setup < place_next commands p → p.next_others ≡ others_in (commands_left commands p))
      × (is_resting_next plan commands p ≡ false → place_next commands p ≤ plan.setup → p.next_others ≡ 0)

  -- `OthersFit` is preserved if the next command stays the same
  others_kept : (p q : Progress) → q.left ≡ p.left → q.unsent ≡ p.unsent → q.next_others ≡ p.next_others → OthersFit p → OthersFit q
  others_kept p q left unsent others h =
      let at : place_next commands q ≡ place_next commands p = ap (λ (n : ℕ). length commands - n) unsent in
      let same : is_resting_next plan commands p ≡ is_resting_next plan commands q = sym (rests_still plan commands p q left unsent) in (
        λ awake above. others ∙ h.0 (same ∙ awake) (subst (λ (n : ℕ). plan.setup < n) at above) ∙ ap (λ (n : ℕ). others_in (drop n commands)) (sym at),
        λ awake none. others ∙ h.1 (same ∙ awake) (subst (λ (n : ℕ). n ≤ plan.setup) at none),
      )

  -- `OthersFit` holds once the next `count` commands, at least one, had their turn, if some were unsent, and no more than a cycle
  -- has
  others_after_turns : (count : ℕ) (p q : Progress) → (left : q.left ≡ p.left) → (unsent : q.unsent ≡ p.unsent - count) → (others : q.next_others ≡ others_after plan count commands p)
      → (some : 0 < p.unsent) → (more : 0 < count) → (within : p.unsent ≤ cycle_length plan commands) → OthersFit q
  others_after_turns count p q left unsent others some more within =
      let at : drop (place_next commands p + count) commands ≡ drop (place_next commands q) commands =
      drop_past commands p.unsent count (omega (arith, within)) ∙ ap (λ (n : ℕ). drop (length commands - n) commands) (sym unsent) in (
        λ awake above.
            others ∙ ap (λ (n : ℕ). left_out_in (plan.cycles - n) (drop (place_next commands p + count) commands)) (sym left) ∙ ap (left_out_in (cycles_begun plan q)) at
            ∙ ap (λ (b : Bool). if b then 1 else others_in (commands_left commands q)) awake,
        λ awake none. absurd (omega (arith, unsent, some, more, within, none)),
      )

  -- `OthersFit` holds at the beginning of a cycle
  others_at_beginning : (p q : Progress) → q.left ≡ p.left - 1 → q.unsent ≡ cycle_length plan commands
      → q.next_others ≡ (if rests (cycle_next plan p) (drop plan.setup commands) then 1 else 0) → OthersFit q
  others_at_beginning p q left unsent others = (
    λ awake above. absurd (omega (arith, unsent, above)),
    λ awake none.
        others ∙ ap (λ (b : Bool). if b then 1 else 0)
        (ap (rests (cycle_next plan p)) (cycle_is_last plan commands ∙ ap (λ (n : ℕ). drop (length commands - n) commands) (sym unsent))
        ∙ ap (λ (n : ℕ). rests (plan.cycles - n) (commands_left commands q)) (sym left) ∙ awake),
  )

  -- the progress after an act of an action and the turn that it takes, before what is outstanding is lost
  abbrev progress_after : Action → Model → Act → Progress
  progress_after next s act = (moved plan commands next (with_progress turned s) act).progress

  -- `OthersFit` is preserved by an act of each action of which `HoldsBefore` holds, if no more commands are unsent than a cycle
  -- has
  moved_others : (next : Action) (s : Model) (w : Waiting) (act : Act) → HoldsBefore plan s.progress w next → s.progress.unsent ≤ cycle_length plan commands → OthersFit s.progress
      → OthersFit (progress_after next s act)
  moved_others actions.Begin s w (Told m) needs within h = others_at_beginning s.progress (progress_after actions.Begin s (Told m)) refl refl refl
  moved_others actions.Send s w (Cut bytes n) needs within h =
      let t = with_progress turned s in
      let q = failing (cause.Write (commands_before plan commands t.progress) n) (model_sent plan commands t).progress in
      subst (λ (x : Model). OthersFit (failing (cause.Write (commands_before plan commands t.progress) n) x.progress)) (sent_same plan commands t)
      (others_after_turns 1 s.progress q refl refl refl needs.2 (omega arith) within)
  moved_others actions.Send s w act needs within h =
      let t = with_progress turned s in
      subst (λ (x : Model). OthersFit x.progress) (sent_same plan commands t) (others_after_turns 1 s.progress (model_sent plan commands t).progress refl refl refl needs.2 (omega arith) within)
  moved_others actions.Skip s w (Told m) needs within h = others_after_turns 1 s.progress (progress_after actions.Skip s (Told m)) refl refl refl needs.2 (omega arith) within
  moved_others actions.Pass s w (Told m) needs within h = others_after_turns s.progress.next_others s.progress (progress_after actions.Pass s (Told m)) refl refl refl needs.2 needs.4 within
  moved_others actions.Begin s w act needs within h = others_kept s.progress (progress_after actions.Begin s act) refl refl refl h
  moved_others actions.Skip s w act needs within h = others_kept s.progress (progress_after actions.Skip s act) refl refl refl h
  moved_others actions.Pass s w act needs within h = others_kept s.progress (progress_after actions.Pass s act) refl refl refl h
  moved_others next s w act needs within h =
      let is = moved_changed plan commands next (with_progress turned s) act in
      others_kept s.progress (progress_after next s act) (ap (λ (x : Model). x.progress.left) is) (ap (λ (x : Model). x.progress.unsent) is) (ap (λ (x : Model). x.progress.next_others) is) h

  -- `OthersFit` holds after every run
  others_hold : (acts : List Act) → Runs plan commands (opening plan scope) acts → OthersFit (state acts).progress
  others_hold acts runs =
      always_of_progress plan commands (opening plan scope) (λ (p : Progress) (done : List Act). OthersFit p)
      (λ done act runs' o h.
      let s = state done in
      moved_others (action_at plan s) s (waiting_of s) act (action_for plan s.progress (waiting_of s)) (invariant_holds plan commands scope done).unsent h)
      (λ awake above. sym (ap others_in (no_next_command commands)), λ awake none. refl) acts runs

  -- if the next command begins a further attempt and is sent, each command before it is settled, and one of the attempt before
  -- ended as its rule names (`HasListed`)
  goes_again : (acts : List Act) → Runs plan commands (opening plan scope) acts → action_at plan (state acts) ≡ actions.Send
      → IsFurtherAttempt plan commands (state acts)
      → (commands_in (state acts).marks ≡ 0) × HasListed scope.reads commands (state acts).records
  goes_again acts runs is further = by_may (needs_of plan (state acts) actions.Send is).6 where
    -- the model after these acts
    s : Model
    s = state acts

    -- the lemma above, by why the command may be sent (`MayRetry`): as it begins a further attempt, all before it are settled
    by_may : ((s.progress.next_others ≡ 0) ⊎ ((commands_in s.marks ≡ 0) × (s.listed ≡ true))) → (commands_in s.marks ≡ 0) × HasListed scope.reads commands s.records
    by_may (inl none) = let others = (others_hold acts runs).0 (sent_in_turn plan commands scope acts runs is) further.0 in let more = further.1 in absurd (omega (arith, none, others, more))
    by_may (inr may) = (may.0, has_if_listed scope.reads commands s.records (sym (kept_all plan commands scope acts).listed ∙ may.1))

  -- if commands are left out, each command before them is settled; and the next one rests, or they are of further attempts, and there is a
  -- reason (`MayLeaveOut`)
  passes_over : (acts : List Act) → Runs plan commands (opening plan scope) acts → action_at plan (state acts) ≡ actions.Pass
      → (commands_in (state acts).marks ≡ 0) × (Rests plan commands (state acts) ⊎ (IsFurtherAttempt plan commands (state acts) × MayLeaveOut plan scope.reads commands (state acts)))
  passes_over acts runs is = (needs.3, by_rest (is_resting_next plan commands s.progress) refl) where
    -- the model after these acts
    s : Model
    s = state acts

    -- the conditions of leaving attempts out hold
    needs : HoldsBefore plan s.progress (waiting_of s) actions.Pass
    needs = needs_of plan (state acts) actions.Pass is

    -- `OthersFit` holds after these acts
    as_text : OthersFit s.progress
    as_text = others_hold acts runs

    -- the next command isn't the first of its cycle, by its place
    by_place : is_resting_next plan commands s.progress ≡ false → (b : Bool) → nat_lt plan.setup (place_next commands s.progress) ≡ b → plan.setup < place_next commands s.progress
    by_place awake true at = ltb-true plan.setup (place_next commands s.progress) at
    by_place awake false at = let none = as_text.1 awake (ltb-false plan.setup (place_next commands s.progress) at) in let more = needs.4 in absurd (omega (arith, none, more))

    -- the next command isn't the first of its cycle, if it doesn't rest
    above : is_resting_next plan commands s.progress ≡ false → plan.setup < place_next commands s.progress
    above awake = by_place awake (nat_lt plan.setup (place_next commands s.progress)) refl

    -- and it begins a further attempt
    further : is_resting_next plan commands s.progress ≡ false → 0 < others_in (commands_left commands s.progress)
    further awake = subst (λ (n : ℕ). 0 < n) (as_text.0 awake (above awake)) needs.4

    -- why a command that doesn't rest counts as chained: its cycle is missed, or the text says so
    by_missed : (b r c : Bool) → s.progress.missed ≡ b → r ≡ false → (b || (r || c)) ≡ true → (s.progress.missed ≡ true) ⊎ ((c ≡ true) ⊎ IsOverdue plan s.progress (waiting_of s))
    by_missed true r c missed awake e = inl missed
    by_missed false false c missed awake e = inr (inl e)
    by_missed false true c missed awake e = cc

    -- why the attempt is left out
    by_why : is_resting_next plan commands s.progress ≡ false → (((s.listed ≡ false) ⊎ (s.progress.next_is_chained ≡ true)) ⊎ IsOverdue plan s.progress (waiting_of s))
        → MayLeaveOut plan scope.reads commands s
    by_why awake (inr over) = inr (inr (inr over))
    by_why awake (inl (inl none)) = inl (λ h. both_ways s.listed none ((kept_all plan commands scope acts).listed ∙ listed_if_has scope.reads commands s.records false (each_has_its_turn plan commands scope acts) h))
    by_why awake (inl (inr bound)) =
        inr (by_missed s.progress.missed (is_resting_next plan commands s.progress) (first_is_chained (drop (place_next commands s.progress) commands)) refl awake
        (sym (chained_as_text_says plan commands scope acts runs (above awake)) ∙ bound))

    -- the lemma above, whether the next command rests
    by_rest : (b : Bool) → is_resting_next plan commands s.progress ≡ b → Rests plan commands s ⊎ (IsFurtherAttempt plan commands s × MayLeaveOut plan scope.reads commands s)
    by_rest true resting = inl resting
    by_rest false awake = inr ((above awake, further awake), by_why awake needs.5)

-- the law: further attempts of a chain are sent, and left out, only for a cause
pub goes_out_again : FurtherAttemptsHaveACause
goes_out_again = record { goes = goes_again; passes = passes_over }
