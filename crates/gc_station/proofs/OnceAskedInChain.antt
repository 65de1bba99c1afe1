-- How many requests are sent once the end of a run was asked for: between two chains none; and within one no more than eight for each
-- command that is left of it, and the null procedures after the last command. An act is one call on the link, with its result.
use Rattle.gc_station.proofs.Common.{◌≡◌, ◌⊎◌, inl, inr, ℕ, zero, suc, ◌+◌, ◌*◌, ◌-◌, ◌≤◌, ◌||◌, Bool, true, false, if◌then◌else◌, List, [], ◌∷◌, ◌++◌, length, drop, refl, sym, ap, ◌∙◌, subst, arith, append_assoc, both_ways, cond_both, or_left, false_from_ne_true, Task, Act, is_between_chains, Moment, Model, cycle_length, opening, action_at, waiting_of, with_progress, moved, losing, with_losses, after, Performs, Runs, place_next, commands_left, cycles_begun, cycle_next, first_is_chained, rests, is_chained_in, requests_by, requests_sent, chained_first, chain_left, FinishesItsChainOnceAsked, turned, loses_all, is_missed_at, HoldsBefore, MayGo, state_after, Scope, asked_after, Plan, Action, Progress}
use Rattle.gc_station.proofs.Always.{always_of_progress}
use Rattle.gc_station.proofs.Chaining.{waits_for_answer, next_chained}
use Rattle.gc_station.proofs.ChainSteps.{Still, GoesOnBy, moved_steps}
use Rattle.gc_station.proofs.Closings.{runs_split}
use Rattle.gc_station.proofs.Counts.{with_losses_progress}
use Rattle.gc_station.proofs.EachRun.{invariant_holds}
use Rattle.gc_station.proofs.Facts.{action_for}
use Rattle.gc_station.proofs.Going.{after_all-append}
use Rattle.gc_station.proofs.InTime.{asked_stays}
use Rattle.gc_station.proofs.Interleaving.{drop_past}
use Rattle.gc_station.proofs.Invariant.{Invariant}
use Rattle.gc_station.proofs.InCycle.{or_second}
use Rattle.gc_station.proofs.Needed.{cycle_is_last}
use Rattle.gc_station.proofs.NoneEnded.{NoneEndedBefore, none_ended_holds}
use Rattle.gc_station.proofs.Resting.{RestFits, is_resting_next, in_turn, rest_holds}
use Rattle.gc_station.proofs.Asked.{begun_if_nothing_lost}
use Rattle.gc_station.proofs.Nulls.{nulls_left, nulls_few, nulls_after, nulls_after_most, nulls_after_begun}
use Rattle.gc_station.proofs.OnceAsked.{acts_fewer}
use Rattle.gc_station.proofs.SendsNoMore.{sends_no_more, losing_sends_none, none_follows}
use Rattle.gc_station.proofs.Stopping.{asked-append, stops_as_asked}
use Rattle.gc_station.proofs.Walk.{moved_changed, walk}
use Rattle.gc_station.specs.declared.progress.Action.TheVariants as actions

-- Chains as the text says.

-- of commands that begin with a chained one, one more is of the chain than of those after it
chained_more : (k : ℕ) (commands : List Task) → first_is_chained (drop k commands) ≡ true → chained_first (drop k commands) ≡ 1 + chained_first (drop (suc k) commands)
chained_more zero [] e = cc
chained_more zero (task ∷ others) e = ap (λ (b : Bool). if b then 1 + chained_first others else 0) e
chained_more (suc k) [] e = cc
chained_more (suc k) (task ∷ others) e = chained_more k others e

module _ (plan : Plan) (commands : List Task) where
  -- if the next command waits for the answer of the one before it, the text chains it, or the cycle is missed; and in a missed cycle each
  -- command waits so, and no chain goes on
  abbrev pub FollowsText : Progress → Type 0
  FollowsText p = (p.next_is_chained ≡ true → waits_for_answer plan commands p ≡ true) × (p.missed ≡ true → (p.next_is_chained ≡ true) × (p.chain_unbroken ≡ false))

  -- it stays so at the same command
  follows_still : (p q : Progress) → Still p q → FollowsText p → FollowsText q
  follows_still p q k h = (
    λ e. ap (λ (b : Bool). b || is_chained_in (cycles_begun plan q) (drop (length commands - q.unsent) commands)) k.missed
        ∙ ap (λ (n : ℕ). p.missed || is_chained_in (plan.cycles - n) (drop (length commands - q.unsent) commands)) k.left
        ∙ ap (λ (n : ℕ). p.missed || is_chained_in (cycles_begun plan p) (drop (length commands - n) commands)) k.unsent ∙ h.0 (sym k.next_is_chained ∙ e),
    λ e. let was = h.1 (sym k.missed ∙ e) in
        (k.next_is_chained ∙ was.0, false_from_ne_true q.chain_unbroken (λ unbroken. both_ways p.chain_unbroken was.1 (k.chain_unbroken unbroken))),
  )

  -- and at a later one, if no chain goes on in a missed cycle
  follows_next : (count : ℕ) (p q : Progress) → GoesOnBy plan count commands p q → p.unsent ≤ length commands → (p.missed ≡ true → q.chain_unbroken ≡ false) → FollowsText q
  follows_next count p q on within broken = (
    λ e. sym (next_chained plan count commands p q on within) ∙ e,
    λ e. let missed = sym on.missed ∙ e in (on.chained ∙ or_left p.missed (is_chained_in (cycles_begun plan p) (drop (place_next commands p + count) commands)) missed, broken missed),
  )

  -- an act of each action preserves it
  follows_moved : (s : Model) (o : Action) (act : Act) → Performs commands s o act → HoldsBefore plan s.progress (waiting_of s) o → s.progress.unsent ≤ length commands
      → FollowsText s.progress → FollowsText (moved plan commands o (with_progress turned s) act).progress
  follows_moved s actions.Begin act obeys needs within h =
      walk plan commands (λ (a : Act) (t : Model). FollowsText t.progress) actions.Begin (with_progress turned s) act obeys
      (λ m. (λ e. bound_at_beginning m e, λ e. (or_left _ (rests (cycle_next plan s.progress) (drop plan.setup commands)) e, refl)), λ n. h) where
        -- the first command waits for an answer as the text says, or rests
        bound_at_beginning : (m : Moment) → let resting = rests (cycle_next plan s.progress) in (is_missed_at plan m (turned s.progress) || resting (drop plan.setup commands)) ≡ true
            → (is_missed_at plan m (turned s.progress) || (resting (drop (length commands - cycle_length plan commands) commands) || first_is_chained (drop (length commands - cycle_length plan commands) commands))) ≡ true
        bound_at_beginning m e =
            by_tests (is_missed_at plan m (turned s.progress)) _ _ (first_is_chained (drop (length commands - cycle_length plan commands) commands)) (ap (rests (cycle_next plan s.progress)) (cycle_is_last plan commands)) e where
              -- the lemma above, by the tests
              by_tests : (a r r' f : Bool) → r ≡ r' → (a || r) ≡ true → (a || (r' || f)) ≡ true
              by_tests true r r' f same e = refl
              by_tests false r true f same e = refl
              by_tests false true false f same e = cc
              by_tests false false false f same e = cc
  follows_moved s actions.Send act obeys needs within h =
      follows_next 1 (turned s.progress) (moved plan commands actions.Send (with_progress turned s) act).progress (moved_steps plan commands actions.Send (with_progress turned s) act) within
      (λ missed. absurd (by_going needs.4 (h.1 missed))) where
        -- in a missed cycle no command may be sent
        by_going : MayGo s.progress (waiting_of s) → (s.progress.next_is_chained ≡ true) × (s.progress.chain_unbroken ≡ false) → ⊥
        by_going (inl free) was = both_ways s.progress.next_is_chained free was.0
        by_going (inr going) was = both_ways s.progress.chain_unbroken was.1 going.2
  follows_moved s actions.Skip act obeys needs within h = by_steps (moved_steps plan commands actions.Skip (with_progress turned s) act) where
    -- the progress after the act
    q : Progress
    q = (moved plan commands actions.Skip (with_progress turned s) act).progress

    -- the lemma above, whether the clock could be read
    by_steps : Still (turned s.progress) q ⊎ (GoesOnBy plan 1 commands (turned s.progress) q × (q.chain_unbroken ≡ false)) → FollowsText q
    by_steps (inl k) = follows_still (turned s.progress) q k h
    by_steps (inr (on, broken)) = follows_next 1 (turned s.progress) q on within (λ missed. broken)
  follows_moved s actions.Pass act obeys needs within h = by_steps (moved_steps plan commands actions.Pass (with_progress turned s) act) where
    -- the progress after the act
    q : Progress
    q = (moved plan commands actions.Pass (with_progress turned s) act).progress

    -- the lemma above, whether the clock could be read
    by_steps : Still (turned s.progress) q ⊎ (GoesOnBy plan s.progress.next_others commands (turned s.progress) q × (q.chain_unbroken ≡ false)) → FollowsText q
    by_steps (inl k) = follows_still (turned s.progress) q k h
    by_steps (inr (on, broken)) = follows_next s.progress.next_others (turned s.progress) q on within (λ missed. broken)
  follows_moved s actions.Renew act obeys needs within h = by_steps (moved_steps plan commands actions.Renew (with_progress turned s) act) where
    -- the progress after the act
    q : Progress
    q = (moved plan commands actions.Renew (with_progress turned s) act).progress

    -- the lemma above, whether the clock could be read
    by_steps : Still (turned s.progress) q ⊎ (Still (turned s.progress) q × (q.chain_unbroken ≡ false)) → FollowsText q
    by_steps (inl k) = follows_still (turned s.progress) q k h
    by_steps (inr (k, broken)) = follows_still (turned s.progress) q k h
  follows_moved s actions.Prepare act obeys needs within h =
      follows_still (turned s.progress) (moved plan commands actions.Prepare (with_progress turned s) act).progress
      (moved_steps plan commands actions.Prepare (with_progress turned s) act).0 h
  follows_moved s (actions.Close why) act obeys needs within h =
      follows_still (turned s.progress) (moved plan commands (actions.Close why) (with_progress turned s) act).progress
      (moved_steps plan commands (actions.Close why) (with_progress turned s) act).0 h
  follows_moved s o act obeys needs within h =
      follows_still (turned s.progress) (moved plan commands o (with_progress turned s) act).progress (moved_steps plan commands o (with_progress turned s) act) h

  -- no more commands are unsent than the text has
  unsent_within : (s : Model) → Invariant plan commands s → s.progress.unsent ≤ length commands
  unsent_within s fine = let most = fine.unsent in omega (arith, most)

  -- so it is after each run
  pub follows_text : (scope : Scope) (acts : List Act) → Runs plan commands (opening plan scope) acts → FollowsText (state_after plan commands scope acts).progress
  follows_text scope acts runs =
      always_of_progress plan commands (opening plan scope) (λ (p : Progress) (done : List Act). FollowsText p) (λ done act runs' obeys h.
      let s = state_after plan commands scope done in
      follows_moved s (action_at plan s) act obeys (action_for plan s.progress (waiting_of s)) (unsent_within s (invariant_holds plan commands scope done)) h)
      (λ e. cc, λ e. cc) acts runs

  -- What is left of a chain.

  -- how many requests may be sent within a chain
  abbrev pub left_in_chain : Model → ℕ
  left_in_chain s = 8 * chain_left commands s.progress + nulls_left s.progress.exchange.behind s.marks

  -- a broken chain has none left
  broken_left : (p : Progress) → p.chain_unbroken ≡ false → chain_left commands p ≡ 0
  broken_left p broken = ap (λ (b : Bool). if b then chained_first (commands_left commands p) else 0) broken

  -- an unbroken one has the commands that are chained from the next one on
  unbroken_left : (p : Progress) → p.chain_unbroken ≡ true → chain_left commands p ≡ chained_first (commands_left commands p)
  unbroken_left p unbroken = ap (λ (b : Bool). if b then chained_first (commands_left commands p) else 0) unbroken

  -- at the same command no more are left
  still_left : (p q : Progress) → Still p q → chain_left commands q ≤ chain_left commands p
  still_left p q k = by_test q.chain_unbroken refl where
    -- the lemma above, whether the chain is unbroken
    by_test : (b : Bool) → q.chain_unbroken ≡ b → chain_left commands q ≤ chain_left commands p
    by_test true e =
        let same : chain_left commands q ≡ chain_left commands p =
        unbroken_left q e ∙ ap (λ (n : ℕ). chained_first (drop (length commands - n) commands)) k.unsent ∙ sym (unbroken_left p (k.chain_unbroken e)) in
        omega (arith, same)
    by_test false e = let none = broken_left q e in omega (arith, none)

  module _ (s : Model) (act : Act) (fine : Invariant plan commands s) (before : NoneEndedBefore s.progress) (text : FollowsText s.progress) (stops : s.progress.stops ≡ true) (rest : RestFits plan commands s.progress) where
    -- the model after an act of this action
    abbrev pub then_is : Action → Model
    then_is o = moved plan commands o (with_progress turned s) act

    -- after an act of this action no more commands are left of the chain, and no more null procedures, with the request that it sends
    abbrev pub LeavesLess : Action → Type 0
    LeavesLess o =
        (chain_left commands (then_is o).progress ≤ chain_left commands s.progress)
        × (requests_by o + nulls_after (then_is o) ≤ nulls_left s.progress.exchange.behind s.marks)

    -- so it is at the same command
    still_less : (o : Action) → Performs commands s o act → HoldsBefore plan s.progress (waiting_of s) o → Still (turned s.progress) (then_is o).progress → LeavesLess o
    still_less o obeys needs k =
        let fewer = acts_fewer plan commands s act fine before o obeys needs stops in
        let same = k.unsent in
        (still_left (turned s.progress) (then_is o).progress k, omega (arith, fewer, same))

    -- and once a chain is broken, if the act sends nothing and leaves the marks
    broken_less : (o : Action) → requests_by o ≡ 0 → nulls_left (then_is o).progress.exchange.behind (then_is o).marks ≡ nulls_left s.progress.exchange.behind s.marks
        → (then_is o).progress.chain_unbroken ≡ false → LeavesLess o
    broken_less o quiet nulls broken =
        let none = broken_left (then_is o).progress broken in
        let most = nulls_after_most (then_is o) in
        (omega (arith, none), omega (arith, quiet, nulls, most))

    -- so it is after an act of each action but a send
    pub quiet_less : (o : Action) → Performs commands s o act → HoldsBefore plan s.progress (waiting_of s) o → (o ≡ actions.Send → ⊥) → LeavesLess o
    quiet_less actions.Begin obeys needs other = absurd (both_ways s.progress.stops needs.5 stops)
    quiet_less actions.Prepare obeys needs other = absurd (both_ways s.progress.stops needs.5 stops)
    quiet_less actions.Send obeys needs other = absurd (other refl)
    quiet_less actions.Skip obeys needs other = by_steps (moved_steps plan commands actions.Skip (with_progress turned s) act) where
      -- the lemma above, whether the clock could be read
      by_steps : Still (turned s.progress) (then_is actions.Skip).progress
          ⊎ (GoesOnBy plan 1 commands (turned s.progress) (then_is actions.Skip).progress × ((then_is actions.Skip).progress.chain_unbroken ≡ false)) → LeavesLess actions.Skip
      by_steps (inl k) = still_less actions.Skip obeys needs k
      by_steps (inr (on, broken)) =
          broken_less actions.Skip refl (ap (λ (x : Model). nulls_left x.progress.exchange.behind x.marks) (moved_changed plan commands actions.Skip (with_progress turned s) act)) broken
    quiet_less actions.Pass obeys needs other = by_steps (moved_steps plan commands actions.Pass (with_progress turned s) act) where
      -- the lemma above, whether the clock could be read
      by_steps : Still (turned s.progress) (then_is actions.Pass).progress
          ⊎ (GoesOnBy plan s.progress.next_others commands (turned s.progress) (then_is actions.Pass).progress × ((then_is actions.Pass).progress.chain_unbroken ≡ false)) → LeavesLess actions.Pass
      by_steps (inl k) = still_less actions.Pass obeys needs k
      by_steps (inr (on, broken)) =
          broken_less actions.Pass refl (ap (λ (x : Model). nulls_left x.progress.exchange.behind x.marks) (moved_changed plan commands actions.Pass (with_progress turned s) act)) broken
    quiet_less actions.Renew obeys needs other = by_steps (moved_steps plan commands actions.Renew (with_progress turned s) act) where
      -- the lemma above, whether the clock could be read
      by_steps : Still (turned s.progress) (then_is actions.Renew).progress
          ⊎ (Still (turned s.progress) (then_is actions.Renew).progress × ((then_is actions.Renew).progress.chain_unbroken ≡ false)) → LeavesLess actions.Renew
      by_steps (inl k) = still_less actions.Renew obeys needs k
      by_steps (inr (k, broken)) = still_less actions.Renew obeys needs k
    quiet_less (actions.Close why) obeys needs other = still_less (actions.Close why) obeys needs (moved_steps plan commands (actions.Close why) (with_progress turned s) act).0
    quiet_less o obeys needs other = still_less o obeys needs (moved_steps plan commands o (with_progress turned s) act)

    -- a send leaves one command less of the chain
    pub sent_less : Performs commands s actions.Send act → HoldsBefore plan s.progress (waiting_of s) actions.Send
        → 1 + chain_left commands (then_is actions.Send).progress ≤ chain_left commands s.progress
    sent_less obeys needs = by_going needs.4 where
      -- the progress after the act
      q : Progress
      q = (then_is actions.Send).progress

      -- the next command waited for the answer of the one before it
      bound : s.progress.next_is_chained ≡ true
      bound = needs.7 stops

      -- as the text says, since the cycle isn't missed
      chained : s.progress.chain_unbroken ≡ true → first_is_chained (drop (place_next commands s.progress) commands) ≡ true
      chained unbroken = by_missed s.progress.missed refl (text.0 bound) where
        -- the lemma above, whether the cycle is missed
        by_missed : (b : Bool) → s.progress.missed ≡ b
            → (s.progress.missed || (is_resting_next plan commands s.progress || first_is_chained (drop (place_next commands s.progress) commands))) ≡ true
            → first_is_chained (drop (place_next commands s.progress) commands) ≡ true
        by_missed true e waits = absurd (both_ways s.progress.chain_unbroken (text.1 e).1 unbroken)
        by_missed false e waits =
            or_second (is_resting_next plan commands s.progress) (first_is_chained (drop (place_next commands s.progress) commands))
            (or_second s.progress.missed (is_resting_next plan commands s.progress || first_is_chained (drop (place_next commands s.progress) commands)) waits e) (in_turn plan commands s.progress needs.11 rest)

      -- the lemma above, as the chain goes on
      by_going : MayGo s.progress (waiting_of s) → 1 + chain_left commands q ≤ chain_left commands s.progress
      by_going (inl free) = absurd (both_ways s.progress.next_is_chained free bound)
      by_going (inr going) =
          let place = place_next commands s.progress in
          let on = moved_steps plan commands actions.Send (with_progress turned s) act in
          let within = unsent_within s fine in
          let more = chained_more place commands (chained going.2) in
          let suc_place : suc place ≡ place + 1 = omega arith in
          let others : chained_first (drop (suc place) commands) ≡ chained_first (commands_left commands q) =
          ap (λ (n : ℕ). chained_first (drop n commands)) suc_place ∙ ap chained_first (drop_past commands s.progress.unsent 1 within)
          ∙ ap (λ (n : ℕ). chained_first (drop (length commands - n) commands)) (sym on.unsent)
          in
          let left : chain_left commands q ≤ chained_first (commands_left commands q) =
          cond_both q.chain_unbroken (chained_first (commands_left commands q)) 0 (λ (n : ℕ). n ≤ chained_first (commands_left commands q)) (λ e. omega arith) (λ e. omega arith)
          in
          let was = unbroken_left s.progress going.2 in
          omega (arith, more, others, left, was)

    -- an act of each action leaves no more requests that may be sent within the chain, and less if it sends one
    chain_fewer : (o : Action) → Performs commands s o act → HoldsBefore plan s.progress (waiting_of s) o
        → requests_by o + (8 * chain_left commands (then_is o).progress + nulls_after (then_is o)) ≤ left_in_chain s
    chain_fewer actions.Send obeys needs =
        let less = sent_less obeys needs in
        let few = nulls_few (then_is actions.Send).progress.exchange.behind (then_is actions.Send).marks in
        let most = nulls_after_most (then_is actions.Send) in
        omega (arith, less, few, most)
    chain_fewer o obeys needs =
        let both = quiet_less o obeys needs (λ e. cc) in
        let chain = both.0 in
        let nulls = both.1 in
        omega (arith, chain, nulls)

-- Whole runs.

module _ (plan : Plan) (commands : List Task) (scope : Scope) where
  -- how many requests may be sent of a model, once the end of the run was asked for
  abbrev pub may_send_of_chain : Model → ℕ
  may_send_of_chain s = if sends_no_more s.progress then 0 else left_in_chain plan commands s

  -- an act leaves no more that may be sent, and less if it sends a request
  leaves_fewer_of_chain : (earlier : List Act) (act : Act) → Runs plan commands (opening plan scope) earlier → asked_after false earlier ≡ true
      → let s = state_after plan commands scope earlier in Performs commands s (action_at plan s) act
      → requests_by (action_at plan s) + may_send_of_chain (after plan commands s act) ≤ may_send_of_chain s
  leaves_fewer_of_chain earlier act runs asked obeys = by_more (sends_no_more s.progress) refl where
    -- the model before the act
    s : Model
    s = state_after plan commands scope earlier

    -- the next action
    o : Action
    o = action_at plan s

    -- the model after the act, before what is outstanding is lost
    t : Model
    t = moved plan commands o (with_progress turned s) act

    -- the end of the run was asked for
    stops : s.progress.stops ≡ true
    stops = stops_as_asked plan commands scope earlier runs ∙ asked

    -- with the requests that the act sends, no more may be sent within the chain
    fewer : requests_by o + (8 * chain_left commands t.progress + nulls_after t) ≤ left_in_chain plan commands s
    fewer =
        chain_fewer plan commands s act (invariant_holds plan commands scope earlier) (none_ended_holds plan commands scope earlier runs) (follows_text plan commands scope earlier runs) stops (rest_holds plan commands scope earlier runs) o obeys (action_for plan s.progress (waiting_of s))

    -- where no request follows, nothing may be sent
    none_of : (x : Model) → sends_no_more x.progress ≡ true → may_send_of_chain x ≡ 0
    none_of x over = ap (λ (b : Bool). if b then 0 else left_in_chain plan commands x) over

    -- the lemma above, whether a request may follow
    by_more : (b : Bool) → sends_no_more s.progress ≡ b → requests_by o + may_send_of_chain (after plan commands s act) ≤ may_send_of_chain s
    by_more true e =
        let on = none_follows plan commands s act stops e obeys in
        let none = none_of (with_losses t) (ap sends_no_more (with_losses_progress t) ∙ on.1) in
        let quiet = on.0 in
        omega (arith, none, quiet)
    by_more false e =
        subst (λ (n : ℕ). requests_by o + may_send_of_chain (with_losses t) ≤ n) (ap (λ (b : Bool). if b then 0 else left_in_chain plan commands s) (sym e))
        (by_losses (loses_all t.progress) refl) where
          -- by whether all is lost after it
          by_losses : (b : Bool) → loses_all t.progress ≡ b → requests_by o + may_send_of_chain (losing b t) ≤ left_in_chain plan commands s
          by_losses true f = let none = none_of (losing true t) (losing_sends_none t.progress f) in omega (arith, none, fewer)
          by_losses false f =
              let same = nulls_after_begun t (begun_if_nothing_lost t f) in
              let all : requests_by o + left_in_chain plan commands t ≤ left_in_chain plan commands s = omega (arith, fewer, same) in
              cond_both (sends_no_more t.progress) 0 (left_in_chain plan commands t) (λ (n : ℕ). requests_by o + n ≤ left_in_chain plan commands s) (λ g. omega (arith, all)) (λ g. all)

  -- the requests that acts send were left to be sent
  pub sends_few_of_chain : (earlier later : List Act) → Runs plan commands (opening plan scope) (earlier ++ later) → asked_after false earlier ≡ true
      → requests_sent plan commands (state_after plan commands scope earlier) later ≤ may_send_of_chain (state_after plan commands scope earlier)
  sends_few_of_chain earlier [] runs asked = omega arith
  sends_few_of_chain earlier (act ∷ later) runs asked =
      let s = state_after plan commands scope earlier in
      let split = runs_split plan commands (opening plan scope) earlier later act runs in
      let there : state_after plan commands scope (earlier ++ act ∷ []) ≡ after plan commands s act = after_all-append plan commands (opening plan scope) earlier (act ∷ []) in
      let still : asked_after false (earlier ++ act ∷ []) ≡ true = asked-append false earlier (act ∷ []) ∙ ap (λ (b : Bool). asked_after b (act ∷ [])) asked ∙ asked_stays act in
      let rest = subst (λ (x : Model). requests_sent plan commands x later ≤ may_send_of_chain x) there
      (sends_few_of_chain (earlier ++ act ∷ []) later (subst (λ (xs : List Act). Runs plan commands (opening plan scope) xs) (sym (append_assoc earlier (act ∷ []) later)) runs) still) in
      let one = leaves_fewer_of_chain earlier act split.0 asked split.1 in
      omega (arith, rest, one)

-- the law: a run finishes its chain alone once its end was asked for
pub finishes_its_chain : FinishesItsChainOnceAsked
finishes_its_chain plan commands scope earlier later runs asked =
    let p = s.progress in
    let few = sends_few_of_chain plan commands scope earlier later runs asked in
    let nulls = nulls_few p.exchange.behind s.marks in
    cond_both (is_between_chains p) 0 (8 * chain_left commands p + 7) (λ (n : ℕ). requests_sent plan commands s later ≤ n)
    (λ between.
    let none : may_send_of_chain plan commands scope s ≡ 0 = ap (λ (b : Bool). if b then 0 else left_in_chain plan commands s) (or_left _ _ (or_left _ _ between)) in
    omega (arith, few, none))
    (λ within.
    let most = cond_both (sends_no_more p) 0 (left_in_chain plan commands s) (λ (n : ℕ). n ≤ 8 * chain_left commands p + 7) (λ e. omega arith) (λ e. omega (arith, nulls)) in
    let more : may_send_of_chain plan commands scope s ≤ 8 * chain_left commands p + 7 = most in
    omega (arith, few, more)) where
      -- the model at that moment
      s : Model
      s = state_after plan commands scope earlier
