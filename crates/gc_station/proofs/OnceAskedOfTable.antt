-- How many requests are sent once the end of a run was asked for whose commands are all calls of the table: one for each command that is
-- left of the chain, and the null procedures after the last one. A null procedure is sent only once that has timed out, or before the
-- first command since a synchronization; and then the chain doesn't go on. An act is one call on the link, with its result.
use Rattle.gc_station.proofs.Common.{◌≡◌, ◌⊎◌, inl, inr, ℕ, ◌+◌, ◌*◌, ◌≤◌, ◌&&◌, ◌||◌, Bool, true, false, not, if◌then◌else◌, List, [], ◌∷◌, ◌++◌, nat_eq, refl, sym, ap, ◌∙◌, subst, arith, append_assoc, both_ways, cond_both, false_from_ne_true, nil_from_length, deadlines, Task, Act, AreOfTable, AwaitsFirstReply, IsNotHeldUp, is_up, is_between_chains, last_well, Model, opening, action_at, waiting_of, with_progress, moved, losing, after, Performs, Runs, requests_by, requests_sent, chain_left, FinishesATableChainOnceAsked, turned, loses_all, is_over, is_over_in, HoldsBefore, MayGo, WantsNull, state_after, Scope, asked_after, Plan, Action, Phase}
use Rattle.gc_station.proofs.ChainSteps.{stays_broken}
use Rattle.gc_station.proofs.Closings.{runs_split, needs_of}
use Rattle.gc_station.proofs.Counts.{with_losses_progress}
use Rattle.gc_station.proofs.EachRun.{invariant_holds}
use Rattle.gc_station.proofs.Facts.{action_for}
use Rattle.gc_station.proofs.Going.{after_all-append}
use Rattle.gc_station.proofs.HeldUp.{never_held_up}
use Rattle.gc_station.proofs.InTime.{asked_stays}
use Rattle.gc_station.proofs.NoneEnded.{none_ended_holds}
use Rattle.gc_station.proofs.Asked.{begun_if_nothing_lost}
use Rattle.gc_station.proofs.Nulls.{nulls_left, nulls_few, nulls_after, nulls_after_begun}
use Rattle.gc_station.proofs.Resting.{rest_holds}
use Rattle.gc_station.proofs.OnceAskedInChain.{follows_text, left_in_chain, sends_few_of_chain, quiet_less, sent_less, finishes_its_chain}
use Rattle.gc_station.proofs.SendsNoMore.{sends_no_more, losing_sends_none}
use Rattle.gc_station.proofs.Stopping.{asked-append, stops_as_asked}
use Rattle.gc_station.proofs.TimedOutChain.{CannotGoOn, timed_if_none, goes_not_on}
use Rattle.gc_station.specs.declared.progress.Action.TheVariants as actions

module _ (plan : Plan) (commands : List Task) (scope : Scope) where
  -- the model after these acts
  abbrev at : List Act → Model
  at acts = state_after plan commands scope acts

  module _ (earlier later : List Act) (act : Act) (runs : Runs plan commands (opening plan scope) (earlier ++ act ∷ later)) (asked : asked_after false earlier ≡ true) where
    -- the model before the act
    abbrev s : Model
    s = at earlier

    -- the next action
    abbrev o : Action
    o = action_at plan s

    -- the model after the act, before what is outstanding is lost
    abbrev t : Model
    t = moved plan commands o (with_progress turned s) act

    -- these acts and the act
    abbrev now : List Act
    now = earlier ++ act ∷ []

    -- the acts before it are a run, and the act performs the next action
    before : Runs plan commands (opening plan scope) earlier × Performs commands s o act
    before = runs_split plan commands (opening plan scope) earlier later act runs

    -- so are these acts and those after them
    behind : Runs plan commands (opening plan scope) (now ++ later)
    behind = subst (λ (xs : List Act). Runs plan commands (opening plan scope) xs) (sym (append_assoc earlier (act ∷ []) later)) runs

    -- the end of the run was asked for
    stops : s.progress.stops ≡ true
    stops = stops_as_asked plan commands scope earlier before.0 ∙ asked

    -- it stays so
    still : asked_after false now ≡ true
    still = asked-append false earlier (act ∷ []) ∙ ap (λ (b : Bool). asked_after b (act ∷ [])) asked ∙ asked_stays act

    -- the model after the act
    there : at now ≡ after plan commands s act
    there = after_all-append plan commands (opening plan scope) earlier (act ∷ [])

    -- what the acts send, by the first of them and the others
    sent_both : requests_sent plan commands s (act ∷ later) ≡ requests_by o + requests_sent plan commands (at now) later
    sent_both = ap (λ (x : Model). requests_by o + requests_sent plan commands x later) (sym there)

    -- where no request follows the act, none does
    none_behind : sends_no_more (at now).progress ≡ true → requests_sent plan commands (at now) later ≤ 0
    none_behind over =
        subst (λ (b : Bool). requests_sent plan commands (at now) later ≤ (if b then 0 else left_in_chain plan commands (at now))) over
        (sends_few_of_chain plan commands scope now later behind still)

    -- where one may follow, nothing is lost at the end of the act
    none_lost : sends_no_more (at now).progress ≡ false → loses_all t.progress ≡ false
    none_lost open_still =
        false_from_ne_true (loses_all t.progress) (λ lost. both_ways (sends_no_more (at now).progress) open_still
        (ap (λ (x : Model). sends_no_more x.progress) there ∙ ap sends_no_more (with_losses_progress t) ∙ losing_sends_none t.progress lost))

    -- so the model is that before it
    nothing_lost : sends_no_more (at now).progress ≡ false → at now ≡ t
    nothing_lost open_still = there ∙ ap (λ (b : Bool). losing b t) (none_lost open_still)

    -- the conditions of the action hold
    needs : HoldsBefore plan s.progress (waiting_of s) o
    needs = action_for plan s.progress (waiting_of s)

    -- after an act that isn't a send
    quiet_here : (o ≡ actions.Send → ⊥) → (chain_left commands t.progress ≤ chain_left commands s.progress)
        × (requests_by o + nulls_after t ≤ nulls_left s.progress.exchange.behind s.marks)
    quiet_here other = quiet_less plan commands s act (invariant_holds plan commands scope earlier) (none_ended_holds plan commands scope earlier before.0) (follows_text plan commands scope earlier before.0) stops (rest_holds plan commands scope earlier before.0) o before.1 needs other

  -- the chain of the model can't go on, since a command of it has timed out, or since it is broken
  abbrev EndsHere : Model → Type 0
  EndsHere s = CannotGoOn s ⊎ (s.progress.chain_unbroken ≡ false)

  -- an act that isn't a send keeps it so, once the end of the run was asked for
  ends_still : (s : Model) (act : Act) → Performs commands s (action_at plan s) act → HoldsBefore plan s.progress (waiting_of s) (action_at plan s) → s.progress.stops ≡ true
      → (action_at plan s ≡ actions.Send → ⊥) → EndsHere s → EndsHere (moved plan commands (action_at plan s) (with_progress turned s) act)
  ends_still s act obeys holds asked other (inl h) = inl (goes_not_on plan commands s (action_at plan s) act obeys holds asked h)
  ends_still s act obeys holds asked other (inr broken) = inr (stays_broken plan commands (action_at plan s) (with_progress turned s) act other broken)

  -- once the chain can't go on, only null procedures are sent
  cannot_few : (earlier later : List Act) → Runs plan commands (opening plan scope) (earlier ++ later) → asked_after false earlier ≡ true → EndsHere (at earlier)
      → requests_sent plan commands (at earlier) later ≤ nulls_left (at earlier).progress.exchange.behind (at earlier).marks
  cannot_few earlier [] runs asked h = omega arith
  cannot_few earlier (act ∷ later) runs asked h =
      by_more (λ on. cannot_few (earlier ++ act ∷ []) later (behind earlier later act runs asked) (still earlier later act runs asked) on)
      (sends_no_more (at (earlier ++ act ∷ [])).progress) refl where
        -- the action isn't a send
        other : action_at plan (at earlier) ≡ actions.Send → ⊥
        other is = by_going (needs_of plan (at earlier) actions.Send is) where
          -- the next command may not be sent
          by_going : HoldsBefore plan (at earlier).progress (waiting_of (at earlier)) actions.Send → ⊥
          by_going sends = by_chain sends.4 h where
            -- as the chain can't go on
            by_chain : MayGo (at earlier).progress (waiting_of (at earlier)) → EndsHere (at earlier) → ⊥
            by_chain (inl free) ends = both_ways (at earlier).progress.next_is_chained free (sends.7 (stops earlier later act runs asked))
            by_chain (inr going) (inl timed) = both_ways (last_well false (at earlier).records) (timed.2 going.0) going.1
            by_chain (inr going) (inr broken) = both_ways (at earlier).progress.chain_unbroken broken going.2

        -- the lemma above, whether a request may follow the act
        by_more : (EndsHere (at (earlier ++ act ∷ [])) → requests_sent plan commands (at (earlier ++ act ∷ [])) later
            ≤ nulls_left (at (earlier ++ act ∷ [])).progress.exchange.behind (at (earlier ++ act ∷ [])).marks)
            → (b : Bool) → sends_no_more (at (earlier ++ act ∷ [])).progress ≡ b
            → requests_sent plan commands (at earlier) (act ∷ later) ≤ nulls_left (at earlier).progress.exchange.behind (at earlier).marks
        by_more rest true e =
            let both = sent_both earlier later act runs asked in
            let none = none_behind earlier later act runs asked e in
            let less = (quiet_here earlier later act runs asked other).1 in
            omega (arith, both, none, less)
        by_more rest false e =
            let both = sent_both earlier later act runs asked in
            let same = nothing_lost earlier later act runs asked e in
            let less = (quiet_here earlier later act runs asked other).1 in
            let on = rest (subst (λ (x : Model). EndsHere x) (sym same)
            (ends_still (at earlier) act (before earlier later act runs asked).1 (needs earlier later act runs asked) (stops earlier later act runs asked) other h)) in
            let nulls = ap (λ (x : Model). nulls_left x.progress.exchange.behind x.marks) same in
            let begun = nulls_after_begun (t earlier later act runs asked) (begun_if_nothing_lost (t earlier later act runs asked) (none_lost earlier later act runs asked e)) in
            omega (arith, both, less, on, nulls, begun)

  -- if all commands are calls of the table, where a null procedure is next, the chain can't go on
  cannot_if_flush : AreOfTable commands → (earlier : List Act) → Runs plan commands (opening plan scope) earlier → action_at plan (at earlier) ≡ actions.Flush → EndsHere (at earlier)
  cannot_if_flush all earlier runs is = by_why needs.2 where
    -- the conditions of a null procedure
    needs : HoldsBefore plan (at earlier).progress (waiting_of (at earlier)) actions.Flush
    needs = needs_of plan (at earlier) actions.Flush is

    -- the run isn't over
    going : is_over (at earlier).progress ≡ false
    going = ap (λ (x : Phase). is_over_in x || (not (is_up x) && nat_eq (at earlier).progress.turns 0)) needs.0

    -- the lemma above, by why it is wanted
    by_why : WantsNull plan (at earlier).progress (waiting_of (at earlier)) → EndsHere (at earlier)
    by_why (inl waits) =
        let some = waits.1 in
        let none = nil_from_length (deadlines (at earlier).client.waiting) needs.3 in
        inl ((invariant_holds plan commands scope earlier).paired, timed_if_none (at earlier).marks (at earlier).client.waiting none, λ settled. absurd (omega (arith, settled, some)))
    by_why (inr far) = by_reply (never_held_up plan commands scope earlier runs all needs.1 going) where
      -- whether a reply has ended a request since the synchronization
      by_reply : AwaitsFirstReply (at earlier) ⊎ IsNotHeldUp plan (at earlier) → EndsHere (at earlier)
      by_reply (inl awaits) = inr awaits.2
      by_reply (inr free) = let level = free.0 in let room = needs.4.1 in let most = far.1 in absurd (omega (arith, level, room, most))

  -- if all commands are calls of the table, one request is sent for each command that is left of the chain, and seven at most besides
  table_few : AreOfTable commands → (earlier later : List Act) → Runs plan commands (opening plan scope) (earlier ++ later) → asked_after false earlier ≡ true
      → requests_sent plan commands (at earlier) later ≤ chain_left commands (at earlier).progress + 7
  table_few all earlier [] runs asked = omega arith
  table_few all earlier (act ∷ later) runs asked =
      by_action (table_few all (earlier ++ act ∷ []) later (behind earlier later act runs asked) (still earlier later act runs asked)) (action_at plan (at earlier)) refl where
        -- what is claimed
        Claim : Type 0
        Claim = requests_sent plan commands (at earlier) (act ∷ later) ≤ chain_left commands (at earlier).progress + 7

        -- the acts before it are a run
        first : Runs plan commands (opening plan scope) earlier × Performs commands (at earlier) (action_at plan (at earlier)) act
        first = before earlier later act runs asked

        -- the progress after the act is that before what is outstanding is lost
        same : (at (earlier ++ act ∷ [])).progress ≡ (moved plan commands (action_at plan (at earlier)) (with_progress turned (at earlier)) act).progress
        same =
            ap (λ (x : Model). x.progress) (there earlier later act runs asked)
            ∙ with_losses_progress (moved plan commands (action_at plan (at earlier)) (with_progress turned (at earlier)) act)

        -- the lemma above, by the action
        by_action : requests_sent plan commands (at (earlier ++ act ∷ [])) later ≤ chain_left commands (at (earlier ++ act ∷ [])).progress + 7
            → (o : Action) → action_at plan (at earlier) ≡ o → Claim
        by_action rest actions.Flush is =
            let few = cannot_few earlier (act ∷ later) runs asked (cannot_if_flush all earlier first.0 is) in
            let nulls = nulls_few (at earlier).progress.exchange.behind (at earlier).marks in
            omega (arith, few, nulls)
        by_action rest actions.Send is =
            let both = sent_both earlier later act runs asked in
            let less = sent_less plan commands (at earlier) act (invariant_holds plan commands scope earlier) (none_ended_holds plan commands scope earlier first.0) (follows_text plan commands scope earlier first.0) (stops earlier later act runs asked) (rest_holds plan commands scope earlier first.0)
            (subst (λ (o : Action). Performs commands (at earlier) o act) is first.1) (needs_of plan (at earlier) actions.Send is) in
            let left : chain_left commands (at (earlier ++ act ∷ [])).progress ≡ chain_left commands (moved plan commands actions.Send (with_progress turned (at earlier)) act).progress =
            ap (chain_left commands) same ∙ ap (λ (o : Action). chain_left commands (moved plan commands o (with_progress turned (at earlier)) act).progress) is in
            let one : requests_by (action_at plan (at earlier)) ≡ 1 = ap requests_by is in
            omega (arith, rest, both, less, left, one)
        by_action rest actions.Prepare is = absurd (both_ways (at earlier).progress.stops (needs_of plan (at earlier) actions.Prepare is).5 (stops earlier later act runs asked))
        by_action rest o is =
            let both = sent_both earlier later act runs asked in
            let not_send : action_at plan (at earlier) ≡ actions.Send → ⊥ = λ e. let other : o ≡ actions.Send = sym is ∙ e in cc in
            let less = (quiet_here earlier later act runs asked not_send).0 in
            let left : chain_left commands (at (earlier ++ act ∷ [])).progress
            ≡ chain_left commands (moved plan commands (action_at plan (at earlier)) (with_progress turned (at earlier)) act).progress =
            ap (chain_left commands) same in
            let none : requests_by (action_at plan (at earlier)) ≡ 0 = ap requests_by is in
            omega (arith, rest, both, less, left, none)

-- the law: if all commands are calls of the table, a run sends one request for each command that is left of its chain, and seven at most
-- besides, once its end was asked for
pub finishes_a_table_chain : FinishesATableChainOnceAsked
finishes_a_table_chain plan commands scope earlier later all runs asked =
    cond_both (is_between_chains s.progress) 0 (chain_left commands s.progress + 7) (λ (n : ℕ). requests_sent plan commands s later ≤ n)
    (λ between.
    subst (λ (b : Bool). requests_sent plan commands s later ≤ (if b then 0 else 8 * chain_left commands s.progress + 7)) between
    (finishes_its_chain plan commands scope earlier later runs asked))
    (λ within. table_few plan commands scope all earlier later runs asked) where
      -- the model at that moment
      s : Model
      s = state_after plan commands scope earlier
