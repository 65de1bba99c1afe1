-- A connection is closed, and a run stops, only for a cause; and the act that decided the end shows that cause, or closed the
-- connection, or couldn't make one. The end is decided once the phase is `Closing` or `Over`, which name the cause. An act is one
-- call on the link, with its result. `Decides` says why an act decided the end, or that it left the phase as it was; `Decided`
-- says why it did.
use Rattle.gc_station.proofs.Common.{◌≡◌, ℕ, ◌⊎◌, inl, inr, ◌&&◌, ◌||◌, Bool, true, false, not, List, [], ◌∷◌, ◌++◌, length, drop, Option, Some, None, if◌then◌else◌, nat_lt, refl, sym, ap, ◌∙◌, subst, arith, nat_tests, nil_from_length, both_ways, Table, NullProc, Asked, ById, Task, Plan, Cause, Phase, Draining, Ready, Closing, Over, Down, Action, Progress, Waiting, Act, Untold, Cut, Ended, Broke, Closed, has_begun, is_up, is_past, action_in, commands_in, turned, moment_noted, failing, quieted, time_passed, is_idle, cleared, request_noted, null_sent, closed, is_spared, setup_sent, HasFreshClient, IsReasoned, Shows, ClosesForACause, EndsAfter, EndsDisconnected, EndsRun, StopsForACause, EndsAtFailure, HasLast, HoldsBefore, IsAtItsEnd, IsFinished, state_after, Model, next_request_text, null_text, first_text, occasion_at, waiting_of, opening, action_at, with_progress, with_moment, is_heard, lines_completed, after_piece, Performs, moved, after, after_all, Runs, text_or_null, null_request, asks_for, asks_setup, commands_before, place_next, Scope}
use Rattle.gc_station.specs.Progressing.{is_finished}
use Rattle.gc_station.proofs.Counts.{with_losses_progress}
use Rattle.gc_station.proofs.EachRun.{invariant_holds}
use Rattle.gc_station.proofs.Facts.{action_for}
use Rattle.gc_station.proofs.InCycle.{finished_by_test}
use Rattle.gc_station.proofs.Invariant.{Invariant, says_done}
use Rattle.gc_station.proofs.Going.{after_all-append, runs_front, runs_behind}
use Rattle.gc_station.proofs.Walk.{asked_along, came_along, quieted_along, model_sent, HoldsAfterPut, walk}
use Rattle.gc_station.proofs.Turns.{phase_failed, phase_by, after_failure_down, closed_down}
use Rattle.gc_station.specs.declared.cause.Cause.TheVariants as cause
use Rattle.gc_station.specs.declared.progress.Action.TheVariants as action

-- the cause for which a phase closes the connection or ends the run, if it does
abbrev pub cause_in : Phase → Option Cause
cause_in (Closing why) = Some why
cause_in (Over why) = Some why
cause_in _ = None

-- an act between the phases `before` and `behind` shows that a call failed for this cause; and if there is no connection after
-- it, there was none before
abbrev pub Failed : (before behind : Phase) → Cause → Act → Type 0
Failed before behind why act = (is_up behind ≡ false → is_up before ≡ false) × Shows why act

-- why the phase `behind`, after an act, decides the end for this cause: a call failed, as the act shows; or `Other` holds; or the
-- phase is as before the act (`before`)
abbrev Decides : (Other : Type 0) → (before behind : Phase) → Cause → Act → Type 0
Decides Other before behind why act = Failed before behind why act ⊎ (Other ⊎ (behind ≡ before))

-- an act shows no cause if P holds of it, and P holds of no act that shows one: of no end of the connection, no failed read, no
-- clock that can't be read and no write that is cut
pub no_cause_shown : (P : Act → Type 0) → (P Ended → ⊥) → (P Broke → ⊥) → (P Untold → ⊥) → ((text : List ℕ) (n : ℕ) → P (Cut text n) → ⊥)
    → (why : Cause) (act : Act) → P act → Shows why act → ⊥
no_cause_shown P ended broke untold cut cause.End act holds shows = ended (subst P shows holds)
no_cause_shown P ended broke untold cut cause.Read act holds shows = broke (subst P shows holds)
no_cause_shown P ended broke untold cut cause.Clock act holds shows = untold (subst P shows holds)
no_cause_shown P ended broke untold cut (cause.Write requests bytes) act holds shows = cut shows.0 bytes (subst P shows.1 holds)
no_cause_shown P ended broke untold cut why act holds shows = shows

-- if the phase after a failure for `why` (`phase_failed`), which the act shows, decides the end for the cause c, the act decides
-- it: c is `why`
fail_decides : {Other : Type 0} (before at : Phase) (up : Bool) (why c : Cause) (act : Act) → is_up at ≡ up → Shows why act
    → (is_up at ≡ false → is_up before ≡ false) → cause_in (phase_failed up why) ≡ Some c
    → Decides Other before (phase_failed up why) c act
fail_decides before at true why c act is shows down e = let same : why ≡ c = cc in inl (λ d. cc, subst (λ (x : Cause). Shows x act) same shows)
fail_decides before at false why c act is shows down e = let same : why ≡ c = cc in inl (λ d. down is, subst (λ (x : Cause). Shows x act) same shows)

-- if a failure is noted that the act shows, and the end is decided then, the act decides it
noted_failure_decides : {Other : Type 0} (s : Model) (why c : Cause) (act : Act) → Shows why act → cause_in (with_progress (failing why) s).progress.phase ≡ Some c
    → Decides Other s.progress.phase (with_progress (failing why) s).progress.phase c act
noted_failure_decides s why c act shows e = fail_decides s.progress.phase s.progress.phase (is_up s.progress.phase) why c act refl shows (λ d. d) e

-- if the end is decided where a pause ends (`ends`) or goes on, the phase is as it was
paused_same : (at : Phase) (ends : Bool) (c : Cause) → cause_in (if ends then Down else at) ≡ Some c → (if ends then Down else at) ≡ at
paused_same at true c e = cc
paused_same at false c e = refl

-- if the end is decided where a pause or a drain ends or goes on, the phase is as it was
quiet_same : (plan : Plan) (phase : Phase) (p : Progress) (c : Cause) → cause_in (quieted plan phase p).phase ≡ Some c → (quieted plan phase p).phase ≡ p.phase
quiet_same plan phase p c =
    quieted_along (λ (q : Progress). cause_in q.phase ≡ Some c → q.phase ≡ p.phase) plan phase p
    (λ e. paused_same p.phase (is_past p.exchange.pause p && not (is_idle plan p)) c e) (λ e. cc) (λ e. refl)

-- a piece, whether it is heard or discarded, leaves the phase
pub came_phase : (heard : Bool) (word piece : List ℕ) (s : Model) → (after_piece heard word piece s).progress.phase ≡ s.progress.phase
came_phase heard word piece s =
    came_along (λ (t : Model). t.progress.phase ≡ s.progress.phase) (λ t line e. e) heard word piece s refl
    (asked_along (λ (q : Progress). q.phase ≡ s.progress.phase) (λ q line e. e) s.progress (lines_completed s.rest piece) refl) refl

-- if the test is false that a new connection needs no try (`spared`) or a try is left, it needs one and none is left
no_try_left : (spared : Bool) (tries : ℕ) → spared || nat_lt 0 tries ≡ false → (spared ≡ false) × (tries ≡ 0)
no_try_left true tries e = cc
no_try_left false tries e = (refl, grind (arith, nat_tests, e))

-- if the phase after a lost connection or a failed attempt (`phase_by`) ends the run, the cause is as `EndsAtFailure` says.
-- `done`: nothing is left to be sent and none is outstanding; `again`: a try is left, or none is needed
phase_by_ends : (plan : Plan) (other c : Cause) (n : ℕ) (p : Progress) (done again : Bool) → is_finished n p ≡ done → (is_spared plan other p || nat_lt 0 p.tries) ≡ again
    → cause_in (phase_by done again other) ≡ Some c → EndsAtFailure plan p n other c
phase_by_ends plan other c n p true again finished tries e = inl (cc, finished_by_test n p finished)
phase_by_ends plan other c n p false true finished tries e = cc
phase_by_ends plan other c n p false false finished tries e = let none = no_try_left (is_spared plan other p) p.tries tries in inr (cc, finished, none.0, none.1)

-- if a close for the cause `other` ends the run, it ends as `EndsAfter` says, given that a close for `Done` is made only if all
-- is done (`IsFinished`)
closed_ends : (plan : Plan) (w : Waiting) (other c : Cause) (p : Progress) → (other ≡ cause.Done → IsFinished w.commands p)
    → cause_in (closed plan w other (turned p)).phase ≡ Some c → EndsAfter plan p w.commands other c
closed_ends plan w cause.Done c p done e = (cc, done refl)
closed_ends plan w cause.Clock c p done e = cc
closed_ends plan w cause.Turns c p done e = cc
closed_ends plan w cause.Stale c p done e = cc
closed_ends plan w cause.Stopped c p done e = cc
closed_ends plan w cause.Open c p done e = phase_by_ends plan cause.Open c w.commands p (is_finished w.commands p) (nat_lt 0 p.tries) refl refl e
closed_ends plan w other c p done e = phase_by_ends plan other c w.commands p (is_finished w.commands p) (is_idle plan p || nat_lt 0 p.tries) refl refl e

-- in the phase `behind`, the one after the act, there is no connection: the act closed it or could make none, and no other is
-- made, for this cause
abbrev pub Gone : Plan → Model → Action → (behind : Phase) → Cause → Act → Type 0
Gone plan s next behind c act = (is_up behind ≡ false) × EndsDisconnected plan s.progress (waiting_of s) next c act

-- if the end is decided after an act of this action, the act decided it, by a call that failed or a connection that is gone; or
-- the phase is as before
abbrev DecidesIfEnded : Plan → Model → Action → Cause → Act → Model → Type 0
DecidesIfEnded plan s next c act t = cause_in t.progress.phase ≡ Some c → Decides (Gone plan s next t.progress.phase c act) s.progress.phase t.progress.phase c act

-- a line feed that was sent decides no end
cleared_none : (begun : Bool) (c : Cause) → cause_in (if begun then Draining else Ready) ≡ Some c → ⊥
cleared_none true c e = cc
cleared_none false c e = cc

-- after a line feed that was sent there is a connection
pub cleared_up : (begun : Bool) → is_up (if begun then Draining else Ready) ≡ true
cleared_up true = refl
cleared_up false = refl

-- `DecidesIfEnded` holds after an act of the action `next` that puts these bytes (`HoldsAfterPut`), if the model t after a whole
-- write has the phase of the model s, from before the act
put_decides : (plan : Plan) (s : Model) (next : Action) (c : Cause) (requests : ℕ) (text : List ℕ) (t : Model) → t.progress.phase ≡ s.progress.phase
    → HoldsAfterPut (DecidesIfEnded plan s next c) requests text t
put_decides plan s next c requests text t same = (
  λ m g. inr (inr same),
  λ n g. fail_decides s.progress.phase t.progress.phase (is_up t.progress.phase) (cause.Write requests n) c (Cut text n) refl (text, refl)
      (λ d. sym (ap is_up same) ∙ d) g,
)

-- `DecidesIfEnded` holds after an act, given that a close for `Done` is next only if all is done (`IsFinished`)
moved_decides : (plan : Plan) (commands : List Task) (next : Action) (s : Model) (act : Act) (c : Cause) → Performs commands s next act
    → (next ≡ action.Close cause.Done → IsFinished (commands_in s.marks) s.progress)
    → DecidesIfEnded plan s next c act (moved plan commands next (with_progress turned s) act)
moved_decides plan commands action.Open s act c o done e =
    let n = commands_in s.marks in
    let p = s.progress in
    walk plan commands (DecidesIfEnded plan s action.Open c) action.Open (with_progress turned s) act o
    (λ m g. cc, λ k g. inr (inl (after_failure_down plan n cause.Open p, inr (refl, phase_by_ends plan cause.Open c n p (is_finished n p) (nat_lt 0 p.tries) refl refl g)))) e
moved_decides plan commands action.Clear s act c o done e =
    let at = (cleared (turned s.progress)).phase in
    walk plan commands (DecidesIfEnded plan s action.Clear c) action.Clear (with_progress turned s) act o (
      λ m g. absurd (cleared_none (has_begun s.progress) c g),
      λ n g. fail_decides s.progress.phase at (is_up at) (cause.Write (commands_before plan commands (turned s.progress)) n) c (Cut (10 ∷ []) n) refl (10 ∷ [], refl)
          (λ d. absurd (both_ways (is_up (if has_begun s.progress then Draining else Ready)) d (cleared_up (has_begun s.progress)))) g,
    ) e
moved_decides plan commands action.Ask s act c o done e =
    let t = with_progress turned s in
    walk plan commands (DecidesIfEnded plan s action.Ask c) action.Ask t act o
    (put_decides plan s action.Ask c (commands_before plan commands t.progress) (null_text s.progress.exchange.word) (with_progress (null_sent plan) t) refl) e
moved_decides plan commands action.Prepare s act c o done e =
    let t = with_progress turned s in
    let text = text_or_null (occasion_at s.progress.moment) s.client (drop s.progress.prepared commands) in
    walk plan commands (DecidesIfEnded plan s action.Prepare c) action.Prepare t act o
    (put_decides plan s action.Prepare c (commands_before plan commands t.progress) text (with_progress (setup_sent plan) (asks_setup plan commands t)) refl) e
moved_decides plan commands action.Send s act c o done e =
    let t = with_progress turned s in
    let text = first_text (occasion_at s.progress.moment) s.client (drop (place_next commands s.progress) commands) in
    walk plan commands (DecidesIfEnded plan s action.Send c) action.Send t act o
    (put_decides plan s action.Send c (commands_before plan commands t.progress) text (model_sent plan commands t) refl) e
moved_decides plan commands action.Flush s act c o done e =
    let t = with_progress turned s in
    walk plan commands (DecidesIfEnded plan s action.Flush c) action.Flush t act o
    (put_decides plan s action.Flush c (commands_before plan commands t.progress) (next_request_text s.client (Table NullProc)) (with_progress request_noted (asks_for (null_request plan) t)) refl) e
moved_decides plan commands (action.Read until) s act c o done e =
    let t = with_progress turned s in
    walk plan commands (DecidesIfEnded plan s (action.Read until) c) (action.Read until) t act o (
      λ bytes m g. inr (inr (came_phase (is_heard s.progress.phase) s.progress.exchange.word bytes (with_moment m (with_progress (moment_noted m) t)))),
      λ m g. inr (inr (quiet_same plan s.progress.phase (time_passed until m t.progress) c g)),
      λ g. noted_failure_decides t cause.End c Ended refl g,
      λ g. noted_failure_decides t cause.Read c Broke refl g,
      λ g. noted_failure_decides t cause.Clock c Untold refl g,
    ) e
moved_decides plan commands (action.Close why) s act c o done e =
    inr (inl (closed_down plan (waiting_of s) why (turned s.progress), inl (why, o, refl, closed_ends plan (waiting_of s) why c s.progress (λ is. done (ap action.Close is)) e)))
moved_decides plan commands (action.Stop why) s act c o done e = absurd o
moved_decides plan commands next s act c o done e =
    walk plan commands (DecidesIfEnded plan s next c) next (with_progress turned s) act o (λ m g. inr (inr refl), λ n g. noted_failure_decides (with_progress turned s) cause.Clock c Untold refl g) e

-- if the end is decided, no act leaves the phase as it is: the connection is closed, and without a connection no act is made
decided_phase_changes : (plan : Plan) (commands : List Task) (s : Model) (act : Act) (c : Cause) (phase : Phase) → s.progress.phase ≡ phase → cause_in phase ≡ Some c
    → Performs commands s (action_in phase plan s.progress (waiting_of s)) act
    → (moved plan commands (action_in phase plan s.progress (waiting_of s)) (with_progress turned s) act).progress.phase ≡ phase → ⊥
decided_phase_changes plan commands s act c (Closing why) is e o same = let down : true ≡ false = sym (ap is_up same) ∙ closed_down plan (waiting_of s) why (turned s.progress) in cc
decided_phase_changes plan commands s act c (Over why) is e o same = absurd o
decided_phase_changes plan commands s act c phase is e o same = cc

-- the act decided the end for this cause, in the phase `behind` after it: it shows a call that failed, or the connection is gone
-- and no other is made
abbrev pub Decided : Plan → Model → (behind : Phase) → Cause → Act → Type 0
Decided plan s behind c act = Failed s.progress.phase behind c act ⊎ Gone plan s (action_at plan s) behind c act

-- if the end is decided after an act, the act decided it; given that a close for `Done` is next only if all is done
-- (`IsFinished`)
pub after_decided : (plan : Plan) (commands : List Task) (s : Model) (act : Act) (c : Cause) → Performs commands s (action_at plan s) act
    → (action_at plan s ≡ action.Close cause.Done → IsFinished (commands_in s.marks) s.progress)
    → cause_in (after plan commands s act).progress.phase ≡ Some c → Decided plan s (after plan commands s act).progress.phase c act
after_decided plan commands s act c o done e =
    subst (λ (behind : Phase). Decided plan s behind c act) (sym same) (decided_by_act (moved_decides plan commands (action_at plan s) s act c o done ends)) where
      -- the loss of what is outstanding, which comes last in an act, leaves the phase
      same : (after plan commands s act).progress.phase ≡ (moved plan commands (action_at plan s) (with_progress turned s) act).progress.phase
      same = ap (λ (p : Progress). p.phase) (with_losses_progress (moved plan commands (action_at plan s) (with_progress turned s) act))

      -- so the end is decided before that, too
      ends : cause_in (moved plan commands (action_at plan s) (with_progress turned s) act).progress.phase ≡ Some c
      ends = sym (ap cause_in same) ∙ e

      -- `moved_decides` without the case that the phase is as before, which can't be
      decided_by_act : Decides (Gone plan s (action_at plan s) (moved plan commands (action_at plan s) (with_progress turned s) act).progress.phase c act) s.progress.phase
          (moved plan commands (action_at plan s) (with_progress turned s) act).progress.phase c act
          → Decided plan s (moved plan commands (action_at plan s) (with_progress turned s) act).progress.phase c act
      decided_by_act (inl shows) = inl shows
      decided_by_act (inr (inl gone)) = inr gone
      decided_by_act (inr (inr still)) = absurd (decided_phase_changes plan commands s act c s.progress.phase refl (ap cause_in (sym still) ∙ ends) o still)

-- of a run, an act performs the action that was next, and the acts before it are a run
pub runs_split : (plan : Plan) (commands : List Task) (s : Model) (earlier later : List Act) (act : Act) → Runs plan commands s (earlier ++ act ∷ later)
    → Runs plan commands s earlier × Performs commands (after_all plan commands s earlier) (action_at plan (after_all plan commands s earlier)) act
runs_split plan commands s earlier later act runs = (runs_front plan commands s earlier (act ∷ later) runs, (runs_behind plan commands s earlier (act ∷ later) runs).0)

-- if a null procedure of a synchronization is next, nothing is outstanding and the client is new
asks_when_fresh : (plan : Plan) (commands : List Task) (s : Model) (next : Action) → Invariant plan commands s → HoldsBefore plan s.progress (waiting_of s) next → HasFreshClient next s
asks_when_fresh plan commands s action.Ask fine needs = let new = fine.begins needs.1 in (new, nil_from_length s.marks (fine.paired ∙ ap (λ (c : ById Asked). length c.waiting) new))
asks_when_fresh plan commands s next fine needs = tt

-- each act of a run is `IsReasoned`: it performs the action that is next, whose conditions hold
pub act_reasoned : (plan : Plan) (commands : List Task) (scope : Scope) (earlier later : List Act) (act : Act)
    → Runs plan commands (opening plan scope) (earlier ++ act ∷ later) → IsReasoned plan commands (state_after plan commands scope earlier) act
act_reasoned plan commands scope earlier later act runs =
    let s = state_after plan commands scope earlier in
    let needs = action_for plan s.progress (waiting_of s) in
    record {
      obeys = (runs_split plan commands (opening plan scope) earlier later act runs).1;
      needs = needs;
      is_fresh = asks_when_fresh plan commands s (action_at plan s) (invariant_holds plan commands scope earlier) needs;
    }

-- a list of acts is empty, or has a last act
pub none_or_last : (acts : List Act) → (acts ≡ []) ⊎ ((earlier : List Act) × (last : Act) × (acts ≡ earlier ++ last ∷ []))
none_or_last [] = inl refl
none_or_last (x ∷ xs) = on (none_or_last xs) where
  -- the lemma above for the list with the act x before `xs`
  on : ((xs ≡ []) ⊎ ((earlier : List Act) × (last : Act) × (xs ≡ earlier ++ last ∷ []))) → (x ∷ xs ≡ []) ⊎ ((earlier : List Act) × (last : Act) × (x ∷ xs ≡ earlier ++ last ∷ []))
  on (inl none) = inr ([], x, ap (λ ys. x ∷ ys) none)
  on (inr some) = inr (x ∷ some.0, some.1, ap (λ ys. x ∷ ys) some.2)

-- the act that closes a connection performs no action but a close
pub closes_only : (commands : List Task) (s : Model) (next : Action) → Performs commands s next Closed → (why : Cause) × (next ≡ action.Close why)
closes_only commands s (action.Close why) o = (why, refl)
closes_only commands s next o = absurd o

-- as `action_for`: the conditions of `next` hold, if that action is next
pub needs_of : (plan : Plan) (s : Model) (next : Action) → action_at plan s ≡ next → HoldsBefore plan s.progress (waiting_of s) next
needs_of plan s next is = subst (λ (o : Action). HoldsBefore plan s.progress (waiting_of s) o) is (action_for plan s.progress (waiting_of s))

-- a connection is closed for being done only if no command is left to be sent, and none is outstanding
pub done_is_finished : (plan : Plan) (commands : List Task) (scope : Scope) (acts : List Act) → action_at plan (state_after plan commands scope acts) ≡ action.Close cause.Done
    → IsFinished (commands_in (state_after plan commands scope acts).marks) (state_after plan commands scope acts).progress
done_is_finished plan commands scope acts is = by_needs (needs_of plan (state_after plan commands scope acts) (action.Close cause.Done) is).1 where
  -- the lemma above, by the condition of that close: the phase says so, or nothing is left
  by_needs : (((state_after plan commands scope acts).progress.phase ≡ Closing cause.Done)
      ⊎ IsAtItsEnd plan (state_after plan commands scope acts).progress (waiting_of (state_after plan commands scope acts)) cause.Done)
      → IsFinished (commands_in (state_after plan commands scope acts).marks) (state_after plan commands scope acts).progress
  by_needs (inl phase) = (invariant_holds plan commands scope acts).finished (ap says_done phase)
  by_needs (inr end) = end

-- in a run whose end is decided, the last act decided it
decided_last : (plan : Plan) (commands : List Task) (scope : Scope) (acts : List Act) (c : Cause) → Runs plan commands (opening plan scope) acts
    → cause_in (state_after plan commands scope acts).progress.phase ≡ Some c
    → HasLast acts (λ earlier last. Decided plan (state_after plan commands scope earlier) (state_after plan commands scope acts).progress.phase c last)
decided_last plan commands scope acts c runs e = by_last (none_or_last acts) where
  -- the lemma above, if there is a last act; at the start of a run no end is decided
  by_last : ((acts ≡ []) ⊎ ((earlier : List Act) × (last : Act) × (acts ≡ earlier ++ last ∷ [])))
      → HasLast acts (λ earlier last. Decided plan (state_after plan commands scope earlier) (state_after plan commands scope acts).progress.phase c last)
  by_last (inl none) = let down : None ≡ Some c = sym (ap (λ (xs : List Act). cause_in (state_after plan commands scope xs).progress.phase) none) ∙ e in cc
  by_last (inr some) =
      let earlier = some.0 in
      let last = some.1 in
      let s = state_after plan commands scope earlier in
      let split = runs_split plan commands (opening plan scope) earlier [] last (subst (λ (xs : List Act). Runs plan commands (opening plan scope) xs) some.2 runs) in
      let behind : (state_after plan commands scope acts).progress.phase ≡ (after plan commands s last).progress.phase =
      ap (λ (xs : List Act). (state_after plan commands scope xs).progress.phase) some.2 ∙ ap (λ (x : Model). x.progress.phase)
      (after_all-append plan commands (opening plan scope) earlier (last ∷ [])) in (
        earlier,
        last,
        some.2,
        subst (λ (phase : Phase). Decided plan s phase c last) (sym behind)
            (after_decided plan commands s last c split.1 (done_is_finished plan commands scope earlier) (ap cause_in (sym behind) ∙ e)),
      )

-- if the phase says that the connection is to be closed for `why`, the last act shows that cause (`Shows`)
pub closing_shown : (plan : Plan) (commands : List Task) (scope : Scope) (acts : List Act) (why : Cause) → Runs plan commands (opening plan scope) acts
    → (state_after plan commands scope acts).progress.phase ≡ Closing why
    → HasLast acts (λ earlier last. Shows why last)
closing_shown plan commands scope acts why runs phase =
    let d = decided_last plan commands scope acts why runs (ap cause_in phase) in (d.0, d.1, d.2, shows (state_after plan commands scope d.0) d.1 d.3) where
      -- if the last act decided the end, it shows the cause: the connection isn't closed yet, so it isn't gone
      shows : (before : Model) (last : Act) → Decided plan before (state_after plan commands scope acts).progress.phase why last → Shows why last
      shows before last (inl failed) = failed.1
      shows before last (inr gone) = let up : true ≡ false = sym (ap is_up phase) ∙ gone.0 in cc

-- if a connection is closed, it is closed for a cause, as `ClosesForACause` says
pub closed_for : (plan : Plan) (commands : List Task) (scope : Scope) (acts : List Act) → Runs plan commands (opening plan scope) acts
    → Performs commands (state_after plan commands scope acts) (action_at plan (state_after plan commands scope acts)) Closed
    → ClosesForACause plan commands scope acts
closed_for plan commands scope acts runs o =
    let s = state_after plan commands scope acts in
    let it = closes_only commands s (action_at plan s) o in
    record {
      why = it.0;
      closes = it.1;
      shown = by_needs it.0 (needs_of plan s (action.Close it.0) it.1).1;
    } where
      -- the lemma above, by the condition of that close: the phase says so, or the run is at its end
      by_needs : (why : Cause) → (((state_after plan commands scope acts).progress.phase ≡ Closing why)
          ⊎ IsAtItsEnd plan (state_after plan commands scope acts).progress (waiting_of (state_after plan commands scope acts)) why)
          → IsAtItsEnd plan (state_after plan commands scope acts).progress (waiting_of (state_after plan commands scope acts)) why
          ⊎ HasLast acts (λ earlier last. Shows why last)
      by_needs why (inl phase) = inr (closing_shown plan commands scope acts why runs phase)
      by_needs why (inr end) = inl end

-- if a run stops, it stops for a cause, as `StopsForACause` says
pub stopped_for : (plan : Plan) (commands : List Task) (scope : Scope) (acts : List Act) (why : Cause) → Runs plan commands (opening plan scope) acts
    → action_at plan (state_after plan commands scope acts) ≡ action.Stop why → StopsForACause plan commands scope acts why
stopped_for plan commands scope acts why runs stop =
    let needs = needs_of plan (state_after plan commands scope acts) (action.Stop why) stop in
    record {
      down = needs.0;
      shown = by_needs needs.1;
    } where
      -- if the run is over, what decided the end ends the run
      ends : (before : Model) (last : Act) → (state_after plan commands scope acts).progress.phase ≡ Over why
          → Decided plan before (state_after plan commands scope acts).progress.phase why last → EndsRun plan before why last
      ends before last phase (inl failed) = inl (failed.0 (ap is_up phase), failed.1)
      ends before last phase (inr gone) = inr gone.1

      -- `stopped_for` by the condition of stopping: the phase says so, or all turns are used up
      by_needs : (((state_after plan commands scope acts).progress.phase ≡ Over why) ⊎ ((why ≡ cause.Turns) × ((state_after plan commands scope acts).progress.turns ≡ 0)))
          → ((why ≡ cause.Turns) × ((state_after plan commands scope acts).progress.turns ≡ 0))
          ⊎ HasLast acts (λ earlier last. EndsRun plan (state_after plan commands scope earlier) why last)
      by_needs (inl phase) = let d = decided_last plan commands scope acts why runs (ap cause_in phase) in inr (d.0, d.1, d.2, ends (state_after plan commands scope d.0) d.1 phase d.3)
      by_needs (inr none) = inl none
