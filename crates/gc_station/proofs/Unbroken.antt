-- A chain that isn't broken goes on over a connection, once the station has synchronized. `preparing` of a progress is true if
-- there is a setup, and since the connection was made and the station synchronized no cycle began or went on. An act is one call
-- on the link, with its result.
use Rattle.gc_station.proofs.Common.{◌≡◌, ◌&&◌, ◌<◌, Bool, true, false, not, List, [], inl, inr, ◌⊎◌, if◌then◌else◌, nat_eq, refl, sym, ap, ◌∙◌, subst, arith, and_parts, false_from_ne_true, both_ways, Task, Act, Told, Cut, Opened, Cause, Plan, Action, Progress, Waiting, has_begun, is_up, lacks_value, may_go, Model, opening, action_at, waiting_of, is_heard, lines_completed, with_progress, with_rest, Performs, moved, Runs, commands_before, turned, failing, cleared, time_passed, HoldsBefore, IsResting, state_after, Scope}
use Rattle.gc_station.proofs.Always.{always_of_progress}
use Rattle.gc_station.proofs.Closings.{came_phase, cleared_up}
use Rattle.gc_station.proofs.Facts.{action_for}
use Rattle.gc_station.proofs.Silences.{quieted_up}
use Rattle.gc_station.proofs.Walk.{asked_along, came_along, quieted_along, closed_along, sent_same, moved_changed, walk, piece_before}
use Rattle.gc_station.proofs.Words.{begun_kept}
use Rattle.gc_station.specs.declared.cause.Cause.TheVariants as cause
use Rattle.gc_station.specs.declared.progress.Action.TheVariants as actions
use Rattle.gc_station.specs.declared.progress.Phase.TheVariants as phase

-- if a chain isn't broken there is a connection, the station has synchronized, and `preparing` is false
abbrev pub IsOnLineIfUnbroken : Progress → Type 0
IsOnLineIfUnbroken p = p.chain_unbroken ≡ true → (is_up p.phase ≡ true) × (has_begun p ≡ true) × (p.preparing ≡ false)

-- after a failure there is a connection exactly if there was one before it
pub failure_keeps_line : (p : Progress) (why : Cause) → is_up (failing why p).phase ≡ is_up p.phase
failure_keeps_line p why = by_up (is_up p.phase) where
  -- the lemma above, by whether there was one (`true`)
  by_up : (up : Bool) → is_up (if up then phase.Closing why else phase.Over why) ≡ up
  by_up true = refl
  by_up false = refl

module _ (plan : Plan) (commands : List Task) where
  -- a chain that isn't broken in the model t, after an act, wasn't broken in the model s, before the act
  abbrev WasUnbroken : (s t : Model) → Type 0
  WasUnbroken s t = t.progress.chain_unbroken ≡ true → s.progress.chain_unbroken ≡ true

  -- if a chain isn't broken after an act, the act sends the next command of a cycle, or the chain wasn't broken before it
  unbroken_before : (s : Model) (o : Action) (act : Act) → Performs commands s o act → (moved plan commands o (with_progress turned s) act).progress.chain_unbroken ≡ true
      → (o ≡ actions.Send) ⊎ (s.progress.chain_unbroken ≡ true)
  unbroken_before s actions.Send act obeys c = inl refl
  unbroken_before s actions.Renew act obeys c = inr (walk plan commands (λ a. WasUnbroken s) actions.Renew (with_progress turned s) act obeys (λ m d. cc, λ n d. d) c)
  unbroken_before s actions.Begin act obeys c = inr (walk plan commands (λ a. WasUnbroken s) actions.Begin (with_progress turned s) act obeys (λ m d. cc, λ n d. d) c)
  unbroken_before s actions.Open act obeys c = inr (walk plan commands (λ a. WasUnbroken s) actions.Open (with_progress turned s) act obeys (λ m d. d, λ n d. cc) c)
  unbroken_before s actions.Prepare act obeys c = inr (walk plan commands (λ a. WasUnbroken s) actions.Prepare (with_progress turned s) act obeys (λ m d. cc, λ n d. cc) c)
  unbroken_before s actions.Skip act obeys c = inr (walk plan commands (λ a. WasUnbroken s) actions.Skip (with_progress turned s) act obeys (λ m d. cc, λ n d. d) c)
  unbroken_before s actions.Pass act obeys c = inr (walk plan commands (λ a. WasUnbroken s) actions.Pass (with_progress turned s) act obeys (λ m d. cc, λ n d. d) c)
  unbroken_before s (actions.Read until) act obeys c =
      let P : Progress → Type 0 = λ (q : Progress). q.chain_unbroken ≡ true → s.progress.chain_unbroken ≡ true in
      inr (walk plan commands (λ a. WasUnbroken s) (actions.Read until) (with_progress turned s) act obeys (
        λ bytes m. let mid = piece_before m s in
            came_along (λ (t : Model). P t.progress) (λ t line e. e) (is_heard s.progress.phase) s.progress.exchange.word bytes mid (λ d. d)
            (asked_along P (λ q line e. e) mid.progress (lines_completed mid.rest bytes) (λ d. d)) (λ d. d),
        λ m. quieted_along P plan s.progress.phase (time_passed until m (turned s.progress)) (λ d. d) (λ d. d) (λ d. d),
        λ d. d,
        λ d. d,
        λ d. d,
      ) c)
  unbroken_before s (actions.Close why) act obeys c =
      inr (walk plan commands (λ a. WasUnbroken s) (actions.Close why) (with_progress turned s) act obeys
      (closed_along (λ (q : Progress). q.chain_unbroken ≡ true → s.progress.chain_unbroken ≡ true) plan
      (waiting_of (with_rest [] (with_progress turned s))) why (turned s.progress) (λ d. cc) (λ d. cc)) c)
  unbroken_before s (actions.Stop why) act obeys c = absurd obeys
  unbroken_before s next act obeys c = inr (walk plan commands (λ a. WasUnbroken s) next (with_progress turned s) act obeys (λ m d. d, λ n d. d) c)

  -- in the model t there is a connection if the chain isn't broken
  abbrev UpIfUnbroken : (t : Model) → Type 0
  UpIfUnbroken t = t.progress.chain_unbroken ≡ true → is_up t.progress.phase ≡ true

  -- if there is a connection before an act, and a chain isn't broken after it, there is a connection after it (`UpIfUnbroken`)
  unbroken_up : (s : Model) (o : Action) (act : Act) → Performs commands s o act → is_up s.progress.phase ≡ true
      → UpIfUnbroken (moved plan commands o (with_progress turned s) act)
  unbroken_up s actions.Open act obeys up = walk plan commands (λ a. UpIfUnbroken) actions.Open (with_progress turned s) act obeys (λ m c. refl, λ n c. cc)
  unbroken_up s actions.Clear act obeys up =
      walk plan commands (λ a. UpIfUnbroken) actions.Clear (with_progress turned s) act obeys (
        λ m c. cleared_up (has_begun s.progress),
        λ n c. failure_keeps_line (cleared (turned s.progress)) (cause.Write (commands_before plan commands (turned s.progress)) n) ∙ cleared_up (has_begun s.progress),
      )
  unbroken_up s (actions.Read until) act obeys up =
      walk plan commands (λ a. UpIfUnbroken) (actions.Read until) (with_progress turned s) act obeys (
        λ bytes m c. ap is_up (came_phase (is_heard s.progress.phase) s.progress.exchange.word bytes (piece_before m s)) ∙ up,
        λ m c. quieted_up plan s.progress.phase (time_passed until m (turned s.progress)) refl ∙ up,
        λ c. failure_keeps_line s.progress cause.End ∙ up,
        λ c. failure_keeps_line s.progress cause.Read ∙ up,
        λ c. failure_keeps_line s.progress cause.Clock ∙ up,
      )
  unbroken_up s (actions.Close why) act obeys up =
      walk plan commands (λ a. UpIfUnbroken) (actions.Close why) (with_progress turned s) act obeys
      (closed_along (λ (q : Progress). q.chain_unbroken ≡ true → is_up q.phase ≡ true) plan (waiting_of (with_rest [] (with_progress turned s))) why (turned s.progress) (λ d. cc) (λ d. cc))
  unbroken_up s (actions.Stop why) act obeys up = absurd obeys
  unbroken_up s actions.Ask act obeys up =
      walk plan commands (λ a. UpIfUnbroken) actions.Ask (with_progress turned s) act obeys
      (λ m c. up, λ n c. failure_keeps_line s.progress (cause.Write (commands_before plan commands (turned s.progress)) n) ∙ up)
  unbroken_up s actions.Send act obeys up =
      walk plan commands (λ a. UpIfUnbroken) actions.Send (with_progress turned s) act obeys
      (λ m c. up, λ n c. failure_keeps_line s.progress (cause.Write (commands_before plan commands (turned s.progress)) n) ∙ up)
  unbroken_up s actions.Prepare act obeys up = walk plan commands (λ a. UpIfUnbroken) actions.Prepare (with_progress turned s) act obeys (λ m c. cc, λ n c. cc)
  unbroken_up s actions.Flush act obeys up =
      walk plan commands (λ a. UpIfUnbroken) actions.Flush (with_progress turned s) act obeys
      (λ m c. up, λ n c. failure_keeps_line s.progress (cause.Write (commands_before plan commands (turned s.progress)) n) ∙ up)
  unbroken_up s next act obeys up = walk plan commands (λ a. UpIfUnbroken) next (with_progress turned s) act obeys (λ m c. up, λ n c. failure_keeps_line s.progress cause.Clock ∙ up)

  -- after a command of a cycle is sent, `preparing` is false
  pub not_preparing_after_send : (s : Model) (act : Act) → (moved plan commands actions.Send s act).progress.preparing ≡ false
  not_preparing_after_send s (Cut bytes n) = subst (λ (x : Model). x.progress.preparing ≡ false) (sent_same plan commands s) refl
  not_preparing_after_send s act = subst (λ (x : Model). x.progress.preparing ≡ false) (sent_same plan commands s) refl

  -- if a chain isn't broken after an act, and `preparing` was false before the act, it is after it
  not_preparing_kept : (s : Model) (o : Action) (act : Act) → (moved plan commands o (with_progress turned s) act).progress.chain_unbroken ≡ true → s.progress.preparing ≡ false
      → (moved plan commands o (with_progress turned s) act).progress.preparing ≡ false
  not_preparing_kept s actions.Send act c was = not_preparing_after_send (with_progress turned s) act
  not_preparing_kept s actions.Renew (Told m) c was = cc
  not_preparing_kept s actions.Renew act c was = was
  not_preparing_kept s actions.Begin (Told m) c was = ap (λ (b : Bool). b && nat_eq s.progress.prepared 0) was
  not_preparing_kept s actions.Begin act c was = was
  not_preparing_kept s actions.Skip (Told m) c was = ap (λ (b : Bool). b && nat_eq s.progress.prepared 0) was
  not_preparing_kept s actions.Skip act c was = was
  not_preparing_kept s actions.Pass (Told m) c was = ap (λ (b : Bool). b && nat_eq s.progress.prepared 0) was
  not_preparing_kept s actions.Pass act c was = was
  not_preparing_kept s actions.Open Opened c was = was
  not_preparing_kept s actions.Open act c was = cc
  not_preparing_kept s (actions.Close why) act c was =
      closed_along (λ (q : Progress). q.chain_unbroken ≡ true → q.preparing ≡ false) plan (waiting_of (with_rest [] (with_progress turned s))) why (turned s.progress) (λ d. cc) (λ d. cc) c
  not_preparing_kept s o act c was = ap (λ (x : Model). x.progress.preparing) (moved_changed plan commands o (with_progress turned s) act) ∙ was

  -- `IsOnLineIfUnbroken` is preserved by an act of each action of which `HoldsBefore` holds
  on_line_moved : (s : Model) (o : Action) (act : Act) → Performs commands s o act → HoldsBefore plan s.progress (waiting_of s) o → IsOnLineIfUnbroken s.progress
      → IsOnLineIfUnbroken (moved plan commands o (with_progress turned s) act).progress
  on_line_moved s o act obeys needs on c = by_before (unbroken_before s o act obeys c) where
    -- the lemma above, by whether the act sends, or the chain wasn't broken before
    by_before : (o ≡ actions.Send) ⊎ (s.progress.chain_unbroken ≡ true)
        → (is_up (moved plan commands o (with_progress turned s) act).progress.phase ≡ true) × (has_begun (moved plan commands o (with_progress turned s) act).progress ≡ true)
        × ((moved plan commands o (with_progress turned s) act).progress.preparing ≡ false)
    by_before (inl sends) =
        let it : HoldsBefore plan s.progress (waiting_of s) actions.Send = subst (λ (x : Action). HoldsBefore plan s.progress (waiting_of s) x) sends needs in (
          unbroken_up s o act obeys (ap is_up it.0) c,
          begun_kept plan commands s o act obeys it.1 c,
          subst (λ (x : Action). (moved plan commands x (with_progress turned s) act).progress.preparing ≡ false) (sym sends) (not_preparing_after_send (with_progress turned s) act),
        )
    by_before (inr was) = let it = on was in (unbroken_up s o act obeys it.0 c, begun_kept plan commands s o act obeys it.1 c, not_preparing_kept s o act c it.2)

-- `IsOnLineIfUnbroken` holds after each run
pub unbroken_holds : (plan : Plan) (commands : List Task) (scope : Scope) (acts : List Act) → Runs plan commands (opening plan scope) acts
    → IsOnLineIfUnbroken (state_after plan commands scope acts).progress
unbroken_holds plan commands scope acts runs =
    always_of_progress plan commands (opening plan scope) (λ (p : Progress) (done : List Act). IsOnLineIfUnbroken p) (λ done act runs' o on.
    let s = state_after plan commands scope done in
    on_line_moved plan commands s (action_at plan s) act o (action_for plan s.progress (waiting_of s)) on) (λ c. cc) acts runs

-- where `IsOnLineIfUnbroken` holds and the run may end (`IsResting`), a command that is left, and that is chained, may not be
-- sent (`may_go`)
pub resting_sends_no_chained : (p : Progress) (w : Waiting) → IsOnLineIfUnbroken p → IsResting p w → 0 < p.unsent → p.next_is_chained ≡ true → may_go p w ≡ false
resting_sends_no_chained p w on rests some chained = false_from_ne_true (may_go p w) (λ may. by_rest (and_parts w.well p.chain_unbroken (and_parts (w.well && p.chain_unbroken) (not (lacks_value p)) may).0).1 rests) where
  -- the lemma above, by why the run may end there
  by_rest : p.chain_unbroken ≡ true → IsResting p w → ⊥
  by_rest c (inl down) = both_ways (is_up p.phase) down (on c).0
  by_rest c (inr (inl begins)) = both_ways (has_begun p) begins (on c).1
  by_rest c (inr (inr (none, inl (inl all)))) = omega (arith, all, some)
  by_rest c (inr (inr (none, inl (inr (inl free))))) = both_ways p.next_is_chained free chained
  by_rest c (inr (inr (none, inl (inr (inr prepares))))) = both_ways p.preparing (on c).2 prepares
  by_rest c (inr (inr (none, inr cut))) = both_ways p.chain_unbroken cut.1 c
