-- What a client sends near the table, by its events, is safe in its runs. A run is the turns of a synchronization and then the moves of the
-- field, and a placed run is a run with what was in flight when it began.
use Rattle.gc_theorems.proofs.Common.{◌≡◌, ◌≢◌, ℕ, ◌+◌, ◌-◌, ◌≤◌, List, [], ◌∷◌, ◌++◌, map, Option, Some, inl, inr, refl, sym, ◌∙◌, ap, subst, append_assoc, append-nil, arith, slice_get, AllByRecursion, map-append, same_Some, slice_get_within, Asked, Wanted, begun, course, WINDOW, KeptReply, ClientEvent, Stepped, steps_since, IsNearTheTable, get_behind, every_front as all_front, get_map, by_ids, of_sent, Ends, Sent, UnderWay, begins, leaves, IsOwnIfBegun, Run, left_by_run, WentOutBehindTheTable, ids_begun, nulls, PlacedRun, ArePossibleRuns, begun_at, events_of, events_over, placed_runs, ArePossible, seen, IsAnInstrument, IsOwnRun, IsSafeRequest, Stretch}
use Rattle.gc_client.specs.Prelude.{Step}
use Rattle.gc_theorems.specs.ClientRuns.{world}
use Rattle.gc_theorems.proofs.BegunFaithful.{sent_is}
use Rattle.gc_theorems.proofs.InTime.{IsSoundStretch}
use Rattle.gc_theorems.proofs.Parting.{IsNoRestart, no_restart_seen, since_both, turned_all}
use Rattle.gc_theorems.proofs.Safe.{goes_out}
use Rattle.gc_client.specs.OneForOne as one

-- `Holds` is true of each send among these events, by its target, its call, and the steps since the last restart before it; `since` are
-- those before these events
abbrev pub OfSends : (Holds : (target : ℕ) → Asked → List (Step Asked) → Type 0) → (since : List (Step Asked)) → List ClientEvent → Type 0
OfSends Holds since events =
    (front later : List ClientEvent) (target : ℕ) (call : Asked) (deadline : ℕ) → events ≡ front ++ Stepped (one.Send target call deadline) ∷ later
    → Holds target call (steps_since since front)

-- if the target of a request isn't `own`, the request is near the table after these steps
abbrev IsNear : (own : ℕ) → (target : ℕ) → Asked → List (Step Asked) → Type 0
IsNear own target call steps = target ≢ own → IsNearTheTable (course WINDOW begun steps)

-- wherever a request whose target isn't `own` is sent among these events, it is sent near the table
abbrev pub IsSentNear : (own : ℕ) → (since : List (Step Asked)) → List ClientEvent → Type 0
IsSentNear own since events = OfSends (IsNear own) since events

-- Parts of events.

-- what holds of the sends among two lists of events holds of those among the first
pub sends_front : (Holds : (target : ℕ) → Asked → List (Step Asked) → Type 0) (since : List (Step Asked)) (xs ys : List ClientEvent) → OfSends Holds since (xs ++ ys) → OfSends Holds since xs
sends_front Holds since xs ys h = λ front later target call deadline e.
    h front (later ++ ys) target call deadline (ap (λ l. l ++ ys) e ∙ append_assoc front (Stepped (one.Send target call deadline) ∷ later) ys)

-- and of those among the second, after the first
pub sends_behind : (Holds : (target : ℕ) → Asked → List (Step Asked) → Type 0) (since : List (Step Asked)) (xs ys : List ClientEvent) → OfSends Holds since (xs ++ ys)
    → OfSends Holds (steps_since since xs) ys
sends_behind Holds since xs ys h = λ front later target call deadline e.
    subst (λ l. Holds target call l) (since_both xs front since)
    (h (xs ++ front) later target call deadline (ap (λ l. xs ++ l) e ∙ sym (append_assoc xs front (Stepped (one.Send target call deadline) ∷ later))))

-- steps without a restart come after those since the last restart
since_plain : (steps since : List (Step Asked)) → AllByRecursion IsNoRestart steps → steps_since since (map Stepped steps) ≡ since ++ steps
since_plain [] since h = sym (append-nil since)
since_plain (one.Restart ∷ steps) since h = absurd h.0
since_plain (step ∷ steps) since h = since_plain steps (since ++ step ∷ []) h.1 ∙ append_assoc since (step ∷ []) steps

-- what holds of the sends among the events of steps without a restart holds by the steps before each
pub sends_by_steps : (Holds : (target : ℕ) → Asked → List (Step Asked) → Type 0) (steps : List (Step Asked)) → AllByRecursion IsNoRestart steps → OfSends Holds [] (map Stepped steps)
    → (front later : List (Step Asked)) (target : ℕ) (call : Asked) (deadline : ℕ) → steps ≡ front ++ one.Send target call deadline ∷ later → Holds target call front
sends_by_steps Holds steps none h front later target call deadline e =
    let plain = all_front IsNoRestart front (one.Send target call deadline ∷ later) (subst (λ l. AllByRecursion IsNoRestart l) e none) in
    subst (λ l. Holds target call l) (since_plain front [] plain)
    (h (map Stepped front) (map Stepped later) target call deadline (ap (λ l. map Stepped l) e ∙ map-append Stepped front (one.Send target call deadline ∷ later)))

-- Runs.

module _ {State : Type 0} (ends : Ends State) (Good : State → Type 0) (kept : State → Option KeptReply) (is : IsAnInstrument ends Good kept) (own : ℕ) where
  -- if this run has synchronized, each request that was sent in it after the null procedures, and whose target isn't `own`, is safe
  abbrev pub IsSafeBut : PlacedRun State → Type 0
  IsSafeBut p =
      (begun_at ends p).left ≡ [] → (m : ℕ) (r : Sent) → 8 ≤ m → slice_get (world WINDOW ends p).wire.sent m ≡ Some r → r.target ≢ own → IsSafeRequest WINDOW ends Good kept p m

  -- a faithful run of which the requests are sent near the table is safe (`IsSafeBut`)
  run_safe : (p : PlacedRun State) → ArePossible ends Good kept (by_ids WINDOW ends) p.run.moves (ids_begun (leaves (begun_at ends p))) → IsOwnRun WINDOW ends Good kept p
      → IsSentNear own [] (map Stepped (seen p.run.moves)) → IsSafeBut p
  run_safe p possible owned near = λ done m r ge at other.
      let s : Stretch State = record { from = leaves (begun_at ends p); moves = p.run.moves } in
      let clean = (subst (λ l. IsOwnIfBegun WINDOW ends Good kept l (begun_at ends p) p.run.moves) done owned).0.clean in
      let sound : IsSoundStretch ends Good kept is s = record { possible = possible; clean = inl clean } in
      let steps = seen p.run.moves in
      let w = (world WINDOW ends p).wire in
      let x = course WINDOW begun steps in
      let place : m ≡ 8 + (m - 8) = omega (arith, ge) in
      let mine : slice_get x.sent (m - 8) ≡ Some (of_sent r) =
      sym (get_behind (map of_sent nulls) x.sent m (m - 8) place)
      ∙ ap (λ l. slice_get l m) (sym (sent_is ends Good kept is 7 (omega arith) s.from p.run.moves possible)) ∙ get_map of_sent w.sent m r at in
      let out = goes_out ends Good kept is s sound steps refl (m - 8) (slice_get_within x.sent (m - 8) (of_sent r) mine)
      (λ front later target call deadline e count sent. sends_by_steps (IsNear own) steps (no_restart_seen p.run.moves) near front later target call deadline e
      (λ own_target. other (sym (ap (λ (a : Wanted Asked). a.target) (same_Some (record { target = target; call = call }) (of_sent r) (sym sent ∙ mine))) ∙ own_target))) in
      inr (inr (subst (λ k. WentOutBehindTheTable 7 ends s.from s.moves k) (sym place) out))

  -- runs of which the requests are sent near the table are safe (`IsSafeBut`), if they are possible and faithful
  pub runs_safe : (rs : List (Run State)) (u : UnderWay State) → ArePossibleRuns WINDOW ends Good kept u rs → AllByRecursion (IsOwnRun WINDOW ends Good kept) (placed_runs WINDOW ends u rs)
      → IsSentNear own [] (events_over WINDOW ends u rs) → AllByRecursion IsSafeBut (placed_runs WINDOW ends u rs)
  runs_safe [] u possible owned near = tt
  runs_safe (r ∷ []) u possible owned near =
      let steps = map Stepped (seen r.moves) in
      let here = subst (λ l. IsSentNear own l steps) ((turned_all WINDOW ends r.turns (begins u)).since []) (sends_behind (IsNear own) [] (events_of ends (begins u) r.turns) steps near) in
      (run_safe (record { before = u; run = r }) possible.0.1 owned.0 here, tt)
  runs_safe (r ∷ next ∷ others) u possible owned near =
      let steps = map Stepped (seen r.moves) in
      let after = left_by_run WINDOW ends u r in
      let rest = events_over WINDOW ends after (next ∷ others) in
      let here = subst (λ l. IsSentNear own l (steps ++ Stepped one.Restart ∷ rest)) ((turned_all WINDOW ends r.turns (begins u)).since [])
      (sends_behind (IsNear own) [] (events_of ends (begins u) r.turns) (steps ++ Stepped one.Restart ∷ rest) near) in (
        run_safe (record { before = u; run = r }) possible.0.1 owned.0 (sends_front (IsNear own) [] steps (Stepped one.Restart ∷ rest) here),
        runs_safe (next ∷ others) after possible.1 owned.1 (sends_behind (IsNear own) (steps_since [] steps) (Stepped one.Restart ∷ []) rest (sends_behind (IsNear own) [] steps (Stepped one.Restart ∷ rest) here)),
      )
