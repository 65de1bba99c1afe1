-- A session over a line that damages: it settles what the world's client settles, and each stretch in which damage is apart is local,
-- because the session holds back.
use Rattle.gc_theorems.proofs.Common.{◌≡◌, ◌⊎◌, inl, inr, ℕ, ◌+◌, ◌<◌, List, [], ◌∷◌, ◌++◌, length, map, drop, Option, Some, None, refl, sym, ◌∙◌, ap, subst, append_assoc, append-nil, AllByRecursion, Asked, Wanted, begun, course, sent_on, ById, Sending, fresh, lost, sends, WINDOW, KeptReply, all_append, events_all, ClientEvent, Stepped, steps_among, steps_since, RequestsAreHeldBack, SessionsAreTheirClients, Session, client_after, client_stepped, AreInTable, IsInTable, calls_in_table, course_client, course_settled, sent_by, settled_append, settled_by, Ends, IsWellFormed, SyncModel, UnderWay, begins, IsAnInstrument, TreatsRawsAlike, Harm, Does, Damages, Strikes, KeepsItsOwnAfter, IsLocal, AreInARow, HarmedStretch, HasDamageApart, IsPossibleStretch, at_its_end, client_settled, left_by_stretch, seen_at, seen_harms, SyncHarm, sync_harms}
use Rattle.gc_client.specs.Prelude.{Step}
use Rattle.gc_session.specs.Prelude.{Call, AsksTheTable, opening}
use Rattle.gc_theorems.proofs.Parting.{IsNoRestart, no_restart_seen, since_both, steps_in_front, turned_one}
use Rattle.gc_theorems.proofs.SentNear.{OfSends, sends_behind, sends_by_steps, sends_front}
use Rattle.gc_theorems.specs.DamagedSessions.{SessionsInHarmedFieldAreLocal, events_in, harm_event, harm_events, settled_in}
use Rattle.gc_theorems.proofs.DamagedLocal.{local_if_held_back}
use Rattle.gc_theorems.proofs.Room.{HoldsBackFrom, SendsOnly}
use Rattle.gc_theorems.proofs.DamagedRuns.{all_few}
use Rattle.gc_theorems.proofs.SeenHarms.{seen_by_steps}
use Rattle.gc_theorems.proofs.WellFormed.{left_well_formed, possible_steps}
use Rattle.gc_client.specs.OneForOne as one
use Rattle.gc_session.specs.Laws as session
use Rattle.gc_theorems.specs.DamagedSynchronizing as sync

-- Steps among events.

module _ {State : Type 0} (ends : Ends State) where
  -- a step of a synchronization, with damage, is no step of the client
  none_of_harm : (s : SyncModel State) (t : SyncHarm State) (es : List ClientEvent) → steps_among (harm_event s t ++ es) ≡ steps_among es
  none_of_harm s (sync.Does turn) es = (turned_one WINDOW ends s turn).steps es
  none_of_harm s (sync.Damages line) es = refl
  none_of_harm s (sync.Strikes id call) es = refl

  -- among the events of a synchronization with damage, and others, are only the steps of the others
  pub none_of_harms : (ts : List (SyncHarm State)) (s : SyncModel State) (es : List ClientEvent) → steps_among (harm_events ends ts s ++ es) ≡ steps_among es
  none_of_harms [] s es = refl
  none_of_harms (t ∷ ts) s es =
      ap steps_among (append_assoc (harm_event s t) (harm_events ends ts (sync_harms ends s t)) es)
      ∙ none_of_harm s t (harm_events ends ts (sync_harms ends s t) ++ es) ∙ none_of_harms ts (sync_harms ends s t) es

  -- nor does it add one since a restart
  since_harm : (s : SyncModel State) (t : SyncHarm State) (since : List (Step Asked)) → steps_since since (harm_event s t) ≡ since
  since_harm s (sync.Does turn) since = (turned_one WINDOW ends s turn).since since
  since_harm s (sync.Damages line) since = refl
  since_harm s (sync.Strikes id call) since = refl

  -- nor do any of these
  since_harms : (ts : List (SyncHarm State)) (s : SyncModel State) (since : List (Step Asked)) → steps_since since (harm_events ends ts s) ≡ since
  since_harms [] s since = refl
  since_harms (t ∷ ts) s since =
      let later = harm_events ends ts (sync_harms ends s t) in
      since_both (harm_event s t) later since ∙ ap (λ l. steps_since l later) (since_harm s t since) ∙ since_harms ts (sync_harms ends s t) since

-- No restart is among the steps of a stretch.

-- no step that is seen at one of a stretch is a restart
no_restart_at : {State : Type 0} (m : Harm State) → AllByRecursion IsNoRestart (seen_at m)
no_restart_at (Does move) = no_restart_seen (move ∷ [])
no_restart_at (Damages line) = (tt, tt)
no_restart_at (Strikes id call) = tt

no_restarts : {State : Type 0} (ms : List (Harm State)) → AllByRecursion IsNoRestart (seen_harms ms)
no_restarts [] = tt
no_restarts (m ∷ ms) = all_append IsNoRestart (seen_at m) (seen_harms ms) (no_restart_at m) (no_restarts ms)

-- Holding back.

-- after these steps there is room for one more request
abbrev HasRoom : (target : ℕ) → Asked → List (Step Asked) → Type 0
HasRoom target call steps = length (course WINDOW begun steps).client.waiting + session.last_ended fresh 1 steps < WINDOW

-- a client that has room at each of its sends holds back
holds_back : (steps : List (Step Asked)) → AllByRecursion IsNoRestart steps → OfSends HasRoom [] (map Stepped steps) → HoldsBackFrom fresh 1 steps
holds_back steps none h front later target call deadline e =
    subst (λ (c : ById Asked). length c.waiting + session.last_ended fresh 1 front < WINDOW) (course_client front begun) (sends_by_steps HasRoom steps none h front later target call deadline e)

-- What is asked.

-- P holds of what is asked
abbrev Asks_as : (P : Asked → Type 0) → (target : ℕ) → Asked → List (Step Asked) → Type 0
Asks_as P target call steps = P call

-- the same of a send that may be refused
only_this : (P : Asked → Type 0) (c : ById Asked) (target : ℕ) (call : Asked) (o : Option (Sending (ById Asked))) → P call
    → AllByRecursion (λ (a : Wanted Asked). P a.call) (sent_on (one.course_at c) target call o).sent
only_this P c target call None p = tt
only_this P c target call (Some s) p = (p, tt)

-- if P holds of each call that is asked for among these steps, it holds of each that is sent
only_sent : (P : Asked → Type 0) (c : ById Asked) (steps : List (Step Asked))
    → ((front later : List (Step Asked)) (target : ℕ) (call : Asked) (deadline : ℕ) → steps ≡ front ++ one.Send target call deadline ∷ later → P call) → SendsOnly P c steps
only_sent P c [] h = tt
only_sent P c (one.Send target call deadline ∷ steps) h =
    let c2 = client_stepped c (one.Send target call deadline) in
    all_append (λ (a : Wanted Asked). P a.call) (sent_on (one.course_at c) target call (sends WINDOW c target call deadline)).sent (sent_by c2 steps)
    (only_this P c target call (sends WINDOW c target call deadline) (h [] steps target call deadline refl))
    (only_sent P c2 steps (λ front later t k d e. h (one.Send target call deadline ∷ front) later t k d (ap (λ l. one.Send target call deadline ∷ l) e)))
only_sent P c (one.Hear line ∷ steps) h =
    only_sent P (client_stepped c (one.Hear line)) steps (λ front later t k d e. h (one.Hear line ∷ front) later t k d (ap (λ l. one.Hear line ∷ l) e))
only_sent P c (one.Expire now ∷ steps) h =
    only_sent P (client_stepped c (one.Expire now)) steps (λ front later t k d e. h (one.Expire now ∷ front) later t k d (ap (λ l. one.Expire now ∷ l) e))
only_sent P c (one.Restart ∷ steps) h =
    only_sent P (client_stepped c one.Restart) steps (λ front later t k d e. h (one.Restart ∷ front) later t k d (ap (λ l. one.Restart ∷ l) e))

module _ {State : Type 0} (ends : Ends State) (Good : State → Type 0) (kept : State → Option KeptReply) (is : IsAnInstrument ends Good kept) where
  -- the instrument keeps its own reply, or none, after each request that is asked for
  keeps_own : (calls : List Call) (s : Session) → AllByRecursion AsksTheTable calls ⊎ TreatsRawsAlike ends Good kept → OfSends (Asks_as (KeepsItsOwnAfter ends Good kept)) [] (events_all calls s)
  keeps_own calls s (inr alike) = λ front later target call deadline e. inr alike
  keeps_own calls s (inl table) = λ front later target call deadline e.
      inl (behind front (Stepped (one.Send target call deadline)) later (subst (λ l. AreInTable l) e (calls_in_table calls s table)))
    where
      -- what holds of each event holds of one behind others
      behind : (front : List ClientEvent) (event : ClientEvent) (later : List ClientEvent) → AreInTable (front ++ event ∷ later) → IsInTable event
      behind [] event later h = h.0
      behind (x ∷ front) event later h = behind front event later h.1

  -- One stretch.

  -- in a stretch in which there is room at each send, and each request asks for what is kept as the instrument's own, damage that is apart
  -- is local
  stretch_local : (s : HarmedStretch State) → IsWellFormed Good s.over → IsPossibleStretch ends Good kept s → OfSends HasRoom [] (map Stepped (seen_harms s.steps))
      → OfSends (Asks_as (KeepsItsOwnAfter ends Good kept)) [] (map Stepped (seen_harms s.steps)) → HasDamageApart ends s → IsLocal ends Good kept s
  stretch_local s well possible room own apart =
      let none = no_restarts s.steps in
      local_if_held_back ends Good kept is s well possible (holds_back (seen_harms s.steps) none room)
      (only_sent (KeepsItsOwnAfter ends Good kept) fresh (seen_harms s.steps)
      (λ front later target call deadline e. sends_by_steps (Asks_as (KeepsItsOwnAfter ends Good kept)) (seen_harms s.steps) none own front later target call deadline e)) apart

  -- what holds of the sends among the events of a synchronization and others holds of those among the others
  sends_after : (Holds : (target : ℕ) → Asked → List (Step Asked) → Type 0) (s : HarmedStretch State) (es : List ClientEvent) → OfSends Holds [] (harm_events ends s.turns (begins s.over) ++ es)
      → OfSends Holds [] es
  sends_after Holds s es h = subst (λ l. OfSends Holds l es) (since_harms ends s.turns (begins s.over) []) (sends_behind Holds [] (harm_events ends s.turns (begins s.over)) es h)

  -- and of those after a restart
  sends_restarted : (Holds : (target : ℕ) → Asked → List (Step Asked) → Type 0) (steps : List (Step Asked)) (es : List ClientEvent) → OfSends Holds [] (map Stepped steps ++ Stepped one.Restart ∷ es)
      → OfSends Holds [] es
  sends_restarted Holds steps es h = sends_behind Holds (steps_since [] (map Stepped steps)) (Stepped one.Restart ∷ []) es (sends_behind Holds [] (map Stepped steps) (Stepped one.Restart ∷ es) h)

  -- each stretch in which damage is apart is local
  all_local : (ss : List (HarmedStretch State)) (u : UnderWay State) → IsWellFormed Good u → AreInARow ends u ss → AllByRecursion (IsPossibleStretch ends Good kept) ss
      → OfSends HasRoom [] (events_in ends ss) → OfSends (Asks_as (KeepsItsOwnAfter ends Good kept)) [] (events_in ends ss)
      → AllByRecursion (λ s. HasDamageApart ends s → IsLocal ends Good kept s) ss
  all_local [] u well row possible room own = tt
  all_local (s ∷ []) u well row possible room own =
      let es = map Stepped (seen_harms s.steps) in
      (stretch_local s (subst (IsWellFormed Good) (sym row.0) well) possible.0 (sends_after HasRoom s es room) (sends_after (Asks_as (KeepsItsOwnAfter ends Good kept)) s es own), tt)
  all_local (s ∷ t ∷ ss) u well row possible room own =
      let steps = seen_harms s.steps in
      let over : IsWellFormed Good s.over = subst (IsWellFormed Good) (sym row.0) well in
      let Keeps = Asks_as (KeepsItsOwnAfter ends Good kept) in
      let rest = events_in ends (t ∷ ss) in
      let es = map Stepped steps ++ Stepped one.Restart ∷ rest in
      let room_here = sends_after HasRoom s es room in
      let own_here = sends_after Keeps s es own in (
        stretch_local s over possible.0 (sends_front HasRoom [] (map Stepped steps) (Stepped one.Restart ∷ rest) room_here) (sends_front Keeps [] (map Stepped steps) (Stepped one.Restart ∷ rest) own_here),
        all_local (t ∷ ss) (left_by_stretch ends s) (left_well_formed ends Good kept is s over possible.0) row.1 possible.1 (sends_restarted HasRoom steps rest room_here) (sends_restarted Keeps steps rest own_here),
      )

  -- What is settled.

  -- what a stretch's client settled is what its steps settle
  settled_by_stretch : (s : HarmedStretch State) → IsPossibleStretch ends Good kept s → settled_by fresh (seen_harms s.steps) ≡ client_settled ends s
  settled_by_stretch s possible = ap (drop 8) (sym (seen_by_steps ends Good kept is s (possible_steps ends Good kept is s possible)).settled)

  -- what the steps among the events of stretches settle is what the stretches settle
  all_settled : (ss : List (HarmedStretch State)) → AllByRecursion (IsPossibleStretch ends Good kept) ss → settled_by fresh (steps_among (events_in ends ss)) ≡ settled_in ends ss
  all_settled [] possible = refl
  all_settled (s ∷ []) possible =
      let steps = seen_harms s.steps in
      let only : steps_among (events_in ends (s ∷ [])) ≡ steps =
      none_of_harms ends s.turns (begins s.over) (map Stepped steps) ∙ ap steps_among (sym (append-nil (map Stepped steps))) ∙ steps_in_front steps [] ∙ append-nil steps in
      ap (settled_by fresh) only ∙ settled_by_stretch s possible.0
  all_settled (s ∷ t ∷ ss) possible =
      let steps = seen_harms s.steps in
      let rest = events_in ends (t ∷ ss) in
      let only : steps_among (events_in ends (s ∷ t ∷ ss)) ≡ steps ++ one.Restart ∷ steps_among rest =
      none_of_harms ends s.turns (begins s.over) (map Stepped steps ++ Stepped one.Restart ∷ rest) ∙ steps_in_front steps (Stepped one.Restart ∷ rest) in
      let client = (seen_by_steps ends Good kept is s (possible_steps ends Good kept is s possible.0)).client in
      ap (settled_by fresh) only
      ∙ settled_append fresh steps (one.Restart ∷ steps_among rest)
      ∙ ap (λ l. l ++ (map lost (client_after fresh steps).waiting ++ settled_by fresh (steps_among rest))) (settled_by_stretch s possible.0)
      ∙ ap (λ (c : ById Asked). client_settled ends s ++ (map lost c.waiting ++ settled_by fresh (steps_among rest))) (sym client)
      ∙ ap (λ l. client_settled ends s ++ (map lost (at_its_end ends s).world.client.waiting ++ l)) (all_settled (t ∷ ss) possible.1)
      ∙ sym (append_assoc (client_settled ends s) (map lost (at_its_end ends s).world.client.waiting) (settled_in ends (t ∷ ss)))

  -- a session over a line that damages is local
  pub session_local : SessionsAreTheirClients → RequestsAreHeldBack → SessionsInHarmedFieldAreLocal ends Good kept
  session_local clients held u x h =
      let events = events_in ends x.stretches in
      record {
        settled = (clients x.settings x.calls).settled ∙ ap (λ l. (course WINDOW begun (steps_among l)).settlements) h.events
            ∙ course_settled (steps_among events) begun ∙ all_settled x.stretches h.possible;
        each = all_local x.stretches u h.lines h.row h.possible
            (λ front later target call deadline e. held x.settings x.calls front later target call deadline (h.events ∙ e))
            (subst (λ l. OfSends (Asks_as (KeepsItsOwnAfter ends Good kept)) [] l) h.events (keeps_own x.calls (opening x.settings) h.own));
        few = all_few ends Good kept is x.stretches;
      }
