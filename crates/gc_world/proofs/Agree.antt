-- The client that knows ids does what the oracle client does. `Sound` is the invariant of the run by numbers: what always
-- holds of its wire and its client.
use Rattle.gc_world.proofs.Common.{◌≡◌, ℕ, zero, suc, ◌+◌, ◌-◌, ◌%◌, ◌<◌, ◌≤◌, Bool, true, false, List, [], ◌∷◌, ◌++◌, length, map, drop, Option, Some, None, refl, sym, ◌∙◌, ap, subst, arith, length-drop, ltb, eqb, AllByRecursion, ap₂, drop-drop, drop-append-le, length_push, drop_all, ltb-true, ltb-false, lt-ltb, le-ltb, Pending, Settled, ById, pending_of, expired, lost, settle, place, send_unless_full, settles_at, hears, Sending, call_line, started, with_settled, ByNumber, by_ids, ids_open, number_send, number_reply, expired_from, by_numbers, numbers_open, run_by_ids, run_by_numbers, IsExchange, Rising, numbers, numbers_in_flight, IsOrderly}
use Rattle.gc_world.specs.Worlds.{Request, Numbered, Ends, Step, Send, Up_deliver, Up_lose, Up_repeat, Down_deliver, Down_lose, Down_repeat, Expire, Restart_client, Restart_instrument, Nothing, Wire, World, without, doubled, idle, up_delivered, with_up, with_down, instrument_restarted, on_wire, requested, down_delivered, client_restarted, happens, run}
use Rattle.gc_world.proofs.Ids.{place_within, place_before}
use Rattle.gc_world.proofs.Sound.{IsComing, Sound, length_expired, all_sent, sound_step, sound_all, sound_open}
use Rattle.gc_world.specs.World as calls

-- the two clients are alike: they have the same next id, and the same requests wait
pub record AreAlike {Q : Type 0} (a : ById Q) (b : ByNumber Q) : Type 0 where
  pub window : a.waiting ≡ drop b.count b.requests
  pub next : a.next ≡ (length b.requests - b.since) % 8

-- two sends gave one id, and left clients that are alike
pub record SameSending {Q : Type 0} (a : Sending (ById Q)) (b : Sending (ByNumber Q)) : Type 0 where
  pub id : a.id ≡ b.id
  pub client : AreAlike a.client b.client

-- two sends were both refused, or both gave one id and clients that are alike
abbrev SameSend : {Q : Type 0} → Option (Sending (ById Q)) → Option (Sending (ByNumber Q)) → Type 0
SameSend None None = Unit {0}
SameSend (Some x) (Some y) = SameSending x y
SameSend None (Some y) = ⊥
SameSend (Some x) None = ⊥

-- both clients make the same settlements, and are alike afterwards
pub record SameSettled {Q : Type 0} (a : Settled Q (ById Q)) (b : Settled Q (ByNumber Q)) : Type 0 where
  pub settlements : a.settlements ≡ b.settlements
  pub client : AreAlike a.client b.client

-- clients that are alike have equally many waiting requests
waiting_count : {Q : Type 0} (a : ById Q) (b : ByNumber Q) → AreAlike a b → length a.waiting ≡ length b.requests - b.count
waiting_count a b h = ap length h.window ∙ length-drop b.count b.requests

-- clients that are alike both refuse a send, or both send it with the same id and are alike afterwards, where the oracle client's
-- counts are in order: no more were sent at its last start than are settled, and no more are settled than were sent
same_send : {Q : Type 0} (a : ById Q) (b : ByNumber Q) (target : ℕ) (call : Q) (deadline : ℕ) (full : Bool) → b.since ≤ b.count
    → b.count ≤ length b.requests → AreAlike a b
    → SameSend (send_unless_full a target call deadline full) (number_send b target call deadline full)
same_send {Q} a b target call deadline true h1 h2 h = tt
same_send {Q} a b target call deadline false h1 h2 h =
    let p : Pending Q = pending_of target call deadline in
    record {
      id = h.next;
      client = record {
        window = ap (λ w. w ++ p ∷ []) h.window ∙ sym (drop-append-le b.count b.requests (p ∷ []) h2);
        next = omega (arith, h.next, length_push b.requests p, h1, h2);
      };
    }

-- in a list of requests: expiring all but the first k, and then dropping the first k, gives the same as dropping the first k and
-- then expiring the rest
drop_expired : {Q : Type 0} (now k : ℕ) (ps : List (Pending Q)) → map (expired now) (drop k ps) ≡ drop k (expired_from now k ps)
drop_expired now zero ps = refl
drop_expired now (suc k) [] = refl
drop_expired now (suc k) (p ∷ ps) = drop_expired now k ps

module _ {Q State : Type 0} (width : ℕ) (narrow : width ≤ 7) (ends : Ends Q State) (Good : State → Type 0) where
  -- the two worlds have the same wire, and clients that are alike
  pub record Agree (a : World Q (ById Q) State) (b : World Q (ByNumber Q) State) : Type 0 where
    pub wire : a.wire ≡ b.wire
    pub client : AreAlike a.client b.client

  -- where the clients are alike, and the oracle client's counts and the reply x in flight are as in a sound world, x settles the
  -- same for both and leaves them alike, whether its request is settled already (`old` true) or not
  same_reply : (a : ById Q) (b : ByNumber Q) (x : Numbered (List ℕ)) (old : Bool) (is_old : ltb x.number b.count ≡ old) (begun : b.since ≤ b.count)
      (within : b.count ≤ length b.requests) (few : length b.requests ≤ b.count + width) (rising : b.count ≤ x.number + 1)
      (coming : IsComing width ends Good b.since (length b.requests) x) (alike : AreAlike a b)
      → SameSettled (hears a x.line (Some ((x.number - b.since) % 8))) (number_reply b x old)
  same_reply a b x true t h1 h2 h3 h4 coming h =
      let lt : x.number < b.count = ltb-true _ _ t in
      let n = waiting_count a b h in
      let k : place a.next (length a.waiting) ((x.number - b.since) % 8) ≡ 7 =
      ap (λ v. place v (length a.waiting) ((x.number - b.since) % 8)) h.next ∙ ap (λ v. place ((length b.requests - b.since) % 8) v ((x.number - b.since) % 8)) n
      ∙ place_before b.since b.count (length b.requests) x.number coming.recent (omega arith) h2 (omega arith) in
      let far : ltb (place a.next (length a.waiting) ((x.number - b.since) % 8)) (length a.waiting) ≡ false = le-ltb _ _ (omega (arith, k, n, h3, h2)) in
      subst (λ v. SameSettled (settles_at a x.line (place a.next (length a.waiting) ((x.number - b.since) % 8)) v) (number_reply b x true)) (sym far)
      (record { settlements = refl; client = h })
  same_reply a b x false t h1 h2 h3 h4 coming h =
      let ge : b.count ≤ x.number = ltb-false _ _ t in
      let lt : x.number < length b.requests = coming.sent in
      let n = waiting_count a b h in
      let k : place a.next (length a.waiting) ((x.number - b.since) % 8) ≡ x.number - b.count =
      ap (λ v. place v (length a.waiting) ((x.number - b.since) % 8)) h.next ∙ ap (λ v. place ((length b.requests - b.since) % 8) v ((x.number - b.since) % 8)) n
      ∙ place_within b.since b.count (length b.requests) x.number h1 ge lt (omega arith) in
      let near : ltb (x.number - b.count) (length a.waiting) ≡ true = lt-ltb _ _ (omega (arith, n, ge, lt)) in
      subst (λ v. SameSettled (settles_at a x.line v (ltb v (length a.waiting))) (number_reply b x false)) (sym k)
      (subst (λ v. SameSettled (settles_at a x.line (x.number - b.count) v) (number_reply b x false)) (sym near)
      (record {
        settlements = ap (λ ps. settle (x.number - b.count) x.line ps) h.window;
        client = record {
          window = ap (λ ps. drop (x.number - b.count + 1) ps) h.window ∙ drop-drop (x.number - b.count + 1) b.count b.requests
              ∙ ap (λ m. drop m b.requests) (let e : b.count + (x.number - b.count + 1) ≡ x.number + 1 = omega (arith, ge) in e);
          next = h.next;
        };
      }))

  -- worlds that agree still agree after a send that both clients refused, or that both sent with the same id and that left them
  -- alike
  same_requested : (written : ℕ → Q → List ℕ) (a : World Q (ById Q) State) (b : World Q (ByNumber Q) State) (target : ℕ) (call : Q) (o : Option (Sending (ById Q))) (o' : Option (Sending (ByNumber Q)))
      → SameSend o o' → Agree a b → Agree (requested written a target call o) (requested written b target call o')
  same_requested written a b target call None None s h = record { wire = ap (λ (w : Wire Q State). record w { refused = w.refused + 1 }) h.wire; client = h.client }
  same_requested written a b target call (Some x) (Some y) s h =
      record {
        wire =
            ap₂ (λ (w : Wire Q State) (id : ℕ). record w {
              sent = w.sent ++ record { target = target; call = call; line = written id call } ∷ [];
              up = w.up ++ record { number = length w.sent; line = record { id = id; call = call } } ∷ [];
            }) h.wire s.id;
        client = s.client;
      }
  same_requested written a b target call None (Some y) s h = absurd s
  same_requested written a b target call (Some x) None s h = absurd s

  -- where two wires are equal, and both clients settled the same and are alike, the two worlds agree
  same_booked : (v w : Wire Q State) (x : Settled Q (ById Q)) (y : Settled Q (ByNumber Q)) → v ≡ w → SameSettled x y → Agree (with_settled v x) (with_settled w y)
  same_booked v w x y e s =
      record { wire = ap₂ (λ (u : Wire Q State) (l : List _). record u { settled = u.settled ++ l }) e s.settlements; client = s.client }

  -- a delivery to the client, also while no reply is in flight, keeps worlds in agreement where
  -- that of the oracle client is sound
  agree_down : (a : World Q (ById Q) State) (b : World Q (ByNumber Q) State) (q : List (Numbered (List ℕ))) → b.wire.down ≡ q → Sound width ends Good b → Agree a b
      → Agree (down_delivered (by_ids width ends) a q) (down_delivered (by_numbers width) b q)
  agree_down a b [] e s h = record { wire = ap idle h.wire; client = h.client }
  agree_down a b (x ∷ rest) e s h =
      let c = b.client in
      let coming = (subst (λ q. AllByRecursion (IsComing width ends Good c.since (length c.requests)) q) e s.coming).0 in
      let order = (subst (λ q. Rising c.count (numbers q ++ numbers b.wire.up)) e s.order).0 in
      same_booked _ _ _ _ (ap (λ (w : Wire Q State). record w { down = rest }) h.wire)
      (subst (λ o. SameSettled (hears a.client x.line o) (number_reply c x (ltb x.number c.count))) (sym coming.id)
      (same_reply a.client c x (ltb x.number c.count) refl s.begun s.within s.few order coming h.client))

  -- a moment keeps clients alike
  agree_expire : (now : ℕ) (a : ById Q) (b : ByNumber Q) → AreAlike a b → AreAlike ((by_ids width ends).expire a now) ((by_numbers width).expire b now)
  agree_expire now a b h =
      record {
        window = ap (λ ps. map (expired now) ps) h.window ∙ drop_expired now b.count b.requests;
        next = h.next ∙ ap (λ n. (n - b.since) % 8) (sym (length_expired now b.count b.requests));
      }

  -- where the clients are alike, a restart of the client settles the same for both and leaves them alike
  agree_lost : (a : ById Q) (b : ByNumber Q) → AreAlike a b → SameSettled ((by_ids width ends).restart a) ((by_numbers width).restart b)
  agree_lost a b h =
      record {
        settlements = ap (λ ps. map lost ps) h.window;
        client = record { window = sym (drop_all (length b.requests) b.requests (omega arith)); next = omega arith };
      }

  -- a restart of the client keeps worlds in agreement
  agree_restart_client : (a : World Q (ById Q) State) (b : World Q (ByNumber Q) State) (up : List (Numbered (Request Q))) (down : List (Numbered (List ℕ)))
      → Agree a b
      → Agree (client_restarted ends (by_ids width ends) a up down) (client_restarted ends (by_numbers width) b up down)
  agree_restart_client a b [] [] h = same_booked _ _ _ _ (ap (λ w. started ends w ends.joint) h.wire) (agree_lost a.client b.client h.client)
  agree_restart_client a b [] (y ∷ down) h = record { wire = ap idle h.wire; client = h.client }
  agree_restart_client a b (x ∷ up) down h = record { wire = ap idle h.wire; client = h.client }

  -- worlds that agree still agree once the same function f was applied to the wire of each, and neither client changed
  agree_wire : (f : Wire Q State → Wire Q State) (a : World Q (ById Q) State) (b : World Q (ByNumber Q) State) → Agree a b
      → Agree (on_wire a (f a.wire)) (on_wire b (f b.wire))
  agree_wire f a b h = record { wire = ap f h.wire; client = h.client }

  -- each step keeps worlds in agreement where that of the oracle client is sound
  pub agrees : (written : ℕ → Q → List ℕ) (a : World Q (ById Q) State) (b : World Q (ByNumber Q) State) (e : Step Q) → Sound width ends Good b → Agree a b
      → Agree (happens written ends (by_ids width ends) a e) (happens written ends (by_numbers width) b e)
  agrees written a b (Send target call deadline) s h =
      same_requested written a b target call _ _
      (subst (λ n. SameSend (send_unless_full a.client target call deadline (eqb n width))
      (number_send b.client target call deadline (eqb (length b.client.requests - b.client.count) width))) (sym (waiting_count a.client b.client h.client))
      (same_send a.client b.client target call deadline (eqb (length b.client.requests - b.client.count) width) s.begun s.within h.client)) h
  agrees written a b Up_deliver s h = agree_wire (λ w. up_delivered ends w w.up) a b h
  agrees written a b (Up_lose k) s h = agree_wire (λ w. with_up w (without k w.up) (ltb k (length w.up))) a b h
  agrees written a b (Up_repeat k) s h = agree_wire (λ w. with_up w (doubled k w.up) (ltb k (length w.up))) a b h
  agrees written a b Down_deliver s h =
      subst (λ q. Agree (down_delivered (by_ids width ends) a q) (down_delivered (by_numbers width) b b.wire.down)) (sym (ap (λ (w : Wire Q State). w.down) h.wire))
      (agree_down a b b.wire.down refl s h)
  agrees written a b (Down_lose k) s h = agree_wire (λ w. with_down w (without k w.down) (ltb k (length w.down))) a b h
  agrees written a b (Down_repeat k) s h = agree_wire (λ w. with_down w (doubled k w.down) (ltb k (length w.down))) a b h
  agrees written a b (Expire now) s h = record { wire = h.wire; client = agree_expire now a.client b.client h.client }
  agrees written a b Restart_client s h =
      subst (λ (w : Wire Q State). Agree (client_restarted ends (by_ids width ends) a w.up w.down) (client_restarted ends (by_numbers width) b b.wire.up b.wire.down)) (sym h.wire)
      (agree_restart_client a b b.wire.up b.wire.down h)
  agrees written a b Restart_instrument s h = agree_wire (λ w. instrument_restarted ends w w.up w.down) a b h
  agrees written a b Nothing s h = agree_wire idle a b h

  -- a run keeps worlds in agreement where that of the oracle client is sound before it
  pub agrees_all : (written : ℕ → Q → List ℕ) → IsExchange ends Good
      → (es : List (Step Q)) (a : World Q (ById Q) State) (b : World Q (ByNumber Q) State) → Sound width ends Good b → Agree a b
      → Agree (run written ends (by_ids width ends) es a) (run written ends (by_numbers width) es b)
  agrees_all written ex [] a b s h = h
  agrees_all written ex (e ∷ es) a b s h = agrees_all written ex es _ _ (sound_step width ends Good written ex b e s) (agrees written a b e s h)

  -- the worlds before the first event agree
  agree_open : (state : State) → Agree (ids_open state) (numbers_open state)
  agree_open state = record { wire = refl; client = record { window = refl; next = omega arith } }

  -- the wire of a sound world keeps the order of the line, as `IsOrderly` has it
  orderly : (w : World Q (ByNumber Q) State) → Sound width ends Good w → IsOrderly width w.wire
  orderly w s =
      record {
        settled = omega (arith, s.booked, s.counted, s.within);
        few = omega (arith, s.booked, s.counted, s.few);
        order = subst (λ n. Rising n (numbers_in_flight w.wire)) (sym s.booked) s.order;
        sent =
            subst (λ n. AllByRecursion (λ m. m < n) (numbers_in_flight w.wire)) s.counted
            (all_sent width ends Good w.client.since (length w.client.requests) w.wire.down w.wire.up s.coming s.going);
      }

module _ {State : Type 0} (width : ℕ) (narrow : width ≤ 7) (ends : calls.Ends State) (Good : State → Type 0) where
  -- from a good state, the run by ids and the run by numbers of the same steps end in worlds that agree
  pub agree_at : IsExchange ends Good → (es : List calls.Step) (state : State) → Good state
      → Agree width narrow ends Good (run_by_ids width ends es state) (run_by_numbers width ends es state)
  agree_at ex es state g =
      agrees_all width narrow ends Good call_line ex es (ids_open state) (numbers_open state) (sound_open width ends Good state g) (agree_open width narrow ends Good state)

  -- the run by numbers from a good state ends in a sound world
  pub sound_at : IsExchange ends Good → (es : List calls.Step) (state : State) → Good state → Sound width ends Good (run_by_numbers width ends es state)
  sound_at ex es state g = sound_all width ends Good call_line ex es (numbers_open state) (sound_open width ends Good state g)

  -- from a good state, the run by ids and the run by numbers of the same steps end with the same wire
  pub same_wire : IsExchange ends Good → (es : List calls.Step) (state : State) → Good state
      → (run_by_ids width ends es state).wire ≡ (run_by_numbers width ends es state).wire
  same_wire ex es state g = (agree_at ex es state g).wire

  -- the run by ids from a good state ends with a wire that keeps the order of the line, as `IsOrderly` has it
  pub orderly_at : IsExchange ends Good → (es : List calls.Step) (state : State) → Good state → IsOrderly width (run_by_ids width ends es state).wire
  orderly_at ex es state g = subst (λ w. IsOrderly width w) (sym (same_wire ex es state g)) (orderly width narrow ends Good _ (sound_at ex es state g))
