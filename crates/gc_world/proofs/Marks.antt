-- What the oracle client remembers of one request, until it is settled: whether it had timed out.
use Rattle.gc_world.proofs.Common.{◌≡◌, ℕ, ◌-◌, ◌≤◌, Bool, true, false, List, [], ◌∷◌, length, zero, suc, Some, refl, sym, ◌∙◌, ap, arith, ltb, eqb, slice_get, ltb-false, Call, Pending, pending_of, expired, Request, Numbered, Ends, Step, Send, Up_deliver, Up_lose, Up_repeat, Down_deliver, Down_lose, Down_repeat, Expire, Restart_client, Restart_instrument, Nothing, World, requested, down_delivered, client_restarted, happens, run, call_line, ByNumber, number_send, number_reply, expired_from, by_numbers, IsExchange, none-some, slice_get_within}
use Rattle.gc_world.proofs.Places.{get_map, get_more}
use Rattle.gc_world.proofs.Sound.{Sound, sound_step}

-- what a step makes of a request that waits
abbrev pub touched : Step → Pending Call → Pending Call
touched (Expire now) p = expired now p
touched e p = p

-- what steps make of a request that waits
abbrev pub touched_all : List Step → Pending Call → Pending Call
touched_all [] p = p
touched_all (e ∷ es) p = touched_all es (touched e p)

-- the client d that step e makes of c has settled no fewer requests; and each request of c that d hasn't settled is at the
-- same place in d, changed as `touched` says
pub record IsOnward (e : Step) (c d : ByNumber Call) : Type 0 where
  pub count : c.count ≤ d.count
  pub entries : (n : ℕ) (p : Pending Call) → slice_get c.requests n ≡ Some p → d.count ≤ n → slice_get d.requests n ≡ Some (touched e p)

-- `IsOnward` holds of a step that leaves the client as it is, and touches no request
untouched_onward : (e : Step) (c : ByNumber Call) → ((p : Pending Call) → touched e p ≡ p) → IsOnward e c c
untouched_onward e c t = record { count = omega arith; entries = λ n p h le. h ∙ ap Some (sym (t p)) }

-- where a moment is applied to the requests from place k on, and n is at least k, place n has `expired now p` afterwards if it
-- had p before
expired_at : (now k : ℕ) (ps : List (Pending Call)) (n : ℕ) (p : Pending Call) → k ≤ n → slice_get ps n ≡ Some p
    → slice_get (expired_from now k ps) n ≡ Some (expired now p)
expired_at now zero ps n p le h = get_map (expired now) ps n p h
expired_at now (suc k) [] n p le h = absurd (none-some p h)
expired_at now (suc k) (q ∷ ps) zero p le h = absurd (omega (arith, le))
expired_at now (suc k) (q ∷ ps) (suc n) p le h = expired_at now k ps n p (omega (arith, le)) h

-- `IsOnward` holds where the reply x comes to the client, be its request settled already (`old`) or not
onward_reply : (c : ByNumber Call) (x : Numbered (List ℕ)) (old : Bool) → ltb x.number c.count ≡ old → IsOnward Down_deliver c (number_reply c x old).client
onward_reply c x true t = untouched_onward Down_deliver c (λ p. refl)
onward_reply c x false t = record { count = omega (arith, ltb-false _ _ t); entries = λ n p h le. h }

module _ {State : Type 0} (width : ℕ) (ends : Ends State) where
  -- `IsOnward` holds of a send
  onward_send : (w : World (ByNumber Call) State) (target : ℕ) (call : Call) (deadline : ℕ) (full : Bool)
      → IsOnward (Send target call deadline) w.client (requested w target call (number_send w.client target call deadline full)).client
  onward_send w target call deadline true = untouched_onward (Send target call deadline) w.client (λ p. refl)
  onward_send w target call deadline false =
      record { count = omega arith; entries = λ n p h le. get_more w.client.requests (pending_of target call deadline ∷ []) n p h }

  -- `IsOnward` holds of a delivery to the client
  onward_down : (w : World (ByNumber Call) State) (q : List (Numbered (List ℕ))) → IsOnward Down_deliver w.client (down_delivered (by_numbers width) w q).client
  onward_down w [] = untouched_onward Down_deliver w.client (λ p. refl)
  onward_down w (x ∷ rest) = onward_reply w.client x (ltb x.number w.client.count) refl

  -- `IsOnward` holds of a restart of the client, which has settled no more requests than were sent
  onward_restart : (w : World (ByNumber Call) State) (up : List (Numbered Request)) (down : List (Numbered (List ℕ))) → w.client.count ≤ length w.client.requests
      → IsOnward Restart_client w.client (client_restarted ends (by_numbers width) w up down).client
  onward_restart w [] [] within =
      record { count = within; entries = λ n p h le. absurd (omega (arith, slice_get_within w.client.requests n p h, le)) }
  onward_restart w [] (y ∷ down) within = untouched_onward Restart_client w.client (λ p. refl)
  onward_restart w (x ∷ up) down within = untouched_onward Restart_client w.client (λ p. refl)

  -- `IsOnward` holds of each step, where the client has settled no more requests than were sent
  onward : (w : World (ByNumber Call) State) (e : Step) → w.client.count ≤ length w.client.requests
      → IsOnward e w.client (happens ends (by_numbers width) w e).client
  onward w (Send target call deadline) within = onward_send w target call deadline (eqb (length w.client.requests - w.client.count) width)
  onward w Up_deliver within = untouched_onward Up_deliver w.client (λ p. refl)
  onward w (Up_lose k) within = untouched_onward (Up_lose k) w.client (λ p. refl)
  onward w (Up_repeat k) within = untouched_onward (Up_repeat k) w.client (λ p. refl)
  onward w Down_deliver within = onward_down w w.wire.down
  onward w (Down_lose k) within = untouched_onward (Down_lose k) w.client (λ p. refl)
  onward w (Down_repeat k) within = untouched_onward (Down_repeat k) w.client (λ p. refl)
  onward w (Expire now) within = record { count = omega arith; entries = λ n p h le. expired_at now w.client.count w.client.requests n p le h }
  onward w Restart_client within = onward_restart w w.wire.up w.wire.down within
  onward w Restart_instrument within = untouched_onward Restart_instrument w.client (λ p. refl)
  onward w Nothing within = untouched_onward Nothing w.client (λ p. refl)

  module _ (Good : State → Type 0) (ex : IsExchange ends Good) where
    -- a run from a sound world leaves no fewer requests settled than before it
    count_grows : (es : List Step) (w : World (ByNumber Call) State) → Sound width ends Good w → w.client.count ≤ (run ends (by_numbers width) es w).client.count
    count_grows [] w s = omega arith
    count_grows (e ∷ es) w s =
        omega (arith, (onward w e s.within).count, count_grows es (happens ends (by_numbers width) w e) (sound_step width ends Good call_line ex w e s))

    -- where the world before a run is sound, its client has p as request n, and request n isn't settled at the end of the run,
    -- the client has as request n at that end what the run's steps, in order, make of p
    pub entry_all : (es : List Step) (w : World (ByNumber Call) State) (n : ℕ) (p : Pending Call) → Sound width ends Good w → slice_get w.client.requests n ≡ Some p
        → (run ends (by_numbers width) es w).client.count ≤ n → slice_get (run ends (by_numbers width) es w).client.requests n ≡ Some (touched_all es p)
    entry_all [] w n p s h le = h
    entry_all (e ∷ es) w n p s h le =
        let v = happens ends (by_numbers width) w e in
        let s1 = sound_step width ends Good call_line ex w e s in
        entry_all es v n (touched e p) s1 ((onward w e s.within).entries n p h (omega (arith, count_grows es v s1, le))) le
