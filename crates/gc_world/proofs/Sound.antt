-- The invariant of the run by numbers: what holds of the client and of the line in every world of it. A world of which it holds
-- is *sound*.
use Rattle.gc_world.proofs.Common.{◌≡◌, ℕ, zero, suc, ◌+◌, ◌-◌, ◌%◌, ◌<◌, ◌≤◌, Bool, true, false, List, [], ◌∷◌, ◌++◌, length, map, drop, Some, refl, sym, ◌∙◌, ap, subst, arith, length-append, length-drop, ltb, eqb, AllByRecursion, length-map, ltb-false, eqb-false, all_append, every_weaker as all_on, Pending, pending_of, expired, lost, Sending, length-settle, started, with_settled, ByNumber, number_send, number_reply, expired_from, by_numbers, numbers_open, IsExchange, Rising, numbers, same_Some}
use Rattle.gc_world.specs.Worlds.{Request, Numbered, Ends, Step, World, without, doubled, replied, on_wire, requested, happens, run}
use Rattle.gc_world.proofs.Rows.{each_number, each_without, each_doubled, rising_lower, rising_without, rising_doubled, rising_without_behind, rising_doubled_behind, rising_moved, rising_push}
use Rattle.gc_world.proofs.Stable.{IsStable, stable, stable_all}

-- expiring all but the first k of a list of requests leaves as many requests as before
pub length_expired : {Q : Type 0} (now k : ℕ) (ps : List (Pending Q)) → length (expired_from now k ps) ≡ length ps
length_expired now zero ps = length-map ps (expired now)
length_expired now (suc k) [] = refl
length_expired now (suc k) (p ∷ ps) = ap suc (length_expired now k ps)

-- a request in flight: it was sent since the client's last start, and its id is how many requests were sent from
-- that start on before it, modulo 8
pub record IsGoing {Q : Type 0} (since total : ℕ) (x : Numbered (Request Q)) : Type 0 where
  pub recent : since ≤ x.number
  pub sent : x.number < total
  pub id : x.line.id ≡ (x.number - since) % 8

module _ {Q State : Type 0} (width : ℕ) (ends : Ends Q State) (Good : State → Type 0) where
  -- a reply in flight: its request was sent since the client's last start, and it is heard with the id that is how many requests
  -- were sent from that start on before its request, modulo 8
  pub record IsComing (since total : ℕ) (x : Numbered (List ℕ)) : Type 0 where
    pub recent : since ≤ x.number
    pub sent : x.number < total
    pub id : ends.heard x.line ≡ Some ((x.number - since) % 8)

  -- the invariant. The instrument's state is good. The client has as many requests as were sent, and counts as settled as many as
  -- there are settlements. No more had been sent at its last start than are settled, no more are settled than were sent, and at
  -- most `width` aren't settled. The numbers in flight, downward and then upward, never fall, and none is below the count of
  -- settled ones less one (`Rising`); and each line in flight is as `IsGoing` or `IsComing` says
  pub record IsSound (c : ByNumber Q) (sent settled : ℕ) (down : List (Numbered (List ℕ))) (up : List (Numbered (Request Q))) (state : State) : Type 0 where
    pub good : Good state
    pub counted : length c.requests ≡ sent
    pub booked : settled ≡ c.count
    pub begun : c.since ≤ c.count
    pub within : c.count ≤ length c.requests
    pub few : length c.requests ≤ c.count + width
    pub order : Rising c.count (numbers down ++ numbers up)
    pub going : AllByRecursion (IsGoing c.since (length c.requests)) up
    pub coming : AllByRecursion (IsComing c.since (length c.requests)) down

  -- `IsSound` of a world
  abbrev pub Sound : World Q (ByNumber Q) State → Type 0
  Sound w = IsSound w.client (length w.wire.sent) (length w.wire.settled) w.wire.down w.wire.up w.wire.state

  -- `IsGoing` still holds of a request when more were sent
  going_more : (since total total' : ℕ) → total ≤ total' → (x : Numbered (Request Q)) → IsGoing since total x → IsGoing since total' x
  going_more since total total' le x h = record { recent = h.recent; sent = omega (arith, h.sent); id = h.id }

  -- `IsComing` still holds of a reply when more requests were sent
  coming_more : (since total total' : ℕ) → total ≤ total' → (x : Numbered (List ℕ)) → IsComing since total x → IsComing since total' x
  coming_more since total total' le x h = record { recent = h.recent; sent = omega (arith, h.sent); id = h.id }

  -- the numbers in flight are those of requests that were sent
  pub all_sent : (since total : ℕ) (down : List (Numbered (List ℕ))) (up : List (Numbered (Request Q))) → AllByRecursion (IsComing since total) down
      → AllByRecursion (IsGoing since total) up → AllByRecursion (λ n. n < total) (numbers down ++ numbers up)
  all_sent since total down up cs gs =
      all_append (λ n. n < total) (numbers down) (numbers up)
      (each_number (λ n. n < total) down (all_on (IsComing since total) (λ x. x.number < total) down (λ x h. h.sent) cs))
      (each_number (λ n. n < total) up (all_on (IsGoing since total) (λ x. x.number < total) up (λ x h. h.sent) gs))

  -- a send that isn't refused keeps a world sound
  sound_sent : (written : ℕ → Q → List ℕ) (w : World Q (ByNumber Q) State) (target : ℕ) (call : Q) (deadline : ℕ) (full : Bool) (x : Sending (ByNumber Q))
      → eqb (length w.client.requests - w.client.count) width ≡ full → number_send w.client target call deadline full ≡ Some x → Sound w
      → Sound (requested written w target call (Some x))
  sound_sent written w target call deadline true x e s h = cc
  sound_sent written w target call deadline false x e s h =
      let c = w.client in
      let total = length c.requests in
      let ne : (total - c.count ≡ width) → ⊥ = eqb-false _ _ e in
      let y : Sending (ByNumber Q) = record { id = (total - c.since) % 8; client = record { count = c.count; requests = c.requests ++ pending_of target call deadline ∷ []; since = c.since } } in
      let sent1 : length (w.wire.sent ++ record { target = target; call = call; line = written y.id call } ∷ []) ≡ length w.wire.sent + 1 = length-append w.wire.sent _ in
      let requests1 : length (c.requests ++ pending_of target call deadline ∷ []) ≡ total + 1 = length-append c.requests _ in
      let done : Sound (requested written w target call (Some y)) = record {
        good = h.good;
        counted = requests1 ∙ ap (λ n. n + 1) h.counted ∙ sym sent1;
        booked = h.booked;
        begun = h.begun;
        within = omega (arith, h.within, requests1);
        few = omega (arith, h.few, h.within, requests1, ne);
        order =
            rising_push c.count (length w.wire.sent) _ (numbers w.wire.down) w.wire.up (omega (arith, h.within, h.counted))
            (subst (λ n. AllByRecursion (λ m. m < n) (numbers w.wire.down ++ numbers w.wire.up)) h.counted (all_sent c.since total w.wire.down w.wire.up h.coming h.going)) h.order;
        going =
            all_append _ w.wire.up _ (all_on _ _ w.wire.up (going_more c.since total _ (omega (arith, requests1))) h.going) (
              record {
                recent = omega (arith, h.begun, h.within, h.counted);
                sent = omega (arith, requests1, h.counted);
                id = ap (λ n. (n - c.since) % 8) h.counted;
              },
              tt,
            );
        coming = all_on _ _ w.wire.down (coming_more c.since total _ (omega (arith, requests1))) h.coming;
      } in
      subst (λ z. Sound (requested written w target call (Some z))) (same_Some _ x s) done

  -- answering the front request as the instrument does keeps a world sound, where `IsExchange` holds of the two ends
  sound_answer : IsExchange ends Good → (w : World Q (ByNumber Q) State) (x : Numbered (Request Q)) (rest : List (Numbered (Request Q)))
      → w.wire.up ≡ x ∷ rest → Sound w
      → Sound (on_wire w (replied w.wire x.number rest (ends.handed w.wire.state x.line.id x.line.call)))
  sound_answer ex w x rest e h =
      let c = w.client in
      let g = subst (λ q. AllByRecursion (IsGoing c.since (length c.requests)) q) e h.going in
      let small : x.line.id < 8 = omega (arith, g.0.id) in
      record {
        good = ex.stays_good w.wire.state x.line.id x.line.call h.good small;
        counted = h.counted;
        booked = h.booked;
        begun = h.begun;
        within = h.within;
        few = h.few;
        order = rising_moved c.count x.number _ w.wire.down (numbers rest) (subst (λ q. Rising c.count (numbers w.wire.down ++ numbers q)) e h.order);
        going = g.1;
        coming =
            all_append _ w.wire.down _ h.coming
            (record { recent = g.0.recent; sent = g.0.sent; id = ex.reads w.wire.state x.line.id x.line.call h.good small ∙ ap Some g.0.id }, tt);
      }

  -- other queues, whose numbers never fall and whose lines are as `IsGoing` and `IsComing` have them, keep a world sound
  sound_queues : (w : World Q (ByNumber Q) State) (down : List (Numbered (List ℕ))) (up : List (Numbered (Request Q)))
      → Rising w.client.count (numbers down ++ numbers up) → AllByRecursion (IsGoing w.client.since (length w.client.requests)) up
      → AllByRecursion (IsComing w.client.since (length w.client.requests)) down → Sound w → Sound (on_wire w (record w.wire { down = down; up = up }))
  sound_queues w down up order going coming h =
      record { good = h.good; counted = h.counted; booked = h.booked; begun = h.begun; within = h.within; few = h.few; order = order; going = going; coming = coming }

  -- delivering the front reply, whether its request is settled already (`old` true) or not, keeps a world sound
  sound_reply : (w : World Q (ByNumber Q) State) (x : Numbered (List ℕ)) (rest : List (Numbered (List ℕ))) (old : Bool) → w.wire.down ≡ x ∷ rest
      → ltb x.number w.client.count ≡ old → Sound w → Sound (with_settled (record w.wire { down = rest }) (number_reply w.client x old))
  sound_reply w x rest true e t h =
      let c = w.client in
      let order = subst (λ q. Rising c.count (numbers q ++ numbers w.wire.up)) e h.order in
      record {
        good = h.good;
        counted = h.counted;
        booked = length-append w.wire.settled [] ∙ omega (arith, h.booked);
        begun = h.begun;
        within = h.within;
        few = h.few;
        order = rising_lower c.count (x.number + 1) (numbers rest ++ numbers w.wire.up) order.0 order.1;
        going = h.going;
        coming = (subst (λ q. AllByRecursion (IsComing c.since (length c.requests)) q) e h.coming).1;
      }
  sound_reply w x rest false e t h =
      let c = w.client in
      let ge : c.count ≤ x.number = ltb-false _ _ t in
      let order = subst (λ q. Rising c.count (numbers q ++ numbers w.wire.up)) e h.order in
      let coming = subst (λ q. AllByRecursion (IsComing c.since (length c.requests)) q) e h.coming in
      let lt : x.number < length c.requests = coming.0.sent in
      let ld : length (drop c.count c.requests) ≡ length c.requests - c.count = length-drop c.count c.requests in
      let ls = length-settle (x.number - c.count) x.line (drop c.count c.requests) (omega (arith, lt, ld, ge)) in
      record {
        good = h.good;
        counted = h.counted;
        booked = length-append w.wire.settled _ ∙ omega (arith, h.booked, ls, ge);
        begun = omega (arith, h.begun, ge);
        within = omega (arith, lt);
        few = omega (arith, h.few, ge);
        order = order.1;
        going = h.going;
        coming = coming.1;
      }

  -- a moment keeps a world sound
  sound_expired : (w : World Q (ByNumber Q) State) (now : ℕ) → Sound w → Sound (record { wire = w.wire; client = (by_numbers width).expire w.client now })
  sound_expired w now h =
      let c = w.client in
      let same = length_expired now c.count c.requests in
      record {
        good = h.good;
        counted = same ∙ h.counted;
        booked = h.booked;
        begun = h.begun;
        within = omega (arith, same, h.within);
        few = omega (arith, same, h.few);
        order = h.order;
        going = subst (λ n. AllByRecursion (IsGoing c.since n) w.wire.up) (sym same) h.going;
        coming = subst (λ n. AllByRecursion (IsComing c.since n) w.wire.down) (sym same) h.coming;
      }

  -- with a start of the instrument (b true) or without one, a sound world stays sound
  sound_started : IsExchange ends Good → (w : World Q (ByNumber Q) State) (b : Bool) → Sound w → Sound (on_wire w (started ends w.wire b))
  sound_started ex w false h = h
  sound_started ex w true h =
      record {
        good = ex.restart_good w.wire.state h.good;
        counted = h.counted;
        booked = h.booked;
        begun = h.begun;
        within = h.within;
        few = h.few;
        order =
            h.order;
        going = h.going;
        coming = h.coming;
      }

  -- settling all that wait as lost, while no line is in flight, keeps a world sound
  sound_lost : (w : World Q (ByNumber Q) State) → w.wire.up ≡ [] → w.wire.down ≡ [] → Sound w → Sound (with_settled w.wire ((by_numbers width).restart w.client))
  sound_lost w eu ed h =
      let c = w.client in
      let total = length c.requests in
      let lm : length (map lost (drop c.count c.requests)) ≡ length (drop c.count c.requests) = length-map (drop c.count c.requests) lost in
      record {
        good = h.good;
        counted = h.counted;
        booked = length-append w.wire.settled _ ∙ omega (arith, h.booked, h.within, length-drop c.count c.requests, lm);
        begun = omega arith;
        within = omega arith;
        few = omega arith;
        order = subst (λ q. Rising total (numbers q ++ numbers w.wire.up)) (sym ed) (subst (λ q. Rising total (numbers q)) (sym eu) tt);
        going = subst (λ q. AllByRecursion (IsGoing total total) q) (sym eu) tt;
        coming = subst (λ q. AllByRecursion (IsComing total total) q) (sym ed) tt;
      }

  -- a restart of the client, with one of the instrument (b true) or without, while no line is in flight, keeps a world sound
  sound_restarted : IsExchange ends Good → (w : World Q (ByNumber Q) State) (b : Bool) → w.wire.up ≡ [] → w.wire.down ≡ [] → Sound w
      → Sound (with_settled (started ends w.wire b) ((by_numbers width).restart w.client))
  sound_restarted ex w false eu ed h = sound_lost w eu ed h
  sound_restarted ex w true eu ed h = sound_lost (on_wire w (started ends w.wire true)) eu ed (sound_started ex w true h)

  -- each elementary change keeps a world sound
  pub keeps : (written : ℕ → Q → List ℕ) → IsExchange ends Good → IsStable written ends (by_numbers width) Sound
  keeps written ex =
      record {
        idles = λ w h. h;
        refuses = λ w h. h;
        sends = λ w target call deadline x e h. sound_sent written w target call deadline (eqb (length w.client.requests - w.client.count) width) x refl e h;
        answers = λ w x rest q h. sound_answer ex w x rest q h;
        loses_up = λ w k h. sound_queues w w.wire.down (without k w.wire.up) (rising_without_behind w.client.count k (numbers w.wire.down) w.wire.up h.order)
            (each_without _ k w.wire.up h.going) h.coming h;
        repeats_up = λ w k h. sound_queues w w.wire.down (doubled k w.wire.up)
            (rising_doubled_behind w.client.count k (numbers w.wire.down) w.wire.up h.order) (each_doubled _ k w.wire.up h.going) h.coming h;
        loses_down = λ w k h. sound_queues w (without k w.wire.down) w.wire.up
            (rising_without w.client.count k w.wire.down (numbers w.wire.up) h.order) h.going (each_without _ k w.wire.down h.coming) h;
        repeats_down = λ w k h. sound_queues w (doubled k w.wire.down) w.wire.up
            (rising_doubled w.client.count k w.wire.down (numbers w.wire.up) h.order) h.going (each_doubled _ k w.wire.down h.coming) h;
        hears = λ w x rest q h. sound_reply w x rest (ltb x.number w.client.count) q refl h;
        expires = λ w now h. sound_expired w now h;
        restarts = λ w u d h. sound_restarted ex w ends.joint u d h;
        starts = λ w u d h. sound_started ex w true h;
      }

  -- each step keeps a world sound
  pub sound_step : (written : ℕ → Q → List ℕ) → IsExchange ends Good → (w : World Q (ByNumber Q) State) (e : Step Q) → Sound w
      → Sound (happens written ends (by_numbers width) w e)
  sound_step written ex w e h = stable written ends (by_numbers width) Sound (keeps written ex) w e h

  -- a run keeps a world sound
  pub sound_all : (written : ℕ → Q → List ℕ) → IsExchange ends Good → (es : List (Step Q)) (w : World Q (ByNumber Q) State) → Sound w
      → Sound (run written ends (by_numbers width) es w)
  sound_all written ex es w h = stable_all written ends (by_numbers width) Sound (keeps written ex) es w h

  -- where the instrument's state is good, the world before the first event is sound
  pub sound_open : (state : State) → Good state → Sound (numbers_open state)
  sound_open state g = record { good = g; counted = refl; booked = refl; begun = omega arith; within = omega arith; few = omega arith; order = tt; going = tt; coming = tt }
