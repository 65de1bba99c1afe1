-- What is next of a client on a connection that is ready is one of its choices: what is so of each that may be taken is so of it.
use Rattle.gc_session.proofs.Common.{◌≡◌, ℕ, ◌+◌, ◌<◌, ◌&&◌, true, false, not, nat_eq, nat_lt, and_parts, cond_both, eqb-true, ltb-true, not-true, WINDOW, Exchange, has_room, is_near, may_ask, is_line_dead, next_waiting, next_room, next_flush, next_to_send, next_synchronizing}
use Rattle.gc_session.specs.declared.choices.Choices.{Choices}
use Rattle.gc_session.specs.declared.load.Load.{Load}

-- where there is room, each of its tests holds
pub room_of : (width all current : ℕ) (x : Exchange) → has_room width all current x ≡ true
    → (current < width) × (all + x.last_ended < WINDOW) × (x.doubtful ≡ false) × (x.hold ≡ 0)
room_of width all current x e =
    let free = and_parts (nat_lt current width && nat_lt (all + x.last_ended) WINDOW && not x.doubtful) (nat_eq x.hold 0) e in
    let both = and_parts (nat_lt current width && nat_lt (all + x.last_ended) WINDOW) (not x.doubtful) free.0 in
    let it = and_parts (nat_lt current width) (nat_lt (all + x.last_ended) WINDOW) both.0 in
    (ltb-true current width it.0, ltb-true (all + x.last_ended) WINDOW it.1, not-true x.doubtful both.1, eqb-true x.hold 0 free.1)

module _ {A : Type 0} (choices : Choices A) (load : Load) (x : Exchange) (Claim : A → Type 0) (close : Claim choices.close) where
  module _ (renew : Claim choices.renew) (read : Claim choices.read) where
    -- if nothing may be sent
    pub waiting_chosen : Claim (next_waiting choices load x)
    waiting_chosen = cond_both (is_line_dead load x) _ _ Claim (λ _. close) (λ _. cond_both (nat_eq load.current 0) _ _ Claim (λ _. renew) (λ _. read))

    -- if a request may be sent
    pub room_chosen : (send : A) → (has_room load.width load.all load.current x ≡ true → Claim send) → Claim (next_room choices load x send)
    room_chosen send sent =
        let room = has_room load.width load.all load.current x in
        cond_both (room && not (is_line_dead load x)) _ _ Claim (λ e. sent (and_parts room (not (is_line_dead load x)) e).0) (λ _. waiting_chosen)

    module _ (flush : has_room load.width load.all load.current x ≡ true → Claim choices.flush) where
      -- if nothing but a null procedure may be sent
      pub flush_chosen : Claim (next_flush choices load x)
      flush_chosen = cond_both (nat_eq load.current 0) _ _ Claim (λ _. room_chosen choices.flush flush) (λ _. waiting_chosen)

      -- if a request is to be sent
      pub to_send_chosen : (send : A) → (is_near x ≡ true → has_room load.width load.all load.current x ≡ true → Claim send) → Claim (next_to_send choices load x send)
      to_send_chosen send sent = cond_both (is_near x) _ _ Claim (λ e. room_chosen send (sent e)) (λ _. flush_chosen)

  -- while the client synchronizes
  pub synchronizing_chosen : Claim choices.null → Claim choices.read → Claim (next_synchronizing choices load x)
  synchronizing_chosen null read = cond_both (may_ask load.now x) _ _ Claim (λ _. cond_both (is_line_dead load x) _ _ Claim (λ _. close) (λ _. null)) (λ _. read)
