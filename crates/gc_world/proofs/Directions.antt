-- What holds in either direction of the line. The two directions are distinguished here, so that other files state each
-- lemma once for both.
use Rattle.gc_world.proofs.Common.{◌≡◌, ◌⊎◌, ℕ, zero, suc, ◌<◌, List, [], ◌∷◌, length, map, drop, inl, inr, refl, ap, arith, Direction, Up, Down, deliver, delivery, bytes, texts, lines, gone, with_front_gone, IsPartOfFront, Streams, passed, left_gone, remaining, flows, Request, Numbered, Ends, Rule, Wire, World, bytes_of, idle, up_delivered, on_wire, down_delivered, happens, run}

module _ {Client State : Type 0} where
  -- What has gone.

  -- once `with_front_gone` set that n bytes of the front line of a direction have gone, n bytes of it have gone
  pub gone_reached : (d : Direction) (v : Streams Client State) (w : World Client State) (n : ℕ) → gone d (with_front_gone d v w n) ≡ n
  gone_reached Up v w n = refl
  gone_reached Down v w n = refl

  -- setting a world and the count of gone bytes twice leaves the second of each
  pub reaches_again : (d : Direction) (v : Streams Client State) (w : World Client State) (n : ℕ) (w' : World Client State) (n' : ℕ)
      → with_front_gone d (with_front_gone d v w n) w' n' ≡ with_front_gone d v w' n'
  reaches_again Up v w n w' n' = refl
  reaches_again Down v w n w' n' = refl

  -- setting a world, and the count of gone bytes that is there already, changes the world alone
  pub unmoved : (d : Direction) (v : Streams Client State) (w : World Client State)
      → with_front_gone d v w (gone d v) ≡ record { world = w; up_gone = v.up_gone; down_gone = v.down_gone }
  unmoved Up v w = refl
  unmoved Down v w = refl

  module _ (ends : Ends State) (rule : Rule Client) where
    -- The events of a direction.

    -- the event that delivers in a direction (`delivery`) leaves the world after the step that delivers in it (`deliver`), and no
    -- byte of the direction's front line gone then
    pub delivered : (d : Direction) (v : Streams Client State) → flows ends rule v (delivery d) ≡ with_front_gone d v (happens ends rule v.world (deliver d)) 0
    delivered Up v = refl
    delivered Down v = refl

    -- the streams after n bytes of a direction, where these lines are in flight
    abbrev pub passing : Direction → Streams Client State → List (List ℕ) → ℕ → Streams Client State
    passing d v q n = with_front_gone d v (run ends rule (passed (deliver d) q (gone d v) n) v.world) (left_gone q (gone d v) n)

    -- the event of n bytes leads to the streams that `passing` gives for the lines in flight
    pub bytes_pass : (d : Direction) (v : Streams Client State) (n : ℕ) → flows ends rule v (bytes d n) ≡ passing d v (lines d v.world.wire) n
    bytes_pass Up v n = refl
    bytes_pass Down v n = refl

    -- where the bytes gone are a part of the front line of q (`IsPartOfFront`), 0 bytes that go over with q as the lines in
    -- flight, or any where no bytes of q's front line are still to go, leave the streams as they were, but with one more idle
    -- event counted
    pub idle_bytes : (d : Direction) (v : Streams Client State) (q : List (List ℕ)) (n : ℕ) {r : ℕ} → r ≡ remaining (gone d v) q → (n ≡ 0) ⊎ (r ≡ 0)
        → IsPartOfFront (gone d v) q
        → passing d v q n ≡ record { world = on_wire v.world (idle v.world.wire); up_gone = v.up_gone; down_gone = v.down_gone }
    idle_bytes d v [] n e none part = unmoved d v (on_wire v.world (idle v.world.wire))
    idle_bytes d v (line ∷ q) zero e none part = unmoved d v (on_wire v.world (idle v.world.wire))
    idle_bytes d v (line ∷ q) (suc n) e (inl z) part = absurd (omega (arith, z))
    idle_bytes d v (line ∷ q) (suc n) e (inr z) part = absurd (omega (arith, e, z, part))

    -- What is in flight after a step.

    -- delivering a request takes the front line out of those in flight upward, if there is one
    up_less : (w : Wire State) (q : List (Numbered Request)) → w.up ≡ q
        → map (λ x. bytes_of x.line) (up_delivered ends w q).up ≡ drop 1 (map (λ x. bytes_of x.line) q)
    up_less w [] e = ap (map (λ x. bytes_of x.line)) e
    up_less w (x ∷ rest) e = refl

    -- delivering a reply takes the front line out of those in flight downward, if there is one
    down_less : (w : World Client State) (q : List (Numbered (List ℕ))) → w.wire.down ≡ q
        → map (λ x. x.line) (down_delivered rule w q).wire.down ≡ drop 1 (map (λ x. x.line) q)
    down_less w [] e = ap (map (λ x. x.line)) e
    down_less w (x ∷ rest) e = refl

    -- a delivery takes the front line out of those in flight in its direction, if there is one
    pub one_less : (d : Direction) (w : World Client State) → texts d (happens ends rule w (deliver d)).wire ≡ drop 1 (texts d w.wire)
    one_less Up w = up_less w.wire w.wire.up refl
    one_less Down w = down_less w w.wire.down refl

    -- delivering a request that is in flight is no idle event
    up_counts : (w : Wire State) (q : List (Numbered Request)) → 0 < length (map (λ x. bytes_of x.line) q)
        → (up_delivered ends w q).idle ≡ w.idle
    up_counts w [] some = absurd (omega (arith, some))
    up_counts w (x ∷ rest) some = refl

    -- delivering a reply that is in flight is no idle event
    down_counts : (w : World Client State) (q : List (Numbered (List ℕ))) → 0 < length (map (λ x. x.line) q) → (down_delivered rule w q).wire.idle ≡ w.wire.idle
    down_counts w [] some = absurd (omega (arith, some))
    down_counts w (x ∷ rest) some = refl

    -- delivering a line that is in flight is no idle event
    pub not_idle : (d : Direction) (w : World Client State) → 0 < length (texts d w.wire) → (happens ends rule w (deliver d)).wire.idle ≡ w.wire.idle
    not_idle Up w some = up_counts w.wire w.wire.up some
    not_idle Down w some = down_counts w w.wire.down some

-- counting an event that is not possible leaves the texts in flight in either direction as they were
pub idle_leaves_texts : {State : Type 0} (d : Direction) (w : Wire State) → texts d (idle w) ≡ texts d w
idle_leaves_texts Up w = refl
idle_leaves_texts Down w = refl
