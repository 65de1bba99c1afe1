-- A step of the line alone leaves the client, and the lists of what was sent and settled, as they were.
use Rattle.gc_theorems.proofs.Common.{◌≡◌, ℕ, Bool, true, false, List, [], ◌∷◌, length, ltb, refl, Request, Numbered, Ends, Rule, Step, Up_deliver, Up_lose, Up_repeat, Down_lose, Down_repeat, Nothing, World, without, doubled, up_delivered, with_up, with_down, on_wire, happens, IsLineStep}

module _ {Client State : Type 0} where
  -- the worlds w and v have the same client, and the same requests were sent and settled in both
  pub record HaveTheSameClient (w v : World Client State) : Type 0 where
    pub sent : v.wire.sent ≡ w.wire.sent
    pub settled : v.wire.settled ≡ w.wire.settled
    pub client : v.client ≡ w.client

  module _ (ends : Ends State) (rule : Rule Client) (w : World Client State) where
    -- `HaveTheSameClient` holds before and after the front request, if there is one, reaches the instrument
    same_up : (q : List (Numbered Request)) → HaveTheSameClient w (on_wire w (up_delivered ends w.wire q))
    same_up [] = record { sent = refl; settled = refl; client = refl }
    same_up (x ∷ rest) = record { sent = refl; settled = refl; client = refl }

    -- `HaveTheSameClient` holds before and after the requests in flight change, or (`b` is false) don't
    same_with_up : (q : List (Numbered Request)) (b : Bool) → HaveTheSameClient w (on_wire w (with_up w.wire q b))
    same_with_up q true = record { sent = refl; settled = refl; client = refl }
    same_with_up q false = record { sent = refl; settled = refl; client = refl }

    -- `HaveTheSameClient` holds before and after the replies in flight change, or (`b` is false) don't
    same_with_down : (q : List (Numbered (List ℕ))) (b : Bool) → HaveTheSameClient w (on_wire w (with_down w.wire q b))
    same_with_down q true = record { sent = refl; settled = refl; client = refl }
    same_with_down q false = record { sent = refl; settled = refl; client = refl }

    -- `HaveTheSameClient` holds before and after a step of the line alone
    pub same_over_line : (step : Step) → IsLineStep step → HaveTheSameClient w (happens ends rule w step)
    same_over_line Up_deliver p = same_up w.wire.up
    same_over_line (Up_lose k) p = same_with_up (without k w.wire.up) (ltb k (length w.wire.up))
    same_over_line (Up_repeat k) p = same_with_up (doubled k w.wire.up) (ltb k (length w.wire.up))
    same_over_line (Down_lose k) p = same_with_down (without k w.wire.down) (ltb k (length w.wire.down))
    same_over_line (Down_repeat k) p = same_with_down (doubled k w.wire.down) (ltb k (length w.wire.down))
    same_over_line Nothing p = record { sent = refl; settled = refl; client = refl }
    same_over_line other p = absurd p
