-- A property P of worlds that each elementary change keeps is kept by each step and by each run.
use Rattle.gc_world.proofs.Common.{◌≡◌, ℕ, ◌+◌, Bool, true, false, List, [], ◌∷◌, length, Option, Some, None, refl, ltb, Sending, started, with_settled}
use Rattle.gc_world.specs.Worlds.{Request, Numbered, Ends, Rule, Step, Send, Up_deliver, Up_lose, Up_repeat, Down_deliver, Down_lose, Down_repeat, Expire, Restart_client, Restart_instrument, Nothing, World, without, doubled, idle, replied, up_delivered, with_up, with_down, instrument_restarted, on_wire, requested, down_delivered, client_restarted, happens, run}

module _ {Q Client State : Type 0} (written : ℕ → Q → List ℕ) (ends : Ends Q State) (rule : Rule Q Client) (P : World Q Client State → Type 0) where
  -- each elementary change of a world keeps P: an idle event, a refused send, a send, a reply of the instrument, a loss and
  -- a repeat in either queue, a reply that the client hears, a moment, and with no line in flight a restart of the client
  -- and of the instrument
  pub record IsStable : Type 0 where
    pub idles : (w : World Q Client State) → P w → P (on_wire w (idle w.wire))
    pub refuses : (w : World Q Client State) → P w → P (on_wire w (record w.wire { refused = w.wire.refused + 1 }))
    pub sends : (w : World Q Client State) (target : ℕ) (call : Q) (deadline : ℕ) (x : Sending Client) → rule.send w.client target call deadline ≡ Some x → P w
        → P (requested written w target call (Some x))
    pub answers : (w : World Q Client State) (x : Numbered (Request Q)) (rest : List (Numbered (Request Q))) → w.wire.up ≡ x ∷ rest → P w
        → P (on_wire w (replied w.wire x.number rest (ends.handed w.wire.state x.line.id x.line.call)))
    pub loses_up : (w : World Q Client State) (k : ℕ) → P w → P (on_wire w (record w.wire { up = without k w.wire.up }))
    pub repeats_up : (w : World Q Client State) (k : ℕ) → P w → P (on_wire w (record w.wire { up = doubled k w.wire.up }))
    pub loses_down : (w : World Q Client State) (k : ℕ) → P w → P (on_wire w (record w.wire { down = without k w.wire.down }))
    pub repeats_down : (w : World Q Client State) (k : ℕ) → P w → P (on_wire w (record w.wire { down = doubled k w.wire.down }))
    pub hears : (w : World Q Client State) (x : Numbered (List ℕ)) (rest : List (Numbered (List ℕ))) → w.wire.down ≡ x ∷ rest → P w
        → P (with_settled (record w.wire { down = rest }) (rule.reply w.client x))
    pub expires : (w : World Q Client State) (now : ℕ) → P w → P (record { wire = w.wire; client = rule.expire w.client now })
    pub restarts : (w : World Q Client State) → w.wire.up ≡ [] → w.wire.down ≡ [] → P w → P (with_settled (started ends w.wire ends.joint) (rule.restart w.client))
    pub starts : (w : World Q Client State) → w.wire.up ≡ [] → w.wire.down ≡ [] → P w → P (on_wire w (started ends w.wire true))

  module _ (st : IsStable) where
    -- a send keeps P, refused or not
    at_send : (w : World Q Client State) (target : ℕ) (call : Q) (deadline : ℕ) (o : Option (Sending Client)) → rule.send w.client target call deadline ≡ o → P w
        → P (requested written w target call o)
    at_send w target call deadline None e h = st.refuses w h
    at_send w target call deadline (Some x) e h = st.sends w target call deadline x e h

    -- a delivery to the instrument keeps P
    at_up : (w : World Q Client State) (q : List (Numbered (Request Q))) → w.wire.up ≡ q → P w → P (on_wire w (up_delivered ends w.wire q))
    at_up w [] e h = st.idles w h
    at_up w (x ∷ rest) e h = st.answers w x rest e h

    -- where P holds of the world with another upward queue, and of the world as it is, P holds where this queue is put in place
    -- (b true), and where an idle event is counted instead (b false)
    at_with_up : (w : World Q Client State) (up : List (Numbered (Request Q))) (b : Bool) → P (on_wire w (record w.wire { up = up })) → P w
        → P (on_wire w (with_up w.wire up b))
    at_with_up w up false u h = st.idles w h
    at_with_up w up true u h = u

    -- where P holds of the world with another downward queue, and of the world as it is, P holds where this queue is put in place
    -- (b true), and where an idle event is counted instead (b false)
    at_with_down : (w : World Q Client State) (down : List (Numbered (List ℕ))) (b : Bool) → P (on_wire w (record w.wire { down = down })) → P w
        → P (on_wire w (with_down w.wire down b))
    at_with_down w down false u h = st.idles w h
    at_with_down w down true u h = u

    -- a delivery to the client keeps P
    at_down : (w : World Q Client State) (q : List (Numbered (List ℕ))) → w.wire.down ≡ q → P w → P (down_delivered rule w q)
    at_down w [] e h = st.idles w h
    at_down w (x ∷ rest) e h = st.hears w x rest e h

    -- a restart of the client keeps P
    at_restart : (w : World Q Client State) (up : List (Numbered (Request Q))) (down : List (Numbered (List ℕ))) → w.wire.up ≡ up
        → w.wire.down ≡ down → P w → P (client_restarted ends rule w up down)
    at_restart w [] [] u d h = st.restarts w u d h
    at_restart w [] (y ∷ down) u d h = st.idles w h
    at_restart w (x ∷ up) down u d h = st.idles w h

    -- a restart of the instrument keeps P
    at_start : (w : World Q Client State) (up : List (Numbered (Request Q))) (down : List (Numbered (List ℕ))) → w.wire.up ≡ up → w.wire.down ≡ down → P w
        → P (on_wire w (instrument_restarted ends w.wire up down))
    at_start w [] [] u d h = st.starts w u d h
    at_start w [] (y ∷ down) u d h = st.idles w h
    at_start w (x ∷ up) down u d h = st.idles w h

    -- each step keeps P
    pub stable : (w : World Q Client State) (e : Step Q) → P w → P (happens written ends rule w e)
    stable w (Send target call deadline) h = at_send w target call deadline (rule.send w.client target call deadline) refl h
    stable w Up_deliver h = at_up w w.wire.up refl h
    stable w (Up_lose k) h = at_with_up w _ (ltb k (length w.wire.up)) (st.loses_up w k h) h
    stable w (Up_repeat k) h = at_with_up w _ (ltb k (length w.wire.up)) (st.repeats_up w k h) h
    stable w Down_deliver h = at_down w w.wire.down refl h
    stable w (Down_lose k) h = at_with_down w _ (ltb k (length w.wire.down)) (st.loses_down w k h) h
    stable w (Down_repeat k) h = at_with_down w _ (ltb k (length w.wire.down)) (st.repeats_down w k h) h
    stable w (Expire now) h = st.expires w now h
    stable w Restart_client h = at_restart w w.wire.up w.wire.down refl refl h
    stable w Restart_instrument h = at_start w w.wire.up w.wire.down refl refl h
    stable w Nothing h = st.idles w h

    -- each run keeps P
    pub stable_all : (es : List (Step Q)) (w : World Q Client State) → P w → P (run written ends rule es w)
    stable_all [] w h = h
    stable_all (e ∷ es) w h = stable_all es (happens written ends rule w e) (stable w e h)
