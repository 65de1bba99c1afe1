-- For the proofs of `stage.rt`, as `Showing`, but with the assemblers and the bytes that have gone: where a stage shows streams
-- (`AreStreamsOf`), and a function has done to its parts what its contract says, the stage shows the streams after the event.
use Rattle.gc_world.proofs.Common.{◌≡◌, ℕ, ◌+◌, ◌<◌, ◌⊎◌, Bool, true, false, cond, List, [], ◌∷◌, length, map, Option, Some, refl, sym, ◌∙◌, ap, subst, ltb, AllByRecursion, ap₂, option_map, slice_get, map-append, StandsFor, IsPlain, with_end, Call, ById, Windowed, Sending, sends, Direction, Up, Down, Made, Report, Sent, Side, Behaviour, ends_with, by_ids, pick, bytes, texts, lines, gone, to_go, with_front_gone, after_cut, SomeInFlight, numbers, made_seen, text_at, IsPartOfFront, IsFlow, Carries, ReplacesQueue, StageParts, after_step, IsSentIn, replies_at, AreOfWorld, AreStreamsOf, after_event, after_bytes, Streams, up_texts, down_texts, is_begun, remaining, Request, Numbered, Wire, World, bytes_of, Step, Send, Up_deliver, Up_lose, Up_repeat, Down_deliver, Down_lose, Down_repeat, Restart_client, Restart_instrument, Nothing, without, doubled, idle, up_delivered, with_up, with_down, on_wire, requested, down_delivered, client_restarted, instrument_restarted, same_Some}
use Rattle.gc_world.proofs.Directions.{bytes_pass, idle_bytes}
use Rattle.gc_world.proofs.Places.{get_seen}
use Rattle.gc_world.proofs.Queues.{without_map, doubled_map}
use Rattle.gc_world.proofs.Contracts.{Sends, HandsToInstrument, HandsToClient, RestartsBoth}
use Rattle.gc_world.proofs.Showing.{counted, shows_idle, shows_up_lose, shows_up_repeat, shows_down_lose, shows_down_repeat, shows_send, shows_up_deliver, shows_down_deliver, shows_restart_client, shows_restart_client_idle, shows_restart_instrument_idle, up_front, down_front}
use Rattle.gc_world.proofs.Streaming.{flow_start, flow_push, flow_without, flow_doubled, cut_short}
use Rattle.gc_world.specs.declared.event.Event.TheVariants as event

-- The queues after a step.

module _ {State : Type 0} (P : List (Numbered Request) → Type 0) where
  -- what holds of the upward queue `us` and of the wire's own holds of the one that `with_up` leaves, whatever b is
  either_up : (w : Wire State) (us : List (Numbered Request)) (b : Bool) → P us → P w.up → P (with_up w us b).up
  either_up w us true u h = u
  either_up w us false u h = h

module _ {State : Type 0} (P : List (Numbered (List ℕ)) → Type 0) where
  -- what holds of the downward queue `ds` and of the wire's own holds of the one that `with_down` leaves, whatever b is
  either_down : (w : Wire State) (ds : List (Numbered (List ℕ))) (b : Bool) → P ds → P w.down → P (with_down w ds b).down
  either_down w ds true d h = d
  either_down w ds false d h = h

-- putting another upward queue in place, or not, leaves the downward queue as it was
with_up_keeps_down : {State : Type 0} (w : Wire State) (us : List (Numbered Request)) (b : Bool) → (with_up w us b).down ≡ w.down
with_up_keeps_down w us true = refl
with_up_keeps_down w us false = refl

-- putting another downward queue in place, or not, leaves the upward queue as it was
with_down_keeps_up : {State : Type 0} (w : Wire State) (ds : List (Numbered (List ℕ))) (b : Bool) → (with_down w ds b).up ≡ w.up
with_down_keeps_up w ds true = refl
with_down_keeps_up w ds false = refl

-- a restart of the client, possible or not, leaves both queues as they were
client_restart_keeps_queues : {State : Type 0} (acts : Behaviour State) (width : ℕ) (w : World (ById Call) State) (us : List (Numbered Request)) (ds : List (Numbered (List ℕ)))
    → ((client_restarted (ends_with acts) (by_ids width (ends_with acts)) w us ds).wire.up ≡ w.wire.up) × ((client_restarted (ends_with acts) (by_ids width (ends_with acts)) w us ds).wire.down ≡ w.wire.down)
client_restart_keeps_queues acts width w [] [] = (refl, refl)
client_restart_keeps_queues acts width w [] (d ∷ ds) = (refl, refl)
client_restart_keeps_queues acts width w (u ∷ us) ds = (refl, refl)

-- a restart of the instrument, possible or not, leaves both queues as they were
instrument_restart_keeps_queues : {State : Type 0} (acts : Behaviour State) (w : Wire State) (us : List (Numbered Request)) (ds : List (Numbered (List ℕ)))
    → ((instrument_restarted (ends_with acts) w us ds).up ≡ w.up) × ((instrument_restarted (ends_with acts) w us ds).down ≡ w.down)
instrument_restart_keeps_queues acts w [] [] = (refl, refl)
instrument_restart_keeps_queues acts w [] (d ∷ ds) = (refl, refl)
instrument_restart_keeps_queues acts w (u ∷ us) ds = (refl, refl)

-- The texts of what is in flight, as the report has them.

-- where each request of the upward queue q is the one that was sent with its number (`IsSentIn`), the numbers of q name the
-- requests' texts in the report
names_up : {State : Type 0} (r : Report State) (q : List (Numbered Request)) → AllByRecursion (IsSentIn r.sent) q → map (text_at Up r) (numbers q) ≡ map Some (map (λ x. bytes_of x.line) q)
names_up r [] h = refl
names_up r (x ∷ xs) h =
    ap₂ (λ (o : Option (List ℕ)) l. o ∷ l) (ap (option_map (λ (q : Sent). q.line.items)) h.0.found ∙ ap Some h.0.line) (names_up r xs h.1)

-- where places name the replies of the downward queue q (`replies_at`), they name the texts of these replies in the report
names_down : {State : Type 0} (r : Report State) (places : List ℕ) (q : List (Numbered (List ℕ))) → replies_at r.made places ≡ map Some q
    → map (text_at Down r) places ≡ map Some (map (λ x. x.line) q)
names_down r [] [] h = refl
names_down r [] (x ∷ xs) h = cc
names_down r (p ∷ ps) [] h = cc
names_down r (p ∷ ps) (x ∷ xs) h =
    let one : slice_get (map made_seen r.made) p ≡ Some x = cc in
    let others : replies_at r.made ps ≡ map Some xs = cc in
    let m = get_seen made_seen r.made p x one in
    ap₂ (λ (o : Option (List ℕ)) l. o ∷ l) (ap (option_map (λ (e : Made). e.line.items)) m.1 ∙ ap (λ (y : Numbered (List ℕ)). Some y.line) m.2) (names_down r ps xs others)

-- a side of whose front line no byte has gone, with an assembler at the start of a line, carries any plain texts (`IsFlow`)
from_start : (s : Side) (texts : List (List ℕ)) → s.gone ≡ 0 → StandsFor s.assembler [] → AllByRecursion IsPlain texts → IsFlow s.assembler s.gone texts
from_start s texts none stands plain = subst (λ g. IsFlow s.assembler g texts) (sym none) (flow_start s.assembler texts stands plain)

-- what `counted` gives, written as one record for both truth values
counted_is : {State : Type 0} (b : Bool) (r : Report State) → counted b r ≡ record r { idle_events = cond b r.idle_events (r.idle_events + 1) }
counted_is true r = refl
counted_is false r = refl

module _ {State : Type 0} (acts : Behaviour State) (width : ℕ) (s : StageParts State) (v : Streams (ById Call) State) (h : AreStreamsOf width s v) where
  -- the streams with this world, of whose front lines as much has gone as before
  abbrev with_world : World (ById Call) State → Streams (ById Call) State
  with_world w = record { world = w; up_gone = v.up_gone; down_gone = v.down_gone }

  -- the stage with this upward side, and n idle events
  abbrev with_up_side : Side → (n : ℕ) → StageParts State
  with_up_side x n = record s { report = record s.report { idle_events = n }; up = x }

  -- the stage with this downward side, and n idle events
  abbrev with_down_side : Side → (n : ℕ) → StageParts State
  with_down_side x n = record s { report = record s.report { idle_events = n }; down = x }

  -- the count of idle events after an event: as it was if the event was possible (`possible`), else one more
  abbrev idle_after : (possible : Bool) → ℕ
  idle_after b = cond b s.report.idle_events (s.report.idle_events + 1)

  -- how many bytes of a side's front line have gone is how many have gone in its direction
  pub gone_is : (d : Direction) → (pick d s.up s.down).gone ≡ gone d v
  gone_is Up = h.up_is
  gone_is Down = h.down_is

  -- each side carries the texts of its direction
  pub carries : (d : Direction) → Carries d s.report (pick d s.up s.down) (texts d v.world.wire)
  carries Up = record { names = ap (map (text_at Up s.report)) h.lines.up_is ∙ names_up s.report v.world.wire.up h.lines.requests; flow = h.up_flow }
  carries Down = record { names = names_down s.report s.down.queue v.world.wire.down h.lines.down_is; flow = h.down_flow }

  -- not all bytes of the front line of a direction have gone; and where no line is in flight, none has
  pub part : (d : Direction) → IsPartOfFront (gone d v) (lines d v.world.wire)
  part d = subst (λ g. IsPartOfFront g (lines d v.world.wire)) (gone_is d) (carries d).flow.part

  -- where n bytes of a side's front line are still to go, n bytes of its direction's front line are
  pub left_is : (d : Direction) (n : ℕ) → n ≡ remaining (pick d s.up s.down).gone (map with_end (texts d v.world.wire))
      → n ≡ to_go d v
  left_is d n e = e ∙ ap (λ g. remaining g (lines d v.world.wire)) (gone_is d)

  -- bytes that don't complete the front line of a direction don't complete that of its side
  pub more_left : (d : Direction) (n : ℕ) → n < to_go d v
      → n < remaining (pick d s.up s.down).gone (map with_end (texts d v.world.wire))
  more_left d n lt = subst (λ g. n < remaining g (lines d v.world.wire)) (sym (gone_is d)) lt

  -- the number at the front of the upward queue is that of a request in the report
  pub front_request : (n : ℕ) (rest : List ℕ) → s.up.queue ≡ n ∷ rest → (request : Sent) × (slice_get s.report.sent n ≡ Some request)
  front_request n rest e =
      let f = up_front acts width s.report s.up.queue s.down.queue s.client v.world h.lines n rest e in
      let sound = subst (λ q. AllByRecursion (IsSentIn s.report.sent) q) f.2 h.lines.requests in
      (sound.0.request, ap (slice_get s.report.sent) (sym f.3) ∙ sound.0.found)

  -- the place at the front of the downward queue is that of a reply in the report
  pub front_reply : (p : ℕ) (rest : List ℕ) → s.down.queue ≡ p ∷ rest → (reply : Made) × (slice_get s.report.made p ≡ Some reply)
  front_reply p rest e =
      let f = down_front acts width s.report s.up.queue s.down.queue s.client v.world h.lines p rest e in
      let m = get_seen made_seen s.report.made p f.0 f.3 in
      (m.0, m.1)

  -- where the stage's queues stay, the report r' and the client c' with these queues are those of the world w, and w has the same
  -- lines in flight as before, the stage with r' and c' shows the streams of w, with as much gone
  kept : (r' : Report State) (c' : Windowed Call) (w : World (ById Call) State) → AreOfWorld width r' s.up.queue s.down.queue c' w
      → (w.wire.up ≡ v.world.wire.up) × (w.wire.down ≡ v.world.wire.down)
      → AreStreamsOf width (record s { report = r'; client = c' }) (with_world w)
  kept r' c' w lines same =
      record {
        lines = lines;
        up_is = h.up_is;
        down_is = h.down_is;
        up_flow = subst (λ q. IsFlow s.up.assembler s.up.gone (map (λ x. bytes_of x.line) q)) (sym same.0) h.up_flow;
        down_flow = subst (λ q. IsFlow s.down.assembler s.down.gone (map (λ x. x.line) q)) (sym same.1) h.down_flow;
      }

  -- an event that is not possible is only counted, in the stage as in the streams
  pub nothing : AreStreamsOf width (record s { report = counted false s.report }) (with_world (on_wire v.world (idle v.world.wire)))
  nothing = kept (counted false s.report) s.client (on_wire v.world (idle v.world.wire)) (shows_idle acts width s.report s.up.queue s.down.queue s.client v.world h.lines) (refl, refl)

  -- Losses and repeats.

  -- the world with `us` as the upward queue, if there is a line k; else the event is counted in it as not possible
  abbrev up_replaced : List (Numbered Request) → (k : ℕ) → World (ById Call) State
  up_replaced us k = on_wire v.world (with_up v.world.wire us (ltb k (length v.world.wire.up)))

  -- the world with `ds` as the downward queue, if there is a line k; else the event is counted in it as not possible
  abbrev down_replaced : List (Numbered (List ℕ)) → (k : ℕ) → World (ById Call) State
  down_replaced ds k = on_wire v.world (with_down v.world.wire ds (ltb k (length v.world.wire.down)))

  -- where report and queues show the world `up_replaced us k`, and the upward assembler carries the texts of `us` (`IsFlow`), the
  -- stage shows the streams of that world, with as much gone
  up_queue : (b : Bool) (queue : List ℕ) (us : List (Numbered Request)) (k : ℕ)
      → AreOfWorld width (counted b s.report) queue s.down.queue s.client (up_replaced us k) → IsFlow s.up.assembler s.up.gone (map (λ x. bytes_of x.line) us)
      → AreStreamsOf width (with_up_side (record s.up { queue = queue }) (idle_after b)) (with_world (up_replaced us k))
  up_queue b queue us k lines flow =
      let t = ltb k (length v.world.wire.up) in
      record {
        lines = subst (λ r. AreOfWorld width r queue s.down.queue s.client (on_wire v.world (with_up v.world.wire us t))) (counted_is b s.report) lines;
        up_is = h.up_is;
        down_is = h.down_is;
        up_flow = either_up (λ q. IsFlow s.up.assembler s.up.gone (map (λ x. bytes_of x.line) q)) v.world.wire us t flow h.up_flow;
        down_flow = subst (λ q. IsFlow s.down.assembler s.down.gone (map (λ x. x.line) q)) (sym (with_up_keeps_down v.world.wire us t)) h.down_flow;
      }

  -- where report and queues show the world `down_replaced ds k`, and the downward assembler carries the texts of `ds` (`IsFlow`),
  -- the stage shows the streams of that world, with as much gone
  down_queue : (b : Bool) (queue : List ℕ) (ds : List (Numbered (List ℕ))) (k : ℕ)
      → AreOfWorld width (counted b s.report) s.up.queue queue s.client (down_replaced ds k) → IsFlow s.down.assembler s.down.gone (map (λ x. x.line) ds)
      → AreStreamsOf width (with_down_side (record s.down { queue = queue }) (idle_after b)) (with_world (down_replaced ds k))
  down_queue b queue ds k lines flow =
      let t = ltb k (length v.world.wire.down) in
      record {
        lines = subst (λ r. AreOfWorld width r s.up.queue queue s.client (on_wire v.world (with_down v.world.wire ds t))) (counted_is b s.report) lines;
        up_is = h.up_is;
        down_is = h.down_is;
        up_flow = subst (λ q. IsFlow s.up.assembler s.up.gone (map (λ x. bytes_of x.line) q)) (sym (with_down_keeps_up v.world.wire ds t)) h.up_flow;
        down_flow = either_down (λ q. IsFlow s.down.assembler s.down.gone (map (λ x. x.line) q)) v.world.wire ds t flow h.down_flow;
      }

  -- the streams after a step at which no byte goes over
  abbrev stepped : Step → Streams (ById Call) State
  stepped step = with_world (after_step acts width v.world step)

  -- a loss or a repeat of line k, possible only before its first byte has gone, shows the streams after that step. `old` is
  -- the side before it and `side` after it, `g` is how many bytes of its front line have gone, and `put` sets a side and a
  -- count of idle events in the stage. The last premise is the case in which line k hasn't begun to go
  changes : (old : Side) (g : ℕ) (put : Side → ℕ → StageParts State) (k : ℕ) (queue : List ℕ) (step : Step) (side : Side) (count : ℕ) → old.gone ≡ g
      → put old (idle_after false) ≡ record s { report = counted false s.report } → ReplacesQueue k queue old side s.report.idle_events count
      → (is_begun k old.gone ≡ false → (b : Bool) → b ≡ ltb k (length old.queue) → AreStreamsOf width (put (record old { queue = queue }) (idle_after b)) (stepped step))
      → AreStreamsOf width (put side count) (stepped (cond (is_begun k g) Nothing step))
  changes old g put k queue step side count gone_is same c done = by_begun (is_begun k g) (ap (is_begun k) gone_is)
    where
      by_begun : (b : Bool) → is_begun k old.gone ≡ b → AreStreamsOf width (put side count) (stepped (cond b Nothing step))
      by_begun true e = let was = c.held e in subst (λ t. AreStreamsOf width t (stepped Nothing)) (sym (ap₂ put was.0 was.1 ∙ same)) nothing
      by_begun false e = let was = c.done e in subst (λ t. AreStreamsOf width t (stepped step)) (sym (ap₂ put was.0 was.1)) (done e (ltb k (length old.queue)) refl)

  module _ (k : ℕ) (side : Side) (count : ℕ) where
    -- once line k of the upward side was lost, or the event counted as idle where that isn't possible (`ReplacesQueue`), the
    -- streams after that event are shown
    pub up_lost : ReplacesQueue k (without k s.up.queue) s.up side s.report.idle_events count
        → AreStreamsOf width (with_up_side side count) (after_event (ends_with acts) width v (event.UpLose k))
    up_lost c =
        changes s.up v.up_gone with_up_side k (without k s.up.queue) (Up_lose k) side count h.up_is refl c
        (λ e b is. up_queue b (without k s.up.queue) (without k v.world.wire.up) k (shows_up_lose acts width s.report s.up.queue s.down.queue s.client v.world h.lines k b is)
        (subst (IsFlow s.up.assembler s.up.gone) (without_map (λ x. bytes_of x.line) k v.world.wire.up) (flow_without k s.up.assembler s.up.gone (up_texts v.world.wire) e h.up_flow)))

    -- once line k of the upward side was repeated, or the event counted as idle where that isn't possible (`ReplacesQueue`), the
    -- streams after that event are shown
    pub up_repeated : ReplacesQueue k (doubled k s.up.queue) s.up side s.report.idle_events count
        → AreStreamsOf width (with_up_side side count) (after_event (ends_with acts) width v (event.UpRepeat k))
    up_repeated c =
        changes s.up v.up_gone with_up_side k (doubled k s.up.queue) (Up_repeat k) side count h.up_is refl c
        (λ e b is. up_queue b (doubled k s.up.queue) (doubled k v.world.wire.up) k (shows_up_repeat acts width s.report s.up.queue s.down.queue s.client v.world h.lines k b is)
        (subst (IsFlow s.up.assembler s.up.gone) (doubled_map (λ x. bytes_of x.line) k v.world.wire.up) (flow_doubled k s.up.assembler s.up.gone (up_texts v.world.wire) e h.up_flow)))

    -- once line k of the downward side was lost, or the event counted as idle where that isn't possible (`ReplacesQueue`), the
    -- streams after that event are shown
    pub down_lost : ReplacesQueue k (without k s.down.queue) s.down side s.report.idle_events count
        → AreStreamsOf width (with_down_side side count) (after_event (ends_with acts) width v (event.DownLose k))
    down_lost c =
        changes s.down v.down_gone with_down_side k (without k s.down.queue) (Down_lose k) side count h.down_is refl c
        (λ e b is. down_queue b (without k s.down.queue) (without k v.world.wire.down) k (shows_down_lose acts width s.report s.up.queue s.down.queue s.client v.world h.lines k b is)
        (subst (IsFlow s.down.assembler s.down.gone) (without_map (λ x. x.line) k v.world.wire.down) (flow_without k s.down.assembler s.down.gone (down_texts v.world.wire) e h.down_flow)))

    -- once line k of the downward side was repeated, or the event counted as idle where that isn't possible (`ReplacesQueue`),
    -- the streams after that event are shown
    pub down_repeated : ReplacesQueue k (doubled k s.down.queue) s.down side s.report.idle_events count
        → AreStreamsOf width (with_down_side side count) (after_event (ends_with acts) width v (event.DownRepeat k))
    down_repeated c =
        changes s.down v.down_gone with_down_side k (doubled k s.down.queue) (Down_repeat k) side count h.down_is refl c
        (λ e b is. down_queue b (doubled k s.down.queue) (doubled k v.world.wire.down) k (shows_down_repeat acts width s.report s.up.queue s.down.queue s.client v.world h.lines k b is)
        (subst (IsFlow s.down.assembler s.down.gone) (doubled_map (λ x. x.line) k v.world.wire.down) (flow_doubled k s.down.assembler s.down.gone (down_texts v.world.wire) e h.down_flow)))

  -- A send.

  -- once a request was sent, whose line is plain, the streams after that event are shown
  pub streams_send : (entry : Sent) (deadline : ℕ) (left : Sends s.report s.up.queue s.client entry deadline) → IsPlain entry.line.items
      → AreStreamsOf width (record s { report = record s.report { sent = left.sent }; up = record s.up { queue = left.queue }; client = left.client })
      (after_event (ends_with acts) width v (event.Send entry.target entry.call deadline))
  streams_send entry deadline left plain =
      let c = s.client in
      let x : Sending (ById Call) = record { id = c.ids.next; client = left.client.ids } in
      let request : Numbered Request = record { number = length v.world.wire.sent; line = record { id = c.ids.next; call = entry.call } } in
      let ruled : sends width v.world.client entry.target entry.call deadline ≡ Some x =
      ap (λ (k : Windowed Call). sends k.width k.ids entry.target entry.call deadline) (sym h.lines.client_is) ∙ left.sends_is in
      let whole : after_step acts width v.world (Send entry.target entry.call deadline) ≡ requested v.world entry.target entry.call (Some x) = ap (requested v.world entry.target entry.call) ruled in
      record {
        lines = shows_send acts width s.report s.up.queue s.down.queue c v.world h.lines entry deadline left;
        up_is = h.up_is;
        down_is = h.down_is;
        up_flow =
            subst (λ (w : World (ById Call) State). IsFlow s.up.assembler s.up.gone (up_texts w.wire)) (sym whole)
            (subst (IsFlow s.up.assembler s.up.gone) (sym (map-append (λ x. bytes_of x.line) v.world.wire.up (request ∷ [])))
            (flow_push s.up.assembler s.up.gone (up_texts v.world.wire) (bytes_of request.line) (subst IsPlain left.line_is plain) h.up_flow));
        down_flow = subst (λ (w : World (ById Call) State). IsFlow s.down.assembler s.down.gone (down_texts w.wire)) (sym whole) h.down_flow;
      }

  -- Restarts.

  -- once both ends were restarted, while no line is in flight, the streams after that event are shown
  pub streams_restart_client : (left : RestartsBoth acts s.report s.up.queue s.down.queue s.client)
      → AreStreamsOf width (record s { report = record s.report { settled = left.settled; starts = left.starts; instrument = left.state }; client = left.client })
      (after_event (ends_with acts) width v event.RestartClient)
  streams_restart_client left =
      kept (record s.report { settled = left.settled; starts = left.starts; instrument = left.state }) left.client (after_step acts width v.world Restart_client)
      (shows_restart_client acts width s.report s.up.queue s.down.queue s.client v.world h.lines left)
      (client_restart_keeps_queues acts width v.world v.world.wire.up v.world.wire.down)

  -- while a line is in flight, a restart of the client is only counted
  pub streams_restart_client_idle : SomeInFlight s.up.queue s.down.queue
      → AreStreamsOf width (record s { report = counted false s.report }) (after_event (ends_with acts) width v event.RestartClient)
  streams_restart_client_idle b =
      kept (counted false s.report) s.client (after_step acts width v.world Restart_client) (shows_restart_client_idle acts width s.report s.up.queue s.down.queue s.client v.world h.lines b)
      (client_restart_keeps_queues acts width v.world v.world.wire.up v.world.wire.down)

  -- while a line is in flight, a restart of the instrument is only counted
  pub streams_restart_instrument_idle : SomeInFlight s.up.queue s.down.queue
      → AreStreamsOf width (record s { report = counted false s.report }) (after_event (ends_with acts) width v event.RestartInstrument)
  streams_restart_instrument_idle b =
      kept (counted false s.report) s.client (after_step acts width v.world Restart_instrument) (shows_restart_instrument_idle acts width s.report s.up.queue s.down.queue s.client v.world h.lines b)
      (instrument_restart_keeps_queues acts v.world.wire v.world.wire.up v.world.wire.down)

  -- Deliveries.

  -- once the front request was delivered, and the upward side is at the start of a line, the streams after that event are shown
  pub streams_up_deliver : (side : Side) (left : HandsToInstrument acts s.report s.up.queue s.down.queue side.queue) → StandsFor side.assembler [] → side.gone ≡ 0
      → AreStreamsOf width (record s { report = record s.report { executed = left.executed; made = left.made; instrument = left.state }; up = side; down = record s.down { queue = left.queue } })
      (after_event (ends_with acts) width v event.UpDeliver)
  streams_up_deliver side left stands none =
      let f = up_front acts width s.report s.up.queue s.down.queue s.client v.world h.lines left.number side.queue left.front in
      let x = f.0 in
      let sound = subst (λ q. AllByRecursion (IsSentIn s.report.sent) q) f.2 h.lines.requests in
      let this : left.request ≡ sound.0.request = same_Some left.request sound.0.request (sym left.found ∙ ap (λ k. slice_get s.report.sent k) (sym f.3) ∙ sound.0.found) in
      let did = left.replied x.line.id x.line.call sound.0.digit sound.0.fits (ap (λ (q : Sent). q.line.items) this ∙ sound.0.line) in
      let reply = (acts.handed v.world.wire.state x.line.id x.line.call).reply in
      let plain : IsPlain reply = subst IsPlain (did.line ∙ ap (λ t. (acts.handed t x.line.id x.line.call).reply) h.lines.reports.instrument) did.plain in
      let m : Numbered (List ℕ) = record { number = x.number; line = reply } in
      let whole : after_step acts width v.world Up_deliver ≡ on_wire v.world (up_delivered (ends_with acts) v.world.wire (x ∷ f.1)) = ap (λ q. on_wire v.world (up_delivered (ends_with acts) v.world.wire q)) f.2 in
      record {
        lines = shows_up_deliver acts width s.report s.up.queue s.down.queue s.client v.world h.lines side.queue left;
        up_is = none;
        down_is = h.down_is;
        up_flow =
            subst (λ (w : World (ById Call) State). IsFlow side.assembler side.gone (up_texts w.wire)) (sym whole)
            (from_start side (map (λ y. bytes_of y.line) f.1) none stands (subst (λ q. IsFlow s.up.assembler s.up.gone (map (λ y. bytes_of y.line) q)) f.2 h.up_flow).plain.1);
        down_flow =
            subst (λ (w : World (ById Call) State). IsFlow s.down.assembler s.down.gone (down_texts w.wire)) (sym whole)
            (subst (IsFlow s.down.assembler s.down.gone) (sym (map-append
            (λ y. y.line) v.world.wire.down (m ∷ []))) (flow_push s.down.assembler s.down.gone (down_texts v.world.wire) reply plain h.down_flow));
      }

  -- once the front reply was delivered, and the downward side is at the start of a line, the streams after that event are shown
  pub streams_down_deliver : (side : Side) (left : HandsToClient s.report s.down.queue side.queue s.client) → StandsFor side.assembler [] → side.gone ≡ 0
      → AreStreamsOf width (record s { report = record s.report { settled = left.settled }; down = side; client = left.client }) (after_event (ends_with acts) width v event.DownDeliver)
  streams_down_deliver side left stands none =
      let f = down_front acts width s.report s.up.queue s.down.queue s.client v.world h.lines left.place side.queue left.front in
      let whole : after_step acts width v.world Down_deliver ≡ down_delivered (by_ids width (ends_with acts)) v.world (f.0 ∷ f.1) = ap (λ q. down_delivered (by_ids width (ends_with acts)) v.world q) f.2 in
      record {
        lines = shows_down_deliver acts width s.report s.up.queue s.down.queue s.client v.world h.lines side.queue left;
        up_is = h.up_is;
        down_is = none;
        up_flow = subst (λ (w : World (ById Call) State). IsFlow s.up.assembler s.up.gone (up_texts w.wire)) (sym whole) h.up_flow;
        down_flow =
            subst (λ (w : World (ById Call) State). IsFlow side.assembler side.gone (down_texts w.wire)) (sym whole)
            (from_start side (map (λ y. y.line) f.1) none stands (subst (λ q. IsFlow s.down.assembler s.down.gone (map (λ y. y.line) q)) f.2 h.down_flow).plain.1);
      }

  -- Bytes.

  -- once n bytes were handed over that don't complete the front line, the streams with n more gone are shown
  pub streams_begin : (d : Direction) (n : ℕ) (side : Side) → n < to_go d v
      → IsFlow side.assembler side.gone (texts d v.world.wire) → side.gone ≡ (pick d s.up s.down).gone + n → side.queue ≡ (pick d s.up s.down).queue
      → AreStreamsOf width (record s { up = pick d side s.up; down = pick d s.down side }) (after_bytes (ends_with acts) width d v n)
  streams_begin d n side lt flow gone_of queue_is =
      subst (λ c. AreStreamsOf width (record s { up = pick d side s.up; down = pick d s.down side }) (after_cut (ends_with acts) (by_ids width (ends_with acts)) d v c))
      (sym (cut_short (lines d v.world.wire) (gone d v) n lt))
      (by_direction d flow (gone_of ∙ ap (λ g. g + n) (gone_is d)) queue_is)
    where
      by_direction : (d : Direction) → IsFlow side.assembler side.gone (texts d v.world.wire) → side.gone ≡ gone d v + n
          → side.queue ≡ (pick d s.up s.down).queue → AreStreamsOf width (record s { up = pick d side s.up; down = pick d s.down side })
          (with_front_gone d v v.world (gone d v + n))
      by_direction Up flow gone queue =
          record { lines = subst (λ q. AreOfWorld width s.report q s.down.queue s.client v.world) (sym queue) h.lines; up_is = gone; down_is = h.down_is; up_flow = flow; down_flow = h.down_flow }
      by_direction Down flow gone queue =
          record { lines = subst (λ q. AreOfWorld width s.report s.up.queue q s.client v.world) (sym queue) h.lines; up_is = h.up_is; down_is = gone; up_flow = h.up_flow; down_flow = flow }

  -- an event of 0 bytes, or of bytes while none are in flight, is only counted
  pub streams_idle_bytes : (d : Direction) (n r : ℕ) → r ≡ to_go d v → (n ≡ 0) ⊎ (r ≡ 0)
      → AreStreamsOf width (record s { report = counted false s.report }) (after_event (ends_with acts) width v (bytes d n))
  streams_idle_bytes d n r e none = subst (λ x. AreStreamsOf width (record s { report = counted false s.report }) x)
      (sym (bytes_pass (ends_with acts) (by_ids width (ends_with acts)) d v n ∙ idle_bytes (ends_with acts) (by_ids width (ends_with acts)) d v (lines d v.world.wire) n e none (part d))) nothing
