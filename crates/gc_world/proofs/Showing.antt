-- For the proofs of `stage.rt`. A report, two queues and a client *show* a world where they are those of the world
-- (`AreOfWorld`). Each lemma says: where they show a world, and a function has done to them what its contract says
-- (`Contracts.antt`), they show the world after that step.
use Rattle.gc_world.proofs.Common.{◌≡◌, ℕ, ◌+◌, ◌<◌, ◌≤◌, Bool, true, false, cond, List, [], ◌∷◌, ◌++◌, length, map, Option, Some, None, refl, sym, ◌∙◌, ap, subst, ltb, eqb, arith, AllByRecursion, ap₂, slice_get, map-append, length-map, append-nil, ltb-false, all_append, every_weaker as all_on, Call, IsReading, IDS, HearsInto, ById, Windowed, Sending, heard, hears, place_in, settles_at, send_unless_full, sends, restarts, AreSettlements, Made, Report, Sent, Request, Numbered, Wire, World, bytes_of, Send, Up_deliver, Up_lose, Up_repeat, Down_deliver, Down_lose, Down_repeat, Restart_client, Restart_instrument, without, doubled, idle, up_delivered, with_up, with_down, on_wire, requested, down_delivered, client_restarted, instrument_restarted, Behaviour, ends_with, by_ids, sent_seen, SomeInFlight, numbers, made_seen, IsReport, after_step, IsSentIn, replies_at, AreOfWorld, same_Some, none-some}
use Rattle.gc_client.specs.declared.heard.Hearing.{Hearing}
use Rattle.gc_client.specs.declared.heard.Hearing.TheVariants.{Settled, Stray, Unread}
use Rattle.gc_client.specs.declared.settlement.Settlement.{Settlement}
use Rattle.gc_client.proofs.Settling.{settled_append}
use Rattle.gc_world.proofs.Contracts.{Sends, HandsToInstrument, HandsToClient, RestartsBoth}
use Rattle.gc_world.proofs.Queues.{without_map, doubled_map, without_past, doubled_past}
use Rattle.gc_world.proofs.Rows.{each_without, each_doubled}
use Rattle.gc_world.proofs.Places.{get_map, get_more, get_push}
use Rattle.gc_client.specs.Rule
use Rattle.gc_world.specs.World

-- the report after an event: as it is if the event was possible (`possible`), else with one more event that wasn't
abbrev pub counted : {State : Type 0} → (possible : Bool) → Report State → Report State
counted true r = r
counted false r = record r { idle_events = r.idle_events + 1 }

-- a report of a wire is still one where both count one more event that was not possible
reports_idle : {State : Type 0} (r : Report State) (w : Wire State) → IsReport r w → IsReport (counted false r) (idle w)
reports_idle r w h =
    record { sent = h.sent; executed = h.executed; made = h.made; settled = h.settled; starts = h.starts; instrument = h.instrument; refused = h.refused; idle = ap (λ n. n + 1) h.idle }

-- a report of a wire is also one of the wire with other queues, which a report doesn't have
reports_queues : {State : Type 0} (r : Report State) (w : Wire State) (up : List (Numbered Request)) (down : List (Numbered (List ℕ))) → IsReport r w
    → IsReport r (record w { up = up; down = down })
reports_queues r w up down h =
    record { sent = h.sent; executed = h.executed; made = h.made; settled = h.settled; starts = h.starts; instrument = h.instrument; refused = h.refused; idle = h.idle }

-- settling doesn't change the next id
settled_next : (c : ById Call) (line : List ℕ) (k : ℕ) (b : Bool) → (settles_at c line k b).client.next ≡ c.next
settled_next c line k false = refl
settled_next c line k true = refl

-- hearing a line doesn't change the client's next id, whatever the line settles
pub hears_next : (c : ById Call) (line : List ℕ) (o : Option ℕ) → (hears c line o).client.next ≡ c.next
hears_next c line None = refl
hears_next c line (Some id) = settled_next c line (place_in c id) (ltb (place_in c id) (length c.waiting))

-- a send that isn't refused leaves a next id that is a digit below 8
pub sends_next : (width : ℕ) (c : ById Call) (target : ℕ) (call : Call) (deadline : ℕ) (x : Sending (ById Call))
    → sends width c target call deadline ≡ Some x → x.client.next < IDS
sends_next width c target call deadline x e = by_room (eqb (length c.waiting) width) e
  where
    by_room : (full : Bool) → send_unless_full c target call deadline full ≡ Some x → x.client.next < IDS
    by_room true e = absurd (none-some x e)
    by_room false e = subst (λ (y : Sending (ById Call)). y.client.next < IDS) (same_Some _ x e) (omega arith)

-- one more reply leaves the others at their places
reply_stays : (made : List Made) (entry : Made) (p : ℕ) (x : Numbered (List ℕ)) → slice_get (map made_seen made) p ≡ Some x
    → slice_get (map made_seen (made ++ entry ∷ [])) p ≡ Some x
reply_stays made entry p x e = ap (λ l. slice_get l p) (map-append made_seen made (entry ∷ [])) ∙ get_more (map made_seen made) (made_seen entry ∷ []) p x e

-- one more reply made is at the place that is the count of those made before it
reply_added : (made : List Made) (entry : Made) → slice_get (map made_seen (made ++ entry ∷ [])) (length made) ≡ Some (made_seen entry)
reply_added made entry =
    ap (λ l. slice_get l (length made)) (map-append made_seen made (entry ∷ []))
    ∙ subst (λ n. slice_get (map made_seen made ++ made_seen entry ∷ []) n ≡ Some (made_seen entry)) (length-map made made_seen) (get_push (map made_seen made) (made_seen entry))

-- places that name the replies xs among those made (`replies_at`) still name xs once one more reply was made
replies_more : (made : List Made) (entry : Made) (places : List ℕ) (xs : List (Numbered (List ℕ))) → replies_at made places ≡ map Some xs
    → replies_at (made ++ entry ∷ []) places ≡ map Some xs
replies_more made entry [] [] h = refl
replies_more made entry [] (x ∷ xs) h = cc
replies_more made entry (p ∷ ps) [] h = cc
replies_more made entry (p ∷ ps) (x ∷ xs) h =
    let one : slice_get (map made_seen made) p ≡ Some x = cc in
    let others : replies_at made ps ≡ map Some xs = cc in
    ap₂ (λ (a : Option (Numbered (List ℕ))) b. a ∷ b) (reply_stays made entry p x one) (replies_more made entry ps xs others)

-- where places name the replies xs among those made (`replies_at`), these places, and after them that of one more reply
-- made, name xs and then that reply
replies_push : (made : List Made) (entry : Made) (places : List ℕ) (xs : List (Numbered (List ℕ))) → replies_at made places ≡ map Some xs
    → replies_at (made ++ entry ∷ []) (places ++ length made ∷ []) ≡ map Some (xs ++ made_seen entry ∷ [])
replies_push made entry places xs h =
    map-append (slice_get (map made_seen (made ++ entry ∷ []))) places (length made ∷ [])
    ∙ ap₂ (λ (a : List (Option (Numbered (List ℕ)))) b. a ++ b ∷ []) (replies_more made entry places xs h) (reply_added made entry)
    ∙ sym (map-append Some xs (made_seen entry ∷ []))

-- where a line settles nothing (o isn't `Settled`), appending its settlements `more` leaves the settlements as they are
pub none_settled : (old new : ById Call) (line : List ℕ) (o : Hearing) (more settled : List (Settlement Call)) → HearsInto old line o more new
    → (o ≡ Settled → ⊥) → settled ≡ settled ++ more
none_settled old new line Settled more settled h not = absurd (not refl)
none_settled old new line Stray more settled h not = sym (ap (λ l. settled ++ l) h.2 ∙ append-nil settled)
none_settled old new line (Unread fault) more settled h not = sym (ap (λ l. settled ++ l) h.1 ∙ append-nil settled)

-- where mapping a function over a list gives the empty list, the list is empty
pub map_nil : {A B : Type 0} (f : A → B) (xs : List A) → map f xs ≡ [] → xs ≡ []
map_nil f [] e = refl
map_nil f (x ∷ xs) e = cc

module _ {State : Type 0} (acts : Behaviour State) (width : ℕ) (r : Report State) (up down : List ℕ) (c : Windowed Call) (w : World (ById Call) State) (h : AreOfWorld width r up down c w) where
  -- an event that is not possible is only counted, in the report as in the world
  pub shows_idle : AreOfWorld width (counted false r) up down c (on_wire w (idle w.wire))
  shows_idle =
      record { reports = reports_idle r w.wire h.reports; up_is = h.up_is; down_is = h.down_is; client_is = h.client_is; next = h.next; requests = h.requests; calls = h.calls }

  -- the upward queue is as long as the world's
  pub same_up : length up ≡ length w.wire.up
  same_up = ap length h.up_is ∙ length-map w.wire.up (λ x. x.number)

  -- the downward queue is as long as the world's
  pub same_down : length down ≡ length w.wire.down
  same_down = sym (length-map down (slice_get (map made_seen r.made))) ∙ ap length h.down_is ∙ length-map w.wire.down Some

  -- where the upward queue is empty, the world's is
  pub no_up : up ≡ [] → w.wire.up ≡ []
  no_up e = map_nil (λ x. x.number) w.wire.up (sym h.up_is ∙ e)

  -- where the downward queue is empty, the world's is
  pub no_down : down ≡ [] → w.wire.down ≡ []
  no_down e = map_nil Some w.wire.down (sym h.down_is ∙ ap (replies_at r.made) e)

  -- once the upward queue was replaced by `places`, the numbers of the sent requests `us`, if there is a line k (b true), or else
  -- stayed, and the event was counted as idle, report and queues show the world in which the same was done with `us`
  up_changed : (k : ℕ) (b : Bool) (places : List ℕ) (us : List (Numbered Request)) → b ≡ ltb k (length up) → (length up ≤ k → places ≡ up)
      → places ≡ numbers us → AllByRecursion (IsSentIn r.sent) us → AreOfWorld width (counted b r) places down c (on_wire w (with_up w.wire us (ltb k (length w.wire.up))))
  up_changed k true places us e past is each =
      let e1 : ltb k (length w.wire.up) ≡ true = ap (λ n. ltb k n) (sym same_up) ∙ sym e in
      subst (λ v. AreOfWorld width r places down c (on_wire w (with_up w.wire us v))) (sym e1)
      (record { reports = reports_queues r w.wire us w.wire.down h.reports; up_is = is; down_is = h.down_is; client_is = h.client_is; next = h.next; requests = each; calls = h.calls })
  up_changed k false places us e past is each =
      let e1 : ltb k (length w.wire.up) ≡ false = ap (λ n. ltb k n) (sym same_up) ∙ sym e in
      subst (λ v. AreOfWorld width (counted false r) places down c (on_wire w (with_up w.wire us v))) (sym e1)
      (subst (λ q. AreOfWorld width (counted false r) q down c (on_wire w (idle w.wire))) (sym (past (ltb-false _ _ (sym e)))) shows_idle)

  -- once line k of the upward queue was lost (b true), or the step counted as idle where there is no line k (b false), the world
  -- after that step is shown
  pub shows_up_lose : (k : ℕ) (b : Bool) → b ≡ ltb k (length up) → AreOfWorld width (counted b r) (without k up) down c (after_step acts width w (Up_lose k))
  shows_up_lose k b e =
      up_changed k b (without k up) (without k w.wire.up) e (without_past k up)
      (ap (without k) h.up_is ∙ without_map (λ x. x.number) k w.wire.up) (each_without (IsSentIn r.sent) k w.wire.up h.requests)

  -- once line k of the upward queue was repeated (b true), or the step counted as idle where there is no line k (b false), the
  -- world after that step is shown
  pub shows_up_repeat : (k : ℕ) (b : Bool) → b ≡ ltb k (length up) → AreOfWorld width (counted b r) (doubled k up) down c (after_step acts width w (Up_repeat k))
  shows_up_repeat k b e =
      up_changed k b (doubled k up) (doubled k w.wire.up) e (doubled_past k up)
      (ap (doubled k) h.up_is ∙ doubled_map (λ x. x.number) k w.wire.up) (each_doubled (IsSentIn r.sent) k w.wire.up h.requests)

  -- once the downward queue was replaced by `places`, which name the replies `ds`, if there is a line k (b true), or else stayed,
  -- and the event was counted as idle, report and queues show the world in which the same was done with `ds`
  down_changed : (k : ℕ) (b : Bool) (places : List ℕ) (ds : List (Numbered (List ℕ))) → b ≡ ltb k (length down) → (length down ≤ k → places ≡ down)
      → replies_at r.made places ≡ map Some ds → AreOfWorld width (counted b r) up places c (on_wire w (with_down w.wire ds (ltb k (length w.wire.down))))
  down_changed k true places ds e past is =
      let e1 : ltb k (length w.wire.down) ≡ true = ap (λ n. ltb k n) (sym same_down) ∙ sym e in
      subst (λ v. AreOfWorld width r up places c (on_wire w (with_down w.wire ds v))) (sym e1)
      (record { reports = reports_queues r w.wire w.wire.up ds h.reports; up_is = h.up_is; down_is = is; client_is = h.client_is; next = h.next; requests = h.requests; calls = h.calls })
  down_changed k false places ds e past is =
      let e1 : ltb k (length w.wire.down) ≡ false = ap (λ n. ltb k n) (sym same_down) ∙ sym e in
      subst (λ v. AreOfWorld width (counted false r) up places c (on_wire w (with_down w.wire ds v))) (sym e1)
      (subst (λ q. AreOfWorld width (counted false r) up q c (on_wire w (idle w.wire))) (sym (past (ltb-false _ _ (sym e)))) shows_idle)

  -- once line k of the downward queue was lost (b true), or the step counted as idle where there is no line k (b false), the
  -- world after that step is shown
  pub shows_down_lose : (k : ℕ) (b : Bool) → b ≡ ltb k (length down) → AreOfWorld width (counted b r) up (without k down) c (after_step acts width w (Down_lose k))
  shows_down_lose k b e =
      down_changed k b (without k down) (without k w.wire.down) e (without_past k down)
      (sym (without_map (slice_get (map made_seen r.made)) k down) ∙ ap (without k) h.down_is ∙ without_map Some k w.wire.down)

  -- once line k of the downward queue was repeated (b true), or the step counted as idle where there is no line k (b false), the
  -- world after that step is shown
  pub shows_down_repeat : (k : ℕ) (b : Bool) → b ≡ ltb k (length down) → AreOfWorld width (counted b r) up (doubled k down) c (after_step acts width w (Down_repeat k))
  shows_down_repeat k b e =
      down_changed k b (doubled k down) (doubled k w.wire.down) e (doubled_past k down)
      (sym (doubled_map (slice_get (map made_seen r.made)) k down) ∙ ap (doubled k) h.down_is ∙ doubled_map Some k w.wire.down)

  -- where n is at the front of the upward queue, the world has a front request, and its number is n; the numbers behind n are
  -- those of the requests behind it
  pub up_front : (n : ℕ) (rest : List ℕ) → up ≡ n ∷ rest
      → (y : Numbered Request) × (ys : List (Numbered Request)) × (w.wire.up ≡ y ∷ ys) × (y.number ≡ n) × (rest ≡ numbers ys)
  up_front n rest e = front w.wire.up (sym h.up_is ∙ e)
    where
      front : (us : List (Numbered Request)) → numbers us ≡ n ∷ rest → (y : Numbered Request) × (ys : List (Numbered Request)) × (us ≡ y ∷ ys) × (y.number ≡ n) × (rest ≡ numbers ys)
      front [] g = cc
      front (y ∷ ys) g = let one : y.number ≡ n = cc in let others : numbers ys ≡ rest = cc in (y, ys, refl, one, sym others)

  -- where the place p is at the front of the downward queue, the world has a front reply, and it is the one that the report has
  -- at p; the places behind p name the replies behind it
  pub down_front : (p : ℕ) (rest : List ℕ) → down ≡ p ∷ rest → (x : Numbered (List ℕ)) × (xs : List (Numbered (List ℕ))) × (w.wire.down ≡ x ∷ xs)
      × (slice_get (map made_seen r.made) p ≡ Some x) × (replies_at r.made rest ≡ map Some xs)
  down_front p rest e = front w.wire.down (ap (replies_at r.made) (sym e) ∙ h.down_is)
    where
      front : (ds : List (Numbered (List ℕ))) → replies_at r.made (p ∷ rest) ≡ map Some ds
          → (x : Numbered (List ℕ)) × (xs : List (Numbered (List ℕ))) × (ds ≡ x ∷ xs) × (slice_get (map made_seen r.made) p ≡ Some x)
          × (replies_at r.made rest ≡ map Some xs)
      front [] g = cc
      front (x ∷ xs) g = let one : slice_get (map made_seen r.made) p ≡ Some x = cc in let others : replies_at r.made rest ≡ map Some xs = cc in (x, xs, refl, one, others)

  -- the reply that the report has at the place at the front of the downward queue is the world's front reply
  pub down_line : (p : ℕ) (rest : List ℕ) (m : Made) (e : down ≡ p ∷ rest) → slice_get r.made p ≡ Some m → made_seen m ≡ (down_front p rest e).0
  down_line p rest m e found = let f = down_front p rest e in same_Some (made_seen m) f.0 (sym (get_map made_seen r.made p m found) ∙ f.3)

  -- once the client sent a request, the world after that step is shown
  pub shows_send : (entry : Sent) (deadline : ℕ) (left : Sends r up c entry deadline)
      → AreOfWorld width (record r { sent = left.sent }) left.queue down left.client (after_step acts width w (Send entry.target entry.call deadline))
  shows_send entry deadline left =
      let x : Sending (ById Call) = record { id = c.ids.next; client = left.client.ids } in
      let ruled : sends width w.client entry.target entry.call deadline ≡ Some x = ap (λ (k : Windowed Call). sends k.width k.ids entry.target entry.call deadline) (sym h.client_is) ∙ left.sends_is in
      let total : length r.sent ≡ length w.wire.sent = sym (length-map r.sent sent_seen) ∙ ap length h.reports.sent in
      let number : slice_get (r.sent ++ entry ∷ []) (length w.wire.sent) ≡ Some entry = subst (λ n. slice_get (r.sent ++ entry ∷ []) n ≡ Some entry) total (get_push r.sent entry) in
      let digit : c.ids.next < IDS = subst (λ (k : Windowed Call). k.ids.next < IDS) (sym h.client_is) h.next in
      subst (λ l. AreOfWorld width (record r { sent = l }) left.queue down left.client (after_step acts width w (Send entry.target entry.call deadline))) (sym left.sent_is)
      (subst (λ o. AreOfWorld width (record r { sent = r.sent ++ entry ∷ [] }) left.queue down left.client (requested w entry.target entry.call o)) (sym ruled) (record {
        reports = record {
          sent = map-append sent_seen r.sent (entry ∷ []) ∙ ap₂ (λ (l : List World.Sent) t. l ++ record { target = entry.target; call = entry.call; line = t } ∷ []) h.reports.sent left.line_is;
          executed = h.reports.executed;
          made = h.reports.made;
          settled = h.reports.settled;
          starts = h.reports.starts;
          instrument = h.reports.instrument;
          refused = h.reports.refused;
          idle = h.reports.idle;
        };
        up_is = left.queue_is ∙ ap₂ (λ (l : List ℕ) n. l ++ n ∷ []) h.up_is total ∙ sym (map-append (λ (y : Numbered Request). y.number) w.wire.up _);
        down_is = h.down_is;
        client_is = ap (λ n. record { width = n; ids = left.client.ids }) (left.wide ∙ ap (λ (k : Windowed Call). k.width) h.client_is);
        next = sends_next c.width c.ids entry.target entry.call deadline x left.sends_is;
        requests =
            all_append _ w.wire.up _ (all_on _ _ w.wire.up (λ y s. record {
              request = s.request;
              found =
                  get_more r.sent (entry ∷ []) y.number s.request s.found;
              line = s.line;
              digit = s.digit;
              fits = s.fits;
            }) h.requests)
            (record { request = entry; found = number; line = left.line_is; digit = digit; fits = left.fits }, tt);
        calls = all_append _ r.sent (entry ∷ []) h.calls (left.fits, tt);
      }))

  -- once the front request was handed to the instrument, the world after that step is shown
  pub shows_up_deliver : (rest : List ℕ) (left : HandsToInstrument acts r up down rest)
      → AreOfWorld width (record r { executed = left.executed; made = left.made; instrument = left.state }) rest left.queue c (after_step acts width w Up_deliver)
  shows_up_deliver rest left =
      let f = up_front left.number rest left.front in
      let y = f.0 in
      let ys = f.1 in
      let sound = subst (λ q. AllByRecursion (IsSentIn r.sent) q) f.2 h.requests in
      let this : left.request ≡ sound.0.request = same_Some left.request sound.0.request (sym left.found ∙ ap (λ k. slice_get r.sent k) (sym f.3) ∙ sound.0.found) in
      let line : left.request.line.items ≡ bytes_of y.line = ap (λ (q : Sent). q.line.items) this ∙ sound.0.line in
      let did = left.replied y.line.id y.line.call sound.0.digit sound.0.fits line in
      let reply : left.entry.line.items ≡ (acts.handed w.wire.state y.line.id y.line.call).reply =
      did.line ∙ ap (λ s. (acts.handed s y.line.id y.line.call).reply) h.reports.instrument in
      let entry_is : made_seen left.entry ≡ record { number = y.number; line = (acts.handed w.wire.state y.line.id y.line.call).reply } =
      ap₂ (λ k (l : List ℕ). record { number = k; line = l }) (left.same ∙ sym f.3) reply in
      subst (λ q. AreOfWorld width (record r { executed = left.executed; made = left.made; instrument = left.state }) rest left.queue c (on_wire w (up_delivered (ends_with acts) w.wire q))) (sym f.2) (record {
        reports = record {
          sent = h.reports.sent;
          executed =
              left.executed_is
              ∙ ap (λ b. cond b (r.executed ++ left.number ∷ []) r.executed) (did.is_executed ∙ ap (λ (s : State). (acts.handed s y.line.id y.line.call).executed) h.reports.instrument)
              ∙ ap₂ (λ l k. cond (acts.handed w.wire.state y.line.id y.line.call).executed (l ++ k ∷ []) l) h.reports.executed (sym f.3);
          made = ap (map made_seen) left.made_is ∙ map-append made_seen r.made (left.entry ∷ []) ∙ ap₂ (λ l m. l ++ m ∷ []) h.reports.made entry_is;
          settled = h.reports.settled;
          starts = h.reports.starts;
          instrument = did.state ∙ ap (λ s. (acts.handed s y.line.id y.line.call).state) h.reports.instrument;
          refused = h.reports.refused;
          idle = h.reports.idle;
        };
        up_is = f.4;
        down_is =
            ap₂ replies_at left.made_is left.queue_is ∙ replies_push r.made left.entry down w.wire.down h.down_is
            ∙ ap (λ m. map Some (w.wire.down ++ m ∷ [])) entry_is;
        client_is = h.client_is;
        next = h.next;
        requests = sound.1;
        calls = h.calls;
      })

  -- once the front reply was handed to the client, the world after that step is shown
  pub shows_down_deliver : (rest : List ℕ) (left : HandsToClient r down rest c)
      → AreOfWorld width (record r { settled = left.settled }) up rest left.client (after_step acts width w Down_deliver)
  shows_down_deliver rest left =
      let f = down_front left.place rest left.front in
      let x = f.0 in
      let line : left.line ≡ x.line = left.line_is ∙ ap (λ (y : Numbered (List ℕ)). y.line) (down_line left.place rest left.reply left.front left.found) in
      let same : hears c.ids left.line (heard left.line) ≡ hears w.client x.line (heard x.line) = ap₂ (λ (k : Windowed Call) l. hears k.ids l (heard l)) h.client_is line in
      let are : AreSettlements left.more (hears w.client x.line (heard x.line)).settlements =
      subst (λ (s : Rule.Settled Call (ById Call)). AreSettlements left.more s.settlements) same left.more_are in
      subst (λ q. AreOfWorld width (record r { settled = left.settled }) up rest left.client (down_delivered (by_ids width (ends_with acts)) w q)) (sym f.2) (record {
        reports = record {
          sent = h.reports.sent;
          executed = h.reports.executed;
          made = h.reports.made;
          settled = subst (λ l. AreSettlements l (w.wire.settled ++ (hears w.client x.line (heard x.line)).settlements)) (sym left.settled_is)
              (settled_append IsReading r.settled left.more w.wire.settled (hears w.client x.line (heard x.line)).settlements h.reports.settled are);
          starts = h.reports.starts;
          instrument = h.reports.instrument;
          refused = h.reports.refused;
          idle = h.reports.idle;
        };
        up_is = h.up_is;
        down_is = f.4;
        client_is = left.client_is
            ∙ ap₂ (λ n (s : Rule.Settled Call (ById Call)). let d : Windowed Call = record { width = n; ids = s.client } in d) (ap (λ (k : Windowed Call). k.width) h.client_is) same;
        next = subst (λ n. n < IDS) (sym (hears_next w.client x.line (heard x.line))) h.next;
        requests = h.requests;
        calls = h.calls;
      })

  -- once both ends were restarted, while no line is in flight, the world after that step is shown
  pub shows_restart_client : (left : RestartsBoth acts r up down c)
      → AreOfWorld width (record r { settled = left.settled; starts = left.starts; instrument = left.state }) up down left.client (after_step acts width w Restart_client)
  shows_restart_client left =
      let are : AreSettlements left.more (restarts w.client).settlements = subst (λ (k : Windowed Call). AreSettlements left.more (restarts k.ids).settlements) h.client_is left.more_are in
      let r' : Report State = record r { settled = left.settled; starts = left.starts; instrument = left.state } in
      subst (λ u. AreOfWorld width r' up down left.client (client_restarted (ends_with acts) (by_ids width (ends_with acts)) w u w.wire.down)) (sym (no_up left.up_empty))
      (subst (λ d. AreOfWorld width r' up down left.client (client_restarted (ends_with acts) (by_ids width (ends_with acts)) w [] d))
      (sym (no_down left.down_empty)) (record {
        reports = record {
          sent = h.reports.sent;
          executed = h.reports.executed;
          made = h.reports.made;
          settled = subst (λ l. AreSettlements l (w.wire.settled ++ (restarts w.client).settlements)) (sym left.settled_is)
              (settled_append IsReading r.settled left.more w.wire.settled (restarts w.client).settlements h.reports.settled are);
          starts = left.starts_is ∙ ap₂ (λ (l m : List ℕ). l ++ length m ∷ []) h.reports.starts h.reports.executed;
          instrument = left.state_is ∙ ap acts.restarted h.reports.instrument;
          refused = h.reports.refused;
          idle = h.reports.idle;
        };
        up_is = h.up_is;
        down_is = h.down_is;
        client_is = left.client_is ∙ ap (λ (k : Windowed Call). record k { ids = (restarts k.ids).client }) h.client_is;
        next = omega arith;
        requests = h.requests;
        calls = h.calls;
      }))

  -- while a line is in flight, a restart of the client is only counted
  pub shows_restart_client_idle : SomeInFlight up down → AreOfWorld width (counted false r) up down c (after_step acts width w Restart_client)
  shows_restart_client_idle b = by_queues w.wire.up w.wire.down refl refl
    where
      by_queues : (us : List (Numbered Request)) (ds : List (Numbered (List ℕ))) → w.wire.up ≡ us → w.wire.down ≡ ds
          → AreOfWorld width (counted false r) up down c (client_restarted (ends_with acts) (by_ids width (ends_with acts)) w us ds)
      by_queues [] [] eu ed = absurd (b (h.up_is ∙ ap numbers eu, map_nil (slice_get (map made_seen r.made)) down (h.down_is ∙ ap (map Some) ed)))
      by_queues [] (y ∷ ds) eu ed = shows_idle
      by_queues (x ∷ us) ds eu ed = shows_idle

  -- while a line is in flight, a restart of the instrument is only counted
  pub shows_restart_instrument_idle : SomeInFlight up down → AreOfWorld width (counted false r) up down c (after_step acts width w Restart_instrument)
  shows_restart_instrument_idle b = by_queues w.wire.up w.wire.down refl refl
    where
      by_queues : (us : List (Numbered Request)) (ds : List (Numbered (List ℕ))) → w.wire.up ≡ us → w.wire.down ≡ ds
          → AreOfWorld width (counted false r) up down c (on_wire w (instrument_restarted (ends_with acts) w.wire us ds))
      by_queues [] [] eu ed = absurd (b (h.up_is ∙ ap numbers eu, map_nil (slice_get (map made_seen r.made)) down (h.down_is ∙ ap (map Some) ed)))
      by_queues [] (y ∷ ds) eu ed = shows_idle
      by_queues (x ∷ us) ds eu ed = shows_idle
