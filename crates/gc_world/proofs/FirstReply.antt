-- A reply to a request that isn't settled settles it: as answered, or as late where it had timed out. Two runs are *level*
-- where they take the same steps, and as many bytes have gone of each front line.
use Rattle.gc_world.proofs.Common.{◌≡◌, ℕ, suc, ◌+◌, ◌-◌, ◌<◌, ◌≤◌, Bool, true, false, cond, List, [], ◌∷◌, ◌++◌, length, map, take, drop, Some, refl, sym, ◌∙◌, ap, subst, arith, append_assoc, eqb, ap₂, slice_get, le-ltb, lt-ltb, append-nil, length-map, take-map, drop-map, drop-append_seam, Call, Pending, WINDOW, ById, Settlement, Outcome, Answered, Late, Lost, pending_of, lost, settle, Wanted, of_settled, of_pending, Event, DownDeliver, ByNumber, number_send, number_reply, by_ids, by_numbers, ids_open, numbers_open, run_by_ids, streams_by_ids, streams_by_numbers, left_between, IsDelivery, HasSend, IsInTime, IsTooLate, IsSettledAs, settled_as, between, DeliverySettles, Streams, untouched, flows, IsExchange, Ends, Numbered, Wire, World, Send, Down_deliver, requested, down_delivered, happens, run, call_line, of_sent}
use Rattle.gc_client.proofs.Ends.{settle_is}
use Rattle.gc_client.proofs.Lists.{drop_next}
use Rattle.gc_world.specs.World.{Sent}
use Rattle.gc_world.proofs.Agree.{Agree, agree_at, sound_at}
use Rattle.gc_world.proofs.Flow.{taken, flow_run, flow_append, AreLevel, level_at, level_wire}
use Rattle.gc_world.proofs.Delivering.{delivery_is}
use Rattle.gc_world.proofs.Marks.{entry_all}
use Rattle.gc_world.proofs.Moments.{marked_all, in_time, too_late}
use Rattle.gc_world.proofs.Places.{get_map, get_push, get_seen, slice_drop}
use Rattle.gc_world.proofs.Settled.{AccountForSent, whole_at}
use Rattle.gc_world.proofs.Sound.{Sound, sound_step}
use Rattle.gc_world.specs.declared.event.Event.TheVariants as event

-- Lists.

-- where f over xs and g over ys give the same list, the element x at place n of xs has a partner y at place n of ys: g gives of
-- y what f gives of x
partner_at : {A B C : Type 0} (f : A → C) (g : B → C) (xs : List A) (ys : List B) (n : ℕ) (x : A) → map f xs ≡ map g ys → slice_get xs n ≡ Some x
    → (y : B) × (slice_get ys n ≡ Some y) × (g y ≡ f x)
partner_at f g xs ys n x e h = get_seen g ys n (f x) (ap (λ l. slice_get l n) (sym e) ∙ get_map f xs n x h)

-- the settlement, with this outcome, of a request with this target and this call
abbrev settled_wanted : Outcome → Wanted Call → Settlement Call
settled_wanted outcome a = record { target = a.target; call = a.call; outcome = outcome }

-- where requests that wait and requests that were sent have the same targets and calls, their settlements as lost are the same
lost_alike : (ps : List (Pending Call)) (rs : List Sent) → map of_pending ps ≡ map of_sent rs → map lost ps ≡ map (settled_as Lost) rs
lost_alike [] [] e = refl
lost_alike [] (r ∷ rs) e = cc
lost_alike (p ∷ ps) [] e = cc
lost_alike (p ∷ ps) (r ∷ rs) e =
    let front : of_pending p ≡ of_sent r = cc in
    let tail : map of_pending ps ≡ map of_sent rs = cc in
    ap₂ (λ (a : Wanted Call) (l : List (Settlement Call)). settled_wanted Lost a ∷ l) front (lost_alike ps rs tail)

-- where the settled requests, and those that wait, are those that were sent (`AccountForSent`), those that wait are the ones sent
-- after the settled ones
waiting_alike : (settled : List (Settlement Call)) (waiting : List (Pending Call)) (sent : List Sent) → AccountForSent settled waiting sent
    → map of_pending waiting ≡ map of_sent (drop (length settled) sent)
waiting_alike settled waiting sent e =
    sym (drop-append_seam (map of_settled settled) (map of_pending waiting)) ∙ ap (drop (length (map of_settled settled))) e ∙ ap (λ k. drop k (map of_sent sent)) (length-map settled of_settled)
    ∙ drop-map of_sent (length settled) sent

-- the outcome that a reply line gives a request that waits: late where it had timed out, else the answer
abbrev outcome_of : Pending Call → List ℕ → Outcome
outcome_of p line = cond p.given_up Late (Answered line)

-- a reply with this line to request n, which the client has as p, settles the unsettled requests before n as lost and then n
-- itself, which is one that was sent
pub record SettlesThrough (settled : List (Settlement Call)) (waiting : List (Pending Call)) (sent : List Sent) (n : ℕ) (line : List ℕ) (p : Pending Call) : Type 0 where
  pub request : Sent
  pub found : slice_get sent n ≡ Some request
  pub settlements : settle (n - length settled) line waiting ≡ map (settled_as Lost) (between (length settled) n sent) ++ settled_as (outcome_of p line) request ∷ []

-- `SettlesThrough` holds where the settled requests, and those that wait, are those that were sent (`AccountForSent`), n isn't
-- below the count of settlements, and p waits as request n
settles_through : (settled : List (Settlement Call)) (waiting : List (Pending Call)) (sent : List Sent) (n : ℕ) (line : List ℕ) (p : Pending Call)
    → AccountForSent settled waiting sent → length settled ≤ n → slice_get waiting (n - length settled) ≡ Some p
    → SettlesThrough settled waiting sent n line p
settles_through settled waiting sent n line p whole le h =
    let m = length settled in
    let k = n - m in
    let alike = waiting_alike settled waiting sent whole in
    let some = partner_at of_pending of_sent waiting (drop m sent) k p alike h in
    let first : map of_pending (take k waiting) ≡ map of_sent (take k (drop m sent)) = sym (take-map of_pending k waiting) ∙ ap (take k) alike ∙ take-map of_sent k (drop m sent) in
    record {
      request = some.0;
      found = sym (slice_drop m sent n le) ∙ some.1;
      settlements =
          settle_is k line waiting p (drop (suc k) waiting) (drop_next waiting k p h)
          ∙ ap₂ (λ (l : List (Settlement Call)) (a : Wanted Call). l ++ settled_wanted (outcome_of p line) a ∷ []) (lost_alike (take k waiting) (take k (drop m sent)) first) (sym some.2);
    }

-- The run by numbers.

module _ {State : Type 0} (ends : Ends State) (width : ℕ) where
  -- delivering the front reply x, while the client counts x's request as unsettled, adds the settlements that `settle` makes by
  -- x's line: it goes through the unsettled requests up to that of x
  delivered : (w : World (ByNumber Call) State) (x : Numbered (List ℕ)) (rest : List (Numbered (List ℕ))) → w.wire.down ≡ x ∷ rest → w.client.count ≤ x.number
      → (happens ends (by_numbers width) w Down_deliver).wire.settled ≡ w.wire.settled ++ settle (x.number - w.client.count) x.line
      (drop w.client.count w.client.requests)
  delivered w x rest e le =
      ap (λ q. (down_delivered (by_numbers width) w q).wire.settled) e
      ∙ ap (λ old. w.wire.settled ++ (number_reply w.client x old).settlements) (le-ltb x.number w.client.count le)

  -- delivering the front reply x, while the client counts x's request as settled, settles nothing
  delivered_again : (w : World (ByNumber Call) State) (x : Numbered (List ℕ)) (rest : List (Numbered (List ℕ))) → w.wire.down ≡ x ∷ rest → x.number < w.client.count
      → (happens ends (by_numbers width) w Down_deliver).wire.settled ≡ w.wire.settled
  delivered_again w x rest e lt =
      ap (λ q. (down_delivered (by_numbers width) w q).wire.settled) e
      ∙ ap (λ old. w.wire.settled ++ (number_reply w.client x old).settlements) (lt-ltb x.number w.client.count lt) ∙ append-nil w.wire.settled

  -- where the client has as many requests as were sent, a send that isn't refused puts its request at the end of the client's
  -- list: its place is how many requests were sent before
  sent_entry : (w : World (ByNumber Call) State) (target : ℕ) (call : Call) (deadline : ℕ) (full : Bool) → length w.client.requests ≡ length w.wire.sent
      → length (requested w target call (number_send w.client target call deadline full)).wire.sent ≡ length w.wire.sent + 1
      → slice_get (requested w target call (number_send w.client target call deadline full)).client.requests (length w.wire.sent) ≡ Some
      (pending_of target call deadline)
  sent_entry w target call deadline true counted more = absurd (omega (arith, more))
  sent_entry w target call deadline false counted more =
      ap (λ k. slice_get (w.client.requests ++ pending_of target call deadline ∷ []) k) (sym counted) ∙ get_push w.client.requests (pending_of target call deadline)

-- the replies of the instrument `ends` have their requests' ids in good states (`Good`, `IsExchange`), and the restarted opening
-- state is one
module _ {State : Type 0} (ends : Ends State) (Good : State → Type 0) (ex : IsExchange ends Good) (width : ℕ) (narrow : width ≤ WINDOW)
    (opening : State) (good : Good (ends.restarted opening)) where
  -- the streams that the run by ids of these events leaves
  abbrev ids_after : List Event → Streams (ById Call) State
  ids_after events = streams_by_ids width ends events (ends.restarted opening)

  -- the streams that the run by numbers of these events leaves
  abbrev numbers_after : List Event → Streams (ByNumber Call) State
  numbers_after events = streams_by_numbers width ends events (ends.restarted opening)

  -- the two runs of these events are level
  level : (events : List Event) → AreLevel width narrow ends Good ex (ends.restarted opening) good (ids_after events) (numbers_after events)
  level events = level_at width narrow ends Good ex (ends.restarted opening) good events

  -- the run by numbers of these events ends in a sound world
  sound_in : (events : List Event) → Sound width ends Good (numbers_after events).world
  sound_in events = subst (Sound width ends Good) (sym (level events).numbers) (sound_at width narrow ends Good ex (level events).steps (ends.restarted opening) good)

  -- the two runs of these events leave the same wire
  wire_in : (events : List Event) → left_between ends width opening events ≡ (numbers_after events).world.wire
  wire_in events = level_wire width narrow ends Good ex (ends.restarted opening) good (ids_after events) (numbers_after events) (level events)

  -- the run by numbers of one more event is the run of the others, and then that event
  numbers_more : (events : List Event) (e : Event) → numbers_after (events ++ e ∷ []) ≡ flows ends (by_numbers width) (numbers_after events) e
  numbers_more events e = flow_append ends (by_numbers width) events (e ∷ []) (untouched (numbers_open (ends.restarted opening)))

  -- the streams after the earlier events and then the send of a request, in the run by numbers
  abbrev after_send : (earlier : List Event) (target : ℕ) (call : Call) (deadline : ℕ) → Streams (ByNumber Call) State
  after_send earlier target call deadline = flows ends (by_numbers width) (numbers_after earlier) (event.Send target call deadline)

  -- the request that this send made, as the oracle client has it after these later events, while it isn't settled
  abbrev mark_of : (earlier : List Event) (target : ℕ) (call : Call) (deadline : ℕ) (later : List Event) → Pending Call
  mark_of earlier target call deadline later = marked_all ends (by_numbers width) later (after_send earlier target call deadline) (pending_of target call deadline)

  -- where the events have the send of request n, and n isn't settled, the oracle client has it at place n as `mark_of` says
  entry : (events : List Event) (n : ℕ) (s : HasSend ends width opening events n)
      → length (left_between ends width opening events).settled ≤ n → slice_get (numbers_after events).world.client.requests n ≡ Some
      (mark_of s.earlier s.target s.call s.deadline s.later)
  entry events n s le =
      let e : Event = event.Send s.target s.call s.deadline in
      let v = (numbers_after s.earlier).world in
      let b = after_send s.earlier s.target s.call s.deadline in
      let w = b.world in
      let steps = taken ends (by_numbers width) s.later b in
      let here : length v.wire.sent ≡ n = ap (λ (u : Wire State). length u.sent) (sym (wire_in s.earlier)) ∙ s.number in
      let more : length w.wire.sent ≡ length v.wire.sent + 1 =
      ap (λ (u : Streams (ByNumber Call) State). length u.world.wire.sent) (sym (numbers_more s.earlier e)) ∙ ap (λ (u : Wire State). length u.sent) (sym (wire_in (s.earlier ++ e ∷ [])))
      ∙ s.taken ∙ ap (λ m. m + 1) (sym here) in
      let full = eqb (length v.client.requests - v.client.count) width in
      let at : slice_get w.client.requests n ≡ Some (pending_of s.target s.call s.deadline) =
      ap (slice_get w.client.requests) (sym here) ∙ sent_entry ends width v s.target s.call s.deadline full (sound_in s.earlier).counted more in
      let whole : (numbers_after events).world ≡ run ends (by_numbers width) steps w =
      ap (λ es. (numbers_after es).world) s.order
      ∙ ap (λ (u : Streams (ByNumber Call) State). u.world) (flow_append ends (by_numbers width) s.earlier (e ∷ s.later) (untouched (numbers_open (ends.restarted opening))))
      ∙ flow_run ends (by_numbers width) s.later b in
      let unsettled : (numbers_after events).world.client.count ≤ n = omega (arith, (sound_in events).booked, ap (λ (u : Wire State). length u.settled) (wire_in events), le) in
      subst (λ (u : World (ByNumber Call) State). slice_get u.client.requests n ≡ Some (mark_of s.earlier s.target s.call s.deadline s.later)) (sym whole)
      (entry_all width ends Good ex steps w n (pending_of s.target s.call s.deadline)
      (sound_step width ends Good call_line ex v (Send s.target s.call s.deadline) (sound_in s.earlier)) at
      (subst (λ (u : World (ByNumber Call) State). u.client.count ≤ n) whole unsettled))

  -- an event that delivers the front reply, if there is one, leaves in the run by ids the settlements that the step
  -- `Down_deliver` leaves in the run by numbers
  delivered_by : (events : List Event) (delivery : Event) → IsDelivery (ids_after events) delivery
      → (left_between ends width opening (events ++ delivery ∷ [])).settled ≡ (happens ends (by_numbers width) (numbers_after events).world Down_deliver).wire.settled
  delivered_by events delivery is =
      let one : left_between ends width opening (events ++ delivery ∷ []) ≡ left_between ends width opening (events ++ DownDeliver ∷ []) =
      ap (λ (v : Streams (ById Call) State). v.world.wire)
      (flow_append ends (by_ids width ends) events (delivery ∷ []) (untouched (ids_open (ends.restarted opening)))
      ∙ delivery_is ends (by_ids width ends) (ids_after events) delivery is
      ∙ sym (flow_append ends (by_ids width ends) events (DownDeliver ∷ []) (untouched (ids_open (ends.restarted opening))))) in
      ap (λ (u : Wire State). u.settled) (one ∙ wire_in (events ++ DownDeliver ∷ [])) ∙ ap (λ (u : Streams (ByNumber Call) State). u.world.wire.settled) (numbers_more events DownDeliver)

  -- where the oracle client has p as request n, the delivery of a reply to request n, while this isn't settled, settles it: as
  -- late where p had timed out, else as answered
  settled_at : (events : List Event) (n : ℕ) (line : List ℕ) (p : Pending Call) → slice_get (numbers_after events).world.client.requests n ≡ Some p
      → DeliverySettles ends width opening events n line (outcome_of p line)
  settled_at events n line p h delivery is next =
      let l = level events in
      let a = run_by_ids width ends l.steps (ends.restarted opening) in
      let same : (ids_after events).world ≡ a = l.ids in
      let b = (numbers_after events).world in
      let agree = subst (Agree width narrow ends Good a) (sym l.numbers) (agree_at width narrow ends Good ex l.steps (ends.restarted opening) good) in
      let front : a.wire.down ≡ record { number = n; line = line } ∷ next.behind = ap (λ (u : World (ById Call) State). u.wire.down) (sym same) ∙ next.front in
      let unsettled : length a.wire.settled ≤ n = subst (λ (u : World (ById Call) State). length u.wire.settled ≤ n) same next.unsettled in
      let count : b.client.count ≡ length a.wire.settled = sym (sound_in events).booked ∙ ap (λ (u : Wire State). length u.settled) (sym agree.wire) in
      let window = agree.client.window in
      let place : slice_get a.client.waiting (n - length a.wire.settled) ≡ Some p =
      ap (λ m. slice_get a.client.waiting (n - m)) (sym count) ∙ ap (λ ps. slice_get ps (n - b.client.count)) window
      ∙ slice_drop b.client.count b.client.requests n (omega (arith, count, unsettled)) ∙ h in
      let does = settles_through a.wire.settled a.client.waiting a.wire.sent n line p (whole_at width ends call_line l.steps (ends.restarted opening)) unsettled place in
      let x : Numbered (List ℕ) = record { number = n; line = line } in
      let down : b.wire.down ≡ x ∷ next.behind = ap (λ (u : Wire State). u.down) (sym agree.wire) ∙ front in
      let after : (left_between ends width opening (events ++ delivery ∷ [])).settled ≡ b.wire.settled ++ settle (n - b.client.count) line (drop b.client.count b.client.requests) =
      delivered_by events delivery is
      ∙ delivered ends width b x next.behind down (omega (arith, count, unsettled)) in
      subst (λ (u : World (ById Call) State). IsSettledAs u.wire (left_between ends width opening (events ++ delivery ∷ [])) n (outcome_of p line)) (sym same)
      (record {
        request = does.request;
        found = does.found;
        settled =
            after ∙ ap₂ (λ (u : Wire State) (ps : List (Pending Call)). u.settled ++ settle (n - b.client.count) line ps) (sym agree.wire) (sym window)
            ∙ ap (λ m. a.wire.settled ++ settle (n - m) line a.client.waiting) count ∙ ap (λ l. a.wire.settled ++ l) does.settlements
            ∙ sym (append_assoc a.wire.settled (map (settled_as Lost) (between (length a.wire.settled) n a.wire.sent)) (settled_as (outcome_of p line) does.request ∷ []));
      })

  -- where request n is in time after these events, the delivery of a first reply to it settles it as answered with the reply's
  -- line, and the unsettled requests before it as lost (`DeliverySettles`)
  pub in_time_is_answered : (events : List Event) (n : ℕ) (line : List ℕ) → IsInTime ends width opening events n → DeliverySettles ends width opening events n line (Answered line)
  in_time_is_answered events n line t delivery is next =
      let s = t.sent in
      let p = mark_of s.earlier s.target s.call s.deadline s.later in
      subst (λ b. IsSettledAs (left_between ends width opening events) (left_between ends width opening (events ++ delivery ∷ [])) n (cond b Late (Answered line)))
      (in_time ends (by_numbers width) s.later (after_send s.earlier s.target s.call s.deadline) (pending_of s.target s.call s.deadline) refl t.early)
      (settled_at events n line p (entry events n s next.unsettled) delivery is next)

  -- where request n is too late after these events, the delivery of a first reply to it settles it as late, and the unsettled
  -- requests before it as lost (`DeliverySettles`)
  pub too_late_is_late : (events : List Event) (n : ℕ) (line : List ℕ) → IsTooLate ends width opening events n → DeliverySettles ends width opening events n line Late
  too_late_is_late events n line t delivery is next =
      let s = t.sent in
      let p = mark_of s.earlier s.target s.call s.deadline s.later in
      subst (λ b. IsSettledAs (left_between ends width opening events) (left_between ends width opening (events ++ delivery ∷ [])) n (cond b Late (Answered line)))
      (too_late ends (by_numbers width) s.later (after_send s.earlier s.target s.call s.deadline) (pending_of s.target s.call s.deadline) t.now t.given t.reached)
      (settled_at events n line p (entry events n s next.unsettled) delivery is next)

  -- the delivery of the front reply settles nothing where it belongs to a request n that is settled already
  pub no_second : (events : List Event) (n : ℕ) (line : List ℕ) (rest : List (Numbered (List ℕ))) (delivery : Event) → IsDelivery (ids_after events) delivery
      → (left_between ends width opening events).down ≡ record { number = n; line = line } ∷ rest → n < length (left_between ends width opening events).settled
      → (left_between ends width opening (events ++ delivery ∷ [])).settled ≡ (left_between ends width opening events).settled
  no_second events n line rest delivery is front lt =
      let b = (numbers_after events).world in
      let same = sym (wire_in events) in
      let x : Numbered (List ℕ) = record { number = n; line = line } in
      let old : n < b.client.count = omega (arith, (sound_in events).booked, ap (λ (u : Wire State). length u.settled) same, lt) in
      delivered_by events delivery is
      ∙ delivered_again ends width b x rest (ap (λ (u : Wire State). u.down) same ∙ front) old ∙ ap (λ (u : Wire State). u.settled) same
