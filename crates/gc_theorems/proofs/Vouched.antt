-- Each line that comes was made for its request as its call was executed, whatever is repeated or lost, and however often the
-- instrument starts again; requests that `E` names are excepted. M n call line is any property that the reply to each executed
-- request has. The client is given the number of each reply's request: `count` of its requests are settled, and request n has the
-- id n - `since` modulo 8. What the instrument keeps is a reply to `last`, the last request that it was handed and that
-- `knows` names, or to a later one; `low` is at most `last` + 1. Where `MustKnow` holds, each request that is sent is known.
use Rattle.gc_theorems.proofs.Common.{◌≡◌, ℕ, ◌+◌, ◌-◌, ◌%◌, ◌<◌, ◌≤◌, ◌⊎◌, inl, inr, Bool, true, false, List, [], ◌∷◌, ◌++◌, length, drop, Option, Some, None, refl, sym, ◌∙◌, ap, subst, arith, ltb, eqb, AllByRecursion, length_push, ltb-false, true≢false, all_append, every_weaker as all_on, Asked, asked_line, Settlement, Sending, pending_of, Handed, KeptReply, ByNumber, number_send, number_reply, by_numbers, Rising, numbers, Request, Sent, Numbered, Ends, Step, Up_deliver, Up_lose, Up_repeat, Down_lose, Down_repeat, Nothing, World, without, doubled, replied, up_delivered, with_up, with_down, started, on_wire, requested, with_settled, down_delivered, happens, written, Has, has_more, has_push, same_Some, none-some, get_push, all_at, IsAsSent, as_sent_more, each_without, each_doubled, rising_each, rising_tail, IsGoing, Sound, IsLineStep, IsAnInstrumentFor, KeepsItsReply, MayBeKept, MayForget, own_reply}
use Rattle.gc_world.proofs.Places.{get_more}
use Rattle.gc_theorems.proofs.Answered.{HoldsOfAll, holds_more, holds_append, holds_settled}
use Rattle.gc_theorems.proofs.Once.{IsClimbing, IsIdle, IsOrdered, IsUnknown, climbing_started, climbing_acted, climbing_handed, climbing_sent, known_not_unknown, ordered_acted, ordered_handed, unknown_more, idle_or_latest_if_executed}
use Rattle.gc_theorems.proofs.KeptReplies.{VouchedFields, fields_of, log_of, unknown_or_retained, KeptIs, kept_more, kept_still, newest, newest_not_before, newest_not_later, IsNoNewerKnown, newest_no_newer, kept_handed, IsVouched, ReplyHas}
use Rattle.gc_theorems.proofs.NearTable.{IsNear, near_kept, near_handed, near_if_below}

module _ {State : Type 0} (width : ℕ) (narrow : width ≤ 7) (knows : Asked → Bool) (ends : Ends State) (Good : State → Type 0)
    (kept : State → Option KeptReply) (keeper : IsAnInstrumentFor ends Good kept knows) (low : ℕ) (E : ℕ → Type 0) (MustKnow : Type 0) (M : ℕ → Asked → List ℕ → Type 0) where
  -- request n is `IsNoNewerKnown`; and it is one of those that are excepted, or the line is vouched for as its reply
  abbrev pub Vouched : (sent : List Sent) (executed : List ℕ) (made : List (Numbered (List ℕ))) (last n : ℕ) (line : List ℕ) → Type 0
  Vouched sent executed made last n line = IsNoNewerKnown knows sent last n × (E n ⊎ IsVouched ends Good M sent executed made n line)

  -- `Vouched` is preserved where further requests are sent
  stays_sent : (sent more : List Sent) (executed : List ℕ) (made : List (Numbered (List ℕ))) (last n : ℕ) (line : List ℕ)
      → Vouched sent executed made last n line → Vouched (sent ++ more) executed made last n line
  stays_sent sent more executed made last n line h = (no_newer h.0, own h.1) where
    -- request n stays `IsNoNewerKnown` where more requests are sent
    no_newer : IsNoNewerKnown knows sent last n → IsNoNewerKnown knows (sent ++ more) last n
    no_newer (inl l) = inl l
    no_newer (inr u) = inr (unknown_more knows sent more n u)

    -- request n stays excepted, or its line vouched for, where more requests are sent
    own : E n ⊎ IsVouched ends Good M sent executed made n line → E n ⊎ IsVouched ends Good M (sent ++ more) executed made n line
    own (inl e) = inl e
    own (inr v) = inr (record { among = v.among; acted = v.acted; request = v.request; found = get_more sent more n v.request v.found; reply = v.reply; on = v.on })

  -- `Vouched` is preserved where further requests are handed to the instrument, if what was executed before is among what was
  -- executed then (`after`), and the newest known request then, `next`, isn't before that of before, `last`
  stays_on : (sent : List Sent) (executed after : List ℕ) (made more : List (Numbered (List ℕ))) (last next n : ℕ) (line : List ℕ) → ((i : ℕ) → Has i executed → Has i after)
      → last ≤ next → Vouched sent executed made last n line → Vouched sent after (made ++ more) next n line
  stays_on sent executed after made more last next n line lasts le h = (no_newer h.0, own h.1) where
    -- request n stays `IsNoNewerKnown` where a later request is the newest known one
    no_newer : IsNoNewerKnown knows sent last n → IsNoNewerKnown knows sent next n
    no_newer (inl l) = inl (omega (arith, l, le))
    no_newer (inr u) = inr u

    -- request n stays excepted, or its line vouched for, where more requests are executed and more replies made
    own : E n ⊎ IsVouched ends Good M sent executed made n line → E n ⊎ IsVouched ends Good M sent after (made ++ more) n line
    own (inl e) = inl e
    own (inr v) = inr (record { among = has_more _ made more v.among; acted = lasts n v.acted; request = v.request; found = v.found; reply = v.reply; on = v.on })

  -- the invariant, over the fields of a world: each reply in flight, the kept reply, and each answer is vouched for; each
  -- request in flight is one that was sent; executions are in order, and each request acts once to which the instrument keeps
  -- its reply; and the numbers fit as said below
  pub record AllVouchedIn (v : VouchedFields) : Type 0 where
    -- the number of the last request that the instrument was handed is one less than this
    pub top : ℕ
    -- the number of the newest request that is known
    pub last : ℕ
    -- what is settled was handed to the instrument, and what was handed to it was sent
    pub counted : v.count ≤ top
    pub within : top ≤ length v.sent
    -- the newest known request was handed, too; `low` is at most one above it
    pub lower : last < top
    pub least : low ≤ last + 1
    -- no request in flight is before the last one handed, and no reply in flight is to a later one
    pub above : AllByRecursion (λ x. top ≤ x.number + 1) v.up
    pub below : AllByRecursion (λ x. x.number < top) v.down
    pub holds : KeptIs (Vouched v.sent v.executed v.made last) v.since top last v.retained
    pub lines : AllByRecursion (IsAsSent written v.sent) v.up
    pub near : IsNear knows E MustKnow v.sent top last
    pub coming : AllByRecursion (λ x. Vouched v.sent v.executed v.made last x.number x.line) v.down
    pub answers : HoldsOfAll (Vouched v.sent v.executed v.made last) 0 v.settled
    pub order : IsOrdered top v.executed
    pub once : (keeps : Asked → Bool) → KeepsItsReply ends Good kept keeps → IsClimbing keeps v.since top (log_of v)

  -- the invariant of a world
  abbrev pub AllVouched : World (ByNumber Asked) State → Type 0
  AllVouched w = AllVouchedIn (fields_of kept w)

  -- `AllVouchedIn` is preserved if a request is sent, which is known if all have to be
  vouched_sent : (v : VouchedFields) (target id : ℕ) (call : Asked) → id < 8 → (MustKnow → knows call ≡ true) → AllVouchedIn v
      → AllVouchedIn (record v {
        sent = v.sent ++ record { target = target; call = call; line = asked_line (Some id) call } ∷ [];
        up = v.up ++ record { number = length v.sent; line = record { id = id; call = call } } ∷ [];
      })
  vouched_sent v target id call digit plain h =
      let r : Sent = record { target = target; call = call; line = asked_line (Some id) call } in
      let P = Vouched v.sent v.executed v.made h.last in
      let Q = Vouched (v.sent ++ r ∷ []) v.executed v.made h.last in
      let f = stays_sent v.sent (r ∷ []) v.executed v.made h.last in
      record {
        top = h.top;
        last = h.last;
        counted = h.counted;
        within = omega (arith, h.within, length_push v.sent r);
        lower = h.lower;
        least = h.least;
        above = all_append _ v.up _ h.above (omega (arith, h.within), tt);
        below = h.below;
        holds = kept_more P Q f v.since h.top h.last v.retained h.holds;
        lines = all_append _ v.up _ (all_on _ _ v.up (as_sent_more written v.sent (r ∷ [])) h.lines) (record { request = r; found = get_push v.sent r; small = digit; call = refl; text = refl }, tt);
        near = near_sent r plain h.near;
        coming = all_on (λ (x : Numbered (List ℕ)). P x.number x.line) (λ x. Q x.number x.line) v.down (λ x. f x.number x.line) h.coming;
        answers = holds_more P Q f 0 v.settled h.answers;
        order = h.order;
        once = λ keeps is. climbing_sent keeps v.since h.top (log_of v) (r ∷ []) (h.once keeps is);
      }
    where
      -- `IsNear` is preserved if the request r is sent, which is known if all have to be
      near_sent : (r : Sent) → (MustKnow → knows r.call ≡ true) → IsNear knows E MustKnow v.sent h.top h.last → IsNear knows E MustKnow (v.sent ++ r ∷ []) h.top h.last
      near_sent r plain (inl n) = inl (n.0, n.1, all_append (λ (r : Sent). knows r.call ≡ true) v.sent (r ∷ []) n.2 (plain n.0, tt))
      near_sent r plain (inr n) = inr n

  -- `AllVouched` is preserved if the client sends a request, which is known if all have to be
  vouched_send : (w : World (ByNumber Asked) State) (target : ℕ) (call : Asked) (deadline : ℕ) (full : Bool) (x : Sending (ByNumber Asked)) → (MustKnow → knows call ≡ true)
      → number_send w.client target call deadline full ≡ Some x → AllVouched w → AllVouched (requested w target call (Some x))
  vouched_send w target call deadline true x plain e h = cc
  vouched_send w target call deadline false x plain e h =
      let c = w.client in
      let id = (length c.requests - c.since) % 8 in
      let y : Sending (ByNumber Asked) = record { id = id; client = record { count = c.count; requests = c.requests ++ pending_of target call deadline ∷ []; since = c.since } } in
      subst (λ z. AllVouched (requested w target call (Some z))) (same_Some y x e)
      (vouched_sent (fields_of kept w) target id call (omega arith) plain h)

  -- what `AllVouched` says of the front request, x, of which `known` says whether it is one that `knows` names
  record FrontIs (w : World (ByNumber Asked) State) (h : AllVouched w) (x : Numbered Request) (known : Bool) : Type 0 where
    recent : w.client.since ≤ x.number
    sent : x.number < length w.wire.sent
    id : x.line.id ≡ (x.number - w.client.since) % 8
    small : x.line.id < 8
    top : h.top ≤ x.number + 1
    least : h.last ≤ x.number
    near : E x.number ⊎ (x.number ≤ h.last + 7)
    of : IsAsSent written w.wire.sent x
    unknown : (known ≡ false) → IsUnknown knows w.wire.sent x.number
    all : AllByRecursion (λ (r : Sent). knows r.call ≡ true) w.wire.sent → known ≡ true

  -- in a sound world of which `AllVouched` holds, the front request, x, is as `FrontIs` says
  front_is : (w : World (ByNumber Asked) State) (x : Numbered Request) (rest : List (Numbered Request)) (known : Bool) → w.wire.up ≡ x ∷ rest → knows x.line.call ≡ known → Sound width ends Good w
      → (h : AllVouched w) → FrontIs w h x known
  front_is w x rest known q is s h =
      let c = w.client in
      let g = (subst (λ l. AllByRecursion (IsGoing c.since (length c.requests)) l) q s.going).0 in
      let a = (subst (λ l. AllByRecursion (λ y. h.top ≤ y.number + 1) l) q h.above).0 in
      let o = (subst (λ l. AllByRecursion (IsAsSent written w.wire.sent) l) q h.lines).0 in
      record {
        recent = g.recent;
        sent = omega (arith, g.sent, s.counted);
        id = g.id;
        small = o.small;
        top = a;
        least = omega (arith, a, h.lower);
        near = near_if_below knows E MustKnow w.wire.sent h.top h.last x.number (omega (arith, g.sent, s.few, h.counted, narrow)) h.near;
        of = o;
        unknown = λ not. (o.request, o.found, ap knows o.call ∙ is ∙ not);
        all = λ every. sym is ∙ sym (ap knows o.call) ∙ all_at (λ (r : Sent). knows r.call ≡ true) w.wire.sent x.number o.request every o.found;
      }

  -- the front request, x, was handed to the instrument, which sent this line for it: `executed` are all executions then, and
  -- `after` is what is kept. What was executed before is among them (`lasts`), what is kept is as `MayBeKept` says
  -- (`now`), the line is vouched for, or x excepted (`new`), and the executions are in order and act once
  record WasHanded (w : World (ByNumber Asked) State) (x : Numbered Request) (known : Bool) (line executed : List ℕ) (after : Option KeptReply) : Type 0 where
    lasts : (i : ℕ) → Has i w.wire.executed → Has i executed
    now : MayBeKept known (record { id = x.line.id; line = line }) (kept w.wire.state) after
    new : E x.number ⊎ IsVouched ends Good M w.wire.sent executed (w.wire.made ++ record { number = x.number; line = line } ∷ []) x.number line
    order : IsOrdered (x.number + 1) executed
    once : (keeps : Asked → Bool) → KeepsItsReply ends Good kept keeps
        → IsClimbing keeps w.client.since (x.number + 1) (record { sent = w.wire.sent; executed = executed; starts = w.wire.starts; retained = after })

  -- `AllVouchedIn` is preserved if the front request, x, is handed to the instrument, as `WasHanded` says
  vouched_on : (w : World (ByNumber Asked) State) (x : Numbered Request) (rest : List (Numbered Request)) (known : Bool) (line executed : List ℕ) (after : Option KeptReply) → w.wire.up ≡ x ∷ rest
      → (h : AllVouched w) → FrontIs w h x known → Sound width ends Good w → WasHanded w x known line executed after
      → AllVouchedIn (record (fields_of kept w) {
        executed = executed;
        made = w.wire.made ++ record { number = x.number; line = line } ∷ [];
        up = rest;
        down = w.wire.down ++ record { number = x.number; line = line } ∷ [];
        retained = after;
      })
  vouched_on w x rest known line executed after q h front s was =
      let c = w.client in
      let v = w.wire in
      let n = x.number in
      let m : Numbered (List ℕ) = record { number = n; line = line } in
      let next = newest known n h.last in
      let up : h.last ≤ next = newest_not_before known n h.last front.least in
      let P = Vouched v.sent v.executed v.made h.last in
      let Q = Vouched v.sent executed (v.made ++ m ∷ []) next in
      let f : (i : ℕ) (line : List ℕ) → P i line → Q i line = λ i line p. stays_on v.sent v.executed executed v.made (m ∷ []) h.last next i line was.lasts up p in
      let own : Q n line = (newest_no_newer knows v.sent known n h.last front.unknown, was.new) in
      let rising = rising_tail c.count n (numbers v.down) (numbers rest) (subst (λ l. Rising c.count (numbers v.down ++ numbers l)) q s.order) in
      let o = subst (λ l. AllByRecursion (IsAsSent written v.sent) l) q h.lines in
      let low : next ≤ n = newest_not_later known n h.last front.least in
      record {
        top = n + 1;
        last = next;
        counted = omega (arith, h.counted, front.top);
        within = omega (arith, front.sent);
        lower = omega (arith, low);
        least = omega (arith, h.least, up);
        above = rising_each (n + 1) rest rising.1;
        below =
            all_append _ v.down _ (all_on (λ (y : Numbered (List ℕ)). y.number < h.top) (λ y. y.number < n + 1) v.down (λ y l. omega (arith, l, front.top)) h.below)
            (omega arith, tt);
        holds =
            kept_handed Q c.since h.top h.last n (record { id = x.line.id; line = line }) known (kept v.state) after front.top
            (record { number = n; recent = front.recent; before = omega arith; behind = low; id = front.id; line = own }) was.now
            (kept_more P Q f c.since h.top h.last (kept v.state) h.holds);
        lines = o.1;
        near = near_handed knows E MustKnow v.sent h.top h.last n known front.least front.all h.near;
        coming = all_append _ v.down _ (all_on (λ (y : Numbered (List ℕ)). P y.number y.line) (λ y. Q y.number y.line) v.down (λ y. f y.number y.line) h.coming) (own, tt);
        answers = holds_more P Q f 0 v.settled h.answers;
        order = was.order;
        once = was.once;
      }

  -- if what is kept has the id of the front request, x, then x is excepted, or the kept line is vouched for as its reply
  again_own : (w : World (ByNumber Asked) State) (x : Numbered Request) (known : Bool) (line : List ℕ) (k : Option KeptReply) → (h : AllVouched w) → FrontIs w h x known → kept w.wire.state ≡ k
      → k ≡ Some (record { id = x.line.id; line = line })
      → E x.number ⊎ IsVouched ends Good M w.wire.sent w.wire.executed (w.wire.made ++ record { number = x.number; line = line } ∷ []) x.number line
  again_own w x known line None h front ke e = absurd (none-some (record { id = x.line.id; line = line }) e)
  again_own w x known line (Some k) h front ke e =
      let v = w.wire in
      let m : Numbered (List ℕ) = record { number = x.number; line = line } in
      let held = subst (λ k. KeptIs (Vouched v.sent v.executed v.made h.last) w.client.since h.top h.last k) (ke ∙ e) h.holds in
      elim (near_kept knows E MustKnow w.client.since h.top h.last x.number (record { id = x.line.id; line = line })
      (Vouched v.sent v.executed v.made h.last) held front.recent front.top front.id front.near) [
        | inl e ↦ inl e
        | inr p ↦ (stays_on v.sent v.executed v.executed v.made (m ∷ []) h.last h.last x.number line (λ i has. has) (omega arith) p).1
      ]

  -- what the instrument keeps after the front request is as `MayBeKept` says
  abbrev AfterIs : World (ByNumber Asked) State → Numbered Request → Handed State → Bool → Type 0
  AfterIs w x hd known = MayBeKept known (own_reply x.line.id hd) (kept w.wire.state) (kept hd.state)

  -- in a sound world `AllVouched` is preserved if the front request isn't executed, and the kept line is sent again for it
  vouched_again : (w : World (ByNumber Asked) State) (x : Numbered Request) (rest : List (Numbered Request)) (hd : Handed State) (known : Bool) → w.wire.up ≡ x ∷ rest
      → ends.handed w.wire.state x.line.id x.line.call ≡ hd → knows x.line.call ≡ known → kept w.wire.state ≡ Some (record { id = x.line.id; line = hd.reply }) → AfterIs w x hd known
      → Sound width ends Good w → AllVouched w → AllVouched (on_wire w (replied w.wire x.number rest (record hd { executed = false })))
  vouched_again w x rest hd known q is what same now s h =
      let c = w.client in
      let v = w.wire in
      let front = front_is w x rest known q what s h in
      vouched_on w x rest known hd.reply v.executed (kept hd.state) q h front s (record {
        lasts = λ i has. has;
        now = now;
        new = again_own w x known hd.reply (kept v.state) h front refl same;
        order = ordered_handed h.top x.number v.executed front.top h.order;
        once = λ keeps k.
            climbing_handed keeps c.since h.top x.number (log_of (fields_of kept w)) (kept hd.state) front.top
            (unknown_or_retained ends Good kept w x hd keeps (keeps x.line.call) refl k is s.good c.since front.id front.of) (h.once keeps k);
      })

  -- in a good state, if the front request, x, is executed, and the instrument keeps its reply to each request that `keeps`
  -- names: `keeps` doesn't name x, or nothing was executed since the last start, or x is later than all that were handed before
  acted_by : (w : World (ByNumber Asked) State) (x : Numbered Request) (hd : Handed State) (known : Bool) (keeps : Asked → Bool) (b : Bool) → keeps x.line.call ≡ b
      → KeepsItsReply ends Good kept keeps → ends.handed w.wire.state x.line.id x.line.call ≡ hd → hd.executed ≡ true → Good w.wire.state → (h : AllVouched w) → FrontIs w h x known
      → IsUnknown keeps w.wire.sent x.number ⊎ (IsIdle w.wire.executed w.wire.starts ⊎ (h.top ≤ x.number))
  acted_by w x hd known keeps true e k is exe good h front =
      let v = w.wire in
      let o = front.of in
      inr (idle_or_latest_if_executed keeps w.client.since h.top x.number x.line.id (log_of (fields_of kept w)) (known_not_unknown keeps v.sent x.number o.request o.found (ap keeps o.call ∙ e))
      front.id front.top (λ line same. true≢false (sym exe ∙ sym (ap (λ (k : Handed State). k.executed) is) ∙ k.again v.state x.line.id x.line.call line good o.small e same)) (h.once keeps k))
  acted_by w x hd known keeps false e k is exe good h front = inl (front.of.request, front.of.found, ap keeps front.of.call ∙ e)

  -- in a sound world `AllVouched` is preserved if the front request is executed, and its reply has the property M
  vouched_new : (w : World (ByNumber Asked) State) (x : Numbered Request) (rest : List (Numbered Request)) (hd : Handed State) (known : Bool) → w.wire.up ≡ x ∷ rest
      → ends.handed w.wire.state x.line.id x.line.call ≡ hd → knows x.line.call ≡ known → hd.executed ≡ true → M x.number x.line.call hd.reply → AfterIs w x hd known
      → Sound width ends Good w → AllVouched w → AllVouched (on_wire w (replied w.wire x.number rest (record hd { executed = true })))
  vouched_new w x rest hd known q is what exe on now s h =
      let c = w.client in
      let v = w.wire in
      let n = x.number in
      let front = front_is w x rest known q what s h in
      let o = front.of in
      let m : Numbered (List ℕ) = record { number = n; line = hd.reply } in
      vouched_on w x rest known hd.reply (v.executed ++ n ∷ []) (kept hd.state) q h front s (record {
        lasts = λ i has. has_more i v.executed (n ∷ []) has;
        now = now;
        new = inr (record {
          among = has_push m v.made;
          acted = has_push n v.executed;
          request = o.request;
          found = o.found;
          reply = record {
            state = v.state;
            good = s.good;
            id = x.line.id;
            small = o.small;
            executed = ap (λ call. (ends.handed v.state x.line.id call).executed) o.call ∙ ap (λ (k : Handed State). k.executed) is ∙ exe;
            reply = sym (ap (λ (k : Handed State). k.reply) is) ∙ ap (λ call. (ends.handed v.state x.line.id call).reply) (sym o.call);
          };
          on = subst (λ call. M n call hd.reply) (sym o.call) on;
        });
        order = ordered_acted h.top n v.executed front.top h.order;
        once = λ keeps k.
            climbing_acted keeps c.since h.top n (log_of (fields_of kept w)) (kept hd.state) front.top (acted_by w x hd known keeps (keeps x.line.call) refl k is exe s.good h front)
            (unknown_or_retained ends Good kept w x hd keeps (keeps x.line.call) refl k is s.good c.since front.id front.of) (h.once keeps k);
      })

  -- in a sound world `AllVouched` is preserved if the front request is handed to the instrument, whether that executes it (`b`)
  -- or not; if it does, the reply has the property M
  vouched_handed : (w : World (ByNumber Asked) State) (x : Numbered Request) (rest : List (Numbered Request)) (hd : Handed State) (b : Bool) → w.wire.up ≡ x ∷ rest
      → ends.handed w.wire.state x.line.id x.line.call ≡ hd → hd.executed ≡ b → (hd.executed ≡ true → M x.number x.line.call hd.reply)
      → Sound width ends Good w → AllVouched w → AllVouched (on_wire w (replied w.wire x.number rest (record hd { executed = b })))
  vouched_handed w x rest hd b q is exe on s h = chosen b exe where
    -- the request's id is below 8
    small : x.line.id < 8
    small = (subst (λ l. AllByRecursion (IsAsSent written w.wire.sent) l) q h.lines).0.small

    -- what the instrument keeps after the request is as `AfterIs` says
    now : AfterIs w x hd (knows x.line.call)
    now =
        subst (λ (k : Handed State). MayBeKept (knows x.line.call) (own_reply x.line.id k) (kept w.wire.state) (kept k.state))
        is (keeper.keeps w.wire.state x.line.id x.line.call s.good small)

    -- if the request isn't executed, the line that is sent for it is the kept one
    same : hd.executed ≡ false → kept w.wire.state ≡ Some (record { id = x.line.id; line = hd.reply })
    same not =
        subst (λ (k : Handed State). k.executed ≡ false → kept w.wire.state ≡ Some (record { id = x.line.id; line = k.reply })) is
        (keeper.repeats w.wire.state x.line.id x.line.call s.good small) not

    -- the lemma above, by whether the request is executed (`b`)
    chosen : (b : Bool) → hd.executed ≡ b → AllVouched (on_wire w (replied w.wire x.number rest (record hd { executed = b })))
    chosen false not = vouched_again w x rest hd (knows x.line.call) q is refl (same not) now s h
    chosen true exe = vouched_new w x rest hd (knows x.line.call) q is refl exe (on exe) now s h

  -- `AllVouchedIn` is preserved if nothing is sent, executed or made, and what is in flight, settled and kept meets its clauses
  vouched_still : (w : World (ByNumber Asked) State) (count : ℕ) (settled : List (Settlement Asked)) (up : List (Numbered Request)) (down : List (Numbered (List ℕ))) (starts : List ℕ) (retained : Option KeptReply)
      → (h : AllVouched w) → count ≤ h.top → AllByRecursion (λ x. h.top ≤ x.number + 1) up → AllByRecursion (IsAsSent written w.wire.sent) up → AllByRecursion (λ x. x.number < h.top) down
      → AllByRecursion (λ x. Vouched w.wire.sent w.wire.executed w.wire.made h.last x.number x.line) down → HoldsOfAll (Vouched w.wire.sent w.wire.executed w.wire.made h.last) 0 settled
      → KeptIs (Vouched w.wire.sent w.wire.executed w.wire.made h.last) w.client.since h.top h.last retained
      → ((keeps : Asked → Bool) → KeepsItsReply ends Good kept keeps → IsClimbing keeps w.client.since h.top
      (record { sent = w.wire.sent; executed = w.wire.executed; starts = starts; retained = retained }))
      → AllVouchedIn (record (fields_of kept w) { count = count; settled = settled; up = up; down = down; starts = starts; retained = retained })
  vouched_still w count settled up down starts retained h counted above lines below coming answers holds once = record {
    top = h.top;
    last = h.last;
    counted = counted;
    within = h.within;
    lower = h.lower;
    least = h.least;
    above = above;
    below = below;
    holds = holds;
    lines = lines;
    near = h.near;
    coming = coming;
    answers = answers;
    order = h.order;
    once = once;
  }

  -- `AllVouchedIn` is preserved if the front reply comes, if the settlements that there are then (`settled`) are vouched for;
  -- `count` says how many requests are settled then
  reply_came : (w : World (ByNumber Asked) State) (x : Numbered (List ℕ)) (rest : List (Numbered (List ℕ))) (count : ℕ) (settled : List (Settlement Asked)) → w.wire.down ≡ x ∷ rest
      → (h : AllVouched w) → count ≤ h.top → HoldsOfAll (Vouched w.wire.sent w.wire.executed w.wire.made h.last) 0 settled
      → AllVouchedIn (record (fields_of kept w) { count = count; settled = settled; down = rest })
  reply_came w x rest count settled e h few answers =
      let v = w.wire in
      let P = Vouched v.sent v.executed v.made h.last in
      vouched_still w count settled v.up rest v.starts (kept v.state) h few h.above h.lines
      (subst (λ (q : List (Numbered (List ℕ))). AllByRecursion (λ (y : Numbered (List ℕ)). y.number < h.top) q) e h.below).1
      (subst (λ (q : List (Numbered (List ℕ))). AllByRecursion (λ (y : Numbered (List ℕ)). P y.number y.line) q) e h.coming).1 answers h.holds h.once

  -- where `count` counts what is settled, `AllVouched` is preserved if the front reply comes, its request settled (`old`) or not
  vouched_reply : (w : World (ByNumber Asked) State) (x : Numbered (List ℕ)) (rest : List (Numbered (List ℕ))) (old : Bool) → ltb x.number w.client.count ≡ old
      → w.wire.down ≡ x ∷ rest → length w.wire.settled ≡ w.client.count → AllVouched w
      → AllVouched (with_settled (record w.wire { down = rest }) (number_reply w.client x old))
  vouched_reply w x rest true t e s h =
      let v = w.wire in
      let P = Vouched v.sent v.executed v.made h.last in
      reply_came w x rest w.client.count (v.settled ++ []) e h h.counted (holds_append P 0 w.client.count v.settled [] (omega (arith, s)) h.answers tt)
  vouched_reply w x rest false t e s h =
      let v = w.wire in
      let P = Vouched v.sent v.executed v.made h.last in
      let b = subst (λ q. AllByRecursion (λ y. y.number < h.top) q) e h.below in
      let m = subst (λ q. AllByRecursion (λ y. P y.number y.line) q) e h.coming in
      let ge : w.client.count ≤ x.number = ltb-false _ _ t in
      reply_came w x rest (x.number + 1) (v.settled ++ (number_reply w.client x false).settlements) e h (omega (arith, b.0))
      (holds_append P 0 w.client.count v.settled _ (omega (arith, s)) h.answers
      (holds_settled P w.client.count x.number (x.number - w.client.count) x.line (drop w.client.count w.client.requests) (omega (arith, ge)) m.0))

  -- `AllVouchedIn` is preserved if what is kept stays, or nothing is kept any more, and executions still act once, also
  -- with these starts
  still_kept : (w : World (ByNumber Asked) State) (starts : List ℕ) (state : State) → MayForget (kept w.wire.state) (kept state) → (h : AllVouched w)
      → ((keeps : Asked → Bool) → KeepsItsReply ends Good kept keeps → IsClimbing keeps w.client.since h.top
      (record { sent = w.wire.sent; executed = w.wire.executed; starts = starts; retained = kept state }))
      → AllVouchedIn (record (fields_of kept w) { starts = starts; retained = kept state })
  still_kept w starts state now h once =
      let v = w.wire in
      vouched_still w w.client.count v.settled v.up v.down starts (kept state) h h.counted h.above h.lines h.below h.coming h.answers
      (kept_still (Vouched v.sent v.executed v.made h.last) w.client.since h.top h.last (kept v.state) (kept state) now h.holds) once

  -- in a good state `AllVouched` is preserved whether the instrument starts again (`b`) or not, whatever is in flight
  pub vouched_started : (w : World (ByNumber Asked) State) (b : Bool) → Good w.wire.state → AllVouched w → AllVouched (on_wire w (started ends w.wire b))
  vouched_started w false good h = h
  vouched_started w true good h =
      let v = w.wire in
      let now = keeper.starts v.state good in
      still_kept w (v.starts ++ length v.executed ∷ []) (ends.restarted v.state) now h
      (λ keeps k. climbing_started keeps w.client.since h.top (log_of (fields_of kept w)) (kept (ends.restarted v.state)) now (h.once keeps k))

  -- `AllVouched` is preserved if the instrument's state changes, and it keeps the same
  pub vouched_changed : (w : World (ByNumber Asked) State) (state : State) → kept state ≡ kept w.wire.state → AllVouched w → AllVouched (on_wire w (record w.wire { state = state }))
  vouched_changed w state same h =
      let v = w.wire in
      still_kept w v.starts state (inr same) h
      (λ keeps k. subst (λ o. IsClimbing keeps w.client.since h.top (record { sent = v.sent; executed = v.executed; starts = v.starts; retained = o })) (sym same) (h.once keeps k))

  -- `AllVouched` is preserved if the lines in flight change to others that meet its clauses on lines in flight
  vouched_queues : (w : World (ByNumber Asked) State) (up : List (Numbered Request)) (down : List (Numbered (List ℕ))) (h : AllVouched w)
      → AllByRecursion (λ x. h.top ≤ x.number + 1) up → AllByRecursion (IsAsSent written w.wire.sent) up → AllByRecursion (λ x. x.number < h.top) down
      → AllByRecursion (λ x. Vouched w.wire.sent w.wire.executed w.wire.made h.last x.number x.line) down → AllVouched (on_wire w (record w.wire { up = up; down = down }))
  vouched_queues w up down h a l b c = vouched_still w w.client.count w.wire.settled up down w.wire.starts (kept w.wire.state) h h.counted a l b c h.answers h.holds h.once

  -- in a sound world `AllVouched` is preserved if the front request, if any, reaches the instrument, and `ReplyHas` holds of it
  pub vouched_up : (w : World (ByNumber Asked) State) (q : List (Numbered Request)) → w.wire.up ≡ q
      → ((x : Numbered Request) (rest : List (Numbered Request)) → q ≡ x ∷ rest → ReplyHas ends M w x) → Sound width ends Good w → AllVouched w
      → AllVouched (on_wire w (up_delivered ends w.wire q))
  vouched_up w [] e on s h = h
  vouched_up w (x ∷ rest) e on s h =
      vouched_handed w x rest (ends.handed w.wire.state x.line.id x.line.call) (ends.handed w.wire.state x.line.id x.line.call).executed e refl refl (on x rest refl) s h

  -- in a sound world `AllVouched` is preserved if the front reply, if one is in flight, comes
  pub vouched_down : (w : World (ByNumber Asked) State) (q : List (Numbered (List ℕ))) → w.wire.down ≡ q → Sound width ends Good w → AllVouched w → AllVouched (down_delivered (by_numbers width) w q)
  vouched_down w [] e s h = h
  vouched_down w (x ∷ rest) e s h = vouched_reply w x rest (ltb x.number w.client.count) refl e s.booked h

  -- `AllVouched` is preserved if the requests in flight stay (`b` is false), or change to some that meet its clauses
  vouched_with_up : (w : World (ByNumber Asked) State) (up : List (Numbered Request)) (b : Bool) (h : AllVouched w)
      → AllByRecursion (λ x. h.top ≤ x.number + 1) up → AllByRecursion (IsAsSent written w.wire.sent) up → AllVouched (on_wire w (with_up w.wire up b))
  vouched_with_up w up false h a l = h
  vouched_with_up w up true h a l = vouched_queues w up w.wire.down h a l h.below h.coming

  -- `AllVouched` is preserved if the replies in flight stay (`b` is false), or change to some that meet its clauses
  vouched_with_down : (w : World (ByNumber Asked) State) (down : List (Numbered (List ℕ))) (b : Bool) (h : AllVouched w)
      → AllByRecursion (λ x. x.number < h.top) down → AllByRecursion (λ x. Vouched w.wire.sent w.wire.executed w.wire.made h.last x.number x.line) down
      → AllVouched (on_wire w (with_down w.wire down b))
  vouched_with_down w down false h l c = h
  vouched_with_down w down true h l c = vouched_queues w w.wire.up down h h.above h.lines l c

  -- `AllVouched` is preserved by a send, refused or not, of a request that is known if all have to be
  pub vouched_requested : (w : World (ByNumber Asked) State) (target : ℕ) (call : Asked) (deadline : ℕ) (o : Option (Sending (ByNumber Asked))) → (MustKnow → knows call ≡ true)
      → (by_numbers width).send w.client target call deadline ≡ o → AllVouched w → AllVouched (requested w target call o)
  vouched_requested w target call deadline None plain e h = h
  vouched_requested w target call deadline (Some x) plain e h = vouched_send w target call deadline (eqb (length w.client.requests - w.client.count) width) x plain e h

  -- in a sound world a step of the line preserves `AllVouched`, if `ReplyHas` holds of a front request that reaches the
  -- instrument
  pub vouched_line : (w : World (ByNumber Asked) State) (step : Step) → IsLineStep step
      → ((x : Numbered Request) (rest : List (Numbered Request)) → step ≡ Up_deliver → w.wire.up ≡ x ∷ rest → ReplyHas ends M w x) → Sound width ends Good w → AllVouched w
      → AllVouched (happens ends (by_numbers width) w step)
  vouched_line w Up_deliver p on s h = vouched_up w w.wire.up refl (λ x rest e. on x rest refl e) s h
  vouched_line w (Up_lose k) p on s h = vouched_with_up w (without k w.wire.up) (ltb k (length w.wire.up)) h (each_without _ k w.wire.up h.above) (each_without _ k w.wire.up h.lines)
  vouched_line w (Up_repeat k) p on s h = vouched_with_up w (doubled k w.wire.up) (ltb k (length w.wire.up)) h (each_doubled _ k w.wire.up h.above) (each_doubled _ k w.wire.up h.lines)
  vouched_line w (Down_lose k) p on s h = vouched_with_down w (without k w.wire.down) (ltb k (length w.wire.down)) h (each_without _ k w.wire.down h.below) (each_without _ k w.wire.down h.coming)
  vouched_line w (Down_repeat k) p on s h = vouched_with_down w (doubled k w.wire.down) (ltb k (length w.wire.down)) h (each_doubled _ k w.wire.down h.below) (each_doubled _ k w.wire.down h.coming)
  vouched_line w Nothing p on s h = h
  vouched_line w other p on s h = absurd p
