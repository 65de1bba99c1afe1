-- Over any moves, the client that knows ids does what the client does that is given the number of each reply's request; and
-- each reply is its own request's. The world with the latter client is called the world of numbers here, that with the former
-- the world of ids.
use Rattle.gc_theorems.proofs.Common.{◌≡◌, ℕ, ◌+◌, ◌-◌, ◌%◌, ◌<◌, ◌≤◌, ◌⊎◌, inl, inr, Bool, true, false, List, [], ◌∷◌, ◌++◌, length, drop, Option, Some, refl, sym, ◌∙◌, ap, subst, arith, ltb, eqb, AllByRecursion, slice_get, length_push, le-ltb, true≢false, all_append, every_weaker as all_on, Asked, asked_line, ById, Settlement, Answered, Late, settle, KeptReply, ByNumber, by_ids, by_numbers, ids_open, numbers_open, number_send, number_reply, IsExchange, Request, Sent, Numbered, Ends, Step, Send, Up_deliver, Up_lose, Up_repeat, Down_deliver, Down_lose, Down_repeat, Expire, Nothing, World, Wire, without, doubled, replied, up_delivered, with_up, with_down, started, on_wire, requested, down_delivered, happens, written, none-some, all_at, get_push, IsAsSent, as_sent_more, each_without, each_doubled, IsGoing, Sound, sound_step, sound_open, Move, Sends, Tells, Comes, Foreign, OnLine, Anew, Changes, Joins, IsLineStep, moves, moved, IsPossible, ArePossible, AsksOnly, IsFirstAlone, IsAnInstrumentFor, KeepsItsOwn, KeepsItsReply, MayBeKept, own_reply, ExecutesOnce, IsInOrder, WasMadeFrom, number_of}
use Rattle.gc_world.proofs.Agree.{Agree, agrees}
use Rattle.gc_theorems.proofs.Answered.{HoldsOfAll, HoldsOfOutcome, holds_get}
use Rattle.gc_theorems.proofs.Once.{executes_once_if_rising, few_rise, climbing_first, few_in_order, ordered_first}
use Rattle.gc_theorems.proofs.KeptReplies.{IsVouched, fields_of, kept_one, log_of, unknown_or_retained, ReplyHas}
use Rattle.gc_theorems.proofs.Vouched.{Vouched, AllVouched, vouched_requested, vouched_down, vouched_line, vouched_started, vouched_changed}
use Rattle.gc_theorems.proofs.BeginLists.{each_all}
use Rattle.gc_theorems.proofs.Possible.{front_possible}

module _ {State : Type 0} (width : ℕ) (narrow : width ≤ 7) (ends : Ends State) (Good : State → Type 0) (ex : IsExchange ends Good) (kept : State → Option KeptReply) where
  -- the world of ids and the world of numbers agree, and the latter is sound: its line keeps order, with ids that belong to its
  -- numbers
  pub record Both (a : World (ById Asked) State) (b : World (ByNumber Asked) State) : Type 0 where
    pub agree : Agree width narrow ends Good a b
    pub sound : Sound width ends Good b

  -- a start of the instrument preserves `Sound`
  pub sound_anew : (b : World (ByNumber Asked) State) → Sound width ends Good b → Sound width ends Good (on_wire b (started ends b.wire true))
  sound_anew b h =
      record {
        good = ex.restart_good b.wire.state h.good;
        counted = h.counted;
        booked = h.booked;
        begun = h.begun;
        within = h.within;
        few = h.few;
        order = h.order;
        going = h.going;
        coming = h.coming;
      }

  -- a step preserves `Both`
  both_step : (a : World (ById Asked) State) (b : World (ByNumber Asked) State) (step : Step) → Both a b → Both (happens ends (by_ids width ends) a step) (happens ends (by_numbers width) b step)
  both_step a b step h = record { agree = agrees width narrow ends Good written a b step h.sound h.agree; sound = sound_step width ends Good written ex b step h.sound }

  -- a change of the instrument's state to a good one preserves `Sound`
  pub sound_changed : (b : World (ByNumber Asked) State) (state : State) → Good state → Sound width ends Good b → Sound width ends Good (on_wire b (record b.wire { state = state }))
  sound_changed b state good h = record { good = good; counted = h.counted; booked = h.booked; begun = h.begun; within = h.within; few = h.few; order = h.order; going = h.going; coming = h.coming }

  -- a possible move preserves `Both`
  pub both_move : (a : World (ById Asked) State) (b : World (ByNumber Asked) State) (m : Move State) → IsPossible Good kept a m → Both a b
      → Both (moves ends (by_ids width ends) a m) (moves ends (by_numbers width) b m)
  both_move a b (Sends target call deadline) p h = both_step a b (Send target call deadline) h
  both_move a b (Tells now) p h = both_step a b (Expire now) h
  both_move a b (Comes line) p h = both_step a b Down_deliver h
  both_move a b (Foreign line) p h = h
  both_move a b (OnLine step) p h = both_step a b step h
  both_move a b Anew p h =
      record { agree = record { wire = ap (λ (w : Wire State). started ends w true) h.agree.wire; client = h.agree.client }; sound = sound_anew b h.sound }
  both_move a b (Changes state) p h =
      record { agree = record { wire = ap (λ (w : Wire State). record w { state = state }) h.agree.wire; client = h.agree.client }; sound = sound_changed b state p.0 h.sound }
  both_move a b (Joins line) p h = absurd p

  -- possible moves preserve `Both`
  pub both_all : (ms : List (Move State)) (a : World (ById Asked) State) (b : World (ByNumber Asked) State) → ArePossible ends Good kept (by_ids width ends) ms a → Both a b
      → Both (moved ends (by_ids width ends) ms a) (moved ends (by_numbers width) ms b)
  both_all [] a b p h = h
  both_all (m ∷ ms) a b p h = both_all ms _ _ p.1 (both_move a b m p.0 h)

  -- `Both` holds at the start, in a good state
  pub both_open : (state : State) → Good state → Both (ids_open state) (numbers_open state)
  both_open state good =
      record { agree = record { wire = refl; client = record { window = refl; next = omega arith } }; sound = sound_open width ends Good state good }

  -- in the world of numbers, if the request of the front reply isn't settled, that reply settles it, and the outstanding ones
  -- before it as lost
  heard_first : (b : World (ByNumber Asked) State) (n : ℕ) (line : List ℕ) (rest q : List (Numbered (List ℕ))) → q ≡ record { number = n; line = line } ∷ rest → b.client.count ≤ n →
      (down_delivered (by_numbers width) b q).wire.settled ≡ b.wire.settled ++ settle (n - b.client.count) line (drop b.client.count b.client.requests)
  heard_first b n line rest q e le =
      ap (λ q. (down_delivered (by_numbers width) b q).wire.settled) e
      ∙ ap (λ t. b.wire.settled ++ (number_reply b.client (record { number = n; line = line }) t).settlements) (le-ltb n b.client.count le)

  -- where `Both` holds of two worlds: in the world of ids, if the request of the front reply isn't settled, that reply settles
  -- it, and the outstanding ones before it as lost
  pub first_reply : (a : World (ById Asked) State) (b : World (ByNumber Asked) State) (n : ℕ) (line : List ℕ) (rest : List (Numbered (List ℕ))) → Both a b
      → a.wire.down ≡ record { number = n; line = line } ∷ rest → length a.wire.settled ≤ n →
      (moves ends (by_ids width ends) a (Comes line)).wire.settled ≡ a.wire.settled ++ settle (n - length a.wire.settled) line a.client.waiting
  first_reply a b n line rest h e le =
      let same : a.wire ≡ b.wire = h.agree.wire in
      let size : length a.wire.settled ≡ b.client.count = ap (λ (w : Wire State). length w.settled) same ∙ h.sound.booked in
      let down : b.wire.down ≡ record { number = n; line = line } ∷ rest = sym (ap (λ (w : Wire State). w.down) same) ∙ e in
      ap (λ (w : Wire State). w.settled) (both_step a b Down_deliver h).agree.wire
      ∙ heard_first b n line rest b.wire.down down (omega (arith, size, le))
      ∙ ap (λ l. l ++ settle (n - b.client.count) line (drop b.client.count b.client.requests)) (sym (ap (λ (w : Wire State). w.settled) same))
      ∙ ap (λ l. a.wire.settled ++ settle (n - b.client.count) line l) (sym h.agree.client.window)
      ∙ ap (λ k. a.wire.settled ++ settle (n - k) line a.client.waiting) (sym size)

-- the settlement s, at place m, was made for its own request: an answer's line is vouched for, and for a late one there is a line
-- that is vouched for
pub record IsOwnSettlement {State : Type 0} (ends : Ends State) (Good : State → Type 0) (M : ℕ → Asked → List ℕ → Type 0) (w : Wire State) (m : ℕ) (s : Settlement Asked) : Type 0 where
  pub answered : (line : List ℕ) → s.outcome ≡ Answered line → IsVouched ends Good M w.sent w.executed w.made m line
  pub late : s.outcome ≡ Late → (line : List ℕ) × IsVouched ends Good M w.sent w.executed w.made m line

-- each settlement that isn't excepted (`E`) is its own; executions are in order; and each request to which the instrument keeps
-- its reply is executed at most once between two starts (`ExecutesOnce`)
pub record IsVouchedFor {State : Type 0} (ends : Ends State) (Good : State → Type 0) (kept : State → Option KeptReply) (E : ℕ → Type 0) (M : ℕ → Asked → List ℕ → Type 0)
    (w : Wire State) : Type 0 where
  pub own : (m : ℕ) (s : Settlement Asked) → (E m → ⊥) → slice_get w.settled m ≡ Some s → IsOwnSettlement ends Good M w m s
  pub order : IsInOrder w.executed
  pub once : (keeps : Asked → Bool) → KeepsItsReply ends Good kept keeps → ExecutesOnce keeps w.sent w.executed w.starts

module _ {State : Type 0} (width : ℕ) (ends : Ends State) (M : ℕ → Asked → List ℕ → Type 0) where
  -- each request that reaches the instrument at one of these moves, and is executed, has a reply with the property M
  abbrev pub RepliesHave : List (Move State) → World (ByNumber Asked) State → Type 0
  RepliesHave ms b =
      (front later : List (Move State)) → ms ≡ front ++ OnLine Up_deliver ∷ later → (x : Numbered Request) (rest : List (Numbered Request)) →
      (moved ends (by_numbers width) front b).wire.up ≡ x ∷ rest → ReplyHas ends M (moved ends (by_numbers width) front b) x

  -- where `RepliesHave` holds of moves, it holds of those after the first, in the world that the first leaves
  replies_have_behind : (m : Move State) (ms : List (Move State)) (b : World (ByNumber Asked) State) → RepliesHave (m ∷ ms) b → RepliesHave ms (moves ends (by_numbers width) b m)
  replies_have_behind m ms b on = λ front later e. on (m ∷ front) later (ap (λ l. m ∷ l) e)

  -- where `RepliesHave` holds of moves, it holds of the later ones, in the world that those before them leave
  pub replies_have_later : (front later : List (Move State)) (b : World (ByNumber Asked) State) → RepliesHave (front ++ later) b → RepliesHave later (moved ends (by_numbers width) front b)
  replies_have_later [] later b on = on
  replies_have_later (m ∷ front) later b on = replies_have_later front later (moves ends (by_numbers width) b m) (replies_have_behind m (front ++ later) b on)

module _ {State : Type 0} (width : ℕ) (narrow : width ≤ 7) (ends : Ends State) (Good : State → Type 0) (ex : IsExchange ends Good) (kept : State → Option KeptReply) where
  -- where `Both` holds of two worlds, the reply to each request that is executed at one of these moves, which are possible, was
  -- made on executing it, by `WasMadeFrom`
  pub made_here : (a : World (ById Asked) State) (b : World (ByNumber Asked) State) → Both width narrow ends Good ex kept a b → (ms : List (Move State))
      → ArePossible ends Good kept (by_ids width ends) ms a → RepliesHave width ends (λ n call line. WasMadeFrom width ends a ms n call line) ms b
  made_here a b both ms p front later e x rest q exe =
      let p' = front_possible width ends Good kept ms front (OnLine Up_deliver ∷ later) a e p in
      let same : (moved ends (by_ids width ends) front a).wire ≡ (moved ends (by_numbers width) front b).wire = (both_all width narrow ends Good ex kept front a b p' both).agree.wire in
      let stands : (moved ends (by_ids width ends) front a).wire.state ≡ (moved ends (by_numbers width) front b).wire.state = ap (λ (w : Wire State). w.state) same in
      record {
        front = front;
        later = later;
        split = e;
        id = x.line.id;
        rest = rest;
        reaches = ap (λ (w : Wire State). w.up) same ∙ q;
        executed = ap (λ t. (ends.handed t x.line.id x.line.call).executed) stands ∙ exe;
        reply = ap (λ t. (ends.handed t x.line.id x.line.call).reply) (sym stands);
      }

module _ {State : Type 0} (width : ℕ) (narrow : width ≤ 7) (knows : Asked → Bool) (ends : Ends State) (Good : State → Type 0) (ex : IsExchange ends Good)
    (kept : State → Option KeptReply) (keeper : IsAnInstrumentFor ends Good kept knows) (low : ℕ) (E : ℕ → Type 0) (MustKnow : Type 0) (M : ℕ → Asked → List ℕ → Type 0) where
  -- the invariant `AllVouched` of `Vouched`, for these parameters: each reply in flight and each answer was made for its own
  -- request, unless that is excepted (`E`)
  abbrev pub Trusted : World (ByNumber Asked) State → Type 0
  Trusted w = AllVouched width narrow knows ends Good kept keeper low E MustKnow M w

  -- `Vouched` in a `Trusted` world: request n is `IsNoNewerKnown`; and it is excepted, or the line is vouched for as its reply
  abbrev Vouches : (w : World (ByNumber Asked) State) → Trusted w → ℕ → List ℕ → Type 0
  Vouches w t n line = Vouched width narrow knows ends Good kept keeper low E MustKnow M w.wire.sent w.wire.executed w.wire.made t.last n line

  -- where `Vouches` holds of request m, which isn't excepted, and a line, the line is vouched for as its reply (`IsVouched`)
  own_line : (w : World (ByNumber Asked) State) (t : Trusted w) (m : ℕ) (line : List ℕ) → (E m → ⊥) → Vouches w t m line → IsVouched ends Good M w.wire.sent w.wire.executed w.wire.made m line
  own_line w t m line not h =
      elim h.1 [
        | inl e ↦ absurd (not e)
        | inr v ↦ v
      ]

  -- in a `Trusted` world `HoldsOfOutcome` of `Vouches` holds of each settlement
  outcome_vouched : (w : World (ByNumber Asked) State) (t : Trusted w) (m : ℕ) (s : Settlement Asked) → slice_get w.wire.settled m ≡ Some s → HoldsOfOutcome (Vouches w t) m s.outcome
  outcome_vouched w t m s e = let i : 0 + m ≡ m = omega arith in subst (λ k. HoldsOfOutcome (Vouches w t) k s.outcome) i (holds_get (Vouches w t) 0 w.wire.settled m s t.answers e)

  -- `IsVouchedFor` holds in a `Trusted` world
  pub vouched_for : (w : World (ByNumber Asked) State) → Trusted w → IsVouchedFor ends Good kept E M w.wire
  vouched_for w t =
      record {
        own = λ m s not e. record {
          answered = λ line answered. own_line w t m line not (subst (λ o. HoldsOfOutcome (Vouches w t) m o) answered (outcome_vouched w t m s e));
          late = λ late. let l : (line : List ℕ) × Vouches w t m line = subst (λ o. HoldsOfOutcome (Vouches w t) m o) late (outcome_vouched w t m s e) in (l.0, own_line w t m l.0 not l.1);
        };
        order = t.order.order;
        once = λ keeps k. executes_once_if_rising keeps w.wire.sent w.wire.executed w.wire.starts (t.once keeps k).once;
      }

  -- if the moves ask only what is known, so do those after the first
  pub asks_behind : (m : Move State) (ms : List (Move State)) → AsksOnly knows (m ∷ ms) → AsksOnly knows ms
  asks_behind (Sends target call deadline) ms h = h.1
  asks_behind m ms h = h

  -- where `Both` holds of two worlds, `Trusted` is preserved by the first of these moves, which is possible, if `RepliesHave`
  -- holds of the moves and, where `MustKnow` holds, they ask only what is known
  trusted_move : (m : Move State) (ms : List (Move State)) (a : World (ById Asked) State) (b : World (ByNumber Asked) State) → Both width narrow ends Good ex kept a b → IsPossible Good kept a m
      → (MustKnow → AsksOnly knows (m ∷ ms)) → RepliesHave width ends M (m ∷ ms) b → Sound width ends Good b → Trusted b → Trusted (moves ends (by_numbers width) b m)
  trusted_move (Sends target call deadline) ms a b both p asks on s t =
      vouched_requested width narrow knows ends Good kept keeper low E MustKnow M b target call deadline ((by_numbers width).send b.client target call deadline)
      (λ must. (asks must).0) refl t
  trusted_move (Tells now) ms a b both p asks on s t = t
  trusted_move (Comes line) ms a b both p asks on s t = vouched_down width narrow knows ends Good kept keeper low E MustKnow M b b.wire.down refl s t
  trusted_move (Foreign line) ms a b both p asks on s t = t
  trusted_move (OnLine step) ms a b both p asks on s t =
      vouched_line width narrow knows ends Good kept keeper low E MustKnow M b step p (λ x rest e q. on [] ms (ap (λ (y : Step). OnLine y ∷ ms) e) x rest q) s t
  trusted_move Anew ms a b both p asks on s t = vouched_started width narrow knows ends Good kept keeper low E MustKnow M b true s.good t
  trusted_move (Changes state) ms a b both p asks on s t =
      vouched_changed width narrow knows ends Good kept keeper low E MustKnow M b state (p.1 ∙ ap (λ (w : Wire State). kept w.state) both.agree.wire) t
  trusted_move (Joins line) ms a b both p asks on s t = absurd p

  -- where `Both` holds of two worlds, possible moves of which `RepliesHave` holds leave a `Trusted` world `Trusted`; where
  -- `MustKnow` holds, they have to ask only what is known
  pub trusted_all : (ms : List (Move State)) (a : World (ById Asked) State) (b : World (ByNumber Asked) State) → Both width narrow ends Good ex kept a b
      → ArePossible ends Good kept (by_ids width ends) ms a → (MustKnow → AsksOnly knows ms) → RepliesHave width ends M ms b → Trusted b → Trusted (moved ends (by_numbers width) ms b)
  trusted_all [] a b h p asks on t = t
  trusted_all (m ∷ ms) a b h p asks on t =
      trusted_all ms _ _ (both_move width narrow ends Good ex kept a b m p.0 h) p.1 (λ plain. asks_behind m ms (asks plain)) (replies_have_behind width ends M m ms b on)
      (trusted_move m ms a b h p.0 asks on h.sound t)

module _ {State : Type 0} (width : ℕ) (narrow : width ≤ 7) (knows : Asked → Bool) (ends : Ends State) (Good : State → Type 0) (ex : IsExchange ends Good)
    (kept : State → Option KeptReply) (keeper : IsAnInstrumentFor ends Good kept knows) (E : ℕ → Type 0) (first : E 0) (M : ℕ → Asked → List ℕ → Type 0) where
  -- `Trusted` where `MustKnow` holds, so that all requests that are sent have to be known, and `low` is 1
  abbrev TrustedIfKnown : World (ByNumber Asked) State → Type 0
  TrustedIfKnown w = Trusted width narrow knows ends Good ex kept keeper 1 E (Unit {0}) M w

  -- Before the first request reached the instrument, which may keep anything.

  -- the client never restarted; nothing was executed, settled or sent back yet; at most one request was sent, and none where
  -- `out` is false; and the request, if one was sent, is known, and all that is in flight is of it
  pub record IsFresh (b : World (ByNumber Asked) State) (out : Bool) : Type 0 where
    pub since : b.client.since ≡ 0
    pub count : b.client.count ≡ 0
    pub down : b.wire.down ≡ []
    pub executed : b.wire.executed ≡ []
    pub settled : b.wire.settled ≡ []
    pub sent : length b.wire.sent ≤ number_of out
    pub lines : AllByRecursion (IsAsSent written b.wire.sent) b.wire.up
    pub known : AllByRecursion (λ (r : Sent). knows r.call ≡ true) b.wire.sent

  -- what a step of the line makes of the fresh world b, which is sound
  module _ (b : World (ByNumber Asked) State) (out : Bool) (s : Sound width ends Good b) (f : IsFresh b out) where
    -- once the front request, x, reached the instrument, the world is `TrustedIfKnown`
    fresh_reached : (x : Numbered Request) (rest : List (Numbered Request)) → b.wire.up ≡ x ∷ rest
        → TrustedIfKnown (on_wire b (replied b.wire x.number rest (ends.handed b.wire.state x.line.id x.line.call)))
    fresh_reached x rest q =
        let v = b.wire in
        let hd = ends.handed v.state x.line.id x.line.call in
        let g = subst (λ l. AllByRecursion (IsGoing b.client.since (length b.client.requests)) l) q s.going in
        let o = subst (λ l. AllByRecursion (IsAsSent written v.sent) l) q f.lines in
        let few : length v.sent ≤ 1 = below_two out f.sent in
        let nought : x.number ≡ 0 = omega (arith, g.0.sent, s.counted, few) in
        let m : Numbered (List ℕ) = record { number = x.number; line = hd.reply } in
        let w = replied v x.number rest hd in
        let P : ℕ → List ℕ → Type 0 = λ n line. Vouched width narrow knows ends Good kept keeper 1 E (Unit {0}) M w.sent w.executed w.made 0 n line in
        let early : P x.number hd.reply = (inl (omega (arith, nought)), inl (subst E (sym nought) first)) in
        let id : x.line.id ≡ (0 - b.client.since) % 8 = omega (arith, g.0.id, nought, f.since) in
        let known : knows x.line.call ≡ true = sym (ap knows o.0.call) ∙ all_at (λ (r : Sent). knows r.call ≡ true) v.sent x.number o.0.request f.known o.0.found in
        record {
          top = 1;
          last = 0;
          counted = omega (arith, f.count);
          within = omega (arith, g.0.sent, s.counted);
          lower = omega arith;
          least = omega arith;
          above = each_all (λ (y : Numbered Request). 1 ≤ y.number + 1) (λ y. omega arith) rest;
          below = subst (λ l. AllByRecursion (λ (y : Numbered (List ℕ)). y.number < 1) (l ++ m ∷ [])) (sym f.down) (omega (arith, nought), tt);
          holds =
              kept_one P b.client.since 1 0 (own_reply x.line.id hd) (kept hd.state)
              (record { number = 0; recent = omega (arith, f.since); before = omega arith; behind = omega arith; id = id; line = subst (λ n. P n hd.reply) nought early })
              (own_kept known (keeper.keeps v.state x.line.id x.line.call s.good o.0.small));
          lines = o.1;
          near = inl (tt, omega arith, f.known);
          coming = subst (λ l. AllByRecursion (λ (y : Numbered (List ℕ)). P y.number y.line) (l ++ m ∷ [])) (sym f.down) (early, tt);
          answers = subst (λ l. HoldsOfAll P 0 l) (sym f.settled) tt;
          order = ordered_first x.number v.executed hd.executed f.executed nought;
          once = λ keeps k.
              climbing_first keeps b.client.since x.number (log_of (fields_of kept b)) hd.executed (kept hd.state) f.executed nought
              (unknown_or_retained ends Good kept b x hd keeps (keeps x.line.call) refl k refl s.good b.client.since g.0.id o.0);
        }
      where
        -- in a fresh world at most one request was sent
        below_two : (out : Bool) → length b.wire.sent ≤ number_of out → length b.wire.sent ≤ 1
        below_two true l = l
        below_two false l = omega (arith, l)

        -- after a request that is known its reply is kept, or nothing
        own_kept : knows x.line.call ≡ true
            → MayBeKept (knows x.line.call) (own_reply x.line.id (ends.handed b.wire.state x.line.id x.line.call)) (kept b.wire.state)
            (kept (ends.handed b.wire.state x.line.id x.line.call).state)
            → KeepsItsOwn ends Good kept b.wire.state x.line.id x.line.call
        own_kept known (inl own) = own
        own_kept known (inr third) = absurd (true≢false (sym known ∙ third.0))

    -- if no request is in flight, a fresh world stays fresh; else the front one reaches the instrument, and the world becomes
    -- `TrustedIfKnown`
    fresh_up : (q : List (Numbered Request)) → b.wire.up ≡ q → (IsFresh (on_wire b (up_delivered ends b.wire q)) out) ⊎ TrustedIfKnown (on_wire b (up_delivered ends b.wire q))
    fresh_up [] q = inl (record { since = f.since; count = f.count; down = f.down; executed = f.executed; settled = f.settled; sent = f.sent; lines = f.lines; known = f.known })
    fresh_up (x ∷ rest) q = inr (fresh_reached x rest q)

    -- a fresh world stays fresh if the requests in flight change to others that were sent, or (`t` is false) don't
    fresh_with_up : (up : List (Numbered Request)) (t : Bool) → AllByRecursion (IsAsSent written b.wire.sent) up → IsFresh (on_wire b (with_up b.wire up t)) out
    fresh_with_up up true l = record { since = f.since; count = f.count; down = f.down; executed = f.executed; settled = f.settled; sent = f.sent; lines = l; known = f.known }
    fresh_with_up up false l = record { since = f.since; count = f.count; down = f.down; executed = f.executed; settled = f.settled; sent = f.sent; lines = f.lines; known = f.known }

    -- a fresh world stays fresh if the replies in flight become none, or (`t` is false) don't change
    fresh_with_down : (down : List (Numbered (List ℕ))) (t : Bool) → down ≡ [] → IsFresh (on_wire b (with_down b.wire down t)) out
    fresh_with_down down true l = record { since = f.since; count = f.count; down = l; executed = f.executed; settled = f.settled; sent = f.sent; lines = f.lines; known = f.known }
    fresh_with_down down false l = record { since = f.since; count = f.count; down = f.down; executed = f.executed; settled = f.settled; sent = f.sent; lines = f.lines; known = f.known }

    -- over a step of the line a fresh world stays fresh or becomes `TrustedIfKnown`
    fresh_line : (step : Step) → IsLineStep step → (IsFresh (happens ends (by_numbers width) b step) out) ⊎ TrustedIfKnown (happens ends (by_numbers width) b step)
    fresh_line Up_deliver p = fresh_up b.wire.up refl
    fresh_line (Up_lose k) p = inl (fresh_with_up (without k b.wire.up) (ltb k (length b.wire.up)) (each_without _ k b.wire.up f.lines))
    fresh_line (Up_repeat k) p = inl (fresh_with_up (doubled k b.wire.up) (ltb k (length b.wire.up)) (each_doubled _ k b.wire.up f.lines))
    fresh_line (Down_lose k) p = inl (fresh_with_down (without k b.wire.down) (ltb k (length b.wire.down)) (ap (λ l. without k l) f.down))
    fresh_line (Down_repeat k) p = inl (fresh_with_down (doubled k b.wire.down) (ltb k (length b.wire.down)) (ap (λ l. doubled k l) f.down))
    fresh_line Nothing p = inl (record { since = f.since; count = f.count; down = f.down; executed = f.executed; settled = f.settled; sent = f.sent; lines = f.lines; known = f.known })
    fresh_line other p = absurd p

  -- a fresh world in which no request was sent stays fresh if one is sent that is known, or if that is refused (`full`); at most
  -- one was sent then
  fresh_sent : (b : World (ByNumber Asked) State) (target : ℕ) (call : Asked) (deadline : ℕ) (full : Bool) → knows call ≡ true → IsFresh b false
      → IsFresh (requested b target call (number_send b.client target call deadline full)) true
  fresh_sent b target call deadline true is f =
      record { since = f.since; count = f.count; down = f.down; executed = f.executed; settled = f.settled; sent = omega (arith, f.sent); lines = f.lines; known = f.known }
  fresh_sent b target call deadline false is f =
      let c = b.client in
      let id = (length c.requests - c.since) % 8 in
      let r : Sent = record { target = target; call = call; line = asked_line (Some id) call } in
      record {
        since = f.since;
        count = f.count;
        down = f.down;
        executed = f.executed;
        settled = f.settled;
        sent = omega (arith, f.sent, length_push b.wire.sent r);
        lines =
            all_append _ b.wire.up _ (all_on _ _ b.wire.up (as_sent_more written b.wire.sent (r ∷ [])) f.lines)
            (record { request = r; found = get_push b.wire.sent r; small = omega arith; call = refl; text = refl }, tt);
        known = all_append (λ (r : Sent). knows r.call ≡ true) b.wire.sent (r ∷ []) f.known (is, tt);
      }

  -- where `Both` holds of two worlds, and the world of numbers is fresh, no reply is in flight in the world of ids
  nothing_down : (a : World (ById Asked) State) (b : World (ByNumber Asked) State) (out : Bool) (x : Numbered (List ℕ)) (rest : List (Numbered (List ℕ))) → Both width narrow ends Good ex kept a b
      → IsFresh b out → a.wire.down ≡ x ∷ rest → ⊥
  nothing_down a b out x rest h f e =
      let none : [] ≡ x ∷ rest = sym f.down ∙ sym (ap (λ (w : Wire State). w.down) h.agree.wire) ∙ e in
      cc

  -- where `Both` holds of two worlds, and the world of numbers is fresh: `IsVouchedFor` holds after possible moves of which
  -- `RepliesHave` holds, and which ask only what is known, the first request alone; whatever the instrument kept before
  pub fresh_all : (ms : List (Move State)) (out : Bool) (a : World (ById Asked) State) (b : World (ByNumber Asked) State) → Both width narrow ends Good ex kept a b
      → ArePossible ends Good kept (by_ids width ends) ms a → AsksOnly knows ms → IsFirstAlone out ms → RepliesHave width ends M ms b → IsFresh b out
      → IsVouchedFor ends Good kept E M (moved ends (by_numbers width) ms b).wire
  fresh_all [] out a b h p k l on f =
      record {
        own = λ m s not e. absurd (none-some s (subst (λ (l : List (Settlement Asked)). slice_get l m ≡ Some s) f.settled e));
        order = few_in_order b.wire.executed (omega (arith, ap (λ (l : List ℕ). length l) f.executed));
        once = λ keeps is.
            executes_once_if_rising keeps b.wire.sent b.wire.executed b.wire.starts
            (few_rise keeps b.wire.sent b.wire.executed b.wire.starts (omega (arith, ap (λ (l : List ℕ). length l) f.executed)));
      }
  fresh_all (Sends target call deadline ∷ ms) false a b h p k l on f =
      fresh_all ms true _ _ (both_move width narrow ends Good ex kept a b (Sends target call deadline) p.0 h) p.1 k.1 l.1
      (replies_have_behind width ends M (Sends target call deadline) ms b on) (fresh_sent b target call deadline (eqb (length b.client.requests - b.client.count) width) k.0 f)
  fresh_all (Sends target call deadline ∷ ms) true a b h p k l on f = absurd (true≢false l.0)
  fresh_all (Comes line ∷ ms) out a b h p k l on f = absurd (nothing_down a b out _ p.0.1 h f p.0.2)
  fresh_all (Foreign line ∷ ms) out a b h p k l on f = fresh_all ms out a b h p.1 k l (replies_have_behind width ends M (Foreign line) ms b on) f
  fresh_all (OnLine step ∷ ms) out a b h p k l on f =
      let both = both_move width narrow ends Good ex kept a b (OnLine step) p.0 h in
      elim (fresh_line b out h.sound f step p.0) [
        | inl g ↦ fresh_all ms out _ _ both p.1 k l (replies_have_behind width ends M (OnLine step) ms b on) g
        | inr t ↦ (vouched_for width narrow knows ends Good ex kept keeper 1 E (Unit {0}) M (moved ends (by_numbers width) ms (happens ends (by_numbers width) b step))
            (trusted_all width narrow knows ends Good ex kept keeper 1 E (Unit {0}) M ms _ _ both p.1 (λ plain. k) (replies_have_behind width ends M (OnLine step) ms b on) t))
      ]
  fresh_all (Joins line ∷ ms) out a b h p k l on f = absurd p.0
  fresh_all (m ∷ ms) out a b h p k l on f =
      fresh_all ms out _ _ (both_move width narrow ends Good ex kept a b m p.0 h) p.1 k l (replies_have_behind width ends M m ms b on)
      (record { since = f.since; count = f.count; down = f.down; executed = f.executed; settled = f.settled; sent = f.sent; lines = f.lines; known = f.known })

  -- from a good state of the instrument on, with a new client and nothing in flight: `IsVouchedFor` holds after possible moves of
  -- which `RepliesHave` holds, and which ask only what is known, the first request alone
  pub vouched_at : (ms : List (Move State)) (state : State) → Good state → ArePossible ends Good kept (by_ids width ends) ms (ids_open state) → AsksOnly knows ms
      → IsFirstAlone false ms → RepliesHave width ends M ms (numbers_open state) → IsVouchedFor ends Good kept E M (moved ends (by_numbers width) ms (numbers_open state)).wire
  vouched_at ms state good p k l on =
      fresh_all ms false (ids_open state) (numbers_open state) (both_open width narrow ends Good ex kept state good) p k l on
      (record { since = refl; count = refl; down = refl; executed = refl; settled = refl; sent = omega arith; lines = tt; known = tt })
