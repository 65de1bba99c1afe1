-- The instrument that keeps its last reply executes each request at most once, in order. In this file `since`, `count` and
-- `total` are how many requests had been sent at the client's last start, are settled, and were sent; `top` is one above the
-- number executed last, or 0 if none was.
use Rattle.gc_world.proofs.Common.{◌≡◌, ℕ, ◌+◌, ◌-◌, ◌%◌, ◌<◌, ◌≤◌, inl, inr, Bool, true, false, List, [], ◌∷◌, ◌++◌, length, Option, Some, None, cond, refl, sym, ◌∙◌, ap, subst, arith, ltb, eqb, AllByRecursion, length_push, eqb-true, eqb-false, cases_eq, all_append, every_weaker as all_on, Call, request_line, Sending, pending_of, Handed, kept_line, KeptReply, ByNumber, number_send, number_reply, by_numbers, numbers_open, IsExchange, IsKeeper, Rising, IsRecent, numbers, Increasing, Request, Numbered, Ends, Step, World, Wire, without, doubled, replied, requested, run, call_line, cond_some, same_Some}
use Rattle.std.proofs.Common.{IfSome}
use Rattle.gc_world.specs.World.{Sent, started, with_settled}
use Rattle.gc_world.proofs.Booked.{Has, has_more, has_push}
use Rattle.gc_world.proofs.Places.{get_push}
use Rattle.gc_world.proofs.Replay.{IsAsSent, as_sent_more, Replays, replays_more, replays_push, replays_started, no_number}
use Rattle.gc_world.proofs.Rows.{each_number, each_without, each_doubled, rising_each, rising_tail}
use Rattle.gc_world.proofs.Sound.{IsGoing, Sound, keeps, sound_open, length_expired}
use Rattle.gc_world.proofs.Stable.{IsStable, stable_all}

-- numbers that increase, none below `low`, still do once a number is appended that is above them all, and at least `low`
increasing_push : (low n : ℕ) (xs : List ℕ) → low ≤ n → AllByRecursion (λ x. x < n) xs → Increasing low xs → Increasing low (xs ++ n ∷ [])
increasing_push low n [] le b h = (le, tt)
increasing_push low n (x ∷ xs) le b h = (h.0, increasing_push (x + 1) n xs (omega (arith, b.0)) b.1 h.1)

-- how the requests in flight upward relate to those executed. Where nothing is kept, each has number `top` or a higher one. Where
-- a reply is kept, request top - 1 was sent since the client's last start, the reply has its id, no request from `top` on is
-- settled, and each request in flight is request top - 1 or a later one
abbrev IsAboveExecuted : Option KeptReply → (since count top : ℕ) → List (Numbered Request) → Type 0
IsAboveExecuted None since count top up = AllByRecursion (λ x. top ≤ x.number) up
IsAboveExecuted (Some k) since count top up = (since < top) × (k.id ≡ (top - 1 - since) % 8) × (count ≤ top) × AllByRecursion (λ x. top ≤ x.number + 1) up

-- `IsAboveExecuted` holds where no request is in flight and nothing is kept
above_none : (since count top : ℕ) (up : List (Numbered Request)) (kept : Option KeptReply) → up ≡ [] → kept ≡ None → IsAboveExecuted kept since count top up
above_none since count top up kept e none = subst (λ k. IsAboveExecuted k since count top up) (sym none) (subst (λ q. AllByRecursion (λ x. top ≤ x.number) q) (sym e) tt)

-- `IsAboveExecuted` holds also with a request at the back whose number is the top or more
above_push : (kept : Option KeptReply) (since count top : ℕ) (up : List (Numbered Request)) (x : Numbered Request) → top ≤ x.number
    → IsAboveExecuted kept since count top up → IsAboveExecuted kept since count top (up ++ x ∷ [])
above_push None since count top up x le h = all_append _ up (x ∷ []) h (le, tt)
above_push (Some k) since count top up x le h = (h.0, h.1, h.2, all_append _ up (x ∷ []) h.3 (omega arith, tt))

-- where each property that all requests of `up` have is one that all of `others` have, `IsAboveExecuted` of `up` gives that of
-- `others`
above_others : (kept : Option KeptReply) (since count top : ℕ) (up others : List (Numbered Request))
    → ((P : Numbered Request → Type 0) → AllByRecursion P up → AllByRecursion P others)
    → IsAboveExecuted kept since count top up → IsAboveExecuted kept since count top others
above_others None since count top up others all h = all _ h
above_others (Some q) since count top up others all h = (h.0, h.1, h.2, all _ h.3)

-- `IsAboveExecuted` holds also with another count that is at most the top
above_count : (kept : Option KeptReply) (since count count' top : ℕ) (up : List (Numbered Request)) → count' ≤ top
    → IsAboveExecuted kept since count top up → IsAboveExecuted kept since count' top up
above_count None since count count' top up le h = h
above_count (Some q) since count count' top up le h = (h.0, h.1, le, h.3)

-- where `if b then Some l else None` is none, b is false
not_chosen : (b : Bool) (l : List ℕ) → (cond b (Some l) None ≡ None) → b ≡ false
not_chosen true l e = cc
not_chosen false l e = refl

-- where `IsAboveExecuted` holds, and no line is kept for the id of the front request, its number is `top` or a higher one
front_is_new : (kept : Option KeptReply) (since count top : ℕ) (x : Numbered Request) (up : List (Numbered Request))
    → kept_line kept (Some ((x.number - since) % 8)) ≡ None → IsAboveExecuted kept since count top (x ∷ up) → top ≤ x.number
front_is_new None since count top x up e h = h.0
front_is_new (Some k) since count top x up e h =
    let ne = eqb-false _ _ (not_chosen (eqb k.id ((x.number - since) % 8)) k.line e) in
    elim (cases_eq (x.number + 1) top) [
      | inl same ↦ absurd (ne (omega (arith, h.1, same)))
      | inr other ↦ omega (arith, h.3.0, other)
    ]

-- where `IsAboveExecuted` holds, at most seven requests aren't settled, and a line is kept for the id of the front request, which
-- is as `IsGoing` says, this request is number top - 1
front_is_last : {line : List ℕ} (kept : Option KeptReply) (since count top total : ℕ) (x : Numbered Request) (up : List (Numbered Request))
    → kept_line kept (Some x.line.id) ≡ Some line → IsGoing since total x → total ≤ count + 7
    → IsAboveExecuted kept since count top (x ∷ up) → x.number + 1 ≡ top
front_is_last {line} None since count top total x up is going few h = cc
front_is_last {line} (Some k) since count top total x up is going few h =
    let same = eqb-true k.id x.line.id (cond_some (eqb k.id x.line.id) k.line line is).0 in
    omega (arith, same, going.id, going.recent, going.sent, few, h.0, h.1, h.2, h.3.0)

-- if a reply is kept, it is among these replies, as the one to the last request that was executed, number top - 1
abbrev IsKeptAmong : Option KeptReply → (top : ℕ) → List (Numbered (List ℕ)) → Type 0
IsKeptAmong kept top replies = IfSome kept (λ k. Has (record { number = top - 1; line = k.line }) replies)

-- `IsKeptAmong` holds where nothing is kept
kept_among_none : (top : ℕ) (replies : List (Numbered (List ℕ))) (kept : Option KeptReply) → kept ≡ None → IsKeptAmong kept top replies
kept_among_none top replies kept none = subst (λ k. IsKeptAmong k top replies) (sym none) tt

-- where `IsKeptAmong` holds, and n is top - 1, the line that is kept for this id is among the replies as the one to request n
kept_among_line : (kept : Option KeptReply) (id n top : ℕ) (line : List ℕ) (replies : List (Numbered (List ℕ))) → kept_line kept (Some id) ≡ Some line → n + 1 ≡ top
    → IsKeptAmong kept top replies → Has (record { number = n; line = line }) replies
kept_among_line None id n top line replies e t h = cc
kept_among_line (Some k) id n top line replies e t h =
    let c = cond_some (eqb k.id id) k.line line e in
    let m : top - 1 ≡ n = omega arith in
    subst (λ i. Has (record { number = i; line = line }) replies) m (subst (λ (q : List ℕ). Has (record { number = top - 1; line = q }) replies) c.1 h)

-- while a reply is kept, the request executed last is number top - 1
abbrev IsLast : Option KeptReply → (top : ℕ) → List ℕ → Type 0
IsLast kept top executed = IfSome kept (λ _. (earlier : List ℕ) × (executed ≡ earlier ++ (top - 1) ∷ []))

-- `IsLast` holds where nothing is kept
last_none : (top : ℕ) (executed : List ℕ) (kept : Option KeptReply) → kept ≡ None → IsLast kept top executed
last_none top executed kept none = subst (λ k. IsLast k top executed) (sym none) tt

-- `IsRecent` holds where `IsAboveExecuted` and `IsLast` do, at most `width` requests aren't settled, and those in flight upward
-- are as `IsGoing` says, whether a reply is kept or not
recent_of : (width since count top total : ℕ) (kept : Option KeptReply) (executed : List ℕ) (up : List (Numbered Request)) → IsAboveExecuted kept since count top up
    → IsLast kept top executed → total ≤ count + width → AllByRecursion (IsGoing since total) up → IsRecent width kept executed (numbers up)
recent_of width since count top total None executed up above last few going = tt
recent_of width since count top total (Some k) executed up above last few going =
    (last.0, top - 1, last.1, each_number (λ n. (top - 1 ≤ n) × (n ≤ top - 1 + width)) up (both up above.3 going))
  where
    both : (up : List (Numbered Request)) → AllByRecursion (λ x. top ≤ x.number + 1) up → AllByRecursion (IsGoing since total) up
        → AllByRecursion (λ x. (top - 1 ≤ x.number) × (x.number ≤ top - 1 + width)) up
    both [] a g = tt
    both (x ∷ xs) a g = ((omega (arith, a.0), omega (arith, g.0.sent, above.0, above.2, few)), both xs a.1 g.1)

module _ {State : Type 0} (width : ℕ) (narrow : width ≤ 7) (ends : Ends State) (Good : State → Type 0) (ex : IsExchange ends Good)
    (kept : State → Option KeptReply) (keeper : IsKeeper ends Good kept) (opening : State) where
  -- the wire's executions are a replay (`Replays`) with these replies. The replies that were made are these and no others
  -- (`among`, `each`); no start counts more executions than there were; the kept reply is that of the request executed last
  -- (`held`); and each request in flight is the one that was sent with its number (`lines`)
  pub record IsReplayed (w : Wire State) (top : ℕ) : Type 0 where
    pub replies : List (Numbered (List ℕ))
    pub replays : Replays ends w.sent w.starts 0 (ends.restarted opening) w.executed replies w.state
    pub among : AllByRecursion (λ m. Has m replies) w.made
    pub each : AllByRecursion (λ m. Has m w.made) replies
    pub begins : AllByRecursion (λ x. x < length w.executed + 1) w.starts
    pub held : IsKeptAmong (kept w.state) top replies
    pub lines : AllByRecursion (IsAsSent call_line w.sent) w.up

  -- each request was executed at most once: the executed numbers increase, they and those of the replies in flight are below
  -- `top`, which is at most the count of requests, and `IsAboveExecuted`, `IsLast` and `IsReplayed` hold of the wire with it
  pub record IsOnce (c : ByNumber Call) (w : Wire State) : Type 0 where
    pub top : ℕ
    pub climbs : Increasing 0 w.executed
    pub below : AllByRecursion (λ n. n < top) w.executed
    pub sent : top ≤ length c.requests
    pub made : AllByRecursion (λ x. x.number < top) w.down
    pub above : IsAboveExecuted (kept w.state) c.since c.count top w.up
    pub last : IsLast (kept w.state) top w.executed
    pub replayed : IsReplayed w top

  -- the world is sound (`Sound`), and each request is executed at most once, as `IsOnce` has it
  pub record Once (w : World (ByNumber Call) State) : Type 0 where
    pub sound : Sound width ends Good w
    pub once : IsOnce w.client w.wire

  -- `IsReplayed` holds also once the front request, whose id isn't the kept one, was executed: its number + 1 is then the top
  replayed_new : (w : Wire State) (x : Numbered Request) (rest : List (Numbered Request)) (top : ℕ) (front : w.up ≡ x ∷ rest) (hd : Handed State)
      (handed_is : ends.handed w.state x.line.id x.line.call ≡ hd) (none : kept_line (kept w.state) (Some x.line.id) ≡ None) (good : Good w.state) (replayed : IsReplayed w top)
      (executed_is : hd.executed ≡ true) → IsReplayed (replied w x.number rest (record hd { executed = true })) (x.number + 1)
  replayed_new w x rest top q hd is none good h exe =
      let of = subst (λ l. AllByRecursion (IsAsSent call_line w.sent) l) q h.lines in
      let y : Numbered (List ℕ) = record { number = x.number; line = hd.reply } in
      let same_call = of.0.call in
      let m : x.number ≡ x.number + 1 - 1 = omega arith in
      let keeps_it : kept hd.state ≡ Some (record { id = x.line.id; line = hd.reply }) =
      subst (λ (k : Handed State). kept k.state ≡ Some (record { id = x.line.id; line = k.reply })) is (keeper.keeps w.state x.line.id x.line.call good none) in
      record {
        replies = h.replies ++ y ∷ [];
        replays =
            replays_push ends w.sent w.starts 0 (length w.executed + 1) (ends.restarted opening) w.executed h.replies w.state x.number y hd.state (omega arith)
            (no_number (length w.executed + 1) w.starts h.begins)
            (record {
              is_executed = record {
                request = of.0.request;
                found = of.0.found;
                id = x.line.id;
                small = of.0.small;
                line = of.0.text ∙ ap (λ c. request_line (Some x.line.id) c) (sym same_call);
                executed = ap (λ c. (ends.handed w.state x.line.id c).executed) same_call ∙ ap (λ (k : Handed State). k.executed) is ∙ exe;
              };
              number = refl;
              line = sym (ap (λ (k : Handed State). k.reply) is) ∙ ap (λ c. (ends.handed w.state x.line.id c).reply) (sym same_call);
              leads = ap (λ c. (ends.handed w.state x.line.id c).state) same_call ∙ ap (λ (k : Handed State). k.state) is;
            })
            h.replays;
        among = all_append _ w.made _ (all_on (λ m. Has m h.replies) (λ m. Has m (h.replies ++ y ∷ [])) w.made (λ m p. has_more m h.replies _ p) h.among) (has_push y h.replies, tt);
        each = all_append _ h.replies _ (all_on (λ m. Has m w.made) (λ m. Has m (w.made ++ y ∷ [])) h.replies (λ m p. has_more m w.made _ p) h.each) (has_push y w.made, tt);
        begins = all_on (λ n. n < length w.executed + 1) (λ n. n < length (w.executed ++ x.number ∷ []) + 1) w.starts (λ n l. omega (arith, l, length_push w.executed x.number)) h.begins;
        held = subst (λ k. IsKeptAmong k (x.number + 1) (h.replies ++ y ∷ [])) (sym keeps_it) (subst (λ i. Has (record { number = i; line = hd.reply }) (h.replies
            ++ y ∷ [])) m (has_push y h.replies));
        lines = of.1;
      }

  -- `IsOnce` holds also once the front request, whose id isn't the kept one, was executed
  once_new : (w : World (ByNumber Call) State) (x : Numbered Request) (rest : List (Numbered Request)) (hd : Handed State) (front : w.wire.up ≡ x ∷ rest)
      (handed_is : ends.handed w.wire.state x.line.id x.line.call ≡ hd) (none : kept_line (kept w.wire.state) (Some x.line.id) ≡ None) (executed_is : hd.executed ≡ true)
      (sound : Sound width ends Good w) (once : IsOnce w.client w.wire) → IsOnce w.client (replied w.wire x.number rest (record hd { executed = true }))
  once_new w x rest hd q is none exe s h =
      let c = w.client in
      let g = subst (λ l. AllByRecursion (IsGoing c.since (length c.requests)) l) q s.going in
      let a = subst (λ l. IsAboveExecuted (kept w.wire.state) c.since c.count h.top l) q h.above in
      let new = front_is_new (kept w.wire.state) c.since c.count h.top x rest (subst (λ i. kept_line (kept w.wire.state) (Some i) ≡ None) g.0.id none) a in
      let order = rising_tail c.count x.number (numbers w.wire.down) (numbers rest) (subst (λ l. Rising c.count (numbers w.wire.down ++ numbers l)) q s.order) in
      let keeps_it : kept hd.state ≡ Some (record { id = x.line.id; line = hd.reply }) =
      subst (λ (k : Handed State). kept k.state ≡ Some (record { id = x.line.id; line = k.reply })) is (keeper.keeps w.wire.state x.line.id x.line.call s.good none) in
      let m : x.number ≡ x.number + 1 - 1 = omega arith in
      record {
        top = x.number + 1;
        climbs = increasing_push 0 x.number w.wire.executed (omega arith) (all_on (λ n. n < h.top) (λ n. n < x.number) w.wire.executed (λ n l. omega (arith, l, new)) h.below) h.climbs;
        below = all_append _ w.wire.executed _ (all_on (λ n. n < h.top) (λ n. n < x.number + 1) w.wire.executed (λ n l. omega (arith, l, new)) h.below) (omega arith, tt);
        sent = omega (arith, g.0.sent);
        made = all_append _ w.wire.down _ (all_on (λ (y : Numbered (List ℕ)). y.number < h.top) (λ y. y.number < x.number + 1) w.wire.down (λ y l. omega (arith, l, new)) h.made) (omega arith, tt);
        above = subst (λ k. IsAboveExecuted k c.since c.count (x.number + 1) rest) (sym keeps_it)
            (omega (arith, g.0.recent), g.0.id ∙ ap (λ n. (n - c.since) % 8) m, order.0, rising_each (x.number + 1) rest order.1);
        last = subst (λ k. IsLast k (x.number + 1) (w.wire.executed ++ x.number ∷ [])) (sym keeps_it) (w.wire.executed, ap (λ n. w.wire.executed ++ n ∷ []) m);
        replayed = replayed_new w.wire x rest h.top q hd is none s.good h.replayed exe;
      }

  -- `IsOnce` holds also once the front request, whose id is the kept one, got the kept line again
  once_again : (w : World (ByNumber Call) State) (x : Numbered Request) (rest : List (Numbered Request)) (line : List ℕ) → w.wire.up ≡ x ∷ rest
      → kept_line (kept w.wire.state) (Some x.line.id) ≡ Some line → Sound width ends Good w → IsOnce w.client w.wire
      → IsOnce w.client (replied w.wire x.number rest (record { state = w.wire.state; reply = line; executed = false }))
  once_again w x rest line q is s h =
      let c = w.client in
      let r = h.replayed in
      let g = subst (λ l. AllByRecursion (IsGoing c.since (length c.requests)) l) q s.going in
      let a = subst (λ l. IsAboveExecuted (kept w.wire.state) c.since c.count h.top l) q h.above in
      let last = front_is_last (kept w.wire.state) w.client.since w.client.count h.top (length w.client.requests) x rest is g.0 (omega (arith, narrow, s.few)) a in
      let y : Numbered (List ℕ) = record { number = x.number; line = line } in
      record {
        top = h.top;
        climbs = h.climbs;
        below = h.below;
        sent = h.sent;
        made = all_append _ w.wire.down _ h.made (omega (arith, last), tt);
        above = above_others (kept w.wire.state) c.since c.count h.top (x ∷ rest) rest (λ P all. all.1) a;
        last = h.last;
        replayed = record {
          replies = r.replies;
          replays = r.replays;
          among = all_append _ w.wire.made _ r.among (kept_among_line (kept w.wire.state) x.line.id x.number h.top line r.replies is last r.held, tt);
          each = all_on (λ m. Has m w.wire.made) (λ m. Has m (w.wire.made ++ y ∷ [])) r.replies (λ m p. has_more m w.wire.made _ p) r.each;
          begins = r.begins;
          held = r.held;
          lines = (subst (λ l. AllByRecursion (IsAsSent call_line w.wire.sent) l) q r.lines).1;
        };
      }

  -- `IsOnce` holds also once the front request was handed to the instrument
  once_handed : (w : World (ByNumber Call) State) (x : Numbered Request) (rest : List (Numbered Request)) (hd : Handed State) (o : Option (List ℕ))
      (front : w.wire.up ≡ x ∷ rest) (handed_is : ends.handed w.wire.state x.line.id x.line.call ≡ hd)
      (kept_is : kept_line (kept w.wire.state) (Some x.line.id) ≡ o) (sound : Sound width ends Good w) (once : IsOnce w.client w.wire)
      → IsOnce w.client (replied w.wire x.number rest hd)
  once_handed w x rest hd (Some line) q is o s h =
      subst (λ (k : Handed State). IsOnce w.client (replied w.wire x.number rest k)) (sym (keeper.again w.wire.state x.line.id x.line.call line s.good o) ∙ is) (once_again w x rest line q o s h)
  once_handed w x rest hd None q is o s h =
      let exe : hd.executed ≡ true = sym (ap (λ (k : Handed State). k.executed) is) ∙ keeper.executes w.wire.state x.line.id x.line.call s.good o in
      subst (λ v. IsOnce w.client (replied w.wire x.number rest (record hd { executed = v }))) (sym exe) (once_new w x rest hd q is o exe s h)

  -- `IsOnce` holds also once a client sent one more request, and its counts `since` and `count` are as before
  once_sent : (w : World (ByNumber Call) State) (target : ℕ) (call : Call) (x : Sending (ByNumber Call)) (digit : x.id < 8)
      (grows : length x.client.requests ≡ length w.client.requests + 1) (since_is : x.client.since ≡ w.client.since) (count_is : x.client.count ≡ w.client.count)
      (sound : Sound width ends Good w) (once : IsOnce w.client w.wire) → IsOnce x.client (requested w target call (Some x)).wire
  once_sent w target call x digit grows since count s h =
      let r : Sent = record { target = target; call = call; line = request_line (Some x.id) call } in
      let t = h.replayed in
      record {
        top = h.top;
        climbs = h.climbs;
        below = h.below;
        sent = omega (arith, h.sent, grows);
        made = h.made;
        last = h.last;
        above =
            subst (λ n. IsAboveExecuted (kept w.wire.state) n x.client.count h.top (w.wire.up ++ record { number = length w.wire.sent; line = record { id = x.id; call = call } } ∷ [])) (sym since)
            (subst (λ n. IsAboveExecuted (kept w.wire.state) w.client.since n h.top (w.wire.up ++ record { number = length w.wire.sent; line = record { id = x.id; call = call } } ∷ [])) (sym count)
            (above_push (kept w.wire.state) w.client.since w.client.count h.top w.wire.up _ (omega (arith, h.sent, s.counted)) h.above));
        replayed = record {
          replies = t.replies;
          replays = replays_more ends w.wire.sent (r ∷ []) w.wire.starts 0 (ends.restarted opening) w.wire.executed t.replies w.wire.state t.replays;
          among = t.among;
          each = t.each;
          begins = t.begins;
          held = t.held;
          lines =
              all_append _ w.wire.up _ (all_on _ _ w.wire.up (as_sent_more call_line w.wire.sent (r ∷ [])) t.lines)
              (record { request = r; found = get_push w.wire.sent r; small = digit; call = refl; text = refl }, tt);
        };
      }

  -- `IsOnce` holds also once the oracle client sent a request
  once_send : (w : World (ByNumber Call) State) (target : ℕ) (call : Call) (deadline : ℕ) (full : Bool) (x : Sending (ByNumber Call))
      → number_send w.client target call deadline full ≡ Some x → Sound width ends Good w → IsOnce w.client w.wire
      → IsOnce x.client (requested w target call (Some x)).wire
  once_send w target call deadline true x e s h = cc
  once_send w target call deadline false x e s h =
      let c = w.client in
      let y : Sending (ByNumber Call) = record {
        id = (length c.requests - c.since) % 8;
        client = record { count = c.count; requests = c.requests ++ pending_of target call deadline ∷ []; since = c.since };
      } in
      subst (λ z. IsOnce z.client (requested w target call (Some z)).wire) (same_Some y x e)
      (once_sent w target call y (omega arith) (length_push c.requests (pending_of target call deadline)) refl refl s h)

  -- `IsReplayed` holds also with other queues, where each upward request is the one that was sent with its number
  replayed_up : (w : Wire State) (top : ℕ) (up : List (Numbered Request)) (down : List (Numbered (List ℕ))) → AllByRecursion (IsAsSent call_line w.sent) up → IsReplayed w top
      → IsReplayed (record w { up = up; down = down }) top
  replayed_up w top up down u t = record { replies = t.replies; replays = t.replays; among = t.among; each = t.each; begins = t.begins; held = t.held; lines = u }

  -- `IsOnce` holds also with other queues, of which its clauses hold
  once_queues : (c : ByNumber Call) (w : Wire State) (up : List (Numbered Request)) (down : List (Numbered (List ℕ))) (h : IsOnce c w)
      → AllByRecursion (λ x. x.number < h.top) down → IsAboveExecuted (kept w.state) c.since c.count h.top up → AllByRecursion (IsAsSent call_line w.sent) up
      → IsOnce c (record w { up = up; down = down })
  once_queues c w up down h d u l = record { top = h.top; last = h.last; climbs = h.climbs; below = h.below; sent = h.sent; made = d; above = u; replayed = replayed_up w h.top up down l h.replayed }

  -- `IsReplayed` holds also with other settlements, replies in flight, and counts of refused sends and of idle events
  replayed_else : (w : Wire State) (top : ℕ) (settled : _) (down : _) (refused idle : ℕ) → IsReplayed w top
      → IsReplayed (record w { settled = settled; down = down; refused = refused; idle = idle }) top
  replayed_else w top settled down refused idle t = record { replies = t.replies; replays = t.replays; among = t.among; each = t.each; begins = t.begins; held = t.held; lines = t.lines }

  -- `IsOnce` holds also with other settlements, and other counts of refused sends and of idle events
  once_else : (c : ByNumber Call) (w : Wire State) (settled : _) (refused idle : ℕ) → IsOnce c w
      → IsOnce c (record w { settled = settled; refused = refused; idle = idle })
  once_else c w settled refused idle h = record {
    top = h.top;
    last = h.last;
    climbs = h.climbs;
    below = h.below;
    sent = h.sent;
    made = h.made;
    above = h.above;
    replayed = replayed_else w h.top settled w.down refused idle h.replayed;
  }

  -- `IsOnce` holds also once the front reply was delivered, with any settlements, and a count for which `IsAboveExecuted` holds
  once_settled : (w : World (ByNumber Call) State) (x : Numbered (List ℕ)) (rest : List (Numbered (List ℕ))) (count : ℕ) (settled : _) → w.wire.down ≡ x ∷ rest
      → (h : IsOnce w.client w.wire) → IsAboveExecuted (kept w.wire.state) w.client.since count h.top w.wire.up
      → IsOnce (record w.client { count = count }) (record w.wire { down = rest; settled = settled })
  once_settled w x rest count settled e h above =
      record {
        top = h.top;
        last = h.last;
        climbs = h.climbs;
        below = h.below;
        sent = h.sent;
        made = (subst (λ q. AllByRecursion (λ y. y.number < h.top) q) e h.made).1;
        above = above;
        replayed = replayed_else w.wire h.top settled rest w.wire.refused w.wire.idle h.replayed;
      }

  -- `IsOnce` holds also once the front reply was delivered
  once_reply : (w : World (ByNumber Call) State) (x : Numbered (List ℕ)) (rest : List (Numbered (List ℕ))) (old : Bool) → w.wire.down ≡ x ∷ rest
      → IsOnce w.client w.wire → IsOnce (number_reply w.client x old).client (with_settled (record w.wire { down = rest }) (number_reply w.client x old)).wire
  once_reply w x rest true e h = once_settled w x rest w.client.count (w.wire.settled ++ []) e h h.above
  once_reply w x rest false e h =
      let m = subst (λ q. AllByRecursion (λ y. y.number < h.top) q) e h.made in
      once_settled w x rest (x.number + 1) (w.wire.settled ++ (number_reply w.client x false).settlements) e h
      (above_count (kept w.wire.state) w.client.since w.client.count (x.number + 1) h.top w.wire.up (omega (arith, m.0)) h.above)

  -- `IsOnce` holds also once the instrument restarted with no request in flight upward, for any `count` and `since` of the client
  once_forgotten : (c : ByNumber Call) (w : Wire State) (count since : ℕ) → w.up ≡ [] → IsOnce c w
      → IsOnce (record c { count = count; since = since }) (started ends w true)
  once_forgotten c w count since e h =
      let t = h.replayed in
      record {
        top = h.top;
        climbs = h.climbs;
        below = h.below;
        sent = h.sent;
        made = h.made;
        above = above_none since count h.top w.up (kept (ends.restarted w.state)) e (keeper.forgets w.state);
        last = last_none h.top w.executed (kept (ends.restarted w.state)) (keeper.forgets w.state);
        replayed = record {
          replies = t.replies;
          replays = replays_started ends keeper.twice w.sent w.starts opening w.executed t.replies w.state t.replays;
          among = t.among;
          each = t.each;
          begins = all_append _ w.starts _ t.begins (omega arith, tt);
          held = kept_among_none h.top t.replies (kept (ends.restarted w.state)) (keeper.forgets w.state);
          lines = t.lines;
        };
      }

  -- `IsOnce` holds also once the client got a moment
  once_expired : (w : World (ByNumber Call) State) (now : ℕ) → IsOnce w.client w.wire → IsOnce ((by_numbers width).expire w.client now) w.wire
  once_expired w now h = record {
    top = h.top;
    last = h.last;
    climbs = h.climbs;
    below = h.below;
    sent = omega (arith, h.sent, length_expired now w.client.count w.client.requests);
    made = h.made;
    above = h.above;
    replayed = h.replayed;
  }

  -- `IsOnce` holds also once the client was restarted, and the instrument with it, while no request was in flight upward
  once_restarted : (w : World (ByNumber Call) State) → ends.joint ≡ true → w.wire.up ≡ [] → IsOnce w.client w.wire
      → IsOnce ((by_numbers width).restart w.client).client (with_settled (started ends w.wire ends.joint) ((by_numbers width).restart w.client)).wire
  once_restarted w joint e h =
      let total = length w.client.requests in
      let v = started ends w.wire true in
      subst (λ b. IsOnce ((by_numbers width).restart w.client).client (with_settled (started ends w.wire b) ((by_numbers width).restart w.client)).wire) (sym joint)
      (once_else (record w.client { count = total; since = total }) v _ v.refused v.idle (once_forgotten w.client w.wire total total e h))

  -- each elementary change keeps `Once`, if a restart of the client restarts the instrument too (`joint`)
  keeps_once : ends.joint ≡ true → IsStable call_line ends (by_numbers width) Once
  keeps_once joint =
      let k = keeps width ends Good call_line ex in
      record {
        idles = λ w h. record { sound = k.idles w h.sound; once = once_else w.client w.wire w.wire.settled w.wire.refused (w.wire.idle + 1) h.once };
        refuses = λ w h. record { sound = k.refuses w h.sound; once = once_else w.client w.wire w.wire.settled (w.wire.refused + 1) w.wire.idle h.once };
        sends = λ w target call deadline x e h. record {
          sound = k.sends w target call deadline x e h.sound;
          once =
              once_send w target call deadline (eqb (length w.client.requests - w.client.count) width) x e h.sound h.once;
        };
        answers = λ w x rest q h. record {
          sound = k.answers w x rest q h.sound;
          once = once_handed w x rest (ends.handed w.wire.state x.line.id x.line.call) (kept_line (kept w.wire.state) (Some x.line.id)) q refl refl
              h.sound h.once;
        };
        loses_up = λ w n h. record {
          sound = k.loses_up w n h.sound;
          once = once_queues w.client w.wire (without n w.wire.up) w.wire.down h.once h.once.made
              (above_others (kept w.wire.state) w.client.since w.client.count h.once.top w.wire.up (without n w.wire.up) (λ P. each_without P n w.wire.up) h.once.above)
              (each_without _ n w.wire.up h.once.replayed.lines);
        };
        repeats_up = λ w n h. record {
          sound = k.repeats_up w n h.sound;
          once = once_queues w.client w.wire (doubled n w.wire.up) w.wire.down h.once h.once.made
              (above_others (kept w.wire.state) w.client.since w.client.count h.once.top w.wire.up (doubled n w.wire.up) (λ P. each_doubled P n w.wire.up) h.once.above)
              (each_doubled _ n w.wire.up h.once.replayed.lines);
        };
        loses_down = λ w n h. record {
          sound = k.loses_down w n h.sound;
          once =
              once_queues w.client w.wire w.wire.up (without n w.wire.down) h.once (each_without _ n w.wire.down h.once.made) h.once.above h.once.replayed.lines;
        };
        repeats_down = λ w n h. record {
          sound = k.repeats_down w n h.sound;
          once =
              once_queues w.client w.wire w.wire.up (doubled n w.wire.down) h.once (each_doubled _ n w.wire.down h.once.made) h.once.above h.once.replayed.lines;
        };
        hears = λ w x rest q h. record { sound = k.hears w x rest q h.sound; once = once_reply w x rest (ltb x.number w.client.count) q h.once };
        expires = λ w now h. record { sound = k.expires w now h.sound; once = once_expired w now h.once };
        restarts = λ w u d h. record { sound = k.restarts w u d h.sound; once = once_restarted w joint u h.once };
        starts = λ w u d h. record { sound = k.starts w u d h.sound; once = once_forgotten w.client w.wire w.client.count w.client.since u h.once };
      }

  -- the run by numbers ends in a world of which `Once` holds, if a restart of the client restarts the instrument too (`joint`),
  -- and the restarted opening state is good
  pub once_at : ends.joint ≡ true → Good (ends.restarted opening) → (es : List Step) → Once (run ends (by_numbers width) es (numbers_open (ends.restarted opening)))
  once_at joint good es =
      stable_all call_line ends (by_numbers width) Once (keeps_once joint) es (numbers_open (ends.restarted opening)) (record {
        sound = sound_open width ends Good (ends.restarted opening) good;
        once = record {
          top = 0;
          climbs = tt;
          below = tt;
          sent = omega arith;
          made = tt;
          above = above_none 0 0 0 [] (kept (ends.restarted opening)) refl (keeper.forgets opening);
          last = last_none 0 [] (kept (ends.restarted opening)) (keeper.forgets opening);
          replayed = record { replies = []; replays = refl; among = tt; each = tt; begins = tt; held = kept_among_none 0 [] (kept (ends.restarted opening)) (keeper.forgets opening); lines = tt };
        };
      })

  -- where `Once` holds, each upward number is, while a reply is kept, the one executed last or one of the `width` above it
  pub recent : (w : World (ByNumber Call) State) → Once w → IsRecent width (kept w.wire.state) w.wire.executed (numbers w.wire.up)
  recent w h = recent_of width w.client.since w.client.count h.once.top (length w.client.requests) (kept w.wire.state) w.wire.executed w.wire.up h.once.above h.once.last h.sound.few h.sound.going
