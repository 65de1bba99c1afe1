-- The invariant of the field with damage. The lines in flight, and what the instrument keeps, are of the last eight requests, so that ids
-- of one digit tell them apart. No order is used.
use Rattle.gc_theorems.proofs.Common.{◌≡◌, ℕ, ◌+◌, ◌%◌, ◌<◌, ◌≤◌, ◌⊎◌, inl, inr, Bool, true, false, List, [], ◌∷◌, ◌++◌, length, Option, Some, None, refl, sym, ◌∙◌, ap, subst, arith, length-append, length-drop, ltb, eqb, AllByRecursion, slice_get, length-map, length_push, ltb-true, eqb-false, true≢false, same_Some, none-some, all_append, every_weaker as all_on, Asked, asked_line, is_of_table, Pending, expired, expires, heard, hears, pending_of, place, send_unless_full, settle, settles_at, length-settle, Handed, KeptReply, by_ids, Numbered, Request, Sent, Ends, Wire, Step, Send, Up_deliver, Up_lose, Up_repeat, Down_deliver, Down_lose, Down_repeat, Expire, Restart_client, Restart_instrument, Nothing, without, doubled, up_delivered, with_up, with_down, started, on_wire, with_settled, requested, down_delivered, get_push, each_without, each_doubled, Move, Sends, Tells, Comes, Foreign, OnLine, Anew, Changes, Joins, IsLineStep, UnderWay, eighth_null, nulls, IsAnInstrument, IsOwnOrNone, MayBeKept, MayForget, own_reply, Harm, KeepsItsOwnAfter, Does, Damages, Strikes, Harmed, last_by_step, harms, harm_begun, AllowsSend, IsFreshIfSent, MayDo, MayHarm, IsCleanBut}
use Rattle.gc_world.proofs.Places.{get_more}
use Rattle.gc_theorems.proofs.Answered.{HoldsOfAll, holds_append, holds_more, holds_settled}
use Rattle.gc_theorems.proofs.BegunFaithful.{each_of_eighth}

-- the place of a fresh line's request: if a request waits with the line's id, it is the one that the line was made for
pub fresh_place : (next waiting count sent number k : ℕ) → next ≡ sent % 8 → count + waiting ≡ sent → waiting ≤ 7 → number < sent → sent ≤ number + 8
    → k ≡ place next waiting (number % 8) → k < waiting → count + k ≡ number
fresh_place next waiting count sent number k h1 h2 h3 h4 h5 h6 h7 = omega (arith, h1, h2, h3, h4, h5, h6, h7)

-- of the last eight requests no two have one id
same_of_eight : (sent m n : ℕ) → m < sent → sent ≤ m + 8 → n < sent → sent ≤ n + 8 → m % 8 ≡ n % 8 → m ≡ n
same_of_eight sent m n h1 h2 h3 h4 h5 = omega (arith, h1, h2, h3, h4, h5)

-- M says of a line that it was made on executing request n with this call, D that it was made of a request that damage made, and B that
-- request n was settled by it and that it was damaged
module _ (M : ℕ → Asked → List ℕ → Type 0) (D : List ℕ → Type 0) (B : ℕ → List ℕ → Type 0) where
  -- the line counts as made for request n: that is a null procedure of the synchronization; or the line is damaged; or it was made
  -- on executing that request
  abbrev pub MadeFor : List Sent → ℕ → List ℕ → Type 0
  MadeFor sent n line = (n < 8) ⊎ (D line ⊎ ((r : Sent) × (slice_get sent n ≡ Some r) × M n r.call line))

  -- request n is a null procedure of the synchronization; or it was settled by this line, which was damaged; or the line was made on
  -- executing it
  abbrev pub Booked : List Sent → ℕ → List ℕ → Type 0
  Booked sent n line = (n < 8) ⊎ (B n line ⊎ ((r : Sent) × (slice_get sent n ≡ Some r) × M n r.call line))

  -- this stays so if more requests are sent
  booked_more : (sent more : List Sent) (n : ℕ) (line : List ℕ) → Booked sent n line → Booked (sent ++ more) n line
  booked_more sent more n line (inl l) = inl l
  booked_more sent more n line (inr (inl d)) = inr (inl d)
  booked_more sent more n line (inr (inr m)) = inr (inr (m.0, get_more sent more n m.0 m.1, m.2))

  -- a line that counts as made for request n, if it settles it
  booked_made : (sent : List Sent) (n : ℕ) (line : List ℕ) → (D line → B n line) → MadeFor sent n line → Booked sent n line
  booked_made sent n line f (inl l) = inl l
  booked_made sent n line f (inr (inl d)) = inr (inl (f d))
  booked_made sent n line f (inr (inr m)) = inr (inr m)

  -- it still does if more requests are sent
  made_for_more : (sent more : List Sent) (n : ℕ) (line : List ℕ) → MadeFor sent n line → MadeFor (sent ++ more) n line
  made_for_more sent more n line (inl l) = inl l
  made_for_more sent more n line (inr (inl d)) = inr (inl d)
  made_for_more sent more n line (inr (inr m)) = inr (inr (m.0, get_more sent more n m.0 m.1, m.2))

  -- a request in flight: it was sent, is one of the last eight, and has its id
  pub record IsUp (sent : List Sent) (x : Numbered Request) : Type 0 where
    pub was_sent : x.number < length sent
    pub near : length sent ≤ x.number + 8
    pub id : x.line.id ≡ x.number % 8
    pub request : Sent
    pub found : slice_get sent x.number ≡ Some request
    pub call : request.call ≡ x.line.call

  -- a reply in flight, where `heard` reads ids: its request was sent, and is one of the last eight; it is heard with its id; and it
  -- counts as made for it
  pub record IsDown (heard : List ℕ → Option ℕ) (sent : List Sent) (x : Numbered (List ℕ)) : Type 0 where
    pub was_sent : x.number < length sent
    pub near : length sent ≤ x.number + 8
    pub id : heard x.line ≡ Some (x.number % 8)
    pub made_for : MadeFor sent x.number x.line

  -- what the instrument keeps, `k`, is damaged, or counts as made for the request that it was handed last
  pub record IsOfLast (sent : List Sent) (last : Option ℕ) (k : KeptReply) : Type 0 where
    pub n : ℕ
    pub is_last : last ≡ Some n
    pub was_sent : n < length sent
    pub near : length sent ≤ n + 8
    pub id : k.id ≡ n % 8
    pub made_for : MadeFor sent n k.line

  -- what the instrument keeps, if anything, is damaged, or as `IsOfLast` says
  abbrev pub IsKeptWell : List Sent → Option ℕ → Option KeptReply → Type 0
  IsKeptWell sent last kept = (k : KeptReply) → kept ≡ Some k → D k.line ⊎ IsOfLast sent last k

  -- once a request was sent that the lines in flight allow
  up_more : (sent : List Sent) (r : Sent) (x : Numbered Request) → IsUp sent x → AllowsSend (length sent) x.number → IsUp (sent ++ r ∷ []) x
  up_more sent r x h b =
      let n = length_push sent r in
      record { was_sent = omega (arith, h.was_sent, n); near = omega (arith, b, n); id = h.id; request = h.request; found = get_more sent (r ∷ []) x.number h.request h.found; call = h.call }

  -- the same of a reply
  down_more : (reads : List ℕ → Option ℕ) (sent : List Sent) (r : Sent) (x : Numbered (List ℕ)) → IsDown reads sent x → AllowsSend (length sent) x.number → IsDown reads (sent ++ r ∷ []) x
  down_more reads sent r x h b =
      let n = length_push sent r in
      record { was_sent = omega (arith, h.was_sent, n); near = omega (arith, b, n); id = h.id; made_for = made_for_more sent (r ∷ []) x.number x.line h.made_for }

  -- of all lines of a queue
  all_more : {Line : Type 0} (P Q : Numbered Line → Type 0) (sent : ℕ) → ((x : Numbered Line) → P x → AllowsSend sent x.number → Q x) → (xs : List (Numbered Line))
      → AllByRecursion P xs → AllByRecursion (λ x. AllowsSend sent x.number) xs → AllByRecursion Q xs
  all_more P Q sent f [] h b = tt
  all_more P Q sent f (x ∷ xs) h b = (f x h.0 b.0, all_more P Q sent f xs h.1 b.1)

  module _ {State : Type 0} (width : ℕ) (narrow : width ≤ 7) (ends : Ends State) (Good : State → Type 0) (kept : State → Option KeptReply) (is : IsAnInstrument ends Good kept) where
    -- the invariant
    pub record Well (h : Harmed State) : Type 0 where
      pub good : Good h.world.wire.state
      pub ids : h.world.client.next ≡ length h.world.wire.sent % 8
      pub all : length h.world.wire.settled + length h.world.client.waiting ≡ length h.world.wire.sent
      pub few : length h.world.client.waiting ≤ width
      pub up : AllByRecursion (IsUp h.world.wire.sent) h.world.wire.up
      pub own : AllByRecursion (λ x. KeepsItsOwnAfter ends Good kept x.line.call) h.world.wire.up
      pub down : AllByRecursion (IsDown ends.heard h.world.wire.sent) h.world.wire.down
      pub keeps : IsKeptWell h.world.wire.sent h.last (kept h.world.wire.state)
      pub answers : HoldsOfAll (Booked h.world.wire.sent) 0 h.world.wire.settled

    -- what is to be known of a step: M of what the instrument executes, D of what is damaged
    pub record KnownOf (h : Harmed State) (m : Harm State) : Type 0 where
      pub made : m ≡ Does (OnLine Up_deliver) → (x : Numbered Request) (rest : List (Numbered Request)) → h.world.wire.up ≡ x ∷ rest → x.line.id ≡ x.number % 8
          → (ends.handed h.world.wire.state x.line.id x.line.call).executed ≡ true → M x.number x.line.call (ends.handed h.world.wire.state x.line.id x.line.call).reply
      pub came : (line : List ℕ) (n : ℕ) → m ≡ Damages line → length h.world.wire.settled ≤ n → length (harms width ends h m).world.wire.settled ≡ n + 1 → B n line
      pub again : (like line : List ℕ) (n : ℕ) (rest : List (Numbered (List ℕ))) → m ≡ Does (Comes like) → h.world.wire.down ≡ record { number = n; line = line } ∷ rest → D line
          → length h.world.wire.settled ≤ n → length (harms width ends h m).world.wire.settled ≡ n + 1 → B n line
      pub struck : (id : ℕ) (call : Asked) → m ≡ Strikes id call → D (ends.handed h.world.wire.state id call).reply

    -- a send that isn't refused
    well_sent : (h : Harmed State) (target : ℕ) (call : Asked) (deadline : ℕ) (full : Bool) → eqb (length h.world.client.waiting) width ≡ full
        → IsFreshIfSent width ends Good kept h call (send_unless_full h.world.client target call deadline full) → Well h
        → Well (record { world = requested h.world target call (send_unless_full h.world.client target call deadline full); last = h.last })
    well_sent h target call deadline true e p w = record { good = w.good; ids = w.ids; all = w.all; few = w.few; up = w.up; own = w.own; down = w.down; keeps = w.keeps; answers = w.answers }
    well_sent h target call deadline false e p w =
        let v = h.world.wire in
        let c = h.world.client in
        let r : Sent = record { target = target; call = call; line = asked_line (Some c.next) call } in
        let q : Pending Asked = pending_of target call deadline in
        let n = length_push v.sent r in
        let n2 = length_push c.waiting q in
        let ne : (length c.waiting ≡ width) → ⊥ = eqb-false _ _ e in
        record {
          good = w.good;
          ids = omega (arith, w.ids, n);
          all = omega (arith, w.all, n, n2);
          few = omega (arith, w.few, n2, ne);
          up =
              all_append (IsUp (v.sent ++ r ∷ [])) v.up _ (all_more (IsUp v.sent) (IsUp (v.sent ++ r ∷ [])) (length v.sent) (λ x. up_more v.sent r x) v.up w.up p.up)
              (record { was_sent = omega (arith, n); near = omega (arith, n); id = w.ids; request = r; found = get_push v.sent r; call = refl }, tt);
          own = all_append (λ x. KeepsItsOwnAfter ends Good kept x.line.call) v.up _ w.own (p.own, tt);
          down = all_more (IsDown ends.heard v.sent) (IsDown ends.heard (v.sent ++ r ∷ [])) (length v.sent) (λ x. down_more ends.heard v.sent r x) v.down w.down p.down;
          keeps = λ k e. elim (w.keeps k e) [
            | inl d ↦ inl d
            | inr o ↦
                let b : AllowsSend (length v.sent) o.n = p.keeps k o.n e o.is_last in
                inr (record {
                  n = o.n;
                  is_last = o.is_last;
                  was_sent = omega (arith, o.was_sent, n);
                  near = omega (arith, b, n);
                  id = o.id;
                  made_for = made_for_more v.sent (r ∷ []) o.n k.line o.made_for;
                })
          ];
          answers = holds_more (Booked v.sent) (Booked (v.sent ++ r ∷ [])) (λ i line t. booked_more v.sent (r ∷ []) i line t) 0 v.settled w.answers;
        }

    -- what a line settles, through place k (`b` true) or nothing, if it may be booked for the request at that place; the replies
    -- behind it are `down`
    well_settled : (h : Harmed State) (down : List (Numbered (List ℕ))) (line : List ℕ) (k : ℕ) (b : Bool) → ltb k (length h.world.client.waiting) ≡ b
        → AllByRecursion (IsDown ends.heard h.world.wire.sent) down
        → (k < length h.world.client.waiting → length (h.world.wire.settled ++ (settles_at h.world.client line k b).settlements) ≡ length h.world.wire.settled + k + 1
        → Booked h.world.wire.sent (length h.world.wire.settled + k) line) → Well h
        → Well (record { world = with_settled (record h.world.wire { down = down }) (settles_at h.world.client line k b); last = h.last })
    well_settled h down line k false e d t w =
        let v = h.world.wire in
        let n = length-append v.settled [] in
        record {
          good = w.good;
          ids = w.ids;
          all = omega (arith, w.all, n);
          few = w.few;
          up = w.up;
          own = w.own;
          down = d;
          keeps = w.keeps;
          answers = holds_append (Booked v.sent) 0 (0 + length v.settled) v.settled [] refl w.answers tt;
        }
    well_settled h down line k true e d t w =
        let v = h.world.wire in
        let c = h.world.client in
        let below : k < length c.waiting = ltb-true _ _ e in
        let n = length-append v.settled (settle k line c.waiting) in
        let n2 = length-settle k line c.waiting below in
        let n3 = length-drop (k + 1) c.waiting in
        record {
          good = w.good;
          ids = w.ids;
          all = omega (arith, w.all, n, n2, n3, below);
          few = omega (arith, w.few, n3);
          up = w.up;
          own = w.own;
          down = d;
          keeps = w.keeps;
          answers =
              holds_append (Booked v.sent) 0 (length v.settled) v.settled (settle k line c.waiting) (omega arith) w.answers
              (holds_settled (Booked v.sent) (length v.settled) (length v.settled + k) k line c.waiting refl (t below (omega (arith, n, n2))));
        }

    -- the same of a line with this id, or without one
    well_heard : (h : Harmed State) (down : List (Numbered (List ℕ))) (line : List ℕ) (o : Option ℕ) → AllByRecursion (IsDown ends.heard h.world.wire.sent) down
        → ((id : ℕ) → o ≡ Some id → place h.world.client.next (length h.world.client.waiting) id < length h.world.client.waiting
        → length (h.world.wire.settled ++ (hears h.world.client line o).settlements) ≡ length h.world.wire.settled + place h.world.client.next (length h.world.client.waiting) id + 1
        → Booked h.world.wire.sent (length h.world.wire.settled + place h.world.client.next (length h.world.client.waiting) id) line)
        → Well h → Well (record { world = with_settled (record h.world.wire { down = down }) (hears h.world.client line o); last = h.last })
    well_heard h down line None d t w =
        let v = h.world.wire in
        let n = length-append v.settled [] in
        record {
          good = w.good;
          ids = w.ids;
          all = omega (arith, w.all, n);
          few = w.few;
          up = w.up;
          own = w.own;
          down = d;
          keeps = w.keeps;
          answers = holds_append (Booked v.sent) 0 (0 + length v.settled) v.settled [] refl w.answers tt;
        }
    well_heard h down line (Some id) d t w =
        let k = place h.world.client.next (length h.world.client.waiting) id in
        well_settled h down line k (ltb k (length h.world.client.waiting)) refl d (λ below size. t id refl below size) w

    -- the front reply comes
    well_came : (h : Harmed State) (q : List (Numbered (List ℕ))) → h.world.wire.down ≡ q
        → ((x : Numbered (List ℕ)) (rest : List (Numbered (List ℕ))) → q ≡ x ∷ rest → D x.line → length h.world.wire.settled ≤ x.number
        → length (down_delivered (by_ids width ends) h.world q).wire.settled ≡ x.number + 1 → B x.number x.line)
        → Well h → Well (record { world = down_delivered (by_ids width ends) h.world q; last = h.last })
    well_came h [] e f w = record { good = w.good; ids = w.ids; all = w.all; few = w.few; up = w.up; own = w.own; down = w.down; keeps = w.keeps; answers = w.answers }
    well_came h (x ∷ rest) e f w =
        let v = h.world.wire in
        let c = h.world.client in
        let d = subst (λ q. AllByRecursion (IsDown ends.heard v.sent) q) e w.down in
        well_heard h rest x.line (ends.heard x.line) d.1 (λ id i below size.
        let same : id ≡ x.number % 8 = same_Some _ _ (sym i ∙ d.0.id) in
        let at : length v.settled + place c.next (length c.waiting) id ≡ x.number =
        fresh_place c.next (length c.waiting) (length v.settled) (length v.sent) x.number (place c.next (length c.waiting) id)
        w.ids w.all (omega (arith, w.few, narrow)) d.0.was_sent d.0.near (ap (place c.next (length c.waiting)) same) below in
        subst (λ n. Booked v.sent n x.line) (sym at)
        (booked_made v.sent x.number x.line (λ broken. f x rest refl broken (omega (arith, at)) (omega (arith, size, at))) d.0.made_for)) w

    -- a damaged line comes
    well_damaged : (h : Harmed State) (line : List ℕ)
        → ((n : ℕ) → length h.world.wire.settled ≤ n → length (harms width ends h (Damages line)).world.wire.settled ≡ n + 1 → B n line)
        → Well h → Well (harms width ends h (Damages line))
    well_damaged h line f w = well_heard h h.world.wire.down line (ends.heard line) w.down (λ id i below size. inr (inl (f _ (omega arith) size))) w

    -- the reply to the front request, x, counts as made for it, whether it was executed or what was kept is sent again
    made_for_reply : (h : Harmed State) (x : Numbered Request) (executed : Bool) → (ends.handed h.world.wire.state x.line.id x.line.call).executed ≡ executed
        → (executed ≡ true → M x.number x.line.call (ends.handed h.world.wire.state x.line.id x.line.call).reply)
        → IsUp h.world.wire.sent x → x.line.id < 8 → Well h
        → MadeFor h.world.wire.sent x.number (ends.handed h.world.wire.state x.line.id x.line.call).reply
    made_for_reply h x true e m u small w =
        inr (inr (u.request, u.found, subst (λ call. M x.number call (ends.handed h.world.wire.state x.line.id x.line.call).reply) (sym u.call) (m refl)))
    made_for_reply h x false e m u small w =
        let own = own_reply x.line.id (ends.handed h.world.wire.state x.line.id x.line.call) in
        elim (w.keeps own (is.repeats h.world.wire.state x.line.id x.line.call w.good small e)) [
          | inl d ↦ inr (inl d)
          | inr o ↦
              let same : o.n ≡ x.number = same_of_eight (length h.world.wire.sent) o.n x.number o.was_sent o.near u.was_sent u.near (sym o.id ∙ u.id) in
              subst (λ n. MadeFor h.world.wire.sent n own.line) same o.made_for
        ]

    -- after a request for such a call the instrument keeps its own reply, or nothing
    keeps_own : (state : State) (id : ℕ) (call : Asked) → Good state → id < 8 → KeepsItsOwnAfter ends Good kept call
        → IsOwnOrNone (own_reply id (ends.handed state id call)) (kept (ends.handed state id call).state)
    keeps_own state id call good small (inl table) = own_of_table (is.keeps state id call good small) where
      -- so it is of a call of the table
      own_of_table : MayBeKept (is_of_table call) (own_reply id (ends.handed state id call)) (kept state) (kept (ends.handed state id call).state)
          → IsOwnOrNone (own_reply id (ends.handed state id call)) (kept (ends.handed state id call).state)
      own_of_table (inl own) = own
      own_of_table (inr other) = absurd (true≢false (sym table ∙ other.0))
    keeps_own state id call good small (inr alike) = alike state id call good small

    -- the front request reaches the instrument
    well_reached : (h : Harmed State) (q : List (Numbered Request)) → h.world.wire.up ≡ q
        → ((x : Numbered Request) (rest : List (Numbered Request)) → q ≡ x ∷ rest → x.line.id ≡ x.number % 8
        → (ends.handed h.world.wire.state x.line.id x.line.call).executed ≡ true → M x.number x.line.call (ends.handed h.world.wire.state x.line.id x.line.call).reply)
        → Well h → Well (record { world = on_wire h.world (up_delivered ends h.world.wire q); last = last_by_step h.last Up_deliver q })
    well_reached h [] e m w = record { good = w.good; ids = w.ids; all = w.all; few = w.few; up = w.up; own = w.own; down = w.down; keeps = w.keeps; answers = w.answers }
    well_reached h (x ∷ rest) e m w =
        let v = h.world.wire in
        let hd = ends.handed v.state x.line.id x.line.call in
        let u = subst (λ q. AllByRecursion (IsUp v.sent) q) e w.up in
        let a = subst (λ q. AllByRecursion (λ x. KeepsItsOwnAfter ends Good kept x.line.call) q) e w.own in
        let i = u.0.id in
        let small : x.line.id < 8 = omega (arith, i) in
        let made_for : MadeFor v.sent x.number hd.reply = made_for_reply h x hd.executed refl (λ yes. m x rest refl i yes) u.0 small w in
        record {
          good = is.stays_good v.state x.line.id x.line.call w.good small;
          ids = w.ids;
          all = w.all;
          few = w.few;
          up = u.1;
          own = a.1;
          down =
              all_append (IsDown ends.heard v.sent) v.down _ w.down (
                record {
                  was_sent = u.0.was_sent;
                  near = u.0.near;
                  id = is.hears hd.reply ∙ is.replies v.state x.line.id x.line.call w.good small ∙ ap Some i;
                  made_for = made_for;
                },
                tt,
              );
          keeps = kept_then x hd u.0 made_for (keeps_own v.state x.line.id x.line.call w.good small a.0);
          answers = w.answers;
        }
      where
        -- what is kept then is the reply to x, or nothing
        kept_then : (x : Numbered Request) (hd : Handed State) → IsUp h.world.wire.sent x → MadeFor h.world.wire.sent x.number hd.reply
            → IsOwnOrNone (own_reply x.line.id hd) (kept hd.state) → IsKeptWell h.world.wire.sent (Some x.number) (kept hd.state)
        kept_then x hd u made_for (inl none) k e = absurd (none-some k (sym none ∙ e))
        kept_then x hd u made_for (inr same) k e =
            let one : own_reply x.line.id hd ≡ k = same_Some _ _ (sym same ∙ e) in
            inr (subst (λ k. IsOfLast h.world.wire.sent (Some x.number) k) one
            (record { n = x.number; is_last = refl; was_sent = u.was_sent; near = u.near; id = u.id; made_for = made_for }))

    -- a request that damage made reaches the instrument
    well_struck : (h : Harmed State) (id : ℕ) (call : Asked) → id < 8 → D (ends.handed h.world.wire.state id call).reply → Well h → Well (harms width ends h (Strikes id call))
    well_struck h id call small d w =
        record {
          good = is.stays_good h.world.wire.state id call w.good small;
          ids = w.ids;
          all = w.all;
          few = w.few;
          up = w.up;
          own = w.own;
          down = w.down;
          keeps = kept_then (is.keeps h.world.wire.state id call w.good small);
          answers = w.answers;
        }
      where
        -- what is kept then is damaged, or what was kept before
        kept_then : MayBeKept (is_of_table call) (own_reply id (ends.handed h.world.wire.state id call)) (kept h.world.wire.state) (kept (ends.handed h.world.wire.state id call).state)
            → IsKeptWell h.world.wire.sent h.last (kept (ends.handed h.world.wire.state id call).state)
        kept_then (inl (inl none)) k e = absurd (none-some k (sym none ∙ e))
        kept_then (inl (inr same)) k e =
            let one : own_reply id (ends.handed h.world.wire.state id call) ≡ k = same_Some _ _ (sym same ∙ e) in
            inl (subst (λ (k : KeptReply). D k.line) one d)
        kept_then (inr f) k e = w.keeps k (sym f.1 ∙ e)

    -- the instrument is in another good state, which keeps what was kept, or nothing
    well_state : (h : Harmed State) (wire : Wire State) → wire.sent ≡ h.world.wire.sent → (state : State) → Good state → MayForget (kept h.world.wire.state) (kept state) → Well h
        → Well (record { world = on_wire h.world (record h.world.wire { state = state }); last = h.last })
    well_state h wire e state good may w =
        record { good = good; ids = w.ids; all = w.all; few = w.few; up = w.up; own = w.own; down = w.down; keeps = kept_then may; answers = w.answers }
      where
        -- what is kept then
        kept_then : MayForget (kept h.world.wire.state) (kept state) → IsKeptWell h.world.wire.sent h.last (kept state)
        kept_then (inl none) k e = absurd (none-some k (sym none ∙ e))
        kept_then (inr same) k e = w.keeps k (sym same ∙ e)

    -- the instrument starts again
    well_started : (h : Harmed State) → Well h → Well (record { world = on_wire h.world (started ends h.world.wire true); last = h.last })
    well_started h w =
        record { good = is.starts_good h.world.wire.state w.good; ids = w.ids; all = w.all; few = w.few; up = w.up; own = w.own; down = w.down; keeps = kept_then (is.starts h.world.wire.state w.good); answers = w.answers }
      where
        -- what is kept then
        kept_then : MayForget (kept h.world.wire.state) (kept (ends.restarted h.world.wire.state)) → IsKeptWell h.world.wire.sent h.last (kept (ends.restarted h.world.wire.state))
        kept_then (inl none) k e = absurd (none-some k (sym none ∙ e))
        kept_then (inr same) k e = w.keeps k (sym same ∙ e)

    -- another upward queue, if that is possible (`b`)
    well_up : (h : Harmed State) (up : List (Numbered Request)) (b : Bool) → AllByRecursion (IsUp h.world.wire.sent) up → AllByRecursion (λ x. KeepsItsOwnAfter ends Good kept x.line.call) up → Well h
        → Well (record { world = on_wire h.world (with_up h.world.wire up b); last = h.last })
    well_up h up false u a w = record { good = w.good; ids = w.ids; all = w.all; few = w.few; up = w.up; own = w.own; down = w.down; keeps = w.keeps; answers = w.answers }
    well_up h up true u a w = record { good = w.good; ids = w.ids; all = w.all; few = w.few; up = u; own = a; down = w.down; keeps = w.keeps; answers = w.answers }

    -- another downward queue, if that is possible (`b`)
    well_down : (h : Harmed State) (down : List (Numbered (List ℕ))) (b : Bool) → AllByRecursion (IsDown ends.heard h.world.wire.sent) down → Well h
        → Well (record { world = on_wire h.world (with_down h.world.wire down b); last = h.last })
    well_down h down false d w = record { good = w.good; ids = w.ids; all = w.all; few = w.few; up = w.up; own = w.own; down = w.down; keeps = w.keeps; answers = w.answers }
    well_down h down true d w = record { good = w.good; ids = w.ids; all = w.all; few = w.few; up = w.up; own = w.own; down = d; keeps = w.keeps; answers = w.answers }

    -- a step of the line
    well_step : (h : Harmed State) (step : Step) → IsLineStep step → KnownOf h (Does (OnLine step)) → Well h → Well (harms width ends h (Does (OnLine step)))
    well_step h (Send target call deadline) p t w = absurd p
    well_step h Up_deliver p t w = well_reached h h.world.wire.up refl (λ x rest e id yes. t.made refl x rest e id yes) w
    well_step h (Up_lose k) p t w = well_up h (without k h.world.wire.up) (ltb k (length h.world.wire.up)) (each_without _ k h.world.wire.up w.up) (each_without _ k h.world.wire.up w.own) w
    well_step h (Up_repeat k) p t w = well_up h (doubled k h.world.wire.up) (ltb k (length h.world.wire.up)) (each_doubled _ k h.world.wire.up w.up) (each_doubled _ k h.world.wire.up w.own) w
    well_step h Down_deliver p t w = absurd p
    well_step h (Down_lose k) p t w = well_down h (without k h.world.wire.down) (ltb k (length h.world.wire.down)) (each_without _ k h.world.wire.down w.down) w
    well_step h (Down_repeat k) p t w = well_down h (doubled k h.world.wire.down) (ltb k (length h.world.wire.down)) (each_doubled _ k h.world.wire.down w.down) w
    well_step h (Expire now) p t w = absurd p
    well_step h Restart_client p t w = absurd p
    well_step h Restart_instrument p t w = absurd p
    well_step h Nothing p t w = record { good = w.good; ids = w.ids; all = w.all; few = w.few; up = w.up; own = w.own; down = w.down; keeps = w.keeps; answers = w.answers }

    -- a moment is read
    well_expired : (h : Harmed State) (now : ℕ) → Well h → Well (record { world = record { wire = h.world.wire; client = expires h.world.client now }; last = h.last })
    well_expired h now w =
        let n = length-map h.world.client.waiting (expired now) in
        record { good = w.good; ids = w.ids; all = omega (arith, w.all, n); few = omega (arith, w.few, n); up = w.up; own = w.own; down = w.down; keeps = w.keeps; answers = w.answers }

    -- a move of the field
    pub well_move : (h : Harmed State) (m : Move State) → MayDo width ends Good kept h m → KnownOf h (Does m) → Well h → Well (harms width ends h (Does m))
    well_move h (Sends target call deadline) p t w = well_sent h target call deadline (eqb (length h.world.client.waiting) width) refl p w
    well_move h (Tells now) p t w = well_expired h now w
    well_move h (Comes line) p t w = well_came h h.world.wire.down refl (λ x rest e broken le size. t.again line x.line x.number rest refl e broken le size) w
    well_move h (Foreign line) p t w = w
    well_move h (OnLine step) p t w = well_step h step p t w
    well_move h Anew p t w = well_started h w
    well_move h (Changes state) p t w = well_state h h.world.wire refl state p.0 (inr p.1) w
    well_move h (Joins line) p t w = absurd p

    -- a step, with damage
    pub well_harm : (h : Harmed State) (m : Harm State) → MayHarm width ends Good kept h m → KnownOf h m → Well h → Well (harms width ends h m)
    well_harm h (Does move) p t w = well_move h move p t w
    well_harm h (Damages line) p t w = well_damaged h line (λ n le size. t.came line n refl le size) w
    well_harm h (Strikes id call) p t w = well_struck h id call p (t.struck id call refl) w

    -- after a clean synchronization
    pub well_begun : (u : UnderWay State) → IsCleanBut D Good kept u → Well (harm_begun width ends u)
    well_begun u clean =
        let seven : 7 < 8 = omega arith in
        let near : 8 ≤ 7 + 8 = omega arith in
        record {
          good = clean.good;
          ids = refl;
          all = refl;
          few = omega arith;
          up = each_of_eighth (IsUp nulls) (λ x. x ≡ eighth_null)
              (λ x e. record {
                was_sent = seven;
                near = near;
                id = ap (λ (r : Request). r.id) e;
                request = _;
                found = refl;
                call = sym (ap (λ (r : Request). r.call) e);
              }) u.up clean.up;
          own = each_of_eighth (λ x. KeepsItsOwnAfter ends Good kept x.line.call) (λ x. x ≡ eighth_null) (λ x e. inl (ap (λ (r : Request). is_of_table r.call) e)) u.up clean.up;
          down = each_of_eighth (IsDown ends.heard nulls) (λ line. heard line ≡ Some 7)
              (λ line e. record { was_sent = seven; near = near; id = is.hears line ∙ e; made_for = inl seven }) u.down clean.down;
          keeps = λ k e. elim (clean.keeps k e) [
            | inl id ↦ inr (record { n = 7; is_last = refl; was_sent = seven; near = near; id = id; made_for = inl seven })
            | inr d ↦ inl d
          ];
          answers = (tt, (tt, (tt, (tt, (tt, (tt, (tt, (tt, tt))))))));
        }

module _ (M : ℕ → Asked → List ℕ → Type 0) (D E : List ℕ → Type 0) (B : ℕ → List ℕ → Type 0) {State : Type 0} (width : ℕ) (narrow : width ≤ 7) (ends : Ends State)
    (Good : State → Type 0) (kept : State → Option KeptReply) (is : IsAnInstrument ends Good kept) (more : (line : List ℕ) → D line → E line) where
  -- a line that counts as made for a request still does if more lines are damaged
  made_for_wider : (sent : List Sent) (n : ℕ) (line : List ℕ) → MadeFor M D B sent n line → MadeFor M E B sent n line
  made_for_wider sent n line (inl l) = inl l
  made_for_wider sent n line (inr (inl d)) = inr (inl (more line d))
  made_for_wider sent n line (inr (inr m)) = inr (inr m)

  -- so does what is kept
  kept_wider : (sent : List Sent) (last : Option ℕ) (k : KeptReply) → D k.line ⊎ IsOfLast M D B sent last k → E k.line ⊎ IsOfLast M E B sent last k
  kept_wider sent last k (inl d) = inl (more k.line d)
  kept_wider sent last k (inr o) =
      inr (record { n = o.n; is_last = o.is_last; was_sent = o.was_sent; near = o.near; id = o.id; made_for = made_for_wider sent o.n k.line o.made_for })

  -- so the invariant holds if more lines are damaged
  pub well_more : (h : Harmed State) → Well M D B width narrow ends Good kept is h → Well M E B width narrow ends Good kept is h
  well_more h w =
      record {
        good = w.good;
        ids = w.ids;
        all = w.all;
        few = w.few;
        up = all_on (IsUp M D B h.world.wire.sent) (IsUp M E B h.world.wire.sent) h.world.wire.up
            (λ x u. record { was_sent = u.was_sent; near = u.near; id = u.id; request = u.request; found = u.found; call = u.call }) w.up;
        own = w.own;
        down = all_on (IsDown M D B ends.heard h.world.wire.sent) (IsDown M E B ends.heard h.world.wire.sent) h.world.wire.down
            (λ x d. record { was_sent = d.was_sent; near = d.near; id = d.id; made_for = made_for_wider h.world.wire.sent x.number x.line d.made_for }) w.down;
        keeps = λ k e. kept_wider h.world.wire.sent h.last k (w.keeps k e);
        answers = w.answers;
      }
