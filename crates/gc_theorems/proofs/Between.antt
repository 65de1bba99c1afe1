-- What is executed between two moves of a stretch, and what it makes of the instrument. A *stretch* is a run once it has
-- synchronized: what is in flight then, and its moves. `Did` says of two wires, an earlier and a later one, what was executed
-- between them; `Goes` says it, too, and that the later wire is `IsConsistent` as the earlier one was.
use Rattle.gc_theorems.proofs.Common.{◌≡◌, ℕ, ◌+◌, ◌≤◌, Bool, true, false, cond, List, [], ◌∷◌, ◌++◌, length, Option, Some, None, refl, sym, ◌∙◌, ap, subst, arith, append_assoc, append-nil, ltb, AllByRecursion, fold, slice_get, all_append, every_weaker as all_on, Asked, Table, NullProc, asked_line, ById, Sending, sends, Handed, KeptReply, by_ids, Ends, Request, Sent, Numbered, Step, Up_deliver, Up_lose, Up_repeat, Down_lose, Down_repeat, Nothing, World, Wire, without, doubled, replied, up_delivered, with_up, with_down, started, requested, down_delivered, happens, get_push, each_without, each_doubled, UnderWay, IsClean, eighth_null, ids_begun, nulls, ArePossibleOnceBegun, Move, Sends, Tells, Comes, Foreign, OnLine, Anew, Changes, Joins, IsLineStep, moves, moved, ArePossible, HasNoStartAmong, IsUndisturbed, HasEffect, AreCalls}
use Rattle.std.proofs.lemmas.List.{length-append}
use Rattle.std.proofs.lemmas.List.Sums.{fold-append}
use Rattle.gc_world.proofs.Places.{get_more}
use Rattle.gc_theorems.proofs.BegunFaithful.{each_of_eighth}

-- What the instrument becomes.

module _ {State : Type 0} (ends : Ends State) where
  -- where executing has the effect `effect` (`HasEffect`), two states that are alike apart from what is kept are still so
  -- after the same calls
  effects_alike : (apart : State → State) (effect : State → Asked → State) → HasEffect ends apart effect → (calls : List Asked) (s t : State)
      → apart s ≡ apart t → apart (fold effect s calls) ≡ apart (fold effect t calls)
  effects_alike apart effect has [] s t e = e
  effects_alike apart effect has (call ∷ calls) s t e = effects_alike apart effect has calls (effect s call) (effect t call) (has.alike s t call e)

  -- executing these calls makes the second state of the first, apart from what is kept, for each effect that executing has
  abbrev pub IsMadeBy : (s : State) (calls : List Asked) (t : State) → Type 0
  IsMadeBy s calls t = (apart : State → State) (effect : State → Asked → State) → HasEffect ends apart effect → apart t ≡ apart (fold effect s calls)

  -- if calls make the second state of the first, and others the third of the second, both together make the third of the first
  pub made_both : (r s t : State) (xs ys : List Asked) → IsMadeBy r xs s → IsMadeBy s ys t → IsMadeBy r (xs ++ ys) t
  made_both r s t xs ys h g apart effect has =
      g apart effect has ∙ effects_alike apart effect has ys s (fold effect r xs) (h apart effect has) ∙ ap apart (sym (fold-append effect r xs ys))

  -- the empty list of calls makes of a state that state itself
  made_none : (s t : State) → t ≡ s → IsMadeBy s [] t
  made_none s t e apart effect has = ap apart e

  -- an executed call makes the state after it
  made_one : (s : State) (id : ℕ) (call : Asked) → (ends.handed s id call).executed ≡ true → IsMadeBy s (call ∷ []) (ends.handed s id call).state
  made_one s id call e apart effect has = has.executes s id call e

  -- a line that is sent again changes nothing but what is kept
  made_again : (s : State) (id : ℕ) (call : Asked) → (ends.handed s id call).executed ≡ false → IsMadeBy s [] (ends.handed s id call).state
  made_again s id call e apart effect has = has.repeats s id call e

-- What happens from one wire to another.

-- these are still the calls of the requests with these numbers when more requests are sent
pub calls_more : (sent more : List Sent) (ns : List ℕ) (calls : List Asked) → AreCalls sent ns calls → AreCalls (sent ++ more) ns calls
calls_more sent more [] [] h = tt
calls_more sent more [] (call ∷ calls) h = absurd h
calls_more sent more (n ∷ ns) [] h = absurd h
calls_more sent more (n ∷ ns) (call ∷ calls) h = ((h.0.0, get_more sent more n h.0.0 h.0.1, h.0.2), calls_more sent more ns calls h.1)

-- the calls of two lists of requests are those of the first and then those of the second
calls_append : (sent : List Sent) (ns ks : List ℕ) (xs ys : List Asked) → AreCalls sent ns xs → AreCalls sent ks ys → AreCalls sent (ns ++ ks) (xs ++ ys)
calls_append sent [] ks [] ys h g = g
calls_append sent [] ks (x ∷ xs) ys h g = absurd h
calls_append sent (n ∷ ns) ks [] ys h g = absurd h
calls_append sent (n ∷ ns) ks (x ∷ xs) ys h g = (h.0, calls_append sent ns ks xs ys h.1 g)

-- this request in flight is one that was sent, with its call
abbrev WasSent : List Sent → Numbered Request → Type 0
WasSent sent x = (r : Sent) × (slice_get sent x.number ≡ Some r) × (r.call ≡ x.line.call)

-- a request that was sent was sent where more are sent, too
sent_among_more : (sent more : List Sent) (x : Numbered Request) → WasSent sent x → WasSent (sent ++ more) x
sent_among_more sent more x h = (h.0, get_more sent more x.number h.0 h.1, h.2)

-- if each start had at most as many executions before it as there are in all (`xs`), the same holds when more follow (`ys`)
begun_more : (xs ys starts : List ℕ) → AllByRecursion (λ s. s ≤ length xs) starts → AllByRecursion (λ s. s ≤ length (xs ++ ys)) starts
begun_more xs ys starts h = let size : length (xs ++ ys) ≡ length xs + length ys = length-append xs ys in
    all_on (λ s. s ≤ length xs) (λ s. s ≤ length (xs ++ ys)) starts (λ s l. omega (arith, l, size)) h

module _ {State : Type 0} (ends : Ends State) where
  -- what happened between two wires: the requests `more` were sent; those with these numbers, which asked for these calls, were
  -- executed; there was no start if it is `quiet`; and if it is `still`, the instrument's state is what the calls made of it
  pub record Did (v w : Wire State) (quiet still : Type 0) : Type 0 where
    pub numbers : List ℕ
    pub calls : List Asked
    pub executed : w.executed ≡ v.executed ++ numbers
    pub more : List Sent
    pub sent : w.sent ≡ v.sent ++ more
    pub asked : AreCalls w.sent numbers calls
    pub starts : quiet → w.starts ≡ v.starts
    pub state : still → IsMadeBy ends v.state calls w.state

  -- `Did` of one interval, from u to v, and of another after it, from v to w, gives `Did` of both as one, under the premises q
  -- and s of the second, if these imply the premises p and r of the first
  did_both : (u v w : Wire State) (q p s r : Type 0) → (q → p) → (s → r) → Did u v p r → Did v w q s → Did u w q s
  did_both u v w q p s r f g h i = record {
    numbers = h.numbers ++ i.numbers;
    calls = h.calls ++ i.calls;
    executed = i.executed ∙ ap (λ l. l ++ i.numbers) h.executed ∙ append_assoc u.executed h.numbers i.numbers;
    more = h.more ++ i.more;
    sent = i.sent ∙ ap (λ l. l ++ i.more) h.sent ∙ append_assoc u.sent h.more i.more;
    asked = calls_append w.sent h.numbers i.numbers h.calls i.calls (subst (λ l. AreCalls l h.numbers h.calls) (sym i.sent) (calls_more v.sent i.more h.numbers h.calls h.asked)) i.asked;
    starts = λ quiet. i.starts quiet ∙ h.starts (f quiet);
    state = λ still. made_both ends u.state v.state w.state h.calls i.calls (h.state (g still)) (i.state still);
  }

  -- if nothing was executed, there was no start if it is `quiet`, and the state is as no calls make it if it is `still`, `Did`
  -- holds, whatever was sent (`more`)
  did_none : (v w : Wire State) (quiet still : Type 0) (more : List Sent) → w.executed ≡ v.executed → w.sent ≡ v.sent ++ more → (quiet → w.starts ≡ v.starts)
      → (still → IsMadeBy ends v.state [] w.state) → Did v w quiet still
  did_none v w quiet still more executed sent starts state = record {
    numbers = [];
    calls = [];
    executed = executed ∙ sym (append-nil v.executed);
    more = more;
    sent = sent;
    asked = tt;
    starts = starts;
    state = state;
  }

  -- if the executions, the requests, the starts and the state are the same, `Did` holds
  did_same : (v w : Wire State) (quiet still : Type 0) → w.executed ≡ v.executed → w.sent ≡ v.sent → w.starts ≡ v.starts → w.state ≡ v.state → Did v w quiet still
  did_same v w quiet still executed sent starts state =
      did_none v w quiet still [] executed (sent ∙ sym (append-nil v.sent)) (λ q. starts) (λ s. made_none ends v.state w.state state)

  -- each request in flight is one that was sent, with its call; and no start had more executions before it than there are in
  -- all
  pub record IsConsistent (w : Wire State) : Type 0 where
    pub known : AllByRecursion (WasSent w.sent) w.up
    pub begun : AllByRecursion (λ s. s ≤ length w.executed) w.starts

  -- what happened between two wires, and that the second one is `IsConsistent`, too
  record Goes (v w : Wire State) (quiet still : Type 0) : Type 0 where
    did : Did v w quiet still
    stands : IsConsistent w

  -- where v is `IsConsistent`, the lines in flight alone changed, and each request in flight then was sent, `Goes` holds: nothing
  -- was executed
  goes_same : (v w : Wire State) (quiet still : Type 0) → w.executed ≡ v.executed → w.sent ≡ v.sent → w.starts ≡ v.starts → w.state ≡ v.state
      → AllByRecursion (WasSent v.sent) w.up → IsConsistent v → Goes v w quiet still
  goes_same v w quiet still executed sent starts state known k = record {
    did = did_same v w quiet still executed sent starts state;
    stands = record {
      known = subst (λ l. AllByRecursion (WasSent l) w.up) (sym sent) known;
      begun = subst (λ l. AllByRecursion (λ s. s ≤ length l) w.starts) (sym executed) (subst (λ l. AllByRecursion (λ s. s ≤ length v.executed) l) (sym starts) k.begun);
    };
  }

  -- the front request reaches the instrument
  module _ (v : Wire State) (x : Numbered Request) (rest : List (Numbered Request)) (quiet still : Type 0) (q : v.up ≡ x ∷ rest) (k : IsConsistent v) where
    -- the front request, and those after it, were sent
    front_was_sent : WasSent v.sent x × AllByRecursion (WasSent v.sent) rest
    front_was_sent = subst (λ l. AllByRecursion (WasSent v.sent) l) q k.known

    -- if the instrument is handed the front request, and executes it (`b`) or sends a line again, `Goes` holds
    reached_by : (hd : Handed State) (b : Bool) → hd.executed ≡ b → (hd.executed ≡ true → IsMadeBy ends v.state (x.line.call ∷ []) hd.state)
        → (hd.executed ≡ false → IsMadeBy ends v.state [] hd.state) → Goes v (replied v x.number rest hd) quiet still
    reached_by hd true e new same =
        let w = replied v x.number rest hd in
        let acted : w.executed ≡ v.executed ++ x.number ∷ [] = ap (λ b. cond b (v.executed ++ x.number ∷ []) v.executed) e in
        record {
          did = record {
            numbers = x.number ∷ [];
            calls = x.line.call ∷ [];
            executed = acted;
            more = [];
            sent = sym (append-nil v.sent);
            asked = (front_was_sent.0, tt);
            starts = λ q. refl;
            state = λ s. new e;
          };
          stands = record { known = front_was_sent.1; begun = subst (λ l. AllByRecursion (λ s. s ≤ length l) v.starts) (sym acted) (begun_more v.executed (x.number ∷ []) v.starts k.begun) };
        }
    reached_by hd false e new same =
        let w = replied v x.number rest hd in
        let acted : w.executed ≡ v.executed = ap (λ b. cond b (v.executed ++ x.number ∷ []) v.executed) e in
        record {
          did = did_none v w quiet still [] acted (sym (append-nil v.sent)) (λ q. refl) (λ s. same e);
          stands = record { known = front_was_sent.1; begun = subst (λ l. AllByRecursion (λ s. s ≤ length l) v.starts) (sym acted) k.begun };
        }

    -- if the front request reaches the instrument, `Goes` holds
    reached : Goes v (replied v x.number rest (ends.handed v.state x.line.id x.line.call)) quiet still
    reached =
        let hd = ends.handed v.state x.line.id x.line.call in
        reached_by hd hd.executed refl (λ e. made_one ends v.state x.line.id x.line.call e) (λ e. made_again ends v.state x.line.id x.line.call e)

  -- where v is `IsConsistent`, and the front request, if one is in flight, reaches the instrument, `Goes` holds
  goes_up : (v : Wire State) (quiet still : Type 0) (q : List (Numbered Request)) → v.up ≡ q → IsConsistent v → Goes v (up_delivered ends v q) quiet still
  goes_up v quiet still [] e k = goes_same v _ quiet still refl refl refl refl k.known k
  goes_up v quiet still (x ∷ rest) e k = reached v x rest quiet still e k

  -- where v is `IsConsistent`, and the requests in flight change to others that were sent, or (`b` is false) stay, `Goes` holds
  goes_with_up : (v : Wire State) (quiet still : Type 0) (up : List (Numbered Request)) (b : Bool) → AllByRecursion (WasSent v.sent) up → IsConsistent v → Goes v (with_up v up b) quiet still
  goes_with_up v quiet still up true known k = goes_same v _ quiet still refl refl refl refl known k
  goes_with_up v quiet still up false known k = goes_same v _ quiet still refl refl refl refl k.known k

  -- where v is `IsConsistent`, and the replies in flight change, or (`b` is false) stay, `Goes` holds
  goes_with_down : (v : Wire State) (quiet still : Type 0) (down : List (Numbered (List ℕ))) (b : Bool) → IsConsistent v → Goes v (with_down v down b) quiet still
  goes_with_down v quiet still down true k = goes_same v _ quiet still refl refl refl refl k.known k
  goes_with_down v quiet still down false k = goes_same v _ quiet still refl refl refl refl k.known k

  -- where the wire is `IsConsistent`, and the front reply, if one is in flight, comes, `Goes` holds
  goes_down : (w : World (ById Asked) State) (quiet still : Type 0) (q : List (Numbered (List ℕ))) → IsConsistent w.wire → Goes w.wire (down_delivered (by_ids 7 ends) w q).wire quiet still
  goes_down w quiet still [] k = goes_same w.wire _ quiet still refl refl refl refl k.known k
  goes_down w quiet still (x ∷ rest) k = goes_same w.wire _ quiet still refl refl refl refl k.known k

  -- where the wire is `IsConsistent`, and a request is sent, or refused, `Goes` holds
  goes_sent : (w : World (ById Asked) State) (quiet still : Type 0) (target : ℕ) (call : Asked) (o : Option (Sending (ById Asked))) → IsConsistent w.wire
      → Goes w.wire (requested w target call o).wire quiet still
  goes_sent w quiet still target call None k = goes_same w.wire _ quiet still refl refl refl refl k.known k
  goes_sent w quiet still target call (Some x) k =
      let v = w.wire in
      let r : Sent = record { target = target; call = call; line = asked_line (Some x.id) call } in
      record {
        did = did_none v _ quiet still (r ∷ []) refl refl (λ q. refl) (λ s. made_none ends v.state v.state refl);
        stands = record {
          known = all_append (WasSent (v.sent ++ r ∷ [])) v.up _ (all_on _ _ v.up (sent_among_more v.sent (r ∷ [])) k.known) ((r, get_push v.sent r, refl), tt);
          begun = k.begun;
        };
      }

  -- where the wire is `IsConsistent`, and a step of the line happens, `Goes` holds
  goes_line : (w : World (ById Asked) State) (quiet still : Type 0) (step : Step) → IsLineStep step → IsConsistent w.wire → Goes w.wire (happens ends (by_ids 7 ends) w step).wire quiet still
  goes_line w quiet still Up_deliver p k = goes_up w.wire quiet still w.wire.up refl k
  goes_line w quiet still (Up_lose i) p k = goes_with_up w.wire quiet still (without i w.wire.up) (ltb i (length w.wire.up)) (each_without _ i w.wire.up k.known) k
  goes_line w quiet still (Up_repeat i) p k = goes_with_up w.wire quiet still (doubled i w.wire.up) (ltb i (length w.wire.up)) (each_doubled _ i w.wire.up k.known) k
  goes_line w quiet still (Down_lose i) p k = goes_with_down w.wire quiet still (without i w.wire.down) (ltb i (length w.wire.down)) k
  goes_line w quiet still (Down_repeat i) p k = goes_with_down w.wire quiet still (doubled i w.wire.down) (ltb i (length w.wire.down)) k
  goes_line w quiet still Nothing p k = goes_same w.wire _ quiet still refl refl refl refl k.known k
  goes_line w quiet still other p k = absurd p

  -- where `Goes` holds over one move with the premises p and r, and over the moves after it with q and s, and q implies p, and s
  -- implies r, `Goes` holds over all of these moves with q and s
  goes_then : (u v w : Wire State) (p q r s : Type 0) → (q → p) → (s → r) → Goes u v p r → Goes v w q s → Goes u w q s
  goes_then u v w p q r s f g h i = record { did = did_both u v w q p s r f g h.did i.did; stands = i.stands }

  -- where `Goes` holds over one interval and over another after it, with the same premises, it holds over both
  goes_alike : (u v w : Wire State) (q s : Type 0) → Goes u v q s → Goes v w q s → Goes u w q s
  goes_alike u v w q s h i = goes_then u v w q q s s (λ x. x) (λ x. x) h i

  -- where `Goes` holds, it holds under stronger premises, too
  goes_less : (v w : Wire State) (p q r s : Type 0) → (q → p) → (s → r) → Goes v w p r → Goes v w q s
  goes_less v w p q r s f g h = record {
    did = record {
      numbers = h.did.numbers;
      calls = h.did.calls;
      executed = h.did.executed;
      more = h.did.more;
      sent = h.did.sent;
      asked = h.did.asked;
      starts = λ x. h.did.starts (f x);
      state = λ x. h.did.state (g x);
    };
    stands = h.stands;
  }

  -- where v is `IsConsistent`, and the instrument starts, `Goes` holds: the interval is neither quiet nor still
  goes_anew : (v : Wire State) → IsConsistent v → Goes v (started ends v true) ⊥ ⊥
  goes_anew v k = record {
    did = did_none v (started ends v true) ⊥ ⊥ [] refl (sym (append-nil v.sent)) (λ e. absurd e) (λ e. absurd e);
    stands = record { known = k.known; begun = all_append (λ s. s ≤ length v.executed) v.starts (length v.executed ∷ []) k.begun (omega arith, tt) };
  }

  -- where v is `IsConsistent`, and the instrument's state changes by itself, `Goes` holds: the interval isn't still
  goes_changed : (v : Wire State) (quiet : Type 0) (state : State) → IsConsistent v → Goes v (record v { state = state }) quiet ⊥
  goes_changed v quiet state k = record {
    did = did_none v (record v { state = state }) quiet ⊥ [] refl (sym (append-nil v.sent)) (λ q. refl) (λ e. absurd e);
    stands = record { known = k.known; begun = k.begun };
  }

  module _ (Good : State → Type 0) (kept : State → Option KeptReply) where
    -- from a wire on that is `IsConsistent`, `Goes` holds over any possible moves, quiet if the instrument doesn't start, and
    -- still if it isn't disturbed
    goes_all : (ms : List (Move State)) (w : World (ById Asked) State) → ArePossible ends Good kept (by_ids 7 ends) ms w → IsConsistent w.wire
        → Goes w.wire (moved ends (by_ids 7 ends) ms w).wire (HasNoStartAmong ms) (IsUndisturbed ms)
    goes_all [] w p k = goes_same w.wire w.wire (Unit {0}) (Unit {0}) refl refl refl refl k.known k
    goes_all (Sends target call deadline ∷ ms) w p k =
        let one = goes_sent w (HasNoStartAmong ms) (IsUndisturbed ms) target call (sends 7 w.client target call deadline) k in
        goes_alike w.wire _ _ (HasNoStartAmong ms) (IsUndisturbed ms) one (goes_all ms _ p.1 one.stands)
    goes_all (Tells now ∷ ms) w p k = goes_all ms _ p.1 k
    goes_all (Comes line ∷ ms) w p k =
        let one = goes_down w (HasNoStartAmong ms) (IsUndisturbed ms) w.wire.down k in goes_alike w.wire _ _ (HasNoStartAmong ms) (IsUndisturbed ms) one (goes_all ms _ p.1 one.stands)
    goes_all (Foreign line ∷ ms) w p k = goes_all ms w p.1 k
    goes_all (OnLine step ∷ ms) w p k =
        let one = goes_line w (HasNoStartAmong ms) (IsUndisturbed ms) step p.0 k in goes_alike w.wire _ _ (HasNoStartAmong ms) (IsUndisturbed ms) one (goes_all ms _ p.1 one.stands)
    goes_all (Anew ∷ ms) w p k =
        let one = goes_anew w.wire k in
        goes_then w.wire (started ends w.wire true) _ ⊥ ⊥ ⊥ ⊥ (λ e. e) (λ e. e) one
        (goes_less (started ends w.wire true) _ (HasNoStartAmong ms) ⊥ (IsUndisturbed ms) ⊥ (λ e. absurd e) (λ e. absurd e) (goes_all ms _ p.1 one.stands))
    goes_all (Changes state ∷ ms) w p k =
        let one = goes_changed w.wire (HasNoStartAmong ms) state k in
        goes_then w.wire (record w.wire { state = state }) _ (HasNoStartAmong ms) (HasNoStartAmong ms) ⊥ ⊥ (λ q. q) (λ e. e) one
        (goes_less (record w.wire { state = state }) _ (HasNoStartAmong ms) (HasNoStartAmong ms) (IsUndisturbed ms) ⊥ (λ q. q) (λ e. absurd e) (goes_all ms _ p.1 one.stands))
    goes_all (Joins line ∷ ms) w p k = absurd p.0

    -- a copy of the eighth null procedure was sent
    last_was_sent : (x : Request) → x ≡ eighth_null → WasSent nulls (record { number = 7; line = x })
    last_was_sent x e = (record { target = 0; call = Table NullProc; line = asked_line (Some 7) (Table NullProc) }, refl, sym (ap (λ (r : Request). r.call) e))

    -- after a clean synchronization the wire is `IsConsistent`
    consistent_begun : (u : UnderWay State) → IsClean Good kept u → IsConsistent (ids_begun u).wire
    consistent_begun u clean = record { known = each_of_eighth (WasSent nulls) (λ x. x ≡ eighth_null) last_was_sent u.up clean.up; begun = tt }

    -- after a clean synchronization, and possible moves, the wire is `IsConsistent`
    pub consistent_all : (ms : List (Move State)) (u : UnderWay State) → IsClean Good kept u → ArePossibleOnceBegun 7 ends u Good kept ms
        → IsConsistent (moved ends (by_ids 7 ends) ms (ids_begun u)).wire
    consistent_all ms u clean p = (goes_all ms (ids_begun u) p (consistent_begun u clean)).stands

    -- from a wire on that is `IsConsistent`, `Did` holds over any possible moves, quiet if the instrument doesn't start, and
    -- still if it isn't disturbed
    pub did_all : (ms : List (Move State)) (w : World (ById Asked) State) → ArePossible ends Good kept (by_ids 7 ends) ms w → IsConsistent w.wire
        → Did w.wire (moved ends (by_ids 7 ends) ms w).wire (HasNoStartAmong ms) (IsUndisturbed ms)
    did_all ms w p k = (goes_all ms w p k).did

  -- if the front request is executed on reaching the instrument, it is the next one executed, the state becomes what its call
  -- makes of it, and there is no start
  pub acted : (w : World (ById Asked) State) (x : Numbered Request) (rest : List (Numbered Request)) → w.wire.up ≡ x ∷ rest → (ends.handed w.wire.state x.line.id x.line.call).executed ≡ true
      → ((moves ends (by_ids 7 ends) w (OnLine Up_deliver)).wire.executed ≡ w.wire.executed ++ x.number ∷ [])
      × IsMadeBy ends w.wire.state (x.line.call ∷ []) (moves ends (by_ids 7 ends) w (OnLine Up_deliver)).wire.state
      × ((moves ends (by_ids 7 ends) w (OnLine Up_deliver)).wire.starts ≡ w.wire.starts)
  acted w x rest q e =
      let v = w.wire in
      subst (λ (l : List (Numbered Request)). ((up_delivered ends v l).executed ≡ v.executed ++ x.number ∷ [])
      × IsMadeBy ends v.state (x.line.call ∷ []) (up_delivered ends v l).state × ((up_delivered ends v l).starts ≡ v.starts)) (sym q) (
        ap (λ b. cond b (v.executed ++ x.number ∷ []) v.executed) e,
        made_one ends v.state x.line.id x.line.call e,
        refl,
      )
