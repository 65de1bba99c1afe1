-- A station that holds back has room at each send: its count of what the last line ended is no less
-- than the world's (`Holding`).
use Rattle.gc_theorems.proofs.Common.{◌≡◌, ℕ, ◌+◌, ◌-◌, ◌<◌, ◌≤◌, Bool, true, false, List, [], ◌∷◌, ◌++◌, length, Option, None, nat_lt, refl, sym, ◌∙◌, ap, subst, arith, length-append, eqb, if◌then◌else◌, AllByRecursion, every_behind as all_behind, Asked, Course, Wanted, course_after, sent_on, course_at, ById, Settlement, heard, hears, send_unless_full, WINDOW, KeptReply, ended_last, last_ended, last_ended_at, client_after, client_stepped, sent_by, by_ids, Numbered, Ends, down_delivered, Move, Sends, Tells, Comes, Foreign, OnLine, Anew, Changes, Joins, IsPossible, IsAnInstrument, KeepsItsOwnAfter, Harm, Does, Damages, Strikes, Harmed, Holding, last_if, holding_harms, HasRoomIfSent, MayDoApart, MayHarmApart, AllMayHarmApart, ArePossibleHarms, AreApart, IsApart, IsPossibleHarm, seen_at, seen_harms}
use Rattle.gc_client.specs.Prelude.{Step, Send}
use Rattle.gc_theorems.proofs.HoldingBack.{harmed_same}
use Rattle.gc_theorems.proofs.SeenHarms.{client_stays_seen}

-- The station's rule from a client on.

-- wherever a request is sent in these steps, the outstanding requests and those that the last line ended are together fewer than seven
abbrev pub HoldsBackFrom : ById Asked → (last : ℕ) → List (Step Asked) → Type 0
HoldsBackFrom c last steps =
    (front later : List (Step Asked)) (target : ℕ) (call : Asked) (deadline : ℕ) → steps ≡ front ++ Send target call deadline ∷ later
    → length (client_after c front).waiting + last_ended c last front < WINDOW

-- it is so after these steps
holds_after : (c : ById Asked) (last : ℕ) (first later : List (Step Asked)) → HoldsBackFrom c last (first ++ later) → HoldsBackFrom (client_after c first) (last_ended c last first) later
holds_after c last [] later h = h
holds_after c last (s ∷ first) later h =
    holds_after (client_stepped c s) (last_ended_at c last s) first later
    (λ front others target call deadline e. h (s ∷ front) others target call deadline (ap (λ l. s ∷ l) e))

-- P holds of each call that a client sends by these steps
abbrev pub SendsOnly : (P : Asked → Type 0) → ById Asked → List (Step Asked) → Type 0
SendsOnly P c steps = AllByRecursion (λ (a : Wanted Asked). P a.call) (sent_by c steps)

-- it is so after these steps
only_after : (P : Asked → Type 0) (c : ById Asked) (first later : List (Step Asked)) → SendsOnly P c (first ++ later) → SendsOnly P (client_after c first) later
only_after P c [] later h = h
only_after P c (s ∷ first) later h =
    only_after P (client_stepped c s) first later
    (all_behind (λ (a : Wanted Asked). P a.call) (course_after WINDOW (course_at c) s).sent (sent_by (client_stepped c s) (first ++ later)) h)

-- the course after this send, by whether the window is full
abbrev sent_if : Bool → ById Asked → ℕ → Asked → ℕ → Course Asked
sent_if b c target call deadline = sent_on (course_at c) target call (send_unless_full c target call deadline b)

-- Numbers.

-- what is stored of the last line is no more than what the station stores, by whether the line ended any (`some`)
last_by : (some : Bool) (more last its : ℕ) → last ≤ its → last_if some more last ≤ (if some then more else its)
last_by true more last its le = omega arith
last_by false more last its le = le

-- what a line ended is what it added to the settlements
ended_is : {A : Type 0} (before new : List A) → length (before ++ new) - length before ≡ length new
ended_is before new = let n = length-append before new in omega (arith, n)

-- once a line came that added these settlements
last_heard : {A : Type 0} (before new : List A) (last its : ℕ) → last ≤ its
    → last_if (nat_lt 0 (length (before ++ new) - length before)) (length (before ++ new) - length before) last ≤ ended_last (length new) its
last_heard before new last its le =
    subst (λ n. last_if (nat_lt 0 n) n last ≤ ended_last (length new) its) (sym (ended_is before new)) (last_by (nat_lt 0 (length new)) (length new) last its le)

module _ {State : Type 0} (ends : Ends State) (Good : State → Type 0) (kept : State → Option KeptReply) (is : IsAnInstrument ends Good kept) where
  -- a line that is heard, with its id
  last_of_line : (c : ById Asked) (line : List ℕ) (before : List (Settlement Asked)) (last its : ℕ) → last ≤ its
      → last_if (nat_lt 0 (length (before ++ (hears c line (ends.heard line)).settlements) - length before)) (length (before ++ (hears c line (ends.heard line)).settlements) - length before) last
      ≤ ended_last (length (hears c line (heard line)).settlements) its
  last_of_line c line before last its le =
      subst (λ o. last_if (nat_lt 0 (length (before ++ (hears c line o).settlements) - length before)) (length (before ++ (hears c line o).settlements) - length before) last
      ≤ ended_last (length (hears c line (heard line)).settlements) its) (sym (is.hears line)) (last_heard before (hears c line (heard line)).settlements last its le)

  -- the front reply comes
  last_came : (g : Holding State) (line : List ℕ) (n : ℕ) (rest : List (Numbered (List ℕ))) (q : List (Numbered (List ℕ))) (its : ℕ) → q ≡ record { number = n; line = line } ∷ rest → g.last ≤ its
      → last_if (nat_lt 0 (length (down_delivered (by_ids 7 ends) g.harmed.world q).wire.settled - length g.harmed.world.wire.settled)) (length (down_delivered (by_ids 7 ends) g.harmed.world q).wire.settled - length g.harmed.world.wire.settled) g.last
      ≤ ended_last (length (hears g.harmed.world.client line (heard line)).settlements) its
  last_came g line n rest q its e le =
      subst (λ q. last_if (nat_lt 0 (length (down_delivered (by_ids 7 ends) g.harmed.world q).wire.settled - length g.harmed.world.wire.settled)) (length (down_delivered (by_ids 7 ends) g.harmed.world q).wire.settled - length g.harmed.world.wire.settled) g.last
      ≤ ended_last (length (hears g.harmed.world.client line (heard line)).settlements) its) (sym e)
      (last_of_line g.harmed.world.client line g.harmed.world.wire.settled g.last its le)

  -- a line without an id ends nothing
  last_foreign : (c : ById Asked) (line : List ℕ) (last its : ℕ) → heard line ≡ None → last ≤ its → last ≤ ended_last (length (hears c line (heard line)).settlements) its
  last_foreign c line last its e le = subst (λ o. last ≤ ended_last (length (hears c line o).settlements) its) (sym e) le

  -- what is stored of the last line is no more than what the station stores, after a move
  last_move : (g : Holding State) (m : Move State) (its : ℕ) → IsPossible Good kept g.harmed.world m → g.last ≤ its
      → (holding_harms 7 ends g (Does m)).last ≤ last_ended g.harmed.world.client its (seen_at (Does m))
  last_move g (Sends target call deadline) its p le = le
  last_move g (Tells now) its p le = le
  last_move g (Comes line) its p le = last_came g line p.0 p.1 g.harmed.world.wire.down its p.2 le
  last_move g (Foreign line) its p le = last_foreign g.harmed.world.client line g.last its p le
  last_move g (OnLine step) its p le = le
  last_move g Anew its p le = le
  last_move g (Changes state) its p le = le
  last_move g (Joins line) its p le = absurd p

  -- after a step with damage
  last_step : (g : Holding State) (m : Harm State) (its : ℕ) → IsPossibleHarm ends Good kept g.harmed m → g.last ≤ its
      → (holding_harms 7 ends g m).last ≤ last_ended g.harmed.world.client its (seen_at m)
  last_step g (Does move) its p le = last_move g move its p le
  last_step g (Damages line) its p le = last_of_line g.harmed.world.client line g.harmed.world.wire.settled g.last its le
  last_step g (Strikes id call) its p le = le

  -- there is room for a send that isn't refused
  room_if_sent : (g : Holding State) (target : ℕ) (call : Asked) (deadline : ℕ) (steps : List (Step Asked)) (its : ℕ) (full : Bool) → eqb (length g.harmed.world.client.waiting) 7 ≡ full
      → g.last ≤ its → HoldsBackFrom g.harmed.world.client its (Send target call deadline ∷ steps) → SendsOnly (KeepsItsOwnAfter ends Good kept) g.harmed.world.client (Send target call deadline ∷ steps)
      → HasRoomIfSent 7 ends Good kept g call (send_unless_full g.harmed.world.client target call deadline full)
  room_if_sent g target call deadline steps its true e le h t = tt
  room_if_sent g target call deadline steps its false e le h t =
      let c = g.harmed.world.client in
      let room = h [] steps target call deadline refl in
      let own = subst (λ b. AllByRecursion (λ (a : Wanted Asked). KeepsItsOwnAfter ends Good kept a.call)
      ((sent_if b c target call deadline).sent ++ sent_by (client_stepped c (Send target call deadline)) steps)) e t in
      (own.0, omega (arith, room, le))

  -- a move is possible, and there is room if it is a send
  may_move : (g : Holding State) (m : Move State) (later : List (Step Asked)) (its : ℕ) → g.last ≤ its → IsPossible Good kept g.harmed.world m
      → HoldsBackFrom g.harmed.world.client its (seen_at (Does m) ++ later) → SendsOnly (KeepsItsOwnAfter ends Good kept) g.harmed.world.client (seen_at (Does m) ++ later) → MayDoApart 7 ends Good kept g m
  may_move g (Sends target call deadline) later its le p h t = room_if_sent g target call deadline later its (eqb (length g.harmed.world.client.waiting) 7) refl le h t
  may_move g (Tells now) later its le p h t = p
  may_move g (Comes line) later its le p h t = p
  may_move g (Foreign line) later its le p h t = p
  may_move g (OnLine step) later its le p h t = p
  may_move g Anew later its le p h t = p
  may_move g (Changes state) later its le p h t = p
  may_move g (Joins line) later its le p h t = p

  -- a step is possible, with room, and apart
  may_step : (g : Holding State) (m : Harm State) (later : List (Step Asked)) (its : ℕ) → g.last ≤ its → IsPossibleHarm ends Good kept g.harmed m → IsApart ends g m
      → HoldsBackFrom g.harmed.world.client its (seen_at m ++ later) → SendsOnly (KeepsItsOwnAfter ends Good kept) g.harmed.world.client (seen_at m ++ later) → MayHarmApart 7 ends Good kept g m
  may_step g (Does move) later its le p a h t = may_move g move later its le p h t
  may_step g (Damages line) later its le p a h t = a
  may_step g (Strikes id call) later its le p a h t = p

  -- the client's steps are those of a station that holds back, and asks only for calls after which the instrument keeps its own reply, or
  -- nothing; and they are possible and apart: then there is room at each send
  pub all_have_room : (ms : List (Harm State)) (g : Holding State) (its : ℕ) → g.last ≤ its → ArePossibleHarms ends Good kept ms g.harmed → AreApart ends ms g
      → HoldsBackFrom g.harmed.world.client its (seen_harms ms) → SendsOnly (KeepsItsOwnAfter ends Good kept) g.harmed.world.client (seen_harms ms) → AllMayHarmApart 7 ends Good kept ms g
  all_have_room [] g its le p a h t = tt
  all_have_room (m ∷ ms) g its le p a h t =
      let next = holding_harms 7 ends g m in
      let same = harmed_same 7 (omega arith) ends Good kept is g m in
      let c : client_after g.harmed.world.client (seen_at m) ≡ next.harmed.world.client =
      client_stays_seen ends Good kept is m g.harmed p.0 ∙ ap (λ (x : Harmed State). x.world.client) (sym same) in (
        may_step g m (seen_harms ms) its le p.0 a.0 h t,
        all_have_room ms next (last_ended g.harmed.world.client its (seen_at m)) (last_step g m its p.0 le)
            (subst (λ x. ArePossibleHarms ends Good kept ms x) (sym same) p.1) a.1
            (subst (λ d. HoldsBackFrom d (last_ended g.harmed.world.client its (seen_at m)) (seen_harms ms)) c (holds_after g.harmed.world.client its (seen_at m) (seen_harms ms) h))
            (subst (λ d. SendsOnly (KeepsItsOwnAfter ends Good kept) d (seen_harms ms)) c (only_after (KeepsItsOwnAfter ends Good kept) g.harmed.world.client (seen_at m) (seen_harms ms) t)),
      )
