-- An outstanding request times out at a moment at or past its deadline, and by nothing else.
use Rattle.gc_theorems.proofs.Common.{◌≡◌, ℕ, ◌+◌, ◌-◌, ◌≤◌, Bool, true, false, ◌||◌, List, [], ◌∷◌, ◌++◌, length, Option, Some, None, nat_le, nat_lt, nat_eq, refl, ◌∙◌, ap, subst, arith, length-append, append-nil, sym, slice_get, ltb-true, Asked, Pending, ById, Settlement, expired, hears, send_unless_full, settles_at, pending_of, place_in, settle, KeptReply, by_ids, Ends, Numbered, Step, World, requested, down_delivered, length-settle, Move, Sends, Tells, Comes, Foreign, OnLine, Anew, Changes, Joins, IsLineStep, moves, moved, ArePossible, times_out, get_more, get_dropped, or_assoc, or-false, get_map}
use Rattle.gc_theorems.proofs.LineSteps.{same_over_line}

-- what these moves make of an outstanding request: a moment at or past its deadline times it out, and nothing else changes it
abbrev pub pending_after : {State : Type 0} → Pending Asked → List (Move State) → Pending Asked
pending_after p [] = p
pending_after p (Tells now ∷ ms) = pending_after (expired now p) ms
pending_after p (_ ∷ ms) = pending_after p ms

-- after moves a request has timed out just if it had before, or if a moment at or past its deadline is read; all else of it stays
pub pending_is : {State : Type 0} (p : Pending Asked) (ms : List (Move State)) → pending_after p ms ≡ record p { given_up = p.given_up || times_out p.deadline ms }
pending_is p [] = ap (λ b. record p { given_up = b }) (sym (or-false p.given_up))
pending_is p (Tells now ∷ ms) = pending_is (expired now p) ms ∙ ap (λ b. record p { given_up = b }) (or_assoc p.given_up (nat_le p.deadline now) (times_out p.deadline ms))
pending_is p (m ∷ ms) = pending_is p ms

-- where request n isn't settled yet (the first `size` requests are), it waits as `p`, at its place in the list of those that
-- are outstanding
abbrev pub WaitsAt : (size : ℕ) (waiting : List (Pending Asked)) (n : ℕ) (p : Pending Asked) → Type 0
WaitsAt size waiting n p = size ≤ n → slice_get waiting (n - size) ≡ Some p

-- in this world request n, if it isn't settled yet, waits as `p`, at its place
abbrev pub WaitsAs : {State : Type 0} → World (ById Asked) State → ℕ → Pending Asked → Type 0
WaitsAs w n p = WaitsAt (length w.wire.settled) w.client.waiting n p

-- a request that a reply leaves unsettled waits on, whether a request waits at the place k of the reply's id (`b`) or none does
waits_settled : (c : ById Asked) (line : List ℕ) (k : ℕ) (b : Bool) (before : List (Settlement Asked)) (n : ℕ) (p : Pending Asked) → nat_lt k (length c.waiting) ≡ b
    → WaitsAt (length before) c.waiting n p
    → WaitsAt (length (before ++ (settles_at c line k b).settlements)) (settles_at c line k b).client.waiting n p
waits_settled c line k true before n p fits h = λ le.
    let low = ltb-true k (length c.waiting) fits in
    let many = length-settle k line c.waiting low in
    let size = length-append before (settle k line c.waiting) in
    get_dropped (k + 1) (n - length (before ++ settle k line c.waiting)) (n - length before) c.waiting p (omega (arith, many, size, le)) (h (omega (arith, many, size, le)))
waits_settled c line k false before n p fits h = λ le.
    let size : length (before ++ []) ≡ length before = ap length (append-nil before) in
    let same : n - length before ≡ n - length (before ++ []) = omega (arith, size) in
    subst (λ i. slice_get c.waiting i ≡ Some p) same (h (omega (arith, size, le)))

-- a request that a line leaves unsettled, with an id or without, waits on
waits_heard : (c : ById Asked) (line : List ℕ) (o : Option ℕ) (before : List (Settlement Asked)) (n : ℕ) (p : Pending Asked) → WaitsAt (length before) c.waiting n p
    → WaitsAt (length (before ++ (hears c line o).settlements)) (hears c line o).client.waiting n p
waits_heard c line None before n p h = λ le.
    let size : length (before ++ []) ≡ length before = ap length (append-nil before) in
    let same : n - length before ≡ n - length (before ++ []) = omega (arith, size) in
    subst (λ i. slice_get c.waiting i ≡ Some p) same (h (omega (arith, size, le)))
waits_heard c line (Some id) before n p h = waits_settled c line (place_in c id) (nat_lt (place_in c id) (length c.waiting)) before n p refl h

module _ {State : Type 0} (ends : Ends State) (Good : State → Type 0) (kept : State → Option KeptReply) where
  -- `WaitsAs` is preserved if the front reply comes, if there is one: a request that this doesn't settle waits on
  waits_came : (w : World (ById Asked) State) (q : List (Numbered (List ℕ))) (n : ℕ) (p : Pending Asked) → WaitsAs w n p → WaitsAs (down_delivered (by_ids 7 ends) w q) n p
  waits_came w [] n p h = h
  waits_came w (x ∷ rest) n p h = waits_heard w.client x.line (ends.heard x.line) w.wire.settled n p h

  -- `WaitsAs` is preserved if another request is sent, or is refused because the window is full (`b`)
  waits_sent : (w : World (ById Asked) State) (target : ℕ) (call : Asked) (deadline : ℕ) (b : Bool) (n : ℕ) (p : Pending Asked) → WaitsAs w n p
      → WaitsAs (requested w target call (send_unless_full w.client target call deadline b)) n p
  waits_sent w target call deadline true n p h = h
  waits_sent w target call deadline false n p h = λ le. get_more w.client.waiting (pending_of target call deadline ∷ []) (n - length w.wire.settled) p (h le)

  -- `WaitsAs` is preserved if a step of the line happens
  waits_line : (w : World (ById Asked) State) (step : Step) (n : ℕ) (p : Pending Asked) → IsLineStep step → WaitsAs w n p → WaitsAs (moves ends (by_ids 7 ends) w (OnLine step)) n p
  waits_line w step n p o h =
      let after = same_over_line ends (by_ids 7 ends) w step o in
      subst (λ (c : ById Asked). WaitsAt (length (moves ends (by_ids 7 ends) w (OnLine step)).wire.settled) c.waiting n p) (sym after.client)
      (subst (λ xs. WaitsAt (length xs) w.client.waiting n p) (sym after.settled) h)

  -- where `WaitsAs` holds of request n and `p`, after possible moves it holds of n and what they make of `p` (`pending_after`)
  pub waits_all : (ms : List (Move State)) (w : World (ById Asked) State) (n : ℕ) (p : Pending Asked) → ArePossible ends Good kept (by_ids 7 ends) ms w → WaitsAs w n p
      → WaitsAs (moved ends (by_ids 7 ends) ms w) n (pending_after p ms)
  waits_all [] w n p o h = h
  waits_all (Sends target call deadline ∷ ms) w n p o h = waits_all ms _ n p o.1 (waits_sent w target call deadline (nat_eq (length w.client.waiting) 7) n p h)
  waits_all (Tells now ∷ ms) w n p o h = waits_all ms _ n (expired now p) o.1 (λ le. get_map (expired now) w.client.waiting (n - length w.wire.settled) p (h le))
  waits_all (Comes line ∷ ms) w n p o h = waits_all ms _ n p o.1 (waits_came w w.wire.down n p h)
  waits_all (Foreign line ∷ ms) w n p o h = waits_all ms w n p o.1 h
  waits_all (OnLine step ∷ ms) w n p o h = waits_all ms _ n p o.1 (waits_line w step n p o.0 h)
  waits_all (Anew ∷ ms) w n p o h = waits_all ms _ n p o.1 h
  waits_all (Changes state ∷ ms) w n p o h = waits_all ms _ n p o.1 h
  waits_all (Joins line ∷ ms) w n p o h = absurd o.0
