-- The first reply to a request that comes while the request isn't settled settles it. A *stretch* is a run once it has
-- synchronized: what is in flight then, and its moves.
use Rattle.gc_theorems.proofs.Common.{◌≡◌, ◌⊎◌, inl, inr, ℕ, zero, suc, ◌+◌, ◌-◌, ◌<◌, ◌≤◌, Bool, true, false, List, [], ◌∷◌, ◌++◌, length, map, nat_eq, Option, Some, refl, sym, ◌∙◌, ap, subst, arith, append_assoc, length-drop, AllByRecursion, slice_get, ne_eqb, length-map, Asked, of_pending, of_settled, begun, course, ById, Settlement, send_unless_full, settled_by_line, pending_of, settle, Pending, KeptReply, client_after, settled_by, settled_append, course_settled, by_ids, by_numbers, Ends, Numbered, Wire, World, requested, IsComing, UnderWay, IsClean, IsFaithful, world_once_begun, ids_begun, nulls_settled, numbers_begun, ArePossibleOnceBegun, Move, Sends, Tells, Comes, Foreign, moves, moved, seen, IsAnInstrument, asked, IsFaithfulThroughout, SettlesByFirstReply, times_out, world, Stretch, get_more, get_behind, same_Some}
use Rattle.std.proofs.lemmas.List.{length-append}
use Rattle.gc_theorems.proofs.Instruments.{exchange_of}
use Rattle.gc_theorems.proofs.Possible.{front_possible, later_possible, moved_append}
use Rattle.gc_theorems.proofs.Waits.{WaitsAs, pending_is, pending_after, waits_all}
use Rattle.gc_theorems.proofs.Moving.{both_all}
use Rattle.gc_theorems.proofs.BegunFaithful.{both_begun, faithful}
use Rattle.gc_theorems.proofs.Unbegun.{faithful_none}
use Rattle.gc_theorems.proofs.BeginWords.{cons_not_nil}
use Rattle.gc_client.specs.OneForOne as step

-- the client's steps among two lists of moves are those of the first and then those of the second
pub seen_append : {State : Type 0} (front later : List (Move State)) → seen (front ++ later) ≡ seen front ++ seen later
seen_append [] later = refl
seen_append (Sends target call deadline ∷ front) later = ap (λ xs. step.Send target call deadline ∷ xs) (seen_append front later)
seen_append (Tells now ∷ front) later = ap (λ xs. step.Expire now ∷ xs) (seen_append front later)
seen_append (Comes line ∷ front) later = ap (λ xs. step.Hear line ∷ xs) (seen_append front later)
seen_append (Foreign line ∷ front) later = ap (λ xs. step.Hear line ∷ xs) (seen_append front later)
seen_append (m ∷ front) later = seen_append front later

-- if more than k requests are outstanding (`ps`), what a reply to the one at place k settles has at place k the settlement of
-- that request by the reply
settled_at : (k : ℕ) (line : List ℕ) (ps : List (Pending Asked)) → k < length ps → (p : Pending Asked) × (slice_get ps k ≡ Some p) × (slice_get (settle k line ps) k ≡ Some (settled_by_line p line))
settled_at k line [] low = absurd (omega (arith, low))
settled_at zero line (p ∷ ps) low = (p, refl, refl)
settled_at (suc k) line (p ∷ ps) low = settled_at k line ps (omega (arith, low))

-- a list that has an element, x, between a front and later elements isn't empty
pub not_nil : {A : Type 0} (xs front later : List A) (x : A) → xs ≡ [] → xs ≡ front ++ x ∷ later → ⊥
not_nil xs [] later x e f = cons_not_nil x later (sym f ∙ e)
not_nil xs (y ∷ front) later x e f = cons_not_nil y (front ++ x ∷ later) (sym f ∙ e)

-- a front of an empty list is empty
pub front_nil : {A : Type 0} (front later : List A) → [] ≡ front ++ later → front ≡ []
front_nil [] later e = refl
front_nil (x ∷ front) later e = cc

module _ {State : Type 0} (ends : Ends State) (Good : State → Type 0) (kept : State → Option KeptReply) (is : IsAnInstrument ends Good kept) where
  -- possible moves after a clean synchronization are faithful
  pub clean_faithful : (u : UnderWay State) → IsClean Good kept u → (ms : List (Move State)) → ArePossibleOnceBegun 7 ends u Good kept ms → IsFaithful 7 ends u ms Good kept
  clean_faithful u clean ms p = faithful ends Good kept is 7 (omega arith) u clean ms p

  -- a stretch has synchronized cleanly, or nothing happens in it; and its moves are possible
  pub record IsSoundStretch (s : Stretch State) : Type 0 where
    pub possible : ArePossibleOnceBegun 7 ends s.from Good kept s.moves
    pub clean : IsClean Good kept s.from ⊎ (s.moves ≡ [])

  -- a sound stretch in which something happens has synchronized cleanly
  pub clean_of : (s : Stretch State) → IsSoundStretch s → (front later : List (Move State)) (m : Move State) → s.moves ≡ front ++ m ∷ later → IsClean Good kept s.from
  clean_of s sound front later m e =
      elim sound.clean [
        | inl clean ↦ clean
        | inr none ↦ absurd (not_nil s.moves front later m none e)
      ]

  -- a sound stretch is faithful after any number of its first moves
  pub faithful_throughout : (s : Stretch State) → IsSoundStretch s → IsFaithfulThroughout ends Good kept s
  faithful_throughout s sound front later e =
      elim sound.clean [
        | inl clean ↦ clean_faithful s.from clean front (front_possible 7 ends Good kept s.moves front later (ids_begun s.from) e sound.possible)
        | inr none ↦ subst (λ ms. IsFaithful 7 ends s.from ms Good kept) (sym (front_nil front later (sym none ∙ e))) (faithful_none ends Good kept s.from)
      ]

  -- after a clean synchronization, what is settled after the first ones of possible moves stays in front of what is settled by
  -- all
  settled_more : (u : UnderWay State) → IsClean Good kept u → (ms front later : List (Move State)) → ms ≡ front ++ later → ArePossibleOnceBegun 7 ends u Good kept ms
      → (more : List (Settlement Asked)) × ((world_once_begun 7 ends u ms).wire.settled ≡ (world_once_begun 7 ends u front).wire.settled ++ more)
  settled_more u clean ms front later e p =
      let whole = clean_faithful u clean ms p in
      let part = clean_faithful u clean front (front_possible 7 ends Good kept ms front later (ids_begun u) e p) in
      let own = (course 7 begun (seen front)).settlements in
      let more = settled_by (client_after begun.client (seen front)) (seen later) in
      let grown : (course 7 begun (seen ms)).settlements ≡ own ++ more =
      course_settled (seen ms) begun ∙ ap (settled_by begun.client) (ap seen e ∙ seen_append front later)
      ∙ settled_append begun.client (seen front) (seen later)
      ∙ ap (λ l. l ++ more) (sym (course_settled (seen front) begun)) in (
        more,
        whole.settled ∙ ap (λ l. nulls_settled ++ l) grown ∙ sym (append_assoc nulls_settled own more) ∙ ap (λ l. l ++ more) (sym part.settled),
      )

  -- after a clean synchronization and possible moves, if the front reply is to a request that isn't settled, that request is one
  -- of those that wait
  below_sent : (u : UnderWay State) → IsClean Good kept u → (front : List (Move State)) → ArePossibleOnceBegun 7 ends u Good kept front
      → (line : List ℕ) (n : ℕ) (rest : List (Numbered (List ℕ))) → (world_once_begun 7 ends u front).wire.down ≡ record { number = n; line = line } ∷ rest
      → length (world_once_begun 7 ends u front).wire.settled ≤ n → n - length (world_once_begun 7 ends u front).wire.settled < length (world_once_begun 7 ends u front).client.waiting
  below_sent u clean front possible line n rest e le =
      let a = world_once_begun 7 ends u front in
      let b = moved ends (by_numbers 7) front (numbers_begun u) in
      let both = both_all 7 (omega arith) ends Good (exchange_of ends Good kept is) kept front (ids_begun u) (numbers_begun u) possible (both_begun ends Good kept is 7 (omega arith) u clean) in
      let same : a.wire ≡ b.wire = both.agree.wire in
      let down : b.wire.down ≡ record { number = n; line = line } ∷ rest = sym (ap (λ (w : Wire State). w.down) same) ∙ e in
      let coming = subst (λ l. AllByRecursion (IsComing 7 ends Good b.client.since (length b.client.requests)) l) down both.sound.coming in
      let size : length a.wire.settled ≡ b.client.count = ap (λ (w : Wire State). length w.settled) same ∙ both.sound.booked in
      let waits : length a.client.waiting ≡ length b.client.requests - b.client.count =
      ap (λ (l : List (Pending Asked)). length l) both.agree.client.window ∙ length-drop b.client.count b.client.requests in
      omega (arith, coming.0.sent, size, waits, le)

  -- if a reply comes to a request that isn't settled, the settlement of that request is that by this reply
  abbrev MetAt : Stretch State → Type 0
  MetAt s =
      (front later : List (Move State)) (line : List ℕ) (n : ℕ) (rest : List (Numbered (List ℕ))) → s.moves ≡ front ++ Comes line ∷ later
      → (world_once_begun 7 ends s.from front).wire.down ≡ record { number = n; line = line } ∷ rest → length (world_once_begun 7 ends s.from front).wire.settled ≤ n
      → (p : Pending Asked) × (slice_get (world_once_begun 7 ends s.from front).client.waiting (n - length (world_once_begun 7 ends s.from front).wire.settled) ≡ Some p)
      × (slice_get (world ends s).wire.settled n ≡ Some (settled_by_line p line))

  -- after a clean synchronization `MetAt` holds of a stretch with possible moves
  all_met_at : (s : Stretch State) → IsClean Good kept s.from → ArePossibleOnceBegun 7 ends s.from Good kept s.moves → MetAt s
  all_met_at s clean possible = λ front later line n rest e down le.
      let w = world_once_begun 7 ends s.from front in
      let k = n - length w.wire.settled in
      let split : s.moves ≡ (front ++ Comes line ∷ []) ++ later = e ∙ sym (append_assoc front (Comes line ∷ []) later) in
      let before = front_possible 7 ends Good kept s.moves front (Comes line ∷ later) (ids_begun s.from) e possible in
      let f = clean_faithful s.from clean front before in
      let p = settled_at k line w.client.waiting (below_sent s.from clean front before line n rest down le) in
      let more = settled_more s.from clean s.moves (front ++ Comes line ∷ []) later split possible in
      let here : (world_once_begun 7 ends s.from (front ++ Comes line ∷ [])).wire.settled ≡ w.wire.settled ++ settle k line w.client.waiting =
      ap (λ (v : World (ById Asked) State). v.wire.settled) (moved_append ends (by_ids 7 ends) front (Comes line ∷ []) (ids_begun s.from)) ∙ f.first_reply n line rest down le in (
        p.0,
        p.1,
        ap (λ l. slice_get l n) (more.1 ∙ ap (λ l. l ++ more.0) here)
            ∙ get_more (w.wire.settled ++ settle k line w.client.waiting) more.0 n (settled_by_line p.0 line)
            (get_behind w.wire.settled (settle k line w.client.waiting) n k (omega (arith, le)) ∙ p.2),
      )

  -- if the settlements and what waits are the requests that were sent, one for one, there are as many of both together as of
  -- these
  sent_counts : (w : World (ById Asked) State) → map of_settled w.wire.settled ++ map of_pending w.client.waiting ≡ map asked w.wire.sent
      → length w.wire.settled + length w.client.waiting ≡ length w.wire.sent
  sent_counts w e =
      let xs = map of_settled w.wire.settled in
      let ys = map of_pending w.client.waiting in
      let a : length xs ≡ length w.wire.settled = length-map w.wire.settled of_settled in
      let b : length ys ≡ length w.client.waiting = length-map w.client.waiting of_pending in
      let c : length xs + length ys ≡ length w.wire.sent = sym (length-append xs ys) ∙ ap length e ∙ length-map w.wire.sent asked in
      omega (arith, a, b, c)

  -- if there are as many requests settled and waiting together as were sent, a request that the client doesn't refuse (`b` says
  -- whether it does) waits after the others once it is sent
  sent_by_test : (w : World (ById Asked) State) (target : ℕ) (call : Asked) (deadline : ℕ) (b : Bool) → b ≡ false → length w.wire.settled + length w.client.waiting ≡ length w.wire.sent
      → WaitsAs (requested w target call (send_unless_full w.client target call deadline b)) (length w.wire.sent) (pending_of target call deadline)
  sent_by_test w target call deadline true e counts = cc
  sent_by_test w target call deadline false e counts = λ le. get_behind w.client.waiting (pending_of target call deadline ∷ []) (length w.wire.sent - length w.wire.settled) 0 (omega (arith, counts))

  -- after moves (`before`) of which `IsFaithful` holds, and while fewer than seven requests wait, a request that is sent waits
  -- after the others
  sent_waits : (u : UnderWay State) (before : List (Move State)) (target : ℕ) (call : Asked) (deadline : ℕ) → IsFaithful 7 ends u before Good kept
      → length (world_once_begun 7 ends u before).client.waiting < 7
      → WaitsAs (moves ends (by_ids 7 ends) (world_once_begun 7 ends u before) (Sends target call deadline)) (length (world_once_begun 7 ends u before).wire.sent) (pending_of target call deadline)
  sent_waits u before target call deadline f room =
      let w = world_once_begun 7 ends u before in
      sent_by_test w target call deadline (nat_eq (length w.client.waiting) 7) (ne_eqb (length w.client.waiting) 7 (λ e. omega (arith, e, room))) (sent_counts w f.accounted)

  -- after a clean synchronization a stretch with possible moves is in time
  in_time_clean : (s : Stretch State) → IsClean Good kept s.from → ArePossibleOnceBegun 7 ends s.from Good kept s.moves → SettlesByFirstReply ends s
  in_time_clean s clean all_possible = λ before between later target call deadline line rest e room down le.
      let front = before ++ Sends target call deadline ∷ between in
      let w = world_once_begun 7 ends s.from before in
      let n = length w.wire.sent in
      let split : s.moves ≡ before ++ (Sends target call deadline ∷ (between ++ Comes line ∷ later)) = e ∙ append_assoc before (Sends target call deadline ∷ between) (Comes line ∷ later) in
      let sent = Sends target call deadline ∷ (between ++ Comes line ∷ later) in
      let f = clean_faithful s.from clean before (front_possible 7 ends Good kept s.moves before sent (ids_begun s.from) split all_possible) in
      let m = all_met_at s clean all_possible front later line n rest e down le in
      let possible = later_possible 7 ends Good kept front before (Sends target call deadline ∷ between) (ids_begun s.from) refl
      (front_possible 7 ends Good kept s.moves front (Comes line ∷ later) (ids_begun s.from) e all_possible) in
      let p = pending_of target call deadline in
      let waits : WaitsAs (world_once_begun 7 ends s.from front) n (pending_after p between) =
      subst (λ (v : World (ById Asked) State). WaitsAs v n (pending_after p between)) (sym (moved_append ends (by_ids 7 ends) before (Sends target call deadline ∷ between) (ids_begun s.from)))
      (waits_all ends Good kept between (moves ends (by_ids 7 ends) w (Sends target call deadline)) n p possible.1 (sent_waits s.from before target call deadline f room)) in
      let same : m.0 ≡ record p { given_up = times_out deadline between } = same_Some m.0 (record p { given_up = times_out deadline between }) (sym m.1 ∙ waits le ∙ ap Some (pending_is p between)) in
      m.2 ∙ ap (λ q. Some (settled_by_line q line)) same

  -- a sound stretch is in time
  pub in_time : (s : Stretch State) → IsSoundStretch s → SettlesByFirstReply ends s
  in_time s sound = λ before between later target call deadline line rest e.
      in_time_clean s (clean_of s sound (before ++ Sends target call deadline ∷ between) later (Comes line) e) sound.possible before between later target call deadline line rest e
