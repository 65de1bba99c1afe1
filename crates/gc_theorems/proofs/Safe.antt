-- Each command of a station is safe in its stretch: it is sent after the table, as the station's rule says.
use Rattle.gc_theorems.proofs.Common.{◌≡◌, inr, ℕ, ◌+◌, ◌<◌, ◌≤◌, Bool, true, false, List, [], ◌∷◌, ◌++◌, length, map, Option, Some, None, refl, sym, ◌∙◌, ap, subst, append_assoc, append-nil, arith, ltb, ltb-true, ltb-false, slice_get, length-map, length_push, slice_get_within, is_of_table, Asked, Course, begun, course, course_after, sent_on, ById, Outcome, Answered, Late, Lost, Sending, sends, KeptReply, IsNearTheTable, Ends, element_at, of_sent, IsBehindTheTable, IsByReply, WentOutBehindTheTable, world_once_begun, ids_begun, nulls, nulls_settled, Move, Sends, Tells, Comes, Foreign, seen, IsAnInstrument, Stretch, course_sent, sent_by, cons_head, get_behind, get_more}
use Rattle.std.proofs.lemmas.List.{length-append}
use Rattle.gc_client.specs.Prelude.{Step}
use Rattle.gc_theorems.proofs.BegunFaithful.{sent_is}
use Rattle.gc_theorems.proofs.InTime.{IsSoundStretch, faithful_throughout, seen_append}
use Rattle.gc_theorems.proofs.Possible.{front_possible}
use Rattle.gc_station.proofs.Lists.{cons_tail}
use Rattle.gc_client.specs.OneForOne as step

-- The step at which a request is sent.

-- these steps, split at the send at which request n is sent, where x is the course before the steps
pub record IsSplit (steps : List (Step Asked)) (x : Course Asked) (n : ℕ) : Type 0 where
  pub front : List (Step Asked)
  pub later : List (Step Asked)
  pub target : ℕ
  pub call : Asked
  pub deadline : ℕ
  pub split : steps ≡ front ++ step.Send target call deadline ∷ later
  pub number : length (course 7 x front).sent ≡ n
  pub sent : slice_get (course 7 x steps).sent n ≡ Some (record { target = target; call = call })

-- after a send, refused or not, at most one more request was sent
sent_few : (x : Course Asked) (target : ℕ) (call : Asked) (o : Option (Sending (ById Asked))) → length (sent_on x target call o).sent ≤ length x.sent + 1
sent_few x target call None = omega arith
sent_few x target call (Some s) = omega (arith, length_push x.sent (record { target = target; call = call }))

-- a send after which more requests were sent than before sent its request as the last one
sent_last : (x : Course Asked) (target : ℕ) (call : Asked) (o : Option (Sending (ById Asked))) → length x.sent < length (sent_on x target call o).sent
    → slice_get (sent_on x target call o).sent (length x.sent) ≡ Some (record { target = target; call = call })
sent_last x target call None low = absurd (omega (arith, low))
sent_last x target call (Some s) low = get_behind x.sent (record { target = target; call = call } ∷ []) (length x.sent) 0 (omega arith)

-- if the course x has sent at most n requests, and more than n after these steps, the steps have a send before which n requests
-- were sent (`IsSplit`)
pub split_at : (steps : List (Step Asked)) (x : Course Asked) (n : ℕ) → length x.sent ≤ n → n < length (course 7 x steps).sent → IsSplit steps x n
split_at [] x n low high = absurd (omega (arith, low, high))
split_at (step.Send target call deadline ∷ steps) x n low high =
    by_case (λ l. split_at steps (course_after 7 x (step.Send target call deadline)) n l high) (ltb n (length (course_after 7 x (step.Send target call deadline)).sent)) refl
  where
    -- the lemma above, by whether request n is sent at this step (`b`)
    by_case : (length (course_after 7 x (step.Send target call deadline)).sent ≤ n → IsSplit steps (course_after 7 x (step.Send target call deadline)) n) → (b : Bool)
        → ltb n (length (course_after 7 x (step.Send target call deadline)).sent) ≡ b → IsSplit (step.Send target call deadline ∷ steps) x n
    by_case others true e =
        let l : n < length (course_after 7 x (step.Send target call deadline)).sent = ltb-true n (length (course_after 7 x (step.Send target call deadline)).sent) e in
        let few = sent_few x target call (sends 7 x.client target call deadline) in
        let count : length x.sent ≡ n = omega (arith, l, few, low) in
        let y = course_after 7 x (step.Send target call deadline) in
        record {
          front = [];
          later = steps;
          target = target;
          call = call;
          deadline = deadline;
          split = refl;
          number = count;
          sent = ap (λ xs. slice_get xs n) (course_sent steps y)
              ∙ get_more y.sent (sent_by y.client steps) n (record { target = target; call = call })
              (subst (λ k. slice_get y.sent k ≡ Some (record { target = target; call = call })) count (sent_last x target call (sends 7 x.client target call deadline) (omega (arith, l, count))));
        }
    by_case others false e =
        let r = others (ltb-false n (length (course_after 7 x (step.Send target call deadline)).sent) e) in
        record {
          front = step.Send target call deadline ∷ r.front;
          later = r.later;
          target = r.target;
          call = r.call;
          deadline = r.deadline;
          split = ap (λ l. step.Send target call deadline ∷ l) r.split;
          number = r.number;
          sent = r.sent;
        }
split_at (step.Hear line ∷ steps) x n low high =
    let r = split_at steps (course_after 7 x (step.Hear line)) n low high in
    record { front = step.Hear line ∷ r.front; later = r.later; target = r.target; call = r.call; deadline = r.deadline; split = ap (λ l. step.Hear line ∷ l) r.split; number = r.number; sent = r.sent }
split_at (step.Expire now ∷ steps) x n low high =
    let r = split_at steps (course_after 7 x (step.Expire now)) n low high in
    record { front = step.Expire now ∷ r.front; later = r.later; target = r.target; call = r.call; deadline = r.deadline; split = ap (λ l. step.Expire now ∷ l) r.split; number = r.number; sent = r.sent }
split_at (step.Restart ∷ steps) x n low high =
    let r = split_at steps (course_after 7 x step.Restart) n low high in
    record { front = step.Restart ∷ r.front; later = r.later; target = r.target; call = r.call; deadline = r.deadline; split = ap (λ l. step.Restart ∷ l) r.split; number = r.number; sent = r.sent }

-- these moves are cut after those whose steps a client sees as `xs`; it sees `ys` of the others
pub record SplitSeen {State : Type 0} (ms : List (Move State)) (xs ys : List (Step Asked)) : Type 0 where
  pub front : List (Move State)
  pub later : List (Move State)
  pub order : ms ≡ front ++ later
  pub steps : seen front ≡ xs
  pub rest : seen later ≡ ys

-- `SplitSeen` is preserved if a move, m, that the client sees as the step x is put before the moves, and x before the steps
split_visible : {State : Type 0} (m : Move State) (st x : Step Asked) (ms : List (Move State)) (xs ys : List (Step Asked))
    → ((l : List (Move State)) → seen (m ∷ l) ≡ st ∷ seen l) → (seen ms ≡ xs ++ ys → SplitSeen ms xs ys) → seen (m ∷ ms) ≡ x ∷ (xs ++ ys)
    → SplitSeen (m ∷ ms) (x ∷ xs) ys
split_visible m st x ms xs ys shows again e =
    let both : st ∷ seen ms ≡ x ∷ (xs ++ ys) = sym (shows ms) ∙ e in
    let h = again (cons_tail st x (seen ms) (xs ++ ys) both) in
    record {
      front = m ∷ h.front;
      later = h.later;
      order = ap (λ l. m ∷ l) h.order;
      steps = shows h.front ∙ ap (λ l. st ∷ l) h.steps ∙ ap (λ z. z ∷ xs) (cons_head st x (seen ms) (xs ++ ys) both);
      rest = h.rest;
    }

-- moves that show the client two lists of steps, one after the other, can be cut between the two
pub split_seen : {State : Type 0} (ms : List (Move State)) (xs ys : List (Step Asked)) → seen ms ≡ xs ++ ys → SplitSeen ms xs ys
split_seen ms [] ys e = record { front = []; later = ms; order = refl; steps = refl; rest = e }
split_seen [] (x ∷ xs) ys e = cc
split_seen (Sends target call deadline ∷ ms) (x ∷ xs) ys e = split_visible (Sends target call deadline) (step.Send target call deadline) x ms xs ys (λ l. refl) (λ f. split_seen ms xs ys f) e
split_seen (Tells now ∷ ms) (x ∷ xs) ys e = split_visible (Tells now) (step.Expire now) x ms xs ys (λ l. refl) (λ f. split_seen ms xs ys f) e
split_seen (Comes line ∷ ms) (x ∷ xs) ys e = split_visible (Comes line) (step.Hear line) x ms xs ys (λ l. refl) (λ f. split_seen ms xs ys f) e
split_seen (Foreign line ∷ ms) (x ∷ xs) ys e = split_visible (Foreign line) (step.Hear line) x ms xs ys (λ l. refl) (λ f. split_seen ms xs ys f) e
split_seen (m ∷ ms) (x ∷ xs) ys e = let h = split_seen ms (x ∷ xs) ys e in record { front = m ∷ h.front; later = h.later; order = ap (λ l. m ∷ l) h.order; steps = h.steps; rest = h.rest }

-- these moves, split at a send with this target, call and deadline: the client sees the steps `front` of the moves before it
record IsSeen {State : Type 0} (ms : List (Move State)) (front : List (Step Asked)) (target : ℕ) (call : Asked) (deadline : ℕ) : Type 0 where
  before : List (Move State)
  after : List (Move State)
  split : ms ≡ before ++ Sends target call deadline ∷ after
  seen_before : seen before ≡ front

-- `IsSeen` is preserved by a move put before the others of which the client sees nothing
seen_later : {State : Type 0} (m : Move State) (ms : List (Move State)) (front : List (Step Asked)) (target : ℕ) (call : Asked) (deadline : ℕ) → ((l : List (Move State)) → seen (m ∷ l) ≡ seen l)
    → IsSeen ms front target call deadline → IsSeen (m ∷ ms) front target call deadline
seen_later m ms front target call deadline none h =
    record { before = m ∷ h.before; after = h.after; split = ap (λ l. m ∷ l) h.split; seen_before = none h.before ∙ h.seen_before }

-- where the first step that the client sees of these moves is a send, that send is one of the moves, and the client sees nothing of those
-- before it
sent_first : {State : Type 0} (ms : List (Move State)) (later : List (Step Asked)) (target : ℕ) (call : Asked) (deadline : ℕ) → seen ms ≡ step.Send target call deadline ∷ later
    → IsSeen ms [] target call deadline
sent_first [] later target call deadline e = let never : ⊥ = cc in absurd never
sent_first (Sends t c d ∷ ms) later target call deadline e =
    record { before = []; after = ms; split = same (cons_head (step.Send t c d) (step.Send target call deadline) (seen ms) later e); seen_before = refl }
  where
    -- equal sends of the client are equal moves
    same : step.Send t c d ≡ step.Send target call deadline → Sends t c d ∷ ms ≡ Sends target call deadline ∷ ms
    same e = cc
sent_first (Tells now ∷ ms) later target call deadline e = let never : ⊥ = cc in absurd never
sent_first (Comes line ∷ ms) later target call deadline e = let never : ⊥ = cc in absurd never
sent_first (Foreign line ∷ ms) later target call deadline e = let never : ⊥ = cc in absurd never
sent_first (m ∷ ms) later target call deadline e = seen_later m ms [] target call deadline (λ l. refl) (sent_first ms later target call deadline e)

-- where the client sees a send after the steps `front` of these moves, that send is one of the moves, as `IsSeen` says
seen_at : {State : Type 0} (ms : List (Move State)) (front later : List (Step Asked)) (target : ℕ) (call : Asked) (deadline : ℕ) → seen ms ≡ front ++ step.Send target call deadline ∷ later
    → IsSeen ms front target call deadline
seen_at ms front later target call deadline e =
    let cut = split_seen ms front (step.Send target call deadline ∷ later) e in
    let first = sent_first cut.later later target call deadline cut.rest in
    record {
      before = cut.front ++ first.before;
      after = first.after;
      split = cut.order ∙ ap (λ l. cut.front ++ l) first.split ∙ sym (append_assoc cut.front first.before (Sends target call deadline ∷ first.after));
      seen_before = seen_append cut.front first.before ∙ ap (λ l. l ++ seen first.before) cut.steps ∙ ap (λ l. front ++ l) first.seen_before ∙ append-nil front;
    }

-- What is near the table by the steps is so by the moves.

-- an outcome that isn't lost is by a reply
by_reply : (o : Outcome) → (o ≡ Lost → ⊥) → IsByReply o
by_reply (Answered line) not = tt
by_reply Late not = tt
by_reply Lost not = not refl

module _ {State : Type 0} (ends : Ends State) (Good : State → Type 0) (kept : State → Option KeptReply) (is : IsAnInstrument ends Good kept) where
  -- by the first moves of a sound stretch (`before`), eight more requests are sent than by the steps that the client sees of
  -- these moves: the null procedures
  sent_count : (s : Stretch State) → IsSoundStretch ends Good kept is s → (before after : List (Move State)) → s.moves ≡ before ++ after
      → length (world_once_begun 7 ends s.from before).wire.sent ≡ 8 + length (course 7 begun (seen before)).sent
  sent_count s sound before after e =
      let p = front_possible 7 ends Good kept s.moves before after (ids_begun s.from) e sound.possible in
      let w = (world_once_begun 7 ends s.from before).wire in
      let all = sent_is ends Good kept is 7 (omega arith) s.from before p in
      sym (length-map w.sent of_sent) ∙ ap length all ∙ length-append (map of_sent nulls) (course 7 begun (seen before)).sent

  -- if the request that is sent next after the first moves of a sound stretch (`before`) is near the table by the steps that the
  -- client sees of them, it is sent after the table (`IsBehindTheTable`)
  near_is : (s : Stretch State) → IsSoundStretch ends Good kept is s → (before after : List (Move State)) → s.moves ≡ before ++ after → IsNearTheTable (course 7 begun (seen before))
      → IsBehindTheTable (world_once_begun 7 ends s.from before).wire
  near_is s sound before after e near =
      let w = (world_once_begun 7 ends s.from before).wire in
      let x = course 7 begun (seen before) in
      let count = sent_count s sound before after e in
      let f = faithful_throughout ends Good kept is s sound before after e in
      let got : slice_get w.settled (8 + near.0) ≡ Some near.1 =
      subst (λ l. slice_get l (8 + near.0) ≡ Some near.1) (sym f.settled) (get_behind nulls_settled x.settlements (8 + near.0) near.0 refl ∙ near.2) in
      let low : 8 + near.0 < length w.settled = slice_get_within w.settled (8 + near.0) near.1 got in
      let many : length w.settled ≤ length w.sent = f.one_for_one.count in
      let r = element_at w.sent (8 + near.0) (omega (arith, low, many)) in
      let same : near.1.call ≡ r.0.call = (f.one_for_one.same (8 + near.0) near.1 r.0 got r.1).1 in
      (8 + near.0, omega (arith, low, many), omega (arith, count, near.4), inr (r.0, near.1, r.1, sym (ap is_of_table same) ∙ near.3.0, got, by_reply near.1.outcome near.3.1))

  -- if a sound stretch shows steps in which more than n requests are sent, and the send at which request n is sent is near the table,
  -- request 8 + n of the stretch is sent after the table (`WentOutBehindTheTable`)
  pub goes_out : (s : Stretch State) → IsSoundStretch ends Good kept is s → (steps : List (Step Asked)) → seen s.moves ≡ steps → (n : ℕ) → n < length (course 7 begun steps).sent
      → ((front later : List (Step Asked)) (target : ℕ) (call : Asked) (deadline : ℕ) → steps ≡ front ++ step.Send target call deadline ∷ later → length (course 7 begun front).sent ≡ n
      → slice_get (course 7 begun steps).sent n ≡ Some (record { target = target; call = call }) → IsNearTheTable (course 7 begun front)) → WentOutBehindTheTable 7 ends s.from s.moves (8 + n)
  goes_out s sound steps shown n low near =
      let at = split_at steps begun n (omega arith) low in
      let m = seen_at s.moves at.front at.later at.target at.call at.deadline (shown ∙ at.split) in
      let rest = Sends at.target at.call at.deadline ∷ m.after in
      let count : length (course 7 begun (seen m.before)).sent ≡ n = ap (λ l. length (course 7 begun l).sent) m.seen_before ∙ at.number in
      record {
        front = m.before;
        later = m.after;
        target = at.target;
        call = at.call;
        deadline = at.deadline;
        split = m.split;
        number = sent_count s sound m.before rest m.split ∙ ap (λ k. 8 + k) count;
        behind_table = near_is s sound m.before rest m.split
            (subst (λ l. IsNearTheTable (course 7 begun l)) (sym m.seen_before) (near at.front at.later at.target at.call at.deadline at.split at.number at.sent));
      }
