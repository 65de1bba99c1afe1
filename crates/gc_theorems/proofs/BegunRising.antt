-- `HasRisingIds` holds of what a client has in flight after a clean synchronization: requests and replies whose numbers, from the
-- eighth null procedure's on, never fall in the order of the line, and whose ids are these numbers modulo 8. The *word* is the
-- list of the ids of a synchronization's eight null procedures: 6 down to 0, and then 7.
use Rattle.gc_theorems.proofs.Common.{◌≡◌, ℕ, ◌+◌, ◌-◌, ◌%◌, ◌<◌, ◌≤◌, Bool, true, false, List, [], ◌∷◌, ◌++◌, length, map, Option, Some, refl, sym, ◌∙◌, ap, subst, arith, ltb, eqb, ap₂, filter_map, cons_option, AllByRecursion, ltb-false, map-append, every_weaker as all_on, Asked, IsSubsequence, ById, KeptReply, ByNumber, by_ids, by_numbers, number_reply, number_send, numbers, Ends, Numbered, Request, Step, Wire, World, happens, down_delivered, requested, IsComing, IsGoing, Sound, all_sent, LacksTheWord, UnderWay, ids_under_way, HasRisingIds, under_way_on, IsClean, world_once_begun, ids_begun, numbers_begun, ArePossibleOnceBegun, Move, Sends, Tells, Comes, Foreign, OnLine, Anew, Changes, Joins, IsLineStep, ArePossible, moved, IsAnInstrument}
use Rattle.gc_theorems.proofs.BeginWords.{subword_front, eight_rising_lack_three, ids_of_numbers}
use Rattle.gc_theorems.proofs.BeginLists.{each_map}
use Rattle.gc_theorems.proofs.BegunFaithful.{both_begun, exchange}
use Rattle.gc_theorems.proofs.LineSteps.{same_over_line}
use Rattle.gc_theorems.proofs.Moving.{both_all}
use Rattle.gc_client.specs.Rule as rule

-- Rising ids contain neither the word nor its first three ids.

-- where `HasRisingIds` holds, the ids in flight don't contain 6, 5 and 4 in this order
pub rising_lack_three : {State : Type 0} (u : UnderWay State) → HasRisingIds u → IsSubsequence (6 ∷ 5 ∷ 4 ∷ []) (ids_under_way u) → ⊥
rising_lack_three u h s = eight_rising_lack_three h.low h.numbers h.some h.rising h.few (subst (IsSubsequence (6 ∷ 5 ∷ 4 ∷ [])) h.ids s)

-- where `HasRisingIds` holds, the ids in flight don't contain the word
pub rising_lack_the_word : {State : Type 0} (u : UnderWay State) → HasRisingIds u → LacksTheWord u
rising_lack_the_word u h s = rising_lack_three u h (subword_front (6 ∷ 5 ∷ 4 ∷ []) (3 ∷ 2 ∷ 1 ∷ 0 ∷ 7 ∷ []) (ids_under_way u) s)

-- The client that is given the numbers never restarts, and what it settled doesn't become less.

-- a client that is given the numbers, whose eight null procedures are settled, and which never restarted
pub record IsBased (c : ByNumber Asked) : Type 0 where
  pub since : c.since ≡ 0
  pub count : 8 ≤ c.count

module _ {State : Type 0} (width : ℕ) (ends : Ends State) where
  -- the client of this world, which is given the numbers, is `IsBased`
  abbrev Based : World (ByNumber Asked) State → Type 0
  Based w = IsBased w.client

  -- a send preserves `Based`
  based_sent : (w : World (ByNumber Asked) State) (target : ℕ) (call : Asked) (deadline : ℕ) (full : Bool) → Based w → Based (requested w target call (number_send w.client target call deadline full))
  based_sent w target call deadline true h = h
  based_sent w target call deadline false h = record { since = h.since; count = h.count }

  -- a reply preserves `IsBased`
  based_reply : (c : ByNumber Asked) (x : Numbered (List ℕ)) (old : Bool) → ltb x.number c.count ≡ old → IsBased c → IsBased (number_reply c x old).client
  based_reply c x true t h = h
  based_reply c x false t h = record { since = h.since; count = (let ge : c.count ≤ x.number = ltb-false _ _ t in let low = h.count in omega (arith, ge, low)) }

  -- a reply that comes preserves `Based`
  based_down : (w : World (ByNumber Asked) State) (q : List (Numbered (List ℕ))) → Based w → Based (down_delivered (by_numbers width) w q)
  based_down w [] h = h
  based_down w (x ∷ rest) h = based_reply w.client x (ltb x.number w.client.count) refl h

  -- a step of the line preserves `Based`
  based_line : (w : World (ByNumber Asked) State) (step : Step) → IsLineStep step → Based w → Based (happens ends (by_numbers width) w step)
  based_line w step p h = subst IsBased (sym (same_over_line ends (by_numbers width) w step p).client) h

  module _ (Good : State → Type 0) (kept : State → Option KeptReply) where
    -- moves that are possible for the client that knows ids preserve `Based`
    pub based_all : (ms : List (Move State)) (a : World (ById Asked) State) (w : World (ByNumber Asked) State) → ArePossible ends Good kept (by_ids width ends) ms a → Based w
        → Based (moved ends (by_numbers width) ms w)
    based_all [] a w p h = h
    based_all (Sends target call deadline ∷ ms) a w p h = based_all ms _ _ p.1 (based_sent w target call deadline (eqb (length w.client.requests - w.client.count) width) h)
    based_all (Tells now ∷ ms) a w p h = based_all ms _ _ p.1 (record { since = h.since; count = h.count })
    based_all (Comes line ∷ ms) a w p h = based_all ms _ _ p.1 (based_down w w.wire.down h)
    based_all (Foreign line ∷ ms) a w p h = based_all ms _ _ p.1 h
    based_all (OnLine step ∷ ms) a w p h = based_all ms _ _ p.1 (based_line w step p.0 h)
    based_all (Anew ∷ ms) a w p h = based_all ms _ _ p.1 h
    based_all (Changes state ∷ ms) a w p h = based_all ms _ _ p.1 h
    based_all (Joins line ∷ ms) a w p h = absurd p.0

-- Its ids.

-- where the client never restarted (`since` is 0), the ids of the requests in flight are their numbers modulo 8
ids_of_requests : (since total : ℕ) (xs : List (Numbered Request)) → since ≡ 0 → AllByRecursion (IsGoing since total) xs → map (λ x. x.id) (map (λ x. x.line) xs) ≡ ids_of_numbers (numbers xs)
ids_of_requests since total [] e h = refl
ids_of_requests since total (x ∷ xs) e h =
    let plain : x.number - since ≡ x.number = omega (arith, e) in
    ap₂ (λ i ids. i ∷ ids) (h.0.id ∙ ap (λ n. n % 8) plain) (ids_of_requests since total xs e h.1)

module _ {State : Type 0} (width : ℕ) (ends : Ends State) (Good : State → Type 0) (same_heard : (line : List ℕ) → ends.heard line ≡ rule.heard line) where
  -- where the client never restarted (`since` is 0), the ids of the replies in flight are their numbers modulo 8
  ids_down : (since total : ℕ) (xs : List (Numbered (List ℕ))) → since ≡ 0 → AllByRecursion (IsComing width ends Good since total) xs
      → filter_map rule.heard (map (λ x. x.line) xs) ≡ ids_of_numbers (numbers xs)
  ids_down since total [] e h = refl
  ids_down since total (x ∷ xs) e h =
      let plain : x.number - since ≡ x.number = omega (arith, e) in
      ap₂ (λ o ids. cons_option o ids) (sym (same_heard x.line) ∙ h.0.id ∙ ap (λ n. Some (n % 8)) plain) (ids_down since total xs e h.1)

  -- `HasRisingIds` holds of what is in flight in a sound world whose client is `IsBased`
  are_rising : (c : ByNumber Asked) (w : Wire State) (narrow : width ≤ 7) → IsBased c → Sound width ends Good (record { wire = w; client = c }) → HasRisingIds (under_way_on w)
  are_rising c w narrow base s =
      let total = length c.requests in
      record {
        low = c.count;
        numbers = numbers w.down ++ numbers w.up;
        some = (let low = base.count in omega (arith, low));
        rising = s.order;
        few =
            all_on (λ n. n < total) (λ n. n < c.count + 7) (numbers w.down ++ numbers w.up) (λ n l. omega (arith, l, s.few, narrow))
            (all_sent width ends Good c.since total w.down w.up s.coming s.going);
        ids = ap₂ (λ xs ys. xs ++ ys) (ids_down c.since total w.down base.since s.coming) (ids_of_requests c.since total w.up base.since s.going)
            ∙ sym (map-append (λ n. n % 8) (numbers w.down) (numbers w.up));
      }

module _ {State : Type 0} (ends : Ends State) (Good : State → Type 0) (kept : State → Option KeptReply) (is : IsAnInstrument ends Good kept) (width : ℕ) (narrow : width ≤ 7) where
  -- `HasRisingIds` holds of what is in flight after possible moves that follow a clean synchronization
  pub runs_leave_rising_ids : (u : UnderWay State) → IsClean Good kept u → (ms : List (Move State))
      → ArePossibleOnceBegun width ends u Good kept ms → HasRisingIds (under_way_on (world_once_begun width ends u ms).wire)
  runs_leave_rising_ids u clean ms p =
      let b = moved ends (by_numbers width) ms (numbers_begun u) in
      let both = both_all width narrow ends Good (exchange ends Good kept is width narrow) kept ms (ids_begun u) (numbers_begun u) p (both_begun ends Good kept is width narrow u clean) in
      subst (λ (w : Wire State). HasRisingIds (under_way_on w)) (sym both.agree.wire)
      (are_rising width ends Good is.hears b.client b.wire narrow (based_all width ends Good kept ms (ids_begun u) (numbers_begun u) p (record { since = refl; count = omega arith })) both.sound)

  -- possible moves that follow a clean synchronization leave a good state, and requests with ids below 8
  pub runs_leave_good : (u : UnderWay State) → IsClean Good kept u → (ms : List (Move State))
      → ArePossibleOnceBegun width ends u Good kept ms
      → Good (world_once_begun width ends u ms).wire.state × AllByRecursion (λ x. x.id < 8) (map (λ x. x.line) (world_once_begun width ends u ms).wire.up)
  runs_leave_good u clean ms p =
      let both = both_all width narrow ends Good (exchange ends Good kept is width narrow) kept ms (ids_begun u) (numbers_begun u) p (both_begun ends Good kept is width narrow u clean) in
      subst (λ (w : Wire State). Good w.state × AllByRecursion (λ x. x.id < 8) (map (λ x. x.line) w.up)) (sym both.agree.wire)
      (both.sound.good, small _ _ (moved ends (by_numbers width) ms (numbers_begun u)).wire.up both.sound.going)
    where
      -- requests in flight in a sound world have ids below 8
      small : (since total : ℕ) (xs : List (Numbered Request)) → AllByRecursion (IsGoing since total) xs → AllByRecursion (λ x. x.id < 8) (map (λ x. x.line) xs)
      small since total xs h =
          each_map (IsGoing since total) (λ (x : Request). x.id < 8) (λ (x : Numbered Request). x.line)
          (λ x going. let id = going.id in let below : x.line.id < 8 = omega (arith, id) in below) xs h
