-- What is sent after an answer is executed after the request that was answered. A *stretch* is a run once it has synchronized:
-- what is in flight then, and its moves.
use Rattle.gc_theorems.proofs.Common.{◌≡◌, ◌⊎◌, inl, inr, ℕ, suc, ◌+◌, ◌<◌, ◌≤◌, List, [], ◌∷◌, ◌++◌, length, Option, Some, refl, sym, ◌∙◌, ap, subst, arith, append_assoc, Bool, true, false, ltb, append-nil, AllByRecursion, ltb-true, ltb-false, slice_get, slice_get_within, every_weaker as all_on, Asked, ById, Settlement, Answered, KeptReply, by_ids, Ends, Numbered, Request, Sent, Up_deliver, World, IsClean, IsSafe, WasMadeOn, world_once_begun, ids_begun, ArePossibleOnceBegun, AreCalls, IsExecutedBefore, Move, OnLine, moves, moved, ArePossible, IsAnInstrument, ExecutesOnce, HasNoStart, IsInOrder, Stretch, one_front_begins_other, get_behind, get_more, get_split}
use Rattle.std.proofs.lemmas.List.{length-append}
use Rattle.gc_theorems.proofs.Among.{each_at}
use Rattle.gc_theorems.proofs.BeginLists.{each_both}
use Rattle.gc_theorems.proofs.Between.{IsConsistent, acted, calls_more, did_all, made_both, consistent_all}
use Rattle.gc_theorems.proofs.InTime.{clean_faithful}
use Rattle.gc_theorems.proofs.Possible.{front_possible, later_possible, moved_append}

-- Lists.

-- an element of two lists in a row, at a place below the length of the first, is at that place of the first
pub in_front_at : {A : Type 0} (xs ys : List A) (i : ℕ) (x : A) → i < length xs → slice_get (xs ++ ys) i ≡ Some x → slice_get xs i ≡ Some x
in_front_at xs ys i x less e =
    elim (get_split xs ys i x e) [
      | inl first ↦ first
      | inr second ↦ (let at : i ≡ length xs + second.0 = second.1 in absurd (omega (arith, less, at)))
    ]

-- The requests that were executed between a request m and a later one, n.

module _ (e : List ℕ) (m n : ℕ) (numbers : List ℕ) where
  -- all executions: those before request m, m, those between, and n
  abbrev all : List ℕ
  all = (e ++ m ∷ numbers) ++ n ∷ []

  -- among all executions request m is at the place `length e`
  at_m : slice_get all (length e) ≡ Some m
  at_m = get_more (e ++ m ∷ numbers) (n ∷ []) (length e) m (get_behind e (m ∷ numbers) (length e) 0 (omega arith))

  -- among all executions the request at place i of those between is at the place `length e + (1 + i)`
  at_x : (i x : ℕ) → slice_get numbers i ≡ Some x → slice_get all (length e + (1 + i)) ≡ Some x
  at_x i x got = get_more (e ++ m ∷ numbers) (n ∷ []) (length e + (1 + i)) x (get_behind e (m ∷ numbers) (length e + (1 + i)) (suc i) (omega arith) ∙ got)

  -- among all executions request n is at the place `length e + (1 + length numbers)`
  at_n : slice_get all (length e + (1 + length numbers)) ≡ Some n
  at_n =
      let size : length (e ++ m ∷ numbers) ≡ length e + length (m ∷ numbers) = length-append e (m ∷ numbers) in
      get_behind (e ++ m ∷ numbers) (n ∷ []) (length e + (1 + length numbers)) 0 (omega (arith, size))

  -- if all executions are in order, those between are
  pub between_in_order : IsInOrder all → IsInOrder numbers
  between_in_order rises j k x y lt a b = rises (length e + (1 + j)) (length e + (1 + k)) x y (omega (arith, lt)) (at_x j x a) (at_x k y b)

  -- if all executions are in order, those between are of no request before m and of none after n
  pub none_outside : IsInOrder all → AllByRecursion (λ x. (m ≤ x) × (x ≤ n)) numbers
  none_outside rises =
      each_at (λ (x : ℕ). (m ≤ x) × (x ≤ n)) numbers
      (λ i x got.
      let small : i < length numbers = slice_get_within numbers i x got in (
        rises (length e) (length e + (1 + i)) m x (omega arith) at_m (at_x i x got),
        rises (length e + (1 + i)) (length e + (1 + length numbers)) x n (omega (arith, small)) (at_x i x got) at_n,
      ))

  -- if no start came after the execution of m, all executions are in order, and the instrument acts once for the requests that
  -- `knows` names, the executions between of such requests are of requests sent after m and before n
  pub known_strictly_between : (knows : Asked → Bool) (sent : List Sent) (starts : List ℕ) → AllByRecursion (λ s. s ≤ length e) starts → IsInOrder all → ExecutesOnce knows sent all starts
      → AllByRecursion (λ x. (r : Sent) → slice_get sent x ≡ Some r → knows r.call ≡ true → (m < x) × (x < n)) numbers
  known_strictly_between knows sent starts early rises once =
      each_at (λ (x : ℕ). (r : Sent) → slice_get sent x ≡ Some r → knows r.call ≡ true → (m < x) × (x < n)) numbers
      (λ i x got r found known.
      let small : i < length numbers = slice_get_within numbers i x got in (
        once (length e) (length e + (1 + i)) m x r (omega arith) (none (length e) (length e + (1 + i)) (omega arith)) at_m (at_x i x got) found known,
        before x r
            (rises (length e + (1 + i)) (length e + (1 + length numbers)) x n (omega (arith, small)) (at_x i x got) at_n)
            (λ found known.
            once (length e + (1 + i)) (length e + (1 + length numbers)) x n r (omega (arith, small)) (none (length e + (1 + i)) (length e + (1 + length numbers)) (omega arith)) (at_x i x got)
            at_n found known)
            found known,
      ))
    where
      -- no start is between two executions from that of request m on
      none : (j k : ℕ) → length e ≤ j → HasNoStart starts j k
      none j k le = all_on (λ s. s ≤ length e) (λ s. (s ≤ j) ⊎ (k < s)) starts (λ s l. inl (omega (arith, l, le))) early

      -- where request x is r, which is known, and x is at most n: x is below n, if it is below n in the case that request n is r,
      -- too
      before : (x : ℕ) (r : Sent) → x ≤ n → (slice_get sent n ≡ Some r → knows r.call ≡ true → x < n) → slice_get sent x ≡ Some r → knows r.call ≡ true → x < n
      before x r le last found known = by_case (ltb x n) refl where
        -- the lemma above, by whether x is below n (`b`)
        by_case : (b : Bool) → ltb x n ≡ b → x < n
        by_case true t = ltb-true x n t
        by_case false t =
            let ge : n ≤ x = ltb-false x n t in
            let same : x ≡ n = omega (arith, le, ge) in
            last (subst (λ y. slice_get sent y ≡ Some r) same found) known

-- The law.

module _ {State : Type 0} (ends : Ends State) (Good : State → Type 0) (kept : State → Option KeptReply) (is : IsAnInstrument ends Good kept)
    (s : Stretch State) (clean : IsClean Good kept s.from) (field : ArePossibleOnceBegun 7 ends s.from Good kept s.moves) where
  -- the world after these moves of the stretch
  abbrev at : List (Move State) → World (ById Asked) State
  at ms = world_once_begun 7 ends s.from ms

  -- where a line was made on executing request n, that request had been sent before it reached the instrument
  was_sent : (n : ℕ) (call : Asked) (line : List ℕ) (h : WasMadeOn 7 ends s.from s.moves n call line) → n < length (at h.front).wire.sent
  was_sent n call line h =
      let stands = consistent_all ends Good kept h.front s.from clean (front_possible 7 ends Good kept s.moves h.front (OnLine Up_deliver ∷ h.later) (ids_begun s.from) h.split field) in
      let known = (subst (λ l. AllByRecursion (λ (x : Numbered Request). (r : _) × (slice_get (at h.front).wire.sent x.number ≡ Some r) × (r.call ≡ x.line.call)) l) h.reaches stands.known).0 in
      slice_get_within (at h.front).wire.sent n known.0 known.1

  -- further moves only add to what was sent
  sent_more : (front more later : List (Move State)) → s.moves ≡ (front ++ more) ++ later → (extra : List _) × ((at (front ++ more)).wire.sent ≡ (at front).wire.sent ++ extra)
  sent_more front more later e =
      let split : s.moves ≡ front ++ (more ++ later) = e ∙ append_assoc front more later in
      let rest_possible = later_possible 7 ends Good kept s.moves front (more ++ later) (ids_begun s.from) split field in
      let possible = front_possible 7 ends Good kept (more ++ later) more later (at front) refl rest_possible in
      let did = did_all ends Good kept more (at front) possible
      (consistent_all ends Good kept front s.from clean (front_possible 7 ends Good kept s.moves front (more ++ later) (ids_begun s.from) split field)) in
      (did.more, ap (λ (w : World (ById Asked) State). w.wire.sent) (moved_append ends (by_ids 7 ends) front more (ids_begun s.from)) ∙ did.sent)

  -- a request that wasn't sent by the end of the moves `before`, and on whose execution a line was made, was executed after these
  -- moves
  behind_front : (before later : List (Move State)) → s.moves ≡ before ++ later → (n : ℕ) → length (at before).wire.sent ≤ n
      → (call : Asked) (line : List ℕ) (h : WasMadeOn 7 ends s.from s.moves n call line)
      → (more : List (Move State)) × (h.front ≡ before ++ more)
  behind_front before later e n unsent call line h =
      elim (one_front_begins_other before later h.front (OnLine Up_deliver ∷ h.later) (sym e ∙ h.split)) [
        | inl x ↦ x
        | inr x ↦ (let grown = sent_more h.front x.0 later (e ∙ ap (λ l. l ++ later) x.1) in
            let size : length (at before).wire.sent ≡ length ((at h.front).wire.sent ++ grown.0) = ap (λ l. length (at l).wire.sent) x.1 ∙ ap length grown.1 in
            let sum : length ((at h.front).wire.sent ++ grown.0) ≡ length (at h.front).wire.sent + length grown.0 = length-append (at h.front).wire.sent grown.0 in
            absurd (omega (arith, size, sum, was_sent n call line h, unsent)))
      ]

  -- where request n was executed after request m, `IsExecutedBefore` holds of them: it says what was executed between the two
  both_made : (m n : ℕ) (call_m call_n : Asked) (line_m line_n : List ℕ) (f : WasMadeOn 7 ends s.from s.moves m call_m line_m)
      (h : WasMadeOn 7 ends s.from s.moves n call_n line_n) (between : List (Move State)) → h.front ≡ f.front ++ OnLine Up_deliver ∷ between
      → IsExecutedBefore ends Good kept s (record { number = m; call = call_m; line = line_m }) (record { number = n; call = call_n; line = line_n })
  both_made m n call_m call_n line_m line_n f h between order =
      let split : s.moves ≡ (f.front ++ OnLine Up_deliver ∷ between) ++ OnLine Up_deliver ∷ h.later = h.split ∙ ap (λ l. l ++ OnLine Up_deliver ∷ h.later) order in
      let split_f : s.moves ≡ f.front ++ (OnLine Up_deliver ∷ (between ++ OnLine Up_deliver ∷ h.later)) = split ∙ append_assoc f.front (OnLine Up_deliver ∷ between) (OnLine Up_deliver ∷ h.later) in
      let split_h : s.moves ≡ (h.front ++ OnLine Up_deliver ∷ []) ++ h.later = h.split ∙ sym (append_assoc h.front (OnLine Up_deliver ∷ []) h.later) in
      let v = at f.front in
      let w = moves ends (by_ids 7 ends) v (OnLine Up_deliver) in
      let stands = consistent_all ends Good kept f.front s.from clean
      (front_possible 7 ends Good kept s.moves f.front (OnLine Up_deliver ∷ (between ++ OnLine Up_deliver ∷ h.later)) (ids_begun s.from) split_f field) in
      let one = acted ends v (record { number = m; line = record { id = f.id; call = call_m } }) f.rest f.reaches f.executed in
      let last = acted ends (at h.front) (record { number = n; line = record { id = h.id; call = call_n } }) h.rest h.reaches h.executed in
      let possible : ArePossible ends Good kept (by_ids 7 ends) between w =
      front_possible 7 ends Good kept (between ++ OnLine Up_deliver ∷ h.later) between (OnLine Up_deliver ∷ h.later) w refl
      (later_possible 7 ends Good kept s.moves f.front (OnLine Up_deliver ∷ (between ++ OnLine Up_deliver ∷ h.later)) (ids_begun s.from) split_f field).1 in
      let split_w : s.moves ≡ (f.front ++ OnLine Up_deliver ∷ []) ++ (between ++ OnLine Up_deliver ∷ h.later) =
      split_f ∙ sym (append_assoc f.front (OnLine Up_deliver ∷ []) (between ++ OnLine Up_deliver ∷ h.later)) in
      let stands_w : IsConsistent ends w.wire = subst (λ (x : World (ById Asked) State). IsConsistent ends x.wire)
      (moved_append ends (by_ids 7 ends) f.front (OnLine Up_deliver ∷ []) (ids_begun s.from))
      (consistent_all ends Good kept (f.front ++ OnLine Up_deliver ∷ []) s.from clean
      (front_possible 7 ends Good kept s.moves (f.front ++ OnLine Up_deliver ∷ []) (between ++ OnLine Up_deliver ∷ h.later) (ids_begun s.from) split_w field)) in
      let did = did_all ends Good kept between w possible stands_w in
      let there : at h.front ≡ moved ends (by_ids 7 ends) between w = ap (λ l. at l) order ∙ moved_append ends (by_ids 7 ends) f.front (OnLine Up_deliver ∷ between) (ids_begun s.from) in
      let e = v.wire.executed in
      let ran : (at h.front).wire.executed ≡ e ++ m ∷ did.numbers =
      ap (λ (x : World (ById Asked) State). x.wire.executed) there ∙ did.executed ∙ ap (λ l. l ++ did.numbers) one.0 ∙ append_assoc e (m ∷ []) did.numbers in
      let behind_last : at (h.front ++ OnLine Up_deliver ∷ []) ≡ moves ends (by_ids 7 ends) (at h.front) (OnLine Up_deliver) =
      moved_append ends (by_ids 7 ends) h.front (OnLine Up_deliver ∷ []) (ids_begun s.from) in
      let whole : (at (h.front ++ OnLine Up_deliver ∷ [])).wire.executed ≡ (e ++ m ∷ did.numbers) ++ n ∷ [] =
      ap (λ (x : World (ById Asked) State). x.wire.executed) behind_last ∙ last.0 ∙ ap (λ l. l ++ n ∷ []) ran in
      let law_there = clean_faithful ends Good kept is s.from clean (h.front ++ OnLine Up_deliver ∷ [])
      (front_possible 7 ends Good kept s.moves (h.front ++ OnLine Up_deliver ∷ []) h.later (ids_begun s.from) split_h field) in
      let grown = sent_more h.front (OnLine Up_deliver ∷ h.later) [] (h.split ∙ sym (append-nil (h.front ++ OnLine Up_deliver ∷ h.later))) in
      let grown_all : (at s.moves).wire.sent ≡ (at h.front).wire.sent ++ grown.0 = ap (λ l. (at l).wire.sent) h.split ∙ grown.1 in
      let asked_there : AreCalls (at h.front).wire.sent did.numbers did.calls = subst (λ (x : World (ById Asked) State). AreCalls x.wire.sent did.numbers did.calls) (sym there) did.asked in
      record {
        first = f;
        second = h;
        between = between;
        order = order;
        numbers = did.numbers;
        executed = ran;
        in_order = between_in_order e m n did.numbers (subst IsInOrder whole law_there.in_order);
        within = none_outside e m n did.numbers (subst IsInOrder whole law_there.in_order);
        strictly = λ knows keeps quiet.
            let starts : (at (h.front ++ OnLine Up_deliver ∷ [])).wire.starts ≡ v.wire.starts =
            ap (λ (x : World (ById Asked) State). x.wire.starts) behind_last ∙ last.2 ∙ ap (λ (x : World (ById Asked) State). x.wire.starts) there ∙ did.starts quiet ∙ one.2 in
            let near = sent_more h.front (OnLine Up_deliver ∷ []) h.later split_h in
            let there : List Sent = (at (h.front ++ OnLine Up_deliver ∷ [])).wire.sent in
            let size : n < length (at h.front).wire.sent = was_sent n call_n line_n h in
            let in_order = subst IsInOrder whole law_there.in_order in
            let once : ExecutesOnce knows there ((e ++ m ∷ did.numbers) ++ n ∷ []) v.wire.starts =
            subst (λ l. ExecutesOnce knows there l v.wire.starts) whole
            (subst (λ l. ExecutesOnce knows there (at (h.front ++ OnLine Up_deliver ∷ [])).wire.executed l) starts (law_there.once knows keeps)) in
            each_both (λ x. (m ≤ x) × (x ≤ n)) (λ x. (r : Sent) → slice_get there x ≡ Some r → knows r.call ≡ true → (m < x) × (x < n))
            (λ x. (r : Sent) → slice_get (at s.moves).wire.sent x ≡ Some r → knows r.call ≡ true → (m < x) × (x < n))
            (λ x in_it strict r found known.
            strict r
            (subst (λ l. slice_get l x ≡ Some r) (sym near.1)
            (get_more (at h.front).wire.sent near.0 x r
            (in_front_at (at h.front).wire.sent grown.0 x r (omega (arith, size, in_it.1)) (subst (λ l. slice_get l x ≡ Some r) grown_all found))))
            known)
            did.numbers (none_outside e m n did.numbers in_order) (known_strictly_between e m n did.numbers knows there v.wire.starts stands.begun in_order once);
        calls = did.calls;
        asked = subst (λ l. AreCalls l did.numbers did.calls) (sym grown_all) (calls_more (at h.front).wire.sent grown.0 did.numbers did.calls asked_there);
        state = λ apart effect has still.
            ap (λ (x : World (ById Asked) State). apart x.wire.state) there ∙ made_both ends v.wire.state w.wire.state
            (moved ends (by_ids 7 ends) between w).wire.state (call_m ∷ []) did.calls one.1 (did.state still) apart effect has;
      }

  -- where request m, from 8 on and `IsSafe`, was answered by the end of the moves `before`, and request n, which hadn't been sent
  -- by then, is executed: n is executed after m, by `IsExecutedBefore`
  pub executed_behind : (before later : List (Move State)) → s.moves ≡ before ++ later → (m n : ℕ) (x : Settlement Asked) (line_m : List ℕ) → 8 ≤ m
      → IsSafe 7 ends s.from Good kept before m → slice_get (at before).wire.settled m ≡ Some x → x.outcome ≡ Answered line_m
      → length (at before).wire.sent ≤ n → (call : Asked) (line_n : List ℕ) → WasMadeOn 7 ends s.from s.moves n call line_n
      → IsExecutedBefore ends Good kept s (record { number = m; call = x.call; line = line_m }) (record { number = n; call = call; line = line_n })
  executed_behind before later e m n x line_m beyond safe settled answered unsent call line_n h =
      let possible = front_possible 7 ends Good kept s.moves before later (ids_begun s.from) e field in
      let f = (clean_faithful ends Good kept is s.from clean before possible).made_on m x (beyond, safe) settled line_m answered in
      let more = behind_front before later e n unsent call line_n h in
      let first : WasMadeOn 7 ends s.from s.moves m x.call line_m = record {
        front = f.front;
        later = f.later ++ later;
        split = e ∙ ap (λ l. l ++ later) f.split ∙ append_assoc f.front (OnLine Up_deliver ∷ f.later) later;
        id = f.id;
        rest = f.rest;
        reaches = f.reaches;
        executed = f.executed;
        reply = f.reply;
      } in
      both_made m n x.call call line_m line_n first h (f.later ++ more.0) (more.1 ∙ ap (λ l. l ++ more.0) f.split ∙ append_assoc f.front (OnLine Up_deliver ∷ f.later) more.0)
