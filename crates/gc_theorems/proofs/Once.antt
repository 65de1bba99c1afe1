-- The numbers of the requests that an instrument executes never fall (`IsOrdered`), and between two of its starts they rise for
-- the requests to which it keeps its reply (`IsClimbing`): it is handed the last request again, which it doesn't execute
-- then, or a later one.
use Rattle.gc_theorems.proofs.Common.{◌≡◌, ℕ, zero, suc, ◌+◌, ◌-◌, ◌%◌, ◌<◌, ◌≤◌, ◌⊎◌, inl, inr, Bool, true, false, List, [], ◌∷◌, ◌++◌, length, Option, Some, None, cond, refl, sym, ◌∙◌, ap, subst, arith, ltb, AllByRecursion, ltb-true, ltb-false, true≢false, length_push, slice_get, Asked, KeptReply, same_Some, none-some, slice_get_within, Sent, all_at, HasNoStart, ExecutesOnce, IsInOrder, MayForget, all_append, every_front as all_front, every_behind as all_behind, every_weaker as all_on, get_split}
use Rattle.gc_world.proofs.Places.{get_more}

-- Lists.

-- what is at a place of a list with one element more behind it was at that place before, or is that element, at the last place
get_pushed : {A : Type 0} (xs : List A) (x : A) (i : ℕ) (y : A) → slice_get (xs ++ x ∷ []) i ≡ Some y → (slice_get xs i ≡ Some y) ⊎ ((i ≡ length xs) × (x ≡ y))
get_pushed xs x i y e =
    elim (get_split xs (x ∷ []) i y e) [
      | inl h ↦ inl h
      | inr h ↦ inr (last h.0 h.1 h.2)
    ]
  where
    -- what is in the list of the one element is that element, at place 0 of it
    last : (k : ℕ) → i ≡ length xs + k → slice_get (x ∷ []) k ≡ Some y → (i ≡ length xs) × (x ≡ y)
    last zero at got = (omega (arith, at), same_Some x y got)
    last (suc k) at got = absurd (none-some y got)

-- where x is before y in a list with n added at its end, at the places i and j: x was at i before; and so was y at j, or j is the
-- last place, and y is n
pushed_two : {A : Type 0} (xs : List A) (n : A) (i j : ℕ) (x y : A) → i < j → slice_get (xs ++ n ∷ []) i ≡ Some x → slice_get (xs ++ n ∷ []) j ≡ Some y
    → (slice_get xs i ≡ Some x) × ((slice_get xs j ≡ Some y) ⊎ ((j ≡ length xs) × (n ≡ y)))
pushed_two xs n i j x y lt a b = (by_first (get_pushed xs n i x a), get_pushed xs n j y b) where
  -- the places of elements are below the length of the list with one element more
  within : j < length xs + 1
  within = omega (arith, slice_get_within (xs ++ n ∷ []) j y b, length_push xs n)

  -- i was a place before: it isn't the last one, because j is after it
  by_first : (slice_get xs i ≡ Some x) ⊎ ((i ≡ length xs) × (n ≡ x)) → slice_get xs i ≡ Some x
  by_first (inl first) = first
  by_first (inr last) = absurd (omega (arith, last.0, lt, within))

-- What was executed.

-- nothing was executed since the last start, or nothing at all
abbrev pub IsIdle : (executed starts : List ℕ) → Type 0
IsIdle executed starts = (executed ≡ []) ⊎ ((earlier : List ℕ) × (starts ≡ earlier ++ length executed ∷ []))

-- request n was sent, and isn't one that `knows` names
abbrev pub IsUnknown : (Asked → Bool) → List Sent → ℕ → Type 0
IsUnknown knows sent n = (r : Sent) × (slice_get sent n ≡ Some r) × (knows r.call ≡ false)

-- a request that isn't known stays so where more are sent
pub unknown_more : (knows : Asked → Bool) (sent more : List Sent) (n : ℕ) → IsUnknown knows sent n → IsUnknown knows (sent ++ more) n
unknown_more knows sent more n h = (h.0, get_more sent more n h.0 h.1, h.2)

-- a request that is known isn't `IsUnknown`
pub known_not_unknown : (knows : Asked → Bool) (sent : List Sent) (n : ℕ) (r : Sent) → slice_get sent n ≡ Some r → knows r.call ≡ true → IsUnknown knows sent n → ⊥
known_not_unknown knows sent n r found known h =
    true≢false (sym known ∙ ap (λ (x : Sent). knows x.call) (same_Some r h.0 (sym found ∙ h.1)) ∙ h.2)

-- what an instrument did so far, and the reply that it keeps, if any: the requests that were sent, those that it executed, in
-- order, and for each of its starts how many executions came before it
pub record Log : Type 0 where
  pub sent : List Sent
  pub executed : List ℕ
  pub starts : List ℕ
  pub retained : Option KeptReply

-- if nothing is kept, nothing was executed since the last start; and what is kept, if anything, has this id
pub record IsHeld (id : ℕ) (l : Log) : Type 0 where
  pub idle : l.retained ≡ None → IsIdle l.executed l.starts
  pub same : (r : KeptReply) → l.retained ≡ Some r → r.id ≡ id

-- of any two executions with no start between them, the later one is of a request that was sent later, or of one that isn't known
abbrev pub RiseUnlessUnknown : (Asked → Bool) → List Sent → (executed starts : List ℕ) → Type 0
RiseUnlessUnknown knows sent executed starts =
    (i j m n : ℕ) → i < j → HasNoStart starts i j → slice_get executed i ≡ Some m → slice_get executed j ≡ Some n → (m < n) ⊎ IsUnknown knows sent n

-- the request handed last, top - 1, isn't known, or `IsHeld` holds with its id, which is counted from `since`
abbrev pub IsLastUnknownOrHeld : (knows : Asked → Bool) (since top : ℕ) → Log → Type 0
IsLastUnknownOrHeld knows since top l = IsUnknown knows l.sent (top - 1) ⊎ IsHeld ((top - 1 - since) % 8) l

-- `RiseUnlessUnknown` holds of what was executed, and each number is below `top`; and of the request handed last, top - 1,
-- `IsLastUnknownOrHeld` holds
pub record IsClimbing (knows : Asked → Bool) (since top : ℕ) (l : Log) : Type 0 where
  pub once : RiseUnlessUnknown knows l.sent l.executed l.starts
  pub below : AllByRecursion (λ n. n < top) l.executed
  pub last : IsLastUnknownOrHeld knows since top l

-- what was executed is in order, and each number is below `top`
pub record IsOrdered (top : ℕ) (executed : List ℕ) : Type 0 where
  pub order : IsInOrder executed
  pub below : AllByRecursion (λ n. n < top) executed

-- in a list of at most one execution none comes after another
never_two : (executed : List ℕ) (j k n : ℕ) → length executed ≤ 1 → j < k → slice_get executed k ≡ Some n → ⊥
never_two executed j k n few lt b = let size : k < length executed = slice_get_within executed k n b in omega (arith, size, few, lt)

-- a list of at most one execution is in order
pub few_in_order : (executed : List ℕ) → length executed ≤ 1 → IsInOrder executed
few_in_order executed few j k m n lt a b = absurd (never_two executed j k n few lt b)

-- where each execution is of a request before `top`, each is of a request up to n, if n is at least `top` - 1
below_handed : (top n : ℕ) (executed : List ℕ) → top ≤ n + 1 → AllByRecursion (λ m. m < top) executed → AllByRecursion (λ m. m < n + 1) executed
below_handed top n executed le h = all_on (λ m. m < top) (λ m. m < n + 1) executed (λ m l. omega (arith, l, le)) h

-- where each execution is of a request before `top`, and then request n is executed: each is of a request up to n, if n is at
-- least `top` - 1
below_acted : (top n : ℕ) (executed : List ℕ) → top ≤ n + 1 → AllByRecursion (λ m. m < top) executed → AllByRecursion (λ m. m < n + 1) (executed ++ n ∷ [])
below_acted top n executed le h = all_append (λ m. m < n + 1) executed (n ∷ []) (below_handed top n executed le h) (omega arith, tt)

-- where request n is executed, and no later one was handed to the instrument before (`top`), `IsOrdered` is preserved, with n + 1
-- for `top`
pub ordered_acted : (top n : ℕ) (executed : List ℕ) → top ≤ n + 1 → IsOrdered top executed → IsOrdered (n + 1) (executed ++ n ∷ [])
ordered_acted top n executed le h =
    record {
      order = λ i j x y lt a b.
          let two = pushed_two executed n i j x y lt a b in
          elim two.1 [
            | inl old ↦ h.order i j x y lt two.0 old
            | inr new ↦ subst (λ z. x ≤ z) new.1 (let l : x < top = all_at (λ m. m < top) executed i x h.below two.0 in omega (arith, l, le))
          ];
      below = below_acted top n executed le h.below;
    }

-- where request n is handed to the instrument and isn't executed, and no later one was handed before (`top`), `IsOrdered` is
-- preserved, with n + 1 for `top`
pub ordered_handed : (top n : ℕ) (executed : List ℕ) → top ≤ n + 1 → IsOrdered top executed → IsOrdered (n + 1) executed
ordered_handed top n executed le h = record { order = h.order; below = below_handed top n executed le h.below }

-- `IsOrdered` holds, with 1 for `top`, once request 0 reached the instrument, executed or not (`acted`), if nothing was executed
-- before
pub ordered_first : (n : ℕ) (executed : List ℕ) (acted : Bool) → executed ≡ [] → n ≡ 0 → IsOrdered 1 (cond acted (executed ++ n ∷ []) executed)
ordered_first n executed acted none nought = subst (λ l. IsOrdered 1 (cond acted (l ++ n ∷ []) l)) (sym none) (chosen acted) where
  -- the lemma above, by whether the request was executed (`acted`)
  chosen : (acted : Bool) → IsOrdered 1 (cond acted (n ∷ []) [])
  chosen true = record { order = few_in_order (n ∷ []) (omega arith); below = (omega (arith, nought), tt) }
  chosen false = record { order = few_in_order [] (omega arith); below = tt }

-- `RiseUnlessUnknown` holds of a list of at most one execution
pub few_rise : (knows : Asked → Bool) (sent : List Sent) (executed starts : List ℕ) → length executed ≤ 1 → RiseUnlessUnknown knows sent executed starts
few_rise knows sent executed starts few i j m n lt run a b = absurd (never_two executed i j n few lt b)

-- where `RiseUnlessUnknown` holds, `ExecutesOnce` holds
pub executes_once_if_rising : (knows : Asked → Bool) (sent : List Sent) (executed starts : List ℕ) → RiseUnlessUnknown knows sent executed starts → ExecutesOnce knows sent executed starts
executes_once_if_rising knows sent executed starts once i j m n r lt run a b found known =
    elim (once i j m n lt run a b) [
      | inl l ↦ l
      | inr u ↦ absurd (known_not_unknown knows sent n r found known u)
    ]

-- `IsClimbing` is preserved where more requests are sent
pub climbing_sent : (knows : Asked → Bool) (since top : ℕ) (l : Log) (more : List Sent) → IsClimbing knows since top l → IsClimbing knows since top (record l { sent = l.sent ++ more })
climbing_sent knows since top l more h =
    record {
      once = λ i j m n lt run a b. elim (h.once i j m n lt run a b) [
        | inl low ↦ inl low
        | inr u ↦ inr (unknown_more knows l.sent more n u)
      ];
      below = h.below;
      last = elim h.last [
        | inl u ↦ inl (unknown_more knows l.sent more (top - 1) u)
        | inr g ↦ inr (record { idle = g.idle; same = g.same })
      ];
    }

-- where the instrument keeps what it kept (`k`), or nothing, what holds of the kept reply, if there was one, holds of
-- the one that it keeps then (`after`), if any
pub still_retained : (Q : KeptReply → Type 0) (k after : Option KeptReply) → MayForget k after → ((r : KeptReply) → k ≡ Some r → Q r)
    → (r : KeptReply) → after ≡ Some r → Q r
still_retained Q k after (inl none) f r e = absurd (none-some r (sym none ∙ e))
still_retained Q k after (inr same) f r e = f r (sym same ∙ e)

-- `IsClimbing` is preserved by a start of the instrument, which then keeps what it kept, or nothing (`after`)
pub climbing_started : (knows : Asked → Bool) (since top : ℕ) (l : Log) (after : Option KeptReply) → MayForget l.retained after
    → IsClimbing knows since top l → IsClimbing knows since top (record l { starts = l.starts ++ length l.executed ∷ []; retained = after })
climbing_started knows since top l after now h =
    record {
      once = λ i j m n lt run a b. h.once i j m n lt (all_front (λ s. (s ≤ i) ⊎ (j < s)) l.starts (length l.executed ∷ []) run) a b;
      below = h.below;
      last = elim h.last [
        | inl u ↦ inl u
        | inr g ↦ inr (record { idle = λ e. inr (l.starts, refl); same = still_retained (λ (r : KeptReply). r.id ≡ (top - 1 - since) % 8) l.retained after now g.same })
      ];
    }

-- request n isn't known; or a reply with its id, which is counted from `since`, is kept
abbrev pub IsUnknownOrRetained : (knows : Asked → Bool) (sent : List Sent) (since n : ℕ) → Option KeptReply → Type 0
IsUnknownOrRetained knows sent since n after = IsUnknown knows sent n ⊎ ((r : KeptReply) × (after ≡ Some r) × (r.id ≡ (n + 1 - 1 - since) % 8))

-- `IsUnknownOrRetained` gives `IsLastUnknownOrHeld`, where request n was handed last
pub last_unknown_or_held : (knows : Asked → Bool) (since n : ℕ) (l : Log) → IsUnknownOrRetained knows l.sent since n l.retained → IsLastUnknownOrHeld knows since (n + 1) l
last_unknown_or_held knows since n l (inl u) =
    let back : n ≡ n + 1 - 1 = omega arith in
    inl (subst (λ i. IsUnknown knows l.sent i) back u)
last_unknown_or_held knows since n l (inr kept) =
    inr (record {
      idle = λ none. absurd (none-some kept.0 (sym none ∙ kept.1));
      same = λ y e. ap (λ (x : KeptReply). x.id) (sym (same_Some kept.0 y (sym kept.1 ∙ e))) ∙ kept.2;
    })

-- where request n is handed to the instrument and isn't executed, and no later one was handed before (`top`), `IsClimbing` is
-- preserved, with n + 1 for `top`, if n isn't known, or a reply with its id is kept then (`after`)
pub climbing_handed : (knows : Asked → Bool) (since top n : ℕ) (l : Log) (after : Option KeptReply) → top ≤ n + 1 → IsUnknownOrRetained knows l.sent since n after
    → IsClimbing knows since top l → IsClimbing knows since (n + 1) (record l { retained = after })
climbing_handed knows since top n l after le why h =
    record {
      once = h.once;
      below = below_handed top n l.executed le h.below;
      last = last_unknown_or_held knows since n (record l { retained = after }) why;
    }

-- if nothing was executed since the last start, an execution, at place j, and the next one to come, at place k, have a start
-- between them
never_idle : (executed starts : List ℕ) (j k m : ℕ) → IsIdle executed starts → HasNoStart starts j k → slice_get executed j ≡ Some m → k ≡ length executed → ⊥
never_idle executed starts j k m (inl none) run a e = none-some m (subst (λ l. slice_get l j ≡ Some m) none a)
never_idle executed starts j k m (inr h) run a e =
    let size : j < length executed = slice_get_within executed j m a in
    elim (all_behind (λ s. (s ≤ j) ⊎ (k < s)) h.0 (length executed ∷ []) (subst (λ l. HasNoStart l j k) h.1 run)).0 [
      | inl l ↦ omega (arith, l, size)
      | inr l ↦ omega (arith, l, e)
    ]

-- where request n is executed, and no later one was handed before (`top`), `IsClimbing` is preserved, with n + 1 for `top`, if
-- two things hold: n isn't known, or nothing was executed since the last start, or n is later than all that were handed before;
-- and n isn't known, or a reply with its id is kept then (`after`)
pub climbing_acted : (knows : Asked → Bool) (since top n : ℕ) (l : Log) (after : Option KeptReply) → top ≤ n + 1
    → IsUnknown knows l.sent n ⊎ (IsIdle l.executed l.starts ⊎ (top ≤ n)) → IsUnknownOrRetained knows l.sent since n after
    → IsClimbing knows since top l → IsClimbing knows since (n + 1) (record l { executed = l.executed ++ n ∷ []; retained = after })
climbing_acted knows since top n l after le why retained h =
    record {
      once = λ i j x y lt run a b.
          let two = pushed_two l.executed n i j x y lt a b in
          elim two.1 [
            | inl old ↦ h.once i j x y lt run two.0 old
            | inr new ↦ subst (λ z. (x < z) ⊎ IsUnknown knows l.sent z) new.1 (later i j x run two.0 new.0 why)
          ];
      below = below_acted top n l.executed le h.below;
      last = last_unknown_or_held knows since n (record l { executed = l.executed ++ n ∷ []; retained = after }) retained;
    }
  where
    -- an earlier execution, at place i, with no start between it and the execution of request n, at place j, is of a request
    -- before n, or n isn't known
    later : (i j x : ℕ) → HasNoStart l.starts i j → slice_get l.executed i ≡ Some x → j ≡ length l.executed
        → IsUnknown knows l.sent n ⊎ (IsIdle l.executed l.starts ⊎ (top ≤ n)) → (x < n) ⊎ IsUnknown knows l.sent n
    later i j x run first e (inl u) = inr u
    later i j x run first e (inr (inl idle)) = absurd (never_idle l.executed l.starts i j x idle run first e)
    later i j x run first e (inr (inr above)) = let low : x < top = all_at (λ m. m < top) l.executed i x h.below first in inl (omega (arith, low, above))

-- where `IsClimbing` holds, request n is known and has the id n - `since` modulo 8, no later one was handed before, and the
-- instrument keeps no reply with that id: nothing was executed since the last start, or n is later than all that the instrument
-- was handed
pub idle_or_latest_if_executed : (knows : Asked → Bool) (since top n id : ℕ) (l : Log) → (IsUnknown knows l.sent n → ⊥) → id ≡ (n - since) % 8 → top ≤ n + 1
    → ((line : List ℕ) → l.retained ≡ Some (record { id = id; line = line }) → ⊥) → IsClimbing knows since top l → IsIdle l.executed l.starts ⊎ (top ≤ n)
idle_or_latest_if_executed knows since top n id l known mine le other h = chosen (ltb n top) refl where
  -- where `IsHeld` holds with the id of the request handed last, and that is request n, nothing is kept, so nothing was
  -- executed since the last start
  again : top - 1 ≡ n → (o : Option KeptReply) → l.retained ≡ o → IsHeld ((top - 1 - since) % 8) l → IsIdle l.executed l.starts
  again last None e g = g.idle e
  again last (Some r) e g =
      let same : r.id ≡ id = g.same r e ∙ ap (λ i. (i - since) % 8) last ∙ sym mine in
      absurd (other r.line (e ∙ ap (λ i. Some (record { id = i; line = r.line })) same))

  -- the lemma above, by whether n is below `top` (`b`)
  chosen : (b : Bool) → ltb n top ≡ b → IsIdle l.executed l.starts ⊎ (top ≤ n)
  chosen false t = inr (ltb-false n top t)
  chosen true t =
      let low : n < top = ltb-true n top t in
      let last : top - 1 ≡ n = omega (arith, low, le) in
      elim h.last [
        | inl u ↦ absurd (known (subst (λ i. IsUnknown knows l.sent i) last u))
        | inr g ↦ inl (again last l.retained refl g)
      ]

-- `IsClimbing` holds, with 1 for `top`, once request 0 (`n`) reached the instrument, executed or not (`acted`), if nothing was
-- executed before, and that request isn't known, or a reply with its id is kept then (`after`)
pub climbing_first : (knows : Asked → Bool) (since n : ℕ) (l : Log) (acted : Bool) (after : Option KeptReply) → l.executed ≡ [] → n ≡ 0
    → IsUnknownOrRetained knows l.sent since n after
    → IsClimbing knows since 1 (record l { executed = cond acted (l.executed ++ n ∷ []) l.executed; retained = after })
climbing_first knows since n l acted after none nought why =
    record {
      once = few_rise knows l.sent (cond acted (l.executed ++ n ∷ []) l.executed) l.starts (few acted);
      below = low acted;
      last = subst (λ m. IsLastUnknownOrHeld knows since m by_then) one (last_unknown_or_held knows since n by_then why);
    }
  where
    -- what the instrument did by then
    by_then : Log
    by_then = record l { executed = cond acted (l.executed ++ n ∷ []) l.executed; retained = after }

    -- the request handed last has the number 0
    one : n + 1 ≡ 1
    one = omega (arith, nought)

    -- at most one request was executed, whether this one was (`acted`) or not
    few : (acted : Bool) → length (cond acted (l.executed ++ n ∷ []) l.executed) ≤ 1
    few true = subst (λ e. length (e ++ n ∷ []) ≤ 1) (sym none) (omega arith)
    few false = subst (λ e. length e ≤ 1) (sym none) (omega arith)

    -- each execution is of a request below 1
    low : (acted : Bool) → AllByRecursion (λ m. m < 1) (cond acted (l.executed ++ n ∷ []) l.executed)
    low true = subst (λ e. AllByRecursion (λ m. m < 1) (e ++ n ∷ [])) (sym none) (omega (arith, nought), tt)
    low false = subst (λ e. AllByRecursion (λ m. m < 1) e) (sym none) tt
