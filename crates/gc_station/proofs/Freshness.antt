-- The watched commands of a run: how they change in place, which was answered well the longest ago, and what becomes of each.
use Rattle.gc_station.proofs.Common.{◌≡◌, ◌≤◌, ◌<◌, ◌+◌, ◌==◌, ◌&&◌, ◌⊎◌, inl, inr, ℕ, zero, suc, nat_lt, if◌then◌else◌, Bool, true, false, List, [], ◌∷◌, ◌++◌, take, drop, length, map, get_or, slice_set, Option, Some, None, refl, sym, ap, ◌∙◌, subst, append-nil, arith, AllByRecursion, map-id, map-append, take_more, flat_map-append, ltb-true, nat_tests, min-eq_left, min-le_right, End, Task, all_among, Watch, ended_confirmed, watched_at, watched_in, unanswered, renews, renewed_if, renewed, cut_to, older, oldest_from, oldest, fresh_in, fresh_of}

-- Lists whose items are changed in place.

-- these items, of which the first i are changed by f
abbrev pub first_mapped : {X : Type 0} → (X → X) → (i : ℕ) → List X → List X
first_mapped f i xs = map f (take i xs) ++ drop i xs

-- where the first i items are changed by f, and the next one is, too, the first i + 1 are
first_mapped_grows : {X : Type 0} (f : X → X) (xs : List X) (i : ℕ) (d : X) → i < length xs
    → slice_set (first_mapped f i xs) i (f (get_or (first_mapped f i xs) i d)) ≡ first_mapped f (suc i) xs
first_mapped_grows f [] zero d below = absurd (omega (arith, below))
first_mapped_grows f [] (suc i) d below = absurd (omega (arith, below))
first_mapped_grows f (x ∷ xs) zero d below = refl
first_mapped_grows f (x ∷ xs) (suc i) d below = let low : i < length xs = omega (arith, below) in ap (λ ys. f x ∷ ys) (first_mapped_grows f xs i d low)

-- the same, where `now` are the items, and `new` is the next one, changed by f
pub next_is_mapped : {X : Type 0} (f : X → X) (xs now : List X) (i : ℕ) (d new : X)
    → now ≡ first_mapped f i xs → i < length xs → new ≡ f (get_or now i d) → slice_set now i new ≡ first_mapped f (i + 1) xs
next_is_mapped f xs now i d new is below e =
    let one : suc i ≡ i + 1 = omega arith in
    ap (slice_set now i) e ∙ ap (λ ys. slice_set ys i (f (get_or ys i d))) is ∙ first_mapped_grows f xs i d below ∙ ap (λ n. first_mapped f n xs) one

-- What holds of all of a list.

-- what f makes of each item is so of all items that f changed
pub all_mapped : {X : Type 0} (P Q : X → Type 0) (f : X → X) → ((x : X) → P x → Q (f x)) → (xs : List X) → AllByRecursion P xs → AllByRecursion Q (map f xs)
all_mapped P Q f each [] all = tt
all_mapped P Q f each (x ∷ xs) all = (each x all.0, all_mapped P Q f each xs all.1)

-- The oldest.

-- the one of these that was answered well the longest ago is `found`, or among them
oldest_from_among : (found : Option Watch) (ws : List Watch) (w : Watch) → oldest_from found ws ≡ Some w
    → (found ≡ Some w) ⊎ ((front : List Watch) × (later : List Watch) × (ws ≡ front ++ w ∷ later))
oldest_from_among found [] w e = inl e
oldest_from_among found (x ∷ ws) w e = by_rest found (oldest_from_among (Some (older found x)) ws w e) where
  -- the lemma above, by what the others give
  by_rest : (found : Option Watch) → (Some (older found x) ≡ Some w) ⊎ ((front : List Watch) × (later : List Watch) × (ws ≡ front ++ w ∷ later))
      → (found ≡ Some w) ⊎ ((front : List Watch) × (later : List Watch) × (x ∷ ws ≡ front ++ w ∷ later))
  by_rest found (inr (front, later, are)) = inr (x ∷ front, later, ap (λ ys. x ∷ ys) are)
  by_rest None (inl is) = let same : x ≡ w = cc in inr ([], ws, ap (λ y. y ∷ ws) same)
  by_rest (Some f) (inl is) = by_older (nat_lt x.fresh f.fresh) is where
    -- the same, by whether the first of them was answered well longer ago than `f`
    by_older : (b : Bool) → Some (if b then x else f) ≡ Some w → (Some f ≡ Some w) ⊎ ((front : List Watch) × (later : List Watch) × (x ∷ ws ≡ front ++ w ∷ later))
    by_older true is = let same : x ≡ w = cc in inr ([], ws, ap (λ y. y ∷ ws) same)
    by_older false is = inl is

-- the one that was answered well the longest ago is among them
pub oldest_among : (ws : List Watch) (w : Watch) → oldest ws ≡ Some w → (front : List Watch) × (later : List Watch) × (ws ≡ front ++ w ∷ later)
oldest_among ws w e = by_found (oldest_from_among None ws w e) where
  -- the lemma above: none was found before
  by_found : (None ≡ Some w) ⊎ ((front : List Watch) × (later : List Watch) × (ws ≡ front ++ w ∷ later))
      → (front : List Watch) × (later : List Watch) × (ws ≡ front ++ w ∷ later)
  by_found (inl none) = cc
  by_found (inr among) = among

-- the one of these and one more
oldest_snoc : (found : Option Watch) (ws : List Watch) (w : Watch) → oldest_from found (ws ++ w ∷ []) ≡ Some (older (oldest_from found ws) w)
oldest_snoc found [] w = refl
oldest_snoc found (x ∷ ws) w = oldest_snoc (Some (older found x)) ws w

-- if `found` is the one of the first i that was answered well the longest ago, and `next` the older of it and the next one, `next` is
-- that of the first i + 1
pub oldest_more : (ws : List Watch) (i : ℕ) (d next : Watch) (found : Option Watch) → i < length ws
    → found ≡ oldest (take i ws) → next ≡ older found (get_or ws i d) → Some next ≡ oldest (take (i + 1) ws)
oldest_more ws i d next found below so e =
    ap Some e ∙ ap (λ o. Some (older o (get_or ws i d))) so ∙ sym (oldest_snoc None (take i ws) (get_or ws i d)) ∙ ap oldest (sym (take_more ws i d below))

-- a watched command that was answered well longest ago of `found` and these others: none of them was longer ago
record IsOldest (found : Watch) (ws : List Watch) : Type 0 where
  one : Watch
  is : oldest_from (Some found) ws ≡ Some one
  below : one.fresh ≤ found.fresh
  all : AllByRecursion (λ w. one.fresh ≤ w.fresh) ws

-- there is one
is_oldest : (found : Watch) (ws : List Watch) → IsOldest found ws
is_oldest found [] = record { one = found; is = refl; below = omega arith; all = tt }
is_oldest found (x ∷ ws) = by_older (nat_lt x.fresh found.fresh) refl (is_oldest x ws) (is_oldest found ws) where
  -- the lemma above, by whether the first of them was answered well longer ago than `found`
  by_older : (b : Bool) → nat_lt x.fresh found.fresh ≡ b → IsOldest x ws → IsOldest found ws → IsOldest found (x ∷ ws)
  by_older true e more other =
      let lower = ltb-true x.fresh found.fresh e in
      record {
        one = more.one;
        is = ap (λ b. oldest_from (Some (if b then x else found)) ws) e ∙ more.is;
        below = omega (arith, lower, more.below);
        all = (more.below, more.all);
      }
  by_older false e other more =
      let lower : found.fresh ≤ x.fresh = grind (arith, nat_tests, e) in
      record {
        one = more.one;
        is = ap (λ b. oldest_from (Some (if b then x else found)) ws) e ∙ more.is;
        below = more.below;
        all = (omega (arith, lower, more.below), more.all);
      }

-- where something is watched, a run may become stale from a moment on that is no later than that of any watched command
pub fresh_below : (moment : ℕ) (front : List Watch) (w : Watch) (later : List Watch) → fresh_of moment (front ++ w ∷ later) ≤ w.fresh
fresh_below moment [] w later =
    let least = is_oldest w later in
    subst (λ (o : Option Watch). fresh_in o moment ≤ w.fresh) (sym least.is) least.below
fresh_below moment (x ∷ front) w later =
    let least = is_oldest x (front ++ w ∷ later) in
    subst (λ (o : Option Watch). fresh_in o moment ≤ w.fresh) (sym least.is) (all_among (λ (v : Watch). least.one.fresh ≤ v.fresh) front w later least.all)

-- Records.

-- a watched command that may be renewed keeps its place
pub renewed_place : (is : Bool) (now utc : ℕ) (w : Watch) → (renewed_if is now utc w).place ≡ w.place
renewed_place true now utc w = refl
renewed_place false now utc w = refl

-- the record of a command without a confirmed answer renews no watched command
pub unwell_renews_none : (cycle place : ℕ) (end : End) (watched : ℕ) → ended_confirmed end ≡ false → renews cycle place end watched ≡ false
unwell_renews_none cycle place end watched unwell = ap (λ b. b && (nat_lt 0 cycle && (watched == place))) unwell

-- so it changes none
pub unwell_changes_none : (now utc cycle place : ℕ) (end : End) (ws : List Watch) → ended_confirmed end ≡ false → map (renewed now utc cycle place end) ws ≡ ws
unwell_changes_none now utc cycle place end ws unwell =
    ap (λ b. map (λ (w : Watch). renewed_if (b && (nat_lt 0 cycle && (w.place == place))) now utc w) ws) unwell ∙ map-id ws

-- a command with a confirmed answer, in a cycle, renews each watched command with its place
pub well_renews_each : (now utc cycle place : ℕ) (end : End) (ws : List Watch) → (ended_confirmed end && nat_lt 0 cycle) ≡ true
    → map (λ (w : Watch). renewed_if (w.place == place) now utc w) ws ≡ map (renewed now utc cycle place end) ws
well_renews_each now utc cycle place end ws well = by_parts (ended_confirmed end) (nat_lt 0 cycle) well where
  -- the lemma above, by whether the command has a confirmed answer, and in a cycle
  by_parts : (b c : Bool) → (b && c) ≡ true
      → map (λ (w : Watch). renewed_if (w.place == place) now utc w) ws ≡ map (λ (w : Watch). renewed_if (b && (c && (w.place == place))) now utc w) ws
  by_parts true true e = refl
  by_parts true false e = cc
  by_parts false c e = cc

-- any other renews none
pub other_renews_none : (now utc cycle place : ℕ) (end : End) (ws : List Watch) → (ended_confirmed end && nat_lt 0 cycle) ≡ false → ws ≡ map (renewed now utc cycle place end) ws
other_renews_none now utc cycle place end ws unwell = by_parts (ended_confirmed end) (nat_lt 0 cycle) unwell where
  -- the lemma above, by whether the command has a confirmed answer, and in a cycle
  by_parts : (b c : Bool) → (b && c) ≡ false → ws ≡ map (λ (w : Watch). renewed_if (b && (c && (w.place == place))) now utc w) ws
  by_parts true true e = cc
  by_parts true false e = sym (map-id ws)
  by_parts false c e = sym (map-id ws)

-- none of these was answered well after `newest`
abbrev pub NoneNewer : (newest : ℕ) → List Watch → Type 0
NoneNewer newest ws = AllByRecursion (λ w. w.fresh ≤ newest) ws

-- if some of these are renewed at the moment `now`, none was answered well after that and `newest`
pub none_newer_renewed : (newest more now utc place : ℕ) (ws : List Watch) → newest ≤ more → now ≤ more → NoneNewer newest ws
    → NoneNewer more (map (λ (w : Watch). renewed_if (w.place == place) now utc w) ws)
none_newer_renewed newest more now utc place ws low new all =
    all_mapped (λ (w : Watch). w.fresh ≤ newest) (λ (w : Watch). w.fresh ≤ more) (λ (w : Watch). renewed_if (w.place == place) now utc w)
    (λ w before. by_place w before (w.place == place)) ws all where
      -- the lemma above for one of them, by whether it is renewed
      by_place : (w : Watch) → w.fresh ≤ newest → (b : Bool) → (renewed_if b now utc w).fresh ≤ more
      by_place w before true = new
      by_place w before false = omega (arith, before, low)

-- before its first answer no watched command was answered well after the moment 0
pub none_newer_begun : (places : List ℕ) → NoneNewer 0 (map unanswered places)
none_newer_begun [] = tt
none_newer_begun (p ∷ places) = (omega arith, none_newer_begun places)

-- cut to a moment, none was answered well after that
pub none_newer_cut : (now : ℕ) (ws : List Watch) → NoneNewer now (map (cut_to now) ws)
none_newer_cut now [] = tt
none_newer_cut now (w ∷ ws) = (min-le_right w.fresh now, none_newer_cut now ws)

-- where none was answered well after a moment, to cut them to a later one changes nothing
pub cut_changes_none : (newest now : ℕ) (ws : List Watch) → newest ≤ now → NoneNewer newest ws → ws ≡ map (cut_to now) ws
cut_changes_none newest now [] low all = refl
cut_changes_none newest now (w ∷ ws) low all =
    let below : w.fresh ≤ now = omega (arith, all.0, low) in
    ap (λ n. record w { fresh = n } ∷ ws) (sym (min-eq_left below)) ∙ ap (λ vs. cut_to now w ∷ vs) (cut_changes_none newest now ws low all.1)

-- The tasks.

-- the watched ones of one more task
pub watched_more : (tasks : List Task) (i : ℕ) (task : Task) → i < length tasks → task ≡ get_or tasks i task
    → watched_in (take (i + 1) tasks) ≡ watched_in (take i tasks) ++ watched_at task
watched_more tasks i task below is =
    ap watched_in (take_more tasks i task below ∙ ap (λ t. take i tasks ++ t ∷ []) (sym is)) ∙ flat_map-append watched_at (take i tasks) (task ∷ [])
    ∙ ap (λ ps. watched_in (take i tasks) ++ ps) (append-nil (watched_at task))

-- if `old` are the watched commands of the first i tasks, before their first answer, and `new` those and that of the next one, `new` are
-- those of the first i + 1
pub watches_more : (tasks : List Task) (i : ℕ) (task : Task) (old new : List Watch) → i < length tasks → task ≡ get_or tasks i task
    → old ≡ map unanswered (watched_in (take i tasks)) → new ≡ old ++ map unanswered (watched_at task) → new ≡ map unanswered (watched_in (take (i + 1) tasks))
watches_more tasks i task old new below is so e =
    e ∙ ap (λ ws. ws ++ map unanswered (watched_at task)) so ∙ sym (map-append unanswered (watched_in (take i tasks)) (watched_at task))
    ∙ ap (map unanswered) (sym (watched_more tasks i task below is))
