-- Where targets are, as lines of a text say it, and what follows for the tasks of a target and for an answer.
use Rattle.gc_texts.proofs.Common.{◌≡◌, ℕ, zero, suc, ◌+◌, take, drop, ◌<◌, get_or, slice_set, arith, ◌==◌, ◌&&◌, ◌||◌, ◌⊎◌, inl, inr, not, nat_le, nat_lt, List, [], ◌∷◌, ◌++◌, length, map, Option, Some, None, Bool, true, false, cond, refl, sym, ap, ◌∙◌, subst, append_assoc, append-nil, eq-eqb, eqb-true, lt-leb, leb-false, and_parts, and_right, and_cases, or_parts, or_cases, not-true, not-false, both_ways, or-true, flat_map-append, Answer, is_within, is_near, Decimal, Direction, cons_head, cons_tail, PlacesHoldForAll, UnwatchedHoldForAll, has_near, near_of, direction_of, distance_of, is_away, is_out_of_range, is_off_target, IsThere, IsInAnotherDirection, IsAtAnotherDistance, IsAway, described_at, no_standing, standing_by, first_mode, tasks_of, name_at, near_at, nears_of, unwatched_at, unwatched_of, placed, MayFollow, is_unwatched, Description, Name, Near, Standing, Range, TaskLine, Task}
use Rattle.gc_values.proofs.NearLemmas.{near_is_within}
use Rattle.gc_values.proofs.WithinLemmas.{is_within_exactly}
use Rattle.gc_texts.specs.declared.task_line.TaskLine.TheVariants as says

-- where lines may follow these names and places, and one of them says where a target is, neither `nears` nor a line before it
-- says where that target is
no_place_before : (names : List Name) (nears : List Near) (unwatched : List ℕ) (described : List Description) (s : Standing) (front later : List TaskLine) (near : Near)
    → MayFollow names nears unwatched described s (front ++ says.Locating near ∷ later)
    → has_near near.target (nears ++ nears_of front) ≡ false
no_place_before names nears unwatched described s [] later near follow =
    ap (has_near near.target) (append-nil nears) ∙ not-true (has_near near.target nears) (and_parts (nat_lt (length nears) 64) (not (has_near near.target nears)) follow.0.follows).1
no_place_before names nears unwatched described s (line ∷ front) later near follow =
    ap (has_near near.target) (sym (append_assoc nears (near_at line) (nears_of front))) ∙ no_place_before (names ++ name_at line) (nears ++ near_at line) (unwatched ++ unwatched_at line) (described ++ described_at line) (standing_by s line) front later near follow.1

-- where none of `nears` is of the target of `near`, the place that is found of this target in `nears`, then
-- `near`, then others, is `near`
found_near : (nears others : List Near) (near : Near) → has_near near.target nears ≡ false → near_of near.target (nears ++ near ∷ others) ≡ Some near
found_near [] others near none = ap (λ b. cond b (Some near) (near_of near.target others)) (eq-eqb near.target near.target refl)
found_near (n ∷ nears) others near none =
    let apart = or_parts (n.target == near.target) (has_near near.target nears) none in
    ap (λ b. cond b (Some n) (near_of near.target (nears ++ near ∷ others))) apart.0 ∙ found_near nears others near apart.1

-- once all tasks were given their places, each has the place of its target, if there is one
each_has_its_place : (nears : List Near) (unwatched : List ℕ) (described : List Description) (tasks earlier others : List Task) (task : Task)
    → map (placed nears unwatched described) tasks ≡ earlier ++ task ∷ others → task.near ≡ near_of task.command.target nears
each_has_its_place nears unwatched described [] [] others task e = cc
each_has_its_place nears unwatched described [] (t ∷ ts) others task e = cc
each_has_its_place nears unwatched described (t ∷ tasks) [] others task e =
    let same = cons_head (placed nears unwatched described t) task (map (placed nears unwatched described) tasks) others e in
    ap (λ (u : Task). u.near) (sym same) ∙ ap (λ (u : Task). near_of u.command.target nears) same
each_has_its_place nears unwatched described (t ∷ tasks) (u ∷ earlier) others task e =
    each_has_its_place nears unwatched described tasks earlier others task (cons_tail (placed nears unwatched described t) u (map (placed nears unwatched described) tasks) (earlier ++ task ∷ others) e)

-- the law: a place holds for all commands of its target
pub places_hold : PlacesHoldForAll
places_hold text deadline chained all is front later near at earlier others task among same =
    let follow : MayFollow [] [] [] [] no_standing (front ++ says.Locating near ∷ later) = subst (λ said. MayFollow [] [] [] [] no_standing said) at is.lines.follow in
    let places : all.nears ≡ nears_of front ++ near ∷ nears_of later = is.nears_are ∙ ap nears_of at ∙ flat_map-append near_at front (says.Locating near ∷ later) in
    each_has_its_place all.nears all.unwatched all.described (tasks_of (first_mode deadline chained) is.said) earlier others task (sym is.tasks_are ∙ among)
    ∙ ap (λ t. near_of t all.nears) same ∙ ap (near_of near.target) places ∙ found_near (nears_of front) (nears_of later) near (no_place_before [] [] [] [] no_standing front later near follow)

-- where a text gives these tasks their places (`placed`), each of them is watched unless its target is one of `unwatched` or it hasn't its
-- turn in each cycle
each_is_watched : (nears : List Near) (unwatched : List ℕ) (described : List Description) (tasks earlier others : List Task) (task : Task)
    → map (placed nears unwatched described) tasks ≡ earlier ++ task ∷ others → task.watched ≡ (not (is_unwatched task.command.target unwatched) && nat_le task.every 1)
each_is_watched nears unwatched described [] [] others task e = cc
each_is_watched nears unwatched described [] (t ∷ ts) others task e = cc
each_is_watched nears unwatched described (t ∷ tasks) [] others task e =
    let same = cons_head (placed nears unwatched described t) task (map (placed nears unwatched described) tasks) others e in
    ap (λ (u : Task). u.watched) (sym same) ∙ ap (λ (u : Task). not (is_unwatched u.command.target unwatched) && nat_le u.every 1) same
each_is_watched nears unwatched described (t ∷ tasks) (u ∷ earlier) others task e =
    each_is_watched nears unwatched described tasks earlier others task (cons_tail (placed nears unwatched described t) u (map (placed nears unwatched described) tasks) (earlier ++ task ∷ others) e)

-- a target that is among others is one of them
is_among : (front later : List ℕ) (target : ℕ) → is_unwatched target (front ++ target ∷ later) ≡ true
is_among [] later target = ap (λ b. b || is_unwatched target later) (eq-eqb target target refl)
is_among (t ∷ front) later target = ap (λ b. (t == target) || b) (is_among front later target) ∙ or-true (t == target)

-- where these lines leave a target unwatched, one of them says so
unwatched_by_line : (said : List TaskLine) (target : ℕ) → is_unwatched target (unwatched_of said) ≡ true
    → (front : List TaskLine) × (later : List TaskLine) × (said ≡ front ++ says.Unwatching target ∷ later)
unwatched_by_line [] target is = let bad : false ≡ true = is in cc
unwatched_by_line (says.Unwatching t ∷ said) target is =
    by_target (or_cases (t == target) (is_unwatched target (unwatched_of said)) is) (λ more. unwatched_by_line said target more) where
      -- the lemma above, by whether the first line is of this target
      by_target : ((t == target) ≡ true) ⊎ (is_unwatched target (unwatched_of said) ≡ true)
          → (is_unwatched target (unwatched_of said) ≡ true → (front : List TaskLine) × (later : List TaskLine) × (said ≡ front ++ says.Unwatching target ∷ later))
          → (front : List TaskLine) × (later : List TaskLine) × (says.Unwatching t ∷ said ≡ front ++ says.Unwatching target ∷ later)
      by_target (inl same) others = ([], said, ap (λ n. says.Unwatching n ∷ said) (eqb-true t target same))
      by_target (inr more) others = let among = others more in (says.Unwatching t ∷ among.0, among.1, ap (λ l. says.Unwatching t ∷ l) among.2)
unwatched_by_line (line ∷ said) target is = let among = unwatched_by_line said target is in (line ∷ among.0, among.1, ap (λ l. line ∷ l) among.2)

-- the law: a target's tasks are unwatched where a line says so, before them or after them, and so are those that haven't their turn in each
-- cycle; all others are watched
pub unwatched_hold : UnwatchedHoldForAll
unwatched_hold text deadline chained all is earlier others task among =
    let watched = each_is_watched all.nears all.unwatched all.described (tasks_of (first_mode deadline chained) is.said) earlier others task (sym is.tasks_are ∙ among) in (
      λ front later at.
          let apart : all.unwatched ≡ unwatched_of front ++ task.command.target ∷ unwatched_of later =
          is.unwatched_are ∙ ap unwatched_of at ∙ flat_map-append unwatched_at front (says.Unwatching task.command.target ∷ later) in
          watched ∙ ap (λ us. not (is_unwatched task.command.target us) && nat_le task.every 1) apart
          ∙ ap (λ b. not b && nat_le task.every 1) (is_among (unwatched_of front) (unwatched_of later) task.command.target),
      λ many. watched ∙ and_right (not (is_unwatched task.command.target all.unwatched)) (nat_le task.every 1) (lt-leb task.every 1 many),
      λ isnt. by_which (and_cases (not (is_unwatched task.command.target all.unwatched)) (nat_le task.every 1) (sym watched ∙ isnt)),
    ) where
      -- the last claim, by which of the two conditions of a watched task doesn't hold
      by_which : (not (is_unwatched task.command.target all.unwatched) ≡ false) ⊎ (nat_le task.every 1 ≡ false)
          → (1 < task.every) ⊎ ((front : List TaskLine) × (later : List TaskLine) × (is.said ≡ front ++ says.Unwatching task.command.target ∷ later))
      by_which (inl apart) =
          inr (unwatched_by_line is.said task.command.target
          (ap (is_unwatched task.command.target) (sym is.unwatched_are) ∙ not-false (is_unwatched task.command.target all.unwatched) apart))
      by_which (inr many) = inl (leb-false task.every 1 many)

-- an answer that isn't off target is neither in another direction nor at another distance, as the tests of both say
not_off_target : (near : Near) (answer : Answer) → is_off_target (Some near) answer ≡ false
    → (is_away near (direction_of answer) ≡ false) × (is_out_of_range near.range (distance_of answer) ≡ false)
unfolding is_off_target
not_off_target near answer isnt = or_parts (is_away near (direction_of answer)) (is_out_of_range near.range (distance_of answer)) isnt

-- an answer that isn't off target was measured at its target, as far as it says where
pub there_unless_off_target : (near : Near) (answer : Answer) → is_off_target (Some near) answer ≡ false → IsThere near answer
there_unless_off_target near answer isnt =
    let both = not_off_target near answer isnt in
    record {
      direction = λ d has.
          (near_is_within d near.place near.tolerance).0 (not-false (is_near d near.place near.tolerance) (ap (is_away near) (sym has) ∙ both.0));
      distance = λ range d known has.
          (is_within_exactly d range.distance range.tolerance).0
          (not-false (is_within d range.distance range.tolerance)
          (ap (is_out_of_range (Some range)) (sym has) ∙ ap (λ r. is_out_of_range r (distance_of answer)) (sym known) ∙ both.1));
    }

-- the tasks, when the loop has given the first i of them their places, and the others none yet
abbrev pub first_placed : List Near → (unwatched : List ℕ) → List Description → (i : ℕ) → List Task → List Task
first_placed nears unwatched described i tasks = map (placed nears unwatched described) (take i tasks) ++ drop i tasks

-- where the first i tasks have their places, and task i is given its own, the first i + 1 have theirs
first_placed_grows : (nears : List Near) (unwatched : List ℕ) (described : List Description) (tasks : List Task) (i : ℕ) (d : Task) → i < length tasks
    → slice_set (first_placed nears unwatched described i tasks) i (placed nears unwatched described (get_or (first_placed nears unwatched described i tasks) i d)) ≡ first_placed nears unwatched described (suc i) tasks
first_placed_grows nears unwatched described [] zero d below = absurd (omega (arith, below))
first_placed_grows nears unwatched described [] (suc i) d below = absurd (omega (arith, below))
first_placed_grows nears unwatched described (x ∷ tasks) zero d below = refl
first_placed_grows nears unwatched described (x ∷ tasks) (suc i) d below = let low : i < length tasks = omega (arith, below) in ap (λ ts. placed nears unwatched described x ∷ ts) (first_placed_grows nears unwatched described tasks i d low)

-- where `now` is the tasks with the first i given their places, and task i of `now` is replaced by itself with its place, the
-- first i + 1 have theirs
pub next_is_placed : (nears : List Near) (unwatched : List ℕ) (described : List Description) (tasks now : List Task) (i : ℕ) (d new : Task)
    → now ≡ first_placed nears unwatched described i tasks → i < length tasks → new ≡ placed nears unwatched described (get_or now i d)
    → slice_set now i new ≡ first_placed nears unwatched described (i + 1) tasks
next_is_placed nears unwatched described tasks now i d new is below e =
    let one : suc i ≡ i + 1 = omega arith in
    ap (slice_set now i) e ∙ ap (λ ts. slice_set ts i (placed nears unwatched described (get_or ts i d))) is ∙ first_placed_grows nears unwatched described tasks i d below ∙ ap (λ n. first_placed nears unwatched described n tasks) one

-- a direction that isn't near the place of the target
away_by_direction : (near : Near) (answer : Answer) (o : Option Direction) → direction_of answer ≡ o → is_away near o ≡ true → IsInAnotherDirection near answer
away_by_direction near answer None has away = cc
away_by_direction near answer (Some d) has away =
    let isnt : is_near d near.place near.tolerance ≡ false = not-true (is_near d near.place near.tolerance) away in
    record { direction = d; toward = has; away = λ is. both_ways (is_near d near.place near.tolerance) isnt ((near_is_within d near.place near.tolerance).1 is) }

-- a distance that isn't within the tolerance of the target's
away_by_distance : (near : Near) (answer : Answer) (range : Option Range) (o : Option Decimal) → near.range ≡ range → distance_of answer ≡ o
    → is_out_of_range range o ≡ true → IsAtAnotherDistance near answer
away_by_distance near answer None o known has away = cc
away_by_distance near answer (Some range) None known has away = cc
away_by_distance near answer (Some range) (Some d) known has away =
    let isnt : is_within d range.distance range.tolerance ≡ false = not-true (is_within d range.distance range.tolerance) away in
    record {
      range = range;
      distance = d;
      known = known;
      measured = has;
      away = λ is. both_ways (is_within d range.distance range.tolerance) isnt ((is_within_exactly d range.distance range.tolerance).1 is);
    }

-- where an answer is off target, a place is known of its target, and the answer was measured away from it
pub off_target_has_place : (place : Option Near) (answer : Answer) → is_off_target place answer ≡ true
    → (near : Near) × (place ≡ Some near) × IsAway near answer
unfolding is_off_target
off_target_has_place None answer away = cc
off_target_has_place (Some near) answer away = (near, refl, by_test (is_away near (direction_of answer)) refl) where
  -- the answer was measured away from the target, by its direction or by its distance
  by_test : (b : Bool) → is_away near (direction_of answer) ≡ b → IsAway near answer
  by_test true is = inl (away_by_direction near answer (direction_of answer) refl is)
  by_test false is =
      inr (away_by_distance near answer near.range (distance_of answer) refl refl
      (ap (λ b. b || is_out_of_range near.range (distance_of answer)) (sym is) ∙ away))
