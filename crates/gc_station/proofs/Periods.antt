-- How long it is from the beginning of a cycle until the next one is due. By the clock it is a time to a moment that is `at` after a whole
-- multiple of `every`; and it is never more than two periods, so that a cycle that is out of time is followed by one that is due. An act
-- is one call on the link, with its result.
use Rattle.gc_station.proofs.Common.{◌≡◌, ◌⊎◌, inl, inr, ℕ, suc, ◌+◌, ◌*◌, ◌-◌, ◌/◌, ◌%◌, ◌<◌, ◌≤◌, ◌&&◌, Bool, true, false, not, if◌then◌else◌, is_some, List, min, nat_lt, nat_le, nat_eq, Option, Some, None, refl, sym, ap, ◌∙◌, subst, arith, mod-eq_of_lt, mod-lt, and_parts, cases_lt, cond-false, cond-true, cond_both, eq-eqb, le-leb, leb-false, leb-true, lt-ltb, ne_eqb, or_left, nat_tests, suc-mul, div-add-mod', mod-eq-sub-mod, Task, Act, Told, Moment, IsDueNext, later, is_due, is_asked_for, is_wanted, is_out_of_time, Model, opening, action_at, with_progress, moved, Runs, turned, due_at, due_of, cycle_start, next_period, regular_period, state_after, Scope, Plan, Action, Progress}
use Rattle.gc_station.specs.Periods.{past_multiple, period_by_clock, period_from}
use Rattle.gc_station.proofs.Always.{always_of_progress}
use Rattle.gc_station.proofs.Walk.{moved_changed}
use Rattle.gc_station.specs.declared.progress.Action.TheVariants as actions

-- The clock.

-- the remainder at N of a number below 2 N is the number itself if that is below N, and else N less
wraps_once : (N j : ℕ) → j < N + N → ((j < N) × (j % N ≡ j)) ⊎ ((N ≤ j) × (j % N ≡ j - N))
wraps_once N j below = by_case (cases_lt j N) where
  -- the lemma above, whether the number is below N
  by_case : (j < N) ⊎ (N ≤ j) → ((j < N) × (j % N ≡ j)) ⊎ ((N ≤ j) × (j % N ≡ j - N))
  by_case (inl low) = inl (low, mod-eq_of_lt low)
  by_case (inr high) = inr (high, mod-eq-sub-mod high ∙ mod-eq_of_lt (omega (arith, high, below)))

-- of a moment that is `part` after a whole multiple of `every` (`whole`), and of the offset `rest`, both below `every`: how long it is
-- after the last moment that is `rest` after a whole multiple (`past`), and of the time from there to the next but that a period
next_at : (whole part rest past every : ℕ) → part < every → rest < every
    → (((part + (every - rest) < every) × (past ≡ part + (every - rest))) ⊎ ((every ≤ part + (every - rest)) × (past ≡ (part + (every - rest)) - every)))
    → (past < every) × ((((whole + part) + (every - past) ≡ whole + rest)) ⊎ ((whole + part) + (every - past) ≡ (whole + every) + rest))
next_at whole part rest past every low below (inl (few, is)) = (omega (arith, is, few), inl (omega (arith, is, few, low, below)))
next_at whole part rest past every low below (inr (many, is)) = (omega (arith, is, many, low, below), inr (omega (arith, is, many, low, below)))

-- a moment that is a whole multiple of `every` and `rest` later, or a period after that
abbrev IsAtMultiple : (every rest moment : ℕ) → Type 0
IsAtMultiple every rest moment = (k : ℕ) × (moment ≡ k * every + rest)

-- with one period more it is one, too
one_more : (every rest moment : ℕ) → IsAtMultiple every rest moment → IsAtMultiple every rest (moment + every)
one_more every rest moment (k, e) = let more = suc-mul k every in (suc k, omega (arith, e, more))

-- what is claimed of the time to the next due moment, by the clock: it leads to such a moment, and is from half a period to one and a half
abbrev IsByClock : (every at utc period : ℕ) → Type 0
IsByClock every at utc period = IsAtMultiple every (at % every) (utc + period) × (every ≤ 2 * period) × (2 * period ≤ 3 * every)

-- where no sum reaches 2^64, the time to the next due moment is as the clock says
pub by_clock : (every at utc : ℕ) → 0 < every → 2 * every ≤ 18446744073709551615 → IsByClock every at utc (period_by_clock every at utc)
by_clock every at utc some small =
    cond_both (nat_le past (every - past)) (every - past) (later every (every - past)) (IsByClock every at utc)
    (λ e. let few = leb-true past (every - past) e in (to_next, omega (arith, few, low), omega (arith, few, low)))
    (λ e.
    let many = leb-false past (every - past) e in
    let sum : later every (every - past) ≡ (every - past) + every = omega (arith, small) in
    subst (IsByClock every at utc) (sym sum)
    (subst (IsAtMultiple every (at % every)) (omega arith) (one_more every (at % every) (utc + (every - past)) to_next), omega (arith, many, low), omega (arith, many, low))) where
      -- how long ago the last such moment was
      past : ℕ
      past = past_multiple every at utc

      -- the moment is so long after a whole multiple
      part : utc % every < every
      part = mod-lt utc some

      -- and such moments are so long after one
      rest : at % every < every
      rest = mod-lt at some

      -- no sum reaches 2^64
      plain : later (utc % every) (every - at % every) ≡ utc % every + (every - at % every)
      plain = omega (arith, part, rest, small)

      -- the sum is below two periods
      below : utc % every + (every - at % every) < every + every
      below = omega (arith, part, rest)

      -- the moment is a whole multiple, and the part behind it
      whole : utc / every * every + utc % every ≡ utc
      whole = div-add-mod' utc every

      -- how long it is after the last such moment, by the sum
      cases : ((utc % every + (every - at % every) < every) × (past ≡ utc % every + (every - at % every)))
          ⊎ ((every ≤ utc % every + (every - at % every)) × (past ≡ (utc % every + (every - at % every)) - every))
      cases = subst (λ (n : ℕ). ((utc % every + (every - at % every) < every) × (n % every ≡ utc % every + (every - at % every)))
          ⊎ ((every ≤ utc % every + (every - at % every)) × (n % every ≡ (utc % every + (every - at % every)) - every)))
          (sym plain) (wraps_once every (utc % every + (every - at % every)) below)

      -- where the time to the next one leads
      leads : (past < every)
          × (((utc / every * every + utc % every) + (every - past) ≡ utc / every * every + at % every) ⊎ ((utc / every * every + utc % every) + (every - past) ≡ (utc / every * every + every) + at % every))
      leads = next_at (utc / every * every) (utc % every) (at % every) past every part rest cases

      -- less than a period ago
      low : past < every
      low = leads.0

      -- the time to the next one leads to such a moment
      to_next : IsAtMultiple every (at % every) (utc + (every - past))
      to_next = by_way leads.1 where
        -- the lemma above, by which multiple it is
        by_way : (((utc / every * every + utc % every) + (every - past) ≡ utc / every * every + at % every) ⊎ ((utc / every * every + utc % every) + (every - past) ≡ (utc / every * every + every) + at % every))
            → IsAtMultiple every (at % every) (utc + (every - past))
        by_way (inl e) = (utc / every, ap (λ (n : ℕ). n + (every - past)) (sym whole) ∙ e)
        by_way (inr e) =
            let more = suc-mul (utc / every) every in
            (suc (utc / every), ap (λ (n : ℕ). n + (every - past)) (sym whole) ∙ e ∙ omega (arith, more))

-- by the clock or not, the next due moment is at most two periods later
period_small : (at : Option ℕ) (every utc : ℕ) → period_from at every utc ≤ 2 * every
period_small None every utc = omega arith
period_small (Some at) every utc =
    cond_both (nat_eq every 0) 0 (period_by_clock every at utc) (λ (n : ℕ). n ≤ 2 * every) (λ e. omega arith)
    (λ e. let past = past_multiple every at utc in
    cond_both (nat_le past (every - past)) (every - past) (later every (every - past)) (λ (n : ℕ). n ≤ 2 * every) (λ f. omega arith) (λ f. omega arith))

-- Runs.

-- the next due moment is at most two periods after the last cycle counts as begun
abbrev pub IsSoonDue : Plan → Progress → Type 0
IsSoonDue plan p = p.period ≤ 2 * plan.every

-- so it is after a cycle that begins
soon_begun : (plan : Plan) (m : Moment) (p : Progress) → IsSoonDue plan p → next_period plan m p ≤ 2 * plan.every
soon_begun plan m p soon =
    cond_both (not (is_due plan p) && nat_lt m.elapsed (due_at p)) (min p.period (due_at p - m.elapsed)) (regular_period plan m p) (λ (n : ℕ). n ≤ 2 * plan.every)
    (λ e. omega (arith, soon)) (λ e. period_small plan.at plan.every (due_of plan m p))

-- and after an act of each action
soon_moved : (plan : Plan) (commands : List Task) (o : Action) (s : Model) (act : Act) → IsSoonDue plan s.progress → IsSoonDue plan (moved plan commands o s act).progress
soon_moved plan commands actions.Begin s (Told m) soon = soon_begun plan m s.progress soon
soon_moved plan commands actions.Begin s act soon = soon
soon_moved plan commands o s act soon =
    let same = ap (λ (x : Model). x.progress.period) (moved_changed plan commands o s act) in omega (arith, same, soon)

-- so it is after every run
pub soon_due : (plan : Plan) (commands : List Task) (scope : Scope) (acts : List Act) → Runs plan commands (opening plan scope) acts
    → IsSoonDue plan (state_after plan commands scope acts).progress
soon_due plan commands scope acts runs =
    always_of_progress plan commands (opening plan scope) (λ (p : Progress) (done : List Act). IsSoonDue plan p)
    (λ done act runs' o h. let s = state_after plan commands scope done in soon_moved plan commands (action_at plan s) (with_progress turned s) act h) (omega arith) acts runs

-- a cycle that is out of time is followed by one that is due
pub due_if_out : (plan : Plan) (p : Progress) → IsSoonDue plan p → is_out_of_time plan p ≡ true → is_due plan p ≡ true
due_if_out plan p soon e =
    let late = and_parts (nat_lt 0 plan.every) (nat_le plan.every ((p.moment.elapsed - p.began) - plan.every)) e in
    let past = leb-true plan.every ((p.moment.elapsed - p.began) - plan.every) late.1 in
    cond_both (nat_eq p.left plan.cycles && not (is_some plan.at)) true (nat_le p.period (p.moment.elapsed - p.began)) (λ (b : Bool). b ≡ true) (λ f. refl)
    (λ f. le-leb p.period (p.moment.elapsed - p.began) (omega (arith, past, soon)))

-- and so by one that is wanted
pub wanted_if_out : (plan : Plan) (p : Progress) → IsSoonDue plan p → is_out_of_time plan p ≡ true → is_wanted plan p ≡ true
wanted_if_out plan p soon e = or_left (is_due plan p) (is_asked_for plan p) (due_if_out plan p soon e)

-- When the next cycle is due, once one begins.

module _ (plan : Plan) (m : Moment) (p : Progress) where
  -- the time to the next due moment, unless the cycle was asked for before it was due
  regular_if : (is_due plan p ≡ true) ⊎ (due_at p ≤ m.elapsed) → next_period plan m p ≡ period_from plan.at plan.every (due_of plan m p)
  regular_if (inl due) = ap (λ (b : Bool). if not b && nat_lt m.elapsed (due_at p) then min p.period (due_at p - m.elapsed) else regular_period plan m p) due
  regular_if (inr past) =
      cond-false (not (is_due plan p) && nat_lt m.elapsed (due_at p)) (min p.period (due_at p - m.elapsed)) (regular_period plan m p)
      (second_false (not (is_due plan p)) (nat_lt m.elapsed (due_at p)) (not_below m.elapsed (due_at p) past)) where
        -- one of two tests fails
        second_false : (a b : Bool) → b ≡ false → (a && b) ≡ false
        second_false a false e = by_first a where
          -- the lemma above, by the first test
          by_first : (a : Bool) → (a && false) ≡ false
          by_first true = refl
          by_first false = refl
        second_false a true e = cc

        -- a number that is as great isn't below
        not_below : (a b : ℕ) → b ≤ a → nat_lt a b ≡ false
        not_below a b le = grind (arith, nat_tests, le)

  -- the time to the next due moment where the cycle was asked for
  stays_if_asked_for : is_due plan p ≡ false → m.elapsed < due_at p → next_period plan m p ≡ min p.period (due_at p - m.elapsed)
  stays_if_asked_for early before =
      cond-true (not (is_due plan p) && nat_lt m.elapsed (due_at p)) (min p.period (due_at p - m.elapsed)) (regular_period plan m p)
      (ap (λ (b : Bool). not b && nat_lt m.elapsed (due_at p)) early ∙ lt-ltb m.elapsed (due_at p) before)

  -- a cycle after the first isn't due before its moment
  early_if_before : p.left < plan.cycles → m.elapsed < due_at p → p.began ≤ p.moment.elapsed → p.moment.elapsed ≤ m.elapsed → is_due plan p ≡ false
  early_if_before more before past rises =
      let apart : nat_eq p.left plan.cycles ≡ false = ne_eqb p.left plan.cycles (λ e. omega (arith, e, more)) in
      ap (λ (b : Bool). if b && not (is_some plan.at) then true else nat_le p.period (p.moment.elapsed - p.began)) apart
      ∙ not_past p.period (p.moment.elapsed - p.began) (omega (arith, before, past, rises)) where
        -- a number that is greater isn't at most the other
        not_past : (a b : ℕ) → b < a → nat_le a b ≡ false
        not_past a b lt = grind (arith, nat_tests, lt)

  -- the first cycle is due at once, unless cycles begin by the clock
  due_if_first : p.left ≡ plan.cycles → plan.at ≡ None → is_due plan p ≡ true
  due_if_first first none =
      ap (λ (b : Bool). if b && not (is_some plan.at) then true else nat_le p.period (p.moment.elapsed - p.began)) (eq-eqb p.left plan.cycles first)
      ∙ ap (λ (at : Option ℕ). if not (is_some at) then true else nat_le p.period (p.moment.elapsed - p.began)) none

  -- `IsDueNext` holds of the moment that is so long after the beginning
  pub due_next : 0 < plan.every → p.began ≤ p.moment.elapsed → p.moment.elapsed ≤ m.elapsed → m.elapsed ≤ 18446744073709551615
      → IsDueNext plan p m (later (min (due_at p) m.elapsed) (next_period plan m p))
  due_next some past rises most = record {
    stays = λ more before.
        let is = stays_if_asked_for (early_if_before more before past rises) before in
        omega (arith, is, before, past, rises);
    regular = λ due none.
        let is : next_period plan m p ≡ plan.every = regular_if (by_way due none) ∙ ap (λ (at : Option ℕ). period_from at plan.every (due_of plan m p)) none in
        ap (later (min (due_at p) m.elapsed)) is;
    by_clock = λ at due is small.
        let regular : next_period plan m p ≡ period_by_clock plan.every at (due_of plan m p) =
        regular_if (inr due) ∙ ap (λ (x : Option ℕ). period_from x plan.every (due_of plan m p)) is
        ∙ cond-false (nat_eq plan.every 0) 0 (period_by_clock plan.every at (due_of plan m p)) (ne_eqb plan.every 0 (λ e. omega (arith, e, some))) in
        let it = by_clock plan.every at (due_of plan m p) some (omega (arith, small)) in
        let time : later (min (due_at p) m.elapsed) (next_period plan m p) - due_at p ≡ period_by_clock plan.every at (due_of plan m p) =
        let short = it.2 in omega (arith, regular, due, small, short) in
        let start : cycle_start plan m p ≡ due_at p =
        cond-false (nat_eq plan.every 0) m.elapsed (min (due_at p) m.elapsed) (ne_eqb plan.every 0 (λ e. omega (arith, e, some))) ∙ omega (arith, due) in
        let from : due_of plan m p ≡ m.utc - (m.elapsed - due_at p) = ap (λ (n : ℕ). m.utc - (m.elapsed - n)) start in
        subst (λ (n : ℕ). ((k : ℕ) × ((m.utc - (m.elapsed - due_at p)) + n ≡ k * plan.every + at % plan.every)) × (plan.every ≤ 2 * n) × (2 * n ≤ 3 * plan.every)) (sym time)
        (subst (λ (u : ℕ). ((k : ℕ) × (u + period_by_clock plan.every at (due_of plan m p) ≡ k * plan.every + at % plan.every)) × (plan.every ≤ 2 * period_by_clock plan.every at (due_of plan m p))
        × (2 * period_by_clock plan.every at (due_of plan m p) ≤ 3 * plan.every)) from it);
  } where
    -- the cycle was due by then, or was the first one
    by_way : (due_at p ≤ m.elapsed) ⊎ (p.left ≡ plan.cycles) → plan.at ≡ None → (is_due plan p ≡ true) ⊎ (due_at p ≤ m.elapsed)
    by_way (inl due) none = inr due
    by_way (inr first) none = inl (due_if_first first none)
