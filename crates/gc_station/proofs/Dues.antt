-- When cycles are due: no act but the beginning of a cycle changes when the next one is due, and a cycle counts as begun no earlier than the
-- one before it, if the clock doesn't go back. An act is one call on the link, with its result.
use Rattle.gc_station.proofs.Common.{◌≡◌, ◌⊎◌, inl, inr, ℕ, ◌+◌, ◌-◌, ◌<◌, ◌≤◌, ◌&&◌, ◌||◌, Bool, true, false, List, [], ◌∷◌, ◌++◌, length, min, nat_lt, nat_le, refl, sym, ap, ◌∙◌, subst, arith, append-nil, append_assoc, suc, not, if◌then◌else◌, is_some, Option, Some, None, nat_eq, ltb-true, ltb-false, leb-true, eqb-true, eq-eqb, not-true, and_parts, both_ways, Task, Act, Told, Untold, Moment, ClockRises, BeginsAt, CyclesBeginWhenDue, IsDueNext, IsWantedBy, counts_from, later, is_due, is_asked_for, is_wanted, Model, opening, action_at, waiting_of, with_progress, moved, after, after_all, Performs, Runs, cycles_begun, turned, due_at, next_period, IsOutOfTime, IsDueAt, state_after, Scope, latest, Plan, Action, Progress}
use Rattle.gc_station.proofs.Always.{always_of_progress, progress_after_act}
use Rattle.gc_station.proofs.Closings.{needs_of, runs_split}
use Rattle.gc_station.proofs.Counts.{with_losses_progress}
use Rattle.gc_station.proofs.Cycles.{Begun, Cycling, begun_if_clock_rises, begins_due, rises_here, start_is}
use Rattle.gc_station.proofs.EachRun.{invariant_holds}
use Rattle.gc_station.proofs.Facts.{begin_wanted}
use Rattle.gc_station.proofs.Further.{NotBack, not_back_all}
use Rattle.gc_station.proofs.Going.{after_all-append}
use Rattle.gc_station.proofs.Lists.{cuts_on}
use Rattle.gc_station.proofs.Periods.{due_next, soon_due}
use Rattle.gc_station.proofs.Staying.{gave_stays, silent_stays, closed_stays}
use Rattle.gc_station.proofs.Ticking.{Ticks, began_kept, rises_before, rises_front, latest_most}
use Rattle.gc_station.proofs.Walk.{moved_changed, walk}
use Rattle.gc_station.specs.declared.progress.Action.TheVariants as actions

-- if two cuts of a list have fronts of one length, they are the same
same_cut : {A : Type 0} (xs ys cs bs : List A) (x y : A) → xs ++ x ∷ cs ≡ ys ++ y ∷ bs → length xs ≡ length ys → (xs ≡ ys) × (x ≡ y)
same_cut [] [] cs bs x y e same = (refl, cc)
same_cut [] (b ∷ ys) cs bs x y e same = absurd (omega (arith, same))
same_cut (a ∷ xs) [] cs bs x y e same = absurd (omega (arith, same))
same_cut (a ∷ xs) (b ∷ ys) cs bs x y e same =
    let head : a ≡ b = cc in
    let others : xs ++ x ∷ cs ≡ ys ++ y ∷ bs = cc in
    let short : length xs ≡ length ys = omega (arith, same) in
    let on = same_cut xs ys cs bs x y others short in
    (ap (λ z. z ∷ xs) head ∙ ap (λ zs. b ∷ zs) on.0, on.1)

-- acts that read one moment read the same
same_moment : (m m' : Moment) → Told m ≡ Told m' → m ≡ m'
same_moment m m' e = cc

-- an act that begins no cycle reads moments as `Ticks` says
moved_ticks : (plan : Plan) (commands : List Task) (s : Model) (o : Action) (act : Act) → Performs commands s o act → (o ≡ actions.Begin → ⊥)
    → Ticks s.progress act (moved plan commands o s act).progress
moved_ticks plan commands s actions.Begin act obeys other = absurd (other refl)
moved_ticks plan commands s (actions.Read until) act obeys other =
    walk plan commands (λ (a : Act) (t : Model). Ticks s.progress a t.progress) (actions.Read until) s act obeys (
      λ bytes m. (gave_stays plan commands until s bytes m).1,
      λ m. (silent_stays plan s.progress.phase s.progress until m).1,
      (refl, refl),
      (refl, refl),
      (refl, refl),
    )
moved_ticks plan commands s (actions.Close why) act obeys other =
    walk plan commands (λ (a : Act) (t : Model). Ticks s.progress a t.progress) (actions.Close why) s act obeys ((closed_stays plan s why).1)
moved_ticks plan commands s (actions.Stop why) act obeys other = absurd obeys
moved_ticks plan commands s o act obeys other =
    walk plan commands (λ (a : Act) (t : Model). Ticks s.progress a t.progress) o s act obeys (λ m. (refl, refl), λ n. (refl, refl))

-- nor does it change how long after the beginning of the last cycle the next one is due
period_stays : (plan : Plan) (commands : List Task) (s : Model) (o : Action) (act : Act) → (o ≡ actions.Begin → ⊥) → (moved plan commands o s act).progress.period ≡ s.progress.period
period_stays plan commands s actions.Begin act other = absurd (other refl)
period_stays plan commands s o act other = ap (λ (x : Model). x.progress.period) (moved_changed plan commands o s act)

module _ (plan : Plan) (commands : List Task) (scope : Scope) where
  -- the model after these acts
  abbrev at : List Act → Model
  at acts = state_after plan commands scope acts

  -- How many cycles began.

  -- by an act that begins a cycle, one more began
  one_begun : (before : List Act) (m : Moment) → action_at plan (at before) ≡ actions.Begin
      → cycles_begun plan (after plan commands (at before) (Told m)).progress ≡ cycles_begun plan (at before).progress + 1
  one_begun before m is =
      let s = at before in
      let done = moved plan commands (action_at plan s) (with_progress turned s) (Told m) in
      let fewer : (after plan commands s (Told m)).progress.left ≡ s.progress.left - 1 =
      ap (λ (p : Progress). p.left) (with_losses_progress done) ∙ ap (λ (o : Action). (moved plan commands o (with_progress turned s) (Told m)).progress.left) is in
      let some = (needs_of plan s actions.Begin is).4 in
      let most = (invariant_holds plan commands scope before).left in
      omega (arith, fewer, some, most)

  -- of the acts by which a cycle began, more cycles began than before it
  begun_counted : (acts : List Act) (n : ℕ) (m : Moment) → BeginsAt plan commands scope acts n m → n < cycles_begun plan (at acts).progress
  begun_counted acts n m b =
      let next = after plan commands (at b.before) (Told m) in
      let one = one_begun b.before m b.begins in
      let is : at acts ≡ after_all plan commands next b.behind = ap at b.order ∙ after_all-append plan commands (opening plan scope) b.before (Told m ∷ b.behind) in
      let count = b.number in
      subst (λ (x : Model). n < cycles_begun plan x.progress) (sym is) (by_way one count (not_back_all plan commands next b.behind)) where
        -- the lemma above, whether other cycles began since
        by_way : let next = after plan commands (at b.before) (Told m) in cycles_begun plan next.progress ≡ cycles_begun plan (at b.before).progress + 1
            → cycles_begun plan (at b.before).progress ≡ n → NotBack next.progress (after_all plan commands next b.behind).progress
            → n < cycles_begun plan (after_all plan commands next b.behind).progress
        by_way one count (inl less) = omega (arith, one, count, less)
        by_way one count (inr same) = let left = same.0 in omega (arith, one, count, left)

  -- the cycle of one number begins once, so it counts as begun at one moment
  same_beginning : (acts : List Act) (n n' : ℕ) (m m' : Moment) → n ≡ n' → (b : BeginsAt plan commands scope acts n m) (b' : BeginsAt plan commands scope acts n' m')
      → counts_from plan commands scope b.before m ≡ counts_from plan commands scope b'.before m'
  same_beginning acts n n' m m' one b b' = by_length (nat_lt (length b.before) (length b'.before)) refl (nat_lt (length b'.before) (length b.before)) refl where
    -- both are cuts of one list
    order : b.before ++ Told m ∷ b.behind ≡ b'.before ++ Told m' ∷ b'.behind
    order = sym b.order ∙ b'.order

    -- the lemma above, whether one of the two is earlier
    by_length : (x : Bool) → nat_lt (length b.before) (length b'.before) ≡ x → (y : Bool) → nat_lt (length b'.before) (length b.before) ≡ y
        → counts_from plan commands scope b.before m ≡ counts_from plan commands scope b'.before m'
    by_length true short y e =
        let on = cuts_on b.before b'.before b.behind b'.behind (Told m) (Told m') order (ltb-true (length b.before) (length b'.before) short) in
        let less = begun_counted b'.before n m (record { before = b.before; behind = on.between; order = on.goes_on; begins = b.begins; number = b.number }) in
        let count = b'.number in absurd (omega (arith, less, count, one))
    by_length false x true short =
        let on = cuts_on b'.before b.before b'.behind b.behind (Told m') (Told m) (sym order) (ltb-true (length b'.before) (length b.before) short) in
        let less = begun_counted b.before n' m' (record { before = b'.before; behind = on.between; order = on.goes_on; begins = b'.begins; number = b'.number }) in
        let count = b.number in absurd (omega (arith, less, count, one))
    by_length false x false y =
        let low = ltb-false (length b.before) (length b'.before) x in
        let high = ltb-false (length b'.before) (length b.before) y in
        let same = same_cut b.before b'.before b.behind b'.behind (Told m) (Told m') order (omega (arith, low, high)) in
        ap (λ (xs : List Act). counts_from plan commands scope xs m) same.0 ∙ ap (counts_from plan commands scope b'.before) (same_moment m m' same.1)

  module _ (some : 0 < plan.every) where
    -- When the last cycle counts as begun.

    -- after a run it isn't later than the moment read last, and no moment is past 2^64 - 1
    now_most : (acts : List Act) → Runs plan commands (opening plan scope) acts → ClockRises 0 acts
        → ((at acts).progress.began ≤ (at acts).progress.moment.elapsed) × ((at acts).progress.moment.elapsed ≤ 18446744073709551615)
    now_most acts runs rises = (by_begun old.1, omega (arith, now, most)) where
      -- the moment read last, and the cycle
      old : ((at acts).progress.moment.elapsed ≡ latest 0 acts) × Begun plan commands scope some acts (at acts).progress
      old = begun_if_clock_rises plan commands scope some acts runs rises

      -- that moment is the last of the acts
      now : (at acts).progress.moment.elapsed ≡ latest 0 acts
      now = old.0

      -- no moment is past 2^64 - 1
      most : latest 0 acts ≤ 18446744073709551615
      most = latest_most 0 acts (omega arith) rises

      -- the lemma above, whether a cycle has begun
      by_begun : Begun plan commands scope some acts (at acts).progress → (at acts).progress.began ≤ (at acts).progress.moment.elapsed
      by_begun (inl none) = let start = none.2 in omega (arith, start)
      by_begun (inr c) = c.past

    -- an act that begins no cycle leaves it as it is, and when the next one is due
    due_stays : (acts : List Act) (act : Act) → Runs plan commands (opening plan scope) acts → Performs commands (at acts) (action_at plan (at acts)) act → ClockRises 0 (acts ++ act ∷ [])
        → (action_at plan (at acts) ≡ actions.Begin → ⊥)
        → ((at (acts ++ act ∷ [])).progress.began ≡ (at acts).progress.began) × ((at (acts ++ act ∷ [])).progress.period ≡ (at acts).progress.period)
    due_stays acts act runs obeys rises other =
        let s = at acts in
        let front = rises_front 0 acts act rises in
        let old = begun_if_clock_rises plan commands scope some acts runs front in
        let t = moved plan commands (action_at plan s) (with_progress turned s) act in
        let ticks = moved_ticks plan commands (with_progress turned s) (action_at plan s) act obeys other in
        let kept = began_kept (turned s.progress) t.progress act ticks (rises_here plan commands scope some acts act rises old.0) (now_most acts runs front).0 in
        let there = progress_after_act plan commands scope acts act in
        (ap (λ (p : Progress). p.began) there ∙ kept.0, ap (λ (p : Progress). p.period) there ∙ period_stays plan commands (with_progress turned s) (action_at plan s) act other)

    -- no act of a run makes it earlier
    began_on : (acts : List Act) (act : Act) → Runs plan commands (opening plan scope) acts → Performs commands (at acts) (action_at plan (at acts)) act → ClockRises 0 (acts ++ act ∷ [])
        → (at acts).progress.began ≤ (at (acts ++ act ∷ [])).progress.began
    began_on acts act runs obeys rises = by_action (action_at plan (at acts)) refl act obeys rises where
      -- the lemma above, by the action
      by_action : (o : Action) → action_at plan (at acts) ≡ o → (a : Act) → Performs commands (at acts) o a → ClockRises 0 (acts ++ a ∷ [])
          → (at acts).progress.began ≤ (at (acts ++ a ∷ [])).progress.began
      by_action actions.Begin is (Told m) by clock =
          let s = at acts in
          let front = rises_front 0 acts (Told m) clock in
          let old = begun_if_clock_rises plan commands scope some acts runs front in
          let here = (rises_here plan commands scope some acts (Told m) clock old.0).0 in
          let most = (rises_here plan commands scope some acts (Told m) clock old.0).1 in
          let past = (now_most acts runs front).0 in
          let there : (at (acts ++ Told m ∷ [])).progress.began ≡ min (due_at s.progress) m.elapsed =
          ap (λ (p : Progress). p.began) (progress_after_act plan commands scope acts (Told m))
          ∙ ap (λ (x : Action). (moved plan commands x (with_progress turned s) (Told m)).progress.began) is
          ∙ start_is plan commands scope some m (turned s.progress) in
          omega (arith, there, here, most, past)
      by_action actions.Begin is Untold by clock =
          let s = at acts in
          let there : (at (acts ++ Untold ∷ [])).progress.began ≡ s.progress.began =
          ap (λ (p : Progress). p.began) (progress_after_act plan commands scope acts Untold)
          ∙ ap (λ (x : Action). (moved plan commands x (with_progress turned s) Untold).progress.began) is in
          omega (arith, there)
      by_action actions.Begin is a by clock = absurd by
      by_action o is a by clock =
          let same = (due_stays acts a runs (subst (λ (x : Action). Performs commands (at acts) x a) (sym is) by) clock (λ e. let both : o ≡ actions.Begin = sym is ∙ e in cc)).0 in
          omega (arith, same)

    -- no acts of a run make it earlier
    pub began_rises : (acts more : List Act) → Runs plan commands (opening plan scope) (acts ++ more) → ClockRises 0 (acts ++ more) → (at acts).progress.began ≤ (at (acts ++ more)).progress.began
    began_rises acts [] runs rises = subst (λ (xs : List Act). (at acts).progress.began ≤ (at xs).progress.began) (sym (append-nil acts)) (omega arith)
    began_rises acts (act ∷ more) runs rises =
        let order = append_assoc acts (act ∷ []) more in
        let split = runs_split plan commands (opening plan scope) acts more act runs in
        let clock = subst (λ (xs : List Act). ClockRises 0 xs) (sym order) rises in
        let one = began_on acts act split.0 split.1 (rises_before 0 (acts ++ act ∷ []) more clock) in
        let on = began_rises (acts ++ act ∷ []) more (subst (λ (xs : List Act). Runs plan commands (opening plan scope) xs) (sym order) runs) clock in
        subst (λ (xs : List Act). (at acts).progress.began ≤ (at xs).progress.began) order (omega (arith, one, on))

    -- a cycle that isn't before the last one is due no earlier than that counts as begun
    pub due_no_earlier : (acts : List Act) → Runs plan commands (opening plan scope) acts → ClockRises 0 acts → (c : Cycling plan commands scope some acts (at acts).progress)
        → (n d : ℕ) → c.earlier ≤ n → IsDueAt plan commands scope acts n d → (at acts).progress.began ≤ d
    due_no_earlier acts runs rises c n d late (inl (m, b, e)) =
        let less = begun_counted acts n m b in
        let count = c.count in
        let same : n ≡ c.earlier = omega (arith, less, count, late) in
        let is = same_beginning acts n c.earlier m c.moment same b c.begins.begins in
        let grid = c.begins.grid in
        let began = c.began in
        omega (arith, e, is, grid, began)
    due_no_earlier acts runs rises c n d late (inr (count, e)) =
        let now = now_most acts runs rises in
        let past = now.0 in
        let most = now.1 in
        omega (arith, e, past, most)

-- the file by which somebody asks for a cycle counts as it was when the last cycle began, of which there was one; or none has begun
abbrev TouchFits : Plan → List Task → Scope → List Act → Progress → Type 0
TouchFits plan commands scope acts p =
    (p.left ≡ plan.cycles) ⊎ ((n : ℕ) × (m : Moment) × BeginsAt plan commands scope acts n m × (cycles_begun plan p ≡ suc n) × (p.touched ≡ m.touched))

-- so it is in the same cycle
touch_more : (plan : Plan) (commands : List Task) (scope : Scope) (acts : List Act) (act : Act) (p q : Progress) → q.left ≡ p.left → q.touched ≡ p.touched
    → TouchFits plan commands scope acts p → TouchFits plan commands scope (acts ++ act ∷ []) q
touch_more plan commands scope acts act p q left touched (inl none) = inl (left ∙ none)
touch_more plan commands scope acts act p q left touched (inr (n, m, b, count, same)) =
    inr (
      n,
      m,
      record { before = b.before; behind = b.behind ++ act ∷ []; order = ap (λ (xs : List Act). xs ++ act ∷ []) b.order ∙ append_assoc b.before (Told m ∷ b.behind) (act ∷ []); begins = b.begins; number = b.number },
      ap (λ (k : ℕ). plan.cycles - k) left ∙ count,
      touched ∙ same,
    )

-- so it is after every run
touch_fits : (plan : Plan) (commands : List Task) (scope : Scope) (acts : List Act) → Runs plan commands (opening plan scope) acts
    → TouchFits plan commands scope acts (state_after plan commands scope acts).progress
touch_fits plan commands scope acts runs =
    always_of_progress plan commands (opening plan scope) (λ (p : Progress) (done : List Act). TouchFits plan commands scope done p)
    (λ done act runs' o h. by_action done act (action_at plan (state_after plan commands scope done)) refl h) (inl refl) acts runs where
      -- an act of each action preserves it
      by_action : (done : List Act) (act : Act) (o : Action) → action_at plan (state_after plan commands scope done) ≡ o → TouchFits plan commands scope done (state_after plan commands scope done).progress
          → TouchFits plan commands scope (done ++ act ∷ []) (moved plan commands o (with_progress turned (state_after plan commands scope done)) act).progress
      by_action done (Told m) actions.Begin is h =
          let s = state_after plan commands scope done in
          let some = (needs_of plan s actions.Begin is).4 in
          let most = (invariant_holds plan commands scope done).left in
          inr (cycles_begun plan s.progress, m, record { before = done; behind = []; order = refl; begins = is; number = refl }, omega (arith, some, most), refl)
      by_action done act actions.Begin is h =
          let s = state_after plan commands scope done in
          touch_more plan commands scope done act s.progress (moved plan commands actions.Begin (with_progress turned s) act).progress refl refl h
      by_action done act o is h =
          let s = with_progress turned (state_after plan commands scope done) in
          let same = moved_changed plan commands o s act in
          touch_more plan commands scope done act s.progress (moved plan commands o s act).progress (ap (λ (x : Model). x.progress.left) same) (ap (λ (x : Model). x.progress.touched) same) h

-- a cycle begins only if it is due, or somebody asked for it, or it is the first one and needn't wait
begins_if_wanted : (plan : Plan) (commands : List Task) (scope : Scope) (acts : List Act) → 0 < plan.every → Runs plan commands (opening plan scope) acts → ClockRises 0 acts
    → action_at plan (state_after plan commands scope acts) ≡ actions.Begin → IsWantedBy plan commands scope acts
begins_if_wanted plan commands scope acts some runs rises is = by_why (begin_wanted plan p (waiting_of s) is) where
  -- the model after these acts
  s : Model
  s = state_after plan commands scope acts

  -- how far the station is
  p : Progress
  p = s.progress

  -- the last cycle counts as begun by now, and this moment is below 2^64
  now : (p.began ≤ p.moment.elapsed) × (p.moment.elapsed ≤ 18446744073709551615)
  now = now_most plan commands scope some acts runs rises

  -- why a cycle is due
  by_due : (a b : Bool) → nat_eq p.left plan.cycles ≡ a → is_some plan.at ≡ b → (if a && not b then true else nat_le p.period (p.moment.elapsed - p.began)) ≡ true
      → IsWantedBy plan commands scope acts
  by_due true false first none e = inr (inr (eqb-true p.left plan.cycles first, none_there plan.at none)) where
    -- there is none
    none_there : (at : Option ℕ) → is_some at ≡ false → at ≡ None
    none_there None e = refl
    none_there (Some k) e = cc
  by_due true true first clock e = let long = leb-true p.period (p.moment.elapsed - p.began) e in let past = now.0 in inl (omega (arith, long, past))
  by_due false b more clock e = let long = leb-true p.period (p.moment.elapsed - p.began) e in let past = now.0 in inl (omega (arith, long, past))

  -- why a cycle is asked for
  by_asked : is_asked_for plan p ≡ true → TouchFits plan commands scope acts p → IsWantedBy plan commands scope acts
  by_asked e (inl none) =
      let more = ltb-true p.left plan.cycles (and_parts (nat_lt p.left plan.cycles) (nat_lt 0 p.moment.touched) (and_parts (nat_lt p.left plan.cycles && nat_lt 0 p.moment.touched) _ e).0).0 in
      absurd (omega (arith, none, more))
  by_asked e (inr (n, m, b, count, same)) =
      let both = and_parts (nat_lt p.left plan.cycles && nat_lt 0 p.moment.touched) (not (nat_eq p.moment.touched p.touched)) e in
      inr (inl (record {
        n = n;
        moment = m;
        begins = b;
        last = count;
        there = ltb-true 0 p.moment.touched (and_parts (nat_lt p.left plan.cycles) (nat_lt 0 p.moment.touched) both.0).1;
        changed = λ equal. both_ways (nat_eq p.moment.touched p.touched) (not-true (nat_eq p.moment.touched p.touched) both.1) (eq-eqb p.moment.touched p.touched (equal ∙ sym same));
      }))

  -- the lemma above, by the two tests of `is_wanted`
  by_test : (b : Bool) → is_due plan p ≡ b → (b || is_asked_for plan p) ≡ true → IsWantedBy plan commands scope acts
  by_test true due e = by_due (nat_eq p.left plan.cycles) (is_some plan.at) refl refl due
  by_test false early e = by_asked e (touch_fits plan commands scope acts runs)

  -- the lemma above, whether the next cycle is wanted, or the last one is out of time
  by_why : (is_wanted plan p ≡ true) ⊎ IsOutOfTime plan p → IsWantedBy plan commands scope acts
  by_why (inl wanted) = by_test (is_due plan p) refl wanted
  by_why (inr late) =
      let soon = soon_due plan commands scope acts runs in
      let long = late.1 in
      inl (omega (arith, soon, long))

-- the law: cycles begin when they are due, or were asked for
pub begin_when_due : CyclesBeginWhenDue
begin_when_due = record {
  first = λ plan scope small. omega (arith, small);
  why = λ plan commands scope acts some runs rises is. begins_if_wanted plan commands scope acts some runs rises is;
  begins = λ plan commands scope acts later m some runs rises is. begins_due plan commands scope some acts m is;
  next = λ plan commands scope acts later' m some runs rises is.
      let s = state_after plan commands scope acts in
      let front = rises_front 0 acts (Told m) rises in
      let split = runs_split plan commands (opening plan scope) acts later' (Told m) runs in
      let old = begun_if_clock_rises plan commands scope some acts split.0 front in
      let here = rises_here plan commands scope some acts (Told m) rises old.0 in
      let began : (state_after plan commands scope (acts ++ Told m ∷ [])).progress.began ≡ min (due_at s.progress) m.elapsed =
      ap (λ (p : Progress). p.began) (progress_after_act plan commands scope acts (Told m))
      ∙ ap (λ (x : Action). (moved plan commands x (with_progress turned s) (Told m)).progress.began) is
      ∙ start_is plan commands scope some m (turned s.progress) in
      let period : (state_after plan commands scope (acts ++ Told m ∷ [])).progress.period ≡ next_period plan m s.progress =
      ap (λ (p : Progress). p.period) (progress_after_act plan commands scope acts (Told m))
      ∙ ap (λ (x : Action). (moved plan commands x (with_progress turned s) (Told m)).progress.period) is in
      subst (IsDueNext plan s.progress m) (sym (ap (λ (n : ℕ). later n (state_after plan commands scope (acts ++ Told m ∷ [])).progress.period) began ∙ ap (later (min (due_at s.progress) m.elapsed)) period))
      (due_next plan m s.progress some (now_most plan commands scope some acts split.0 front).0 here.0 here.1);
  stays = λ plan commands scope earlier later' act runs some rises other.
      let split = runs_split plan commands (opening plan scope) earlier later' act runs in
      let same = due_stays plan commands scope some earlier act split.0 split.1 rises other in
      ap (λ (n : ℕ). later n (state_after plan commands scope (earlier ++ act ∷ [])).progress.period) same.0 ∙ ap (later (state_after plan commands scope earlier).progress.began) same.1;
}
