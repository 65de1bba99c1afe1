-- What is recorded by its bound is durable before the next act but a mere reading of the clock; and how long reads are asked to wait. An
-- act is one call on the link, with its result.
use Rattle.gc_station.proofs.Common.{◌≡◌, ℕ, ◌+◌, ◌*◌, ◌-◌, ◌<◌, ◌≤◌, ◌&&◌, Bool, true, false, not, if◌then◌else◌, List, [], ◌∷◌, ◌++◌, min, max, nat_lt, Option, Some, None, refl, sym, ap, ◌∙◌, subst, arith, append-nil, append_assoc, lt-ltb, recursion_from_All, AllByRecursion, IsEarliest, deadlines, Task, Act, later, is_out_of_time, Snapshot, IsKept, AreKept, opening, waiting_of, Runs, out_of_time_at, stale_at, longest_timeout, read_end_without_deadline, read_end, read_timeout, LastsByBound, ReadsEndInTime, Record, Scope, Plan}
use Rattle.gc_station.proofs.Going.{runs_front}
use Rattle.gc_station.proofs.RealTime.{records_by_bound}

module _ (plan : Plan) (commands : List Task) (scope : Scope) (text : Record → List ℕ) (told : Option (List Act)) (taken : Option (List ℕ)) where
  -- one of these turns is of the moment before `act`, at which the acts `before` were done
  record TurnOf (turns : List Snapshot) (before : List Act) (act : Act) : Type 0 where
    turn : Snapshot
    earlier : List Snapshot
    later : List Snapshot
    among : turns ≡ earlier ++ turn ∷ later
    kept : IsKept plan commands scope text told taken before act turn

  -- each act has its turn
  turn_of : (before done behind : List Act) (act : Act) (turns : List Snapshot) → AreKept plan commands scope text told taken before (done ++ act ∷ behind) turns
      → TurnOf turns (before ++ done) act
  turn_of before [] behind act [] are = absurd are
  turn_of before [] behind act (turn ∷ turns) are =
      record { turn = turn; earlier = []; later = turns; among = refl; kept = subst (λ (xs : List Act). IsKept plan commands scope text told taken xs act turn) (sym (append-nil before)) are.0 }
  turn_of before (x ∷ done) behind act [] are = absurd are
  turn_of before (x ∷ done) behind act (turn ∷ turns) are =
      let on = turn_of (before ++ x ∷ []) done behind act turns are.1 in
      record {
        turn = on.turn;
        earlier = turn ∷ on.earlier;
        later = on.later;
        among = ap (λ (xs : List Snapshot). turn ∷ xs) on.among;
        kept = subst (λ (xs : List Act). IsKept plan commands scope text told taken xs act on.turn) (append_assoc before (x ∷ []) done) on.kept;
      }

-- the law: what is recorded by its bound lasts
pub lasts_by_bound : LastsByBound
lasts_by_bound longest call readings plan commands scope text told told' taken seen seen' others run done later act order more some listed few all_few rises calls back unasked =
    let runs = runs_front plan commands (opening plan scope) done (act ∷ later) (subst (λ (xs : List Act). Runs plan commands (opening plan scope) xs) order run.runs) in
    let found = turn_of plan commands scope text told taken [] done later act run.turns (subst (λ (xs : List Act). AreKept plan commands scope text told taken [] xs run.turns) order run.kept) in (
      records_by_bound longest call readings plan commands scope done runs some listed few all_few rises calls back unasked,
      record {
        turn = found.turn;
        earlier = found.earlier;
        later = found.later;
        among = run.saw ∙ ap (λ (xs : List Snapshot). seen ++ xs) found.among;
        tells = found.kept.tells;
        took = found.kept.took;
        lasts = found.kept.lasts more;
      },
    )

-- a read ends by its end, or after a millisecond
ends_by : (first end now longest : ℕ) → now + min (max (min first end - now) 1) longest ≤ max end (now + 1)
ends_by first end now longest = omega arith

-- a read ends by the earliest deadline, or after a millisecond
ends_by_deadline : (deadline other stale end now longest d : ℕ) → deadline ≤ d → now + min (max (min (min (min deadline other) stale) end - now) 1) longest ≤ max d (now + 1)
ends_by_deadline deadline other stale end now longest d le = omega (arith, le)

-- the law: reads end in time
pub reads_end_in_time : ReadsEndInTime
reads_end_in_time plan s until wait asked = (in_time, by_deadline asked.0 asked.1 asked.2, short) where
  -- the moment read last
  now : ℕ
  now = s.progress.moment.elapsed

  -- no read is asked to wait past the moment at which the cycle is out of time
  in_time : 0 < plan.every → is_out_of_time plan s.progress ≡ false → s.progress.moment.elapsed + wait ≤ max (s.progress.began + 2 * plan.every) (s.progress.moment.elapsed + 1)
  in_time some punctual =
      let end : out_of_time_at plan s.progress ≤ s.progress.began + 2 * plan.every =
      subst (λ (b : Bool). (if b then later (later s.progress.began plan.every) plan.every else 18446744073709551615) ≤ s.progress.began + 2 * plan.every)
      (sym (test (nat_lt 0 plan.every) (is_out_of_time plan s.progress) (lt-ltb 0 plan.every some) punctual)) (omega arith)
      in
      let by = ends_by (min (read_end plan s.progress until asked.0) (stale_at plan (waiting_of s).fresh)) (out_of_time_at plan s.progress) s.progress.moment.elapsed (longest_timeout plan) in
      let same = asked.2 in
      omega (arith, end, by, same) where
        -- cycles have due moments, and this one isn't out of time
        test : (a b : Bool) → a ≡ true → b ≡ false → (a && not b) ≡ true
        test true false e f = refl
        test true true e f = cc
        test false b e f = cc

  -- nor past a deadline
  by_deadline : (deadline : Option ℕ) → IsEarliest (deadlines s.client.waiting) deadline → wait ≡ read_timeout plan s.progress (waiting_of s).fresh until deadline
      → AllByRecursion (λ (d : ℕ). s.progress.moment.elapsed + wait ≤ max d (s.progress.moment.elapsed + 1)) (deadlines s.client.waiting)
  by_deadline None none is = subst (λ (ds : List ℕ). AllByRecursion (λ (d : ℕ). s.progress.moment.elapsed + wait ≤ max d (s.progress.moment.elapsed + 1)) ds) (sym none) tt
  by_deadline (Some e) earliest is =
      recursion_from_All (λ (d : ℕ). s.progress.moment.elapsed + wait ≤ max d (s.progress.moment.elapsed + 1)) (deadlines s.client.waiting)
      (λ k x lt.
      let low = earliest.1 k x lt in
      let by = ends_by_deadline e (read_end_without_deadline plan s.progress until) (stale_at plan (waiting_of s).fresh) (out_of_time_at plan s.progress) s.progress.moment.elapsed (longest_timeout plan) _ low in
      omega (arith, by, is))

  -- nor for more than a minute
  short : wait ≤ 60000
  short = let most = minute plan.watched in let same = asked.2 in omega (arith, same, most) where
    -- the longest time-out is a minute at most
    minute : (b : Bool) → (if b then 1000 else 60000) ≤ 60000
    minute true = omega arith
    minute false = omega arith
