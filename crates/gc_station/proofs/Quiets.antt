-- Before a request is sent its connection was cleared; and it was quiet, if the station had synchronized before it was made.
-- `Stage` says what was done on a connection, by the phase. A connection is drained while what comes on it is discarded until it
-- is quiet. An act is one call on the link, with its result. In facts of the form P before start behind, `start` is one of the
-- acts, `before` the acts before it, and `behind` those after it.
use Rattle.gc_station.proofs.Common.{◌≡◌, ℕ, ◌-◌, ◌≤◌, ◌⊎◌, inl, inr, Bool, true, false, List, [], ◌∷◌, ◌++◌, drop, if◌then◌else◌, nat_le, min, refl, sym, ap, ◌∙◌, subst, arith, AllByRecursion, min-eq_left, min-eq_right, leb-true, leb-false, both_ways, false≢true, Table, NullProc, Task, Moment, Plan, Phase, Action, Progress, Until, Act, Told, Put, Gave, Silent, Closed, Opened, IsClearedAndQuiet, has_begun, is_quiet, turned, time_passed, drained, SendsRequest, TellsMoment, IsListening, IsSilent, StaysConnected, HoldsBefore, IsGoingOn, IsReadyOrOverdue, Waiting, state_after, Model, null_text, next_request_text, first_text, occasion_at, opening, action_at, waiting_of, with_progress, lines_completed, is_heard, Performs, Runs, text_or_null, place_next, Scope}
use Rattle.gc_station.proofs.Closings.{runs_split}
use Rattle.gc_station.proofs.Connected.{is_in_use, HoldsInUse, holds_in_use_always}
use Rattle.gc_station.proofs.Facts.{action_for, action_timely}
use Rattle.gc_station.proofs.InCycle.{Timely}
use Rattle.gc_station.proofs.Lists.{all_append, all_on}
use Rattle.gc_station.proofs.Since.{Since, since_now, since_on, extend_cut}
use Rattle.gc_station.proofs.Walk.{asked_along, came_along, walk, piece_before}
use Rattle.gc_station.specs.declared.progress.Phase.TheVariants as phase
use Rattle.gc_station.specs.declared.progress.Action.TheVariants as actions

-- What was done on a connection.

-- these acts end with a connection that was made
abbrev pub IsOpened : List Act → Type 0
IsOpened acts = (before : List Act) × (acts ≡ before ++ Opened ∷ [])

-- `start` cleared the connection that the acts `before` made, and the acts after it only listen (`IsListening`)
abbrev Clears : (before : List Act) → (start : Act) → List Act → Type 0
Clears before start behind = IsOpened before × (start ≡ Put (10 ∷ [])) × AllByRecursion IsListening behind

-- the connection was cleared; then `start` read the moment `since`, and each act after it is a read that gave nothing
abbrev Drains : (since : ℕ) → List Act → (start : Act) → List Act → Type 0
Drains since before start behind = Since Clears before × TellsMoment since start × AllByRecursion IsSilent behind

-- the connection was cleared; then one of these acts read the moment `since`, and each act after it is a read that gave nothing
abbrev pub IsDrained : (since : ℕ) → List Act → Type 0
IsDrained since acts = Since (Drains since) acts

-- the connection was cleared, then it was quiet for at least `quiet` milliseconds, until the read `start`, and the acts after
-- that stay on it (`StaysConnected`)
abbrev pub Quiets : (quiet : ℕ) → List Act → (start : Act) → List Act → Type 0
Quiets quiet before start behind = (from : ℕ) × (last : Moment) × IsDrained from before × (start ≡ Silent last) × (quiet ≤ last.elapsed - from) × AllByRecursion StaysConnected behind

-- among these acts the connection was cleared and then quiet for at least so many milliseconds, and the acts since stay on it
abbrev pub WasQuiet : ℕ → List Act → Type 0
WasQuiet quiet acts = Since (Quiets quiet) acts

-- of a connection that is drained next: if the moment read last is out of date (`due`), the connection was cleared, and the acts
-- after that only listen; otherwise it is `IsDrained` since the moment `since`
abbrev pub IsDraining : (due : Bool) → (since : ℕ) → List Act → Type 0
IsDraining true since acts = Since Clears acts
IsDraining false since acts = IsDrained since acts

-- an act that reads a moment sends nothing, and keeps the connection
tells_listening : (since : ℕ) (act : Act) → TellsMoment since act → IsListening act
tells_listening since (Told m) e = refl
tells_listening since (Gave bytes m) e = refl
tells_listening since (Silent m) e = refl
tells_listening since act e = absurd e

-- a read that gave nothing sends nothing, and keeps the connection
silent_listening : (act : Act) → IsSilent act → IsListening act
silent_listening (Silent m) e = refl
silent_listening (Told m) e = refl
silent_listening act e = absurd e

-- an act that only listens keeps the connection
listening_stays : (act : Act) → IsListening act → StaysConnected act
listening_stays (Told m) e = tt
listening_stays (Gave bytes m) e = tt
listening_stays (Silent m) e = tt
listening_stays act e = absurd (false≢true e)

module _ (plan : Plan) (commands : List Task) (scope : Scope) where
  -- these acts end with a connection that was made when the station had synchronized (`true`), or while it synchronized
  -- (`false`)
  abbrev pub IsOpenedWhen : Bool → List Act → Type 0
  IsOpenedWhen begun acts = (before : List Act) × (acts ≡ before ++ Opened ∷ []) × (has_begun (state_after plan commands scope before).progress ≡ begun)

  -- the connection was made while the station synchronized, and cleared by `start`, and the acts after that stay on it
  -- (`StaysConnected`)
  abbrev pub ClearsInSync : List Act → Act → List Act → Type 0
  ClearsInSync before start behind = IsOpenedWhen false before × (start ≡ Put (10 ∷ [])) × AllByRecursion StaysConnected behind

  -- where requests are sent: the connection was cleared, and was quiet; or it was cleared and a synchronization went on with it
  abbrev pub WasCleared : List Act → Type 0
  WasCleared acts = WasQuiet plan.quiet acts ⊎ Since ClearsInSync acts

  -- a connection that was quiet is as `IsClearedAndQuiet` says
  was_quiet : (acts : List Act) → WasQuiet plan.quiet acts → IsClearedAndQuiet plan commands scope acts
  was_quiet acts q =
      let d = q.holds.2 in
      let c = d.holds.0 in
      let o = c.holds.0 in
      let tail = d.behind ++ Silent q.holds.1 ∷ q.behind in
      record {
        before = o.0;
        behind = c.behind ++ d.start ∷ tail;
        order = extend_cut acts c.before o.0 (Opened ∷ []) (c.start ∷ (c.behind ++ d.start ∷ (d.behind ++ q.start ∷ q.behind)))
            (extend_cut acts d.before c.before (c.start ∷ c.behind) (d.start ∷ (d.behind ++ q.start ∷ q.behind))
            (extend_cut acts q.before d.before (d.start ∷ d.behind) (q.start ∷ q.behind) q.order d.order) c.order) o.1
            ∙ ap (λ (x : Act). o.0 ++ Opened ∷ x ∷ (c.behind ++ d.start ∷ (d.behind ++ q.start ∷ q.behind))) c.holds.1
            ∙ ap (λ (x : Act). o.0 ++ Opened ∷ Put (10 ∷ []) ∷ (c.behind ++ d.start ∷ (d.behind ++ x ∷ q.behind))) q.holds.3;
        stays = all_append StaysConnected c.behind (d.start ∷ tail) (all_on IsListening StaysConnected c.behind listening_stays c.holds.2) (
          listening_stays d.start (tells_listening q.holds.0 d.start d.holds.1),
          all_append StaysConnected d.behind (Silent q.holds.1 ∷ q.behind) (all_on IsSilent StaysConnected d.behind (λ act e. listening_stays act (silent_listening act e)) d.holds.2) (tt, q.holds.5),
        );
        quiet = λ begun. record {
          drain = c.behind;
          start = d.start;
          from = q.holds.0;
          silence = d.behind;
          last = q.holds.1;
          behind = q.behind;
          order = refl;
          drains = c.holds.2;
          starts = d.holds.1;
          silent = d.holds.2;
          long = q.holds.4;
        };
      }

  -- a connection on which requests are sent is as `IsClearedAndQuiet` says
  was_cleared : (acts : List Act) → WasCleared acts → IsClearedAndQuiet plan commands scope acts
  was_cleared acts (inl q) = was_quiet acts q
  was_cleared acts (inr b) =
      let o = b.holds.0 in
      record {
        before = o.0;
        behind = b.behind;
        order = extend_cut acts b.before o.0 (Opened ∷ []) (b.start ∷ b.behind) b.order o.1 ∙ ap (λ (x : Act). o.0 ++ Opened ∷ x ∷ b.behind) b.holds.1;
        stays = b.holds.2;
        quiet = λ begun. absurd (both_ways (has_begun (state_after plan commands scope o.0).progress) o.2 begun);
      }

  -- what was done on the connection, by the phase: in `Clearing` it was just made, in `Draining` it is drained, and in `Ready` it
  -- was cleared. `begun` is whether the station has synchronized, `due` whether the moment read last is out of date, and `since`
  -- the moment since which nothing came
  abbrev pub Stage : (begun due : Bool) → (since : ℕ) → Phase → List Act → Type 0
  Stage begun due since phase.Clearing acts = (due ≡ false) × IsOpenedWhen begun acts
  Stage begun due since phase.Draining acts = IsDraining due since acts
  Stage begun due since phase.Ready acts = WasCleared acts
  Stage begun due since _ acts = Unit {0}

  -- `Stage`, by the fields of a progress
  abbrev pub StageAt : Progress → List Act → Type 0
  StageAt p acts = Stage (has_begun p) p.clock_due p.exchange.since p.phase acts

-- One act more.

-- a connection that is drained was cleared
drained_clears : (since : ℕ) (acts : List Act) → IsDrained since acts → Since Clears acts
drained_clears since acts d =
    let listened : AllByRecursion IsListening (d.start ∷ d.behind) = (tells_listening since d.start d.holds.1, all_on IsSilent IsListening d.behind silent_listening d.holds.2) in
    subst (λ (xs : List Act). Since Clears xs) (sym d.order)
    (since_on Clears Clears d.before (d.start ∷ d.behind) (λ before start behind order c. (c.0, c.1, all_append IsListening behind (d.start ∷ d.behind) c.2 listened)) d.holds.0)

-- a connection that is `IsDrained` since any moment is so since the moment `now` after one more act that reads `now`
drained_anew : (since now : ℕ) (acts : List Act) (act : Act) → TellsMoment now act → IsDrained since acts → IsDrained now (acts ++ act ∷ [])
drained_anew since now acts act tells d = since_now (Drains now) acts act (drained_clears since acts d, tells, tt)

-- the quiet time goes on if a read gave nothing, or the clock alone was read
drained_longer : (since : ℕ) (acts : List Act) (act : Act) → IsSilent act → IsDrained since acts → IsDrained since (acts ++ act ∷ [])
drained_longer since acts act calm d = since_on (Drains since) (Drains since) acts (act ∷ []) (λ before start behind order h. (h.0, h.1, all_append IsSilent behind (act ∷ []) h.2 (calm, tt))) d

-- a connection that is `IsDrained` since some moment was quiet after one more read that gave nothing, if by then the quiet time
-- since that moment is long enough
quiet_now : (quiet since : ℕ) (acts : List Act) (m : Moment) → quiet ≤ m.elapsed - since → IsDrained since acts → WasQuiet quiet (acts ++ Silent m ∷ [])
quiet_now quiet since acts m long d = since_now (Quiets quiet) acts (Silent m) (since, m, d, refl, long, tt)

-- What each act leaves.

-- if the moment read last is out of date, a connection that is `IsDraining` is `IsDrained` since m once the clock tells the
-- moment m
draining_told : (due : Bool) (since : ℕ) (m : Moment) (acts : List Act) → due ≡ true → IsDraining due since acts → IsDrained m.elapsed (acts ++ Told m ∷ [])
draining_told true since m acts old d = since_now (Drains m.elapsed) acts (Told m) (d, refl, tt)
draining_told false since m acts old d = cc

-- if the moment read last isn't out of date, a connection that is `IsDraining` is `IsDrained`
draining_read : (due : Bool) (since : ℕ) (acts : List Act) → due ≡ false → IsDraining due since acts → IsDrained since acts
draining_read true since acts now d = cc
draining_read false since acts now d = d

-- where the start of the quiet time is bounded by the moment `now`, the quiet time is as long as without that, whether the clock
-- went on (`rises`) or back
bounded_as_long : (now since : ℕ) (rises : Bool) → nat_le since now ≡ rises → now - min since now ≡ now - since
bounded_as_long now since true e = ap (λ n. now - n) (min-eq_left (leb-true since now e))
bounded_as_long now since false e =
    let low = leb-false since now e in
    let less : now ≤ since = omega (arith, low) in
    ap (λ n. now - n) (min-eq_right less) ∙ omega (arith, low)

-- if a read gave nothing, the quiet time goes on, or starts again if the clock went back (`rises` is false)
drained_if_silent : (since : ℕ) (m : Moment) (acts : List Act) (act : Act) → IsSilent act → TellsMoment m.elapsed act → (rises : Bool) → nat_le since m.elapsed ≡ rises
    → IsDrained since acts → IsDrained (min since m.elapsed) (acts ++ act ∷ [])
drained_if_silent since m acts act calm tells true e d = subst (λ n. IsDrained n (acts ++ act ∷ [])) (sym (min-eq_left (leb-true since m.elapsed e))) (drained_longer since acts act calm d)
drained_if_silent since m acts act calm tells false e d =
    let low = leb-false since m.elapsed e in
    let less : m.elapsed ≤ since = omega (arith, low) in
    subst (λ n. IsDrained n (acts ++ act ∷ [])) (sym (min-eq_right less)) (drained_anew since m.elapsed acts act tells d)

module _ (plan : Plan) (commands : List Task) (scope : Scope) where
  -- `Stage` of this run
  abbrev StageHere : (begun due : Bool) → (since : ℕ) → Phase → List Act → Type 0
  StageHere = Stage plan commands scope

  -- `StageHere`, by the fields of a progress
  abbrev StageHereAt : Progress → List Act → Type 0
  StageHereAt = StageAt plan commands scope

  -- if no connection is in use, `Stage` holds, as it then says nothing
  stage_none : (begun due : Bool) (since : ℕ) (at : Phase) (acts : List Act) → is_in_use at ≡ false → StageHere begun due since at acts
  stage_none begun due since phase.Clearing acts none = cc
  stage_none begun due since phase.Draining acts none = cc
  stage_none begun due since phase.Ready acts none = cc
  stage_none begun due since at acts none = tt

  -- a connection on which requests may be sent (`WasCleared`) stays so, if the act keeps it
  still_cleared : (acts : List Act) (act : Act) → StaysConnected act → WasCleared plan commands scope acts → WasCleared plan commands scope (acts ++ act ∷ [])
  still_cleared acts act on (inl q) =
      inl (since_on (Quiets plan.quiet) (Quiets plan.quiet) acts (act ∷ []) (λ before start behind order h. (h.0, h.1, h.2, h.3, h.4, all_append StaysConnected behind (act ∷ []) h.5 (on, tt))) q)
  still_cleared acts act on (inr b) =
      inr (since_on (ClearsInSync plan commands scope) (ClearsInSync plan commands scope) acts (act ∷ [])
      (λ before start behind order h. (h.0, h.1, all_append StaysConnected behind (act ∷ []) h.2 (on, tt))) b)

  -- `Stage` is preserved, with the moment `now` for `since`, by an act that stays on the connection, if a drain goes on with it
  -- since `now`, and if in the phase `Clearing` the moment read last is out of date (so that there is no such act there)
  stage_on : (begun begun' due : Bool) (since now : ℕ) (at : Phase) (acts : List Act) (act : Act) → StaysConnected act
      → (at ≡ phase.Clearing → due ≡ false → ⊥) → (IsDraining due since acts → IsDrained now (acts ++ act ∷ []))
      → StageHere begun due since at acts → StageHere begun' false now at (acts ++ act ∷ [])
  stage_on begun begun' due since now phase.Clearing acts act calm never drains st = absurd (never refl st.0)
  stage_on begun begun' due since now phase.Draining acts act calm never drains st = drains st
  stage_on begun begun' due since now phase.Ready acts act calm never drains st = still_cleared acts act calm st
  stage_on begun begun' due since now at acts act calm never drains st = tt

  -- `Stage` lasts in the phase `Ready`, if the act keeps the connection
  stage_ready : (begun begun' due due' : Bool) (since since' : ℕ) (at : Phase) (acts : List Act) (act : Act) → StaysConnected act → at ≡ phase.Ready
      → StageHere begun due since at acts → StageHere begun' due' since' at (acts ++ act ∷ [])
  stage_ready begun begun' due due' since since' at acts act stays is st =
      subst (λ (x : Phase). StageHere begun' due' since' x (acts ++ act ∷ [])) (sym is) (still_cleared acts act stays (subst (λ (x : Phase). StageHere begun due since x acts) is st))

  -- `Stage` holds after a read that gave nothing, by whose moment the drained connection was quiet for long enough
  stage_drained : (until : Until) (m : Moment) (p : Progress) (acts : List Act) → is_quiet plan (time_passed until m p) ≡ true → IsDrained p.exchange.since acts
      → StageHereAt (drained (time_passed until m p)) (acts ++ Silent m ∷ [])
  stage_drained until m p acts past d =
      let long = leb-true plan.quiet (m.elapsed - min p.exchange.since m.elapsed) past in
      let same = bounded_as_long m.elapsed p.exchange.since (nat_le p.exchange.since m.elapsed) refl in
      let quiet : plan.quiet ≤ m.elapsed - p.exchange.since = omega (arith, long, same) in
      inl (quiet_now plan.quiet p.exchange.since acts m quiet d)

  -- `Stage` holds after the line feed of a connection that was just made: the connection is drained next, or a synchronization
  -- goes on with it
  stage_cleared : (begun : Bool) (since : ℕ) (acts : List Act) → IsOpenedWhen plan commands scope begun acts
      → StageHere begun true since (if begun then phase.Draining else phase.Ready) (acts ++ Put (10 ∷ []) ∷ [])
  stage_cleared true since acts o = since_now Clears acts (Put (10 ∷ [])) ((o.0, o.1), refl, tt)
  stage_cleared false since acts o = inr (since_now (ClearsInSync plan commands scope) acts (Put (10 ∷ [])) (o, refl, tt))

  -- what `StageHereAt` says in this phase
  stage_in : (p : Progress) (at : Phase) (acts : List Act) → p.phase ≡ at → StageHereAt p acts → StageHere (has_begun p) p.clock_due p.exchange.since at acts
  stage_in p at acts is st = subst (λ (x : Phase). StageHere (has_begun p) p.clock_due p.exchange.since x acts) is st

  -- where the phase is `Ready` or the cycle is overdue, the phase isn't `Clearing`
  no_clearing : (plan : Plan) (p : Progress) (w : Waiting) → IsReadyOrOverdue plan p w → p.phase ≡ phase.Clearing → ⊥
  no_clearing plan p w (inl is) at = let other : phase.Ready ≡ phase.Clearing = sym is ∙ at in cc
  no_clearing plan p w (inr over) at = subst IsGoingOn at over.2

  -- `Stage` is preserved by an act that reads the clock to tell of commands, or to resynchronize, if the moment was read before, and
  -- the phase isn't `Clearing`
  stage_told : (begun begun' : Bool) (p : Progress) (acts : List Act) (m : Moment) → p.clock_due ≡ false → (p.phase ≡ phase.Clearing → ⊥)
      → StageHere begun p.clock_due p.exchange.since p.phase acts → StageHere begun' false (min p.exchange.since m.elapsed) p.phase (acts ++ Told m ∷ [])
  stage_told begun begun' p acts m now never st =
      stage_on begun begun' p.clock_due p.exchange.since (min p.exchange.since m.elapsed) p.phase acts (Told m) tt (λ is _. never is)
      (λ d. drained_if_silent p.exchange.since m acts (Told m) tt refl (nat_le p.exchange.since m.elapsed) refl (draining_read p.clock_due p.exchange.since acts now d)) st

  -- `Stage` is preserved by an act of any action that leaves a connection in use, if `HoldsBefore` and `Timely` hold of the
  -- action
  stage_line : (next : Action) (s : Model) (acts : List Act) → has_begun (state_after plan commands scope acts).progress ≡ has_begun s.progress
      → HoldsBefore plan s.progress (waiting_of s) next → Timely plan s.progress next → StageHereAt s.progress acts → HoldsInUse plan commands StageHereAt next (with_progress turned s) acts
  stage_line actions.ReadClock s acts there needs time st =
      let p = s.progress in
      λ m. stage_on (has_begun p) (has_begun p) p.clock_due p.exchange.since m.elapsed p.phase acts (Told m) tt (λ is now. both_ways p.clock_due now time) (draining_told p.clock_due p.exchange.since m acts time) st
  stage_line actions.Open s acts there needs time st = λ m. (time, (acts, refl, there))
  stage_line actions.Clear s acts there needs time st = λ m. stage_cleared (has_begun s.progress) s.progress.exchange.since acts (stage_in s.progress phase.Clearing acts needs st).1
  stage_line (actions.Read until) s acts there needs time st =
      let p = s.progress in
      let begun = has_begun p in
      let heard = λ (later : Bool) (bytes : List ℕ) (m : Moment). stage_on begun later p.clock_due p.exchange.since m.elapsed p.phase acts (Gave bytes m) tt (λ is now. time.1 is)
      (λ d. drained_anew p.exchange.since m.elapsed acts (Gave bytes m) refl (draining_read p.clock_due p.exchange.since acts time.0 d)) st in (
        λ bytes m.
            let mid = piece_before m s in
            let always = λ (later : Bool). heard later bytes m in
            came_along (λ (t : Model). StageHereAt t.progress (acts ++ Gave bytes m ∷ [])) (λ t line on. on) (is_heard p.phase) p.exchange.word bytes mid (always begun)
            ((asked_along (λ (q : Progress). (later : Bool) → StageHere later q.clock_due q.exchange.since q.phase (acts ++ Gave bytes m ∷ [])) (λ q line on. on) mid.progress
            (lines_completed s.rest bytes) always) _) (always begun),
        λ m. (
          stage_on begun begun p.clock_due p.exchange.since (min p.exchange.since m.elapsed) p.phase acts (Silent m) tt (λ is now. time.1 is)
              (λ d. drained_if_silent p.exchange.since m acts (Silent m) tt refl (nat_le p.exchange.since m.elapsed) refl (draining_read p.clock_due p.exchange.since acts time.0 d)) st,
          λ is past. stage_drained until m (turned p) acts past (draining_read p.clock_due p.exchange.since acts time.0 (stage_in p phase.Draining acts is st)),
        ),
      )
  stage_line (actions.Close why) s acts there needs time st = tt
  stage_line (actions.Stop why) s acts there needs time st = tt
  stage_line actions.Ask s acts there needs time st = let p = s.progress in
      λ m. stage_ready (has_begun p) (has_begun p) p.clock_due true p.exchange.since p.exchange.since p.phase acts (Put (null_text p.exchange.word)) tt needs.0 st
  stage_line actions.Prepare s acts there needs time st =
      let p = s.progress in λ m. stage_ready (has_begun p) (has_begun p) p.clock_due true p.exchange.since p.exchange.since p.phase acts
      (Put (text_or_null (occasion_at s.progress.moment) s.client (drop p.prepared commands))) tt needs.0 st
  stage_line actions.Send s acts there needs time st =
      let p = s.progress in λ m. stage_ready (has_begun p) (has_begun p) p.clock_due true p.exchange.since p.exchange.since p.phase acts
      (Put (first_text (occasion_at s.progress.moment) s.client (drop (place_next commands p) commands))) tt needs.0 st
  stage_line actions.Flush s acts there needs time st = let p = s.progress in
      λ m. stage_ready (has_begun p) (has_begun p) p.clock_due true p.exchange.since p.exchange.since p.phase acts (Put (next_request_text s.client (Table NullProc))) tt needs.0 st
  stage_line actions.Renew s acts there needs time st =
      λ m. stage_told (has_begun s.progress) false s.progress acts m time (no_clearing plan s.progress (waiting_of s) needs.0) st
  stage_line actions.Begin s acts there needs time st =
      λ m. stage_told (has_begun s.progress) (has_begun s.progress) s.progress acts m time.1 (no_clearing plan s.progress (waiting_of s) needs.0) st
  stage_line actions.Skip s acts there needs time st =
      λ m. stage_told (has_begun s.progress) (has_begun s.progress) s.progress acts m time (no_clearing plan s.progress (waiting_of s) needs.0) st
  stage_line actions.Pass s acts there needs time st =
      λ m. stage_told (has_begun s.progress) (has_begun s.progress) s.progress acts m time (no_clearing plan s.progress (waiting_of s) needs.0) st

  -- Whole runs.

  -- `Stage` holds after every run
  stage_holds : (acts : List Act) → Runs plan commands (opening plan scope) acts → StageHereAt (state_after plan commands scope acts).progress acts
  stage_holds acts runs =
      holds_in_use_always plan commands StageHereAt (λ q acts none. stage_none (has_begun q) q.clock_due q.exchange.since q.phase acts none) scope (λ done runs st.
      let s = state_after plan commands scope done in
      let p = s.progress in
      stage_line (action_at plan s) s done refl (action_for plan p (waiting_of s)) (action_timely plan p (waiting_of s)) st) tt acts runs

-- Requests are sent only in the phase for requests.

-- a close is no request
close_is_no_request : (act : Act) → act ≡ Closed → SendsRequest act → ⊥
close_is_no_request act o asks = subst SendsRequest o asks

-- by any action but `Ask`, `Send`, `Flush` and `Prepare` no request is sent
pub others_send_no_request : (plan : Plan) (commands : List Task) (next : Action) (s : Model) (act : Act) → Performs commands s next act
    → (next ≡ actions.Ask → ⊥) × (next ≡ actions.Send → ⊥) × (next ≡ actions.Flush → ⊥) × (next ≡ actions.Prepare → ⊥) → SendsRequest act → ⊥
others_send_no_request plan commands actions.Ask s act o other = absurd (other.0 refl)
others_send_no_request plan commands actions.Prepare s act o other = absurd (other.3 refl)
others_send_no_request plan commands actions.Send s act o other = absurd (other.1 refl)
others_send_no_request plan commands actions.Flush s act o other = absurd (other.2 refl)
others_send_no_request plan commands actions.Clear s act o other = walk plan commands (λ a (t : Model). SendsRequest a → ⊥) actions.Clear s act o (λ m asks. asks refl, λ n asks. asks refl)
others_send_no_request plan commands (actions.Read until) s act o other =
    walk plan commands (λ a (t : Model). SendsRequest a → ⊥) (actions.Read until) s act o (λ bytes m asks. asks, λ m asks. asks, λ asks. asks, λ asks. asks, λ asks. asks)
others_send_no_request plan commands (actions.Close why) s act o other = close_is_no_request act o
others_send_no_request plan commands (actions.Stop why) s act o other = absurd o
others_send_no_request plan commands next s act o other = walk plan commands (λ a (t : Model). SendsRequest a → ⊥) next s act o (λ m asks. asks, λ n asks. asks)

-- the only request that is sent while the station synchronizes is that of `Ask`
pub only_ask_sends : (plan : Plan) (commands : List Task) (next : Action) (s : Model) (act : Act) → Performs commands s next act → SendsRequest act
    → HoldsBefore plan s.progress (waiting_of s) next → has_begun s.progress ≡ false → next ≡ actions.Ask
only_ask_sends plan commands actions.Ask s act o asks needs begins = refl
only_ask_sends plan commands actions.Prepare s act o asks needs begins = absurd (both_ways (has_begun s.progress) begins needs.1)
only_ask_sends plan commands actions.Send s act o asks needs begins = absurd (both_ways (has_begun s.progress) begins needs.1)
only_ask_sends plan commands actions.Flush s act o asks needs begins = absurd (both_ways (has_begun s.progress) begins needs.1)
only_ask_sends plan commands next s act o asks needs begins = absurd (others_send_no_request plan commands next s act o (λ is. cc, λ is. cc, λ is. cc, λ is. cc) asks)

-- if a request is sent, the phase is `Ready`
requests_in_ready : (plan : Plan) (commands : List Task) (next : Action) (s : Model) (act : Act) → Performs commands s next act → SendsRequest act
    → HoldsBefore plan s.progress (waiting_of s) next → s.progress.phase ≡ phase.Ready
requests_in_ready plan commands actions.Ask s act o asks needs = needs.0
requests_in_ready plan commands actions.Prepare s act o asks needs = needs.0
requests_in_ready plan commands actions.Send s act o asks needs = needs.0
requests_in_ready plan commands actions.Flush s act o asks needs = needs.0
requests_in_ready plan commands next s act o asks needs = absurd (others_send_no_request plan commands next s act o (λ is. cc, λ is. cc, λ is. cc, λ is. cc) asks)

-- if a request is sent, its connection is as `IsClearedAndQuiet` says
pub cleared_and_quiet : (plan : Plan) (commands : List Task) (scope : Scope) (earlier later : List Act) (act : Act)
    → Runs plan commands (opening plan scope) (earlier ++ act ∷ later) → SendsRequest act → IsClearedAndQuiet plan commands scope earlier
cleared_and_quiet plan commands scope earlier later act runs asks =
    let s = state_after plan commands scope earlier in
    let split = runs_split plan commands (opening plan scope) earlier later act runs in
    let ready = requests_in_ready plan commands (action_at plan s) s act split.1 asks (action_for plan s.progress (waiting_of s)) in
    was_cleared plan commands scope earlier (stage_in plan commands scope s.progress phase.Ready earlier ready (stage_holds plan commands scope earlier split.0))
