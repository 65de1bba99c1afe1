-- A setup of which something was sent goes on at once or is begun again, whatever act follows (`SettingUp`). An act is one call on the
-- link, with its result.
use Rattle.gc_station.proofs.Common.{◌≡◌, ◌⊎◌, inl, inr, ℕ, suc, ◌+◌, ◌*◌, ◌-◌, ◌<◌, ◌≤◌, ◌||◌, Bool, true, false, not, List, [], ◌∷◌, ◌++◌, length, drop, min, Some, None, if◌then◌else◌, take, nat_lt, nat_eq, refl, sym, ap, ◌∙◌, subst, arith, suc-mul, mul-le-mul_right, AllByRecursion, both_ways, nat_tests, nil_from_length, length-map, every_weaker, every_drop, is_of_table, Asked, deadlines, expired, pending_of, Pending, WINDOW, Occasion, Task, rest_behind, Table, NullProc, is_none_left, Act, Told, Untold, Gave, Silent, Ended, Broke, Moment, IsAskedToWait, ClockRises, later, has_begun, is_preparing, setup_permits, commands_in, last_well, occasion_of, Model, waiting_of, with_progress, with_moment, with_rest, with_more_records, after_piece, asks_for, asks_setup, request_or_null, null_request, lines_completed, is_heard, moved, Performs, mark_setup_sent, commands_before, turned, failing, moment_noted, time_passed, quieted, setup_sent, request_noted, null_sent, cleared, early_noted, IsAsking, HoldsBefore, AwaitsReply, AwaitsSomething, WantsNull, raw_count, command_at, Cause, Plan, Action, Phase, Progress, Until, Limit, Due}
use Rattle.std.proofs.Common.{length-drop}
use Rattle.gc_station.proofs.InCycle.{within_window}
use Rattle.gc_station.proofs.BehindRaw.{raws_rise, raws_within, raws_next, raw_text, may_flush, flushed_again}
use Rattle.gc_station.proofs.CallTimes.{IsTimely, deadlines_within, waits_in_flight}
use Rattle.gc_station.proofs.Closings.{came_phase}
use Rattle.gc_station.proofs.HeldUp.{expired_tables}
use Rattle.gc_station.proofs.InFlight.{EndsBy, TimesOut, expired_by, expired_early, expired_after, null_ends, prepared_ends}
use Rattle.gc_station.proofs.Invariant.{Paired, is_before_requests}
use Rattle.gc_station.proofs.LastCommand.{LastIsAlone, alone_expired, alone_sent, alone_flushed}
use Rattle.gc_station.proofs.Records.{commands-append}
use Rattle.gc_station.proofs.Walk.{lines_along, closed_along, moved_changed, piece_before, model_sent, walk}
use Rattle.gc_station.proofs.Words.{begun_unless_renewed}
use Rattle.gc_station.proofs.UnderWay.{not_permitted, preparing_then, some_unsent, still_preparing, none_prepared, sent_with_room, IsEarly, IsFlushing, setup_limit, IsSettled, GoesNext, IsUnderWay, IsWithin, SettingUp, Listens, line_heard, failed_sets, soon_if_well}
use Rattle.gc_station.specs.declared.cause.Cause.TheVariants as cause
use Rattle.gc_station.specs.declared.progress.Action.TheVariants as actions
use Rattle.gc_station.specs.declared.progress.Phase.TheVariants as phase

module _ (plan : Plan) (longest call turn loss : ℕ) (commands : List Task) (span : ℕ) (few : plan.deadline ≤ longest) (all_few : AllByRecursion (λ (task : Task). task.deadline ≤ longest) commands)
    (listed : plan.setup ≤ length commands) (turns : longest + call ≤ turn) (losses : 7 * turn ≤ loss) where
  -- `setup_limit`, and the facts of a setup, with these plans and times
  abbrev limit_at : Progress → ℕ
  limit_at p = setup_limit plan longest call turn loss commands p

  -- `IsSettled`
  abbrev JustSettled : Model → Type 0
  JustSettled x = IsSettled plan longest call turn loss commands x

  -- the null procedures of `IsFlushing`, behind a raw command of the setup
  abbrev Flushing : Model → Type 0
  Flushing x =
      IsFlushing (raw_count (take (plan.setup - 1) commands)) call turn (limit_at x.progress) x.progress.exchange.behind x.progress.moment.elapsed x.progress.clock_due x.client.waiting

  -- `IsUnderWay`
  abbrev Under : Model → Type 0
  Under x = IsUnderWay plan longest call turn loss commands x

  -- `IsWithin`
  abbrev Within : Progress → Type 0
  Within p = IsWithin plan longest call turn loss commands p

  -- `SettingUp`
  abbrev Sets : Model → Type 0
  Sets x = SettingUp plan longest call turn loss commands x

  -- `Listens`
  abbrev Listening : Model → Type 0
  Listening x = Listens plan longest call turn loss commands x

  -- `setup_limit` once this many commands of the setup were sent, in a cycle that began at this moment
  abbrev limit_of : (began prepared : ℕ) → ℕ
  limit_of began prepared = (began + 2 * plan.every) + ((longest + prepared * longest) + raw_count (take prepared (take (plan.setup - 1) commands)) * loss)

  -- which deadlines are early (`IsEarlyIn`) once this many commands of the setup were sent, with this limit
  abbrev Early : (prepared limit : ℕ) → ℕ → Type 0
  Early prepared limit d = prepared < plan.setup → IsEarly (raw_count (take (plan.setup - 1) commands)) loss limit d

  -- a call that failed leaves all as it should be
  failed : (x : Model) (why : Cause) → Within x.progress → Sets (with_progress (failing why) x)
  failed x why within = failed_sets plan longest call turn loss commands x why within

  -- a request that ends by a limit ends by a later one
  ends_later : (limit limit' : ℕ) (ws : List (Pending Asked)) → limit ≤ limit' → AllByRecursion (EndsBy limit) ws → AllByRecursion (EndsBy limit') ws
  ends_later limit limit' ws more all = every_weaker (EndsBy limit) (EndsBy limit') ws (λ q by e. let low = by e in omega (arith, low, more)) all

  module _ (s : Model) (act : Act) (paired : Paired s) (out : TimesOut plan longest span s) (h : Sets s) where
    -- the model before the act, with its turn taken
    abbrev u : Model
    u = with_progress turned s

    -- at a moment the limit doesn't go back
    limit_rises : (m : Moment) → ClockRises s.progress.moment.elapsed (Told m ∷ []) → limit_at s.progress ≤ limit_at (moment_noted m s.progress)
    limit_rises m rises = let past = out.0 in let now = rises.0 in omega (arith, past, now)

    -- the limit depends on when the cycle began, and how much of the setup was sent
    same_limit : (m : Moment) (q : Progress) → q.began ≡ (moment_noted m s.progress).began → q.prepared ≡ s.progress.prepared → limit_at (moment_noted m s.progress) ≡ limit_at q
    same_limit m q began prepared =
        ap (λ (n : ℕ). limit_of n s.progress.prepared) (sym began) ∙ ap (λ (n : ℕ). limit_of q.began n) (sym prepared)

    -- the phase isn't one before requests
    quiet : (at : Phase) → s.progress.phase ≡ at → is_before_requests at ≡ true → s.progress.preparing ≡ true → 0 < s.progress.prepared → ⊥
    quiet at is before on some = both_ways (is_before_requests s.progress.phase) (h.0 on some).1 (ap is_before_requests is ∙ before)

    -- null procedures behind a raw command stay so at a moment that comes soon enough
    flushing_told : (m : Moment) → ClockRises s.progress.moment.elapsed (Told m ∷ []) → (f : Flushing s) → m.elapsed + f.more * turn < limit_at s.progress
        → (q : Progress) → q.began ≡ (moment_noted m s.progress).began → q.prepared ≡ s.progress.prepared → q.exchange.behind ≡ s.progress.exchange.behind → q.moment ≡ m → q.clock_due ≡ false
        → Flushing (with_moment m (record u { progress = q }))
    flushing_told m rises f soon q began prepared behind moment read =
        let low = limit_rises m rises in
        let many = length-map s.client.waiting (expired m.elapsed) in
        let now : q.moment.elapsed ≡ m.elapsed = ap (λ (x : Moment). x.elapsed) moment in
        let none : (if q.clock_due then call else 0) ≡ 0 = ap (λ (b : Bool). if b then call else 0) read in
        record {
          raw = f.raw;
          tables = expired_tables m.elapsed s.client.waiting f.tables;
          more = f.more;
          enough = λ far. let enough = f.enough (omega (arith, behind, far)) in omega (arith, many, enough);
          ends = expired_early (suc (call + f.more * turn)) (limit_at s.progress) (limit_at q) m.elapsed s.client.waiting
              (subst (λ (n : ℕ). limit_at s.progress ≤ n) (same_limit m q began prepared) low) f.ends;
          soon = subst (λ (n : ℕ). (q.moment.elapsed + (if q.clock_due then call else 0)) + f.more * turn < n) (same_limit m q began prepared) (omega (arith, low, now, none, soon));
        }

    -- after a moment that was read the setup is under way if it was: the next command isn't to be sent at once, and null procedures are
    -- read of soon enough
    told_under : (m : Moment) → ClockRises s.progress.moment.elapsed (Told m ∷ []) → (s.progress.prepared < plan.setup → JustSettled s → ⊥)
        → (s.progress.prepared < plan.setup → (f : Flushing s) → m.elapsed + f.more * turn < limit_at s.progress) → Under s
        → (q : Progress) → q.began ≡ (moment_noted m s.progress).began → q.prepared ≡ s.progress.prepared → q.exchange.behind ≡ s.progress.exchange.behind → q.moment ≡ m → q.clock_due ≡ false
        → Under (with_moment m (record u { progress = q }))
    told_under m rises never timely it q began prepared behind moment read =
        let low : limit_at s.progress ≤ limit_at q = subst (λ (n : ℕ). limit_at s.progress ≤ n) (same_limit m q began prepared) (limit_rises m rises) in (
          alone_expired (Early s.progress.prepared (limit_at s.progress)) (Early q.prepared (limit_at q))
              (λ d early left. let is = early (subst (λ (n : ℕ). n < plan.setup) prepared left) in let by = is.by in record { raw = is.raw; by = omega (arith, by, low) }) m.elapsed s.marks s.client.waiting it.0,
          expired_by (limit_at s.progress) (limit_at q) m.elapsed s.client.waiting low it.1,
          λ some none well. let left = subst (λ (n : ℕ). n < plan.setup) prepared some in by_way left (it.2 left none well),
        ) where
          -- the lemma above, by how the setup goes on
          by_way : s.progress.prepared < plan.setup → GoesNext plan longest call turn loss commands s → GoesNext plan longest call turn loss commands (with_moment m (record u { progress = q }))
          by_way left (inl settled) = absurd (never left settled)
          by_way left (inr f) = inr (flushing_told m rises f (timely left f) q began prepared behind moment read)

    -- the station reads, in the middle of a setup, only in the phase `Ready`, and where the next command is to be sent only while
    -- something is in flight
    reads_ready : (until : Until) → AwaitsSomething plan s.progress (waiting_of s) until → s.progress.preparing ≡ true → 0 < s.progress.prepared
        → (s.progress.phase ≡ phase.Ready) × (s.progress.prepared < plan.setup → 0 < length (deadlines s.client.waiting))
    reads_ready until awaits on some = by_until until awaits where
      -- the station has synchronized
      begun : has_begun s.progress ≡ true
      begun = (h.0 on some).0

      -- something is in flight
      flies : AwaitsReply plan s.progress (waiting_of s) → s.progress.prepared < plan.setup → 0 < length (deadlines s.client.waiting)
      flies (inl begins) left = absurd (both_ways (has_begun s.progress) begins.0 begun)
      flies (inr (inl nothing)) left = nothing.1
      flies (inr (inr set_up)) left = let none = set_up.1 in absurd (omega (arith, none, left))

      -- by what the read waits for
      by_until : (until : Until) → AwaitsSomething plan s.progress (waiting_of s) until → (s.progress.phase ≡ phase.Ready) × (s.progress.prepared < plan.setup → 0 < length (deadlines s.client.waiting))
      by_until Limit (inl pausing) = absurd (quiet phase.Pausing pausing refl on some)
      by_until Limit (inr (inl draining)) = absurd (quiet phase.Draining draining refl on some)
      by_until Limit (inr (inr ready)) = (ready.0, flies ready.1)
      by_until Due (is, inl (idle, inl begins)) = absurd (both_ways (has_begun s.progress) begins begun)
      by_until Due (is, inl (idle, inr unsent)) = let none = unsent.1 in absurd (omega (arith, none, some))
      by_until Due (is, inr done) = (is, λ left. absurd (both_ways (is_preparing plan s.progress (waiting_of s)) done.3 (still_preparing plan s.progress (waiting_of s) on left)))

    -- nothing is in flight where the next command is to be sent at once
    none_flies : (s.progress.prepared < plan.setup → 0 < length (deadlines s.client.waiting)) → s.progress.prepared < plan.setup → JustSettled s → ⊥
    none_flies flies left settled =
        let none : length (deadlines s.client.waiting) ≡ 0 = ap (λ (ws : List (Pending Asked)). length (deadlines ws)) settled.0 in
        let some = flies left in omega (arith, none, some)

    -- a read returns soon enough for the null procedures that may yet be sent
    read_soon : (until : Until) (now wait : ℕ) → s.progress.clock_due ≡ false → IsAskedToWait plan s (actions.Read until) wait → now ≤ (s.progress.moment.elapsed + wait) + call
        → 0 < length (deadlines s.client.waiting) → (f : Flushing s) → now + f.more * turn < limit_at s.progress
    read_soon until now wait read asked by some f =
        let within = deadlines_within (suc (call + f.more * turn)) (limit_at s.progress) s.progress.moment.elapsed s.client.waiting f.ends (out.2 read) in
        let short = waits_in_flight plan s (suc (call + f.more * turn)) (limit_at s.progress) within (λ none. omega (arith, none, some)) (actions.Read until) wait asked in
        omega (arith, short, by)

    -- after a read
    sets_read : (until : Until) (act : Act) → Performs commands s (actions.Read until) act → AwaitsSomething plan s.progress (waiting_of s) until → ClockRises s.progress.moment.elapsed (act ∷ [])
        → (0 < raw_count (take (plan.setup - 1) commands) → s.progress.phase ≡ phase.Ready → has_begun s.progress ≡ true → IsTimely plan s call (actions.Read until) act)
        → Sets (moved plan commands (actions.Read until) u act)
    sets_read until (Gave bytes m) obeys awaits rises timely = (within, λ ready on some. under (same_flag on) (same_count some)) where
      -- the model after the act
      t : Model
      t = moved plan commands (actions.Read until) u (Gave bytes m)

      -- the setup isn't over if it isn't after the act
      same_flag : t.progress.preparing ≡ true → s.progress.preparing ≡ true
      same_flag on = sym (ap (λ (x : Model). x.progress.preparing) (moved_changed plan commands (actions.Read until) u (Gave bytes m))) ∙ on

      -- as much of it was sent
      same_count : 0 < t.progress.prepared → 0 < s.progress.prepared
      same_count some = subst (λ (n : ℕ). 0 < n) (ap (λ (x : Model). x.progress.prepared) (moved_changed plan commands (actions.Read until) u (Gave bytes m))) some

      -- the setup is within its connection
      within : Within t.progress
      within on some =
          let was = h.0 (same_flag on) (same_count some) in (
            begun_unless_renewed plan commands s (actions.Read until) (Gave bytes m) obeys (λ e. cc) was.0,
            ap is_before_requests (came_phase (is_heard s.progress.phase) s.progress.exchange.word bytes (piece_before m s)) ∙ was.1,
          )

      -- the model before the lines
      x : Model
      x = piece_before m s

      -- the lines keep what is so before them
      came : (heard : Bool) (word : List ℕ) → is_none_left word ≡ true → Listening x → Listening (after_piece heard word bytes x)
      came true [] e l = lines_along (Listening) (line_heard plan longest call turn loss commands) (with_rest (rest_behind x.rest bytes) x) (lines_completed x.rest bytes) l
      came true (asked ∷ others) e l = cc
      came false word e l = l

      -- the setup is under way
      under : s.progress.preparing ≡ true → 0 < s.progress.prepared → Under t
      under on some =
          let it = reads_ready until awaits on some in
          let begun = (h.0 on some).0 in
          let told : Listening x = (
            λ on' some'. told_under m rises (none_flies it.1) (λ left f. let in_time = timely f.raw it.0 begun in read_soon until m.elapsed in_time.wait in_time.read in_time.asked in_time.by (it.1 left) f) (h.1 it.0 on some) x.progress refl refl refl refl refl,
            expired_after m.elapsed s.client.waiting,
            refl,
          ) in
          let after = came (is_heard s.progress.phase) s.progress.exchange.word begun told in
          after.0 (ap (λ (x : Model). x.progress.preparing) (moved_changed plan commands (actions.Read until) u (Gave bytes m)) ∙ on)
          (subst (λ (n : ℕ). 0 < n) (sym (ap (λ (x : Model). x.progress.prepared) (moved_changed plan commands (actions.Read until) u (Gave bytes m)))) some)
    sets_read until (Silent m) obeys awaits rises timely = (within, λ ready on some. under (same_flag on) (same_count some)) where
      -- the model after the act
      t : Model
      t = moved plan commands (actions.Read until) u (Silent m)

      -- the setup isn't over if it isn't after the act
      same_flag : t.progress.preparing ≡ true → s.progress.preparing ≡ true
      same_flag on = sym (ap (λ (x : Model). x.progress.preparing) (moved_changed plan commands (actions.Read until) u (Silent m))) ∙ on

      -- as much of it was sent
      same_count : 0 < t.progress.prepared → 0 < s.progress.prepared
      same_count some = subst (λ (n : ℕ). 0 < n) (ap (λ (x : Model). x.progress.prepared) (moved_changed plan commands (actions.Read until) u (Silent m))) some

      -- in the phase `Ready` nothing happens
      stays : s.progress.phase ≡ phase.Ready → t.progress ≡ time_passed until m u.progress
      stays ready = ap (λ (at : Phase). quieted plan at (time_passed until m u.progress)) ready

      -- the setup is within its connection
      within : Within t.progress
      within on some =
          let was = h.0 (same_flag on) (same_count some) in
          let it = reads_ready until awaits (same_flag on) (same_count some) in
          (ap has_begun (stays it.0) ∙ was.0, ap (λ (p : Progress). is_before_requests p.phase) (stays it.0) ∙ was.1)

      -- the setup is under way
      under : s.progress.preparing ≡ true → 0 < s.progress.prepared → Under t
      under on some =
          let it = reads_ready until awaits on some in
          subst (λ (q : Progress). Under (with_moment m (record u { progress = q }))) (sym (stays it.0))
          (told_under m rises (none_flies it.1) (λ left f. let in_time = timely f.raw it.0 (h.0 on some).0 in read_soon until m.elapsed in_time.wait in_time.read in_time.asked in_time.by (it.1 left) f) (h.1 it.0 on some) (time_passed until m u.progress) refl refl refl refl refl)
    sets_read until Ended obeys awaits rises timely = failed u cause.End h.0
    sets_read until Broke obeys awaits rises timely = failed u cause.Read h.0
    sets_read until Untold obeys awaits rises timely = failed u cause.Clock h.0
    sets_read until act obeys awaits rises timely = absurd obeys

    module _ (may : HoldsBefore plan s.progress (waiting_of s) actions.Prepare) (punctual : setup_permits plan s.progress (waiting_of s) ≡ true → s.progress.moment.elapsed - s.progress.began < 2 * plan.every) where
      -- how many commands of the setup were sent before
      abbrev k : ℕ
      k = s.progress.prepared

      -- the setup's commands before its last one
      abbrev fronts : List Task
      fronts = take (plan.setup - 1) commands

      -- the limit once one more was sent, if that is a call of the table
      abbrev limit : ℕ
      limit = (s.progress.began + 2 * plan.every) + ((longest + suc k * longest) + raw_count (take k fronts) * loss)

      -- it is no later than that once one more was sent
      limits : limit ≤ limit_of s.progress.began (suc k)
      limits =
          let most : raw_count (take k fronts) * loss ≤ raw_count (take (suc k) fronts) * loss = mul-le-mul_right loss (raws_rise k (suc k) fronts (omega arith)) in
          omega (arith, most)

      -- the deadline of the next one is early enough, and all others end by then
      in_time : (s.progress.moment.elapsed + longest ≤ limit) × AllByRecursion (EndsBy limit) s.client.waiting
      in_time = by_test (nat_eq k 0) refl may.2.2 where
        -- the first one
        first : k ≡ 0 → (s.progress.moment.elapsed + longest ≤ limit) × AllByRecursion (EndsBy limit) s.client.waiting
        first none =
            let permits : setup_permits plan s.progress (waiting_of s) ≡ true = first_permits (is_preparing plan s.progress (waiting_of s)) (nat_eq k 0) (nat_lt 0 (commands_in s.marks)) (grind (arith, nat_tests, none)) in
            let past = out.0 in
            let short = punctual permits in
            let early : s.progress.moment.elapsed + longest ≤ limit = omega (arith, past, short) in
            (early, ends_later (s.progress.moment.elapsed + longest) limit s.client.waiting early out.3) where
              -- a setup of which nothing was sent lets the cycle be abandoned
              first_permits : (preparing none some : Bool) → none ≡ true → (not preparing || (none || some)) ≡ true
              first_permits true true some e = refl
              first_permits false none some e = refl
              first_permits true false some e = cc

        -- by whether it is the first
        by_test : (b : Bool) → nat_eq k 0 ≡ b → (k ≡ 0) ⊎ ((commands_in s.marks ≡ 0) × (last_well false s.records ≡ true))
            → (s.progress.moment.elapsed + longest ≤ limit) × AllByRecursion (EndsBy limit) s.client.waiting
        by_test true e before = first (grind (arith, nat_tests, e))
        by_test false e (inl none) = first none
        by_test false e (inr before) =
            let some : 0 < k = grind (arith, nat_tests, e) in
            let on = preparing_then s.progress.preparing _ may.2.0 in
            let under = h.1 may.0 on some in
            let soon = soon_if_well plan longest call turn loss commands s h may.0 (may.2.0, some, before.0) before.1 in
            let more = suc-mul k longest in
            (omega (arith, soon, more), ends_later (limit_at s.progress) limit s.client.waiting (omega (arith, more)) under.1)

      -- the next command is alone once it was sent, and outstanding: `left` are the commands from it on
      sent_alone : (left : List Task) → drop k commands ≡ left
          → let t = asks_for (request_or_null plan (mark_setup_sent commands u) left) u in LastIsAlone (Early (suc k) (limit_of s.progress.began (suc k))) t.marks t.client.waiting × (0 < commands_in t.marks)
      sent_alone [] e =
          let n : length commands - k ≡ 0 = sym (length-drop k commands) ∙ ap length e in
          let below = may.2.1 in
          absurd (omega (arith, n, listed, below))
      sent_alone (task ∷ others) e =
          let mark = mark_setup_sent commands u in
          let command = command_at (occasion_of mark) task in
          let one = pending_of command.target command.call (later s.progress.moment.elapsed task.deadline) in
          let more = commands-append s.marks (Some mark ∷ []) in (
            subst (λ (ws : List (Pending Asked)). LastIsAlone (Early (suc k) (limit_of s.progress.began (suc k))) (s.marks ++ Some mark ∷ []) ws)
                (sym (sent_with_room s.client command s.progress.moment.elapsed task.deadline (within_window _ _ may.3.1)))
                (alone_sent (Early (suc k) (limit_of s.progress.began (suc k))) mark one (λ raw. early (occasion_of mark) raw) s.marks s.client.waiting paired),
            omega (arith, more),
          ) where
            -- if it is a raw command, its deadline is early
            early : (occasion : Occasion) → is_of_table (command_at occasion task).call ≡ false → Early (suc k) (limit_of s.progress.began (suc k)) (later s.progress.moment.elapsed task.deadline)
            early occasion raw left =
                let one_more = raws_next (plan.setup - 1) k commands task others (omega (arith, left)) e (raw_text task occasion raw) in
                let most = raws_within (suc k) fronts in
                let all : raw_count (take (suc k) fronts) * loss ≡ suc (raw_count (take k fronts)) * loss = ap (λ (n : ℕ). n * loss) one_more in
                let more = suc-mul (raw_count (take k fronts)) loss in
                let short = in_time.0 in
                let within : AllByRecursion (λ (t : Task). t.deadline ≤ longest) (task ∷ others) =
                subst (λ (ts : List Task). AllByRecursion (λ (t : Task). t.deadline ≤ longest) ts) e (every_drop (λ (t : Task). t.deadline ≤ longest) commands k all_few) in
                let own = within.0 in
                record { raw = omega (arith, one_more, most); by = omega (arith, all, more, short, own) }

      -- the model once it was sent
      abbrev prepared : Model
      prepared = with_progress (setup_sent plan) (asks_setup plan commands u)

      -- the setup is within its connection
      prepared_within : Within prepared.progress
      prepared_within on some = (may.1, ap is_before_requests may.0)

      -- it is under way
      prepared_under : Under prepared
      prepared_under =
          let below = may.2.1 in
          let count : min (k + 1) plan.setup ≡ suc k = omega (arith, below) in
          let it = sent_alone (drop k commands) refl in
          let some = it.1 in (
            subst (λ (n : ℕ). LastIsAlone (Early n (limit_of s.progress.began n)) prepared.marks prepared.client.waiting) (sym count) it.0,
            subst (λ (n : ℕ). AllByRecursion (EndsBy (limit_of s.progress.began n)) prepared.client.waiting) (sym count)
                (ends_later limit (limit_of s.progress.began (suc k)) prepared.client.waiting limits (prepared_ends plan longest span commands few all_few u limit in_time.0 in_time.1)),
            λ left none well. absurd (omega (arith, some, none)),
          )

    -- after a null procedure was sent
    flushed_under : HoldsBefore plan s.progress (waiting_of s) actions.Flush → (setup_permits plan s.progress (waiting_of s) ≡ true → s.progress.moment.elapsed - s.progress.began < 2 * plan.every)
        → (setup_permits plan s.progress (waiting_of s) ≡ false → last_well false s.records ≡ true) → Under s → Under (with_progress request_noted (asks_for (null_request plan) u))
    flushed_under needs punctual answered under =
        let one = pending_of 0 (Table NullProc) (later s.progress.moment.elapsed plan.deadline) in (
          subst (λ (ws : List (Pending Asked)). LastIsAlone (Early s.progress.prepared (limit_at s.progress)) (s.marks ++ None ∷ []) ws)
              (sym (sent_with_room s.client (null_request plan).command s.progress.moment.elapsed plan.deadline (within_window _ _ needs.4.1)))
              (alone_flushed (Early s.progress.prepared (limit_at s.progress)) one s.marks s.client.waiting paired (nil_from_length (deadlines s.client.waiting) needs.3) under.0),
          null_ends plan longest span commands few all_few u (limit_at s.progress) (short (setup_permits plan s.progress (waiting_of s)) refl) under.1,
          λ left none well.
              let more = commands-append s.marks (None ∷ []) in
              let settled : commands_in s.marks ≡ 0 = omega (arith, none, more) in
              let far = wanted settled needs.2 in
              inr (flushed_again plan longest call turn loss commands few turns losses s far (within_window _ _ needs.4.1) (may_flush plan longest call turn loss commands few turns losses s far (within_window _ _ needs.4.1) (under.2 left settled well))),
        ) where
          -- where no command is outstanding, a null procedure is wanted as seven requests were sent behind the last answered call of the table
          wanted : commands_in s.marks ≡ 0 → WantsNull plan s.progress (waiting_of s) → WINDOW ≤ s.progress.exchange.behind
          wanted none (inl waits) = let some = waits.1 in absurd (omega (arith, none, some))
          wanted none (inr wants) = wants.1

          -- its deadline is early enough
          short : (b : Bool) → setup_permits plan s.progress (waiting_of s) ≡ b → s.progress.moment.elapsed + longest ≤ limit_at s.progress
          short true e = let past = out.0 in let early = punctual e in omega (arith, past, early)
          short false e =
              let it = not_permitted plan s.progress (waiting_of s) e in
              let well = answered e in
              let far = wanted it.2 needs.2 in
              let f = may_flush plan longest call turn loss commands few turns losses s far (within_window _ _ needs.4.1) (under.2 (some_unsent plan s.progress (waiting_of s) it.0 it.2 well) it.2 well) in
              let soon = f.soon in
              omega (arith, soon, turns)

    -- after an act by this action: `SettingUp`, if the clock doesn't go back at it, and its call returns in time where there are raw commands
    abbrev Claim : Action → Act → Model → Type 0
    Claim o a t =
        ClockRises s.progress.moment.elapsed (a ∷ [])
        → (0 < raw_count (take (plan.setup - 1) commands) → s.progress.phase ≡ phase.Ready → has_begun s.progress ≡ true → IsTimely plan s call o a) → Sets t

    -- no command of the setup was sent since it began again
    anew : 0 < 0 → ⊥
    anew none = omega (arith, none)

    -- the clock is read soon enough behind a null procedure
    clock_soon : s.progress.clock_due ≡ true → (m : Moment) → IsTimely plan s call actions.ReadClock (Told m) → (f : Flushing s) → m.elapsed + f.more * turn < limit_at s.progress
    clock_soon due m timely f =
        let soon = f.soon in
        let all : (if s.progress.clock_due then call else 0) ≡ call = ap (λ (b : Bool). if b then call else 0) due in
        omega (arith, soon, all, timely)

    -- after an act of each action: `SettingUp`, if a request is sent only while the cycle isn't out of time, or by a setup that goes on
    -- as its last command was answered well
    pub sets_moved : (o : Action) → Performs commands s o act → HoldsBefore plan s.progress (waiting_of s) o
        → (IsAsking o → setup_permits plan s.progress (waiting_of s) ≡ true → s.progress.moment.elapsed - s.progress.began < 2 * plan.every)
        → (IsAsking o → setup_permits plan s.progress (waiting_of s) ≡ false → last_well false s.records ≡ true)
        → Claim o act (moved plan commands o u act)
    sets_moved actions.ReadClock b needs punctual answered =
        walk plan commands (Claim actions.ReadClock) actions.ReadClock u act b (
          λ m rises timely. (
            h.0,
            λ ready on some. told_under m rises (λ left it. both_ways s.progress.clock_due it.1 needs)
                (λ left f. clock_soon needs m (timely f.raw ready (h.0 on some).0) f) (h.1 ready on some) (early_noted plan (commands_in s.marks) (moment_noted m u.progress)) refl refl refl refl refl,
          ),
          λ n rises timely. failed u cause.Clock h.0,
        )
    sets_moved actions.Renew b needs punctual answered =
        walk plan commands (Claim actions.Renew) actions.Renew u act b (λ m rises timely. (λ on some. absurd (anew some), λ ready on some. absurd (anew some)), λ n rises timely. failed u cause.Clock h.0)
    sets_moved actions.Begin b needs punctual answered =
        walk plan commands (Claim actions.Begin) actions.Begin u act b (
          λ m rises timely. (λ on some. absurd (none_prepared s.progress.preparing s.progress.prepared on some), λ ready on some. absurd (none_prepared s.progress.preparing s.progress.prepared on some)),
          λ n rises timely. failed u cause.Clock h.0,
        )
    sets_moved actions.Skip b needs punctual answered =
        walk plan commands (Claim actions.Skip) actions.Skip u act b (
          λ m rises timely. (λ on some. absurd (none_prepared s.progress.preparing s.progress.prepared on some), λ ready on some. absurd (none_prepared s.progress.preparing s.progress.prepared on some)),
          λ n rises timely. failed (with_more_records [] u) cause.Clock h.0,
        )
    sets_moved actions.Pass b needs punctual answered =
        walk plan commands (Claim actions.Pass) actions.Pass u act b (
          λ m rises timely. (λ on some. absurd (none_prepared s.progress.preparing s.progress.prepared on some), λ ready on some. absurd (none_prepared s.progress.preparing s.progress.prepared on some)),
          λ n rises timely. failed u cause.Clock h.0,
        )
    sets_moved actions.Open b needs punctual answered =
        walk plan commands (Claim actions.Open) actions.Open u act b (
          λ m rises timely. (λ on some. absurd (quiet phase.Down needs refl on some), λ ready on some. absurd (quiet phase.Down needs refl on some)),
          λ n rises timely. (λ on some. absurd (anew some), λ ready on some. absurd (anew some)),
        )
    sets_moved actions.Clear b needs punctual answered =
        let within : Within (cleared u.progress) = λ on some. absurd (quiet phase.Clearing needs refl on some) in
        walk plan commands (Claim actions.Clear) actions.Clear u act b (
          λ m rises timely. (within, λ ready on some. absurd (quiet phase.Clearing needs refl on some)),
          λ n rises timely. failed (with_progress cleared u) (cause.Write (commands_before plan commands u.progress) n) within,
        )
    sets_moved actions.Ask b needs punctual answered =
        let within : Within (null_sent plan u.progress) = λ on some. absurd (both_ways (has_begun s.progress) needs.1 (h.0 on some).0) in
        walk plan commands (Claim actions.Ask) actions.Ask u act b (
          λ m rises timely. (within, λ ready on some. absurd (both_ways (has_begun s.progress) needs.1 (h.0 on some).0)),
          λ n rises timely. failed (with_progress (null_sent plan) u) (cause.Write (commands_before plan commands u.progress) n) within,
        )
    sets_moved actions.Prepare b needs punctual answered =
        walk plan commands (Claim actions.Prepare) actions.Prepare u act b (
          λ m rises timely. (prepared_within needs (punctual tt), λ ready on some. prepared_under needs (punctual tt)),
          λ n rises timely. failed (prepared needs (punctual tt)) (cause.Write (commands_before plan commands u.progress) n) (prepared_within needs (punctual tt)),
        )
    sets_moved actions.Send b needs punctual answered =
        walk plan commands (Claim actions.Send) actions.Send u act b (
          λ m rises timely. (λ on some. cc, λ ready on some. cc),
          λ n rises timely. failed (model_sent plan commands u) (cause.Write (commands_before plan commands u.progress) n) (λ on some. cc),
        )
    sets_moved actions.Flush b needs punctual answered =
        let within : Within (request_noted u.progress) = λ on some. (needs.1, ap is_before_requests needs.0) in
        walk plan commands (Claim actions.Flush) actions.Flush u act b (
          λ m rises timely. (within, λ ready on some. flushed_under needs (punctual tt) (answered tt) (h.1 needs.0 on some)),
          λ n rises timely. failed (with_progress request_noted (asks_for (null_request plan) u)) (cause.Write (commands_before plan commands u.progress) n) within,
        )
    sets_moved (actions.Read until) b needs punctual answered = λ rises timely. sets_read until act b needs rises timely
    sets_moved (actions.Close why) b needs punctual answered =
        walk plan commands (Claim (actions.Close why)) (actions.Close why) u act b
        (λ rises timely. closed_along (λ (q : Progress). Sets (record (with_rest [] u) { progress = q })) plan (waiting_of (with_rest [] u)) why u.progress
        (λ on some. ((h.0 on some).0, refl), λ ready. cc) (λ on some. absurd (anew some), λ ready on some. absurd (anew some)))
    sets_moved (actions.Stop why) b needs punctual answered = absurd b
