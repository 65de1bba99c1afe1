-- By when a run is at its end once that was asked for, where the calls on the link return in their time: each request that is in flight
-- times out in time, so each read ends in time, and the next request is sent in time. An act is one call on the link, with its result.
use Rattle.gc_station.proofs.Common.{mul-le-mul_right, ◌≡◌, ◌⊎◌, inl, inr, ℕ, ◌+◌, ◌*◌, ◌≤◌, Bool, true, false, List, [], ◌∷◌, ◌++◌, drop, map, refl, sym, ap, ◌∙◌, subst, arith, append-nil, append_assoc, AllByRecursion, every_drop, every_weaker, Asked, Pending, heard, expired, Task, Act, Told, Gave, Silent, Moment, ClockRises, Model, opening, action_at, waiting_of, with_progress, with_moment, with_rest, line_came, lines_completed, is_heard, piece_at, moved, with_losses, after, Performs, Runs, mark_sent, place_next, requests_by, requests_sent, requests_once_asked, requests_of_table_once_asked, end_bound, EndsByBoundOnceAsked, EndsATableRunByBoundOnceAsked, turned, moment_noted, time_passed, loses_all, IsAsking, MayTakeTime, IsAskedToWait, IsReadBy, AreQuick, CallsReturn, ReadingsReturn, state_after, Scope, latest, asked_after, Plan, Action, Progress, Until}
use Rattle.gc_station.proofs.Always.{always}
use Rattle.gc_station.proofs.Closings.{runs_split}
use Rattle.gc_station.proofs.Counts.{with_losses_progress}
use Rattle.gc_station.proofs.Going.{after_all-append, runs_front}
use Rattle.gc_station.proofs.InFlight.{EndsBy, EndsEarly, EndsAfter, expired_after, expired_by, all_heard, first_ends, null_ends, prepared_ends}
use Rattle.gc_station.proofs.InTime.{asked_stays}
use Rattle.gc_station.proofs.OnceAsked.{ends_soon}
use Rattle.gc_station.proofs.OnceAskedInChain.{finishes_its_chain}
use Rattle.gc_station.proofs.CallTimes.{latest_append, deadlines_within, waits_in_flight, read_if_slow, by_front}
use Rattle.gc_station.proofs.OnceAskedOfTable.{finishes_a_table_chain}
use Rattle.gc_station.proofs.RealTime.{slow_or_quick, latest_rises, rises_behind, LastSlow, last_slow, quick_behind, read_by}
use Rattle.gc_station.proofs.Staying.{gave_stays, silent_stays}
use Rattle.gc_station.proofs.Stopping.{asked-append}
use Rattle.gc_station.proofs.Ticking.{rises_front, latest_more, last_ticks, rises_before}
use Rattle.gc_station.proofs.Walk.{asked_along, came_along, quieted_along, closed_along, losing_along, walk}
use Rattle.gc_station.specs.declared.progress.Action.TheVariants as actions

-- The moment read last.

-- after an act from the model `s` on the moment is the one that was read last
abbrev IsLatest : Model → Act → Model → Type 0
IsLatest s act t = t.progress.moment.elapsed ≡ latest s.progress.moment.elapsed (act ∷ [])

-- so it is after an act of each action
moment_moved : (plan : Plan) (commands : List Task) (s : Model) (o : Action) (act : Act) → Performs commands s o act → IsLatest s act (moved plan commands o (with_progress turned s) act)
moment_moved plan commands s (actions.Read until) act obeys =
    let u = with_progress turned s in
    walk plan commands (IsLatest s) (actions.Read until) u act obeys (
      λ bytes m. last_ticks u.progress (piece_at plan until bytes m u).progress (Gave bytes m) (gave_stays plan commands until u bytes m).1,
      λ m. last_ticks u.progress (moved plan commands (actions.Read until) u (Silent m)).progress (Silent m) (silent_stays plan u.progress.phase u.progress until m).1,
      refl,
      refl,
      refl,
    )
moment_moved plan commands s (actions.Close why) act obeys =
    walk plan commands (IsLatest s) (actions.Close why) (with_progress turned s) act obeys
    (closed_along (λ (q : Progress). q.moment.elapsed ≡ s.progress.moment.elapsed) plan (waiting_of (with_rest [] (with_progress turned s))) why (turned s.progress) refl refl)
moment_moved plan commands s (actions.Stop why) act obeys = absurd obeys
moment_moved plan commands s o act obeys = walk plan commands (IsLatest s) o (with_progress turned s) act obeys (λ m. refl, λ n. refl)

-- Deadlines.

-- requests that end by `limit` end by a later moment
ends_later : (limit limit' : ℕ) (ws : List (Pending Asked)) → limit ≤ limit' → AllByRecursion (EndsBy limit) ws → AllByRecursion (EndsBy limit') ws
ends_later limit limit' [] more by = tt
ends_later limit limit' (q ∷ ws) more by = (λ e. let low = by.0 e in omega (arith, low, more), ends_later limit limit' ws more by.1)

-- an action that may not take its time sends no request
quick_sends_nothing : (o : Action) → (MayTakeTime o → ⊥) → (requests_by o ≡ 0) × (IsAsking o → ⊥)
quick_sends_nothing actions.Prepare quick = absurd (quick tt)
quick_sends_nothing actions.Send quick = absurd (quick tt)
quick_sends_nothing actions.Flush quick = absurd (quick tt)
quick_sends_nothing o quick = (refl, λ asks. asks)

module _ (limit : ℕ) where
  -- of a station with this progress and these outstanding requests: each request that hasn't timed out has its deadline at `limit` or
  -- earlier; and after the moment read last, unless that is out of date
  abbrev EndsIn : Progress → List (Pending Asked) → Type 0
  EndsIn p ws = AllByRecursion (EndsBy limit) ws × (p.clock_due ≡ false → AllByRecursion (EndsAfter p.moment.elapsed) ws)

  -- `EndsIn` of a model
  abbrev Ends : Model → Type 0
  Ends s = EndsIn s.progress s.client.waiting

  -- after the moment `now` the requests end by `limit`, and after that moment
  ends_told : (now : ℕ) (ws : List (Pending Asked)) → AllByRecursion (EndsBy limit) ws
      → AllByRecursion (EndsBy limit) (map (expired now) ws) × (false ≡ false → AllByRecursion (EndsAfter now) (map (expired now) ws))
  ends_told now ws by = (expired_by limit limit now ws (omega arith) by, λ e. expired_after now ws)

  -- a line preserves `Ends`
  ends_line : (x : Model) (line : List ℕ) → Ends x → Ends (line_came x line)
  ends_line x line h = (all_heard (EndsBy limit) x.client line (heard line) h.0, λ e. all_heard (EndsAfter x.progress.moment.elapsed) x.client line (heard line) (h.1 e))

  -- a read that gave bytes preserves `Ends`
  ends_gave : (plan : Plan) (s : Model) (until : Until) (bytes : List ℕ) (m : Moment) → Ends s → Ends (piece_at plan until bytes m s)
  ends_gave plan s until bytes m h =
      let mid = with_moment m (with_progress (moment_noted m) s) in
      let told = ends_told m.elapsed s.client.waiting h.0 in
      came_along Ends ends_line (is_heard s.progress.phase) s.progress.exchange.word bytes mid told
      (asked_along (λ (q : Progress). EndsIn q mid.client.waiting) (λ q line e. e) mid.progress (lines_completed mid.rest bytes) told) told

  -- the loss of what is outstanding preserves `Ends`
  ends_losses : (t : Model) → Ends t → Ends (with_losses t)
  ends_losses t h = losing_along Ends (loses_all t.progress) t (tt, λ e. tt) h

module _ (plan : Plan) (commands : List Task) (longest : ℕ) (few : plan.deadline ≤ longest) (all_few : AllByRecursion (λ (task : Task). task.deadline ≤ longest) commands) where
  -- an act of each action preserves `Ends`, if a request is sent only while its deadline is early enough
  ends_moved : (limit : ℕ) (s : Model) (o : Action) (act : Act) → Performs commands s o act → (IsAsking o → s.progress.moment.elapsed + longest ≤ limit) → Ends limit s
      → Ends limit (moved plan commands o (with_progress turned s) act)
  ends_moved limit s actions.Open act obeys short h =
      walk plan commands (λ (act : Act). Ends limit) actions.Open (with_progress turned s) act obeys (λ m. h, λ n. (h.0, λ e. cc))
  ends_moved limit s actions.Clear act obeys short h =
      walk plan commands (λ (act : Act). Ends limit) actions.Clear (with_progress turned s) act obeys (λ m. (h.0, λ e. cc), λ n. (h.0, λ e. cc))
  ends_moved limit s actions.Ask act obeys short h =
      walk plan commands (λ (act : Act). Ends limit) actions.Ask (with_progress turned s) act obeys (λ m. (h.0, λ e. cc), λ n. (h.0, λ e. cc))
  ends_moved limit s actions.Prepare act obeys short h =
      let all = prepared_ends plan longest 0 commands few all_few (with_progress turned s) limit (short tt) h.0 in
      walk plan commands (λ (act : Act). Ends limit) actions.Prepare (with_progress turned s) act obeys (λ m. (all, λ e. cc), λ n. (all, λ e. cc))
  ends_moved limit s actions.Send act obeys short h =
      let place = place_next commands s.progress in
      let within = every_drop (λ (task : Task). task.deadline ≤ longest) commands place all_few in
      let all = first_ends plan longest 0 commands few all_few (with_progress turned s) limit (mark_sent plan commands (with_progress turned s)) (drop place commands) (short tt) h.0 within in
      walk plan commands (λ (act : Act). Ends limit) actions.Send (with_progress turned s) act obeys (λ m. (all, λ e. cc), λ n. (all, λ e. cc))
  ends_moved limit s actions.Flush act obeys short h =
      let all = null_ends plan longest 0 commands few all_few (with_progress turned s) limit (short tt) h.0 in
      walk plan commands (λ (act : Act). Ends limit) actions.Flush (with_progress turned s) act obeys (λ m. (all, λ e. cc), λ n. (all, λ e. cc))
  ends_moved limit s (actions.Read until) act obeys short h =
      walk plan commands (λ (act : Act). Ends limit) (actions.Read until) (with_progress turned s) act obeys (
        λ bytes m. ends_gave limit plan (with_progress turned s) until bytes m h,
        λ m. let told = ends_told limit m.elapsed s.client.waiting h.0 in
            quieted_along (λ (q : Progress). EndsIn limit q (map (expired m.elapsed) s.client.waiting)) plan s.progress.phase (time_passed until m (turned s.progress)) told told told,
        h,
        h,
        h,
      )
  ends_moved limit s (actions.Close why) act obeys short h =
      walk plan commands (λ (act : Act). Ends limit) (actions.Close why) (with_progress turned s) act obeys
      (closed_along (λ (q : Progress). EndsIn limit q s.client.waiting) plan (waiting_of (with_rest [] (with_progress turned s))) why (turned s.progress) h (h.0, λ e. cc))
  ends_moved limit s (actions.Stop why) act obeys short h = absurd obeys
  ends_moved limit s o act obeys short h =
      walk plan commands (λ (act : Act). Ends limit) o (with_progress turned s) act obeys (λ m. ends_told limit m.elapsed s.client.waiting h.0, λ n. h)

  module _ (scope : Scope) where
    -- the model after these acts
    abbrev at : List Act → Model
    at acts = state_after plan commands scope acts

    -- with one act more `Ends` holds, if a request is sent only while its deadline is early enough
    ends_more : (limit : ℕ) (earlier : List Act) (act : Act) → Performs commands (at earlier) (action_at plan (at earlier)) act
        → (IsAsking (action_at plan (at earlier)) → (at earlier).progress.moment.elapsed + longest ≤ limit) → Ends limit (at earlier) → Ends limit (at (earlier ++ act ∷ []))
    ends_more limit earlier act obeys short h =
        let s = at earlier in
        let o = action_at plan s in
        subst (λ (t : Model). Ends limit t) (sym (after_all-append plan commands (opening plan scope) earlier (act ∷ [])))
        (ends_losses limit (moved plan commands o (with_progress turned s) act) (ends_moved limit s o act obeys short h))

    -- after these acts the moment is the one that was read last, and each request that hasn't timed out ends by the longest deadline
    -- after it (`Ends`)
    abbrev IsShort : List Act → Type 0
    IsShort acts = ((at acts).progress.moment.elapsed ≡ latest 0 acts) × Ends (latest 0 acts + longest) (at acts)

    -- this holds after every run, if the clock doesn't go back
    short_after : (acts : List Act) → Runs plan commands (opening plan scope) acts → ClockRises 0 acts → IsShort acts
    short_after acts runs rises =
        always plan commands (opening plan scope) (λ (done : List Act) (t : Model). ClockRises 0 done → IsShort done) step (λ r. (refl, (tt, λ e. tt))) acts runs rises where
          -- each act preserves it
          step : (done : List Act) (act : Act) → Runs plan commands (opening plan scope) done → Performs commands (at done) (action_at plan (at done)) act
              → (ClockRises 0 done → IsShort done) → ClockRises 0 (done ++ act ∷ []) → IsShort (done ++ act ∷ [])
          step done act runs' obeys h rises' =
              let s = at done in
              let it = h (rises_front 0 done act rises') in
              let moment = it.0 in
              let more = latest_append 0 done (act ∷ []) in
              let on = latest_rises (latest 0 done) (act ∷ []) (rises_behind 0 done (act ∷ []) rises') in
              let t = moved plan commands (action_at plan s) (with_progress turned s) act in
              let by = ends_later (latest 0 done + longest) (latest 0 (done ++ act ∷ []) + longest) s.client.waiting (omega (arith, more, on)) it.1.0 in (
                ap (λ (x : Model). x.progress.moment.elapsed) (after_all-append plan commands (opening plan scope) done (act ∷ []))
                    ∙ ap (λ (p : Progress). p.moment.elapsed) (with_losses_progress t) ∙ moment_moved plan commands s (action_at plan s) act obeys
                    ∙ ap (λ (n : ℕ). latest n (act ∷ [])) moment ∙ sym (latest_more 0 done act),
                ends_more (latest 0 (done ++ act ∷ []) + longest) done act obeys (λ asks. omega (arith, moment, more, on)) (by, it.1.1),
              )

-- Acts before others.

-- acts read a moment, the first of them no later than the last; or none, so that the moment read last stays, and whether the end of the
-- run was asked for
first_read : (now : ℕ) (asked : Bool) (xs : List Act) → ClockRises now xs
    → ((latest now xs ≡ now) × (asked_after asked xs ≡ asked)) ⊎ ((ys : List Act) → IsReadBy (latest now xs) (xs ++ ys))
first_read now asked [] rises = inl (refl, refl)
first_read now asked (Told m ∷ xs) rises = inr (λ ys. latest_rises m.elapsed xs rises.2)
first_read now asked (Gave bytes m ∷ xs) rises = inr (λ ys. latest_rises m.elapsed xs rises.2)
first_read now asked (Silent m ∷ xs) rises = inr (λ ys. latest_rises m.elapsed xs rises.2)
first_read now asked (x ∷ xs) rises = first_read now asked xs rises

module _ (plan : Plan) (commands : List Task) (scope : Scope) where
  -- if readings return in acts, they do in the first of them
  readings_before : (readings : ℕ) (xs ys : List Act) → ReadingsReturn plan commands scope readings (xs ++ ys) → ReadingsReturn plan commands scope readings xs
  readings_before readings xs ys back earlier quick later told order =
      back earlier quick (later ++ ys) told
      (ap (λ (zs : List Act). zs ++ ys) order ∙ append_assoc earlier (told ∷ (quick ++ later)) ys ∙ ap (λ (zs : List Act). earlier ++ told ∷ zs) (append_assoc quick later ys))

  -- acts are quick, and those after them, too: so are both
  quick_append : (earlier xs ys : List Act) → AreQuick plan commands scope earlier xs → AreQuick plan commands scope (earlier ++ xs) ys → AreQuick plan commands scope earlier (xs ++ ys)
  quick_append earlier [] ys one other = subst (λ (zs : List Act). AreQuick plan commands scope zs ys) (append-nil earlier) other
  quick_append earlier (x ∷ xs) ys one other =
      (one.0, quick_append (earlier ++ x ∷ []) xs ys one.1 (subst (λ (zs : List Act). AreQuick plan commands scope zs ys) (sym (append_assoc earlier (x ∷ []) xs)) other))

-- one more of a number of spans
one_span_more : (n span : ℕ) → (1 + n) * span ≡ span + n * span
one_span_more n span = omega arith

-- The law.

module _ (plan : Plan) (commands : List Task) (scope : Scope) (longest call readings span : ℕ) (whole : span ≡ longest + call + readings)
    (few : plan.deadline ≤ longest) (all_few : AllByRecursion (λ (task : Task). task.deadline ≤ longest) commands)
    (all : List Act) (runs : Runs plan commands (opening plan scope) all) (rises : ClockRises 0 all)
    (calls : CallsReturn plan commands scope call all) (back : ReadingsReturn plan commands scope readings all) where
  -- the model after these acts
  abbrev reached : List Act → Model
  reached acts = state_after plan commands scope acts

  -- the next action after these acts
  abbrev next_of : List Act → Action
  next_of acts = action_at plan (reached acts)

  -- after `earlier`, quick acts read no moment past `limit`, if they are the first of `later`
  abbrev IsNear : (limit : ℕ) → (earlier later : List Act) → Type 0
  IsNear limit earlier later = (quick others : List Act) → later ≡ quick ++ others → AreQuick plan commands scope earlier quick → latest 0 (earlier ++ quick) ≤ limit

  -- the first acts of all are a run whose clock doesn't go back
  first_of : (earlier later : List Act) → all ≡ earlier ++ later → Runs plan commands (opening plan scope) earlier × ClockRises 0 earlier
  first_of earlier later order = (
    runs_front plan commands (opening plan scope) earlier later (subst (λ (xs : List Act). Runs plan commands (opening plan scope) xs) order runs),
    rises_before 0 earlier later (subst (λ (xs : List Act). ClockRises 0 xs) order rises),
  )

  -- a call that sends a request is not asked to wait; and once the end of the run was asked for, no other call that may take its time is
  -- asked to wait past `limit`, by which what is in flight has timed out
  wait_is_short : (limit : ℕ) (earlier : List Act) → Runs plan commands (opening plan scope) earlier → asked_after false earlier ≡ true → Ends limit (reached earlier)
      → (o : Action) → next_of earlier ≡ o → MayTakeTime o → (wait : ℕ) → IsAskedToWait plan (reached earlier) o wait
      → ((requests_by o ≡ 1) × (wait ≡ 0)) ⊎ ((requests_by o ≡ 0) × (IsAsking o → ⊥) × ((reached earlier).progress.moment.elapsed + wait ≤ limit))
  wait_is_short limit earlier runs' asked ends actions.Open is slow wait none = absurd (ends_soon.opens plan commands scope earlier runs' is asked)
  wait_is_short limit earlier runs' asked ends actions.Ask is slow wait none = absurd (ends_soon.asks plan commands scope earlier runs' is asked)
  wait_is_short limit earlier runs' asked ends actions.Prepare is slow wait none = inl (refl, none)
  wait_is_short limit earlier runs' asked ends actions.Send is slow wait none = inl (refl, none)
  wait_is_short limit earlier runs' asked ends actions.Flush is slow wait none = inl (refl, none)
  wait_is_short limit earlier runs' asked ends (actions.Read until) is slow wait short =
      let s = reached earlier in
      let some = ends_soon.waits until plan commands scope earlier runs' is asked in
      let now = read_if_slow plan s.progress (waiting_of s) s.progress.phase refl (subst MayTakeTime (sym is) tt) in
      let within = deadlines_within 0 limit s.progress.moment.elapsed s.client.waiting
      (every_weaker (EndsBy limit) (EndsEarly 0 limit) s.client.waiting (λ q by e. let low = by e in omega (arith, low)) ends.0) (ends.1 now)
      in
      let until_deadline = waits_in_flight plan s 0 limit within (λ none. omega (arith, none, some)) (actions.Read until) wait short in
      inr (refl, λ asks. asks, omega (arith, until_deadline))
  wait_is_short limit earlier runs' asked ends o is slow wait none = absurd slow

  -- after `earlier`, acts are read by `limit`, if their first moment is read `readings` before that, and all but the first are quick
  near_if_read : (limit : ℕ) (earlier later : List Act) (act : Act) → all ≡ earlier ++ act ∷ later → (first : ℕ) → latest 0 earlier ≤ first → IsReadBy first (act ∷ later)
      → first + readings ≤ limit → IsNear limit (earlier ++ act ∷ []) later
  near_if_read limit earlier later act order first past by short quick others at are =
      let row : all ≡ (earlier ++ act ∷ quick) ++ others = order ∙ ap (λ (xs : List Act). earlier ++ act ∷ xs) at ∙ sym (append_assoc earlier (act ∷ quick) others) in
      let returned = readings_before plan commands scope readings (earlier ++ act ∷ quick) others (subst (λ (xs : List Act). ReadingsReturn plan commands scope readings xs) row back) in
      let first_by = by_front first (act ∷ quick) others (subst (λ (xs : List Act). IsReadBy first (act ∷ xs)) at by) in
      let last_by = read_by plan commands scope readings first earlier (act ∷ quick) past first_by are returned in
      subst (λ (xs : List Act). latest 0 xs ≤ limit) (sym (append_assoc earlier (act ∷ []) quick)) (omega (arith, last_by, short))

  -- once the end of the run was asked for, quick acts read no moment more than `span` after the one read last
  near_at_first : (earlier later : List Act) → all ≡ earlier ++ later → asked_after false earlier ≡ true → IsNear (latest 0 earlier + span) earlier later
  near_at_first earlier later order asked quick others at are = by_last (last_slow plan commands scope [] earlier) where
    -- what is claimed of `earlier`
    Claim : List Act → Type 0
    Claim xs = all ≡ xs ++ later → asked_after false xs ≡ true → AreQuick plan commands scope xs quick → latest 0 (xs ++ quick) ≤ latest 0 xs + span

    -- the lemma above, where `act` is the last of the earlier ones that may take its time
    by_slow : (before row : List Act) (act : Act) → MayTakeTime (next_of before) → AreQuick plan commands scope (before ++ act ∷ []) row → Claim (before ++ act ∷ row)
    by_slow before row act slow are_first order' asked' are' =
        by_first (first_read (latest 0 before) (asked_after false before) (act ∷ row) (rises_behind 0 before (act ∷ row) (first_of (before ++ act ∷ row) later order').1)) where
          -- all acts, with `act` after those before it
          split : all ≡ before ++ act ∷ (row ++ later)
          split = order' ∙ append_assoc before (act ∷ row) later

          -- the moment read last, counted from the one before the act
          there : latest 0 (before ++ act ∷ row) ≡ latest (latest 0 before) (act ∷ row)
          there = latest_append 0 before (act ∷ row)

          -- the acts after it are quick
          quick_row : AreQuick plan commands scope (before ++ act ∷ []) (row ++ quick)
          quick_row =
              quick_append plan commands scope (before ++ act ∷ []) row quick are_first
              (subst (λ (xs : List Act). AreQuick plan commands scope xs quick) (sym (append_assoc before (act ∷ []) row)) are')

          -- how the acts after it begin
          row_at : row ++ later ≡ (row ++ quick) ++ others
          row_at = ap (λ (xs : List Act). row ++ xs) at ∙ sym (append_assoc row quick others)

          -- the lemma above, if they read their first moment soon
          if_read : (first : ℕ) → latest 0 before ≤ first → IsReadBy first (act ∷ (row ++ later)) → first + readings ≤ latest 0 (before ++ act ∷ row) + span
              → latest 0 ((before ++ act ∷ row) ++ quick) ≤ latest 0 (before ++ act ∷ row) + span
          if_read first past by short =
              subst (λ (xs : List Act). latest 0 xs ≤ latest 0 (before ++ act ∷ row) + span) (append_assoc before (act ∷ []) (row ++ quick) ∙ sym (append_assoc before (act ∷ row) quick))
              (near_if_read (latest 0 (before ++ act ∷ row) + span) before (row ++ later) act split first past by short (row ++ quick) others row_at quick_row)

          -- the lemma above, whether they read a moment
          by_first : ((latest (latest 0 before) (act ∷ row) ≡ latest 0 before) × (asked_after (asked_after false before) (act ∷ row) ≡ asked_after false before))
              ⊎ ((ys : List Act) → IsReadBy (latest (latest 0 before) (act ∷ row)) ((act ∷ row) ++ ys))
              → latest 0 ((before ++ act ∷ row) ++ quick) ≤ latest 0 (before ++ act ∷ row) + span
          by_first (inr reads) =
              let on = latest_rises (latest 0 before) (act ∷ row) (rises_behind 0 before (act ∷ row) (first_of (before ++ act ∷ row) later order').1) in
              if_read (latest (latest 0 before) (act ∷ row)) on (reads later) (omega (arith, there, whole))
          by_first (inl none) =
              let first = first_of before (act ∷ (row ++ later)) split in
              let still : asked_after false before ≡ true = sym none.1 ∙ sym (asked-append false before (act ∷ row)) ∙ asked' in
              let short = short_after plan commands longest few all_few scope before first.0 first.1 in
              let given = calls.each before (row ++ later) act split slow in
              by_wait given.0 given.2 short.0 none.0 (wait_is_short (latest 0 before + longest) before first.0 still short.1 (next_of before) refl slow given.0 given.1) where
                -- the lemma above, by how long the act was asked to wait
                by_wait : (wait : ℕ) → IsReadBy (latest 0 before + wait + call) (act ∷ (row ++ later)) → (reached before).progress.moment.elapsed ≡ latest 0 before
                    → latest (latest 0 before) (act ∷ row) ≡ latest 0 before
                    → ((requests_by (next_of before) ≡ 1) × (wait ≡ 0))
                    ⊎ ((requests_by (next_of before) ≡ 0) × (IsAsking (next_of before) → ⊥) × ((reached before).progress.moment.elapsed + wait ≤ latest 0 before + longest))
                    → latest 0 ((before ++ act ∷ row) ++ quick) ≤ latest 0 (before ++ act ∷ row) + span
                by_wait wait by moment same (inl sends) = let no_wait = sends.1 in if_read (latest 0 before + wait + call) (omega arith) by (omega (arith, no_wait, there, same, whole))
                by_wait wait by moment same (inr waits) = let until = waits.2 in if_read (latest 0 before + wait + call) (omega arith) by (omega (arith, until, moment, there, same, whole))

    -- the lemma above, whether one of the earlier acts may have taken its time
    by_last : AreQuick plan commands scope [] earlier ⊎ LastSlow plan commands scope [] earlier → latest 0 (earlier ++ quick) ≤ latest 0 earlier + span
    by_last (inr found) = subst Claim (sym found.order) (by_slow found.before found.quick found.act found.slow found.are) order asked are
    by_last (inl quick_first) =
        let row : all ≡ (earlier ++ quick) ++ others = order ∙ ap (λ (xs : List Act). earlier ++ xs) at ∙ sym (append_assoc earlier quick others) in
        let first_by = by_front call (earlier ++ quick) others (subst (λ (xs : List Act). IsReadBy call xs) row calls.first) in
        let returned = readings_before plan commands scope readings (earlier ++ quick) others (subst (λ (xs : List Act). ReadingsReturn plan commands scope readings xs) row back) in
        let both = quick_append plan commands scope [] earlier quick quick_first are in
        let last_by = read_by plan commands scope readings call [] (earlier ++ quick) (omega arith) first_by (quick_behind plan commands scope [] (earlier ++ quick) both) returned in
        omega (arith, last_by, whole)

  -- once the end of the run was asked for, no moment is read more than `span` after `from` for what is in flight, and once more for
  -- each request that is sent, if what is in flight times out by the longest deadline after `from`, and quick acts read no moment more
  -- than `span` after it
  read_in_time : (from : ℕ) (earlier later : List Act) → all ≡ earlier ++ later → asked_after false earlier ≡ true → Ends (from + longest) (reached earlier)
      → IsNear (from + span) earlier later → latest 0 all ≤ from + span + requests_sent plan commands (reached earlier) later * span
  read_in_time from earlier [] order asked ends near =
      let last_by = subst (λ (xs : List Act). latest 0 xs ≤ from + span) (sym order) (near [] [] refl tt) in
      omega (arith, last_by)
  read_in_time from earlier (act ∷ later) order asked ends near = by_kind (λ from' ends' near'. read_in_time from' now later order_on still ends' near') (slow_or_quick (next_of earlier)) where
    -- the model before the act
    s : Model
    s = reached earlier

    -- these acts and `act`
    now : List Act
    now = earlier ++ act ∷ []

    -- how many requests are sent after the act
    sent : ℕ
    sent = requests_sent plan commands (after plan commands s act) later

    -- the first acts are a run whose clock doesn't go back
    first : Runs plan commands (opening plan scope) earlier × ClockRises 0 earlier
    first = first_of earlier (act ∷ later) order

    -- the act performs the next action
    obeys : Performs commands s (next_of earlier) act
    obeys = (runs_split plan commands (opening plan scope) earlier later act (subst (λ (xs : List Act). Runs plan commands (opening plan scope) xs) order runs)).1

    -- all acts, split after the act
    order_on : all ≡ now ++ later
    order_on = order ∙ sym (append_assoc earlier (act ∷ []) later)

    -- the end of the run stays asked for
    still : asked_after false now ≡ true
    still = asked-append false earlier (act ∷ []) ∙ ap (λ (b : Bool). asked_after b (act ∷ [])) asked ∙ asked_stays act

    -- the moment is the one that was read last
    moment : s.progress.moment.elapsed ≡ latest 0 earlier
    moment = (short_after plan commands longest few all_few scope earlier first.0 first.1).0

    -- it is in time
    here : latest 0 earlier ≤ from + span
    here = subst (λ (xs : List Act). latest 0 xs ≤ from + span) (append-nil earlier) (near [] (act ∷ later) refl tt)

    -- the lemma above for the acts after this one
    Behind : Type 0
    Behind = (from' : ℕ) → Ends (from' + longest) (reached now) → IsNear (from' + span) now later → latest 0 all ≤ from' + span + requests_sent plan commands (reached now) later * span

    -- the same, by the model after the act
    on : Behind → (from' : ℕ) → Ends (from' + longest) (reached now) → IsNear (from' + span) now later → latest 0 all ≤ from' + span + sent * span
    on behind from' ends' near' =
        subst (λ (t : Model). latest 0 all ≤ from' + span + requests_sent plan commands t later * span) (after_all-append plan commands (opening plan scope) earlier (act ∷ []))
        (behind from' ends' near')

    -- if the act sends no request, as many are counted
    as_many : requests_by (next_of earlier) ≡ 0 → latest 0 all ≤ from + span + sent * span → latest 0 all ≤ from + span + (requests_by (next_of earlier) + sent) * span
    as_many none by =
        let same : sent ≡ requests_by (next_of earlier) + sent = omega (arith, none) in
        subst (λ (n : ℕ). latest 0 all ≤ from + span + n * span) same by

    -- if it sends one, one more
    one_more : requests_by (next_of earlier) ≡ 1 → latest 0 all ≤ (from + span) + span + sent * span → latest 0 all ≤ from + span + (requests_by (next_of earlier) + sent) * span
    one_more one by =
        let more = one_span_more sent span in
        subst (λ (n : ℕ). latest 0 all ≤ from + span + (n + sent) * span) (sym one) (omega (arith, by, more))

    -- the lemma above, by how long an act that may take its time was asked to wait
    by_wait : Behind → (wait : ℕ) → IsReadBy (latest 0 earlier + wait + call) (act ∷ later)
        → ((requests_by (next_of earlier) ≡ 1) × (wait ≡ 0)) ⊎ ((requests_by (next_of earlier) ≡ 0) × (IsAsking (next_of earlier) → ⊥) × (s.progress.moment.elapsed + wait ≤ from + longest))
        → latest 0 all ≤ from + span + (requests_by (next_of earlier) + sent) * span
    by_wait behind wait by (inl sends) =
        let no_wait = sends.1 in
        let later_ends = ends_later (from + longest) ((from + span) + longest) s.client.waiting (omega arith) ends.0 in
        one_more sends.0 (on behind (from + span)
        (ends_more plan commands longest few all_few scope ((from + span) + longest) earlier act obeys (λ asks. omega (arith, moment, here)) (later_ends, ends.1))
        (near_if_read ((from + span) + span) earlier later act order (latest 0 earlier + wait + call) (omega arith) by (omega (arith, no_wait, here, whole))))
    by_wait behind wait by (inr waits) =
        let until = waits.2 in
        as_many waits.0 (on behind from (ends_more plan commands longest few all_few scope (from + longest) earlier act obeys (λ asks. absurd (waits.1 asks)) ends)
        (near_if_read (from + span) earlier later act order (latest 0 earlier + wait + call) (omega arith) by (omega (arith, until, moment, whole))))

    -- the lemma above, whether the act may take its time
    by_kind : Behind → MayTakeTime (next_of earlier) ⊎ (MayTakeTime (next_of earlier) → ⊥) → latest 0 all ≤ from + span + (requests_by (next_of earlier) + sent) * span
    by_kind behind (inl slow) =
        let given = calls.each earlier later act order slow in
        by_wait behind given.0 given.2 (wait_is_short (from + longest) earlier first.0 asked ends (next_of earlier) refl slow given.0 given.1)
    by_kind behind (inr not_slow) =
        let none = quick_sends_nothing (next_of earlier) not_slow in
        as_many none.0 (on behind from (ends_more plan commands longest few all_few scope (from + longest) earlier act obeys (λ asks. absurd (none.1 asks)) ends)
        (λ quick others at are. subst (λ (xs : List Act). latest 0 xs ≤ from + span) (sym (append_assoc earlier (act ∷ []) quick))
        (near (act ∷ quick) others (ap (λ (xs : List Act). act ∷ xs) at) (not_slow, are))))

-- once the end of a run was asked for, it is at its end by the bound for as many requests as it sends at most
by_requests : (longest call readings : ℕ) (plan : Plan) (commands : List Task) (scope : Scope) (earlier later : List Act) → Runs plan commands (opening plan scope) (earlier ++ later)
    → asked_after false earlier ≡ true → plan.deadline ≤ longest → AllByRecursion (λ (task : Task). task.deadline ≤ longest) commands → ClockRises 0 (earlier ++ later)
    → CallsReturn plan commands scope call (earlier ++ later) → ReadingsReturn plan commands scope readings (earlier ++ later)
    → (requests : ℕ) → requests_sent plan commands (state_after plan commands scope earlier) later ≤ requests
    → latest 0 (earlier ++ later) ≤ latest 0 earlier + end_bound requests longest call readings
by_requests longest call readings plan commands scope earlier later runs asked few all_few rises calls back requests fewer =
    bounded (longest + call + readings) refl where
      -- the lemma above, with the sum as a number
      bounded : (span : ℕ) → span ≡ longest + call + readings → latest 0 (earlier ++ later) ≤ latest 0 earlier + (1 + requests) * span
      bounded span whole =
          let s = state_after plan commands scope earlier in
          let all = earlier ++ later in
          let first = first_of plan commands scope longest call readings span whole few all_few all runs rises calls back earlier later refl in
          let short = short_after plan commands longest few all_few scope earlier first.0 first.1 in
          let near = near_at_first plan commands scope longest call readings span whole few all_few all runs rises calls back earlier later refl asked in
          let by = read_in_time plan commands scope longest call readings span whole few all_few all runs rises calls back (latest 0 earlier) earlier later refl asked short.1 near in
          let most : requests_sent plan commands s later * span ≤ requests * span = mul-le-mul_right span fewer in
          let more = one_span_more requests span in
          omega (arith, by, most, more)

-- the law: a run is at its end by its bound, once that was asked for
pub ends_by_bound : EndsByBoundOnceAsked
ends_by_bound longest call readings plan commands scope earlier later runs asked few all_few rises calls back =
    by_requests longest call readings plan commands scope earlier later runs asked few all_few rises calls back
    (requests_once_asked commands (state_after plan commands scope earlier).progress) (finishes_its_chain plan commands scope earlier later runs asked)

-- the law where all commands are calls of the table
pub ends_a_table_run_by_bound : EndsATableRunByBoundOnceAsked
ends_a_table_run_by_bound longest call readings plan commands scope earlier later all runs asked few all_few rises calls back =
    by_requests longest call readings plan commands scope earlier later runs asked few all_few rises calls back
    (requests_of_table_once_asked commands (state_after plan commands scope earlier).progress) (finishes_a_table_chain plan commands scope earlier later all runs asked)
