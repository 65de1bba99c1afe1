-- What is in flight has timed out in time: a request that hasn't timed out was sent before the cycle was out of time, or soon after, by
-- a setup that goes on, so that its deadline comes at most `span` after that. An act is one call on the link, with its result.
use Rattle.gc_station.proofs.Common.{◌≡◌, ℕ, ◌+◌, ◌*◌, ◌<◌, ◌≤◌, ◌||◌, Bool, true, false, not, if◌then◌else◌, List, [], ◌∷◌, length, map, filter, drop, min, Option, Some, None, nat_le, nat_eq, refl, sym, ap, ◌∙◌, subst, arith, leb-false, cond_both, AllByRecursion, every_drop, Asked, Pending, WINDOW, ById, send_unless_full, hears, heard, expired, deadlines, pending_of, settles_at, fits, place_in, Task, Wish, Act, Told, Moment, client_sent, ClockRises, Table, NullProc, later, turned, moment_noted, cycle_start, due_at, time_passed, loses_all, occasion_of, Model, sent_to, with_progress, with_moment, with_rest, waiting_of, line_came, lines_completed, is_heard, piece_at, Performs, moved, asks_for, asks_first, asks_setup, null_request, request_or_null, with_losses, mark_sent, mark_setup_sent, place_next, command_at, IsAsking, Mark, Plan, Action, Progress, Until}
use Rattle.gc_station.proofs.Lists.{all_append}
use Rattle.gc_station.proofs.Walk.{asked_along, came_along, quieted_along, closed_along, losing_along, walk}
use Rattle.gc_station.specs.declared.progress.Action.TheVariants as actions

-- if the request hasn't timed out, its deadline is `limit` or earlier
abbrev pub EndsBy : (limit : ℕ) → Pending Asked → Type 0
EndsBy limit q = q.given_up ≡ false → q.deadline ≤ limit

-- if the request hasn't timed out, its deadline is at least `time` before `limit`
abbrev pub EndsEarly : (time limit : ℕ) → Pending Asked → Type 0
EndsEarly time limit q = q.given_up ≡ false → q.deadline + time ≤ limit

-- if the request hasn't timed out, its deadline is after `now`
abbrev pub EndsAfter : (now : ℕ) → Pending Asked → Type 0
EndsAfter now q = q.given_up ≡ false → now < q.deadline

-- if `limit` has come, none of these requests is in flight that hasn't timed out
pub none_in_flight : (limit now : ℕ) (ws : List (Pending Asked)) → limit ≤ now → AllByRecursion (EndsBy limit) ws → AllByRecursion (EndsAfter now) ws → deadlines ws ≡ []
none_in_flight limit now [] past by after = refl
none_in_flight limit now (q ∷ ws) past by after = by_test (none_in_flight limit now ws past by.1 after.1) q.given_up refl where
  -- the lemma above, whether the first request has timed out
  by_test : deadlines ws ≡ [] → (b : Bool) → q.given_up ≡ b → deadlines (q ∷ ws) ≡ []
  by_test others true e = ap (λ (b : Bool). map (λ (p : Pending Asked). p.deadline) (if not b then q ∷ filter (λ (p : Pending Asked). not p.given_up) ws else filter (λ (p : Pending Asked). not p.given_up) ws)) e
      ∙ others
  by_test others false e = let low = by.0 e in let high = after.0 e in absurd (omega (arith, low, high, past))

-- after the moment `now`, each request that hasn't timed out has its deadline after that
pub expired_after : (now : ℕ) (ws : List (Pending Asked)) → AllByRecursion (EndsAfter now) (map (expired now) ws)
expired_after now [] = tt
expired_after now (q ∷ ws) = (one q.given_up, expired_after now ws) where
  -- the lemma above for the first request
  one : (b : Bool) → (b || nat_le q.deadline now) ≡ false → now < q.deadline
  one true e = cc
  one false e = leb-false q.deadline now e

-- a moment moves no deadline
pub expired_by : (limit limit' now : ℕ) (ws : List (Pending Asked)) → limit ≤ limit' → AllByRecursion (EndsBy limit) ws → AllByRecursion (EndsBy limit') (map (expired now) ws)
expired_by limit limit' now [] more by = tt
expired_by limit limit' now (q ∷ ws) more by = (one q.given_up refl, expired_by limit limit' now ws more by.1) where
  -- the lemma above for the first request
  one : (b : Bool) → q.given_up ≡ b → (b || nat_le q.deadline now) ≡ false → q.deadline ≤ limit'
  one true is e = cc
  one false is e = let low = by.0 is in omega (arith, low, more)

-- the same of deadlines that are at least `time` before the limit
pub expired_early : (time limit limit' now : ℕ) (ws : List (Pending Asked)) → limit ≤ limit' → AllByRecursion (EndsEarly time limit) ws → AllByRecursion (EndsEarly time limit') (map (expired now) ws)
expired_early time limit limit' now [] more by = tt
expired_early time limit limit' now (q ∷ ws) more by = (one q.given_up refl, expired_early time limit limit' now ws more by.1) where
  -- the lemma above for the first request
  one : (b : Bool) → q.given_up ≡ b → (b || nat_le q.deadline now) ≡ false → q.deadline + time ≤ limit'
  one true is e = cc
  one false is e = let low = by.0 is in omega (arith, low, more)

-- a line leaves of the requests some of the last ones
pub all_heard : (P : Pending Asked → Type 0) (c : ById Asked) (line : List ℕ) (id : Option ℕ) → AllByRecursion P c.waiting → AllByRecursion P (hears c line id).client.waiting
all_heard P c line None all = all
all_heard P c line (Some id) all = by_test (fits c (Some id)) where
  -- the lemma above, whether the line settles requests
  by_test : (b : Bool) → AllByRecursion P (settles_at c line (place_in c id) b).client.waiting
  by_test true = every_drop P c.waiting (place_in c id + 1) all
  by_test false = all

-- a send adds at most its own request
pub all_sent : (P : Pending Asked → Type 0) (width : ℕ) (c : ById Asked) (command : Wish) (now wait : ℕ) → AllByRecursion P c.waiting
    → P (pending_of command.target command.call (later now wait)) → AllByRecursion P (sent_to width c command now wait).waiting
all_sent P width c command now wait all one = by_test (nat_eq (length c.waiting) width) refl where
  -- the lemma above, whether the window is full
  by_test : (b : Bool) → nat_eq (length c.waiting) width ≡ b → AllByRecursion P (sent_to width c command now wait).waiting
  by_test true e = subst (λ (b : Bool). AllByRecursion P (client_sent c (send_unless_full c command.target command.call (later now wait) b)).waiting) (sym e) all
  by_test false e = subst (λ (b : Bool). AllByRecursion P (client_sent c (send_unless_full c command.target command.call (later now wait) b)).waiting) (sym e) (all_append P c.waiting (pending_of command.target command.call (later now wait) ∷ []) all (one, tt))

module _ (plan : Plan) (longest span : ℕ) where
  -- of a station whose last cycle counts as begun at `began`, with the moment `now` read last, which is out of date (`due`) or not, and
  -- with these requests outstanding: the cycle didn't begin after `now`; each request that hasn't timed out has its deadline at most
  -- `span` after the moment at which the cycle is out of time; after `now`, unless that is out of date; and at most the longest one after
  -- `now`
  abbrev pub TimesOutAt : (began now : ℕ) (due : Bool) → List (Pending Asked) → Type 0
  TimesOutAt began now due ws =
      (began ≤ now) × AllByRecursion (EndsBy ((began + 2 * plan.every) + span)) ws × (due ≡ false → AllByRecursion (EndsAfter now) ws)
      × AllByRecursion (EndsBy (now + longest)) ws

  -- `TimesOutAt` of the progress p
  abbrev pub TimesOutIn : Progress → List (Pending Asked) → Type 0
  TimesOutIn p ws = TimesOutAt p.began p.moment.elapsed p.clock_due ws

  -- `TimesOutAt` of a model
  abbrev pub TimesOut : Model → Type 0
  TimesOut s = TimesOutIn s.progress s.client.waiting

  -- `TimesOutAt` holds after a moment, if the cycle's beginning doesn't go back, and isn't after that moment
  out_told : (began began' now before : ℕ) (due : Bool) (ws : List (Pending Asked)) → TimesOutAt began before due ws → began ≤ began' → began' ≤ now → before ≤ now
      → TimesOutAt began' now false (map (expired now) ws)
  out_told began began' now before due ws h on past rises = (
    past,
    expired_by ((began + 2 * plan.every) + span) ((began' + 2 * plan.every) + span) now ws (omega (arith, on)) h.1,
    λ e. expired_after now ws,
    expired_by (before + longest) (now + longest) now ws (omega (arith, rises)) h.3,
  )

  -- the same after a moment that begins no cycle
  out_noted : (p : Progress) (m : Moment) (ws : List (Pending Asked)) → TimesOutIn p ws → ClockRises p.moment.elapsed (Told m ∷ [])
      → TimesOutAt (min p.began m.elapsed) m.elapsed false (map (expired m.elapsed) ws)
  out_noted p m ws h rises =
      let past = h.0 in
      let now = rises.0 in
      out_told p.began (min p.began m.elapsed) m.elapsed p.moment.elapsed p.clock_due ws h (omega (arith, past, now)) (omega arith) now

  -- the beginning of a cycle isn't before that of the last one
  start_after : (m : Moment) (p : Progress) → p.began ≤ p.moment.elapsed → ClockRises p.moment.elapsed (Told m ∷ []) → (p.began ≤ cycle_start plan m p) × (cycle_start plan m p ≤ m.elapsed)
  start_after m p past rises =
      let now = rises.0 in
      let most = rises.1 in
      cond_both (nat_eq plan.every 0) m.elapsed (min (due_at p) m.elapsed) (λ (x : ℕ). (p.began ≤ x) × (x ≤ m.elapsed))
      (λ e. (omega (arith, past, now), omega arith)) (λ e. (omega (arith, past, now, most), omega arith))

  -- a line preserves `TimesOut`
  out_line : (x : Model) (line : List ℕ) → TimesOut x → TimesOut (line_came x line)
  out_line x line h = (
    h.0,
    all_heard (EndsBy ((x.progress.began + 2 * plan.every) + span)) x.client line (heard line) h.1,
    λ e. all_heard (EndsAfter x.progress.moment.elapsed) x.client line (heard line) (h.2 e),
    all_heard (EndsBy (x.progress.moment.elapsed + longest)) x.client line (heard line) h.3,
  )

  -- a request that is sent at the moment `now` ends by `limit`, if that is the longest deadline after `now` or later
  ends_by : (limit now wait : ℕ) (target : ℕ) (call : Asked) → now + longest ≤ limit → wait ≤ longest → EndsBy limit (pending_of target call (later now wait))
  ends_by limit now wait target call short few e = omega (arith, short, few)

  module _ (commands : List Task) (few : plan.deadline ≤ longest) (all_few : AllByRecursion (λ (task : Task). task.deadline ≤ longest) commands) where
    -- after an act from the model s on: `TimesOut`, if the clock doesn't go back at it
    abbrev OutAfter : Model → Act → Model → Type 0
    OutAfter s act t = ClockRises s.progress.moment.elapsed (act ∷ []) → TimesOut t

    -- a read that gave bytes preserves `TimesOut`
    out_gave : (s : Model) (until : Until) (bytes : List ℕ) (m : Moment) → TimesOut s → ClockRises s.progress.moment.elapsed (Told m ∷ []) → TimesOut (piece_at plan until bytes m s)
    out_gave s until bytes m h rises =
        let mid = with_moment m (with_progress (moment_noted m) s) in
        let told = out_noted s.progress m s.client.waiting h rises in
        came_along TimesOut out_line (is_heard s.progress.phase) s.progress.exchange.word bytes mid told
        (asked_along (λ (q : Progress). TimesOutIn q mid.client.waiting) (λ q line e. e) mid.progress (lines_completed mid.rest bytes) told) told

    -- all requests end by `limit` once the first of these commands was sent, if they did before, and `limit` is late enough
    pub first_ends : (s : Model) (limit : ℕ) (mark : Mark) (left : List Task) → s.progress.moment.elapsed + longest ≤ limit → AllByRecursion (EndsBy limit) s.client.waiting
        → AllByRecursion (λ (task : Task). task.deadline ≤ longest) left → AllByRecursion (EndsBy limit) (asks_first mark left s).client.waiting
    first_ends s limit mark [] short h within = h
    first_ends s limit mark (task ∷ others) short h within =
        let command = command_at (occasion_of mark) task in
        all_sent (EndsBy limit) WINDOW s.client command s.progress.moment.elapsed task.deadline h
        (ends_by limit s.progress.moment.elapsed task.deadline command.target command.call short within.0)

    -- the same once a null procedure was sent
    pub null_ends : (s : Model) (limit : ℕ) → s.progress.moment.elapsed + longest ≤ limit → AllByRecursion (EndsBy limit) s.client.waiting
        → AllByRecursion (EndsBy limit) (asks_for (null_request plan) s).client.waiting
    null_ends s limit short h =
        all_sent (EndsBy limit) WINDOW s.client (null_request plan).command s.progress.moment.elapsed plan.deadline h
        (ends_by limit s.progress.moment.elapsed plan.deadline 0 (Table NullProc) short few)

    -- the same once the first of these commands of the setup was sent, or a null procedure if there is none
    setup_ends : (s : Model) (limit : ℕ) (mark : Mark) (left : List Task) → s.progress.moment.elapsed + longest ≤ limit → AllByRecursion (EndsBy limit) s.client.waiting
        → AllByRecursion (λ (task : Task). task.deadline ≤ longest) left → AllByRecursion (EndsBy limit) (asks_for (request_or_null plan mark left) s).client.waiting
    setup_ends s limit mark [] short h within = null_ends s limit short h
    setup_ends s limit mark (task ∷ others) short h within = first_ends s limit mark (task ∷ others) short h within

    -- the same once the setup's next command was sent
    pub prepared_ends : (s : Model) (limit : ℕ) → s.progress.moment.elapsed + longest ≤ limit → AllByRecursion (EndsBy limit) s.client.waiting
        → AllByRecursion (EndsBy limit) (asks_setup plan commands s).client.waiting
    prepared_ends s limit short h =
        setup_ends s limit (mark_setup_sent commands s) (drop s.progress.prepared commands) short h
        (every_drop (λ (task : Task). task.deadline ≤ longest) commands s.progress.prepared all_few)

    -- an act of each action preserves `TimesOut`, if a request is sent only while its deadline is early enough
    pub out_moved : (s : Model) (o : Action) (act : Act) → Performs commands s o act
        → (IsAsking o → s.progress.moment.elapsed + longest ≤ (s.progress.began + 2 * plan.every) + span)
        → TimesOut s → OutAfter s act (moved plan commands o (with_progress turned s) act)
    out_moved s actions.Begin act obeys short h =
        walk plan commands (OutAfter s) actions.Begin (with_progress turned s) act obeys (
          λ m rises. let start = start_after m (turned s.progress) h.0 rises in out_told s.progress.began (cycle_start plan m (turned s.progress)) m.elapsed s.progress.moment.elapsed s.progress.clock_due s.client.waiting h start.0 start.1 rises.0,
          λ n rises. h,
        )
    out_moved s actions.Open act obeys short h = walk plan commands (OutAfter s) actions.Open (with_progress turned s) act obeys (λ m rises. h, λ n rises. (h.0, h.1, λ e. cc, h.3))
    out_moved s actions.Clear act obeys short h = walk plan commands (OutAfter s) actions.Clear (with_progress turned s) act obeys (λ m rises. (h.0, h.1, λ e. cc, h.3), λ n rises. (h.0, h.1, λ e. cc, h.3))
    out_moved s actions.Ask act obeys short h = walk plan commands (OutAfter s) actions.Ask (with_progress turned s) act obeys (λ m rises. (h.0, h.1, λ e. cc, h.3), λ n rises. (h.0, h.1, λ e. cc, h.3))
    out_moved s actions.Prepare act obeys short h =
        let u = with_progress turned s in
        let all = prepared_ends u ((s.progress.began + 2 * plan.every) + span) (short tt) h.1 in
        let recent = prepared_ends u (s.progress.moment.elapsed + longest) (omega arith) h.3 in
        walk plan commands (OutAfter s) actions.Prepare u act obeys (λ m rises. (h.0, all, λ e. cc, recent), λ n rises. (h.0, all, λ e. cc, recent))
    out_moved s actions.Send act obeys short h =
        let u = with_progress turned s in
        let left = drop (place_next commands s.progress) commands in
        let within = every_drop (λ (task : Task). task.deadline ≤ longest) commands (place_next commands s.progress) all_few in
        let mark = mark_sent plan commands u in
        let all = first_ends u ((s.progress.began + 2 * plan.every) + span) mark left (short tt) h.1 within in
        let recent = first_ends u (s.progress.moment.elapsed + longest) mark left (omega arith) h.3 within in
        walk plan commands (OutAfter s) actions.Send u act obeys (λ m rises. (h.0, all, λ e. cc, recent), λ n rises. (h.0, all, λ e. cc, recent))
    out_moved s actions.Flush act obeys short h =
        let u = with_progress turned s in
        let all = null_ends u ((s.progress.began + 2 * plan.every) + span) (short tt) h.1 in
        let recent = null_ends u (s.progress.moment.elapsed + longest) (omega arith) h.3 in
        walk plan commands (OutAfter s) actions.Flush u act obeys (λ m rises. (h.0, all, λ e. cc, recent), λ n rises. (h.0, all, λ e. cc, recent))
    out_moved s (actions.Read until) act obeys short h =
        walk plan commands (OutAfter s) (actions.Read until) (with_progress turned s) act obeys (
          λ bytes m rises. out_gave (with_progress turned s) until bytes m h rises,
          λ m rises. let told = out_noted s.progress m s.client.waiting h rises in
              quieted_along (λ (q : Progress). TimesOutIn q (map (expired m.elapsed) s.client.waiting)) plan s.progress.phase (time_passed until m (turned s.progress)) told told told,
          λ rises. h,
          λ rises. h,
          λ rises. h,
        )
    out_moved s (actions.Close why) act obeys short h =
        walk plan commands (OutAfter s) (actions.Close why) (with_progress turned s) act obeys
        (λ rises. closed_along (λ (q : Progress). TimesOutIn q s.client.waiting) plan (waiting_of (with_rest [] (with_progress turned s))) why (turned s.progress) h (h.0, h.1, λ e. cc, h.3))
    out_moved s (actions.Stop why) act obeys short h = absurd obeys
    out_moved s o act obeys short h =
        walk plan commands (OutAfter s) o (with_progress turned s) act obeys (λ m rises. out_noted s.progress m s.client.waiting h rises, λ n rises. h)

    -- the loss of what is outstanding preserves `TimesOut`
    pub out_losses : (t : Model) → TimesOut t → TimesOut (with_losses t)
    out_losses t h = losing_along TimesOut (loses_all t.progress) t (h.0, tt, λ e. tt, tt) h
