-- The report of a list of events is faithful. Two runs are *level* where they take the same steps, and as many bytes have gone
-- of each front line.
use Rattle.gc_world.proofs.Common.{ℕ, List, length, refl, ◌≤◌, subst, Call, ById, Windowed, State, IsFittingState, restarted, Event, Report, ActsOnce, Faithful, IsReport, IsNoLongerThan, ends, played, played_by_numbers, run_by_ids, streams_by_ids, streams_by_numbers, AreOfWorld, World}
use Rattle.gc_world.proofs.Flow.{AreLevel, level_at, level_wire}
use Rattle.gc_world.proofs.Handing.{KeptFits, kept_exchange, exchange, kept_of, keeper}
use Rattle.gc_world.proofs.Reporting.{one_for_one, books_answers, records_execution, acts_once, agrees_with, no_longer}
use Rattle.gc_world.proofs.Turns.{played_within}
use Rattle.gc_world.proofs.Runs.{one_for_one_at, execution_at, booked_at}

module _ (width : ℕ) (narrow : width ≤ 7) (opening : State) (events : List Event) where
  -- the two runs of these events are level
  level : AreLevel width narrow ends KeptFits kept_exchange (restarted opening) tt (streams_by_ids width ends events (restarted opening)) (streams_by_numbers width ends events (restarted opening))
  level = level_at width narrow ends KeptFits kept_exchange (restarted opening) tt events

  -- a report of the run by ids is faithful, if the restarted opening state is fitting
  pub faithful : (r : Report State) (up down : List ℕ) (client : Windowed Call) → IsFittingState (restarted opening)
      → AreOfWorld width r up down client (played width opening events)
      → Faithful width opening events r
  faithful r up down client good shows =
      let es = level.steps in
      let w = (run_by_ids width ends es (restarted opening)).wire in
      let h : IsReport r w = subst (λ (v : World (ById Call) State). IsReport r v.wire) level.ids shows.reports in
      let one = one_for_one r w h (one_for_one_at width ends es (restarted opening)) in
      record {
        one_for_one = one;
        booked = books_answers r w h shows.calls (booked_at width narrow ends IsFittingState exchange kept_of (keeper IsFittingState) refl es opening good) one;
        executed = records_execution r w h opening (execution_at width narrow ends IsFittingState exchange kept_of (keeper IsFittingState) refl es opening good);
        agrees =
            agrees_with r (played width opening events).wire shows.reports (played_by_numbers width opening events).wire
            (level_wire width narrow ends KeptFits kept_exchange (restarted opening) tt (streams_by_ids width ends events (restarted opening))
            (streams_by_numbers width ends events (restarted opening)) level);
      }

  -- by a report of the run by ids each request acted at most once (`ActsOnce`), if the restarted opening state is fitting
  pub once : (r : Report State) (up down : List ℕ) (client : Windowed Call) → IsFittingState (restarted opening)
      → AreOfWorld width r up down client (played width opening events) → ActsOnce opening r
  once r up down client good shows =
      let es = level.steps in
      let w = (run_by_ids width ends es (restarted opening)).wire in
      let h : IsReport r w = subst (λ (v : World (ById Call) State). IsReport r v.wire) level.ids shows.reports in
      acts_once r w h opening (execution_at width narrow ends IsFittingState exchange kept_of (keeper IsFittingState) refl es opening good)

  -- no list of a report of the run by ids is longer than the list of events
  pub no_longer_than : (r : Report State) (up down : List ℕ) (client : Windowed Call) → AreOfWorld width r up down client (played width opening events)
      → IsNoLongerThan (length events) r
  no_longer_than r up down client shows =
      let es = level.steps in
      let w = (run_by_ids width ends es (restarted opening)).wire in
      let h : IsReport r w = subst (λ (v : World (ById Call) State). IsReport r v.wire) level.ids shows.reports in
      no_longer r (played width opening events).wire shows.reports (length events) (played_within width opening events) (one_for_one r w h (one_for_one_at width ends es (restarted opening)))
