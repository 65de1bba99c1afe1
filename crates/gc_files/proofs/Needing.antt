-- Where a run goes on in a file in which a sync failed, and no copy took its place, a table may not last: such runs, computed.
use Rattle.gc_files.proofs.Common.{◌≡◌, inl, inr, ℕ, false, List, [], ◌∷◌, refl, arith, None, Append, Sync, Run, IsRun, rows_of, settled, same_sides, Stopped, Unsynced, Event, Ran, ArePossibleEvents, runs_of, CopiesAreNeeded}

-- a head that is a line feed
abbrev line_feed_head : List ℕ
line_feed_head = 10 ∷ []

-- a run that writes the head, and no row
abbrev first_run : Run
first_run = record { rows = []; steps = Append (10 ∷ []) ∷ []; kept = 0; left = None }

-- a second run, which writes a row that is reported to it as kept
abbrev second_run : Run
second_run = record { rows = (65 ∷ []) ∷ []; steps = Append (65 ∷ 10 ∷ []) ∷ Sync ∷ []; kept = 1; left = None }

-- the last sync of the first run fails: a read still returns the head, and the disk has a zero in its place. Then the second
-- run goes on in that file
abbrev failing_events : List Event
failing_events = Ran first_run (Unsynced (10 ∷ []) (0 ∷ [])) ∷ Ran second_run Stopped ∷ []

-- the first run is one over an empty file
first_is_a_run : IsRun line_feed_head [] first_run
first_is_a_run = record {
  rows = tt;
  steps = inr (10 ∷ [], record { later = Append (10 ∷ []) ∷ []; split = refl; puts = record { none_cut = refl; all = refl } }, record { rest = []; split = refl });
  few = omega arith;
  kept = inl refl;
}

-- the second run is one over the file that a read returns
second_is_a_run : IsRun line_feed_head (10 ∷ []) second_run
second_is_a_run = record {
  rows = (refl, tt);
  steps = inr (65 ∷ 10 ∷ [], record { later = Append (65 ∷ 10 ∷ []) ∷ Sync ∷ []; split = refl; puts = record { none_cut = refl; all = refl } }, record { rest = []; split = refl });
  few = omega arith;
  kept = inr (record { rest = []; split = refl });
}

-- these events can happen to an empty file, where runs go on in any file
events_are_possible : ArePossibleEvents (λ doubted. Unit {0}) line_feed_head (same_sides (settled [])) false failing_events
events_are_possible = (
  (
    tt,
    first_is_a_run,
    (
      record { front = 10 ∷ []; may = inr refl; hole = []; none = refl; is = refl },
      record { front = []; may = inl (refl, (0, refl)); hole = 0 ∷ []; none = refl; is = refl },
    ),
  ),
  ((tt, second_is_a_run, tt), tt),
)

-- the law: it isn't so that tables last where runs go on in any file, in doubt or not
pub copies_are_needed : CopiesAreNeeded
copies_are_needed lasts =
    let has = lasts line_feed_head [] (inr ([], refl, refl)) failing_events events_are_possible (0 ∷ 65 ∷ 10 ∷ []) (inr (inr (inr refl))) in
    let wrong : 0 ∷ 65 ∷ 10 ∷ [] ≡ 10 ∷ rows_of (runs_of failing_events) has.0 = has.2 in
    cc
