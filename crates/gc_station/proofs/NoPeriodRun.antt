-- The run of `specs/NoPeriodRun.antt`, computed.
use Rattle.gc_station.proofs.Common.{inl, inr, None, refl, lit<, lit≤, scope, outage_commands}
use Rattle.gc_station.specs.NoPeriodRun.{DueMomentsAreNeeded, gapless_plan, long_pause}
use Rattle.gc_station.proofs.Returning.{calls_each, readings_at_once, not_in_time}

-- the run in which cycles have no due moments isn't in time
pub due_moments_needed : DueMomentsAreNeeded
due_moments_needed =
    record {
      runs = (tt, (tt, (tt, tt)));
      listed = lit≤ tt;
      rises = (lit≤ tt, lit≤ tt, (lit≤ tt, lit≤ tt, tt));
      few = (lit≤ tt, (lit≤ tt, tt));
      calls = calls_each gapless_plan outage_commands scope 5 long_pause (lit≤ tt) (λ slow. (0, refl, lit≤ tt), (λ slow. absurd slow, (λ slow. (1000, (None, refl, refl), lit≤ tt), tt)));
      readings = readings_at_once gapless_plan outage_commands scope long_pause (inr tt, (inr (lit≤ tt), (inl tt, tt)));
      unasked = refl;
      beyond = not_in_time gapless_plan outage_commands scope 16 0 long_pause (lit< tt) (inr (refl, refl)) (λ n. lit< tt) (lit≤ tt);
    }
