use Rattle.gc_station.proofs.BoundRuns.{calls_needed, readings_needed, deadlines_needed, unasked_needed}
use Rattle.gc_station.proofs.NoPeriodRun.{due_moments_needed}
use Rattle.gc_station.proofs.laws.what_the_bound_asks_is_needed.Goals as goal

pub returns : goal.returns
returns c = record { calls = calls_needed; readings = readings_needed; deadlines = deadlines_needed; unasked = unasked_needed; due_moments = due_moments_needed }
