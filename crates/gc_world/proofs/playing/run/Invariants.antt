use Rattle.gc_world.proofs.Common.{◌≤◌, take, ends_with, streamed_between, Shows}
use Rattle.gc_world.proofs.playing.run.Given as goal

-- the stage shows the run of the events so far
abbrev pub invariant-loop-event : goal.invariant-loop-event
invariant-loop-event g l =
    record {
      shows : Shows l.fn.width l.stage (streamed_between (ends_with g.I.Executes.acts) l.fn.width l.fn.instrument (take l.event-index l.events));
      refused : l.stage.report.refused_sends ≤ l.event-index;
      idle : l.stage.report.idle_events ≤ l.event-index;
    }
