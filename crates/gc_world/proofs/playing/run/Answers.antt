use Rattle.gc_world.proofs.Common.{◌+◌, length, take, refl, sym, subst, arith, false≢true, slice_get_read, Call, ById, ends_with, by_ids, streamed_between, stage_parts, AreStreamsOf, streams_at_start, Streams}
use Rattle.gc_world.proofs.Flow.{flow_more}
use Rattle.gc_world.proofs.Turns.{all_shown, counts_at}
use Rattle.gc_world.proofs.playing.run.Goals as goal

pub loop-event-preserved : goal.loop-event-preserved
loop-event-preserved g c =
    let ends = ends_with g.I.Executes.acts in
    let s = stage_parts c.happen.new.self in
    let i = c.loop-event.event-index in
    let width = c.args.width in
    let events = c.args.events.now in
    let opening = c.args.instrument in
    let shown = c.in_ok-happen.ensures.follows width (streamed_between ends width opening (take i events)) c.loop-event.invariant.shows in
    let shows : AreStreamsOf width s (streamed_between ends width opening (take (i + 1) events)) =
    subst (λ (v : Streams (ById Call) g.row.I.Denot). AreStreamsOf width s v)
    (sym (flow_more ends (by_ids width ends) events i c.event-item.result (streams_at_start ends opening) c.loop-event-test.true c.event-item.is)) shown in
    let counts = counts_at ends width opening events (i + 1) s.report shows.lines.reports (omega (arith, c.loop-event-test.true)) in
    record { shows = shows; refused = counts.0; idle = counts.1 }

-- the event for which memory ran out is none of those that take none
pub returns-in_err-happen-clause-spare : goal.returns-in_err-happen-clause-spare
returns-in_err-happen-clause-spare g c =
    let i = c.loop-event.event-index in
    let event = c.event-item.result in
    let v = streamed_between (ends_with g.I.Executes.acts) c.args.width c.args.instrument (take i c.args.events.now) in
    λ none.
    let is = slice_get_read c.args.events.now (length c.args.events.now) i event refl c.loop-event-test.true c.event-item.is in
    absurd (false≢true (c.in_err-happen.ensures.spare c.args.width v c.loop-event.invariant.shows (none i event is)))

pub returns-clause-shows : goal.returns-clause-shows
returns-clause-shows g c =
    all_shown (ends_with g.I.Executes.acts) c.args.width c.args.instrument c.args.events.now (stage_parts c.loop-event.stage) c.loop-event.event-index c.loop-event-test.false
    c.loop-event.invariant.shows
