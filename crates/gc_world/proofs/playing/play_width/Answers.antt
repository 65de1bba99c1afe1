use Rattle.gc_world.proofs.Common.{◌∙◌, restarted_fits, streamed, stage_parts}
use Rattle.gc_world.proofs.Faithfulness.{faithful, once, no_longer_than}
use Rattle.gc_world.proofs.Turns.{report_at_end, stand_at_end}
use Rattle.gc_world.proofs.playing.play_width.Goals as goal

pub returns-clause-played : goal.returns-clause-played
returns-clause-played g c =
    let s = stage_parts c.in_ok-stage.stage in
    let width = c.args.width in
    let opening = c.args.instrument in
    let events = c.args.events.now in
    let r = c.ended.result.0 in
    let shows = c.in_ok-stage.ensures.shows in
    let fits = restarted_fits opening c.precision.ensures.fits in
    let ends_so = report_at_end width (streamed width opening events) s r shows c.ended.ensures.report in
    let stand = stand_at_end width opening events s r shows c.ended.ensures.report in
    record {
      report = ends_so.reports;
      client = c.ended.ensures.client ∙ ends_so.client_is;
      up = stand.0;
      down = stand.1;
      faithful = faithful width c.requires.1 opening events r s.up.queue s.down.queue s.client fits ends_so;
      once = once width c.requires.1 opening events r s.up.queue s.down.queue s.client fits ends_so;
      few = no_longer_than width c.requires.1 opening events r s.up.queue s.down.queue s.client ends_so;
    }
