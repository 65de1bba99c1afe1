use Rattle.gc_filters.proofs.Common.{◌≤◌, [], length, take, arith, sym, ◌∙◌, rules, ne_eqb, length-take, nothing_known}
use Rattle.gc_lines.proofs.Exactly.{has_ended}
use Rattle.gc_lines.proofs.Given.{gave_more}
use Rattle.gc_filters.proofs.LogVerdicts.{checked_more, checked_part}
use Rattle.gc_filters.proofs.check_log.run_check_log.Goals as goal

pub loop-preserved : goal.loop-preserved
loop-preserved g c =
    let it = c.loop.invariant.so in
    let short : length (take c.in-Ok.n c.read.new.buf) ≤ 256 = omega (arith, c.loop.invariant.room, c.read.auto.buf, length-take c.in-Ok.n c.read.new.buf) in
    record {
      so = gave_more _ _ _ c.loop.counter _ _ _ _ it c.in-Ok.ensures.bytes.1 short (omega arith)
          (checked_more nothing_known c.loop.check c.check_piece.new.self [] it.0 _ _ _ _ _ it.3 c.in_default.ensures.ok);
      reads = omega (arith, c.loop.invariant.reads, c.in-Ok.ensures.counts.0);
      going = λ _. c.in-Ok.ensures.counts.1 ∙ ne_eqb c.in-Ok.n 0 c.in-Ok.n-test.1;
      source = c.in-Ok.ensures.fails.1 ∙ sym c.in-Ok.ensures.fails.0 ∙ c.loop.invariant.source;
      sink = c.in_default.ensures.failed ∙ c.loop.invariant.sink;
      few = omega (arith, c.loop.invariant.few, short, c.in_default.ensures.few);
      nothing = c.in_default.ensures.nothing;
      room = c.read.auto.buf ∙ c.loop.invariant.room;
    }

pub returns-in-Err-check_piece : goal.returns-in-Err-check_piece
returns-in-Err-check_piece g c =
    let it = c.loop.invariant.so in
    let short : length (take c.in-Ok.n c.read.new.buf) ≤ 256 = omega (arith, c.loop.invariant.room, c.read.auto.buf, length-take c.in-Ok.n c.read.new.buf) in
    record {
      did = gave_more _ _ _ c.loop.counter _ _ _ _ it c.in-Ok.ensures.bytes.1 short (omega (arith, c.loop.invariant.reads, c.in-Ok.ensures.counts.0))
          (checked_part nothing_known c.loop.check c.check_piece.new.self [] it.0 _ _ _ _ _ it.3 c.in-Err-check_piece.bytes c.in-Err-check_piece.ensures.err);
      ended = has_ended _ _ _ _ tt
          (omega (arith, c.loop.invariant.reads, c.in-Ok.ensures.counts.0), omega (arith, c.loop.invariant.reads, c.in-Ok.ensures.counts.0), search rules, search rules, search rules);
    }
