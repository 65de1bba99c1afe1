use Rattle.gc_lines.proofs.Common.{◌≤◌, length, take, arith, sym, ◌∙◌, rules, ne_eqb, length-take}
use Rattle.gc_lines.proofs.Exactly.{has_ended}
use Rattle.gc_lines.proofs.Given.{answered_with_piece, part_with_piece, gave_more, given_end}
use Rattle.gc_lines.proofs.answering.answer_frames.Goals as goal

pub loop-preserved : goal.loop-preserved
loop-preserved g c =
    let it = c.loop.invariant.so in
    let short : length (take c.in-Ok.n c.read.new.buf) ≤ 256 = omega (arith, c.loop.invariant.room, c.read.auto.buf, length-take c.in-Ok.n c.read.new.buf) in
    record {
      so = gave_more _ _ _ c.loop.counter _ _ _ _ it c.in-Ok.ensures.bytes.1 short (omega arith) (answered_with_piece _ _ _ _ _ it.0 _ it.3 _ c.in_default.ensures.answered);
      reads = omega (arith, c.loop.invariant.reads, c.in-Ok.ensures.counts.0);
      going = λ _. c.in-Ok.ensures.counts.1 ∙ ne_eqb c.in-Ok.n 0 c.in-Ok.n-test.1;
      source = c.in-Ok.ensures.fails.1 ∙ sym c.in-Ok.ensures.fails.0 ∙ c.loop.invariant.source;
      sink = c.in_default.ensures.failed ∙ c.loop.invariant.sink;
      few = omega (arith, c.loop.invariant.few, short, c.in_default.ensures.bound);
      nothing = c.in_default.ensures.nothing;
      gathers = c.answer_piece.ensures.gathers ∙ c.loop.invariant.gathers;
      room = c.read.auto.buf ∙ c.loop.invariant.room;
    }

pub returns-in-Err-answer_piece-clause-answers : goal.returns-in-Err-answer_piece-clause-answers
returns-in-Err-answer_piece-clause-answers g c =
    let it = c.loop.invariant.so in
    let short : length (take c.in-Ok.n c.read.new.buf) ≤ 256 = omega (arith, c.loop.invariant.room, c.read.auto.buf, length-take c.in-Ok.n c.read.new.buf) in
    let part = part_with_piece _ _ _ _ _ it.0 _ it.3 _ _ c.in-Err-answer_piece.ensures.answered in (
      part.reached,
      gave_more _ _ _ c.loop.counter _ _ _ _ it c.in-Ok.ensures.bytes.1 short (omega (arith, c.loop.invariant.reads, c.in-Ok.ensures.counts.0)) part.part,
      λ e. part.alone (c.loop.invariant.gathers ∙ e),
    )

pub returns-in-Err-answer_piece-clause-ended : goal.returns-in-Err-answer_piece-clause-ended
returns-in-Err-answer_piece-clause-ended g c =
    has_ended _ _ _ _ tt
    (omega (arith, c.loop.invariant.reads, c.in-Ok.ensures.counts.0), omega (arith, c.loop.invariant.reads, c.in-Ok.ensures.counts.0), search rules, search rules, search rules)

pub returns-in-Err-clause-ended : goal.returns-in-Err-clause-ended
returns-in-Err-clause-ended g c = has_ended _ _ _ _ tt (search rules)

pub returns-in-Ok-eq0-clause-ended : goal.returns-in-Ok-eq0-clause-ended
returns-in-Ok-eq0-clause-ended g c = has_ended _ _ _ _ (search rules) (search rules)

pub returns-in-Ok-eq0-clause-answers : goal.returns-in-Ok-eq0-clause-answers
returns-in-Ok-eq0-clause-answers g c = search (given_end, rules)

pub returns-clause-ended : goal.returns-clause-ended
returns-clause-ended g c = has_ended _ _ _ _ tt (search rules)
