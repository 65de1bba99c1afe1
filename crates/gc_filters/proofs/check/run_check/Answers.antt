use Rattle.gc_filters.proofs.Common.{refl, arith}
use Rattle.gc_filters.proofs.Checked.{frames_are_checked, few_reads}
use Rattle.gc_filters.proofs.check.run_check.Goals as goal

pub returns : goal.returns
returns g c =
    let given = c.answer_frames.ensures.answers in
    let h = given.1 in
    let ended = c.answer_frames.ensures.ended in
    let few = few_reads
    (record {
      remaining = g.S.Source.remaining c.args.source.now;
      reads = g.S.Source.reads c.args.source.now;
      ended =
          g.S.Source.ended c.args.source.now;
      source_failed = g.S.Source.failed c.args.source.now;
      taken = g.K.Sink.taken c.args.sink.now;
      sink_failed =
          g.K.Sink.failed c.args.sink.now;
    })
    (record {
      remaining = g.S.Source.remaining c.answer_frames.new.source;
      reads = g.S.Source.reads c.answer_frames.new.source;
      ended =
          g.S.Source.ended c.answer_frames.new.source;
      source_failed = g.S.Source.failed c.answer_frames.new.source;
      taken =
          g.K.Sink.taken c.answer_frames.new.sink;
      sink_failed = g.K.Sink.failed c.answer_frames.new.sink;
    })
    c.args.max_reads c.answer_frames.result ended.ends in
    record {
      did = (h.0, h.1, h.2, frames_are_checked _ given.0 h.0 _ _ _ refl (omega (arith, h.2, few)) h.3);
      ended = ended;
    }
