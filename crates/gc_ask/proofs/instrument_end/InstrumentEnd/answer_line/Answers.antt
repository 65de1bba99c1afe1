use Rattle.gc_ask.proofs.Common.{Ok, Err, refl, arith, ports_of, ReadEnds, input_of}
use Rattle.gc_ask.proofs.Ends.{ends_then, ends_too_many, fault_counts_replies, step_hears}
use Rattle.gc_ask.proofs.instrument_end.InstrumentEnd.answer_line.Goals as goal

pub loop-cut-preserved : goal.loop-cut-preserved
loop-cut-preserved g c =
    let before = c.loop-cut.invariant in
    let read = c.in_default.ensures in
    let ends = ends_then (input_of g.I.Source c.args.link_in.now) (input_of g.I.Source c.loop-cut.link_in) (input_of g.I.Source c.read_more.new.source)
    c.loop-cut.reads c.read_more.new.reads (Ok tt) before.grows read.grows ((before.going, before.same), before.failed) read.ends in
    record {
      reads = omega (arith, before.reads, read.reads);
      grows = omega (arith, before.grows, read.grows);
      going = ends.0.0;
      same = ends.0.1;
      failed = ends.1;
    }

pub returns-in-Err : goal.returns-in-Err
returns-in-Err g c =
    let before = c.loop-cut.invariant in
    let read = c.in-Err.ensures in
    let first = input_of g.I.Source c.args.link_in.now in
    let now = input_of g.I.Source c.read_more.new.source in
    let left = c.read_more.new.reads in
    let ends : ReadEnds first now left (Err c.in-Err.fault) = ends_then first (input_of g.I.Source c.loop-cut.link_in) now
    c.loop-cut.reads left (Err c.in-Err.fault) before.grows read.grows ((before.going, before.same), before.failed) read.ends in
    record {
      reads = omega (arith, before.reads, read.reads);
      ends = step_hears
          (ports_of g.I.Source c.args.link_in.now g.O.Sink c.args.link_out.now) (ports_of g.I.Source c.read_more.new.source g.O.Sink c.args.link_out.now)
          left (Err c.in-Err.fault) ends (omega (arith, before.grows, read.grows)) refl;
      count = fault_counts_replies c.args.place first now left c.in-Err.fault ends;
      too_many = ends_too_many first now left (Err c.in-Err.fault) ends;
    }
