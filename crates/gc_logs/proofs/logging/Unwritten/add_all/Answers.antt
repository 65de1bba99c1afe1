use Rattle.gc_logs.proofs.LogLines.{took_more, pending_at_next}
use Rattle.gc_logs.proofs.logging.Unwritten.add_all.Goals as goal

pub loop-b-preserved : goal.loop-b-preserved
loop-b-preserved g c =
    let p = c.args.self.now in
    let q = c.loop-b.self in
    let bs = c.args.bytes.now in
    let i = c.loop-b.b-index in
    let within = c.loop-b-test.true in
    let behind = c.loop-b.invariant.pending in
    record {
      took = took_more p q bs i within behind c.args.way c.loop-b.invariant.took c.add.ensures.took;
      pending = pending_at_next p q bs i within behind c.add.new.self c.add.ensures.pending;
    }
