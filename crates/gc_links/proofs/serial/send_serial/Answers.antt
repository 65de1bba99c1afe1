use Rattle.gc_links.proofs.Common.{rules, device_end}
use Rattle.gc_links.proofs.Sending.{took_within, took_more, took_none}
use Rattle.gc_links.proofs.serial.send_serial.Goals as goal

pub loop-at-preserved-in_default-1 : goal.loop-at-preserved-in_default-1
loop-at-preserved-in_default-1 g c = record {
  within = took_within c.loop-at.at c.in-Took.n c.args.bytes.now c.loop-at.invariant.within c.in-Took.ensures.within;
  few = c.loop-at.invariant.few;
  sends =
      took_more (device_end c.args.device.now) c.loop-at.at c.in-Took.n c.args.bytes.now (search rules) c.in-Took.ensures.within
      c.loop-at.invariant.sends c.in-Took.ensures.tells;
}

pub loop-at-preserved : goal.loop-at-preserved
loop-at-preserved g c = record {
  within = c.loop-at.invariant.within;
  few = search rules;
  sends =
      took_none (device_end c.args.device.now) c.loop-at.at c.args.bytes.now c.loop-at.invariant.sends c.in-TookNone.ensures.tells;
}
