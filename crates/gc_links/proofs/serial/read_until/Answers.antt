use Rattle.gc_links.proofs.Common.{instant_nanos, Silence, device_end}
use Rattle.gc_links.proofs.Waiting.{silence_then}
use Rattle.gc_links.proofs.serial.read_until.Goals as goal

pub returns-in_default-read_once : goal.returns-in_default-read_once
returns-in_default-read_once g c = record {
  does =
      silence_then (instant_nanos c.args.timer.now.start) (device_end c.args.device.now) c.loop.quiet c.read_once-in-loop.new.buf
      c.read_once-in-loop.result c.loop.invariant.silent c.read_once-in-loop.ensures.does;
  within = c.read_once-in-loop.ensures.within;
}

pub loop-preserved : goal.loop-preserved
loop-preserved g c = record {
  silent =
      silence_then (instant_nanos c.args.timer.now.start) (device_end c.args.device.now) c.loop.quiet c.read_once-in-loop.new.buf
      (Silence c.in-Silence-read_once.moment) c.loop.invariant.silent c.in-Silence-read_once.ensures.does;
}
