use Rattle.gc_links.proofs.Common.{instant_nanos, Silent, Makes, device_end, DoesConnected}
use Rattle.gc_links.proofs.serial.read_until.Given as goal

abbrev pub invariant-loop : goal.invariant-loop
invariant-loop g l = record {
  silent : Makes l.fn.system.calls.made l.system.calls.made (DoesConnected (instant_nanos l.fn.timer.start) (device_end l.fn.device) (Silent l.quiet));
}
