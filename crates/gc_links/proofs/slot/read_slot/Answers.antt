use Rattle.gc_links.proofs.Common.{instant_nanos, hold_of}
use Rattle.gc_links.proofs.DeviceActs.{reads_on_device}
use Rattle.gc_links.proofs.slot.read_slot.Goals as goal

pub returns-clause-does : goal.returns-clause-does
returns-clause-does g c = λ path.
    reads_on_device path (instant_nanos c.args.timer.now.start) (hold_of c.args.slot.now) (hold_of c.mark_read.new.slot)
    c.read_linked-came.result c.read_linked-came.new.buf c.read_linked-came.ensures.does (c.mark_read.ensures c.read_linked-came.new.buf)
