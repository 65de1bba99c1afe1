use Rattle.gc_links.proofs.Common.{hold_of}
use Rattle.gc_links.proofs.DeviceActs.{puts_on_device}
use Rattle.gc_links.proofs.slot.put_slot.Goals as goal

pub returns-clause-does : goal.returns-clause-does
returns-clause-does g c = λ path start.
    puts_on_device path start (hold_of c.args.slot.now) (hold_of c.mark_put.new.slot) c.put_linked-put.result c.args.bytes.now
    (c.put_linked-put.ensures.does start) (c.mark_put.ensures c.args.bytes.now)
