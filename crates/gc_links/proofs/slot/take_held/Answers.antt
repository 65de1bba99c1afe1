use Rattle.gc_links.proofs.Common.{ap, hold_of}
use Rattle.gc_links.proofs.DeviceActs.{held_gone}
use Rattle.gc_links.proofs.slot.take_held.Goals as goal

pub returns-in-Aside : goal.returns-in-Aside
returns-in-Aside g c =
    held_gone (hold_of c.args.slot) c.in-Aside.device c.is_there.result (ap hold_of c.in-Aside.is) c.if-is_there.false c.is_there.ensures
    c.close_device.ensures
