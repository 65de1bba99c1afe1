use Rattle.gc_links.proofs.Common.{refl, instant_nanos, Closed, hold_of}
use Rattle.gc_links.proofs.DeviceActs.{close_on_device}
use Rattle.gc_links.proofs.DeviceMeaning.{device_then}
use Rattle.gc_links.proofs.device_link.DeviceLinkLink.close.Goals as goal

pub invariant_of-self : goal.invariant_of-self
invariant_of-self g c =
    let link = c.args.self.now in
    let path = link.path.now in
    let start = instant_nanos link.timer.start in
    record {
      meant =
          device_then path start Closed Closed (hold_of c.close_slot.new.slot) link.meant c.then-self.ensures refl
          (close_on_device path start (hold_of link.slot) (hold_of c.close_slot.new.slot) c.close_slot.ensures);
    }
