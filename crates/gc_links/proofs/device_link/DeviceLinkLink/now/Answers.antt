use Rattle.gc_links.proofs.Common.{instant_nanos, clock_act, act_of, hold_of}
use Rattle.gc_links.proofs.DeviceActs.{clock_on_device}
use Rattle.gc_links.proofs.DeviceMeaning.{device_then}
use Rattle.gc_links.proofs.device_link.DeviceLinkLink.now.Goals as goal

pub invariant_of-self : goal.invariant_of-self
invariant_of-self g c =
    let link = c.args.self.now in
    let path = link.path.now in
    let start = instant_nanos link.timer.start in
    record {
      meant =
          device_then path start (act_of c.note_of_clock.result) (clock_act c.moment-told.result) (hold_of link.slot) link.meant c.then-self.ensures
          c.note_of_clock.ensures (clock_on_device path start (hold_of link.slot) c.moment-told.result c.moment-told.ensures);
    }
