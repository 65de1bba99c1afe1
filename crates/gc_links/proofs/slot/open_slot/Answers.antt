use Rattle.gc_links.proofs.Common.{◌≡◌, subst, Makes, ended, ending, hold_of}
use Rattle.gc_links.proofs.DeviceActs.{opens_device}
use Rattle.gc_links.proofs.slot.open_slot.Goals as goal

pub returns-in-Ok : goal.returns-in-Ok
returns-in-Ok g c start =
    opens_device c.args.path.now start (hold_of c.args.slot.now) (hold_of c.closed-aside.result) _ c.take.result c.in-Ok.device c.in-Ok.is
    (subst (λ s. Makes c.args.system.now.calls.made c.closed-aside.new.system.calls.made
    (λ calls. (calls ≡ ending (hold_of s)) × (hold_of c.closed-aside.result ≡ ended (hold_of s)))) c.replace-old.ensures.value
    c.closed-aside.ensures)
    c.take.ensures
