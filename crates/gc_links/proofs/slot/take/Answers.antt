use Rattle.gc_links.proofs.Common.{◌≡◌, Option, Device, device_end, hold_of}
use Rattle.std.proofs.lemmas.Result.{IfOk-at_ok}
use Rattle.gc_links.specs.declared.device.Unusable.{Unusable}
use Rattle.gc_links.proofs.DeviceActs.{takes_again, takes_anew}
use Rattle.gc_links.proofs.slot.take.Goals as goal

pub returns-in-Some : goal.returns-in-Some
returns-in-Some g c =
    takes_again c.args.path.now (hold_of c.args.slot) (Option Unusable) c.take_held.result c.in-Some.device c.in-Some.is c.take_held.ensures

pub returns-in-None : goal.returns-in-None
returns-in-None g c =
    takes_anew c.args.path.now (hold_of c.args.slot) (Option Unusable) c.take_held.result c.reach.result c.in-None.is c.take_held.ensures
    c.reach.ensures.tells (λ device is. IfOk-at_ok (λ d. device_end d ≡ Device c.args.path.now) is c.reach.ensures.there)
