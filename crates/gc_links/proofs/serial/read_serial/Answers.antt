use Rattle.gc_links.proofs.Common.{instant_nanos, device_end}
use Rattle.gc_links.proofs.Reading.{clocks_then, clocks_missed}
use Rattle.gc_links.proofs.serial.read_serial.Goals as goal

pub returns-in_default-clause-does : goal.returns-in_default-clause-does
returns-in_default-clause-does g c =
    clocks_missed (instant_nanos c.args.timer.now.start) (device_end c.args.device.now) c.in_default.ensures

pub returns-clause-does : goal.returns-clause-does
returns-clause-does g c =
    clocks_then (instant_nanos c.args.timer.now.start) (device_end c.args.device.now) c.in-Ok.moment c.read_until.new.buf
    c.read_until.result c.in-Ok.ensures c.read_until.ensures.does
