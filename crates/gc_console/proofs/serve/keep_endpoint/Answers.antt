use Rattle.gc_console.proofs.Common.{IfErr-weaker}
use Rattle.gc_console.proofs.Missing.{device_of_place}
use Rattle.gc_console.proofs.serve.keep_endpoint.Goals as goal

pub returns-in-Device-clause-fault : goal.returns-in-Device-clause-fault
returns-in-Device-clause-fault g c =
    IfErr-weaker c.keep_device.result _ _ (λ fault had. (had.0, device_of_place fault had.1)) c.keep_device.ensures.fault
