-- The fault of a place over which no connection can be had: this project's own.
use Rattle.gc_ask.specs.Common.{RunFault}
use Rattle.std.specs.Prelude.{◌≡◌, Option, Some, None}
use Rattle.gc_links.specs.declared.device.Unusable.{Unusable}
use Rattle.gc_links.specs.declared.device.Unusable.TheVariants as unusable
use Rattle.gc_texts.specs.declared.fault.RunFault.TheVariants as fault

-- the fault for why a device can't be used
abbrev pub fault_of_unusable : Unusable → RunFault
fault_of_unusable unusable.NoTerminal = fault.NoTerminal
fault_of_unusable unusable.Held = fault.Held
fault_of_unusable unusable.Forbidden = fault.Forbidden

-- the fault for why a device can't be used, and `Socket` where there is no such reason
abbrev pub fault_of_reason : Option Unusable → RunFault
fault_of_reason (Some why) = fault_of_unusable why
fault_of_reason None = fault.Socket

-- the fault is one that comes where no connection to a place can be had, with a reason or without one
abbrev pub IsFaultOfPlace : RunFault → Type 0
IsFaultOfPlace fault = (reason : Option Unusable) × (fault ≡ fault_of_reason reason)

-- the fault is that of a device that is there and can't be used, for some reason
abbrev pub IsFaultOfDevice : RunFault → Type 0
IsFaultOfDevice fault = (unusable : Unusable) × (fault ≡ fault_of_unusable unusable)
