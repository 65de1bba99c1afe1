-- The note of each of the system's calls of a device by its answer, and what a link knows of its device: this project's own.
use Rattle.std.specs.Prelude.{List, ℕ, Result, Ok, Err}
use Rattle.gc_links.specs.Calls.{End, Call, Device}
use Rattle.gc_links.specs.declared.system.devices.OpenDevice.{OpenDevice}
use Rattle.gc_links.specs.Calls as call

-- the end that an open device is
abbrev pub device_end : OpenDevice → End
device_end device = Device device.path.now

-- the call that opened the device at this path, by its answer
abbrev pub reach_call : {X E : Type 0} → (path : List ℕ) → Result X E → Call
reach_call path (Ok _) = call.Reached (Device path)
reach_call path (Err _) = call.NotReached (Device path)
