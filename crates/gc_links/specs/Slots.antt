-- Not cited by theorems: what a link has of its device, as contracts see the value in which it keeps it.
use Rattle.std.specs.Prelude.{◌≡◌, true, List, ℕ, [], ◌∷◌, Option, Some, None, Result, Ok, Err, ⊤}
use Rattle.gc_links.specs.Calls.{Call, Asked}
use Rattle.gc_links.specs.Devices.{device_end}
use Rattle.gc_links.specs.DoesOnDevice.{HoldsFirst, LeavesNone, Takes, TakesNone}
use Rattle.gc_links.specs.Holds.{Hold}
use Rattle.gc_links.specs.declared.slot.Slot.{Slot}
use Rattle.gc_links.specs.declared.slot.Slot.TheVariants.{Empty, Aside, Linked, Gone}
use Rattle.gc_links.specs.declared.system.devices.OpenDevice.{OpenDevice}
use Rattle.gc_links.specs.Holds as hold

-- what the link has of its device
abbrev pub hold_of : Slot → Hold
hold_of Empty = hold.Nothing
hold_of (Aside device) = hold.Aside (device_end device)
hold_of (Linked device) = hold.Linked (device_end device)
hold_of (Gone device) = hold.Gone (device_end device)

-- these calls took the device that was held aside, or left none open
abbrev pub TakesHeld : Hold → Option OpenDevice → List Call → Type 0
TakesHeld held (Some device) calls = (held ≡ hold.Aside (device_end device)) × (calls ≡ Asked (device_end device) true ∷ [])
TakesHeld held None calls = LeavesNone held calls

-- these calls took the device that was held aside, or the one at this path, or none
abbrev pub TakesDevice : {E : Type 0} → (path : List ℕ) → Hold → Result OpenDevice E → List Call → Type 0
TakesDevice path held (Ok device) calls = Takes path held calls (hold.Linked (device_end device))
TakesDevice path held (Err _) calls = TakesNone path held calls hold.Nothing

-- these calls opened the device at this path, which is held aside, or couldn't open it; nothing is said where it can't be used
abbrev pub HoldsSlot : {E : Type 0} → (path : List ℕ) → Result Slot E → List Call → Type 0
HoldsSlot path (Ok slot) calls = HoldsFirst path calls (hold_of slot)
HoldsSlot path (Err _) calls = ⊤
