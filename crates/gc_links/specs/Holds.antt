-- What a link has of its device, and what its acts make of that: this project's own.
use Rattle.std.specs.Prelude.{Bool, true, false, List, [], ◌∷◌, Option, Some, None}
use Rattle.gc_links.specs.Acts.{Act, Cut, Gave, Ended, Broke}
use Rattle.gc_links.specs.Calls.{End, Call, Dropped}

-- what a link has of its device
pub data Hold : Type 0 where
  -- no device is open
  Nothing : Hold
  -- the device is open, so that its lock stays; but there is no connection
  Aside : (end : End) → Hold
  -- the device is the connection
  Linked : (end : End) → Hold
  -- the device is the connection, and it ended, or a read or a put of it failed, and no read gave bytes after that
  Gone : (end : End) → Hold

-- the far end of the connection, if there is one
abbrev pub linked_end : Hold → Option End
linked_end (Linked end) = Some end
linked_end (Gone end) = Some end
linked_end _ = None

-- the same, with the device of a connection marked as gone, or not
abbrev pub marked : (is_gone : Bool) → Hold → Hold
marked true (Linked end) = Gone end
marked false (Gone end) = Linked end
marked _ hold = hold

-- what there is after an act that neither opens nor closes: an end or a failure marks the device as gone, and bytes mark it as there
abbrev pub hold_after : Act → Hold → Hold
hold_after (Cut bytes count) hold = marked true hold
hold_after Ended hold = marked true hold
hold_after Broke hold = marked true hold
hold_after (Gave bytes moment) hold = marked false hold
hold_after _ hold = hold

-- what there is once the connection was ended: the device is held aside, unless it is gone
abbrev pub ended : Hold → Hold
ended (Linked end) = Aside end
ended (Gone end) = Nothing
ended hold = hold

-- the calls that end the connection: a device that is gone is dropped, and no other
abbrev pub ending : Hold → List Call
ending (Gone end) = Dropped end ∷ []
ending _ = []
