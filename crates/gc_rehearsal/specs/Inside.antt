-- Not cited by theorems: how contracts see the fields of `Carried`.
use Rattle.std.specs.Prelude.{◌≡◌, Bool, true, false, List, Option, None, Some}
use Rattle.gc_links.specs.Prelude.{Act}
use Rattle.gc_rehearsal.specs.Carrying.{Lines, HasComeTo}
use Rattle.gc_rehearsal.specs.Queues.{lines_of}
use Rattle.gc_rehearsal.specs.declared.carried.Carried.TheInside.{Inside}

-- these acts as contracts see them, by whether the link alters bytes: nothing is seen of one that does
abbrev pub told : (alters : Bool) → List Act → Option (List Act)
told true acts = None
told false acts = Some acts

-- the acts so far, as contracts see them
abbrev pub acts_in : Inside → Option (List Act)
acts_in c = told c.alters c.history.acts

-- the lines in flight, and the instrument
abbrev pub lines_in : Inside → Lines
lines_in c = lines_of c.traffic

-- the acts so far have led to the lines that are in flight now (`HasComeTo`), unless the link alters bytes
abbrev pub KeepsToLine : Inside → Type 0
KeepsToLine c = c.alters ≡ false → HasComeTo c.history.acts (lines_in c)
