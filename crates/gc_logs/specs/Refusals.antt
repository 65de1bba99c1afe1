-- What the program writes of a command line that it refuses: this project's own.
use Rattle.gc_logs.specs.Common.{Appends}
use Rattle.std.specs.Prelude.{◌≡◌, ℕ, ◌++◌, Bool, true, false, List, Option, codes}

-- the line that says why a command line is refused
abbrev pub refusal_line : (why : List ℕ) → List ℕ
refusal_line why = codes "error: " ++ (why ++ codes "\n")

-- the line that says that a number of the command line is out of its range
abbrev pub range_line : List ℕ
range_line = refusal_line (codes "a number on the command line is out of range")

-- the line that says that a station's run would end for want of an answer before its second cycle is due
abbrev pub stale_line : List ℕ
stale_line = refusal_line (codes "--stale is below --every: the run would end before its second cycle")

-- the line that says that a station's cycles are to be due by the clock, but not before the next whole multiple of their period
abbrev pub at_line : List ℕ
at_line = refusal_line (codes "--at is not below --every: cycles are due so long after its whole multiples")

-- the line that says that in the name of a file a percent sign begins no part of a date
abbrev pub date_line : List ℕ
date_line = refusal_line (codes "in the name of --append or --log a % begins none of %Y, %m, %d, %H and %%")

-- the line that says that a word names no unit of angles
abbrev pub unit_line : List ℕ
unit_line = refusal_line (codes "--unit is gon or degree")

-- the line that says that a word is no place: none to serve a simulator on (`serves`), or none of an instrument
abbrev pub place_line : (serves : Bool) → List ℕ
place_line true = refusal_line (codes "a simulator is served on a port of 127.0.0.1, from 1 to 65535, on the path of a device, which has a /, or with --any-address at HOST:PORT")
place_line false = refusal_line (codes "a place is a port from 1 to 65535, HOST:PORT, [ADDRESS]:PORT, or the path of a device, which has a /")

-- a command line was refused: the status is 2, and this line was written. `old` and `new` are the messages before and after
abbrev pub Refuses : (line : List ℕ) → (status : ℕ) → (old new : Option (List ℕ)) → Type 0
Refuses line status old new = (status ≡ 2) × Appends old new line
