-- What the laws on a run take beside its plan and its commands, this project's own: how many turns it has, what is watched,
-- and what each reply says of its call.
use Rattle.gc_station.specs.Common.{Reading, Asked, ReadsBy, Form}
use Rattle.std.specs.Prelude.{◌≡◌, ℕ, List, Option}
use Rattle.gc_station.specs.Saying.{Says, IsSaid}

-- what the line of a reply says of a call, read by a form if there is one, for each of these, each call and each line
abbrev pub Reads : Type 0
Reads = Option Form → Says

-- what a run is given besides its plan and commands
pub record Scope : Type 0 where
  -- how many turns it has: each act takes one. When none is left, a connection that is still there is closed by one act more
  pub turns : ℕ
  -- what is watched: the places of commands among those of the text's cycle
  pub watched : List ℕ
  -- what the line of a reply says of a call, read by a form if there is one
  pub reads : Reads

-- `reads` gives the reading of each line for each call, by each form and without one, wherever the line has one
abbrev pub AreReadings : Reads → Type 0
AreReadings reads = (form : Option Form) (call : Asked) (line : List ℕ) (reading : Reading) → ReadsBy (IsSaid form) call line reading → reads form call line ≡ reading

-- a line has at most one reading for a call, by a form or without one
abbrev pub OneReadingForALine : Type 0
OneReadingForALine =
    (form : Option Form) (call : Asked) (line : List ℕ) (x y : Reading) → ReadsBy (IsSaid form) call line x → ReadsBy (IsSaid form) call line y → x ≡ y

-- some function gives each line's reading for a call, by each form and without one, wherever there is one
abbrev pub SomeReadings : Type 0
SomeReadings = (reads : Reads) × AreReadings reads

-- the scope of a run with this many turns, in which the commands with these places are watched, and `reads` gives what the line of a
-- reply says of a call
abbrev pub scoped : ℕ → (watched : List ℕ) → Reads → Scope
scoped turns watched reads = record { turns = turns; watched = watched; reads = reads }

-- `Holds` is true of every function that gives each line's reading for a call
abbrev pub ForEachReadings : (Reads → Type 0) → Type 0
ForEachReadings Holds = (reads : Reads) → AreReadings reads → Holds reads

-- `Holds` is true of every function that gives each line's reading for a call, and there is such a function
abbrev pub ForEachAndSomeReadings : (Reads → Type 0) → Type 0
ForEachAndSomeReadings Holds = ForEachReadings Holds × ((reads : Reads) × AreReadings reads × Holds reads)
