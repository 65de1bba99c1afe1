-- Files in which a sync failed: what the system may have lost of them, and what becomes of their rows. This project's own.
use Rattle.std.specs.Prelude.{◌≡◌, ◌⊎◌, ℕ, Bool, true, false, not, List, [], ◌∷◌, ◌++◌, ◌==◌, length, filter, Option}
use Rattle.gc_files.specs.Files.{Step, Life, IfKnown, content, later_by, MayBeLeft}
use Rattle.gc_files.specs.Rows.{has_feed, opened_table}
use Rattle.gc_files.specs.Runs.{Run, IsHead, IsRun, HasRows}
pub use Rattle.gc_files.specs.Files.{settled}

-- how many line feeds are among these bytes
abbrev pub feeds : List ℕ → ℕ
feeds bytes = length (filter (λ b. b == 10) bytes)

-- `count` is how many line feeds are among the bytes that the file holds, if its life is known
abbrev pub IsFeedCount : Option Life → (count : ℕ) → Type 0
IsFeedCount life count = IfKnown life (λ known. count ≡ feeds (content known))

-- The two sides of a file. What a read returns comes of one life, and what a crash may leave of the other. They are one until a
-- sync fails, after which the system may have dropped bytes that it couldn't write, still return them, and count them as written;
-- or until a copy takes the file's place whose name isn't on the disk.
pub record Sides : Type 0 where
  pub read : Life
  pub disk : Life

-- the sides of a file in which no sync failed: both are this life
abbrev pub same_sides : Life → Sides
same_sides life = record { read = life; disk = life }

-- both sides after these steps, each of which is done on both: so a later sync keeps what is on the disk, whatever a read returns
abbrev pub done_by : (steps : List Step) → Sides → Sides
done_by steps sides = record { read = later_by steps sides.read; disk = later_by steps sides.disk }

-- what a failed sync may make of a side: what a crash might have left (`front`), and after it, in place of what is lost, bytes
-- without a line feed (`hole`), such as zeros, or none
pub record Loses (life : Life) (now : List ℕ) : Type 0 where
  pub front : List ℕ
  pub may : MayBeLeft life front
  pub hole : List ℕ
  pub none : has_feed hole ≡ false
  pub is : now ≡ front ++ hole

-- how a run ends: by itself or by a kill; or its last call is a sync that fails, after which a read returns `read` and the disk
-- has `disk`
pub data RunEnd : Type 0 where
  Stopped : RunEnd
  Unsynced : (read disk : List ℕ) → RunEnd

-- a run may end in this way after these steps: a sync that fails makes of each side what `Loses` allows
abbrev pub MayEnd : Sides → List Step → RunEnd → Type 0
MayEnd sides steps Stopped = Unit {0}
MayEnd sides steps (Unsynced read disk) = Loses (later_by steps sides.read) read × Loses (later_by steps sides.disk) disk

-- both sides after these steps of a run and this ending
abbrev pub sides_ended : Sides → List Step → RunEnd → Sides
sides_ended sides steps Stopped = done_by steps sides
sides_ended sides steps (Unsynced read disk) = record { read = settled read; disk = settled disk }

-- whether a file is in doubt, so that its sides may differ, after a run that ended in this way; `doubted` says whether it was
-- before. A sync that fails puts it in doubt
abbrev pub doubt_ended : RunEnd → (doubted : Bool) → Bool
doubt_ended Stopped doubted = doubted
doubt_ended (Unsynced read disk) doubted = true

-- What becomes of the file at a path.
pub data Event : Type 0 where
  -- a run appended rows, as far as it came, and ended in this way
  Ran : (run : Run) (ending : RunEnd) → Event
  -- what a read returns was copied to a new file and synced there, and that file took the old one's place. `named` says whether
  -- the new file's name is on the disk; where it isn't, a crash may bring the old file back
  Copied : (named : Bool) → Event
  -- the machine crashed, which left this
  Crashed : (left : List ℕ) → Event

-- both sides, after this event, of a file that had the sides `sides` before it
abbrev pub sides_by : Event → Sides → Sides
sides_by (Ran run ending) sides = sides_ended sides run.steps ending
sides_by (Copied true) sides = same_sides (settled (content sides.read))
sides_by (Copied false) sides = record { read = settled (content sides.read); disk = sides.disk }
sides_by (Crashed left) sides = same_sides (settled left)

-- both sides, after these events, of a file that had the sides `sides` before them
abbrev pub sides_after : Sides → List Event → Sides
sides_after sides [] = sides
sides_after sides (event ∷ events) = sides_after (sides_by event sides) events

-- whether a file is in doubt after this event; `doubted` says whether it was before. A copy whose name isn't on the disk puts it
-- in doubt; a copy whose name is there, and a crash, end the doubt
abbrev pub doubt_by : Event → (doubted : Bool) → Bool
doubt_by (Ran run ending) doubted = doubt_ended ending doubted
doubt_by (Copied named) doubted = not named
doubt_by (Crashed left) doubted = false

-- whether a file is in doubt after these events; `doubted` says whether it was before them
abbrev pub doubt_after : (doubted : Bool) → List Event → Bool
doubt_after doubted [] = doubted
doubt_after doubted (event ∷ events) = doubt_after (doubt_by event doubted) events

-- this event can happen to a file with these sides; `head` is what a new file gets first. A run is one over what a read returns,
-- and goes on only where `goes` allows it for a file that is in doubt (true) or isn't (false); a crash leaves what it may of the
-- disk's side
abbrev pub IsPossibleEvent : (goes : Bool → Type 0) (head : List ℕ) → Sides → (doubted : Bool) → Event → Type 0
IsPossibleEvent goes head sides doubted (Ran run ending) = goes doubted × IsRun head (content sides.read) run × MayEnd sides run.steps ending
IsPossibleEvent goes head sides doubted (Copied named) = Unit {0}
IsPossibleEvent goes head sides doubted (Crashed left) = MayBeLeft sides.disk left

-- these events can happen, one after the other, to a file with these sides that is in doubt, or isn't
abbrev pub ArePossibleEvents : (goes : Bool → Type 0) (head : List ℕ) → Sides → (doubted : Bool) → List Event → Type 0
ArePossibleEvents goes head sides doubted [] = Unit {0}
ArePossibleEvents goes head sides doubted (event ∷ events) =
    IsPossibleEvent goes head sides doubted event × ArePossibleEvents goes head (sides_by event sides) (doubt_by event doubted) events

-- the runs among these events, in order
abbrev pub runs_of : List Event → List Run
runs_of [] = []
runs_of (Ran run ending ∷ events) = run ∷ runs_of events
runs_of (Copied named ∷ events) = runs_of events
runs_of (Crashed left ∷ events) = runs_of events

-- `left` is what a read of the file returns, or what a crash may leave of the file
abbrev pub IsFound : Sides → (left : List ℕ) → Type 0
IsFound sides left = (left ≡ content sides.read) ⊎ MayBeLeft sides.disk left

-- a file is not in doubt at first, and all of it is on the disk. After any events among which runs go on only where `goes` allows
-- it: whatever is then found of the file, the next opening makes of it the table that was there before the events, and after that
-- table the first rows of each run, at least the kept ones
abbrev pub TablesLastWhere : (goes : Bool → Type 0) → Type 0
TablesLastWhere goes = (head held : List ℕ) → IsHead head → (events : List Event) → ArePossibleEvents goes head (same_sides (settled held)) false events
    → (left : List ℕ) → IsFound (sides_after (same_sides (settled held)) events) left → HasRows head (opened_table head held) (runs_of events) left

-- a file is trusted with further rows: it isn't in doubt
abbrev pub IsTrusted : (doubted : Bool) → Type 0
IsTrusted doubted = doubted ≡ false

-- tables last over failed syncs, where no run goes on in a file in doubt
abbrev pub TablesOutlastFailures : Type 0
TablesOutlastFailures = TablesLastWhere IsTrusted

-- it isn't so that tables last where runs go on in any file, in doubt or not
abbrev pub CopiesAreNeeded : Type 0
CopiesAreNeeded = TablesLastWhere (λ doubted. Unit {0}) → ⊥
