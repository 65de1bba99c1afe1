-- The files of a log: the present one, into which lines are written, and the older one, which was the present one before it. This
-- project's own.
use Rattle.gc_logs.specs.Common.{AllByRecursion, all_of, Lacks, AreBytes, log_line, LogMark}
use Rattle.std.specs.Prelude.{◌≡◌, ◌⊎◌, ◌==◌, Bool, true, ℕ, ◌+◌, ◌^◌, ◌<◌, ◌≤◌, List, [], ◌∷◌, ◌++◌, length, take, Result, Ok, Err}

-- what is seen of the files of a log: what was written into all files before the older one, into the older one, and into the present
-- one, in order; and how many bytes the older one and the present one have, with those that they had when they were opened
pub record LogFiles : Type 0 where
  pub earlier : List ℕ
  pub older : List ℕ
  pub newest : List ℕ
  pub older_size : ℕ
  pub size : ℕ

-- all that was written into the files of a log, in order
abbrev pub bytes_of : LogFiles → List ℕ
bytes_of files = files.earlier ++ (files.older ++ files.newest)

-- nothing was written yet
pub record IsUnwritten (files : LogFiles) : Type 0 where
  pub earlier : files.earlier ≡ []
  pub older : files.older ≡ []
  pub newest : files.newest ≡ []

-- the files after these bytes were written into the present one
abbrev pub added : LogFiles → List ℕ → LogFiles
added files bytes = record files { newest = files.newest ++ bytes; size = files.size + length bytes }

-- the files after a new one took the place of the present one, which is the older one then
abbrev pub rolled : LogFiles → LogFiles
rolled files = record {
  earlier = files.earlier ++ files.older;
  older = files.newest;
  newest = [];
  older_size = files.size;
  size = 0;
}

-- the files after lines go on in another file, of this size, which the lines before didn't make
abbrev pub elsewhere : LogFiles → (size : ℕ) → LogFiles
elsewhere files size = record { earlier = bytes_of files; older = []; newest = []; older_size = 0; size = size }

-- a look for the file of a line left all as it was, or from there on lines go on in another file; if the look failed, nothing
-- was written
abbrev pub TurnsTo : {E : Type 0} → (old new : LogFiles) → Result Unit E → Type 0
TurnsTo old new (Ok _) = (new ≡ old) ⊎ ((size : ℕ) × (new ≡ elsewhere old size))
TurnsTo old new (Err _) = new ≡ old

-- a new file took the place of the present one; or, if the path doesn't lead to the present one any more, lines go on in the file that is
-- there. If that failed, nothing was written
abbrev pub RollsOver : {E : Type 0} → (old new : LogFiles) → Result Unit E → Type 0
RollsOver old new (Ok _) = (new ≡ rolled old) ⊎ ((size : ℕ) × (new ≡ elsewhere old size))
RollsOver old new (Err _) = new ≡ old

-- a write put the first n bytes into the present file, at least one; if it failed, none
abbrev pub Puts : {E : Type 0} → (old new : LogFiles) → Result ℕ E → (bytes : List ℕ) → Type 0
Puts old new (Ok n) bytes = (n ≤ length bytes) × (0 < n) × (new ≡ added old (take n bytes))
Puts old new (Err _) bytes = new ≡ old

-- the present file is the one for these bytes, if a new one was begun only where it was needed: lines stay in the file that they are in, or
-- go on at another path (`turned`), and only if the file there has no room for these bytes a new one takes its place, or, if the path
-- doesn't lead to it any more, they go on in the file that is there
pub record IsBegun (old new : LogFiles) (bytes : List ℕ) (most : ℕ) : Type 0 where
  pub turned : LogFiles
  pub turns : (turned ≡ old) ⊎ ((size : ℕ) × (turned ≡ elsewhere old size))
  pub begins : (new ≡ turned) ⊎ ((most < turned.size + length bytes) × ((new ≡ rolled turned) ⊎ ((size : ℕ) × (new ≡ elsewhere turned size))))

-- a write put the first n bytes into one file, which is the present one then, and which was begun for them only where that was needed
pub record PutsInOne (old new : LogFiles) (n : ℕ) (bytes : List ℕ) (most : ℕ) : Type 0 where
  pub before : LogFiles
  pub begun : IsBegun old before bytes most
  pub puts : new ≡ added before (take n bytes)

-- there is room for these bytes in the present file, and nothing was written to make it
pub record MakesRoom (old new : LogFiles) (bytes : List ℕ) (most : ℕ) : Type 0 where
  pub same : bytes_of new ≡ bytes_of old
  pub room : new.size + length bytes ≤ most

-- a file into which something was written has at most this many bytes
pub record StayBelow (most : ℕ) (files : LogFiles) : Type 0 where
  pub newest : 0 < length files.newest → files.size ≤ most
  pub older : 0 < length files.older → files.older_size ≤ most

-- whether bytes end in a line feed, or there are none
abbrev pub ends_line : List ℕ → Bool
ends_line [] = true
ends_line (b ∷ []) = b == 10
ends_line (b ∷ c ∷ bs) = ends_line (c ∷ bs)

-- bytes end in a line feed, or there are none
abbrev pub EndsLine : List ℕ → Type 0
EndsLine bytes = ends_line bytes ≡ true

-- what was written into each file but the present one ends in a line feed
pub record EndInLines (files : LogFiles) : Type 0 where
  pub earlier : EndsLine files.earlier
  pub older : EndsLine files.older

-- a line with its line feed, which it has at its end alone
pub record IsLine (line : List ℕ) : Type 0 where
  pub text : List ℕ
  pub lacks : Lacks 10 text
  pub is : line ≡ text ++ 10 ∷ []

-- the lines of a log, as its files have them: `dropped` are in files before the older one, `older` in that one, and `newest` in the
-- present one, each line whole
pub record CutAtLines (files : LogFiles) (lines : List (List ℕ)) : Type 0 where
  pub dropped : List (List ℕ)
  pub older : List (List ℕ)
  pub newest : List (List ℕ)
  pub all : lines ≡ dropped ++ (older ++ newest)
  pub in_earlier : files.earlier ≡ all_of dropped
  pub in_older : files.older ≡ all_of older
  pub in_newest : files.newest ≡ all_of newest

-- if lines were written into the files of a log, and nothing else, and each file but the present one ends in a line feed, then no line
-- is split over two files: the older and the present one have the newest lines, each whole, in order, and none is missing between
-- them. Lines of a log are such lines
pub record LogsKeepTheNewest : Type 0 where
  pub cut : (files : LogFiles) (lines : List (List ℕ))
      → AllByRecursion IsLine lines → EndInLines files → bytes_of files ≡ all_of lines → CutAtLines files lines
  pub log_lines : (utc : ℕ) (mark : LogMark) (bytes : List ℕ) → utc < 2 ^ 64 → AreBytes bytes → IsLine (log_line utc mark bytes)
