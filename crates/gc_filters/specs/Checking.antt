-- What a check writes, and how it ends: this project's own. `given` are the bytes that the source gave, and `old` and `new` are
-- what the sink had taken before and has taken after, where that is known. A check writes a text for each piece of its input: of a
-- stream for each frame, of a log for each line; `Written` says which texts are written of pieces.
use Rattle.gc_filters.specs.Common.{Appends, IsRunOverPorts, Ports, WholeOrCut, all_of, frames, Frame, More, Served, ServeFault}
use Rattle.std.specs.Prelude.{◌≡◌, ℕ, ◌+◌, ◌-◌, ◌<◌, min, ◌^◌, List, [], ◌∷◌, ◌++◌, length, take, Option, Some, None, Result}
use Rattle.gc_filters.specs.Verdicts.{IsSaidOf, verdict_line, AreFrameVerdicts}
use Rattle.gc_filters.specs.declared.check.Judge.{Judge}

-- the texts of all these pieces went out whole, and the count of texts grew by as many, from `before` to `count`
pub record WritesAll {Piece : Type 0} (Written : List Piece → List (List ℕ) → Type 0) (pieces : List Piece) (old new : Option (List ℕ))
    (before count : ℕ) : Type 0 where
  pub texts : List (List ℕ)
  pub are : Written pieces texts
  pub took : Appends old new (all_of texts)
  pub counts : count ≡ before + length texts

-- the texts of the first of these pieces went out whole, and the count of texts grew by as many, from `before` to `count`; of the
-- text of the next piece the first `bytes` bytes went out, which aren't all of it
pub record WritesPart {Piece : Type 0} (Written : List Piece → List (List ℕ) → Type 0) (pieces : List Piece) (old new : Option (List ℕ))
    (before count bytes : ℕ) : Type 0 where
  pub seen : List Piece
  pub later : List Piece
  pub order : pieces ≡ seen ++ later
  pub whole : List (List ℕ)
  pub line : List ℕ
  pub are : Written seen (whole ++ line ∷ [])
  pub counts : count ≡ before + length whole
  pub not_all : bytes < length line
  pub took : Appends old new (all_of whole ++ take bytes line)

-- how much of the texts of these pieces went out, by the result: all of them, or at a failed write the front of them
abbrev pub WritesBy : {Piece : Type 0} → (Written : List Piece → List (List ℕ) → Type 0) → List Piece → (old new : Option (List ℕ))
    → Result Served ServeFault → Type 0
WritesBy Written pieces old new result =
    WholeOrCut (λ count. WritesAll Written pieces old new 0 count) (λ count bytes. WritesPart Written pieces old new 0 count bytes) result

-- how much of the lines of the verdicts on the frames of these bytes went out, by the result
abbrev pub Checks : List ℕ → (old new : Option (List ℕ)) → Result Served ServeFault → Type 0
Checks given old new result = WritesBy AreFrameVerdicts (frames given) old new result

-- a check of frames in at most `most` reads took the ports from old to new, and gave this result; what it wrote is as `Checks` says
abbrev pub IsChecking : (old new : Ports) → (most : ℕ) → Result Served ServeFault → Type 0
IsChecking old new most result = IsRunOverPorts Checks old new most result

-- the judge counts one frame more than before, as far as 64 bits go, and `text` is the line of what is said of that frame, which
-- begins with the new count
abbrev pub WritesVerdictOn : (before : Judge) → Frame → (after : Judge) → (text : Option (List ℕ)) → Type 0
WritesVerdictOn before frame after text =
    (said : List ℕ) × IsSaidOf frame said × (after.frames ≡ min (before.frames + 1) (2 ^ 64 - 1)) × (text ≡ Some (verdict_line after.frames said))

-- one step of the judge: of a frame it writes the line of the verdict (`WritesVerdictOn`); of a frame that no line feed has
-- ended it writes nothing, and it doesn't count that frame. It serves the proofs of a check, and no promise speaks of it
abbrev pub JudgesFrame : (before : Judge) → Frame → (after : Judge) → (text : Option (List ℕ)) → Type 0
JudgesFrame before More after text = (after ≡ before) × (text ≡ None)
JudgesFrame before frame after text = WritesVerdictOn before frame after text
