-- Lines: each is the bytes before a terminator CR LF, which is the manual's.
use Rattle.std.specs.Prelude.{◌≡◌, ◌≢◌, ℕ, ◌<◌, ◌≤◌, List, [], ◌∷◌, ◌++◌, length, All}
use Rattle.gc_lines.specs.declared.fault.LineFault.{LineFault}
use Rattle.gc_lines.specs.declared.fault.LineFault.TheVariants.{TooLong}

-- the byte can be inside a line: it is neither CR nor LF
abbrev pub IsPlainByte : ℕ → Type 0
IsPlainByte b = (b ≢ 10) × (b ≢ 13)

-- the bytes hold neither CR nor LF, so that they can be inside a line
abbrev pub IsPlain : List ℕ → Type 0
IsPlain bytes = All IsPlainByte bytes

-- a line with its CR LF
abbrev pub with_end : List ℕ → List ℕ
with_end line = line ++ 13 ∷ 10 ∷ []

-- the line is this text, of at most 512 bytes. The limit is this project's own
abbrev pub IsLineWithText : (text line : List ℕ) → Type 0
IsLineWithText text line = (line ≡ text) × (length text ≤ 512)

-- the text has more than 512 bytes, too many for a line, and the fault is `TooLong`
abbrev pub IsTooLong : (text : List ℕ) → LineFault → Type 0
IsTooLong text fault = (fault ≡ TooLong) × (512 < length text)
