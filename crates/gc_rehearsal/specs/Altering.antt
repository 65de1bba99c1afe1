-- What becomes of the bytes of a line of which some are altered, by the rules of a text and the draws of a seed: this project's own.
-- `start` is the state from which the draws begin, and `line` the number of the line, counted from 1.
use Rattle.std.specs.Prelude.{ℕ, ◌+◌, ◌*◌, ◌-◌, ◌^◌, ◌==◌, List, [], ◌∷◌, ◌++◌, Option, None, Some, bit_xor, if◌then◌else◌}
use Rattle.gc_rehearsal.specs.Draws.{draw_at, happens, among}
use Rattle.gc_rehearsal.specs.Rules.{frequency_of}
use Rattle.gc_rehearsal.specs.declared.frequency.Frequency.{Frequency}
use Rattle.gc_rehearsal.specs.declared.rules.Rules.{Rules}
use Rattle.gc_rehearsal.specs.declared.rule.Word.TheVariants.{Alter}

-- the draw of a line with which the draws for its bytes begin, two for each: this project's own
abbrev pub alter_draw : ℕ
alter_draw = 15

-- what becomes of a byte that is altered: with `kind` 0 the byte with one of its bits changed, which the draw gives; with 1 nothing,
-- as the byte is lost; and else a byte that the draw gives, and then this byte
abbrev pub becomes : (kind draw byte : ℕ) → List ℕ
becomes kind draw byte =
    if kind == 0
    then bit_xor byte (2 ^ among draw 0 7) ∷ []
    else (if kind == 1 then [] else among draw 0 255 ∷ byte ∷ [])

-- what becomes of a byte by its two draws, where a byte is altered in `share` of 100,000 cases: the first says whether it is altered
-- and in which way, and the second gives a bit or a byte
abbrev pub altered_byte : (share first second byte : ℕ) → List ℕ
altered_byte share first second byte = if happens first share then becomes (among first 0 2) second byte else byte ∷ []

-- what becomes of these bytes of a line, the first of which is the line's byte number `place`, counted from 1. The draws for the bytes
-- of the line begin at `start`, two for each
abbrev pub altered_from : (start share place : ℕ) → List ℕ → List ℕ
altered_from start share place [] = []
altered_from start share place (b ∷ bs) =
    altered_byte share (draw_at start 1 (2 * place - 1)) (draw_at start 1 (2 * place)) b ++ altered_from start share (place + 1) bs

-- what becomes of the bytes of a line with this frequency that a byte is altered; without one they stay
abbrev pub altered_by : Option Frequency → (start line : ℕ) → List ℕ → List ℕ
altered_by None start line bytes = bytes
altered_by (Some frequency) start line bytes = altered_from (draw_at start line alter_draw) frequency.share 1 bytes

-- what becomes of the bytes of a line, with its CR LF, by these rules
abbrev pub altered : Rules → (start line : ℕ) → List ℕ → List ℕ
altered rules start line bytes = altered_by (frequency_of rules Alter) start line bytes
