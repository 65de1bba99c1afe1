-- What a terminal shows of settlements: this project's own.
use Rattle.gc_ask.specs.Common.{flat_map, escaped}
use Rattle.std.specs.Prelude.{ℕ, ◌==◌, Bool, true, false, List, [], ◌∷◌, Option, None, if◌then◌else◌}

-- a byte as a terminal is to show it: a line feed as it is, any other byte as in a line of a log
abbrev pub shown_byte : ℕ → List ℕ
shown_byte b = if b == 10 then b ∷ [] else escaped (b ∷ [])

-- bytes as a terminal is to show them
abbrev pub shown : List ℕ → List ℕ
shown bytes = flat_map shown_byte bytes

-- what an output has taken; not known if a terminal shows it
abbrev pub unless_shown : (at_terminal : Bool) → Option (List ℕ) → Option (List ℕ)
unless_shown true taken = None
unless_shown false taken = taken
