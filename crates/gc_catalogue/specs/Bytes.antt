-- Bytes, in lists of numbers.
use Rattle.std.specs.Prelude.{ℕ, ◌<◌, List, All}

-- each of these numbers is a byte, that is, below 256
abbrev pub AreBytes : List ℕ → Type 0
AreBytes bytes = All (λ b. b < 256) bytes
