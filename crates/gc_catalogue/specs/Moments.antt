-- Moments in milliseconds, for all crates that add to them.
use Rattle.std.specs.Prelude.{ℕ, ◌+◌, min}

-- the moment `wait` milliseconds after `moment`, or the greatest `u64` if that is past it
abbrev pub later : (moment wait : ℕ) → ℕ
later moment wait = min (moment + wait) 18446744073709551615
