-- What a seed draws for each line: outputs of splitmix64, each found by its place, so that what is drawn for a line depends on
-- nothing but the seed, the direction and the line's number. This project's own.
use Rattle.std.specs.Prelude.{ℕ, ◌+◌, ◌*◌, ◌-◌, ◌/◌, ◌%◌, ◌^◌, Bool, nat_lt}
use Rattle.rand_xoshiro.specs.SplitMix64.{mix_u64}
use Rattle.gc_rehearsal.specs.Shares.{whole_share}

-- what splitmix64 adds to its state at each step, modulo 2^64: the generator's own constant
abbrev pub golden : ℕ
golden = 0x9e3779b97f4a7c15

-- how many draws each line has, of which some aren't used: this project's own
abbrev pub draws_of_line : ℕ
draws_of_line = 16

-- the next output of splitmix64 in this state
abbrev pub output_at : ℕ → ℕ
output_at state = (mix_u64 state).0

-- the state of splitmix64 this many steps after `state`: each step adds `golden`
abbrev pub steps_on : (state steps : ℕ) → ℕ
steps_on state steps = (state + golden * steps % 2 ^ 64) % 2 ^ 64

-- the state from which a seed's lines towards the instrument draw: the seed's first output
abbrev pub start_of_ups : ℕ → ℕ
start_of_ups seed = output_at seed

-- the state from which a seed's lines towards the station draw: its second output
abbrev pub start_of_downs : ℕ → ℕ
start_of_downs seed = output_at ((seed + golden) % 2 ^ 64)

-- the state from which a seed's kills of the station draw: its third output
abbrev pub start_of_kills : ℕ → ℕ
start_of_kills seed = output_at (steps_on seed 2)

-- how many draws are before draw k of line n, both counted from 1: `draws_of_line` for each earlier line, and the earlier ones of
-- the same line, modulo 2^64
abbrev pub draws_before : (n k : ℕ) → ℕ
draws_before n k = (draws_of_line * (n - 1) % 2 ^ 64 + (k - 1)) % 2 ^ 64

-- draw k of line n, where the draws begin at the state `start`
abbrev pub draw_at : (start n k : ℕ) → ℕ
draw_at start n k = output_at (steps_on start (draws_before n k))

-- whether something that happens to `share` of 100,000 lines (`whole_share`) happens by this draw, whose upper 32 bits decide
abbrev pub happens : (draw share : ℕ) → Bool
happens draw share = nat_lt (draw / 4294967296 * whole_share / 4294967296) share

-- the number from `least` to `most` that a draw gives; its lower 32 bits decide. It is `least` if `most` is below that
abbrev pub among : (draw least most : ℕ) → ℕ
among draw least most = least + draw % 4294967296 * (most - least + 1) / 4294967296
