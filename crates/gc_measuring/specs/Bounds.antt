-- How much time null procedures may take that are lost behind raw commands of a setup: this project's own.
use Rattle.gc_measuring.specs.Common.{is_of_table, Task}
use Rattle.std.specs.Prelude.{ℕ, ◌+◌, ◌-◌, ◌&&◌, not, if◌then◌else◌, nat_lt, min, List, [], ◌∷◌}

-- `lost` milliseconds, and `time` more for each raw command among the first `left` of these tasks; the greatest `u64` if that is more
abbrev pub lost_by : (lost left time : ℕ) → List Task → ℕ
lost_by lost left time [] = lost
lost_by lost left time (task ∷ others) =
    lost_by (min (lost + (if nat_lt 0 left && not (is_of_table task.command.call) then time else 0)) 18446744073709551615) (left - 1) time others
