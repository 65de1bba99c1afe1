-- Which targets a station's text leaves unwatched: this project's own.
use Rattle.gc_texts.specs.Common.{list_any}
use Rattle.std.specs.Prelude.{ℕ, ◌==◌, Bool, List}

-- whether one of these targets is this one
abbrev pub is_unwatched : (target : ℕ) → (unwatched : List ℕ) → Bool
is_unwatched target unwatched = list_any (λ other. other == target) unwatched
