-- The arguments of each subcommand but `station` and `rehearse`, as clap is to know them: this project's own.
use Rattle.gc_console.specs.Common.{Rule, flag, path, positional, signed_number, tied}
use Rattle.std.specs.Prelude.{List, [], ◌∷◌, codes}

-- the arguments of `exec`
abbrev pub exec_rules : List Rule
exec_rules = path (codes "scene") ∷ []

-- the arguments of `check`
abbrev pub check_rules : List Rule
check_rules = flag (codes "log") ∷ []

-- the arguments of `drill`
abbrev pub drill_rules : List Rule
drill_rules = flag (codes "totals") ∷ signed_number (codes "width") 1 7 (codes "7" ∷ []) ∷ path (codes "scene") ∷ []

-- the arguments of `loop`
abbrev pub loop_rules : List Rule
loop_rules = path (codes "scene") ∷ []

-- the arguments of `serve`
abbrev pub serve_rules : List Rule
serve_rules =
    positional (codes "where")
    ∷ flag (codes "any-address")
    ∷ signed_number (codes "connections") 1 1000 []
    ∷ flag (codes "keep")
    ∷ tied (signed_number (codes "idle") 1 86400 (codes "60" ∷ []))
    ∷ path (codes "scene")
    ∷ []

-- the arguments of `ask`
abbrev pub ask_rules : List Rule
ask_rules = positional (codes "where") ∷ []
