-- The arguments that clap is to know, each by its name, with what it takes and its default: this project's own. What help says of them
-- is left out.
use Rattle.std.specs.Prelude.{ℕ, ◌^◌, ◌-◌, pos, true, false, List, [], ◌∷◌, Some, codes}
use Rattle.clap.specs.Simple.{Shape, new_rule, new_shape}
use Rattle.clap.specs.Walk.{Rule, Text}
use Rattle.clap.specs.declared.builder.action.ArgAction.TheVariants.{Set, SetTrue}
use Rattle.clap.specs.declared.builder.value_parser.ValueParser.{ValueParser}
use Rattle.clap.specs.declared.builder.value_parser.ValueParser.TheVariants as takes

-- an argument without a name before it, which has to be given
abbrev pub positional : (name : Text) → Rule
positional name = record (new_rule name) { value_names = 1; required = true }

-- an option with a value that this parser takes, and its default, if it has one
abbrev pub option : (name : Text) → ValueParser → (default : List Text) → Rule
option name parser default =
    record (new_rule name) { long = Some name; action = Some Set; parser = Some parser; value_names = 1; defaults = default }

-- an option that isn't given without others, or not beside others
abbrev pub tied : Rule → Rule
tied rule = record rule { is_free = false }

-- an option with a number from `least` to `most`, and its default
abbrev pub number : (name : Text) → (least most : ℕ) → (default : List Text) → Rule
number name least most default = option name (takes.Unsigned least most) default

-- the same of a number that is read with a sign
abbrev pub signed_number : (name : Text) → (least most : ℕ) → (default : List Text) → Rule
signed_number name least most default = option name (takes.Signed (pos least) (pos most)) default

-- an option with a text, such as a path
abbrev pub path : (name : Text) → Rule
path name = option name takes.String []

-- an option with a limit, a number or the word for none, and its default
abbrev pub limited : (name : Text) → (default : Text) → Rule
limited name default = option name takes.String (default ∷ [])

-- a flag
abbrev pub flag : (name : Text) → Rule
flag name = record (new_rule name) { long = Some name; action = Some SetTrue; parser = Some takes.Bool }

-- the arguments of `station`
abbrev pub station_rules : List Rule
station_rules =
    positional (codes "where")
    ∷ signed_number (codes "width") 1 7 (codes "1" ∷ [])
    ∷ number (codes "deadline") 1 86400000 (codes "10000" ∷ [])
    ∷ number (codes "every") 1 86400 []
    ∷ tied (number (codes "at") 0 86399 [])
    ∷ limited (codes "cycles") (codes "1")
    ∷ number (codes "settle") 1 86400000 (codes "2000" ∷ [])
    ∷ limited (codes "retries") (codes "10")
    ∷ limited (codes "stale") (codes "never")
    ∷ path (codes "until")
    ∷ path (codes "now")
    ∷ flag (codes "csv")
    ∷ flag (codes "columns")
    ∷ tied (flag (codes "json"))
    ∷ flag (codes "unchained")
    ∷ flag (codes "silent")
    ∷ flag (codes "check")
    ∷ tied (path (codes "unit"))
    ∷ path (codes "append")
    ∷ tied (flag (codes "fsync"))
    ∷ path (codes "log")
    ∷ tied (number (codes "log-bytes") 1000 (2 ^ 64 - 1) [])
    ∷ []

-- the arguments of `rehearse`
abbrev pub rehearse_rules : List Rule
rehearse_rules =
    number (codes "nights") 1 36525 (codes "1" ∷ [])
    ∷ number (codes "every") 1 86400 (codes "300" ∷ [])
    ∷ limited (codes "cycles") (codes "day")
    ∷ path (codes "scene")
    ∷ path (codes "line")
    ∷ number (codes "seed") 0 (2 ^ 64 - 1) (codes "0" ∷ [])
    ∷ signed_number (codes "width") 1 7 (codes "1" ∷ [])
    ∷ number (codes "deadline") 1 86400000 (codes "10000" ∷ [])
    ∷ number (codes "settle") 1 86400000 (codes "2000" ∷ [])
    ∷ limited (codes "retries") (codes "10")
    ∷ limited (codes "stale") (codes "never")
    ∷ flag (codes "csv")
    ∷ flag (codes "columns")
    ∷ tied (flag (codes "json"))
    ∷ flag (codes "unchained")
    ∷ []

-- a command of this name with these arguments, and no subcommand
abbrev pub shape : (name : Text) → (rules : List Rule) → Shape
shape name rules = record (new_shape name) { rules = rules }
