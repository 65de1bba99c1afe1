-- Names of targets: this project's own.
use Rattle.gc_texts.specs.Common.{list_any}
use Rattle.std.specs.Prelude.{ℕ, ◌==◌, ◌&&◌, ◌||◌, Bool, false, not, nat_lt, List, [], ◌∷◌, length, if◌then◌else◌}
use Rattle.gc_texts.specs.declared.name.Name.{Name}

-- whether a byte may not stand in a name: it isn't printable ASCII, or is a comma or a double quote
abbrev pub is_foreign : ℕ → Bool
is_foreign b = nat_lt b 32 || nat_lt 126 b || (b == 44) || (b == 34)

-- whether a spreadsheet takes a text for a formula: it begins with `=`, `+`, `-` or `@`
abbrev pub is_formula : List ℕ → Bool
is_formula [] = false
is_formula (b ∷ bs) = (b == 61) || (b == 43) || (b == 45) || (b == 64)

-- whether a text is a name: 1 to 64 bytes, each of which may stand in a name, and no formula
abbrev pub is_name : List ℕ → Bool
is_name text = nat_lt 0 (length text) && nat_lt (length text) 65 && not (is_formula text) && not (list_any is_foreign text)

-- whether one of these names is of this target
abbrev pub is_named : ℕ → List Name → Bool
is_named target names = list_any (λ name. name.target == target) names

-- the name of a target: that of the first of these names that is of this target; empty where none is
abbrev pub name_text : ℕ → List Name → List ℕ
name_text target [] = []
name_text target (name ∷ names) = if name.target == target then name.text.items else name_text target names
