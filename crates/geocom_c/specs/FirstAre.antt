-- Two lists side by side.
use Rattle.std.specs.Prelude.{List, [], ◌∷◌}

-- `Is x y` holds for each item y of `ys` and the item x at the same place of `xs`, which may have more items than `ys`
abbrev pub FirstAre : {A B : Type 0} → (A → B → Type 0) → List A → List B → Type 0
FirstAre Is xs [] = Unit {0}
FirstAre Is [] (y ∷ ys) = ⊥
FirstAre Is (x ∷ xs) (y ∷ ys) = Is x y × FirstAre Is xs ys
