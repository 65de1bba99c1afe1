-- What is written of a list of values, by the manual's chapter on the ASCII protocol: their texts, with commas between them.
use Rattle.std.specs.Prelude.{◌≡◌, ◌≢◌, ℕ, List, [], ◌∷◌, ◌++◌, map}
use Rattle.std.specs.List.{flat_map}
use Rattle.gc_values.specs.Prelude.{rounded, text, joined}
use Rattle.gc_values.specs.declared.value.Value.{Value}
use Rattle.gc_values.specs.declared.value.Value.TheVariants as value

-- the values' texts joined by commas
abbrev pub params_of : List Value → List ℕ
params_of values = joined (map text values)

-- the values' texts, each with a comma before it
abbrev pub behind_commas : List Value → List ℕ
behind_commas values = flat_map (λ v. 44 ∷ text v) values

-- the values' texts, each with a comma after it
abbrev pub before_commas : List Value → List ℕ
before_commas values = flat_map (λ v. text v ++ 44 ∷ []) values

-- a value as it is written: a double is rounded to the places, and any other value is unchanged
abbrev pub shown : (places : ℕ) → Value → Value
shown places (value.Double d) = value.Double (rounded d places)
shown places v = v

-- the values as they are written, one for one (`shown`)
abbrev pub shown_values : (places : ℕ) → List Value → List Value
shown_values places vs = map (λ v. shown places v) vs

-- no part of a promise: `new` is `old` without the comma at its end, if one is there
pub record IsWithoutComma (old new : List ℕ) : Type 0 where
  pub comma : (front : List ℕ) → old ≡ front ++ 44 ∷ [] → new ≡ front
  pub other : ((front : List ℕ) → old ≢ front ++ 44 ∷ []) → new ≡ old

-- no part of a promise: this value was taken between the states `old` and `new`. `takes` says which values are taken from one
-- state to another: if it takes `vs` from `new` to a state t, it takes this value and then `vs` from `old` to t
abbrev pub TakesValue : {T : Type 0} → (takes : T → List Value → T → Type 0) → (old new : T) → Value → Type 0
TakesValue {T = T} takes old new value = (vs : List Value) (t : T) → takes new vs t → takes old (value ∷ vs) t

-- no part of a promise: `TakesValue`, for these values in their order
abbrev pub TakesValues : {T : Type 0} → (takes : T → List Value → T → Type 0) → (old new : T) → List Value → Type 0
TakesValues {T = T} takes old new values = (vs : List Value) (t : T) → takes new vs t → takes old (values ++ vs) t
