-- No part of a promise: parameters in the common spelling, cut from the left: each has at least one byte, and no spaces are round
-- it.
use Rattle.std.specs.Prelude.{◌≡◌, ◌+◌, ◌*◌, ◌^◌, ◌<◌, ◌≤◌, ℕ, Bool, true, List, [], ◌∷◌, ◌++◌, length, take, Option, Some, None, pos}
use Rattle.std.specs.List.{AllByRecursion}
use Rattle.gc_values.specs.Decimals.{SpellsDecimal}
use Rattle.gc_values.specs.Digits.{AreDigits, number}
use Rattle.gc_values.specs.Lists.{AreItems}
use Rattle.gc_values.specs.Params.{IsParam, joined}
use Rattle.gc_values.specs.Whole.{NamesWhole}
use Rattle.gc_values.specs.declared.decimal.Decimal.{Decimal}
use Rattle.gc_values.specs.declared.value.Value.{Value}

-- the text is an item with nothing round it, and what follows its comma, if there is one
abbrev pub IsItemAndRest : (text item : List ℕ) → (rest : Option (List ℕ)) → Type 0
IsItemAndRest text item None = text ≡ item
IsItemAndRest text item (Some rest) = text ≡ item ++ 44 ∷ rest

-- the text is an item and what follows its comma, as `IsItemAndRest` has it, and the item is a parameter of at least one byte
pub record CutsPlain (text item : List ℕ) (rest : Option (List ℕ)) : Type 0 where
  pub text_is : IsItemAndRest text item rest
  pub param : IsParam item
  pub some : 0 < length item

-- the first `count` bytes of the text are digits, at most `most` of them, and `value` is the number that the digits of `front`
-- and then these write
pub record CountsDigits (front : ℕ) (text : List ℕ) (most value count : ℕ) : Type 0 where
  pub within : count ≤ length text
  pub few : count ≤ most
  pub digits : AreDigits (take count text)
  pub value_is : value ≡ front * 10 ^ count + number (take count text)

-- the text begins with an item of which `Is` is true, and the rest is what follows the item's comma, if there is one
pub record CutsItem (Is : List ℕ → Type 0) (text : List ℕ) (rest : Option (List ℕ)) : Type 0 where
  pub item : List ℕ
  pub cut : CutsPlain text item rest
  pub is : Is item

-- `CutsItem`, for an item that spells the decimal d
abbrev pub CutsDecimal : (text : List ℕ) (d : Decimal) (rest : Option (List ℕ)) → Type 0
CutsDecimal text d rest = CutsItem (λ item. SpellsDecimal item d) text rest

-- `CutsItem`, for an item that writes the whole number n
abbrev pub CutsNumber : (text : List ℕ) (n : ℕ) (rest : Option (List ℕ)) → Type 0
CutsNumber text n rest = CutsItem (λ item. NamesWhole item (pos n)) text rest

-- the text is one or more parameters of at least one byte each, joined by commas without spaces, and they are read as the values
pub record ArePlain (text : List ℕ) (vs : List Value) : Type 0 where
  pub first : List ℕ
  pub more : List (List ℕ)
  pub text_is : text ≡ joined (first ∷ more)
  pub params : AllByRecursion IsParam (first ∷ more)
  pub some : AllByRecursion (λ item. 0 < length item) (first ∷ more)
  pub read : AreItems (first ∷ more) vs

-- the text that is left of a list is read as the values. `None`: the list's end was reached, and there are no values. An empty
-- text, which a comma at the end leaves, isn't read as any values
abbrev pub LeftPlain : Option (List ℕ) → List Value → Type 0
LeftPlain None vs = vs ≡ []
LeftPlain (Some text) vs = ArePlain text vs

-- all that was asked for so far was read (`good`), and the text that is left, `rest`, is read as these values (`LeftPlain`)
pub record ReadsPlainly (good : Bool) (rest : Option (List ℕ)) (vs : List Value) : Type 0 where
  pub well : good ≡ true
  pub left : LeftPlain rest vs
