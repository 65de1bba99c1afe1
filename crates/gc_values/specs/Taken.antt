-- No part of a promise: what the quick reader of parameters, `Quick`, says of a call that takes the next one. `old` is the reader
-- before the call and `new` the one after it.
use Rattle.std.specs.Prelude.{◌≡◌, ℕ, List, true, pos, Result, Ok}
use Rattle.std.specs.Option.{option_copied}
use Rattle.gc_values.specs.Item.{IsItem}
use Rattle.gc_values.specs.Lists.{ReadsOne}
use Rattle.gc_values.specs.Plainly.{ReadsPlainly}
use Rattle.gc_values.specs.Whole.{NamesWhole}
use Rattle.gc_values.specs.declared.quick.Quick.{Quick}
use Rattle.gc_values.specs.declared.value.Value.{Value}

-- all that was asked for so far was read, and what is left is read as these values
abbrev pub QuickReads : Quick → List Value → Type 0
QuickReads quick vs = ReadsPlainly quick.good (option_copied quick.rest) vs

-- the quick reader took the value: where what is left reads as values, what was there reads as this value and then those
abbrev pub TakesPlainly : Value → (old new : Quick) → Type 0
TakesPlainly v old new = ReadsOne QuickReads old new v

-- the quick reader took the item: if the item is read as the value v, it took v (`TakesPlainly`)
abbrev pub TakesItem : (item : List ℕ) → (old new : Quick) → Type 0
TakesItem item old new = (v : Value) → IsItem item v → TakesPlainly v old new

-- the quick reader took the whole number n: if every text of n is read as the value v, it took v (`TakesPlainly`)
abbrev pub TakesNumber : (n : ℕ) → (old new : Quick) → Type 0
TakesNumber n old new = (v : Value) → ((item : List ℕ) → NamesWhole item (pos n) → IsItem item v) → TakesPlainly v old new

-- where the quick reader is good in the end, the result is what was read, and the reader is as it was
abbrev pub GivesRead : {T E : Type 0} → (read : Result T E) → (result : T) → (old new : Quick) → Type 0
GivesRead read result old new = new.good ≡ true → (read ≡ Ok result) × (new ≡ old)
