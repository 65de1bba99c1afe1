-- No part of a promise: how far the slow reader of parameters, `Listed`, is while it is asked for them one by one.
use Rattle.std.specs.Prelude.{◌≡◌, ◌≢◌, ◌+◌, ◌≤◌, ℕ, List, length, drop, Option, Some, None, Result, Ok, Err}
use Rattle.gc_values.specs.Lists.{AreItems, FirstFault}
use Rattle.gc_values.specs.declared.fault.ValueFault.{ValueFault}
use Rattle.gc_values.specs.declared.fault.ValueFault.TheVariants.{Count}
use Rattle.gc_values.specs.declared.value.Kind.{Kind}
use Rattle.gc_values.specs.declared.value.Value.{Value}

-- each parameter asked for so far was there and had no fault (`fault` is that of the first that had one), and the items from
-- `place` on read as these values
pub record AreItemsReadFrom (items : List (List ℕ)) (place : ℕ) (fault : Option ValueFault) (vs : List Value) : Type 0 where
  pub well : fault ≡ None
  pub within : place ≤ length items
  pub read : AreItems (drop place items) vs

-- the first fault of all items: the one that was found so far, or, where none was, the first of these items for these kinds
abbrev pub IsFoundOrFirstFault : (found : Option ValueFault) (ks : List Kind) (items : List (List ℕ)) → ValueFault → Type 0
IsFoundOrFirstFault (Some kept) ks items e = e ≡ kept
IsFoundOrFirstFault None ks items e = FirstFault ks items e

-- the items before `place` were read, `fault` being the first fault among them, and from there on items of these kinds are asked
-- for. The list then has the fault e: `Count` if there are more or fewer items than kinds, else the first fault of all
-- (`IsFoundOrFirstFault`)
pub data IsFaultFrom (items : List (List ℕ)) (place : ℕ) (fault : Option ValueFault) (ks : List Kind) (e : ValueFault) : Type 0 where
  wrong_count : e ≡ Count → length ks + place ≢ length items → IsFaultFrom items place fault ks e
  first_fault : length ks + place ≡ length items → IsFoundOrFirstFault fault ks (drop place items) e → IsFaultFrom items place fault ks e

-- where the list was split into items, those from this place on read as the values, as `AreItemsReadFrom` has it; a list that was
-- refused as a whole isn't read as any values
abbrev pub ReadsFrom : (split : Result (List (List ℕ)) ValueFault) → (place : ℕ) → (fault : Option ValueFault) → (vs : List Value) → Type 0
ReadsFrom (Ok items) place fault vs = AreItemsReadFrom items place fault vs
ReadsFrom (Err refusal) place fault vs = ⊥

-- where the list was split into items, the fault of those from this place on, as `IsFaultFrom` has it; of a list that was refused
-- as a whole, that refusal
abbrev pub FailsFrom : (split : Result (List (List ℕ)) ValueFault) → (place : ℕ) → (fault : Option ValueFault) → List Kind → ValueFault → Type 0
FailsFrom (Ok items) place fault ks e = IsFaultFrom items place fault ks e
FailsFrom (Err refusal) place fault ks e = e ≡ refusal
