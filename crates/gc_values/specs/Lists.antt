-- Parameter lists and their values: which lists are read as which values, and why a list isn't one of values of given
-- kinds. The kinds are the GeoCOM manual's; the order of the faults is this project's own.
use Rattle.std.specs.Prelude.{◌≡◌, ◌≢◌, ◌⊎◌, ◌<◌, ◌≤◌, ℕ, List, [], ◌∷◌, length, map}
use Rattle.std.specs.List.{AllByRecursion, AllZip}
use Rattle.gc_values.specs.Item.{kind_of, IsItem, IsItemFault, IsValue}
use Rattle.gc_values.specs.Params.{IsParams, HasOpenQuote}
use Rattle.gc_values.specs.declared.fault.ValueFault.{ValueFault}
use Rattle.gc_values.specs.declared.fault.ValueFault.TheVariants.{OpenQuote, TooMany, Count}
use Rattle.gc_values.specs.declared.value.Kind.{Kind}
use Rattle.gc_values.specs.declared.value.Value.{Value}

-- the kinds of the values, one for one
abbrev pub kinds_of : List Value → List Kind
kinds_of vs = map kind_of vs

-- the items are read as the values, one for one
abbrev pub AreItems : List (List ℕ) → List Value → Type 0
AreItems items values = AllZip IsItem items values

-- the parameters are a list of items, and these are read as the values
pub record AreParams (params : List ℕ) (values : List Value) : Type 0 where
  pub items : List (List ℕ)
  pub split : IsParams params items
  pub read : AreItems items values

-- the first item from the left that isn't read as a value of its kind has the fault
abbrev pub FirstFault : List Kind → List (List ℕ) → ValueFault → Type 0
FirstFault [] items e = ⊥
FirstFault (k ∷ ks) [] e = ⊥
FirstFault (k ∷ ks) (item ∷ items) e =
    IsItemFault k item e ⊎ ((v : Value) × (kind_of v ≡ k) × IsItem item v × FirstFault ks items e)

-- why the items aren't values of the kinds, one for one: there are more than 16, else not as many as kinds, else the first item
-- with a fault has this one
pub data IsItemsFault (kinds : List Kind) (items : List (List ℕ)) (e : ValueFault) : Type 0 where
  too_many : e ≡ TooMany → 16 < length items → IsItemsFault kinds items e
  wrong_count : e ≡ Count → length items ≤ 16 → length items ≢ length kinds → IsItemsFault kinds items e
  faulty_item : length items ≤ 16 → length items ≡ length kinds → FirstFault kinds items e → IsItemsFault kinds items e

-- why the parameters are no list of values of the kinds: an odd number of double quotes, else a fault of the items
pub data IsListFault (kinds : List Kind) (params : List ℕ) (e : ValueFault) : Type 0 where
  open_quote : e ≡ OpenQuote → HasOpenQuote params → IsListFault kinds params e
  faulty_items : (items : List (List ℕ)) → IsParams params items → IsItemsFault kinds items e → IsListFault kinds params e

-- each value is one that its kind allows, as `IsValue` has it
abbrev pub AreValues : List Value → Type 0
AreValues values = AllByRecursion IsValue values

-- the parameters are read as values of the kinds, or have a fault
abbrev pub IsListReadOrFaulty : List Kind → List ℕ → Type 0
IsListReadOrFaulty kinds params =
    ((vs : List Value) × (kinds_of vs ≡ kinds) × AreParams params vs) ⊎ ((e : ValueFault) × IsListFault kinds params e)

-- a call asked for one parameter, and got this value: if what is left after the call reads as `vs`, what was left before it reads
-- as the value and then `vs`
abbrev pub ReadsOne : {S : Type 0} → (reads : S → List Value → Type 0) → (old new : S) → Value → Type 0
ReadsOne reads old new v = (vs : List Value) → reads new vs → reads old (v ∷ vs)

-- a call asked for one parameter of this kind: if `e` is the fault where the kinds `ks` are asked for after the call, it is the
-- fault where this kind and then `ks` are asked for before it
abbrev pub FailsOne : {S : Type 0} → (fails : S → List Kind → ValueFault → Type 0) → (old new : S) → Kind → Type 0
FailsOne fails old new k = (ks : List Kind) (e : ValueFault) → fails new ks e → fails old (k ∷ ks) e
