-- Lists of kinds, and which lists of parameters have values of these kinds: the order of the faults is that of the table's
-- procedures. That more items may follow is this project's own.
use Rattle.gc_texts.specs.Common.{kind_of, IsItem, FirstFault, AreTooMany, HasOpenQuote, IsParams, ValueFault, OpenQuote, TooMany, Count, Kind, Bool as Boolean, Value}
use Rattle.std.specs.Prelude.{◌≡◌, ◌≤◌, ◌-◌, ℕ, Bool, true, false, List, [], ◌∷◌, ◌++◌, length, map, take, replicate}
use Rattle.gc_texts.specs.Fields.{FieldSeen}
use Rattle.gc_texts.specs.KindFacts.{few_kinds, sixteen_places}
use Rattle.gc_texts.specs.declared.kinds.Kinds.{Kinds}

-- kinds, and whether a list may have more items
pub record KindsSeen : Type 0 where
  pub kinds : List Kind
  pub more : Bool

-- kinds of the code as `KindsSeen`
abbrev pub kinds_seen : Kinds → KindsSeen
kinds_seen k = record { kinds = take k.len k.kinds; more = k.more }

-- the kinds of fields, in order
abbrev pub kinds_of_fields : List FieldSeen → List Kind
kinds_of_fields fields = map (λ f. f.kind) fields

-- 16 places with these kinds, at most 16, in the first, and the one of a Boolean in the others
abbrev pub padded_kinds : List Kind → List Kind
padded_kinds kinds = kinds ++ replicate (16 - length kinds) Boolean

-- the kinds of these fields, of which there are at most 16; `more` says whether a list may have more items
abbrev pub kinds_of : List FieldSeen → (more : Bool) → Kinds
kinds_of fields more = record {
  kinds = padded_kinds (kinds_of_fields (take 16 fields));
  len = length (take 16 fields);
  more = more;
  few = few_kinds fields;
  long = sixteen_places fields;
}

-- a list of so many items may have values of so many kinds: it has as many items, or, where more may follow, at least as many
abbrev pub SuitsCount : (more : Bool) → (items kinds : ℕ) → Type 0
SuitsCount true items kinds = kinds ≤ items
SuitsCount false items kinds = items ≡ kinds

-- the first items are read as the values, one for each of the kinds, which are those of the values
abbrev pub BeginAs : List Kind → (items : List (List ℕ)) → List Value → Type 0
BeginAs [] items [] = Unit {0}
BeginAs [] items (v ∷ vs) = ⊥
BeginAs (k ∷ ks) items [] = ⊥
BeginAs (k ∷ ks) [] (v ∷ vs) = ⊥
BeginAs (k ∷ ks) (item ∷ items) (v ∷ vs) = (kind_of v ≡ k) × IsItem item v × BeginAs ks items vs

-- as many items as these kinds allow have values of the kinds, which are these
pub record HaveValues (kinds : KindsSeen) (items : List (List ℕ)) (values : List Value) : Type 0 where
  pub count : SuitsCount kinds.more (length items) (length kinds.kinds)
  pub read : BeginAs kinds.kinds items values

-- why the items don't have values of the kinds: their number, or the fault of the first that isn't a value of its kind
pub data IsItemsMisfit (kinds : KindsSeen) (items : List (List ℕ)) (e : ValueFault) : Type 0 where
  wrong_count : e ≡ Count → (SuitsCount kinds.more (length items) (length kinds.kinds) → ⊥) → IsItemsMisfit kinds items e
  faulty_item : SuitsCount kinds.more (length items) (length kinds.kinds) → FirstFault kinds.kinds items e → IsItemsMisfit kinds items e

-- the parameters are a list of at most 16 items, which have these values of the kinds
pub record AreOfKinds (kinds : KindsSeen) (params : List ℕ) (values : List Value) : Type 0 where
  pub items : List (List ℕ)
  pub split : IsParams params items
  pub few : length items ≤ 16
  pub have : HaveValues kinds items values

-- why the parameters aren't a list of at most 16 items that have values of the kinds
pub data IsKindsFault (kinds : KindsSeen) (params : List ℕ) (e : ValueFault) : Type 0 where
  open_quote : e ≡ OpenQuote → HasOpenQuote params → IsKindsFault kinds params e
  too_many : e ≡ TooMany → AreTooMany params → IsKindsFault kinds params e
  faulty_items : (items : List (List ℕ)) → IsParams params items → length items ≤ 16 → IsItemsMisfit kinds items e → IsKindsFault kinds params e
