-- What the slow reader of parameters says of the whole list.
use Rattle.gc_values.proofs.Common.{IfOk, arith, ap, inl, inr, IsItemsFault, IsListFault, too_many, faulty_item, open_quote, faulty_items, AreTooMany, HasOpenQuote, IsParams, IsEither, ValueFault, OpenQuote, TooMany, Kind}
use Rattle.std.specs.Prelude.{◌≡◌, ◌≤◌, ℕ, List, length, None, Result, Ok, Err, IfErr}
use Rattle.gc_values.specs.Asked.{FailsFrom, IsFaultFrom, wrong_count, first_fault}
use Rattle.gc_values.specs.Lists as lists

-- of at most 16 items, the fault that `IsFaultFrom` reports at place 0, where no fault was found so far, is the fault of all the
-- items
items_fault : (items : List (List ℕ)) (ks : List Kind) (e : ValueFault) → length items ≤ 16 → IsFaultFrom items 0 None ks e → IsItemsFault ks items e
items_fault items ks e few (wrong_count is other) = lists.wrong_count is few (λ same. other (omega arith))
items_fault items ks e few (first_fault same f) = faulty_item few (omega arith) f

-- r is the result of splitting a list, as the contract of `split` says
pub record IsSplitOf (params : List ℕ) (r : Result (List (List ℕ)) ValueFault) : Type 0 where
  pub found : IfOk r (λ items. IsParams params items × (length items ≤ 16))
  pub faults : IfErr r (λ f. IsEither OpenQuote TooMany f)
  pub odd : r ≡ Err OpenQuote → HasOpenQuote params
  pub many : r ≡ Err TooMany → AreTooMany params

-- the refusal of splitting a list is a fault of the list
refusal_fault : (refusal : ValueFault) (ks : List Kind) (params : List ℕ) → IsSplitOf params (Err refusal) → IsListFault ks params refusal
refusal_fault refusal ks params h = elim h.faults [
  | inl is ↦ open_quote is (h.odd (ap (λ f. Err f) is))
  | inr is ↦ let found = h.many (ap (λ f. Err f) is) in faulty_items found.0 found.1 (too_many is found.2)
]

-- the fault that the reader reports before any parameter was asked for is the fault of the list
pub list_fault : (r : Result (List (List ℕ)) ValueFault) (ks : List Kind) (params : List ℕ) (e : ValueFault) → IsSplitOf params r
    → FailsFrom r 0 None ks e → IsListFault ks params e
list_fault (Ok items) ks params e h f = faulty_items items h.found.0 (items_fault items ks e h.found.1 f)
list_fault (Err refusal) ks params e h f = rw f (refusal_fault refusal ks params h)
