-- Which procedures that aren't in the table may be asked for, and what replies say of them: one refusal or none, and one reading.
use Rattle.gc_catalogue.proofs.Common.{◌≡◌, ◌≤◌, ◌%◌, ◌⊎◌, ℕ, List, [], length, refl, sym, ◌∙◌, subst, inl, inr, arith, cases_lt, ReplyFields, each_list, one_list, params_even, even_not_odd, IsListFault, open_quote, faulty_items, AreTooMany, IsParams, quotes, ValueFault, Reading, Answer, Nothing, AreFewItems, IsItemsRefusal, IsRawAnswer, IsRawCall, IsRawReading, IsRawRefusal}
use Rattle.gc_catalogue.specs.declared.raw.RawFault.{RawFault}
use Rattle.gc_catalogue.specs.declared.raw.RawFault.TheVariants.{InTable, NotPlain, TooLong, OpenQuote, TooMany}
use Rattle.gc_catalogue.proofs.ReadingLaws.{IsDecisive, each_reading_by, one_reading_by}
use Rattle.gc_values.specs.declared.fault.ValueFault.TheVariants as fault

-- parameters of at most 16 items have an even number of double quotes
pub few_close_quotes : (params : List ℕ) → AreFewItems params → quotes params % 2 ≡ 0
few_close_quotes params few = params_even params few.0 few.1

-- parameters of at most 16 items have at most 16 however they are split
pub few_however_split : (params : List ℕ) → AreFewItems params → (items : List (List ℕ)) → IsParams params items → length items ≤ 16
few_however_split params few items is = subst (λ (xs : List (List ℕ)). length xs ≤ 16) (one_list params few.0 items few.1 is) few.2

-- parameters that are never split into more than 16 items aren't more than 16 items
not_many : (params : List ℕ) → ((items : List (List ℕ)) → IsParams params items → length items ≤ 16) → AreTooMany params → ⊥
not_many params few many = let f = few many.0 many.1 in let m = many.2 in omega (arith, f, m)

-- parameters of at most 16 items have no fault as a list of items (`IsItemsRefusal`)
no_items_refusal : (params : List ℕ) (e : ValueFault) → AreFewItems params → IsItemsRefusal params e → ⊥
no_items_refusal params e few (inl odd) = even_not_odd _ (few_close_quotes params few) odd.1
no_items_refusal params e few (inr many) = not_many params (few_however_split params few) many.1

-- parameters have at most one fault as a list of items (`IsItemsRefusal`)
one_items_refusal : (params : List ℕ) (e f : ValueFault) → IsItemsRefusal params e → IsItemsRefusal params f → e ≡ f
one_items_refusal params e f (inl x) (inl y) = x.0 ∙ sym y.0
one_items_refusal params e f (inl x) (inr y) = absurd (even_not_odd _ (params_even params y.1.0 y.1.1) x.1)
one_items_refusal params e f (inr x) (inl y) = absurd (even_not_odd _ (params_even params x.1.0 x.1.1) y.1)
one_items_refusal params e f (inr x) (inr y) = x.0 ∙ sym y.0

-- parameters are at most 16 items, or have a fault as a list of items (`IsItemsRefusal`)
abbrev AreFewOrFaulty : List ℕ → Type 0
AreFewOrFaulty params = AreFewItems params ⊎ ((e : ValueFault) × IsItemsRefusal params e)

-- `AreFewOrFaulty` holds of parameters that split into items
few_or_faulty_by_split : (params : List ℕ) (items : List (List ℕ)) → IsParams params items → AreFewOrFaulty params
few_or_faulty_by_split params items is = elim (cases_lt 16 (length items)) [
  | inl many ↦ inr (fault.TooMany, inr (refl, (items, is, many)))
  | inr few ↦ inl (items, is, few)
]

-- `AreFewOrFaulty` holds of parameters that have a fault as a list of no values (`IsListFault`)
few_or_faulty_by_fault : (params : List ℕ) (e : ValueFault) → IsListFault [] params e → AreFewOrFaulty params
few_or_faulty_by_fault params e (open_quote is odd) = inr (fault.OpenQuote, inl (refl, odd))
few_or_faulty_by_fault params e (faulty_items items is faulty) = few_or_faulty_by_split params items is

-- `AreFewOrFaulty` holds of any parameters
few_or_faulty : (params : List ℕ) → AreFewOrFaulty params
few_or_faulty params = elim (each_list [] params) [ inl read ↦ few_or_faulty_by_split params read.2.items read.2.split | inr faulty ↦ few_or_faulty_by_fault params faulty.0 faulty.1 ]

-- parameters with an even number of double quotes that are never split into more than 16 items are at most 16
pub few_items : (params : List ℕ) → quotes params % 2 ≡ 0 → ((items : List (List ℕ)) → IsParams params items → length items ≤ 16) → AreFewItems params
few_items params closed few = elim (few_or_faulty params) [
  | inl items ↦ items
  | inr (e, (inl odd)) ↦ absurd (even_not_odd _ closed odd.1)
  | inr (e, (inr many)) ↦ absurd (not_many params few many.1)
]

-- a number and parameters that may be asked for as they are have no refusal
pub no_raw_refusal : (rpc : ℕ) (params : List ℕ) (e : RawFault) → IsRawCall rpc params → IsRawRefusal rpc params e → ⊥
no_raw_refusal rpc params InTable is why = is.no_procedure why.0 why.1
no_raw_refusal rpc params NotPlain is why = why.1 is.plain
no_raw_refusal rpc params TooLong is why = let s = is.short in let l = why.2 in omega (arith, s, l)
no_raw_refusal rpc params OpenQuote is why = even_not_odd _ is.closed why.3
no_raw_refusal rpc params TooMany is why = not_many params is.few why.3

-- a number and parameters have at most one refusal as those of a procedure that isn't in the table
pub one_raw_refusal : (rpc : ℕ) (params : List ℕ) (e f : RawFault) → IsRawRefusal rpc params e → IsRawRefusal rpc params f → e ≡ f
one_raw_refusal rpc params InTable InTable x y = refl
one_raw_refusal rpc params InTable NotPlain x y = absurd (y.0 x.0 x.1)
one_raw_refusal rpc params InTable TooLong x y = absurd (y.0 x.0 x.1)
one_raw_refusal rpc params InTable OpenQuote x y = absurd (y.0 x.0 x.1)
one_raw_refusal rpc params InTable TooMany x y = absurd (y.0 x.0 x.1)
one_raw_refusal rpc params NotPlain InTable x y = absurd (x.0 y.0 y.1)
one_raw_refusal rpc params NotPlain NotPlain x y = refl
one_raw_refusal rpc params NotPlain TooLong x y = absurd (x.1 y.1)
one_raw_refusal rpc params NotPlain OpenQuote x y = absurd (x.1 y.1)
one_raw_refusal rpc params NotPlain TooMany x y = absurd (x.1 y.1)
one_raw_refusal rpc params TooLong InTable x y = absurd (x.0 y.0 y.1)
one_raw_refusal rpc params TooLong NotPlain x y = absurd (y.1 x.1)
one_raw_refusal rpc params TooLong TooLong x y = refl
one_raw_refusal rpc params TooLong OpenQuote x y = let l = x.2 in let s = y.2 in absurd (omega (arith, l, s))
one_raw_refusal rpc params TooLong TooMany x y = let l = x.2 in let s = y.2 in absurd (omega (arith, l, s))
one_raw_refusal rpc params OpenQuote InTable x y = absurd (x.0 y.0 y.1)
one_raw_refusal rpc params OpenQuote NotPlain x y = absurd (y.1 x.1)
one_raw_refusal rpc params OpenQuote TooLong x y = let l = y.2 in let s = x.2 in absurd (omega (arith, l, s))
one_raw_refusal rpc params OpenQuote OpenQuote x y = refl
one_raw_refusal rpc params OpenQuote TooMany x y = absurd (even_not_odd _ (params_even params y.3.0 y.3.1) x.3)
one_raw_refusal rpc params TooMany InTable x y = absurd (x.0 y.0 y.1)
one_raw_refusal rpc params TooMany NotPlain x y = absurd (y.1 x.1)
one_raw_refusal rpc params TooMany TooLong x y = let l = y.2 in let s = x.2 in absurd (omega (arith, l, s))
one_raw_refusal rpc params TooMany OpenQuote x y = absurd (even_not_odd _ (params_even params x.3.0 x.3.1) y.3)
one_raw_refusal rpc params TooMany TooMany x y = refl

-- parameters are read as at most one answer (`IsRawAnswer`), or have at most one fault (`IsItemsRefusal`), and never both
raw_decisive : (params : List ℕ) → IsDecisive (IsRawAnswer params) (IsItemsRefusal params)
raw_decisive params = record {
  answer = λ a b x y. x.1 ∙ sym y.1;
  fault = one_items_refusal params;
  never_both = λ a e x why. no_items_refusal params e x.0 why;
}

-- parameters are read as an answer (`IsRawAnswer`), or have a fault (`IsItemsRefusal`)
raw_answer_or_refusal : (params : List ℕ) → ((a : Answer) × IsRawAnswer params a) ⊎ ((e : ValueFault) × IsItemsRefusal params e)
raw_answer_or_refusal params = elim (few_or_faulty params) [ inl few ↦ inl (Nothing, (few, refl)) | inr none ↦ inr none ]

-- a reply has at most one reading for a procedure that isn't in the table
pub one_raw_reading : (r : ReplyFields) (x y : Reading) → IsRawReading r x → IsRawReading r y → x ≡ y
one_raw_reading r x y = one_reading_by (IsRawAnswer r.params) (IsItemsRefusal r.params) r x y (raw_decisive r.params)

-- each reply has a reading for a procedure that isn't in the table
pub each_raw_reply : (r : ReplyFields) → (reading : Reading) × IsRawReading r reading
each_raw_reply r = each_reading_by (IsRawAnswer r.params) (IsItemsRefusal r.params) r (raw_answer_or_refusal r.params)
