-- Values of the kinds of a description: a list of parameters has one list of them at most, or one fault, and never both; and each list has
-- one of these.
use Rattle.gc_station.proofs.Common.{◌≡◌, ◌≤◌, ◌⊎◌, inl, inr, ℕ, Bool, true, false, List, [], ◌∷◌, length, arith, refl, sym, ◌∙◌, subst, cases_eq, cases_lt, IsItemFault, FirstFault, IsListFault, AreTooMany, HasOpenQuote, IsParams, quotes, ValueFault, AreOfKinds, BeginAs, HaveValues, IsItemsMisfit, IsKindsFault, KindsSeen, SuitsCount, faulty_item, faulty_items, open_quote, too_many, wrong_count}
use Rattle.gc_values.specs.declared.value.Kind.{Kind}
use Rattle.gc_values.specs.declared.value.Value.{Value}
use Rattle.gc_values.proofs.EachItem.{each_item, each_list}
use Rattle.gc_values.proofs.ItemLaws.{item_has_no_fault, one_value}
use Rattle.gc_values.proofs.ListLaws.{one_first_fault}
use Rattle.gc_values.proofs.ParamLists.{even_not_odd, one_list, params_even}
use Rattle.gc_values.specs.Lists as lists
use Rattle.gc_values.specs.declared.fault.ValueFault.TheVariants as fault

-- One at most.

-- items begin with one list of values of the kinds at most
one_beginning : (ks : List Kind) (items : List (List ℕ)) (vs ws : List Value) → BeginAs ks items vs → BeginAs ks items ws → vs ≡ ws
one_beginning [] items [] [] x y = refl
one_beginning [] items [] (w ∷ ws) x y = absurd y
one_beginning [] items (v ∷ vs) ws x y = absurd x
one_beginning (k ∷ ks) items [] ws x y = absurd x
one_beginning (k ∷ ks) [] (v ∷ vs) ws x y = absurd x
one_beginning (k ∷ ks) (item ∷ items) (v ∷ vs) [] x y = absurd y
one_beginning (k ∷ ks) (item ∷ items) (v ∷ vs) (w ∷ ws) x y = cc (one_value v w item (x.0 ∙ sym y.0) x.1 y.1, one_beginning ks items vs ws x.2 y.2)

-- items that begin with values of the kinds have no first fault
no_first_fault : (ks : List Kind) (items : List (List ℕ)) (vs : List Value) (e : ValueFault) → BeginAs ks items vs → FirstFault ks items e → ⊥
no_first_fault [] items vs e x f = f
no_first_fault (k ∷ ks) items [] e x f = absurd x
no_first_fault (k ∷ ks) [] (v ∷ vs) e x f = absurd x
no_first_fault (k ∷ ks) (item ∷ items) (v ∷ vs) e x (inl f) = item_has_no_fault v item e x.1 (subst (λ q. IsItemFault q item e) (sym x.0) f)
no_first_fault (k ∷ ks) (item ∷ items) (v ∷ vs) e x (inr f) = no_first_fault ks items vs e x.2 f.3

-- items of which there are at most 16, however they are split, aren't more than 16 items
few_not_many : (params : List ℕ) (items : List (List ℕ)) → IsParams params items → length items ≤ 16 → AreTooMany params → ⊥
few_not_many params items split few many =
    let less = subst (λ (xs : List (List ℕ)). length xs ≤ 16) (one_list params items many.0 split many.1) few in
    let more = many.2 in
    omega (arith, less, more)

-- parameters that split into items have no open quote
split_closed : (params : List ℕ) (items : List (List ℕ)) → IsParams params items → HasOpenQuote params → ⊥
split_closed params items split odd = even_not_odd (quotes params) (params_even params items split) odd

module _ (kinds : KindsSeen) (params : List ℕ) where
  -- the parameters are of one list of values of the kinds at most
  pub one_values : (vs ws : List Value) → AreOfKinds kinds params vs → AreOfKinds kinds params ws → vs ≡ ws
  one_values vs ws x y =
      one_beginning kinds.kinds x.items vs ws x.have.read (subst (λ i. BeginAs kinds.kinds i ws) (one_list params y.items x.items y.split x.split) y.have.read)

  -- items have one misfit at most
  one_misfit : (items : List (List ℕ)) (e f : ValueFault) → IsItemsMisfit kinds items e → IsItemsMisfit kinds items f → e ≡ f
  one_misfit items e f (wrong_count a other) (wrong_count b also) = a ∙ sym b
  one_misfit items e f (wrong_count a other) (faulty_item suits first) = absurd (other suits)
  one_misfit items e f (faulty_item suits first) (wrong_count b other) = absurd (other suits)
  one_misfit items e f (faulty_item suits first) (faulty_item also second) = one_first_fault kinds.kinds items e f first second

  -- the parameters have one fault at most
  pub one_fault : (e f : ValueFault) → IsKindsFault kinds params e → IsKindsFault kinds params f → e ≡ f
  one_fault e f (open_quote a odd) (open_quote b also) = a ∙ sym b
  one_fault e f (open_quote a odd) (too_many b many) = absurd (split_closed params many.0 many.1 odd)
  one_fault e f (open_quote a odd) (faulty_items items split few misfit) = absurd (split_closed params items split odd)
  one_fault e f (too_many a many) (open_quote b odd) = absurd (split_closed params many.0 many.1 odd)
  one_fault e f (too_many a many) (too_many b also) = a ∙ sym b
  one_fault e f (too_many a many) (faulty_items items split few misfit) = absurd (few_not_many params items split few many)
  one_fault e f (faulty_items items split few misfit) (open_quote b odd) = absurd (split_closed params items split odd)
  one_fault e f (faulty_items items split few misfit) (too_many b many) = absurd (few_not_many params items split few many)
  one_fault e f (faulty_items items split few misfit) (faulty_items others also less other) =
      one_misfit items e f misfit (subst (λ i. IsItemsMisfit kinds i f) (one_list params others items also split) other)

  -- items that begin with values of the kinds have no misfit
  no_misfit : (items : List (List ℕ)) (vs : List Value) (e : ValueFault) → HaveValues kinds items vs → IsItemsMisfit kinds items e → ⊥
  no_misfit items vs e have (wrong_count is other) = other have.count
  no_misfit items vs e have (faulty_item suits first) = no_first_fault kinds.kinds items vs e have.read first

  -- parameters of values of the kinds have no fault
  pub never_both : (vs : List Value) (e : ValueFault) → AreOfKinds kinds params vs → IsKindsFault kinds params e → ⊥
  never_both vs e are (open_quote is odd) = split_closed params are.items are.split odd
  never_both vs e are (too_many is many) = few_not_many params are.items are.split are.few many
  never_both vs e are (faulty_items items split few misfit) =
      no_misfit items vs e (subst (λ i. HaveValues kinds i vs) (one_list params are.items items are.split split) are.have) misfit

-- One at least.

-- items, at least as many as kinds, begin with values of these, or have a first fault
begin_or_fault : (ks : List Kind) (items : List (List ℕ)) → length ks ≤ length items → ((vs : List Value) × BeginAs ks items vs) ⊎ ((e : ValueFault) × FirstFault ks items e)
begin_or_fault [] items many = inl ([], tt)
begin_or_fault (k ∷ ks) [] many = absurd (omega (arith, many))
begin_or_fault (k ∷ ks) (item ∷ items) many = elim (each_item k item) [
  | inr faulty ↦ inr (faulty.0, inl faulty.1)
  | inl read ↦ elim (begin_or_fault ks items (omega (arith, many))) [
    | inl more ↦ inl (read.0 ∷ more.0, (read.1, read.2, more.1))
    | inr faulty ↦ inr (faulty.0, inr (read.0, read.1, read.2, faulty.1))
  ]
]

-- a list of so many items may have values of so many kinds, or may not
suits_or_not : (more : Bool) (items kinds : ℕ) → SuitsCount more items kinds ⊎ (SuitsCount more items kinds → ⊥)
suits_or_not true items kinds = elim (cases_lt items kinds) [ inl fewer ↦ inr (λ many. omega (arith, fewer, many)) | inr many ↦ inl many ]
suits_or_not false items kinds = elim (cases_eq items kinds) [ inl same ↦ inl same | inr other ↦ inr other ]

-- where a list of so many items may have values of so many kinds, it has as many items at least
suits_enough : (more : Bool) (items kinds : ℕ) → SuitsCount more items kinds → kinds ≤ items
suits_enough true items kinds suits = suits
suits_enough false items kinds suits = omega (arith, suits)

module _ (kinds : KindsSeen) (params : List ℕ) where
  -- the parameters are values of the kinds, or have a fault
  abbrev pub AreReadOrFaulty : Type 0
  AreReadOrFaulty = ((vs : List Value) × AreOfKinds kinds params vs) ⊎ ((e : ValueFault) × IsKindsFault kinds params e)

  -- so it is of at most 16 items as many as the kinds allow
  by_items : (items : List (List ℕ)) → IsParams params items → length items ≤ 16 → SuitsCount kinds.more (length items) (length kinds.kinds) → AreReadOrFaulty
  by_items items split few suits = elim (begin_or_fault kinds.kinds items (suits_enough kinds.more (length items) (length kinds.kinds) suits)) [
    | inl read ↦ inl (read.0, record { items = items; split = split; few = few; have = record { count = suits; read = read.1 } })
    | inr faulty ↦ inr (faulty.0, faulty_items items split few (faulty_item suits faulty.1))
  ]

  -- and of any items
  by_split : (items : List (List ℕ)) → IsParams params items → AreReadOrFaulty
  by_split items split = elim (cases_lt 16 (length items)) [
    | inl many ↦ inr (fault.TooMany, too_many refl (items, split, many))
    | inr few ↦ elim (suits_or_not kinds.more (length items) (length kinds.kinds)) [
      | inr other ↦ inr (fault.Count, faulty_items items split few (wrong_count refl other))
      | inl suits ↦ by_items items split few suits
    ]
  ]

  -- and where the parameters have a fault as a list without values
  by_fault : (e : ValueFault) → IsListFault [] params e → AreReadOrFaulty
  by_fault e (lists.open_quote is odd) = inr (fault.OpenQuote, open_quote refl odd)
  by_fault e (lists.faulty_items items split faulty) = by_split items split

  -- and of all parameters
  pub read_or_faulty : AreReadOrFaulty
  read_or_faulty = elim (each_list [] params) [ inl read ↦ by_split read.2.items read.2.split | inr faulty ↦ by_fault faulty.0 faulty.1 ]
