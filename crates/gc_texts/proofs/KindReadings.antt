-- Parameters have values of kinds in one way at most, or one fault, and never both.
use Rattle.gc_texts.proofs.Common.{◌≡◌, ℕ, inl, inr, List, [], ◌∷◌, length, arith, refl, ap, sym, ◌∙◌, subst, IsItemFault, FirstFault, quotes, ValueFault, Kind, Value, one_first_fault, even_not_odd, one_list, params_even, AreOfKinds, BeginAs, IsItemsMisfit, IsKindsFault, KindsSeen, SuitsCount, faulty_item, faulty_items, open_quote, too_many, wrong_count}
use Rattle.gc_values.proofs.ItemLaws.{item_has_no_fault, one_value}

-- two lists of kinds that say the same
pub same_kinds_seen : (a b : KindsSeen) → a.kinds ≡ b.kinds → a.more ≡ b.more → a ≡ b
same_kinds_seen a b kinds more = λ i. record { kinds = kinds i; more = more i }

-- the first items are values of kinds in one way at most
begun_once : (ks : List Kind) (items : List (List ℕ)) (vs ws : List Value) → BeginAs ks items vs → BeginAs ks items ws → vs ≡ ws
begun_once [] items [] [] x y = refl
begun_once [] items [] (w ∷ ws) x y = absurd y
begun_once [] items (v ∷ vs) ws x y = absurd x
begun_once (k ∷ ks) items [] ws x y = absurd x
begun_once (k ∷ ks) items (v ∷ vs) [] x y = absurd y
begun_once (k ∷ ks) [] (v ∷ vs) (w ∷ ws) x y = absurd x
begun_once (k ∷ ks) (item ∷ items) (v ∷ vs) (w ∷ ws) x y =
    let first = one_value v w item (x.0 ∙ sym y.0) x.1 y.1 in
    let others = begun_once ks items vs ws x.2 y.2 in
    ap (λ z. z ∷ vs) first ∙ ap (λ zs. w ∷ zs) others

-- and then none of them has a fault
begun_has_no_fault : (ks : List Kind) (items : List (List ℕ)) (vs : List Value) (e : ValueFault) → BeginAs ks items vs → FirstFault ks items e → ⊥
begun_has_no_fault [] items vs e x f = f
begun_has_no_fault (k ∷ ks) [] vs e x f = f
begun_has_no_fault (k ∷ ks) (item ∷ items) [] e x f = x
begun_has_no_fault (k ∷ ks) (item ∷ items) (v ∷ vs) e x (inl f) = item_has_no_fault v item e x.1 (subst (λ q. IsItemFault q item e) (sym x.0) f)
begun_has_no_fault (k ∷ ks) (item ∷ items) (v ∷ vs) e x (inr f) = begun_has_no_fault ks items vs e x.2 f.3

module _ (kinds : KindsSeen) (params : List ℕ) where
  -- parameters have one list of values at most
  pub values_once : (vs ws : List Value) → AreOfKinds kinds params vs → AreOfKinds kinds params ws → vs ≡ ws
  values_once vs ws x y =
      begun_once kinds.kinds x.items vs ws x.have.read
      (subst (λ (is : List (List ℕ)). BeginAs kinds.kinds is ws) (one_list params y.items x.items y.split x.split) y.have.read)

  -- items with a fault don't have values
  misfit_has_no_values : (items : List (List ℕ)) (vs : List Value) (e : ValueFault) → SuitsCount kinds.more (length items) (length kinds.kinds) → BeginAs kinds.kinds items vs
      → IsItemsMisfit kinds items e → ⊥
  misfit_has_no_values items vs e suits begin (wrong_count is none) = none suits
  misfit_has_no_values items vs e suits begin (faulty_item others first) = begun_has_no_fault kinds.kinds items vs e begin first

  -- so parameters with values have no fault
  pub fault_has_no_values : (vs : List Value) (e : ValueFault) → AreOfKinds kinds params vs → IsKindsFault kinds params e → ⊥
  fault_has_no_values vs e x (open_quote is odd) = even_not_odd (quotes params) (params_even params x.items x.split) odd
  fault_has_no_values vs e x (too_many is (items, are, many)) =
      let same = ap length (one_list params items x.items are x.split) in omega (arith, same, many, x.few)
  fault_has_no_values vs e x (faulty_items items are few misfit) =
      misfit_has_no_values x.items vs e x.have.count x.have.read
      (subst (λ (is : List (List ℕ)). IsItemsMisfit kinds is e) (one_list params items x.items are x.split) misfit)

  -- items have one fault at most
  one_misfit : (items : List (List ℕ)) (e f : ValueFault) → IsItemsMisfit kinds items e → IsItemsMisfit kinds items f → e ≡ f
  one_misfit items e f (wrong_count a n) (wrong_count b m) = a ∙ sym b
  one_misfit items e f (wrong_count a n) (faulty_item suits y) = absurd (n suits)
  one_misfit items e f (faulty_item suits x) (wrong_count b m) = absurd (m suits)
  one_misfit items e f (faulty_item suits x) (faulty_item more y) = one_first_fault kinds.kinds items e f x y

  -- and so have parameters
  pub one_kinds_fault : (e f : ValueFault) → IsKindsFault kinds params e → IsKindsFault kinds params f → e ≡ f
  one_kinds_fault e f (open_quote a odd) (open_quote b other) = a ∙ sym b
  one_kinds_fault e f (open_quote a odd) (too_many b (items, are, many)) = absurd (even_not_odd (quotes params) (params_even params items are) odd)
  one_kinds_fault e f (open_quote a odd) (faulty_items items are few misfit) = absurd (even_not_odd (quotes params) (params_even params items are) odd)
  one_kinds_fault e f (too_many a (items, are, many)) (open_quote b odd) = absurd (even_not_odd (quotes params) (params_even params items are) odd)
  one_kinds_fault e f (too_many a many) (too_many b more) = a ∙ sym b
  one_kinds_fault e f (too_many a (items, are, many)) (faulty_items others they few misfit) =
      let same = ap length (one_list params items others are they) in absurd (omega (arith, same, many, few))
  one_kinds_fault e f (faulty_items items are few misfit) (open_quote b odd) = absurd (even_not_odd (quotes params) (params_even params items are) odd)
  one_kinds_fault e f (faulty_items others they few misfit) (too_many b (items, are, many)) =
      let same = ap length (one_list params items others are they) in absurd (omega (arith, same, many, few))
  one_kinds_fault e f (faulty_items items are few misfit) (faulty_items others they less other) =
      one_misfit items e f misfit (subst (λ (is : List (List ℕ)). IsItemsMisfit kinds is f) (one_list params others items they are) other)
