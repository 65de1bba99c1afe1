-- Items read as values of kinds, from the left: `ks` and `items` are all kinds and items.
use Rattle.gc_texts.proofs.Common.{◌≡◌, ◌<◌, ◌≤◌, ◌+◌, ℕ, Bool, true, false, inl, inr, List, [], ◌∷◌, ◌++◌, length, drop, get_or, arith, subst, sym, ap, ◌∙◌, append_assoc, append-nil, IfOk, IfErr, drop_more, length_push, kind_of, IsItem, IsItemFault, FirstFault, IsParams, ValueFault, Kind, Value, AreOfKinds, BeginAs, HaveValues, IsItemsMisfit, IsKindsFault, KindsSeen, SuitsCount, faulty_items}
use Rattle.std.specs.Prelude.{Result, Ok, Err}

-- `read` are the values of the first k items, of the first k kinds: where the items from place k on have values of the kinds from there on,
-- all items have `read` and then these; and the first fault from there on is the first of all
pub record ReadTo (ks : List Kind) (items : List (List ℕ)) (k : ℕ) (read : List Value) : Type 0 where
  pub count : length read ≡ k
  pub values : (vs : List Value) → BeginAs (drop k ks) (drop k items) vs → BeginAs ks items (read ++ vs)
  pub faults : (e : ValueFault) → FirstFault (drop k ks) (drop k items) e → FirstFault ks items e

module _
    (ks : List Kind) (items : List (List ℕ)) (k : ℕ) (d : Kind) (read : List Value) (at : ReadTo ks items k read) (below : k < length ks)
    (within : k < length items) where
  -- what is left of the kinds and items has the next of each first
  kinds_here : drop k ks ≡ get_or ks k d ∷ drop (k + 1) ks
  kinds_here = drop_more ks k d below

  items_here : drop k items ≡ get_or items k [] ∷ drop (k + 1) items
  items_here = drop_more items k [] within

  -- where the next item is a value of the next kind, one more was read
  pub one_read : (v : Value) → kind_of v ≡ get_or ks k d → IsItem (get_or items k []) v → ReadTo ks items (k + 1) (read ++ v ∷ [])
  one_read v kind is =
      record {
        count = length_push read v ∙ ap (λ n. n + 1) at.count;
        values = λ vs are.
            subst (BeginAs ks items) (sym (append_assoc read (v ∷ []) vs))
            (at.values (v ∷ vs)
            (subst (λ (rest : List Kind). BeginAs rest (drop k items) (v ∷ vs)) (sym kinds_here)
            (subst (λ (rest : List (List ℕ)). BeginAs (get_or ks k d ∷ drop (k + 1) ks) rest (v ∷ vs)) (sym items_here) (kind, is, are))));
        faults = λ e is_fault.
            at.faults e
            (subst (λ (rest : List Kind). FirstFault rest (drop k items) e) (sym kinds_here)
            (subst (λ (rest : List (List ℕ)). FirstFault (get_or ks k d ∷ drop (k + 1) ks) rest e) (sym items_here) (inr (v, kind, is, is_fault))));
      }

  -- where the next item isn't a value of the next kind, its fault is the first of all
  pub faulty_here : (e : ValueFault) → IsItemFault (get_or ks k d) (get_or items k []) e → FirstFault ks items e
  faulty_here e is =
      at.faults e
      (subst (λ (rest : List Kind). FirstFault rest (drop k items) e) (sym kinds_here)
      (subst (λ (rest : List (List ℕ)). FirstFault (get_or ks k d ∷ drop (k + 1) ks) rest e) (sym items_here) (inl is)))

-- once each kind was taken, the values are those of all items
pub all_read : (ks : List Kind) (items : List (List ℕ)) (k : ℕ) (read : List Value) → ReadTo ks items k read → drop k ks ≡ [] → BeginAs ks items read
all_read ks items k read at none =
    subst (BeginAs ks items) (append-nil read) (at.values [] (subst (λ (rest : List Kind). BeginAs rest (drop k items) []) (sym none) tt))

-- where a list of so many items may have values of so many kinds, it has as many items at least
pub suits_enough : (more : Bool) (items kinds : ℕ) → SuitsCount more items kinds → kinds ≤ items
suits_enough true items kinds suits = suits
suits_enough false items kinds suits = omega (arith, suits)

-- a list's items were read as values of the kinds, and so the list was
pub values_of_list : {V : Type 0} (kinds : KindsSeen) (params : List ℕ) (items : List (List ℕ)) (r : Result V ValueFault) (listed : V → List Value)
    → IsParams params items → length items ≤ 16 → IfOk r (λ v. HaveValues kinds items (listed v)) → IfOk r (λ v. AreOfKinds kinds params (listed v))
values_of_list kinds params items (Ok v) listed split few have = record { items = items; split = split; few = few; have = have }
values_of_list kinds params items (Err e) listed split few have = tt

-- a list's items don't have values of the kinds, and so the list doesn't
pub misfit_of_list : {V : Type 0} (kinds : KindsSeen) (params : List ℕ) (items : List (List ℕ)) (r : Result V ValueFault)
    → IsParams params items → length items ≤ 16 → IfErr r (λ e. IsItemsMisfit kinds items e) → IfErr r (λ e. IsKindsFault kinds params e)
misfit_of_list kinds params items (Ok v) split few misfit = tt
misfit_of_list kinds params items (Err e) split few misfit = faulty_items items split few misfit
