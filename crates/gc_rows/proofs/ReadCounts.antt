-- How many values and items there are of parameters that are read by kinds.
use Rattle.gc_rows.proofs.Common.{◌≡◌, ◌≤◌, ◌∷◌, ◌∙◌, [], ℕ, suc, List, Bool, true, false, cond, Option, Some, None, IfSome, inl, inr, length, refl, sym, ap, subst, arith, cases_Bool, eqb-true, leb-true, Kind, Value, KindsSeen, split_items, items_as, suits_count, value_in, values_of_items, values_read, values_with}

-- items are read as one value of each kind, if they are
as_many : (ks : List Kind) (items : List (List ℕ)) → IfSome (items_as ks items) (λ vs. length vs ≡ length ks)
as_many [] items = refl
as_many (k ∷ ks) [] = tt
as_many (k ∷ ks) (item ∷ items) = with_one (value_in k item) (items_as ks items) (as_many ks items) where
  -- one value more, if there are both
  with_one : (v : Option Value) (others : Option (List Value)) → IfSome others (λ vs. length vs ≡ length ks) → IfSome (values_with v others) (λ vs. length vs ≡ length (k ∷ ks))
  with_one (Some v) (Some vs) same = ap suc same
  with_one (Some v) None same = tt
  with_one None others same = tt

-- where a number of items suits, there are as many as kinds at least
enough : (more : Bool) (items kinds : ℕ) → suits_count more items kinds ≡ true → kinds ≤ items
enough true items kinds suits = leb-true kinds items suits
enough false items kinds suits = let same = eqb-true items kinds suits in omega (arith, same)

module _ (kinds : KindsSeen) (params : List ℕ) (items : List (List ℕ)) (vs : List Value) (splits : split_items params ≡ Some items) (read : values_read kinds params ≡ Some vs) where
  -- there are as many values as kinds, and at least as many items
  pub read_counts : (length vs ≡ length kinds.kinds) × (length kinds.kinds ≤ length items)
  read_counts =
      let at : values_of_items kinds (Some items) ≡ Some vs = ap (values_of_items kinds) (sym splits) ∙ read in
      elim (cases_Bool (suits_count kinds.more (length items) (length kinds.kinds))) [
        | inl holds ↦
            let are : items_as kinds.kinds items ≡ Some vs = sym (ap (λ b. cond b (items_as kinds.kinds items) None) holds) ∙ at in
            (subst (λ (o : Option (List Value)). IfSome o (λ values. length values ≡ length kinds.kinds)) are (as_many kinds.kinds items), enough kinds.more (length items) (length kinds.kinds) holds)
        | inr other ↦ let none : None ≡ Some vs = sym (ap (λ b. cond b (items_as kinds.kinds items) None) other) ∙ at in absurd (cc)
      ]
