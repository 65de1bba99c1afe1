-- One list of values for parameters and kinds, or one fault, and never both.
use Rattle.gc_values.proofs.Common.{sym, ◌∙◌, subst, inl, inr, arith, length-map, kind_of, text, IsItem, IsItemFault, joined, quotes, ValueFault, Kind, Value, kinds_of, AreItems, AreParams, AreValues, FirstFault, IsItemsFault, IsListFault, too_many, wrong_count, faulty_item, open_quote, faulty_items}
use Rattle.std.specs.Prelude.{◌≡◌, ◌≤◌, ℕ, List, [], ◌∷◌, map, length, refl}
use Rattle.std.proofs.lemmas.Slice.Zip.{AllZip-long}
use Rattle.gc_values.proofs.ItemLaws.{item_has_no_fault, item_is_value, one_fault, one_value, written_is_read}
use Rattle.gc_values.proofs.TextShape.{joined_splits}
use Rattle.gc_values.proofs.ParamLists as splitting

-- items are read as at most one list of values of given kinds
pub one_values_of_items : (vs ws : List Value) (items : List (List ℕ)) → kinds_of vs ≡ kinds_of ws → AreItems items vs → AreItems items ws → vs ≡ ws
one_values_of_items [] [] items e x y = refl
one_values_of_items [] (w ∷ ws) items e x y = absurd (cc)
one_values_of_items (v ∷ vs) [] items e x y = absurd (cc)
one_values_of_items (v ∷ vs) (w ∷ ws) [] e x y = absurd x
one_values_of_items (v ∷ vs) (w ∷ ws) (item ∷ items) e x y =
    let first : kind_of v ≡ kind_of w = cc in
    let rest : kinds_of vs ≡ kinds_of ws = cc in
    cc (one_value v w item first x.0 y.0, one_values_of_items vs ws items rest x.1 y.1)

-- items that are read as values have no fault for the values' kinds
pub no_first_fault : (vs : List Value) (items : List (List ℕ)) (e : ValueFault) → AreItems items vs → FirstFault (kinds_of vs) items e → ⊥
no_first_fault [] items e x f = f
no_first_fault (v ∷ vs) [] e x f = f
no_first_fault (v ∷ vs) (item ∷ items) e x (inl f) = item_has_no_fault v item e x.0 f
no_first_fault (v ∷ vs) (item ∷ items) e x (inr f) = no_first_fault vs items e x.1 f.3

-- items that are read as values are as many as the values' kinds
pub same_count : (vs : List Value) (items : List (List ℕ)) → AreItems items vs → length items ≡ length (kinds_of vs)
same_count vs items x = sym (AllZip-long IsItem items vs x) ∙ sym (length-map vs kind_of)

-- items have at most one first fault for kinds
pub one_first_fault : (ks : List Kind) (items : List (List ℕ)) (e f : ValueFault) → FirstFault ks items e → FirstFault ks items f → e ≡ f
one_first_fault [] items e f x y = absurd x
one_first_fault (k ∷ ks) [] e f x y = absurd x
one_first_fault (k ∷ ks) (item ∷ items) e f (inl x) (inl y) = one_fault k item e f x y
one_first_fault (k ∷ ks) (item ∷ items) e f (inl x) (inr y) = absurd (item_has_no_fault y.0 item e y.2 (subst (λ q. IsItemFault q item e) (sym y.1) x))
one_first_fault (k ∷ ks) (item ∷ items) e f (inr x) (inl y) = absurd (item_has_no_fault x.0 item f x.2 (subst (λ q. IsItemFault q item f) (sym x.1) y))
one_first_fault (k ∷ ks) (item ∷ items) e f (inr x) (inr y) = one_first_fault ks items e f x.3 y.3

-- items have at most one fault for kinds
one_items_fault : (ks : List Kind) (items : List (List ℕ)) (e f : ValueFault) → IsItemsFault ks items e → IsItemsFault ks items f → e ≡ f
one_items_fault ks items e f (too_many a n) (too_many b m) = a ∙ sym b
one_items_fault ks items e f (too_many a n) (wrong_count b m d) = absurd (omega arith)
one_items_fault ks items e f (too_many a n) (faulty_item m s y) = absurd (omega arith)
one_items_fault ks items e f (wrong_count a n c) (too_many b m) = absurd (omega arith)
one_items_fault ks items e f (wrong_count a n c) (wrong_count b m d) = a ∙ sym b
one_items_fault ks items e f (wrong_count a n c) (faulty_item m s y) = absurd (c s)
one_items_fault ks items e f (faulty_item n s x) (too_many b m) = absurd (omega arith)
one_items_fault ks items e f (faulty_item n s x) (wrong_count b m d) = absurd (d s)
one_items_fault ks items e f (faulty_item n s x) (faulty_item m t y) = one_first_fault ks items e f x y

-- a list has at most one fault for kinds
pub one_list_fault : (ks : List Kind) (params : List ℕ) (e f : ValueFault) → IsListFault ks params e → IsListFault ks params f → e ≡ f
one_list_fault ks params e f (open_quote a o) (open_quote b p) = a ∙ sym b
one_list_fault ks params e f (open_quote a o) (faulty_items items s y) = absurd (splitting.even_not_odd (quotes params) (splitting.params_even params items s) o)
one_list_fault ks params e f (faulty_items items s x) (open_quote b p) = absurd (splitting.even_not_odd (quotes params) (splitting.params_even params items s) p)
one_list_fault ks params e f (faulty_items items s x) (faulty_items others t y) = one_items_fault ks items e f x (subst (λ i. IsItemsFault ks i f) (splitting.one_list params others items t s) y)

-- a parameter list is read as at most one list of values of given kinds
pub one_values : (vs ws : List Value) (params : List ℕ) → kinds_of vs ≡ kinds_of ws → AreParams params vs → AreParams params ws → vs ≡ ws
one_values vs ws params e x y = one_values_of_items vs ws x.items e x.read (subst (λ i. AreItems i ws) (splitting.one_list params y.items x.items y.split x.split) y.read)

-- items that are read as at most six values have no fault for the kinds of these values
no_items_fault : (vs : List Value) (items : List (List ℕ)) (e : ValueFault) → length vs ≤ 6 → AreItems items vs
    → IsItemsFault (kinds_of vs) items e → ⊥
no_items_fault vs items e few x (too_many b m) = omega (arith, same_count vs items x, length-map vs kind_of)
no_items_fault vs items e few x (wrong_count b m d) = d (same_count vs items x)
no_items_fault vs items e few x (faulty_item m s y) = no_first_fault vs items e x y

-- a list that is read as at most six values has no fault for the kinds of these values
pub no_list_fault : (vs : List Value) (params : List ℕ) (e : ValueFault) → length vs ≤ 6 → AreParams params vs
    → IsListFault (kinds_of vs) params e → ⊥
no_list_fault vs params e few x (open_quote a o) = splitting.even_not_odd (quotes params) (splitting.params_even params x.items x.split) o
no_list_fault vs params e few x (faulty_items items s y) = no_items_fault vs items e few (subst (λ i. AreItems i vs) (splitting.one_list params x.items items x.split s) x.read) y

-- the texts of values in their kinds' ranges are read as the values
texts_read : (vs : List Value) → AreValues vs → AreItems (map text vs) vs
texts_read [] h = tt
texts_read (v ∷ vs) h = (written_is_read v h.0, texts_read vs h.1)

-- the texts of values in their kinds' ranges, joined by commas, are read as the values
pub written_reads : (vs : List Value) → AreValues vs → AreParams (joined (map text vs)) vs
written_reads vs h = record { items = map text vs; split = joined_splits vs h; read = texts_read vs h }

-- values that items are read as lie in their ranges
items_fit : (vs : List Value) (items : List (List ℕ)) → AreItems items vs → AreValues vs
items_fit [] [] x = tt
items_fit [] (item ∷ items) x = absurd x
items_fit (v ∷ vs) [] x = absurd x
items_fit (v ∷ vs) (item ∷ items) x = (item_is_value v item x.0, items_fit vs items x.1)

-- values that a list is read as lie in their ranges
pub params_fit : (vs : List Value) (params : List ℕ) → AreParams params vs → AreValues vs
params_fit vs params x = items_fit vs x.items x.read
