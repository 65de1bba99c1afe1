-- The members of an answer to a described procedure, which the code writes one after the other.
use Rattle.gc_rows.proofs.Common.{◌≡◌, ◌++◌, ◌∷◌, ◌∙◌, ℕ, ◌+◌, List, append_assoc, drop, sym, ap, flat_map-append, Value, FieldSeen, Quantity, cell, members_of, field_cells, member_text, members_text, value_members}

module _ (fs : List FieldSeen) (vs : List Value) (items : List (List ℕ)) (k : ℕ) (f : FieldSeen) (v : Value) (item : List ℕ)
    (field : drop k fs ≡ f ∷ drop (k + 1) fs) (value : drop k vs ≡ v ∷ drop (k + 1) vs) (came : drop k items ≡ item ∷ drop (k + 1) items) where
  -- the cells from place k on are that of value k, and the others
  cells_next : field_cells (drop k fs) (drop k vs) (drop k items)
      ≡ cell f.name (Quantity v item) ∷ field_cells (drop (k + 1) fs) (drop (k + 1) vs) (drop (k + 1) items)
  cells_next =
      ap (λ x. field_cells x (drop k vs) (drop k items)) field ∙ ap (λ y. field_cells (f ∷ drop (k + 1) fs) y (drop k items)) value
      ∙ ap (λ z. field_cells (f ∷ drop (k + 1) fs) (v ∷ drop (k + 1) vs) z) came

  -- the members of value k were written: with those of the others they make up all
  pub one_more_field : (new old whole : List ℕ) → new ≡ old ++ members_text (value_members f.name v item)
      → old ++ members_text (members_of (field_cells (drop k fs) (drop k vs) (drop k items))) ≡ whole
      → new ++ members_text (members_of (field_cells (drop (k + 1) fs) (drop (k + 1) vs) (drop (k + 1) items))) ≡ whole
  one_more_field new old whole written all =
      let own = value_members f.name v item in
      let others = members_of (field_cells (drop (k + 1) fs) (drop (k + 1) vs) (drop (k + 1) items)) in
      ap (λ l. l ++ members_text others) written ∙ append_assoc old (members_text own) (members_text others)
      ∙ ap (λ l. old ++ l) (sym (flat_map-append member_text own others)) ∙ ap (λ cells. old ++ members_text (members_of cells)) (sym cells_next) ∙ all
