-- The row of the names of a wide row's columns.
use Rattle.gc_rows.proofs.Common.{◌≡◌, ◌++◌, ◌∙◌, List, ℕ, append_assoc, map, sym, ap, codes, flat_map-append, map-append, Column, first_columns, last_columns, new_columns, quantity_names, header, behind_comma, field_text, fields_behind_commas, row_of}
use Rattle.std.specs.Prelude.{true}
use Rattle.gc_rows.proofs.DescribedColumns.{column_names}

-- the names between `run` and the quantities, and those behind them
abbrev pub first_behind_run : List (List ℕ)
first_behind_run = map (λ c. c.name) first_columns

abbrev pub last_names : List (List ℕ)
last_names = map (λ c. c.name) last_columns

-- the row of names is its front, the added names, and its end
pub wide_row : (columns : List (List ℕ))
    → ((field_text (codes "run") ++ fields_behind_commas (first_behind_run ++ quantity_names)) ++ fields_behind_commas columns)
    ++ (fields_behind_commas last_names ++ codes "\n") ≡ row_of (header true columns)
wide_row columns =
    let run = field_text (codes "run") in
    let known = first_behind_run ++ quantity_names in
    let names : map (λ c. c.name) (new_columns columns) ++ last_names ≡ columns ++ last_names = ap (λ l. l ++ last_names) (column_names columns) in
    let text : fields_behind_commas (known ++ (columns ++ last_names)) ≡ fields_behind_commas known ++ (fields_behind_commas columns ++ fields_behind_commas last_names) =
    flat_map-append behind_comma known (columns ++ last_names) ∙ ap (λ l. fields_behind_commas known ++ l) (flat_map-append behind_comma columns last_names) in
    let end = codes "\n" in
    let k = fields_behind_commas known in
    let c = fields_behind_commas columns in
    let z = fields_behind_commas last_names in
    append_assoc (run ++ k) c (z ++ end) ∙ append_assoc run k (c ++ (z ++ end))
    ∙ ap (λ l. run ++ (k ++ l)) (sym (append_assoc c z end)) ∙ ap (λ l. run ++ l) (sym (append_assoc k (c ++ z) end))
    ∙ ap (λ l. run ++ (l ++ end)) (sym text)
    ∙ ap (λ l. run ++ (fields_behind_commas (known ++ l) ++ end)) (sym (map-append (λ (c : Column). c.name) (new_columns columns) last_columns ∙ names))
