use Rattle.gc_rows.proofs.Common.{◌++◌, ap, rules, sym, ◌∙◌, codes, stamp_text, fields_of, cells_in, entry_seen, first_columns, last_columns, quantity_fields, field_text, behind_comma, fields_behind_commas, row_of}
use Rattle.gc_rows.proofs.Rows.{three_written}
use Rattle.gc_rows.proofs.Spreading.{fields_apart}
use Rattle.gc_rows.proofs.row.csv_row.Goals as goal

pub returns : goal.returns
returns c =
    let r = entry_seen c.args.ended in
    let first = cells_in first_columns r in
    let quantities = quantity_fields c.args.has_quantities r in
    let last = cells_in last_columns r in
    let front = field_text (stamp_text r.when.run) in
    c.append.ensures
    ∙ ap (λ l. l ++ codes "\n") (c.append_cells-2.ensures.text
    ∙ ap (λ cells. c.append_quantities_if.new.row.items ++ fields_behind_commas (fields_of cells)) c.last_cells.ensures.is
    ∙ ap (λ l. l ++ fields_behind_commas (fields_of last)) (c.append_quantities_if.ensures.text
    ∙ ap (λ l. l ++ fields_behind_commas quantities) (c.append_cells.ensures.text
    ∙ ap (λ cells. c.append_field.new.row.items ++ fields_behind_commas (fields_of cells)) c.first_cells.ensures.is
    ∙ ap (λ l. l ++ fields_behind_commas (fields_of first)) (search rules)))
    ∙ three_written behind_comma front (fields_of first) quantities (fields_of last))
    ∙ ap row_of (sym (fields_apart c.args.has_quantities r))
