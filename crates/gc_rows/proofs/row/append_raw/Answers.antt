use Rattle.gc_rows.proofs.Common.{◌++◌, ◌∙◌, ap, map, option_map, sym, length-map, description_seen, cells_of_values, named_fields, quantity_names, fields_behind_commas, values_of}
use Rattle.gc_rows.proofs.NamedFields.{all_empty}
use Rattle.gc_rows.proofs.row.append_raw.Goals as goal

pub returns-in-None : goal.returns-in-None
returns-in-None g c =
    let old = c.args.row.now.items in
    let added = map (λ n. n.items) c.args.columns.now in
    record {
      text = c.append_empty.ensures.text
          ∙ ap (λ l. old ++ fields_behind_commas l) (all_empty added _ (length-map c.args.columns.now (λ n. n.items)))
          ∙ ap (λ o. old ++ fields_behind_commas (named_fields (quantity_names ++ added) (cells_of_values (option_map (λ d. description_seen d.now) o) (values_of c.args.reply.now.items)))) (sym c.in-None.is);
      room = c.append_empty.ensures.room;
    }
