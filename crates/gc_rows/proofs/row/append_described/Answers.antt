use Rattle.gc_rows.proofs.Common.{◌≡◌, ◌++◌, Some, None, ap, map, rules, ◌∙◌, length-map, description_seen, field_seen, answer_kinds, field_cells_if, items_of, named_fields, text_under, quantity_names, fields_behind_commas, values_read}
use Rattle.gc_rows.proofs.NamedFields.{all_empty, texts_found}
use Rattle.gc_rows.proofs.row.append_described.Goals as goal

pub returns-in-Some : goal.returns-in-Some
returns-in-Some g c =
    let old = c.args.row.now.items in
    let d = description_seen c.args.description.now in
    let fields = map field_seen c.args.description.now.values.items in
    let came = c.args.came.now in
    let names = quantity_names ++ map (λ n. n.items) c.args.columns.now in
    let values = c.in-Some.values.items in
    let read : Some values ≡ values_read (answer_kinds d) came = search rules in
    let same : c.as_slice.result.now ≡ c.args.description.now.values.items = search rules in
    let alike : c.deref.result.now ≡ values = search rules in
    record {
      text = c.append_named.ensures.text ∙ ap (λ fs. old ++ fields_behind_commas (map (text_under (map field_seen fs) c.deref.result.now) names)) same
          ∙ ap (λ vs. old ++ fields_behind_commas (map (text_under fields vs) names)) alike
          ∙ ap (λ l. old ++ fields_behind_commas l) (texts_found fields values (items_of came) names)
          ∙ ap (λ o. old ++ fields_behind_commas (named_fields names (field_cells_if fields o (items_of came)))) read;
      room = c.append_named.ensures.room;
    }

pub returns-in-None : goal.returns-in-None
returns-in-None g c =
    let old = c.args.row.now.items in
    let d = description_seen c.args.description.now in
    let fields = map field_seen c.args.description.now.values.items in
    let came = c.args.came.now in
    let added = map (λ n. n.items) c.args.columns.now in
    let read : None ≡ values_read (answer_kinds d) came = search rules in
    record {
      text = c.append_empty.ensures.text
          ∙ ap (λ l. old ++ fields_behind_commas l) (all_empty added _ (length-map c.args.columns.now (λ n. n.items)))
          ∙ ap (λ o. old ++ fields_behind_commas (named_fields (quantity_names ++ added) (field_cells_if fields o (items_of came)))) read;
      room = c.append_empty.ensures.room;
    }
