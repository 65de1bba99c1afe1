use Rattle.gc_rows.proofs.Common.{◌++◌, ap, append_assoc, map, rules, sym, ◌∙◌, flat_map-append, map-append, field_seen, text_under, quantity_names, behind_comma, fields_behind_commas}
use Rattle.gc_rows.proofs.NamedFields.{fields_written}
use Rattle.gc_rows.proofs.row.append_named.Goals as goal

pub returns : goal.returns
returns g c =
    let old = c.args.row.now.items in
    let text = text_under (map field_seen c.args.fields.now) c.args.values.now in
    let names = map (λ n. n.items) c.args.columns.now in
    let known = map text quantity_names in
    record {
      text = c.append_added.ensures.text ∙ ap (λ l. c.append_known.new.row.items ++ l) (fields_written text (λ n. n.items) c.args.columns.now)
          ∙ ap (λ l. l ++ fields_behind_commas (map text names)) c.append_known.ensures.text
          ∙ append_assoc old (fields_behind_commas known) (fields_behind_commas (map text names))
          ∙ ap (λ l. old ++ l) (sym (flat_map-append behind_comma known (map text names)))
          ∙ ap (λ l. old ++ fields_behind_commas l) (sym (map-append text quantity_names names));
      room = search rules;
    }
