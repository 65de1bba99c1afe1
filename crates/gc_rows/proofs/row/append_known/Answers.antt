use Rattle.gc_rows.proofs.Common.{◌<◌, ◌++◌, ap, map, rules, ◌∙◌, field_seen, text_under, quantity_names, behind_comma, fields_behind_commas}
use Rattle.gc_rows.proofs.NamedFields.{one_more_known}
use Rattle.gc_rows.proofs.row.append_known.Goals as goal

pub loop-column-preserved : goal.loop-column-preserved
loop-column-preserved g c =
    let text = text_under (map field_seen c.args.fields.now) c.args.values.now in
    let lt : c.loop-column.column < 24 = search rules in
    let old = c.loop-column.row.items in
    record {
      written = one_more_known text c.append_value_under.new.row.items old (c.args.row.now.items ++ fields_behind_commas (map text quantity_names)) c.loop-column.column lt
          (c.append_value_under.ensures.text ∙ ap (λ name. old ++ behind_comma (text name)) c.quantity_name.ensures.is) c.loop-column.invariant.written;
      room = search rules;
    }
