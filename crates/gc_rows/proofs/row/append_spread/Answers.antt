use Rattle.gc_rows.proofs.Common.{◌≡◌, ◌++◌, ◌-◌, ap, rules, length, replicate, ◌∙◌, flat_map, QUANTITIES, value_behind_comma}
use Rattle.gc_rows.proofs.Rows.{spread_text}
use Rattle.gc_rows.proofs.row.append_spread.Goals as goal

pub returns : goal.returns
returns g c =
    let old = c.args.row.now.items in
    let first = c.args.first in
    let values = c.args.values.now in
    let front : c.append_blanks.new.row.items ≡ old ++ replicate first 44 = search rules in
    let some : c.append_values.new.row.items ≡ c.append_blanks.new.row.items ++ flat_map value_behind_comma values = search rules in
    let back : c.append_blanks-2.new.row.items ≡ c.append_values.new.row.items ++ replicate (QUANTITIES - first - length values) 44 = search rules in
    record {
      text = back ∙ ap (λ l. l ++ replicate (QUANTITIES - first - length values) 44) (some ∙ ap (λ l. l ++ flat_map value_behind_comma values) front)
          ∙ spread_text old first values;
      room = search rules;
    }
