use Rattle.gc_rows.proofs.Common.{◌≡◌, ◌++◌, ap, rules, sym, ◌∙◌, codes, stamp_text, members_in, members_of, cells_in, entry_seen, first_columns, item_content, last_columns, quantity_cells, member_text, members_text, string_text}
use Rattle.gc_rows.proofs.Rows.{three_written}
use Rattle.gc_rows.proofs.Spreading.{members_apart}
use Rattle.gc_rows.proofs.json_line.json_line.Goals as goal

pub returns : goal.returns
returns c =
    let r = entry_seen c.args.ended in
    let first = members_of (cells_in first_columns r) in
    let answer = members_of (quantity_cells r) ++ members_in (codes "items") (item_content r) in
    let last = members_of (cells_in last_columns r) in
    let front = codes "{\"run\":" ++ string_text (stamp_text r.when.run) in
    let begun : c.append_string.new.line.items ≡ front = search rules in
    c.append-2.ensures ∙ ap (λ l. l ++ codes "}\n") (c.append_cells-2.ensures.text
    ∙ ap (λ cells. c.append_quantities.new.line.items ++ members_text (members_of cells)) c.last_cells.ensures.is
    ∙ ap (λ l. l ++ members_text last) (c.append_quantities.ensures.text
    ∙ ap (λ l. l ++ members_text answer) (c.append_cells.ensures.text
    ∙ ap (λ cells. c.append_string.new.line.items ++ members_text (members_of cells)) c.first_cells.ensures.is
    ∙ ap (λ l. l ++ members_text first) begun))
    ∙ three_written member_text front first answer last
    ∙ ap (λ l. front ++ members_text l) (sym (members_apart r)))
