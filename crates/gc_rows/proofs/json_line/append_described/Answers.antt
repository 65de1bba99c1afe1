use Rattle.gc_rows.proofs.Common.{◌≡◌, ◌++◌, ◌∙◌, Some, None, rules, append-nil, map, ap, sym, arith, description_seen, field_seen, members_of, answer_kinds, field_cells, field_cells_if, items_of, members_text, values_read}
use Rattle.gc_rows.proofs.json_line.append_described.Goals as goal

pub append_read-requires : goal.append_read-requires
append_read-requires g c =
    let kinds = answer_kinds (description_seen c.args.description.now) in
    let values = c.in-Some.values.items in
    let read : Some values ≡ values_read kinds c.args.came.now = search rules in
    let same : c.deref.result.now ≡ values = search rules in
    (search rules, (sym read ∙ ap Some (sym same), (c.requires.short, c.requires.room)))

pub returns-in-Some : goal.returns-in-Some
returns-in-Some g c =
    let old = c.args.line.now.items in
    let came = c.args.came.now in
    let kinds = answer_kinds (description_seen c.args.description.now) in
    let fields = map field_seen c.args.description.now.values.items in
    let values = c.in-Some.values.items in
    let read : Some values ≡ values_read kinds came = search rules in
    let same : c.deref.result.now ≡ values = search rules in
    record {
      text = c.append_read.ensures.text ∙ ap (λ vs. old ++ members_text (members_of (field_cells fields vs (items_of came)))) same
          ∙ ap (λ o. old ++ members_text (members_of (field_cells_if fields o (items_of came)))) read;
      room = c.append_read.ensures.room;
    }

pub returns-in-None : goal.returns-in-None
returns-in-None g c =
    let old = c.args.line.now.items in
    let came = c.args.came.now in
    let kinds = answer_kinds (description_seen c.args.description.now) in
    let fields = map field_seen c.args.description.now.values.items in
    let read : None ≡ values_read kinds came = search rules in
    record {
      text = sym (append-nil old) ∙ ap (λ o. old ++ members_text (members_of (field_cells_if fields o (items_of came)))) read;
      room = omega arith;
    }
