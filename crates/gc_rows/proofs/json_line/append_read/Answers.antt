use Rattle.gc_rows.proofs.Common.{◌≡◌, ◌≤◌, ◌++◌, ◌∙◌, Some, None, Err, rules, length, map, ap, sym, arith, length-map, total_length, items_within_params, description_seen, field_seen, members_of, answer_kinds, field_cells, members_text, values_of_items, values_read}
use Rattle.gc_rows.proofs.Items.{few_are_split, items_are_the_grammars, refused_is_none}
use Rattle.gc_rows.proofs.ReadCounts.{read_counts}
use Rattle.gc_rows.proofs.json_line.append_read.Goals as goal

pub append_fields-requires : goal.append_fields-requires
append_fields-requires g c =
    let came = c.args.came.now in
    let fields = c.args.description.now.values.items in
    let items = c.in-Ok.items in
    let kinds = answer_kinds (description_seen c.args.description.now) in
    let same : c.as_slice.result.now ≡ fields = search rules in
    let alike : length c.as_slice.result.now ≡ length fields = ap length same in
    let many : length kinds.kinds ≡ length fields = length-map (map field_seen fields) (λ f. f.kind) ∙ length-map fields field_seen in
    let counts = read_counts kinds came items c.args.values.now (few_are_split came items c.in-Ok.ensures.found.0 c.in-Ok.ensures.found.1) c.requires.read in
    let fit = items_within_params came items c.in-Ok.ensures.found.0 in
    let short = c.requires.short in
    let within : total_length items ≤ 512 = omega (arith, fit, short) in
    let few : length c.as_slice.result.now ≤ 16 = search rules in
    let all : length c.args.values.now ≡ length c.as_slice.result.now = counts.0 ∙ many ∙ sym alike in
    let written : length c.as_slice.result.now ≤ length items = omega (arith, alike, many, counts.1) in
    (search rules, (few, (all, (written, (within, c.requires.room)))))

pub returns-in-Ok : goal.returns-in-Ok
returns-in-Ok g c =
    let old = c.args.line.now.items in
    let came = c.args.came.now in
    let fields = c.args.description.now.values.items in
    let items = c.in-Ok.items in
    let values = c.args.values.now in
    let same : c.as_slice.result.now ≡ fields = search rules in
    record {
      text = c.append_fields.ensures.text ∙ ap (λ fs. old ++ members_text (members_of (field_cells (map field_seen fs) values items))) same
          ∙ ap (λ is. old ++ members_text (members_of (field_cells (map field_seen fields) values is))) (sym (items_are_the_grammars came items c.in-Ok.ensures.found.0));
      room = c.append_fields.ensures.room;
    }

pub returns-in-Err : goal.returns-in-Err
returns-in-Err g c =
    let kinds = answer_kinds (description_seen c.args.description.now) in
    let none = refused_is_none c.args.came.now c.in-Err.field-0 c.in-Err.ensures.faults (λ e. c.in-Err.ensures.open_quote.0 (ap Err e)) (λ e. c.in-Err.ensures.too_many.0 (ap Err e)) in
    let unread : values_read kinds c.args.came.now ≡ None = ap (values_of_items kinds) none in
    let both : None ≡ Some c.args.values.now = sym unread ∙ c.requires.read in
    absurd (cc)
