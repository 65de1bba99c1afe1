use Rattle.gc_rows.proofs.Common.{◌≡◌, ◌<◌, ◌≤◌, ◌+◌, ◌*◌, ◌++◌, ◌∷◌, ◌∙◌, [], rules, suc, append-nil, drop, get_or, length, map, take, ap, sym, arith, le_trans, drop-map, drop_all, drop_more, length-map, array_vec_len, total_length, total_length_front, total_length_next, field_seen, OWN_ROOM, VALUES_ROOM, members_of, field_cells, members_text, value_members}
use Rattle.gc_rows.proofs.FieldMembers.{one_more_field}
use Rattle.gc_rows.proofs.Items.{first_texts_within}
use Rattle.gc_rows.proofs.json_line.append_fields.Goals as goal

pub append_value-requires : goal.append_value-requires
append_value-requires g c =
    let came = c.args.came.now in
    let k = c.loop-k.k in
    let lt : k < length c.args.fields.now = search rules in
    let written = c.requires.written in
    let there : k < length came = omega (arith, lt, written) in
    let below = first_texts_within came k there in
    let few = c.requires.few in
    let short = c.requires.short in
    let room = c.loop-k.invariant.room in
    let same : length c.get.result.now ≡ length (get_or came k []) = ap length c.get.ensures in
    let fits : array_vec_len c.loop-k.line + 8 * length c.get.result.now + OWN_ROOM ≤ array_vec_len c.args.line.now + VALUES_ROOM =
    omega (arith, lt, below, few, short, room, same) in
    (search rules, (search rules, (omega (arith, below, short, same), le_trans fits c.requires.room)))

pub loop-k-preserved : goal.loop-k-preserved
loop-k-preserved g c =
    let fields = c.args.fields.now in
    let values = c.args.values.now in
    let came = c.args.came.now in
    let k = c.loop-k.k in
    let f = c.index-fields-k.result in
    let v = c.index-values-k.result in
    let lt : k < length fields = search rules in
    let all = c.requires.all in
    let written = c.requires.written in
    let among : k < length values = omega (arith, lt, all) in
    let there : k < length came = omega (arith, lt, written) in
    let on : k + 1 ≡ suc k = omega arith in
    let field : drop k (map field_seen fields) ≡ field_seen f ∷ drop (k + 1) (map field_seen fields) =
    drop-map field_seen k fields ∙ ap (map field_seen) (drop_more fields k f lt) ∙ ap (λ x. field_seen x ∷ map field_seen (drop (k + 1) fields)) (sym c.index-fields-k.is)
    ∙ ap (λ l. field_seen f ∷ l) (sym (drop-map field_seen (k + 1) fields)) in
    let value : drop k values ≡ v ∷ drop (k + 1) values = drop_more values k v among ∙ ap (λ x. x ∷ drop (k + 1) values) (sym c.index-values-k.is) in
    let old = c.loop-k.line.items in
    let named : c.as_slice.result.now ≡ f.name.items = search rules in
    let new = c.append_value.ensures.text ∙ ap (λ name. old ++ members_text (value_members name v c.get.result.now)) named
    ∙ ap (λ item. old ++ members_text (value_members f.name.items v item)) c.get.ensures in
    let more = ap (λ n. total_length (take n came)) on ∙ total_length_next came k there in
    let room = c.loop-k.invariant.room in
    let own = c.append_value.ensures.room in
    let same : length c.get.result.now ≡ length (get_or came k []) = ap length c.get.ensures in
    record {
      written = one_more_field (map field_seen fields) values came k (field_seen f) v (get_or came k []) field value (drop_more came k [] there)
          c.append_value.new.line.items old (c.args.line.now.items ++ members_text (members_of (field_cells (map field_seen fields) values came))) new c.loop-k.invariant.written;
      room = omega (arith, more, room, own, same);
    }

pub returns : goal.returns
returns g c =
    let fields = c.args.fields.now in
    let came = c.args.came.now in
    let k = c.loop-k.k in
    let line = c.loop-k.line.items in
    let past : length (map field_seen fields) ≤ k = omega (arith, length-map fields field_seen, c.loop-k-test.false) in
    let front = total_length_front came k in
    let few = c.requires.few in
    let short = c.requires.short in
    let end = c.loop-k.auto.k-end in
    let room = c.loop-k.invariant.room in
    record {
      text = sym (append-nil line)
          ∙ ap (λ fs. line ++ members_text (members_of (field_cells fs (drop k c.args.values.now) (drop k came)))) (sym (drop_all k (map field_seen fields) past))
          ∙ c.loop-k.invariant.written;
      room = omega (arith, front, few, short, end, room);
    }
