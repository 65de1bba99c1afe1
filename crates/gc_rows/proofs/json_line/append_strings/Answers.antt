use Rattle.gc_rows.proofs.Common.{rules, suc, ◌≡◌, ◌≤◌, ◌<◌, ◌+◌, ◌*◌, ◌++◌, length, get_or, take, drop, [], ap, arith, le_trans, ◌∙◌, nat_lt, lt-ltb, array_vec_len, STRINGS_ROOM, string_text, strings_text, total_length, total_length_next}
use Rattle.gc_rows.proofs.Items.{first_texts_within}
use Rattle.gc_rows.proofs.JsonLines.{strings_next}
use Rattle.gc_rows.proofs.json_line.append_strings.Goals as goal

pub append_comma-requires : goal.append_comma-requires
append_comma-requires g c =
    let lt : c.loop-k.k < length c.args.texts.now = search rules in
    let below = first_texts_within c.args.texts.now c.loop-k.k lt in
    let few = c.requires.few in
    let short = c.requires.short in
    let room = c.loop-k.invariant.room in
    let fits : array_vec_len c.loop-k.line + 1 ≤ array_vec_len c.args.line.now + STRINGS_ROOM = omega (arith, lt, below, few, short, room) in
    (search rules, le_trans fits c.requires.room)

pub append_string-requires : goal.append_string-requires
append_string-requires g c =
    let lt : c.loop-k.k < length c.args.texts.now = search rules in
    let below = first_texts_within c.args.texts.now c.loop-k.k lt in
    let few = c.requires.few in
    let short = c.requires.short in
    let room = c.loop-k.invariant.room in
    let comma = c.append_comma.ensures.room in
    let same : length c.get.result.now ≡ length (get_or c.args.texts.now c.loop-k.k []) = ap length c.get.ensures in
    let fits : array_vec_len c.append_comma.new.line + 8 * length c.get.result.now + 2 ≤ array_vec_len c.args.line.now + STRINGS_ROOM =
    omega (arith, lt, below, few, short, room, comma, same) in
    (search rules, (omega (arith, below, short, same), le_trans fits c.requires.room))

pub loop-k-preserved : goal.loop-k-preserved
loop-k-preserved g c =
    let texts = c.args.texts.now in
    let k = c.loop-k.k in
    let lt : k < length texts = search rules in
    let on : k + 1 ≡ suc k = omega arith in
    let more = ap (λ n. total_length (take n texts)) on ∙ total_length_next texts k lt in
    let room = c.loop-k.invariant.room in
    let comma = c.append_comma.ensures.room in
    let string = c.append_string.ensures.room in
    let same : length c.get.result.now ≡ length (get_or texts k []) = ap length c.get.ensures in
    let written = c.append_string.ensures.text ∙ ap (λ t. c.append_comma.new.line.items ++ string_text t) c.get.ensures
    ∙ ap (λ l. l ++ string_text (get_or texts k [])) c.append_comma.ensures.text in
    record {
      written = ap (λ l. l ++ strings_text (nat_lt 0 (k + 1)) (drop (k + 1) texts)) written
          ∙ strings_next _ c.loop-k.line.items texts k (nat_lt 0 k) (nat_lt 0 (k + 1)) lt (lt-ltb 0 (k + 1) (omega arith)) c.loop-k.invariant.written;
      room = omega (arith, more, room, comma, string, same);
    }
