use Rattle.gc_texts.proofs.Common.{◌<◌, ◌≤◌, length, map, sym, ◌∙◌, arith, field_seen, place_named}
use Rattle.gc_texts.proofs.FormReadings.{placed_behind, placed_here, placed_nowhere, uncounted}
use Rattle.gc_texts.proofs.form.place_named.Goals as goal

pub loop-k-init : goal.loop-k-init
loop-k-init c = uncounted (place_named c.args.name.now (map field_seen c.args.fields.now))

pub returns-then-has_name : goal.returns-then-has_name
returns-then-has_name c =
    let below : c.loop-k.k < length c.args.fields.now = omega arith in
    placed_here c.args.name.now c.args.fields.now c.loop-k.k c.index-fields-k.result c.loop-k.invariant below c.index-fields-k.is (sym c.has_name.ensures ∙ c.if-has_name.true)

pub loop-k-preserved : goal.loop-k-preserved
loop-k-preserved c =
    let below : c.loop-k.k < length c.args.fields.now = omega arith in
    placed_behind c.args.name.now c.args.fields.now c.loop-k.k c.index-fields-k.result c.loop-k.invariant below c.index-fields-k.is (sym c.has_name.ensures ∙ c.if-has_name.false)

pub returns : goal.returns
returns c =
    let past : length c.args.fields.now ≤ c.loop-k.k = omega arith in
    placed_nowhere c.args.name.now c.args.fields.now c.loop-k.k c.loop-k.invariant past
