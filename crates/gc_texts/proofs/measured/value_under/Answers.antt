use Rattle.gc_texts.proofs.Common.{◌<◌, ◌≤◌, length, sym, ◌∙◌, arith}
use Rattle.gc_texts.proofs.MeasuredSteps.{found_behind, found_here, found_nowhere}
use Rattle.gc_texts.proofs.measured.value_under.Goals as goal

pub returns-then-has_name : goal.returns-then-has_name
returns-then-has_name c =
    let below : c.loop-k.k < length c.args.fields.now = omega arith in
    c.value_at.ensures
    ∙ sym (found_here c.args.name.now c.args.fields.now c.args.values.now c.loop-k.k c.index-fields-k.result c.loop-k.invariant below c.index-fields-k.is (sym c.has_name.ensures ∙ c.if-has_name.true))

pub loop-k-preserved : goal.loop-k-preserved
loop-k-preserved c =
    let below : c.loop-k.k < length c.args.fields.now = omega arith in
    found_behind c.args.name.now c.args.fields.now c.args.values.now c.loop-k.k c.index-fields-k.result c.loop-k.invariant below c.index-fields-k.is (sym c.has_name.ensures ∙ c.if-has_name.false)

pub returns : goal.returns
returns c =
    let past : length c.args.fields.now ≤ c.loop-k.k = omega arith in
    sym (found_nowhere c.args.name.now c.args.fields.now c.args.values.now c.loop-k.k c.loop-k.invariant past)
