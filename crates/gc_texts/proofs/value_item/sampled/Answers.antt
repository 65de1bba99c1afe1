use Rattle.gc_texts.proofs.Common.{rules, ◌≡◌, ◌<◌, length, None, ap, ◌∙◌, with_params, raw_bytes, filled, sampled, samples}
use Rattle.gc_texts.proofs.ValueForms.{too_many}
use Rattle.gc_texts.proofs.value_item.sampled.Goals as goal

pub returns-in_err-params : goal.returns-in_err-params
returns-in_err-params c =
    let raw = c.args.raw.now in
    let many : 503 < length (filled samples (raw_bytes raw.params)) = search rules in
    let none : sampled raw ≡ None = too_many raw (filled samples (raw_bytes raw.params)) many in
    search rules

pub returns : goal.returns
returns c =
    let full : c.deref.result.now ≡ filled samples (raw_bytes c.args.raw.now.params) = search rules in
    c.with_params.ensures ∙ ap (with_params c.args.raw.now) full
