use Rattle.gc_texts.proofs.Common.{rules, ◌≡◌, ◌<◌, length, unwrap_or, ap, sym, ◌∙◌, with_params, raw_bytes, filled}
use Rattle.gc_texts.proofs.ValueForms.{too_many}
use Rattle.gc_texts.proofs.value_item.filled_call.Goals as goal

pub returns-in-Some : goal.returns-in-Some
returns-in-Some c =
    let raw = c.args.raw.now in
    let full : c.deref.result.now ≡ filled c.args.values.now (raw_bytes raw.params) = search rules in
    let got : c.unwrap_or.result ≡ unwrap_or c.with_params.result raw = search rules in
    got ∙ ap (λ o. unwrap_or o raw) (c.with_params.ensures ∙ ap (with_params raw) full)

pub returns-in-None : goal.returns-in-None
returns-in-None c =
    let raw = c.args.raw.now in
    let many : 503 < length (filled c.args.values.now (raw_bytes raw.params)) = search rules in
    sym (ap (λ o. unwrap_or o raw) (too_many raw (filled c.args.values.now (raw_bytes raw.params)) many))
