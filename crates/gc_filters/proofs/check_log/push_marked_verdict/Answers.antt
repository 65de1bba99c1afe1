use Rattle.gc_filters.proofs.Common.{inl, inr, sym, subst, refl, escaped, IsMarkedVerdict}
use Rattle.gc_texts.specs.declared.log_line.LogMark.{LogMark}
use Rattle.gc_filters.proofs.check_log.push_marked_verdict.Goals as goal

pub returns-in-Went-clause-items : goal.returns-in-Went-clause-items
returns-in-Went-clause-items c =
    let it = c.push_whole.ensures.items in
    let bytes = c.args.bytes.now in record {
      text = it.text;
      appended = it.appended;
      is = elim c.in-Went.is as (λ _. IsMarkedVerdict c.args.mark bytes it.text) [
        | inl went ↦ subst (λ (m : LogMark). IsMarkedVerdict m bytes it.text) (sym went) it.is
        | inr came ↦ subst (λ (m : LogMark). IsMarkedVerdict m bytes it.text) (sym came) it.is
      ];
    }

pub returns-in-Link-clause-items : goal.returns-in-Link-clause-items
returns-in-Link-clause-items c =
    let bytes = c.args.bytes.now in record {
      text = escaped bytes;
      appended = c.append_escaped.ensures.text;
      is = subst (λ (m : LogMark). IsMarkedVerdict m bytes (escaped bytes)) (sym c.in-Link.is) refl;
    }
