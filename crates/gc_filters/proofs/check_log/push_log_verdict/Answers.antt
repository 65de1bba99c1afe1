use Rattle.gc_filters.proofs.Common.{◌≡◌, ◌≤◌, List, ℕ, length, rules, subst, sym, ◌∙◌, IsLogLine}
use Rattle.gc_filters.specs.LogChecking.{reads}
use Rattle.gc_filters.proofs.check_log.push_log_verdict.Goals as goal

pub returns-in-Some-clause-verdict : goal.returns-in-Some-clause-verdict
returns-in-Some-clause-verdict c = λ rest keeps.
    let whole : rest ≡ c.args.kept.now.bytes.items = keeps.whole c.if-kept.false in
    let same : c.deref.result.now ≡ rest = c.deref.ensures.0 ∙ sym whole in
    let read = subst (λ (l : List ℕ). IsLogLine l c.in-Some.line.moment.now c.in-Some.line.mark c.in-Some.line.bytes.items) same c.in-Some.ensures in
    let it = c.push_line_verdict.ensures.verdict in
    record {
      text = it.text;
      appended = it.appended;
      is = reads c.in-Some.line.moment.now c.in-Some.line.bytes.items c.in-Some.line.mark
          (subst (λ (l : List ℕ). length l ≤ 2100) same c.deref.ensures.1) c.push_line_verdict.ensures.bytes read (search rules) (search rules);
    }
