use Rattle.gc_texts.proofs.Common.{ap, rules, option_copied, NamesRule, Again}
use Rattle.gc_texts.proofs.ReasonForms.{reason_fails, reasons_too_many, reason_reads, all_reasons_read}
use Rattle.gc_texts.proofs.retry.read_reasons.Goals as goal

pub returns-in_err-reason : goal.returns-in_err-reason
returns-in_err-reason c =
    let none : (found : Again) → NamesRule c.args.text.now found → ⊥ =
    λ found is. reason_fails c.args.text.now c.in-Some.text.now c.cut_at.result.0.now (option_copied c.loop-left.left) (option_copied c.cut_at.result.1) c.loop-left.again c.loop-left.count
    c.loop-left.invariant (ap option_copied c.in-Some.is) c.cut_at.ensures c.in_err-reason.ensures found is in
    search rules

pub returns-then-not-allows_word : goal.returns-then-not-allows_word
returns-then-not-allows_word c found is =
    reasons_too_many c.args.text.now c.in-Some.text.now c.cut_at.result.0.now (option_copied c.loop-left.left) (option_copied c.cut_at.result.1) c.loop-left.again c.loop-left.count
    c.loop-left.invariant (ap option_copied c.in-Some.is) c.cut_at.ensures c.in_ok-reason.reason c.allows_word.result c.in_ok-reason.ensures c.allows_word.ensures c.if-not-allows_word.true found is

pub loop-left-preserved : goal.loop-left-preserved
loop-left-preserved c =
    reason_reads c.args.text.now c.in-Some.text.now c.cut_at.result.0.now (option_copied c.loop-left.left) (option_copied c.cut_at.result.1) c.loop-left.again c.loop-left.count
    c.loop-left.invariant (ap option_copied c.in-Some.is) c.cut_at.ensures c.in_ok-reason.reason c.again_with-again.result c.count_with-count.result c.allows_word.result
    c.in_ok-reason.ensures c.again_with-again.ensures c.count_with-count.ensures c.allows_word.ensures c.if-not-allows_word.false

pub returns : goal.returns
returns c = all_reasons_read c.args.text.now (option_copied c.loop-left.left) c.loop-left.again c.loop-left.count c.loop-left.invariant (ap option_copied c.in_default.is)
