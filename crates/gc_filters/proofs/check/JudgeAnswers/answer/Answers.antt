use Rattle.gc_filters.proofs.Common.{ℕ, List, ◌++◌, ap, ◌∙◌, lent_seen, said_of, verdict_line}
use Rattle.gc_filters.proofs.Checked.{judged_frame, line_of_parts}
use Rattle.gc_filters.proofs.check.JudgeAnswers.answer.Goals as goal

pub returns-clause-answered : goal.returns-clause-answered
returns-clause-answered c = (
  verdict_line c.saturating_add-self.result (said_of (lent_seen c.args.frame) c.in-Some.verdict),
  judged_frame _ _ _ c.in-Some.verdict c.in-Some.ensures c.saturating_add-self.ensures,
  line_of_parts c.saturating_add-self.result (lent_seen c.args.frame) c.in-Some.verdict c.args.text.now.items _ _ _ _ _ c.push_digits.ensures.items c.push.ensures.items c.push_verdict.ensures.items
      (c.append.ensures ∙ ap (λ (xs : List ℕ). c.push_verdict.new.text.items ++ xs) c.frame_remark.ensures.is) c.push-2.ensures.items,
)
