use Rattle.gc_logs.proofs.Common.{ap, ◌∙◌, ◌++◌, appended, steps_in, appended_two, steps_before}
use Rattle.gc_logs.proofs.following.Followed.past.Goals as goal

pub returns : goal.returns
returns g c =
    ap appended (c.then.ensures ∙ ap (λ s. s ++ c.past-own.result.now.steps) c.past-before.ensures ∙ ap (λ s. steps_before c.args.self.now ++ s) c.past-own.ensures.is)
    ∙ appended_two (steps_before c.args.self.now) (steps_in c.args.self.now.rows)
