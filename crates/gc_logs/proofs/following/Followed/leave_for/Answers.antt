use Rattle.gc_logs.proofs.Common.{ap, ◌∙◌, files_in, steps_in}
use Rattle.gc_logs.proofs.Leaving.{appended_once_left}
use Rattle.gc_logs.proofs.following.Followed.leave_for.Goals as goal

pub returns-clause-same : goal.returns-clause-same
returns-clause-same g c =
    appended_once_left (files_in c.args.self.now.earlier) _ (steps_in c.args.self.now.rows) (steps_in c.replace.new.dest)
    c.then-self.ensures.files (ap (λ r. steps_in r) c.replace.ensures.after ∙ c.requires.fresh)
