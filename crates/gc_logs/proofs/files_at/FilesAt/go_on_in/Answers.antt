use Rattle.gc_logs.proofs.Common.{◌≡◌, List, ◌++◌, refl, ap, ◌∙◌, Step, appended, steps_in}
use Rattle.gc_logs.proofs.OnDisk.{appended_three, same_files}
use Rattle.gc_logs.proofs.files_at.FilesAt.go_on_in.Goals as goal

pub returns-clause-files : goal.returns-clause-files
returns-clause-files g c =
    let old = c.args.self.now in
    let steps : c.then-self.result.steps ≡ (old.earlier.steps ++ old.older.steps) ++ steps_in old.rows =
    c.then-self.ensures ∙ ap (λ (s : List Step). s ++ c.past.result.now.steps) c.then-earlier.ensures
    ∙ ap (λ (s : List Step). (old.earlier.steps ++ old.older.steps) ++ s) c.past.ensures.is in
    c.take.ensures.files ∙ same_files (appended_three c.then-self.result.steps old.earlier.steps old.older.steps (steps_in old.rows) steps) (ap appended c.new-self.ensures) refl refl refl
