use Rattle.gc_logs.proofs.Common.{List, ◌++◌, refl, ap, ◌∙◌, Step, appended, appended_two}
use Rattle.gc_logs.proofs.OnDisk.{same_files}
use Rattle.gc_logs.proofs.files_at.FilesAt.roll_to.Goals as goal

pub returns-clause-files : goal.returns-clause-files
returns-clause-files g c =
    let old = c.args.self.now in
    c.take.ensures.files ∙ same_files (ap appended c.then-self.ensures ∙ appended_two old.earlier.steps old.older.steps)
    (ap appended (c.then-self-2.ensures ∙ ap (λ (s : List Step). s ++ c.past.result.now.steps) c.new.ensures ∙ c.past.ensures.is)) refl refl c.requires.empty
