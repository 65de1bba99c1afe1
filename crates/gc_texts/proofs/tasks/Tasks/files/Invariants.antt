use Rattle.gc_texts.proofs.FilesOf.{FilesSoFar}
use Rattle.gc_texts.proofs.tasks.Tasks.files.Given as goal

-- the files of the tasks before this one were appended
abbrev pub invariant-loop-task : goal.invariant-loop-task
invariant-loop-task l = FilesSoFar l.tasks l.task-index l.files.items
