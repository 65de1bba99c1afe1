use Rattle.gc_texts.proofs.Common.{rules, ◌<◌, get_or, length, AddsFilesOf}
use Rattle.gc_texts.proofs.FilesOf.{one_task_passed}
use Rattle.gc_texts.proofs.tasks.Tasks.files.Goals as goal

pub loop-task-preserved : goal.loop-task-preserved
loop-task-preserved c =
    let tasks = c.as_slice-tasks.result.now in
    let i = c.loop-task.task-index in
    let below : i < length tasks = c.loop-task-test.true in
    let adds : AddsFilesOf (get_or tasks i c.task-item.result) c.loop-task.files.items c.append_files.new.files.items = search rules in
    one_task_passed tasks i c.task-item.result c.loop-task.files.items c.append_files.new.files.items below c.loop-task.invariant adds
