use Rattle.gc_rehearsal.proofs.Common.{rules, ◌≡◌, get_or, subst, take_all, AllByRecursion, IsAskable}
use Rattle.gc_values.proofs.Every.{every_more}
use Rattle.gc_rehearsal.proofs.askable.commands_are_askable.Goals as goal

pub loop-task-preserved : goal.loop-task-preserved
loop-task-preserved c =
    let commands = c.args.commands.now in
    let i = c.loop-task.task-index in
    let is : c.task-item.result ≡ get_or commands i c.task-item.result = search rules in
    every_more IsAskable commands i c.task-item.result (search rules) c.loop-task.invariant (subst IsAskable is c.command_is_askable.ensures)

pub returns : goal.returns
returns c = subst (AllByRecursion IsAskable) (take_all c.loop-task.task-index c.args.commands.now (search rules)) c.loop-task.invariant
