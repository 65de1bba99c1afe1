use Rattle.gc_texts.proofs.Common.{rules, ap, ◌<◌, ◌+◌, ◌*◌, tasks_planned, sendings}
use Rattle.gc_texts.proofs.Laying.{pushes_one}
use Rattle.gc_texts.proofs.attempts.push_attempts.Goals as goal

pub loop-left-preserved : goal.loop-left-preserved
loop-left-preserved c =
    let some : 0 < c.loop-left.left = search rules in
    pushes_one c.args.tasks.now.items c.loop-left.tasks.items c.push_attempt.new.tasks.items c.args.retry (sendings c.args.agree (tasks_planned c.args.chain.now)) c.loop-left.number c.loop-left.left
    (c.commands_in_attempt-commands.result * (c.loop-left.left + 1)) c.loop-left.invariant some
    (ap (λ n. n * (c.loop-left.left + 1)) c.commands_in_attempt-commands.ensures.is) c.in_ok-push_attempt.ensures.appends
