use Rattle.gc_rehearsal.proofs.Asked.{askable_at}
use Rattle.gc_rehearsal.proofs.askable.command_is_askable.Goals as goal

pub returns : goal.returns
returns c = askable_at c.args.task.now c.encode_asked.ensures.fitting
