use Rattle.gc_files.proofs.Common.{life_by}
use Rattle.gc_files.proofs.Remembering.{kept_once_synced}
use Rattle.gc_files.proofs.memory_file.MemoryFileAppending.sync.Goals as goal

pub returns-in-Ok-clause-durable : goal.returns-in-Ok-clause-durable
returns-in-Ok-clause-durable c trusted known is =
    kept_once_synced (life_by c.args.self.now.start.items c.args.self.now.calls.items) known _ (c.in-Ok.ensures.step c.args.self.now.start.items) is

pub returns-in-Err-clause-step : goal.returns-in-Err-clause-step
returns-in-Err-clause-step c = c.in-Err.ensures.step c.args.self.now.start.items
