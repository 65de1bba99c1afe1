use Rattle.gc_files.proofs.Common.{refl}
use Rattle.gc_files.proofs.Remembering.{holds_after_call, made_step}
use Rattle.gc_files.proofs.memory_file.make_call.Goals as goal

pub returns-in-Ok-clause-same : goal.returns-in-Ok-clause-same
returns-in-Ok-clause-same c start was = holds_after_call start c.args.calls.now.items _ c.args.call c.args.bytes.now.items _ c.args.next.items c.in-Ok.ensures.items refl c.requires was

pub returns-in-Ok-clause-step : goal.returns-in-Ok-clause-step
returns-in-Ok-clause-step c start = made_step start c.args.calls.now.items _ c.args.call c.in-Ok.ensures.items
