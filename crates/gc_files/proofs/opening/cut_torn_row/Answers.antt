use Rattle.gc_files.proofs.Common.{rules}
use Rattle.gc_files.proofs.Adding.{cut_and_sync_mend}
use Rattle.gc_files.proofs.opening.cut_torn_row.Goals as goal

pub returns-in_ok-sync-clause-ok : goal.returns-in_ok-sync-clause-ok
returns-in_ok-sync-clause-ok g c known is =
    cut_and_sync_mend _ _ _ known c.args.extent.end c.args.extent.len (search rules) (c.requires.len known is) (c.requires.end known is) c.in_ok-cut.ensures c.in_ok-sync.ensures.step
