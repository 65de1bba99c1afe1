use Rattle.gc_logs.proofs.Common.{entries_of_pending, Went, Came}
use Rattle.gc_logs.proofs.LogLines.{takes_both}
use Rattle.gc_logs.proofs.logging.Log.flush.Goals as goal

pub returns : goal.returns
returns g c =
    let both = takes_both (entries_of_pending Went c.args.self.now.went.bytes.items) (entries_of_pending Came c.args.self.now.came.bytes.items)
    c.flush.ensures.took c.flush-2.ensures.took in
    record { took = both.took; went = c.flush.ensures.pending; came = c.flush-2.ensures.pending; utc = both.utc }
