use Rattle.gc_files.proofs.Looking.{whole_to_last_feed, no_row_without_feed}
use Rattle.gc_files.proofs.opening.whole_len.Goals as goal

pub returns-in-Some-clause-len : goal.returns-in-Some-clause-len
returns-in-Some-clause-len c = whole_to_last_feed c.args.block.now c.in-Some.last c.in-Some.ensures

pub returns-in-None-clause-len : goal.returns-in-None-clause-len
returns-in-None-clause-len c = no_row_without_feed c.args.block.now c.in-None.ensures
