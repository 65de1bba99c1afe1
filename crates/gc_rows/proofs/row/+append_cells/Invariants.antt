use Rattle.gc_rows.proofs.Common.{length}
use Rattle.gc_rows.proofs.row.+append_cells.Given as goal

-- each call is for fewer cells
abbrev pub decreases-append_cells : goal.decreases-append_cells
decreases-append_cells g l = length l.cells.now
