use Rattle.gc_rows.proofs.Common.{length}
use Rattle.gc_rows.proofs.json_line.+without_zeros.Given as goal

-- each call is for fewer digits
abbrev pub decreases-without_zeros : goal.decreases-without_zeros
decreases-without_zeros l = length l.digits.now
