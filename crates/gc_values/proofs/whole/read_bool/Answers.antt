use Rattle.gc_values.proofs.Common.{pos, number_of}
use Rattle.gc_values.proofs.WholeText.{boolean_between}
use Rattle.gc_values.proofs.whole.read_bool.Goals as goal

pub returns-in_err-read_between-clause-only : goal.returns-in_err-read_between-clause-only
returns-in_err-read_between-clause-only c b names =
    let same = c.in_err-read_between.ensures.only (pos (number_of b)) names (boolean_between b) in
    absurd (cc)
