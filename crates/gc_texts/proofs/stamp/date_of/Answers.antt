use Rattle.gc_texts.proofs.Common.{◌≤◌, subst, arith}
use Rattle.gc_texts.proofs.Dates.{calendar_date, from_next_year, year_has_days}
use Rattle.gc_texts.proofs.stamp.date_of.Goals as goal

pub loop-left-preserved : goal.loop-left-preserved
loop-left-preserved c =
    let whole = subst (λ n. n ≤ c.loop-left.left) c.year_days.ensures c.loop-left-test.true in
    rw c.year_days-left.ensures (record {
      passed = from_next_year c.loop-left.year c.args.days c.loop-left.left (calendar_date 1970 1 1) whole c.loop-left.invariant.passed;
      year = omega (arith, year_has_days c.loop-left.year, whole, c.loop-left.invariant.year);
    })
