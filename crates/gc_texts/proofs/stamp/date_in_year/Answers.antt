use Rattle.gc_texts.proofs.Common.{refl, subst, arith, ◌≤◌, ◌<◌}
use Rattle.gc_texts.proofs.Dates.{calendar_date, within_year_from_january, before_december, from_next_month, within_year_from_next_month, day_in_month}
use Rattle.gc_texts.proofs.stamp.date_in_year.Goals as goal

pub loop-left-init : goal.loop-left-init
loop-left-init c = record { passed = refl; low = omega arith; high = omega arith; part = within_year_from_january c.args.year c.args.days c.requires }

pub loop-left-preserved : goal.loop-left-preserved
loop-left-preserved c =
    let whole = subst (λ n. n ≤ c.loop-left.left) c.month_days.ensures.value c.loop-left-test.true in
    let kept = c.loop-left.invariant in
    let below = before_december c.args.year c.loop-left.month c.loop-left.left kept.high kept.part whole in
    rw c.month_days-left.ensures.value (record {
      passed = from_next_month c.args.year c.loop-left.month c.args.days c.loop-left.left (calendar_date c.args.year 1 1) below whole kept.passed;
      low = omega arith;
      high = omega (arith, below);
      part = within_year_from_next_month c.args.year c.loop-left.month c.loop-left.left kept.low whole kept.part;
    })

pub returns-clause-date : goal.returns-clause-date
returns-clause-date c =
    day_in_month c.args.year c.loop-left.month c.args.days c.loop-left.left (calendar_date c.args.year 1 1) (subst (λ n. c.loop-left.left < n) c.month_days.ensures.value c.loop-left-test.false)
    c.loop-left.invariant.passed
