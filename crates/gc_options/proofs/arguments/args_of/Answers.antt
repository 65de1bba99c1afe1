use Rattle.gc_options.proofs.TableLemmas.{have_next}
use Rattle.gc_options.proofs.arguments.args_of.Goals as goal

pub loop-row-preserved : goal.loop-row-preserved
loop-row-preserved c =
    have_next c.args.table.now c.loop-row.row-index _ c.loop-row-test.true c.loop-row.args.items c.in_ok-arg_of.field-0 c.loop-row.invariant
    c.in_ok-arg_of.ensures c.push.new.self.items c.in_ok-push.ensures.items
