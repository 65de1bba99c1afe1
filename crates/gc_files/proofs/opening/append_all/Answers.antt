use Rattle.gc_files.proofs.Common.{ap, arith, length, length-drop}
use Rattle.gc_files.proofs.Looking.{puts_next, puts_front}
use Rattle.gc_files.proofs.opening.append_all.Goals as goal

pub loop-done-preserved : goal.loop-done-preserved
loop-done-preserved g c = record {
  within = omega (arith, c.loop-done.invariant.within, c.in-Ok.ensures.count.1, ap length c.bytes_from.ensures, length-drop c.loop-done.done c.args.bytes.now);
  puts = puts_next _ _ _ c.args.bytes.now c.bytes_from.result.now c.loop-done.done c.in-Ok.n c.bytes_from.ensures c.loop-done.invariant.puts c.in-Ok.ensures.step;
}

pub returns-in-Err-clause-err : goal.returns-in-Err-clause-err
returns-in-Err-clause-err g c = puts_front _ _ _ c.args.bytes.now c.loop-done.done c.loop-done.invariant.puts c.in-Err.ensures.step
