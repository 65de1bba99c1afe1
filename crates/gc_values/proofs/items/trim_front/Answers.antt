use Rattle.gc_values.proofs.Common.{length, rules, arith, drop-length, take_rest}
use Rattle.gc_values.proofs.Trimming.{trims_front_at, trims_front_all}
use Rattle.gc_values.proofs.items.trim_front.Goals as goal

pub returns-then-byte-ne32 : goal.returns-then-byte-ne32
returns-then-byte-ne32 c = rw (take_rest c.args.text.now c.loop-i.i) (trims_front_at c.args.text.now c.loop-i.i (omega arith) c.loop-i.invariant (search rules))

pub returns : goal.returns
returns c = rw (take_rest c.args.text.now (length c.args.text.now), drop-length c.args.text.now) (trims_front_all c.args.text.now c.loop-i.i (omega arith) c.loop-i.invariant)
