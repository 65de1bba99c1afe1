use Rattle.gc_values.proofs.Common.{arith}
use Rattle.gc_values.proofs.WrittenLemmas.{digits_put_step, digits_left_have_room}
use Rattle.gc_values.proofs.tail.Tail.put_whole.Goals as goal

pub put-requires-in-loop-rest : goal.put-requires-in-loop-rest
put-requires-in-loop-rest c = digits_left_have_room c.args.self.now c.loop-rest.self c.args.n c.loop-rest.rest c.loop-rest.invariant c.requires.small (omega arith) c.requires.room

pub loop-rest-preserved : goal.loop-rest-preserved
loop-rest-preserved c = digits_put_step _ c.loop-rest.self c.put-in-loop-rest.new.self c.loop-rest.rest (omega arith) c.loop-rest.invariant c.put-in-loop-rest.ensures
