use Rattle.gc_values.proofs.Common.{arith, ap, ◌∙◌, length, length-append, ◌/◌, last_digits}
use Rattle.gc_values.proofs.WrittenLemmas.{last_digits_put_step, div_pow_ten, length-last_digits}
use Rattle.gc_values.proofs.tail.Tail.put_last.Goals as goal

pub put-requires : goal.put-requires
put-requires c =
    let l = c.loop-done in
    omega (arith, ap length l.invariant.digits, length-append (last_digits l.done c.args.n) c.args.self.now, length-last_digits l.done c.args.n, c.requires)

pub loop-done-preserved : goal.loop-done-preserved
loop-done-preserved c =
    let l = c.loop-done in
    record {
      digits = last_digits_put_step c.args.self.now l.self c.put.new.self c.args.n l.done l.rest l.invariant.digits l.invariant.rest c.put.ensures;
      rest = ap (λ x. x / 10) l.invariant.rest ∙ div_pow_ten c.args.n l.done;
      few = omega arith;
    }
