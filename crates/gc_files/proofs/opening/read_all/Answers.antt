use Rattle.gc_files.proofs.Common.{rules, arith, ◌∙◌, refl}
use Rattle.gc_files.proofs.Looking.{read_more, length-put}
use Rattle.gc_files.proofs.opening.read_all.Goals as goal

pub loop-done-preserved : goal.loop-done-preserved
loop-done-preserved g c =
    let within = c.loop-done.invariant.within in
    let size = length-put c.loop-done.done _ c.loop-done.buf c.read_at.new.buf within refl (search rules) in
    record {
      within = omega (arith, size, c.in_ok-n.ensures.room, within, c.read_at.auto.buf);
      size = size ∙ c.loop-done.invariant.size;
      bytes = λ known is. read_more c.loop-done.done c.in_ok-n.n c.args.at _ c.loop-done.buf c.read_at.new.buf _ within c.in_ok-n.ensures.room
          (c.loop-done.invariant.bytes known is) (c.in_ok-n.ensures.bytes known is).bytes;
    }
