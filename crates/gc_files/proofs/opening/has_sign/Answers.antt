use Rattle.gc_files.proofs.Common.{rules, ◌≤◌, ◌+◌, length, take, drop, arith, ◌∙◌, ap, sym, refl, length-drop, true≢false, content}
use Rattle.std.proofs.lemmas.Bool.Decides.{Decides-eqb}
use Rattle.std.proofs.lemmas.Slice.Eq.{slice_eq-Decides}
use Rattle.gc_files.proofs.Looking.{same_piece_fits_on, other_piece_fits_not, all_looked_at_fits, full_block_size}
use Rattle.gc_files.proofs.opening.has_sign.Goals as goal

pub returns-then-not-starts_with : goal.returns-then-not-starts_with
returns-then-not-starts_with g c known is =
    let size = full_block_size c.min-size.result c.loop-at.buf c.read_all.new.buf (search rules) c.read_all.auto.buf in
    let few : c.min-size.result ≤ length c.bytes_from-rest.result.now = search rules in
    let room : c.loop-at.at + c.min-size.result ≤ c.args.len = search rules in
    c.loop-at.invariant.same known is
    ∙ other_piece_fits_not c.loop-at.at (length c.read_all.new.buf) c.args.sign.now (content known) c.bytes_from-rest.result.now c.bytes_from-rest.ensures
    (omega (arith, size, few)) (omega (arith, size, room, c.requires known is))
    (λ same. true≢false (sym ((slice_eq-Decides Decides-eqb _ _ _ c.if-not-starts_with.ensures.value).1 (c.in_ok-read_all.ensures known is ∙ sym same))))

pub loop-at-preserved : goal.loop-at-preserved
loop-at-preserved g c =
    let size = full_block_size c.min-size.result c.loop-at.buf c.read_all.new.buf (search rules) c.read_all.auto.buf in
    let few : c.min-size.result ≤ length c.bytes_from-rest.result.now = search rules in
    let room : c.loop-at.at + c.min-size.result ≤ c.args.len = search rules in
    record {
      sign = omega (arith, few, ap length c.bytes_from-rest.ensures, length-drop c.loop-at.at c.args.sign.now, c.loop-at-test.true);
      len = room;
      same = λ known is. c.loop-at.invariant.same known is
          ∙ same_piece_fits_on c.loop-at.at c.min-size.result c.args.sign.now (content known) c.bytes_from-rest.result.now c.bytes_from-rest.ensures
          (ap (λ n. take n c.bytes_from-rest.result.now) (sym size)
          ∙ sym ((slice_eq-Decides Decides-eqb _ _ _ c.if-not-starts_with.ensures.value).0 refl)
          ∙ c.in_ok-read_all.ensures known is ∙ ap (λ n. take n (drop c.loop-at.at (content known))) size);
    }

pub returns-else-at-len : goal.returns-else-at-len
returns-else-at-len g c known is = c.loop-at.invariant.same known is ∙ all_looked_at_fits c.loop-at.at _ _ (omega (arith, c.if-at-len.false, c.requires known is))
