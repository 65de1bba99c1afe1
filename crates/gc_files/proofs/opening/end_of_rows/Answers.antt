use Rattle.gc_files.proofs.Common.{rules, ◌≡◌, ◌≤◌, ◌+◌, ◌-◌, length, arith, ◌∙◌, ap, content}
use Rattle.gc_files.proofs.Looking.{block_none, block_some, full_block_size, no_row_before_end}
use Rattle.gc_files.proofs.opening.end_of_rows.Goals as goal

pub returns-then-rows-gt0-clause-end : goal.returns-then-rows-gt0-clause-end
returns-then-rows-gt0-clause-end g c known is =
    let few : c.min-size.result ≤ c.loop-end.end = search rules in
    let size = full_block_size c.min-size.result c.loop-end.buf c.read_all.new.buf (search rules) c.read_all.auto.buf in
    let at = c.loop-end.end - c.min-size.result in
    let ends : at + length c.read_all.new.buf ≡ c.loop-end.end = omega (arith, few, size) in
    ap (λ n. at + n) c.whole_len-rows.ensures.len
    ∙ block_some at (length c.read_all.new.buf) c.loop-end.end (content known) c.read_all.new.buf (c.in_ok-read_all.ensures known is) ends
    (c.loop-end.invariant.none known is) (omega (arith, c.loop-end.invariant.within, c.requires known is))
    (omega (arith, c.if-rows-gt0.true, c.whole_len-rows.ensures.len))

pub loop-end-preserved : goal.loop-end-preserved
loop-end-preserved g c =
    let few : c.min-size.result ≤ c.loop-end.end = search rules in
    let size = full_block_size c.min-size.result c.loop-end.buf c.read_all.new.buf (search rules) c.read_all.auto.buf in
    let at = c.loop-end.end - c.min-size.result in
    let ends : at + length c.read_all.new.buf ≡ c.loop-end.end = omega (arith, few, size) in
    record {
      within = omega (arith, c.loop-end.invariant.within);
      none = λ known is. block_none at (length c.read_all.new.buf) c.loop-end.end (content known) c.read_all.new.buf (c.in_ok-read_all.ensures known is) ends
          (c.loop-end.invariant.none known is) (omega (arith, c.if-rows-gt0.false, c.whole_len-rows.ensures.len));
    }

pub returns-clause-end : goal.returns-clause-end
returns-clause-end g c known is = no_row_before_end (content known) c.loop-end.end c.loop-end-test.false (c.loop-end.invariant.none known is)
