use Rattle.gc_files.proofs.Common.{rules, ◌≤◌, ◌+◌, ◌∙◌, take, drop, ap, arith, content}
use Rattle.gc_files.proofs.Feeds.{puts_block, counts_block, puts_all}
use Rattle.gc_files.proofs.Looking.{full_block_size}
use Rattle.gc_files.proofs.copying.copy_lines.Goals as goal

pub loop-at-preserved : goal.loop-at-preserved
loop-at-preserved g c =
    let size = full_block_size c.min-size.result c.loop-at.buf c.read_all.new.buf (search rules) c.read_all.auto.buf in
    let room : c.loop-at.at + c.min-size.result ≤ c.in_ok-len.len = search rules in
    record {
      within = room;
      few = omega (arith, c.loop-at.invariant.few, c.feeds_in-lines.ensures.within, size);
      puts = λ known is. puts_block _ _ _ c.loop-at.at c.min-size.result (content known) c.read_all.new.buf
          (c.in_ok-read_all.ensures known is ∙ ap (λ n. take n (drop c.loop-at.at (content known))) size)
          (c.loop-at.invariant.puts known is) c.in_ok-append_all.ensures.ok;
      count = λ known is. counts_block c.loop-at.at c.min-size.result (content known) c.read_all.new.buf c.loop-at.lines c.feeds_in-lines.result
          (c.in_ok-read_all.ensures known is ∙ ap (λ n. take n (drop c.loop-at.at (content known))) size)
          (c.loop-at.invariant.count known is) c.feeds_in-lines.ensures.is;
    }

pub returns-clause-copied : goal.returns-clause-copied
returns-clause-copied g c known is =
    puts_all _ _ _ (content known) c.loop-at.at (omega (arith, c.in_ok-len.ensures known is, c.loop-at-test.false, c.loop-at.invariant.within))
    (c.loop-at.invariant.puts known is) c.in_ok-sync.ensures.step
