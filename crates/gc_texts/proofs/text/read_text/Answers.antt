use Rattle.gc_texts.proofs.Common.{rules, ◌≡◌, ◌+◌, ◌++◌, length, take, Consumes-trans, length_more}
use Rattle.gc_texts.proofs.text.read_text.Goals as goal

pub returns-then-n-len-clause-fault : goal.returns-then-n-len-clause-fault
returns-then-n-len-clause-fault g c =
    let more : length (c.loop-text.text.items ++ take c.in-Ok.n c.read.new.buf) ≡ length c.loop-text.text.items + c.in-Ok.n = length_more _ _ _ (search rules) in (
      c.loop-text.text.items ++ take c.in-Ok.n c.read.new.buf,
      Consumes-trans _ (g.S.Source.remaining c.loop-text.source) _ _ _ c.loop-text.invariant.0 c.in-Ok.ensures.bytes.1,
      search rules,
      search rules,
    )

pub returns-then-is_err-clause-fault : goal.returns-then-is_err-clause-fault
returns-then-is_err-clause-fault g c =
    let more : length (c.loop-text.text.items ++ take c.in-Ok.n c.read.new.buf) ≡ length c.loop-text.text.items + c.in-Ok.n = length_more _ _ _ (search rules) in (
      c.loop-text.text.items ++ take c.in-Ok.n c.read.new.buf,
      Consumes-trans _ (g.S.Source.remaining c.loop-text.source) _ _ _ c.loop-text.invariant.0 c.in-Ok.ensures.bytes.1,
      search rules,
      search rules,
    )
