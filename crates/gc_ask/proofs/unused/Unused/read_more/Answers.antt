use Rattle.gc_ask.proofs.Common.{◌≡◌, [], ◌∙◌, Ok, not, refl, sym, ap, arith, Consumes-kept, Consumes-nil}
use Rattle.gc_ask.proofs.unused.Unused.read_more.Goals as goal

pub returns-then-reads-eq0 : goal.returns-then-reads-eq0
returns-then-reads-eq0 g c = record {
  gave = Consumes-nil _;
  few = omega arith;
  ends = ((λ some. absurd (omega (arith, some)), λ _. refl), c.if-reads-eq0.true, refl);
  reads = refl;
  grows = omega arith;
  spends = tt;
}

pub returns-in_default : goal.returns-in_default
returns-in_default g c =
    let read = c.in_default.ensures.bytes in
    record {
      gave = Consumes-kept _ _ _ _ (Consumes-nil _) read.0;
      few = omega arith;
      ends = ((λ some. absurd (omega (arith, some, read.1)), λ _. read.2), omega (arith, c.if-reads-eq0.false), c.in_default.ensures.fails);
      reads = omega (arith, read.1);
      grows = omega (arith, read.1);
      spends = tt;
    }

pub returns-then-not-more : goal.returns-then-not-more
returns-then-not-more g c =
    let ended : c.read.new.self ≡ [] = c.in-Ok.ensures.end (ap Ok c.if-not-more.true) in
    let read = c.in-Ok.ensures.bytes in
    let fails = c.in-Ok.ensures.fails in
    record {
      gave = (rw ended at c.in-Ok.ensures.bytes.0);
      few = omega arith;
      ends = (omega (arith, read.1), read.2 ∙ ap not c.if-not-more.true, fails.1 ∙ sym fails.0);
      reads = omega (arith, read.1, c.if-reads-eq0.false);
      grows = omega (arith, read.1);
      spends = tt;
    }

pub returns : goal.returns
returns g c =
    let read = c.in-Ok.ensures.bytes in
    let fails = c.in-Ok.ensures.fails in
    record {
      gave = read.0;
      few = omega (arith, c.in-Ok.ensures.few, read.1);
      ends = ((λ _. read.2 ∙ ap not c.if-not-more.false, λ e. absurd (omega (arith, e, read.1))), fails.1 ∙ sym fails.0);
      reads = omega (arith, read.1, c.if-reads-eq0.false);
      grows = omega (arith, read.1);
      spends = omega (arith, c.if-reads-eq0.false);
    }
