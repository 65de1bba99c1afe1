use Rattle.gc_ask.proofs.Common.{ℕ, List, [], ◌++◌, drop, ◌∙◌, subst, arith, length-append, append-nil, Ok, Err, Consumes, Consumes-trans, heard_by, source_of}
use Rattle.gc_ask.proofs.Ends.{ends_then}
use Rattle.gc_ask.proofs.FirstReplies.{reading_more, reading_quiet, reading_settles}
use Rattle.gc_ask.proofs.client_end.ClientEnd.hear_reply.Goals as goal

pub returns-in-Some-clause-hears : goal.returns-in-Some-clause-hears
returns-in-Some-clause-hears g c =
    let h = c.loop-used.invariant.heard in (
      h.0,
      h.1,
      h.2,
      λ rest s.
          let r = h.3 rest s in
          rw (c.advance.ensures) (reading_settles (heard_by c.listen.new.self rest c.loop-used.ahead (drop c.in-Some.used c.loop-used.ahead))
          r (rw (c.left.ensures) at (c.in-Some.ensures.listens _ r.quiet.stands))),
    )

pub returns-in-Err : goal.returns-in-Err
returns-in-Err g c =
    let before = c.loop-used.invariant in
    let h = before.heard in
    let next = c.in-Err.ensures in
    let read = next.more in
    let first = g.L.AskedLink.client c.args.link.now in
    let now = g.L.AskedLink.client c.read.new.self in
    record {
      hears = (
        h.0,
        subst (λ (xs : List ℕ). Consumes first.remaining now.remaining xs) (append-nil h.0) (Consumes-trans _ _ _ h.0 [] h.1 read.gave),
        omega (arith, h.2, read.grows, before.grows),
        λ rest s.
            let r = h.3 rest s in
            reading_quiet r (rw (c.left.ensures) at (c.in_default.ensures.listens _ r.quiet.stands)),
      );
      grows = omega (arith, before.grows, read.grows);
      reads = omega (arith, before.reads, read.reads);
      ends = ends_then (source_of first) (source_of (g.L.AskedLink.client c.loop-used.link)) (source_of now) c.loop-used.reads c.read.new.reads (Err c.in-Err.fault)
          before.grows read.grows ((before.going, before.same), before.failed) read.ends;
      only = ((next.only.0 ∙ before.only.0.0, next.only.1 ∙ before.only.0.1), next.instrument ∙ before.only.1, next.held ∙ before.only.2);
    }

pub loop-used-preserved : goal.loop-used-preserved
loop-used-preserved g c =
    let before = c.loop-used.invariant in
    let h = before.heard in
    let next = c.in_default-read.ensures in
    let read = next.more in
    let ends = ends_then (source_of (g.L.AskedLink.client c.args.link.now)) (source_of (g.L.AskedLink.client c.loop-used.link)) (source_of (g.L.AskedLink.client c.read.new.self))
    c.loop-used.reads c.read.new.reads (Ok tt) before.grows read.grows ((before.going, before.same), before.failed) read.ends in
    record {
      heard = (
        h.0 ++ c.read.new.ahead,
        Consumes-trans _ _ _ h.0 c.read.new.ahead h.1 read.gave,
        omega (arith, h.2, length-append h.0 c.read.new.ahead, read.few, read.grows, before.grows),
        λ rest s.
            let r = h.3 rest s in
            reading_more c.read.new.ahead r (rw (c.left.ensures) at (c.in_default.ensures.listens _ r.quiet.stands)),
      );
      reads = omega (arith, before.reads, read.reads);
      grows = omega (arith, before.grows, read.grows);
      going = ends.0.0;
      same = ends.0.1;
      failed = ends.1;
      only = ((next.only.0 ∙ before.only.0.0, next.only.1 ∙ before.only.0.1), next.instrument ∙ before.only.1, next.held ∙ before.only.2);
    }
