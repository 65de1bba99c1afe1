use Rattle.gc_links.proofs.Common.{subst, read_act, act_of, signals_at, IsSeen}
use Rattle.gc_links.proofs.Seeing.{seen_then}
use Rattle.gc_links.proofs.watched.WatchedLink.read.Goals as goal

pub invariant_of-self : goal.invariant_of-self
invariant_of-self g c =
    let w = c.args.self.now in
    let signals = signals_at w.signals in
    record {
      seen =
          seen_then signals w.files.items w.began (read_act c.read-came.result c.read-came.new.buf) (act_of c.note_of_read.result)
          (read_act c.see_read-came.result c.read-came.new.buf) w.seen c.read-came.ensures.tells
          (record {
            calls = c.see_read-came.ensures.seen.calls;
            added = c.see_read-came.ensures.seen.added;
            are =
                subst (λ fs. IsSeen signals fs (read_act c.read-came.result c.read-came.new.buf) c.see_read-came.ensures.seen.calls (read_act c.see_read-came.result c.read-came.new.buf))
                c.as_slice.ensures.value (c.see_read-came.ensures.seen.are c.read-came.new.buf);
          })
          c.then-self.ensures c.note_of_read.ensures;
    }
