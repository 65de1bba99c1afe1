use Rattle.gc_links.proofs.Common.{refl, Closed, signals_at}
use Rattle.gc_links.proofs.Seeing.{same_then}
use Rattle.gc_links.proofs.watched.WatchedLink.close.Goals as goal

pub invariant_of-self : goal.invariant_of-self
invariant_of-self g c =
    let w = c.args.self.now in
    let signals = signals_at w.signals in
    record {
      seen =
          same_then signals w.files.items w.began Closed Closed w.seen c.close.ensures (refl, refl) c.then-self.ensures refl;
    }
