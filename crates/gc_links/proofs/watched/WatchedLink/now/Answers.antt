use Rattle.gc_links.proofs.Common.{subst, clock_act, Makes, act_of, signals_at, IsSeen}
use Rattle.gc_links.proofs.Seeing.{seen_then}
use Rattle.gc_links.proofs.watched.WatchedLink.now.Goals as goal

pub invariant_of-self : goal.invariant_of-self
invariant_of-self g c =
    let w = c.args.self.now in
    let signals = signals_at w.signals in
    record {
      seen =
          seen_then signals w.files.items w.began (clock_act c.now-told.result) (act_of c.note_of_clock.result) (clock_act c.see_clock-told.result) w.seen
          c.now-told.ensures
          (subst (λ fs. Makes w.system.calls.made c.see_clock-told.new.system.calls.made (λ look. IsSeen signals fs (clock_act c.now-told.result) look (clock_act c.see_clock-told.result)))
          c.as_slice.ensures.value c.see_clock-told.ensures) c.then-self.ensures c.note_of_clock.ensures;
    }
