use Rattle.gc_links.proofs.Common.{open_act, act_of, signals_at}
use Rattle.gc_links.proofs.Seeing.{same_then, open_same}
use Rattle.gc_links.proofs.watched.WatchedLink.open.Goals as goal

pub invariant_of-self : goal.invariant_of-self
invariant_of-self g c =
    let w = c.args.self.now in
    let signals = signals_at w.signals in
    record {
      seen =
          same_then signals w.files.items w.began (open_act c.open-opened.result) (act_of c.note_of_open.result) w.seen c.open-opened.ensures
          (open_same signals w.files.items w.began c.open-opened.result) c.then-self.ensures c.note_of_open.ensures;
    }
