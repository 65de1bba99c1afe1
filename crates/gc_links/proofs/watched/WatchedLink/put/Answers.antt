use Rattle.gc_links.proofs.Common.{put_act, act_of, signals_at}
use Rattle.gc_links.proofs.Seeing.{same_then, put_same}
use Rattle.gc_links.proofs.watched.WatchedLink.put.Goals as goal

pub invariant_of-self : goal.invariant_of-self
invariant_of-self g c =
    let w = c.args.self.now in
    let signals = signals_at w.signals in
    record {
      seen =
          same_then signals w.files.items w.began (put_act c.put-put.result c.args.bytes.now) (act_of c.note_of_put.result) w.seen c.put-put.ensures.tells
          (put_same signals w.files.items w.began c.put-put.result c.args.bytes.now) c.then-self.ensures c.note_of_put.ensures;
    }
