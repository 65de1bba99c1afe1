use Rattle.gc_client.proofs.Common.{◌≡◌, ◌≤◌, length, take, expiring}
use Rattle.gc_client.proofs.Expiry.{expired_up_to}
use Rattle.gc_client.proofs.client.Client.expire.Given as goal

-- the first k requests have timed out where their deadlines were reached, and the others are as they were
abbrev pub invariant-loop-k : goal.invariant-loop-k
invariant-loop-k g l =
    let pendings = g.W.Window.pendings in
    record {
      done : pendings l.self-inside.window ≡ expired_up_to l.now l.k l.fn.self.ids.waiting;
      listed : l.targets.items ≡ expiring l.now (take l.k l.fn.self.ids.waiting);
      count : length l.targets.items ≤ l.k;
      next : l.self-inside.next ≡ l.fn.self.ids.next;
      width : l.self-inside.width ≡ l.fn.self.width;
    }
