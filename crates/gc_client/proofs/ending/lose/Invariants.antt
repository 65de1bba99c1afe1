use Rattle.gc_client.proofs.Common.{◌≡◌, length, map, take, drop, lost, AreSettledBy}
use Rattle.gc_client.proofs.ending.lose.Given as goal

-- the first k requests are settled as lost, and the others wait
abbrev pub invariant-loop-k : goal.invariant-loop-k
invariant-loop-k g l =
    let pendings = g.W.Window.pendings in
    record {
      settled : AreSettledBy g.W.Asked.Asking.says (take l.k l.settled.items) (map lost (take l.k (pendings l.initial.window)));
      left : pendings l.window ≡ drop l.k (pendings l.initial.window);
      places : length l.settled.items ≡ length l.initial.settled.items;
    }
