use Rattle.gc_client.proofs.Common.{take, deadlines, IsEarliest}
use Rattle.gc_client.proofs.client.Client.next_deadline.Given as goal

-- `earliest` is the earliest deadline of the first k requests
abbrev pub invariant-loop-k : goal.invariant-loop-k
invariant-loop-k g l = IsEarliest (deadlines (take l.k l.self.ids.waiting)) l.earliest
