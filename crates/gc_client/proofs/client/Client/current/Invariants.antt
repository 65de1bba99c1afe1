use Rattle.gc_client.proofs.Common.{◌≡◌, ◌≤◌, take, length, deadlines}
use Rattle.gc_client.proofs.client.Client.current.Given as goal

-- `current` counts those of the first k requests that haven't timed out
abbrev pub invariant-loop-k : goal.invariant-loop-k
invariant-loop-k g l = record {
  counted : l.current ≡ length (deadlines (take l.k l.self.ids.waiting));
  within : l.current ≤ l.k;
}
