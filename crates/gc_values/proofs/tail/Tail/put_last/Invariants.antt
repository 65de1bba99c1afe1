use Rattle.gc_values.proofs.Common.{◌≡◌, ◌++◌, ◌/◌, ◌^◌, ◌≤◌, ◌-◌, last_digits}
use Rattle.gc_values.proofs.tail.Tail.put_last.Given as goal

abbrev pub invariant-loop-done : goal.invariant-loop-done
invariant-loop-done l = record {
  digits : l.self ≡ last_digits l.done l.n ++ l.fn.self;
  rest : l.rest ≡ l.n / 10 ^ l.done;
  few : l.done ≤ l.count;
}

abbrev pub decreases-loop-done : goal.decreases-loop-done
decreases-loop-done l = l.count - l.done
