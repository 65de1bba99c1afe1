use Rattle.gc_lines.proofs.Common.{◌≡◌, ◌≤◌, ◌-◌, length, take, Appends}
use Rattle.gc_lines.proofs.writing.write_whole.Given as goal

abbrev pub invariant-loop-at : goal.invariant-loop-at
invariant-loop-at g l = record {
  within : l.at ≤ length l.bytes;
  took : Appends (g.K.Sink.taken l.initial.sink) (g.K.Sink.taken l.sink) (take l.at l.bytes);
  failed : g.K.Sink.failed l.sink ≡ g.K.Sink.failed l.initial.sink;
}

abbrev pub decreases-loop-at : goal.decreases-loop-at
decreases-loop-at g l = length l.bytes - l.at
