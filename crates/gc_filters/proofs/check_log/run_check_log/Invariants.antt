use Rattle.gc_filters.proofs.Common.{◌≡◌, ◌+◌, ◌*◌, ◌<◌, ◌≤◌, [], length, false, GaveInReads, HasChecked, NoneWait, nothing_known}
use Rattle.gc_filters.proofs.check_log.run_check_log.Given as goal

-- the check is done with all bytes read so far (`HasChecked`), in `counter` reads, at most 256 verdicts for each; the last read, if
-- there was one, wasn't the end; whether a port has failed is as at the start; no
-- text waits; and the buffer has room for 256 bytes
abbrev pub invariant-loop : goal.invariant-loop
invariant-loop g l = record {
  so : GaveInReads (g.S.Source.remaining l.initial.source) (g.S.Source.remaining l.source) l.counter
      (λ given. HasChecked nothing_known l.check [] given (g.K.Sink.taken l.initial.sink) (g.K.Sink.taken l.sink) 0);
  reads : g.S.Source.reads l.source ≡ g.S.Source.reads l.initial.source + l.counter;
  going : 0 < l.counter → g.S.Source.ended l.source ≡ false;
  source : g.S.Source.failed l.source ≡ g.S.Source.failed l.initial.source;
  sink : g.K.Sink.failed l.sink ≡ g.K.Sink.failed l.initial.sink;
  few : l.check.replies ≤ 256 * l.counter;
  nothing : NoneWait l.check;
  room : length l.buf ≡ 256;
}
