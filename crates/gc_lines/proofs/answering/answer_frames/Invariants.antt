use Rattle.gc_lines.proofs.Common.{◌≡◌, ◌+◌, ◌*◌, ◌<◌, ◌≤◌, length, false, GaveInReads, progress, NoneWait}
use Rattle.gc_lines.proofs.Given.{HasAnswered}
use Rattle.gc_lines.proofs.answering.answer_frames.Given as goal

abbrev pub invariant-loop : goal.invariant-loop
invariant-loop g l = record {
  so : GaveInReads (g.S.Source.remaining l.initial.source) (g.S.Source.remaining l.source) l.counter
      (HasAnswered g.A.Answers.answers l.session.assembler (progress l.initial.answerer (g.K.Sink.taken l.initial.sink) 0) (progress l.answerer (g.K.Sink.taken l.sink) l.session.replies));
  reads : g.S.Source.reads l.source ≡ g.S.Source.reads l.initial.source + l.counter;
  going : 0 < l.counter → g.S.Source.ended l.source ≡ false;
  source : g.S.Source.failed l.source ≡ g.S.Source.failed l.initial.source;
  sink : g.K.Sink.failed l.sink ≡ g.K.Sink.failed l.initial.sink;
  few : l.session.replies ≤ 256 * l.counter;
  nothing : NoneWait l.session;
  gathers : l.session.gathers ≡ l.fn.gathers;
  room : length l.buf ≡ 256;
}
