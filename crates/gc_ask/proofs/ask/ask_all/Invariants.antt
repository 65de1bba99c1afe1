use Rattle.gc_ask.proofs.Common.{◌≡◌, ◌≤◌, ◌+◌, ◌-◌, ◌*◌, List, ℕ, length, take, Consumes, reads_of, seen_through, ROOM}
use Rattle.gc_ask.proofs.Asked.{Course}
use Rattle.gc_ask.proofs.Ends.{BothSound}
use Rattle.gc_ask.proofs.ask.ask_all.Given as goal

-- the first `place` commands were asked and settled (`Course`), by at most `ROOM` bytes for each read; both ends of the link are
-- sound; the reads that are left are the first number without those made; and neither whether the sink failed nor what the link
-- holds has changed
abbrev pub invariant-loop-place : goal.invariant-loop-place
invariant-loop-place g l = record {
  course : (given : List ℕ) × Consumes (g.L.AskedLink.client l.initial.link).remaining (g.L.AskedLink.client l.link).remaining given
      × (length given ≤ ROOM * ((g.L.AskedLink.client l.link).reads - (g.L.AskedLink.client l.initial.link).reads))
      × Course (take l.place l.commands) (record {
        given = given;
        left = l.asking.ahead;
        kept = l.asking.end.assembler;
        client = l.asking.end.client.ids;
        first = seen_through g.L.AskedLink l.initial.link g.K.Sink l.initial.sink;
        latest = seen_through g.L.AskedLink l.link g.K.Sink l.sink;
      });
  reads : reads_of g.L.AskedLink l.link + l.asking.reads ≡ reads_of g.L.AskedLink l.initial.link + l.max_reads;
  sound : BothSound (seen_through g.L.AskedLink l.initial.link g.K.Sink l.initial.sink) (seen_through g.L.AskedLink l.link g.K.Sink l.sink);
  sink : g.K.Sink.failed l.sink ≡ g.K.Sink.failed l.initial.sink;
  held : g.L.AskedLink.held l.link ≡ g.L.AskedLink.held l.initial.link;
}
