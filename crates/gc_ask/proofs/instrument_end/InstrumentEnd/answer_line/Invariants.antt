use Rattle.gc_ask.proofs.Common.{◌≡◌, ◌+◌, ◌<◌, ◌≤◌, false}
use Rattle.gc_ask.proofs.instrument_end.InstrumentEnd.answer_line.Given as goal

-- the reads that are left are the first number without those made; no read was the end of the stream, and the source has failed
-- exactly if it had at first
abbrev pub invariant-loop-cut : goal.invariant-loop-cut
invariant-loop-cut g l = record {
  reads : g.I.Source.reads l.link_in + l.reads ≡ g.I.Source.reads l.initial.link_in + l.initial.reads;
  grows : g.I.Source.reads l.initial.link_in ≤ g.I.Source.reads l.link_in;
  going : g.I.Source.reads l.initial.link_in < g.I.Source.reads l.link_in → g.I.Source.ended l.link_in ≡ false;
  same : g.I.Source.reads l.link_in ≡ g.I.Source.reads l.initial.link_in → g.I.Source.ended l.link_in ≡ g.I.Source.ended l.initial.link_in;
  failed : g.I.Source.failed l.link_in ≡ g.I.Source.failed l.initial.link_in;
}

-- how many reads are left
abbrev pub decreases-loop-cut : goal.decreases-loop-cut
decreases-loop-cut g l = l.reads
