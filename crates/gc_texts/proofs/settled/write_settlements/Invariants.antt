use Rattle.gc_texts.proofs.Common.{◌≡◌, take, map, Appends, settlement_seen, settlement_lines_from}
use Rattle.gc_texts.proofs.settled.write_settlements.Given as goal

-- the sink took the lines of the settlements so far, and has failed only if it had before
abbrev pub invariant-loop-i : goal.invariant-loop-i
invariant-loop-i g l = record {
  took : Appends (g.K.Sink.taken l.initial.sink) (g.K.Sink.taken l.sink) (settlement_lines_from l.place (map settlement_seen (take l.i l.settlements)));
  failed : g.K.Sink.failed l.sink ≡ g.K.Sink.failed l.initial.sink;
}
