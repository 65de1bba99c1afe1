use Rattle.gc_ask.proofs.Common.{◌≡◌, ◌<◌, ◌≤◌, ◌+◌, ◌-◌, ◌*◌, List, ℕ, false, length, Consumes, StandsFor, LinkOnlyReads, ROOM}
use Rattle.gc_ask.proofs.FirstReplies.{ReadsOn}
use Rattle.gc_ask.proofs.client_end.ClientEnd.hear_reply.Given as goal

-- what came so far, at most `ROOM` bytes for each read, settles nothing as far as it was looked at (`ReadsOn`); no read was the end
-- of the stream, and the source has failed exactly if it had at first; and nothing else of the link was used
abbrev pub invariant-loop-used : goal.invariant-loop-used
invariant-loop-used g l = record {
  heard : (given : List ℕ) × Consumes (g.L.AskedLink.client l.initial.link).remaining (g.L.AskedLink.client l.link).remaining given
      × (length given ≤ ROOM * ((g.L.AskedLink.client l.link).reads - (g.L.AskedLink.client l.initial.link).reads))
      × ((rest : List ℕ) → StandsFor l.initial.self.assembler rest → ReadsOn rest l.initial.ahead given l.ahead l.self.assembler l.initial.self.client.ids l.self.client.ids);
  reads : (g.L.AskedLink.client l.link).reads + l.reads ≡ (g.L.AskedLink.client l.initial.link).reads + l.initial.reads;
  grows : (g.L.AskedLink.client l.initial.link).reads ≤ (g.L.AskedLink.client l.link).reads;
  going : (g.L.AskedLink.client l.initial.link).reads < (g.L.AskedLink.client l.link).reads → (g.L.AskedLink.client l.link).ended ≡ false;
  same : (g.L.AskedLink.client l.link).reads ≡ (g.L.AskedLink.client l.initial.link).reads → (g.L.AskedLink.client l.link).ended ≡ (g.L.AskedLink.client l.initial.link).ended;
  failed : (g.L.AskedLink.client l.link).source_failed ≡ (g.L.AskedLink.client l.initial.link).source_failed;
  only : LinkOnlyReads g.L.AskedLink l.initial.link l.link;
}

-- how many reads are left
abbrev pub decreases-loop-used : goal.decreases-loop-used
decreases-loop-used g l = l.reads
