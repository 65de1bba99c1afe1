-- The two ends of a link, and commands that are asked over it, also with an instrument of this program at its other end: this project's own.
-- `is_remote` says that somebody other than this program answers there.
use Rattle.gc_ask.specs.Common.{Ports, ports_of, taken_by, Taken, Ghosts as Sink, Command, Memory, Socket, Input}
use Rattle.std.specs.Prelude.{◌≡◌, Bool, false, ℕ, ◌+◌, ◌⊎◌, List, Ok, Err}
use Rattle.gc_lines.specs.declared.ports.Source.{Ghosts as Source}
use Rattle.gc_ask.specs.declared.looped.Duplex.{Duplex}
use Rattle.gc_ask.specs.AskRuns.{AsksWithin, SeenAtClient, written_at_client}
use Rattle.gc_ask.specs.Asking.{Written, LinkResult, AreFresh, UseEnds, RunsConnected, RunsText}

-- one end of a link has this result, and the other ended well: `Client` and `Instrument` say what a result means at each end
abbrev pub IsOfOneEnd : (Client Instrument : LinkResult → Type 0) → LinkResult → Type 0
IsOfOneEnd Client Instrument result = (Client result × Instrument (Ok tt)) ⊎ (Client (Ok tt) × Instrument result)

-- what is seen of the two ends of a link, and of the sink of the settlements
pub record SeenAtBoth : Type 0 where
  pub client : Ports
  pub instrument : Ports
  pub sink : Taken

-- what is seen of both ends of a link and of the sink, put together from what is seen of each
abbrev pub seen_at_both : (client instrument : Ports) → (sink : Taken) → SeenAtBoth
seen_at_both client instrument sink = record { client = client; instrument = instrument; sink = sink }

-- what is seen of the client's source and sink (a and b), the instrument's source and sink (c and d), and the sink of the settlements
-- (k), by the ghost members of their traits
abbrev pub seen_of : {A B C D K : Type 0} → Source A → A → Sink B → B → Source C → C → Sink D → D → Sink K → K → SeenAtBoth
seen_of of_a a of_b b of_c c of_d d of_k k = seen_at_both (ports_of of_a a of_b b) (ports_of of_c c of_d d) (taken_by of_k k)

-- what is seen of these two ends, each with both directions, and of this sink
abbrev pub seen_over : {A B C D K : Type 0} → Source A → Sink B → Duplex A B → Source C → Sink D → Duplex C D → Sink K → K → SeenAtBoth
seen_over of_a of_b client of_c of_d instrument of_k k = seen_of of_a client.source of_b client.sink of_c instrument.source of_d instrument.sink of_k k

-- the ports of both ends of a link, by the result of asking over it. At one end they are as `UseEnds` says for this result, so
-- a fault is a fault of that end; at the other end they are as it says for `Ok`
abbrev pub BothEnd : (old new : SeenAtBoth) → LinkResult → Type 0
BothEnd old new result = IsOfOneEnd (UseEnds old.client new.client) (UseEnds old.instrument new.instrument) result

-- of what is seen at both ends, what is seen at the client's end
abbrev pub at_client : SeenAtBoth → SeenAtClient
at_client seen = record { link = seen.client; sink = seen.sink }

-- what the client's end and the sink had taken before, and have taken now, by what is seen at both ends
abbrev pub written_at_both : (old new : SeenAtBoth) → Written
written_at_both old new = written_at_client (at_client old) (at_client new)

-- how many reads of both ends were answered
abbrev pub reads_at_both : SeenAtBoth → ℕ
reads_at_both seen = seen.client.reads + seen.instrument.reads

-- commands were asked over a link, in at most `most` reads of both its ends, with this result
pub record AsksAtBoth (is_remote : Bool) (commands : List Command) (most : ℕ) (old new : SeenAtBoth) (result : LinkResult) : Type 0 where
  pub within : AsksWithin is_remote commands most (at_client old) (at_client new) (reads_at_both old) (reads_at_both new) (BothEnd old new) result

-- a run over a source of commands, the two ends of a link and a sink: the text was refused, and then nothing was read of the link, sent or
-- written; or its commands were asked
abbrev pub RunsAtBoth : (is_remote : Bool) → (text_old text_new : Input) → (most : ℕ) → (old new : SeenAtBoth) → LinkResult → Type 0
RunsAtBoth is_remote text_old text_new most old new result = RunsText text_old text_new result (new ≡ old) (λ commands. AsksAtBoth is_remote commands most old new result)

-- a run over a link with an instrument of this program at its other end (`RunsAtBoth`); where memory was refused, nothing was
-- read of the link, sent or written (`new ≡ old`)
pub record LoopRuns (text_old text_new : Input) (most : ℕ) (old new : SeenAtBoth) (result : LinkResult) : Type 0 where
  pub runs : RunsAtBoth false text_old text_new most old new result
  pub memory : result ≡ Err Memory → new ≡ old

-- commands were asked, in at most `most` reads of both ends and with this result, over some connection with an instrument of this program at
-- its other end, and both ends of it were fresh (`AreFresh`)
pub record LoopsOverFresh (commands : List Command) (most : ℕ) (old new : Taken) (result : LinkResult) : Type 0 where
  pub client_before : Ports
  pub client_after : Ports
  pub instrument_before : Ports
  pub instrument_after : Ports
  pub client : AreFresh client_before
  pub instrument : AreFresh instrument_before
  pub asks : AsksAtBoth false commands most (seen_at_both client_before instrument_before old) (seen_at_both client_after instrument_after new) result

-- a run over a source of commands, a connection that it makes, and a sink (`RunsConnected`), with an instrument of its own at the other end
abbrev pub LoopRunsConnected : (text_old text_new : Input) → (most : ℕ) → (old new : Taken) → LinkResult → Type 0
LoopRunsConnected text_old text_new most old new result =
    RunsConnected (λ fault. fault ≡ Socket) text_old text_new old new result (λ commands. LoopsOverFresh commands most old new result)
