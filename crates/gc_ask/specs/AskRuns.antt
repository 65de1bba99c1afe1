-- A command text that is read whole and asked: this project's own.
use Rattle.gc_ask.specs.Common.{Consumes, Ports, ports_of, Taken, taken_by, Ghosts as Sink, Input, Command, RunFault, TooManyReads}
use Rattle.std.specs.Prelude.{◌≡◌, Bool, true, ℕ, ◌+◌, ◌*◌, ◌-◌, ◌≤◌, List, length, Err}
use Rattle.gc_lines.specs.declared.ports.Source.{Ghosts as Source}
use Rattle.gc_ask.specs.Asking.{AreFresh, Written, Asks, LinkResult, UseEnds, AskingEnds, RunsConnected, RunsText}
use Rattle.gc_ask.specs.declared.unused.TheConstants.{ROOM}

-- what is seen of a link at the client's end, and of the sink of the settlements
pub record SeenAtClient : Type 0 where
  pub link : Ports
  pub sink : Taken

-- what is seen of a link with these ports, and of this sink of the settlements, by the ghost members of their traits
abbrev pub seen_of_link : {I O K : Type 0} → Source I → I → Sink O → O → Sink K → K → SeenAtClient
seen_of_link of_source source of_sink sink of_told told = record { link = ports_of of_source source of_sink sink; sink = taken_by of_told told }

-- what a link and the sink of the settlements had taken before, and have taken now, by what is seen at the client's end
abbrev pub written_at_client : (old new : SeenAtClient) → Written
written_at_client old new = record { link_old = old.link.taken; link_new = new.link.taken; sink_old = old.sink.bytes; sink_new = new.sink.bytes }

-- commands were asked over a link, in at most `most` reads and with this result, which is `TooManyReads` only once these are used
-- up; the reads count from `before` on, and are `after` at the end. `given` is what the client's end gave, at most `ROOM` bytes
-- at each read, and `over e` says what the link's ports are after the end e
pub record AsksWithin (is_remote : Bool) (commands : List Command) (most : ℕ) (old new : SeenAtClient) (before after : ℕ) (over : LinkResult → Type 0)
    (result : LinkResult) : Type 0 where
  pub given : List ℕ
  pub gave : Consumes old.link.remaining new.link.remaining given
  pub few : length given ≤ ROOM * (new.link.reads - old.link.reads)
  pub asks : Asks is_remote commands given (written_at_client old new) over result
  -- which ports have failed then
  pub ends : AskingEnds over old.sink.failed new.sink.failed result
  pub bound : after ≤ before + most
  pub too_many : result ≡ Err TooManyReads → after ≡ before + most

-- commands were asked over a remote link, in at most `most` reads of it, with this result
pub record AsksAtClient (commands : List Command) (most : ℕ) (old new : SeenAtClient) (result : LinkResult) : Type 0 where
  pub within : AsksWithin true commands most old new old.link.reads new.link.reads (UseEnds old.link new.link) result

-- commands were asked, in at most `most` reads and with this result, over some remote link that was fresh (`AreFresh`)
pub record AsksOverFresh (commands : List Command) (most : ℕ) (old new : Taken) (result : LinkResult) : Type 0 where
  pub before : Ports
  pub after : Ports
  pub fresh : AreFresh before
  pub asks : AsksAtClient commands most (record { link = before; sink = old }) (record { link = after; sink = new }) result

-- a run over a source of commands, a link and a sink: the text was refused, and then nothing was read of the link, sent or written; or
-- its commands were asked
abbrev pub AskRuns : (text_old text_new : Input) → (most : ℕ) → (old new : SeenAtClient) → LinkResult → Type 0
AskRuns text_old text_new most old new result = RunsText text_old text_new result (new ≡ old) (λ commands. AsksAtClient commands most old new result)

-- a run over a source of commands, a connection that it makes, and a sink (`RunsConnected`), with somebody else at the other end
abbrev pub AskRunsConnected : (unconnected : RunFault → Type 0) → (text_old text_new : Input) → (most : ℕ) → (old new : Taken) → LinkResult → Type 0
AskRunsConnected unconnected text_old text_new most old new result =
    RunsConnected unconnected text_old text_new old new result (λ commands. AsksOverFresh commands most old new result)
