-- Requests that are asked one at a time, each once the one before it is settled: this project's own. Request lines are the
-- manual's. Below, `given` are all bytes that the link gave, and `w` is what the link and the sink of the settlements took.
-- `is_remote` says that somebody other than this program answers at the link's other end, and `over e` what its ports are after
-- the end e.
use Rattle.gc_ask.specs.Common.{Appends, Ports, Taken, all_of, lines, with_end, Call, IDS, ById, Settlement, pending_of, lost, heard, fits, hears_line, settlement_line, settlement_lines, Input, source_of, GaveBytes, GivesCommands, RefusesCommands, Command, RunFault, Read, Write, TooManyReads, LinkClosed, Output}
use Rattle.std.specs.Prelude.{◌≡◌, ℕ, ◌+◌, ◌%◌, ◌<◌, ◌⊎◌, Bool, true, false, List, [], ◌∷◌, ◌++◌, length, take, Option, Some, None, Result, Ok, Err, if◌then◌else◌}
use Rattle.gc_catalogue.specs.Prelude.{request_line}
use Rattle.gc_client.specs.declared.pending.Pending.{Pending}

-- a command that was sent and waits; its deadline is the greatest of a u64, and the client is given no moment, so it never times out
abbrev pub awaited : Command → Pending Call
awaited command = pending_of command.target command.call 18446744073709551615

-- the client that sends request k next: its next id is k modulo 8, and none of its requests waits
abbrev pub ready_for : (k : ℕ) → ById Call
ready_for k = record { next = k % IDS; waiting = [] }

-- the client once it has sent request k, of this command, which waits
abbrev pub waiting_for : (k : ℕ) → Command → ById Call
waiting_for k command = record { next = (k + 1) % IDS; waiting = awaited command ∷ [] }

-- a line that settles a request, and the lines after it
pub record FirstReply : Type 0 where
  pub line : List ℕ
  pub later : List (List ℕ)

-- the first of the lines that is a reply with the id of a request that waits, with the lines after it; none if there is no such line
abbrev pub first_reply : ById Call → (came : List (List ℕ)) → Option FirstReply
first_reply client [] = None
first_reply client (line ∷ later) = if fits client (heard line) then Some (record { line = line; later = later }) else first_reply client later

-- the settlements after a search for the first reply: those of that reply by the client's rule, and then what `rest` makes of
-- the lines after it; none where there is no reply
abbrev pub settled_by : ById Call → (rest : (later : List (List ℕ)) → List (Settlement Call)) → Option FirstReply → List (Settlement Call)
settled_by client rest None = []
settled_by client rest (Some reply) = (hears_line client reply.line).settlements ++ rest reply.later

-- the settlements of these commands, the first of which is request k, by the client's rule over the lines that come
abbrev pub asked_from : (k : ℕ) → List Command → (came : List (List ℕ)) → List (Settlement Call)
asked_from k [] came = []
asked_from k (command ∷ later) came = settled_by (waiting_for k command) (asked_from (k + 1) later) (first_reply (waiting_for k command) came)

-- the settlements of these commands by the lines of all that a link gives, as far as the lines settle them
abbrev pub asked : List Command → (stream : List ℕ) → List (Settlement Call)
asked commands stream = asked_from 0 commands (lines stream)

-- request k as it is written, with its CR LF
abbrev pub written_request : (k : ℕ) → Command → List ℕ
written_request k command = with_end (request_line (Some (k % IDS)) command.call)

-- the requests of these commands as they are written, the first of which is request k
abbrev pub written_requests : (k : ℕ) → List Command → List (List ℕ)
written_requests k [] = []
written_requests k (command ∷ later) = written_request k command ∷ written_requests (k + 1) later

-- the settlement of a command that is lost
abbrev pub lost_of : Command → Settlement Call
lost_of command = lost (awaited command)

-- what a link and the sink of the settlements had taken before, and have taken now, where these are known
pub record Written : Type 0 where
  pub link_old : Option (List ℕ)
  pub link_new : Option (List ℕ)
  pub sink_old : Option (List ℕ)
  pub sink_new : Option (List ℕ)

-- how a use of a link ended: well, or with a fault
abbrev pub LinkResult : Type 0
LinkResult = Result (Unit {0}) RunFault

-- each command was sent and settled, and the sink took the lines of the settlements
pub record AsksAll (commands : List Command) (given : List ℕ) (w : Written) : Type 0 where
  pub settled : length (asked commands given) ≡ length commands
  pub sent : Appends w.link_old w.link_new (all_of (written_requests 0 commands))
  pub sink_took : Appends w.sink_old w.sink_new (settlement_lines (asked commands given))

-- asking reached `command`: what came settles the commands `earlier` before it, and `later` are those after it
pub record ReachesCommand (commands : List Command) (given : List ℕ) : Type 0 where
  pub earlier : List Command
  pub command : Command
  pub later : List Command
  pub order : commands ≡ earlier ++ command ∷ later
  pub settled : length (asked earlier given) ≡ length earlier

-- asking reached a command (`ReachesCommand`), which is lost, even where a reply with its id came already. The sink took the lines of the
-- settlements of the commands before it, and the line that says it is lost
pub record LosesOne (commands : List Command) (given : List ℕ) (w : Written) : Type 0 where
  pub at : ReachesCommand commands given
  pub sink_took : Appends w.sink_old w.sink_new (settlement_lines (asked at.earlier given ++ lost_of at.command ∷ []))

-- asking stopped at a command, which is lost (`LosesOne`), and whose request was sent; the commands after it weren't sent. Where the link is
-- remote, what came settles the commands before it, and no more
pub record StopsAt (is_remote : Bool) (commands : List Command) (given : List ℕ) (w : Written) : Type 0 where
  pub loses : LosesOne commands given w
  pub sent : Appends w.link_old w.link_new (all_of (written_requests 0 (loses.at.earlier ++ loses.at.command ∷ [])))
  pub no_more : is_remote ≡ true → asked commands given ≡ asked loses.at.earlier given

-- a write was cut, that of a command's request or of the reply to it. The command is lost (`LosesOne`), after `count` others, and
-- of its request the first `bytes` bytes were sent, or all. Where the link is remote, the request was cut: its first `part` bytes
-- were sent, not all
pub record IsCutAt (is_remote : Bool) (commands : List Command) (given : List ℕ) (w : Written) (count part : ℕ) : Type 0 where
  pub loses : LosesOne commands given w
  pub count_is : count ≡ length loses.at.earlier
  pub bytes : ℕ
  pub sent : Appends w.link_old w.link_new (all_of (written_requests 0 loses.at.earlier) ++ take bytes (written_request count loses.at.command))
  pub cut : is_remote ≡ true → (bytes ≡ part) × (part < length (written_request count loses.at.command))

-- `next` is the settlement of `command`, after those of `earlier`: where the link ended well, the one by the bytes that came;
-- else the one that says the command is lost
abbrev pub IsNext : (earlier : List Command) → (command : Command) → (given : List ℕ) → (next : Settlement Call) → LinkResult → Type 0
IsNext earlier command given next (Ok _) = asked (earlier ++ command ∷ []) given ≡ asked earlier given ++ next ∷ []
IsNext earlier command given next (Err _) = next ≡ lost_of command

-- asking reached a command (`ReachesCommand`), and the sink failed as it took the line of that command's settlement: it took the
-- lines of the commands before it, and a part of this one. Of the command's request the first `bytes` bytes were sent, or all,
-- and none of a later one
pub record WritesPart (commands : List Command) (given : List ℕ) (w : Written) (over : LinkResult → Type 0) : Type 0 where
  pub at : ReachesCommand commands given
  pub bytes : ℕ
  pub sent : Appends w.link_old w.link_new (all_of (written_requests 0 at.earlier) ++ take bytes (written_request (length at.earlier) at.command))
  -- how the use of the link had ended before
  pub link : LinkResult
  pub ends : over link
  -- the settlement of the command, and how many bytes of its line went out
  pub next : Settlement Call
  pub next_is : IsNext at.earlier at.command given next link
  pub part : ℕ
  pub not_all : part < length (settlement_line (length at.earlier) next)
  pub sink_took : Appends w.sink_old w.sink_new (settlement_lines (asked at.earlier given) ++ take part (settlement_line (length at.earlier) next))

-- what was asked over a link that gave these bytes, by how asking ended
abbrev pub Asks : (is_remote : Bool) → List Command → (given : List ℕ) → Written → (over : LinkResult → Type 0) → LinkResult → Type 0
Asks is_remote commands given w over (Ok _) = AsksAll commands given w
Asks is_remote commands given w over (Err Read) = StopsAt is_remote commands given w
Asks is_remote commands given w over (Err LinkClosed) = StopsAt is_remote commands given w
Asks is_remote commands given w over (Err TooManyReads) = StopsAt is_remote commands given w
Asks is_remote commands given w over (Err (Write count part)) = IsCutAt is_remote commands given w count part
Asks is_remote commands given w over (Err Output) = WritesPart commands given w over
Asks is_remote commands given w over (Err _) = ⊥

-- where a source was read from `old` to `new`, the last read wasn't the end of its input
abbrev pub NoneEnded : (old new : Input) → Type 0
NoneEnded old new = old.reads < new.reads → new.ended ≡ false

-- the last read of an end's source wasn't the end of its input, and whether its source and its sink have failed is as given
abbrev pub NoneEndedAnd : (old new : Ports) → (source_failed sink_failed : Bool) → Type 0
NoneEndedAnd old new source_failed sink_failed =
    NoneEnded (source_of old) (source_of new) × (new.source_failed ≡ source_failed) × (new.sink_failed ≡ sink_failed)

-- the two ports of a link's end after a use that ended with this result. Only with `LinkClosed` was the last read the end of
-- the input; with `Read` the source has failed, with `Write` the sink; else whether they have failed is as before
abbrev pub UseEnds : (old new : Ports) → LinkResult → Type 0
UseEnds old new (Ok _) = NoneEndedAnd old new old.source_failed old.sink_failed
UseEnds old new (Err Read) = NoneEndedAnd old new true old.sink_failed
UseEnds old new (Err (Write _ _)) = NoneEndedAnd old new old.source_failed true
UseEnds old new (Err TooManyReads) = NoneEndedAnd old new old.source_failed old.sink_failed
UseEnds old new (Err LinkClosed) = (old.reads < new.reads) × (new.ended ≡ true) × (new.source_failed ≡ old.source_failed) × (new.sink_failed ≡ old.sink_failed)
UseEnds old new (Err _) = ⊥

-- nothing was read of the ports of an end, and none of them has failed
abbrev pub AreFresh : Ports → Type 0
AreFresh ports = (ports.reads ≡ 0) × (ports.source_failed ≡ false) × (ports.sink_failed ≡ false)

-- which ports have failed, by how asking ended. With `Output` the sink has failed, and `over` holds of some end of the link. With any other
-- end `over` holds of that end, and whether the sink has failed is as before
abbrev pub AskingEnds : (over : LinkResult → Type 0) → (sink_old sink_new : Bool) → LinkResult → Type 0
AskingEnds over sink_old sink_new (Err Output) = (sink_new ≡ true) × ((link : LinkResult) × over link)
AskingEnds over sink_old sink_new (Ok x) = over (Ok x) × (sink_new ≡ sink_old)
AskingEnds over sink_old sink_new (Err e) = over (Err e) × (sink_new ≡ sink_old)

-- a run over a source of commands, with this result: the text was refused, and `unused` holds; or it gave commands, of which
-- `claim` holds
abbrev pub RunsText : (text_old text_new : Input) → LinkResult → (unused : Type 0) → (claim : List Command → Type 0) → Type 0
RunsText text_old text_new result unused claim = GaveBytes text_old text_new (λ given.
    ((fault : RunFault) × (result ≡ Err fault) × RefusesCommands given text_old text_new fault × unused)
    ⊎ ((commands : List Command) × GivesCommands given text_old text_new commands × claim commands))

-- a run over a source of commands, a connection that it makes, and a sink, with this result: the text was refused, or it was read and no
-- connection could be had, and in both cases nothing was written; or its commands were asked over the connection, as `claim` says.
-- `unconnected e` says that e is a fault that comes where no connection can be had
abbrev pub RunsConnected : (unconnected : RunFault → Type 0) → (text_old text_new : Input) → (old new : Taken) → LinkResult → (claim : List Command → Type 0)
    → Type 0
RunsConnected unconnected text_old text_new old new result claim = RunsText text_old text_new result (new ≡ old) (λ commands.
    ((fault : RunFault) × (result ≡ Err fault) × unconnected fault × (new ≡ old)) ⊎ claim commands)
