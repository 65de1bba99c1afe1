-- No part of a promise: what the functions inside asking say of the bytes that a link gives. A rest is what the assembler keeps
-- of a line whose end hasn't come. `place` is the number of a command, counted from 0. `is_remote` says that somebody other than
-- this program answers at the other end of the link. `w` is what the link and the sink of the settlements took, and `over e`
-- says what the link's ports are after the end e. `from` and `to` are the client before and after.
use Rattle.gc_ask.specs.Common.{Appends, Consumes, Ports, taken_by, Kept, StandsFor, rest_behind, lines_completed, Ghosts as Sink, Call, ById, heard, fits, hears_line, AreSettlements, settlement_seen, settlement_lines_from, WrotePartOfSettlements, Command, RunFault, Write, Output}
use Rattle.std.specs.Prelude.{◌≡◌, ℕ, ◌+◌, ◌*◌, ◌-◌, ◌≤◌, ◌⊎◌, Bool, true, false, List, [], ◌∷◌, ◌++◌, length, Option, Some, None, Ok, Err, take, drop, map}
use Rattle.gc_client.specs.declared.settlement.Settlement.{Settlement}
use Rattle.gc_ask.specs.declared.ask.AskState.{AskState}
use Rattle.gc_ask.specs.declared.client_end.ClientEnd.{ClientEnd}
use Rattle.gc_ask.specs.declared.link.AskedLink.{Ghosts as AskedLink}
use Rattle.gc_ask.specs.declared.unused.TheConstants.{ROOM}
use Rattle.gc_ask.specs.Asking.{Written, LinkResult, first_reply, waiting_for, written_request, lost_of}
use Rattle.gc_ask.specs.Links.{BothStep, LeavesSink, SeenStep, TakesRequest}
use Rattle.gc_ask.specs.Looping.{SeenAtBoth, seen_at_both, written_at_both}

-- what is seen of this link and of this sink of the settlements, by the ghost members of their traits
abbrev pub seen_through : {L K : Type 0} → AskedLink L → L → Sink K → K → SeenAtBoth
seen_through of_link link of_sink sink = seen_at_both (of_link.client link) (of_link.instrument link) (taken_by of_sink sink)

-- how many reads of both ends of this link were answered
abbrev pub reads_of : {L : Type 0} → AskedLink L → L → ℕ
reads_of of_link link = (of_link.client link).reads + (of_link.instrument link).reads

-- what was done took a link from `old` to `new`, and the number of reads that are left from `before` to `after`: the client's
-- end answered no fewer reads than before, each read that either end answered is one that isn't left any more, and the link
-- holds the references that it held
pub record SpendsReads {L : Type 0} (of_link : AskedLink L) (old new : L) (before after : ℕ) : Type 0 where
  pub grows : (of_link.client old).reads ≤ (of_link.client new).reads
  pub reads : reads_of of_link new + after ≡ reads_of of_link old + before
  pub held : of_link.held new ≡ of_link.held old

-- one step, with this result, took both ends of a link from `old` to `new`
abbrev pub LinkSteps : {L : Type 0} → AskedLink L → (old new : L) → LinkResult → Type 0
LinkSteps of_link old new result = BothStep (of_link.client old) (of_link.client new) (of_link.instrument old) (of_link.instrument new) result

-- what took a link from `old` to `new` only read its client's end: that end's sink, the instrument's end, and the references held are as
-- they were
abbrev pub LinkOnlyReads : {L : Type 0} → AskedLink L → (old new : L) → Type 0
LinkOnlyReads of_link old new =
    LeavesSink (of_link.client old) (of_link.client new) × (of_link.instrument new ≡ of_link.instrument old) × (of_link.held new ≡ of_link.held old)

-- from `old` to `new` nothing was read: what the assembler keeps, the bytes that aren't used yet and the number of reads left are the same
abbrev pub HasReadNothing : (old new : AskState) → Type 0
HasReadNothing old new = (new.end.assembler ≡ old.end.assembler) × (new.ahead ≡ old.ahead) × (new.reads ≡ old.reads)

-- the line of a frame, if it has one, settles nothing
abbrev pub SettlesNothing : ById Call → Option (List ℕ) → Type 0
SettlesNothing client None = Unit {0}
SettlesNothing client (Some line) = fits client (heard line) ≡ false

-- how a client took the line of a frame, if it has one, by whether that settles a request (`settles`). If not, the client is as before;
-- if so, there is a line, and the settlements and the client then are those of the client's rule
abbrev pub TakesFrame : (from to : ById Call) → (line : Option (List ℕ)) → (settled : List (Settlement Call)) → (settles : Bool) → Type 0
TakesFrame from to line settled false = (to ≡ from) × SettlesNothing from line
TakesFrame from to None settled true = ⊥
TakesFrame from to (Some line) settled true = (fits from (heard line) ≡ true)
    × AreSettlements settled (hears_line from line).settlements × (to ≡ (hears_line from line).client)

-- no line that the bytes complete, with the rest before them, settles a request; the assembler stands for what follows the last line
-- feed, and the client is as before
pub record IsQuiet (rest bytes : List ℕ) (kept : Kept) (from to : ById Call) : Type 0 where
  pub none : first_reply from (lines_completed rest bytes) ≡ None
  pub stands : StandsFor kept (rest_behind rest bytes)
  pub same : to ≡ from

-- what a client's end has heard, and its state: the rest of a line, the bytes that came after that rest, those of them that it
-- hasn't looked at yet, what the assembler keeps, the client by its ids, and what its last reply settled
pub record ClientHeard : Type 0 where
  pub rest : List ℕ
  pub bytes : List ℕ
  pub left : List ℕ
  pub kept : Kept
  pub client : ById Call
  pub settled : List (Settlement Call)

-- what this client's end has heard: these bytes after a rest, of which these are left
abbrev pub heard_by : ClientEnd → (rest bytes left : List ℕ) → ClientHeard
heard_by end rest bytes left =
    record { rest = rest; bytes = bytes; left = left; kept = end.assembler; client = end.client.ids; settled = end.settled.items }

-- of the lines that came, `line` is the first to settle a request of this client; `front` are those before it, and what is
-- left of the bytes is after it. The settlements and the client then are those of the client's rule, and the assembler keeps
-- nothing
pub record Settles (from : ById Call) (hearing : ClientHeard) : Type 0 where
  pub front : List (List ℕ)
  pub line : List ℕ
  pub seen : lines_completed hearing.rest hearing.bytes ≡ front ++ line ∷ lines_completed [] hearing.left
  pub rests : rest_behind hearing.rest hearing.bytes ≡ rest_behind [] hearing.left
  pub none : first_reply from front ≡ None
  pub fits : fits from (heard line) ≡ true
  pub stands : StandsFor hearing.kept []
  pub settles : AreSettlements hearing.settled (hears_line from line).settlements
  pub client : hearing.client ≡ (hears_line from line).client

-- what is left of a piece of which this many bytes were used; nothing where no number is given
abbrev pub left_of_piece : (used : Option ℕ) → (piece : List ℕ) → List ℕ
left_of_piece None piece = []
left_of_piece (Some used) piece = drop used piece

-- what the lines of a piece did: none of them settled a request (`None`), or one did (`Some`). The number of bytes that were used
-- by then plays no part here: what is left after them is in `hearing`
abbrev pub Listens : ById Call → ClientHeard → Option ℕ → Type 0
Listens from hearing None = IsQuiet hearing.rest hearing.bytes hearing.kept from hearing.client
Listens from hearing (Some used) = Settles from hearing

-- no line that was heard settles a request of this client
abbrev pub HearsNone : ById Call → ClientHeard → Type 0
HearsNone from hearing = first_reply from (lines_completed hearing.rest hearing.bytes) ≡ None

-- how a client's reading for a reply ended. `Ok`: a line settles its request. `Err`: no line that was read does, and the client
-- is as before
abbrev pub HearsReply : ById Call → ClientHeard → LinkResult → Type 0
HearsReply from hearing (Ok _) = Settles from hearing
HearsReply from hearing (Err _) = HearsNone from hearing × (hearing.client ≡ from)

-- a client's end heard what came over a link, at most `ROOM` bytes at each read; and whatever rest of a line its assembler had kept,
-- `claim` holds of all that it heard. `ahead` are the bytes that were read before and not used, and `ahead'` those that aren't used now
abbrev pub HearsMore : (from to : ClientEnd) → (ahead ahead' : List ℕ) → (old new : Ports) → (claim : ClientHeard → Type 0) → Type 0
HearsMore from to ahead ahead' old new claim =
    (given : List ℕ) × Consumes old.remaining new.remaining given × (length given ≤ ROOM * (new.reads - old.reads))
    × ((rest : List ℕ) → StandsFor from.assembler rest → claim (heard_by to rest (ahead ++ given) ahead'))

-- `HearsMore` of the client's end that asking keeps from one command to the next, with the bytes that it keeps
abbrev pub HearsOn : (old new : AskState) → (client_old client_new : Ports) → (claim : ClientHeard → Type 0) → Type 0
HearsOn old new client_old client_new claim = HearsMore old.end new.end old.ahead new.ahead client_old client_new claim

-- a request was sent, and its reply waited for, by how that ended. `Ok`: the request was sent whole, and a line settles it.
-- `Write`: the request was cut, or the reply at the other end was. Another fault: the request was sent whole, and where the
-- link is remote, no line that came settles it
abbrev pub SendsAndHears : (is_remote : Bool) → (place : ℕ) → Command → ClientHeard → (old new : Option (List ℕ)) → LinkResult → Type 0
SendsAndHears is_remote place command hearing old new (Ok _) = Appends old new (written_request place command) × Settles (waiting_for place command) hearing
SendsAndHears is_remote place command hearing old new (Err (Write count part)) =
    TakesRequest is_remote place (written_request place command) old new (Err (Write count part))
SendsAndHears is_remote place command hearing old new (Err _) =
    Appends old new (written_request place command) × (is_remote ≡ true → HearsNone (waiting_for place command) hearing)

-- an exchange, by how it ended (`SendsAndHears`): after each fault the client still waits
abbrev pub Exchanges : (is_remote : Bool) → (place : ℕ) → Command → ClientHeard → (old new : Option (List ℕ)) → LinkResult → Type 0
Exchanges is_remote place command hearing old new (Ok x) = SendsAndHears is_remote place command hearing old new (Ok x)
Exchanges is_remote place command hearing old new (Err fault) =
    SendsAndHears is_remote place command hearing old new (Err fault) × (hearing.client ≡ waiting_for place command)

-- an exchange, by how it ended (`Exchanges`), over a link that was `old` before it and is `new` after it
abbrev pub ExchangesOver : {L : Type 0} → AskedLink L → (place : ℕ) → Command → (from to : AskState) → (old new : L) → LinkResult → Type 0
ExchangesOver of_link place command from to old new result =
    HearsOn from to (of_link.client old) (of_link.client new)
    (λ hearing. Exchanges of_link.is_remote place command hearing (of_link.client old).taken (of_link.client new).taken result)

-- the link had ended well, the request was sent whole, and its reply settles it; the sink took a part of that settlement's line
abbrev pub WritesPartOfReply : (place : ℕ) → Command → ClientHeard → Written → (over : LinkResult → Type 0) → Type 0
WritesPartOfReply place command hearing w over =
    over (Ok tt) × Appends w.link_old w.link_new (written_request place command)
    × Settles (waiting_for place command) hearing × WrotePartOfSettlements place (map settlement_seen hearing.settled) w.sink_old w.sink_new

-- the link had ended with a fault, after none, a first part or all of the request; the sink took a part of the line that says the
-- command is lost
abbrev pub WritesPartOfLoss : (place : ℕ) → Command → Written → (over : LinkResult → Type 0) → Type 0
WritesPartOfLoss place command w over =
    (fault : RunFault) × over (Err fault)
    × ((part : ℕ) × Appends w.link_old w.link_new (take part (written_request place command))
    × WrotePartOfSettlements place (lost_of command ∷ []) w.sink_old w.sink_new)

-- the sink failed as it took the line of a settlement: that by the reply, or the one that says the command is lost. `over` says of a
-- result that the link may have ended with it
abbrev pub WritesOnePart : (place : ℕ) → Command → ClientHeard → Written → (over : LinkResult → Type 0) → Type 0
WritesOnePart place command hearing w over = WritesPartOfReply place command hearing w over ⊎ WritesPartOfLoss place command w over

-- a request was sent, its reply waited for (`SendsAndHears`), and its settlement written, by how that ended. `Ok`: the sink took
-- the settlement by the reply. `Output`: the sink failed (`WritesOnePart`). Another fault: the sink took the line that says the
-- command is lost
abbrev pub AsksOne : (is_remote : Bool) → (place : ℕ) → Command → ClientHeard → Written → (over : LinkResult → Type 0) → LinkResult → Type 0
AsksOne is_remote place command hearing w over (Ok x) =
    SendsAndHears is_remote place command hearing w.link_old w.link_new (Ok x)
    × Appends w.sink_old w.sink_new (settlement_lines_from place (map settlement_seen hearing.settled))
AsksOne is_remote place command hearing w over (Err Output) = WritesOnePart place command hearing w over
AsksOne is_remote place command hearing w over (Err fault) =
    SendsAndHears is_remote place command hearing w.link_old w.link_new (Err fault)
    × Appends w.sink_old w.sink_new (settlement_lines_from place (lost_of command ∷ []))

-- one command was asked, by how that ended (`AsksOne`), over a link and a sink of which `old` was seen before it, and `new`
-- after it
abbrev pub AsksOneOver : (is_remote : Bool) → (place : ℕ) → Command → (from to : AskState) → (old new : SeenAtBoth) → LinkResult → Type 0
AsksOneOver is_remote place command from to old new result =
    HearsOn from to old.client new.client (λ hearing. AsksOne is_remote place command hearing (written_at_both old new) (SeenStep old new) result)
