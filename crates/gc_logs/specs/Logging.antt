-- What a log has of the bytes of one direction, as they are sent and received: this project's own. Bytes that aren't written
-- into a line of the log yet are pending.
use Rattle.gc_logs.specs.Common.{Appends, flat_map, Taken, taken_by, ends_in_return, with_end, log_line, LogMark}
use Rattle.std.specs.Prelude.{◌≡◌, ℕ, ◌-◌, ◌==◌, ◌&&◌, Bool, true, false, not, nat_lt, List, [], ◌∷◌, ◌++◌, length, take, if◌then◌else◌, codes}
use Rattle.gc_lines.specs.declared.ports.Sink.{Ghosts as Sink}
use Rattle.gc_links.specs.Prelude.{Act, Told, Put, Cut, Gave, Silent, Ended, Broke, Closed, Opened, Unopened}
use Rattle.gc_logs.specs.declared.logging.Lines.{Lines}
use Rattle.gc_logs.specs.declared.logging.Log.{Log}
use Rattle.gc_logs.specs.declared.logged.Logged.{Logged}
use Rattle.gc_logs.specs.declared.logging.Unwritten.{Unwritten}
use Rattle.gc_logs.specs.declared.logging.Direction.{Direction}
use Rattle.gc_logs.specs.declared.logging.Direction.TheVariants.{Went, Came}
use Rattle.gc_texts.specs.declared.log_line.LogMark.TheVariants as mark

-- a line of a log without its moment: its mark and its bytes
pub record Entry : Type 0 where
  pub mark : LogMark
  pub bytes : List ℕ

-- the line of a log with this mark and these bytes
abbrev pub entry : LogMark → List ℕ → Entry
entry mark bytes = record { mark = mark; bytes = bytes }

-- the mark of a line that has its CR LF
abbrev pub line_mark : Direction → LogMark
line_mark Went = mark.Went
line_mark Came = mark.Came

-- the mark of bytes that aren't a whole line with its CR LF
abbrev pub part_mark : Direction → LogMark
part_mark Went = mark.WentPart
part_mark Came = mark.CamePart

-- the state of a direction of which these bytes are pending; `long` says whether a front of their line was written already
abbrev pub pending : (bytes : List ℕ) (long : Bool) → Unwritten
pending bytes long = record { bytes = record { items = bytes }; is_long = long }

-- the state of a direction of which nothing is pending
abbrev pub nothing_pending : Unwritten
nothing_pending = pending [] false

-- whether one more byte can be pending besides those that are: fewer than 513 are
abbrev pub takes_one_more : Unwritten → Bool
takes_one_more p = nat_lt (length p.bytes.items) 513

-- the line of a log that a line feed makes of what is pending: a whole line without its CR LF, if a CR comes before the line
-- feed and no front of the line was written; otherwise a part, with the line feed
abbrev pub entry_of_line : Direction → Unwritten → Entry
entry_of_line way p =
    if not p.is_long && ends_in_return p.bytes.items then entry (line_mark way) (take (length p.bytes.items - 1) p.bytes.items)
    else entry (part_mark way) (p.bytes.items ++ codes "\n")

-- which lines of a log one more byte gives: a line feed gives the line that it ends; any other byte gives none, or, if it can't
-- be pending besides those that are (`takes_one_more`), the part that these are
abbrev pub entries_at : Direction → Unwritten → ℕ → List Entry
entries_at way p b =
    if b == 10 then entry_of_line way p ∷ []
    else (if takes_one_more p then [] else entry (part_mark way) p.bytes.items ∷ [])

-- what is pending after one more byte
abbrev pub pending_at : Unwritten → ℕ → Unwritten
pending_at p b =
    if b == 10 then nothing_pending
    else (if takes_one_more p then pending (p.bytes.items ++ b ∷ []) p.is_long else pending (b ∷ []) true)

-- which lines of a log these bytes give, if `p` was pending before them
abbrev pub entries : Direction → Unwritten → List ℕ → List Entry
entries way p [] = []
entries way p (b ∷ bs) = entries_at way p b ++ entries way (pending_at p b) bs

-- what is pending after these bytes, if `p` was pending before them
abbrev pub pending_after : Unwritten → List ℕ → Unwritten
pending_after p [] = p
pending_after p (b ∷ bs) = pending_after (pending_at p b) bs

-- the line of what is pending at a close: none if nothing is
abbrev pub entries_of_pending : Direction → List ℕ → List Entry
entries_of_pending way [] = []
entries_of_pending way (b ∷ bs) = entry (part_mark way) (b ∷ bs) ∷ []

-- the text of these lines, each with the moment `utc`
abbrev pub log_text_of : ℕ → List Entry → List ℕ
log_text_of utc es = flat_map (λ (e : Entry). log_line utc e.mark e.bytes) es

-- if a log's sink hasn't failed now, it hadn't failed before, and it took this text
pub record TakesUnlessFailed (old new : Taken) (text : List ℕ) : Type 0 where
  pub took : new.failed ≡ false → Appends old.bytes new.bytes text
  pub stood : new.failed ≡ false → old.failed ≡ false

-- lines of a log were written at the moment that `old` has, and `new` has the same: if the sink hasn't failed now, it took their
-- text (`TakesUnlessFailed`)
pub record TakesEntries {K : Type 0} (of_sink : Sink K) (old new : Lines K) (es : List Entry) : Type 0 where
  pub took : TakesUnlessFailed (taken_by of_sink old.sink) (taken_by of_sink new.sink) (log_text_of old.utc es)
  pub utc : new.utc ≡ old.utc

-- the bytes on the link that a line of a log with this mark and these bytes stands for: its bytes, with CR LF after a whole
-- line; none for a word on the connection
abbrev pub wire_of : LogMark → List ℕ → List ℕ
wire_of mark.Went bytes = with_end bytes
wire_of mark.WentPart bytes = bytes
wire_of mark.Came bytes = with_end bytes
wire_of mark.CamePart bytes = bytes
wire_of mark.Link bytes = []

-- the bytes on the link that lines of a log stand for (`wire_of`), in order
abbrev pub wire : List Entry → List ℕ
wire es = flat_map (λ (e : Entry). wire_of e.mark e.bytes) es

-- of the bytes of one direction nothing is missing, nothing is added and nothing changes places: the bytes that were pending,
-- and after them the new ones, are those that the lines stand for, and after them those that are pending then
abbrev pub LogKeepsAll : Type 0
LogKeepsAll =
    (way : Direction) (p : Unwritten) (bytes : List ℕ)
    → p.bytes.items ++ bytes ≡ wire (entries way p bytes) ++ (pending_after p bytes).bytes.items

-- what is seen of a log: of its sink, what is pending of each direction, and the last moment
pub record LogSeen : Type 0 where
  pub sink : Taken
  pub went : Unwritten
  pub came : Unwritten
  pub utc : ℕ

-- what is seen of this log, by the ghost members of its sink
abbrev pub log_seen : {K : Type 0} → Sink K → Log K → LogSeen
log_seen of_sink log = record { sink = taken_by of_sink log.lines.sink; went = log.went; came = log.came; utc = log.lines.utc }

-- the line of a log that says what became of the connection, in this word
abbrev pub link_entry : List ℕ → Entry
link_entry word = entry mark.Link word

-- the moment of the lines of an act: that of the act, if it has one, else the last one before it
abbrev pub utc_of : ℕ → Act → ℕ
utc_of utc (Told m) = m.utc
utc_of utc (Gave bytes m) = m.utc
utc_of utc (Silent m) = m.utc
utc_of utc _ = utc

-- the lines that a log has of an act of its link, where `went` and `came` are pending before the act: what the bytes of a write
-- or read give; at a close all that is pending; and after these a word, if the connection ended, failed, was closed, was made or
-- couldn't be made
abbrev pub entries_of_act : (went came : Unwritten) → Act → List Entry
entries_of_act went came (Put bytes) = entries Went went bytes
entries_of_act went came (Cut bytes count) = entries Went went (take count bytes) ++ link_entry (codes "failed") ∷ []
entries_of_act went came (Gave bytes m) = entries Came came bytes
entries_of_act went came Ended = link_entry (codes "ended") ∷ []
entries_of_act went came Broke = link_entry (codes "failed") ∷ []
entries_of_act went came Closed =
    entries_of_pending Went went.bytes.items ++ entries_of_pending Came came.bytes.items ++ link_entry (codes "closed") ∷ []
entries_of_act went came Opened = link_entry (codes "open") ∷ []
entries_of_act went came Unopened = link_entry (codes "not open") ∷ []
entries_of_act went came _ = []

-- what is pending of the sent bytes after an act, where `went` was pending before it: nothing after a close
abbrev pub went_after : Unwritten → Act → Unwritten
went_after went (Put bytes) = pending_after went bytes
went_after went (Cut bytes count) = pending_after went (take count bytes)
went_after went Closed = nothing_pending
went_after went _ = went

-- what is pending of the received bytes after an act, where `came` was pending before it: nothing after a close
abbrev pub came_after : Unwritten → Act → Unwritten
came_after came (Gave bytes m) = pending_after came bytes
came_after came Closed = nothing_pending
came_after came _ = came

-- a log took these lines, at the moment that it had and keeps, and these are pending then of the sent and of the received bytes
pub record LogsEntries (old new : LogSeen) (es : List Entry) (sent received : Unwritten) : Type 0 where
  pub took : TakesUnlessFailed old.sink new.sink (log_text_of old.utc es)
  pub went : new.went ≡ sent
  pub came : new.came ≡ received
  pub utc : new.utc ≡ old.utc

-- a log took the lines of an act, at its moment (`utc_of`), and keeps what is then pending
abbrev pub Logs : (old new : LogSeen) → Act → Type 0
Logs old new act =
    LogsEntries (record old { utc = utc_of old.utc act }) new (entries_of_act old.went old.came act) (went_after old.went act) (came_after old.came act)

-- the sink that a link's log is written into
abbrev pub sink_of : {L K : Type 0} → Logged L K → K
sink_of logged = logged.log.lines.sink
