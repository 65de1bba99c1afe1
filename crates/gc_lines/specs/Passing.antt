-- No part of a promise: what the functions inside the answering loop say of a piece of the stream. Their parameters `from` and
-- `to` are the progress before and after the call, `old` and `new` the sessions, and `sink_old` and `sink_new` the sinks.
use Rattle.std.specs.Prelude.{◌≡◌, ℕ, ◌+◌, ◌-◌, ◌<◌, Bool, false, List, [], ◌∷◌, ◌++◌, length, map, nat_lt, if◌then◌else◌, Option, Result, Ok, Err}
use Rattle.std.specs.List.{filter_map}
use Rattle.std.specs.Io.KnownBytes.{Appends}
use Rattle.gc_lines.specs.Answering.{AnswerRule, AnswersInOrder, AnswersAll, AnswersPart, HasRoomForAnswer, MayEndIn, Progress, all_of, progress}
use Rattle.gc_lines.specs.Assembler.{StandsFor}
use Rattle.gc_lines.specs.Frames.{frame_of, line_in, pieces_behind, rest_behind}
use Rattle.gc_lines.specs.Ports.{TakesFront}
use Rattle.gc_lines.specs.declared.frame.Frame.{Frame}
use Rattle.gc_lines.specs.declared.frame.Frame.TheVariants.{More}
use Rattle.gc_lines.specs.declared.ports.Sink.{Ghosts as Sink}
use Rattle.gc_lines.specs.declared.session.Session.{Session}

-- the frames that a piece completes, where the bytes `rest`, which no line feed ends yet, came before it
abbrev pub frames_behind : (rest piece : List ℕ) → List Frame
frames_behind rest piece = map frame_of (pieces_behind rest piece)

-- the lines that a piece completes, where the bytes `rest`, which no line feed ends yet, came before it
abbrev pub lines_completed : (rest piece : List ℕ) → List (List ℕ)
lines_completed rest piece = filter_map line_in (frames_behind rest piece)

-- the frame, in a list of its own, where a line feed has ended it; the empty list where none came yet
abbrev pub completed : Frame → List Frame
completed More = []
completed frame = frame ∷ []

-- how many texts of a session were written whole, or wait
abbrev pub texts_in : Session → ℕ
texts_in session = session.replies + length session.lengths

-- the progress of an answerer in this state, of this sink, and of a session
abbrev pub session_progress : {State K : Type 0} → Sink K → State → K → Session → Progress State
session_progress of_sink state sink session = progress state (of_sink.taken sink) session.replies

-- between the progress `from` and `to` the frames `seen` were answered; the texts of the first ones, `done`, went out, and those
-- of the others, `held`, wait in `text`, with these lengths. `state` is the answerer's state after the frames `done`
pub record Gathering {State : Type 0} (rule : AnswerRule State Frame) (from to : Progress State) (seen : List Frame) (text lengths : List ℕ) : Type 0 where
  pub state : State
  pub done : List Frame
  pub held : List Frame
  pub texts : List (List ℕ)
  pub order : seen ≡ done ++ held
  pub all : AnswersAll rule from (progress state to.taken to.whole) done
  pub holds : AnswersInOrder State Frame rule state held to.state texts
  pub text_is : text ≡ all_of texts
  pub lengths_are : lengths ≡ map length texts

-- between the progress `from` and `to` the frames `seen` were answered up to one of whose text the sink took only the first
-- `bytes` bytes, as `AnswersPart` has it; `reached` is the answerer's state after that frame, and `to` has its state at the end
pub record GathersPart {State : Type 0} (rule : AnswerRule State Frame) (from to : Progress State) (seen : List Frame) (bytes : ℕ)
    (gathers : Bool) : Type 0 where
  pub reached : State
  pub part : AnswersPart rule from (progress reached to.taken to.whole) seen bytes
  pub alone : MayEndIn gathers reached to.state

-- what became of one more frame (`More`: none), by the result of the call, if `Gathering` was true of the frames `seen` before
-- it, from whatever `start`. `Ok`: `Gathering` is true of these and the frame. `Err`: these and the frame were answered up to one
-- whose text was cut, as `GathersPart` has it
abbrev pub GathersFrame : {State : Type 0} → AnswerRule State Frame → (from to : Progress State) → (old new : Session) → Frame
    → Result (Unit {0}) ℕ → Type 0
GathersFrame {State} rule from to old new frame (Ok _) =
    (start : Progress State) (seen : List Frame)
    → Gathering rule start from seen old.text.items old.lengths
    → Gathering rule start to (seen ++ completed frame) new.text.items new.lengths
GathersFrame {State} rule from to old new frame (Err bytes) =
    (start : Progress State) (seen : List Frame)
    → Gathering rule start from seen old.text.items old.lengths
    → GathersPart rule start to (seen ++ completed frame) bytes old.gathers

-- what became of a piece, by the result of the call, for whatever bytes `rest` the assembler stood for before it. `Ok`: all
-- frames that the piece completes were answered, all of their texts went out, and the assembler stands for what is left
-- (`rest_behind`). `Err`: the frames were answered up to one whose text was cut, as `GathersPart` has it
abbrev pub AnswersPiece : {State : Type 0} → AnswerRule State Frame → (from to : Progress State) → (old new : Session) → (piece : List ℕ)
    → Result (Unit {0}) ℕ → Type 0
AnswersPiece rule from to old new piece (Ok _) =
    (rest : List ℕ) → StandsFor old.assembler rest
    → StandsFor new.assembler (rest_behind rest piece) × AnswersAll rule from to (frames_behind rest piece)
AnswersPiece rule from to old new piece (Err bytes) =
    (rest : List ℕ) → StandsFor old.assembler rest → GathersPart rule from to (frames_behind rest piece) bytes old.gathers

-- no text waits
abbrev pub NoneWait : Session → Type 0
NoneWait session = (session.text.items ≡ []) × (session.lengths ≡ [])

-- a call changed nothing of a session but the texts that wait, their lengths, and the count of the texts that went out
abbrev pub ChangesTextsAlone : (old new : Session) → Type 0
ChangesTextsAlone old new = (new.assembler ≡ old.assembler) × (new.gathers ≡ old.gathers)

-- a session has room for one more text of at most 514 bytes, and for its length; and without `gathers` no text waits
pub record HasRoomForText (session : Session) : Type 0 where
  pub for_text : HasRoomForAnswer session.text
  pub for_length : length session.lengths < 256
  pub alone : session.gathers ≡ false → session.lengths ≡ []

-- where a sink took the first `taken` bytes of texts with these lengths: how many texts it took whole, `whole` earlier ones
-- included, and how many bytes of the next text it took
abbrev pub whole_and_part : (whole taken : ℕ) → List ℕ → ℕ × ℕ
whole_and_part whole taken [] = (whole, taken)
whole_and_part whole taken (n ∷ ns) = if nat_lt taken n then (whole, taken) else whole_and_part (whole + 1) (taken - n) ns

-- a sink took only a front of `text`, which is texts with these lengths, one after the other: some of them whole, by which their
-- count grew from `whole` to `total`, and `bytes` bytes of the next. `old` and `new` are what it has taken, before and after
abbrev pub TakesTextsPart : (old new : Option (List ℕ)) → (whole total : ℕ) → (text lengths : List ℕ) → (bytes : ℕ) → Type 0
TakesTextsPart old new whole total text lengths bytes = (n : ℕ) × TakesFront old new n text × ((total, bytes) ≡ whole_and_part whole n lengths)

-- what became of the texts that waited, by the result of the call that writes them. `Ok`: all were written, and were counted.
-- `Err`: the sink took only a first part of them, which may be empty; the texts that it took whole were counted, and of the next
-- one it took `bytes` bytes
abbrev pub WritesWaiting : {K : Type 0} → Sink K → (sink_old sink_new : K) → (old new : Session) → Result (Unit {0}) ℕ → Type 0
WritesWaiting of_sink sink_old sink_new old new (Ok _) =
    Appends (of_sink.taken sink_old) (of_sink.taken sink_new) old.text.items × (new.replies ≡ texts_in old)
WritesWaiting of_sink sink_old sink_new old new (Err bytes) =
    TakesTextsPart (of_sink.taken sink_old) (of_sink.taken sink_new) old.replies new.replies old.text.items old.lengths bytes
