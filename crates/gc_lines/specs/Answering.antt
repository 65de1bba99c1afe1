-- Frames that are answered, one after the other, each with a text or with nothing, from a source to a sink: this project's own.
use Rattle.std.specs.Prelude.{◌≡◌, ◌↔◌, ℕ, ◌+◌, ◌-◌, ◌*◌, ◌<◌, ◌≤◌, Bool, true, false, List, [], ◌∷◌, ◌++◌, length, take, Option, Some, None, Result, Ok, Err, IsOk, IsErrAnd, OnOk, codes}
use Rattle.std.specs.Fmt.{decimal}
use Rattle.std.specs.Io.KnownBytes.{Appends, Consumes, IsAtEnd}
use Rattle.std.specs.List.{flat_map}
use Rattle.std.specs.Option.{option_to_list}
use Rattle.arrayvec.specs.ArrayVec.{ArrayVec, array_vec_len}
use Rattle.gc_lines.specs.Frames.{frames}
use Rattle.gc_lines.specs.declared.frame.Frame.{Frame}
use Rattle.gc_lines.specs.declared.ports.Source.{Ghosts as Source}
use Rattle.gc_lines.specs.declared.ports.Sink.{Ghosts as Sink}
use Rattle.gc_lines.specs.declared.served.Served.{Served}
use Rattle.gc_lines.specs.declared.served.ServeFault.{ServeFault}
use Rattle.gc_lines.specs.declared.served.ServeFault.TheVariants.{Read, Write, TooManyReads}

-- the number of a fault that ends a run
abbrev pub serve_fault_number : ServeFault → ℕ
serve_fault_number (Read _) = 42
serve_fault_number (Write _ _) = 43
serve_fault_number (TooManyReads _) = 44

-- how a printed fault begins: the word "fault" and its number
abbrev pub numbered_fault : ℕ → List ℕ
numbered_fault number = codes "fault " ++ decimal number

-- what is printed after the number of a failed write: how many replies were written whole, and how many bytes of the next
abbrev pub how_far : (replies bytes : ℕ) → List ℕ
how_far replies bytes = codes " reply " ++ (decimal replies ++ (codes " byte " ++ decimal bytes))

-- the text of a fault that ends a run, as it is printed
abbrev pub serve_fault_text : ServeFault → List ℕ
serve_fault_text (Read _) = numbered_fault 42
serve_fault_text (Write replies bytes) = numbered_fault 43 ++ how_far replies bytes
serve_fault_text (TooManyReads _) = numbered_fault 44

-- what answering an item, such as a frame or a line, may do: the state before the item, the item, the state after it, and the
-- text that answers it, if there is one
abbrev pub AnswerRule : (State Item : Type 0) → Type 1
AnswerRule State Item = State → Item → State → Option (List ℕ) → Type 0

-- by the rule, answering the items one after the other takes the state from `before` to `after`, and these are the texts in
-- order
abbrev pub AnswersInOrder : (State Item : Type 0) → AnswerRule State Item → (before : State) → List Item → (after : State)
    → (texts : List (List ℕ)) → Type 0
AnswersInOrder State Item rule before [] after texts = (after ≡ before) × (texts ≡ [])
AnswersInOrder State Item rule before (item ∷ later) after texts =
    (state : State) × (text : Option (List ℕ)) × (rest : List (List ℕ))
    × rule before item state text × AnswersInOrder State Item rule state later after rest × (texts ≡ option_to_list text ++ rest)

-- texts as they are written, one after the other
abbrev pub all_of : List (List ℕ) → List ℕ
all_of texts = flat_map (λ text. text) texts

-- how far a run has come: the answerer's state, the bytes that the sink took, where they are known, and how many texts it took
-- whole
pub record Progress (State : Type 0) : Type 0 where
  pub state : State
  pub taken : Option (List ℕ)
  pub whole : ℕ

-- the progress with this state, these bytes, and this many texts
abbrev pub progress : {State : Type 0} → State → (taken : Option (List ℕ)) → (whole : ℕ) → Progress State
progress state taken whole = record { state = state; taken = taken; whole = whole }

-- between the progress `from` and `to` all of the frames `seen` were answered by the rule, and the sink took all of their texts
pub record AnswersAll {State : Type 0} (rule : AnswerRule State Frame) (from to : Progress State) (seen : List Frame) : Type 0 where
  pub texts : List (List ℕ)
  pub answers : AnswersInOrder State Frame rule from.state seen to.state texts
  pub counts : to.whole ≡ from.whole + length texts
  pub took : Appends from.taken to.taken (all_of texts)

-- between the progress `from` and `to` the frames `seen` were answered by the rule up to one, `frame`, and including it. Of the
-- text of `frame` the sink took only the first `bytes` bytes, and not all
pub record AnswersPart {State : Type 0} (rule : AnswerRule State Frame) (from to : Progress State) (seen : List Frame) (bytes : ℕ) : Type 0 where
  -- the frames whose texts were taken whole, the one whose text was cut, and those after it
  pub earlier : List Frame
  pub frame : Frame
  pub later : List Frame
  pub order : seen ≡ earlier ++ frame ∷ later
  -- the state after the earlier frames, and their texts
  pub state : State
  pub texts : List (List ℕ)
  pub answers : AnswersInOrder State Frame rule from.state earlier state texts
  -- the text that was cut
  pub text : List ℕ
  pub gives : rule state frame to.state (Some text)
  pub counts : to.whole ≡ from.whole + length texts
  pub not_all : bytes < length text
  pub took : Appends from.taken to.taken (all_of texts ++ take bytes text)

-- by the result of a run: `Whole` of how many texts were written whole or, after a failed write, `Cut` of that number and of how
-- many bytes were written of the next text
abbrev pub WholeOrCut : (Whole : ℕ → Type 0) → (Cut : (count bytes : ℕ) → Type 0) → Result Served ServeFault → Type 0
WholeOrCut Whole Cut (Ok served) = Whole served.replies
WholeOrCut Whole Cut (Err (Read count)) = Whole count
WholeOrCut Whole Cut (Err (Write count bytes)) = Cut count bytes
WholeOrCut Whole Cut (Err (TooManyReads count)) = Whole count

-- which of the frames `seen`, all that were read, were answered, by the result of the run: all of them, or after a failed write
-- those up to the one whose text was cut. That took the answerer from the state `from` to `to`, and what the sink has taken,
-- where that is known, grew from `old` to `new`
abbrev pub AnswersFrames : {State : Type 0} → AnswerRule State Frame → (from to : State) → (seen : List Frame) → (old new : Option (List ℕ))
    → Result Served ServeFault → Type 0
AnswersFrames rule from to seen old new result =
    WholeOrCut (λ count. AnswersAll rule (progress from old 0) (progress to new count) seen)
    (λ count bytes. AnswersPart rule (progress from old 0) (progress to new count) seen bytes) result

-- what is seen of a source and a sink: the bytes that are still to come and those that were taken, where they are known, how many
-- reads were answered and whether the last was the end, and whether each port has failed
pub record Ports : Type 0 where
  pub remaining : Option (List ℕ)
  pub reads : ℕ
  pub ended : Bool
  pub source_failed : Bool
  pub taken : Option (List ℕ)
  pub sink_failed : Bool

-- what is seen of this source and this sink, by the ghost members of their traits
abbrev pub ports_of : {S K : Type 0} → Source S → S → Sink K → K → Ports
ports_of of_source source of_sink sink = record {
  remaining = of_source.remaining source;
  reads = of_source.reads source;
  ended = of_source.ended source;
  source_failed = of_source.failed source;
  taken = of_sink.taken sink;
  sink_failed = of_sink.failed sink;
}

-- what is seen of a sink: the bytes that it has taken, where they are known, and whether it has failed
pub record Taken : Type 0 where
  pub bytes : Option (List ℕ)
  pub failed : Bool

-- what is seen of this sink, by the ghost members of its trait
abbrev pub taken_by : {K : Type 0} → Sink K → K → Taken
taken_by of_sink sink = record { bytes = of_sink.taken sink; failed = of_sink.failed sink }

-- what each result of a run of at most `most` reads says of the ports before (`old`) and after it (`new`). Where no read was
-- answered, `ended` is left from an earlier run, and nothing is claimed of it
abbrev pub EndsBecause : (old new : Ports) → (most : ℕ) → Result Served ServeFault → Type 0
-- a read was answered, and the last was the end; so the source hasn't failed. Whether the sink has failed is as it was before
EndsBecause old new most (Ok _) =
    (old.reads < new.reads) × (new.reads ≤ old.reads + most) × (new.ended ≡ true)
    × (new.source_failed ≡ false) × (new.sink_failed ≡ old.sink_failed)
-- a read failed at the source, so fewer than `most` were answered, and none was the end. Whether the sink has failed is as it
-- was before
EndsBecause old new most (Err (Read _)) =
    (new.reads < old.reads + most) × (old.reads < new.reads → new.ended ≡ false)
    × (new.source_failed ≡ true) × (new.sink_failed ≡ old.sink_failed)
-- the sink failed, after a read that was answered and wasn't the end; so the source hasn't failed
EndsBecause old new most (Err (Write _ _)) =
    (old.reads < new.reads) × (new.reads ≤ old.reads + most) × (new.ended ≡ false)
    × (new.source_failed ≡ false) × (new.sink_failed ≡ true)
-- all `most` reads were answered, and none was the end. Whether each port has failed is as it was before
EndsBecause old new most (Err (TooManyReads _)) =
    (new.reads ≡ old.reads + most) × (old.reads < new.reads → new.ended ≡ false)
    × (new.source_failed ≡ old.source_failed) × (new.sink_failed ≡ old.sink_failed)

-- answering in at most `most` reads took the ports from `old` to `new`, and gave this result
pub record HasEnded (old new : Ports) (most : ℕ) (result : Result Served ServeFault) : Type 0 where
  -- where the result is `Ok`, the source has no byte left
  pub whole : OnOk result (IsAtEnd new.remaining)
  -- why the run ended
  pub ends : EndsBecause old new most result
  -- the result is `Ok` exactly where a read was answered and the last one was the end
  pub served : IsOk result ↔ ((old.reads < new.reads) × (new.ended ≡ true))
  -- of a port that hadn't failed before: the fault is 42 exactly where the source failed, and 43 exactly where the sink did
  pub read : old.source_failed ≡ false → IsErrAnd result (λ fault. serve_fault_number fault ≡ 42) ↔ (new.source_failed ≡ true)
  pub write : old.sink_failed ≡ false → IsErrAnd result (λ fault. serve_fault_number fault ≡ 43) ↔ (new.sink_failed ≡ true)
  -- of ports that hadn't failed before: the fault is 44 exactly where all reads were answered, none was the end, and no port
  -- failed
  pub too_many : old.source_failed ≡ false → old.sink_failed ≡ false → IsErrAnd result (λ fault. serve_fault_number fault ≡ 44)
      ↔ ((new.reads ≡ old.reads + most) × (old.reads < new.reads → new.ended ≡ false) × (new.source_failed ≡ false) × (new.sink_failed ≡ false))

-- the source, which had the bytes `old` and has the bytes `new` still to give, gave some in so many reads, at most 256 in each,
-- and `Is` is true of those that it gave
abbrev pub GaveInReads : (old new : Option (List ℕ)) → (reads : ℕ) → (Is : List ℕ → Type 0) → Type 0
GaveInReads old new reads Is = (given : List ℕ) × Consumes old new given × (length given ≤ 256 * reads) × Is given

-- a run of at most `most` reads took the ports from `old` to `new`, and had this result
pub record IsRunOverPorts (does : (given : List ℕ) → (old new : Option (List ℕ)) → Result Served ServeFault → Type 0) (old new : Ports) (most : ℕ)
    (result : Result Served ServeFault) : Type 0 where
  -- `does` says, by the result, what the sink took for the bytes that the source gave
  pub did : GaveInReads old.remaining new.remaining (new.reads - old.reads) (λ given. does given old.taken new.taken result)
  -- why the run ended, and what that says of the ports
  pub ended : HasEnded old new most result

-- the frames of the bytes that the source gave were answered, and the sink took the texts, as far as `AnswersFrames` says by the
-- result. `from` and `to` are the answerer's states before and after the run, `old` and `new` the ports
abbrev pub AnswersGiven : {State : Type 0} → AnswerRule State Frame → (from to : State) → (old new : Ports) → Result Served ServeFault → Type 0
AnswersGiven rule from to old new result =
    GaveInReads old.remaining new.remaining (new.reads - old.reads) (λ given. AnswersFrames rule from to (frames given) old.taken new.taken result)

-- the state `reached`, to which the answered frames took an answerer, may be followed by the state `end` at the end of the call.
-- Without `gathers` the two are one; with `gathers` the answerer may have got later frames between them
abbrev pub MayEndIn : {State : Type 0} → (gathers : Bool) → (reached end : State) → Type 0
MayEndIn gathers reached end = gathers ≡ false → reached ≡ end

-- a run answered as `AnswersGiven` says, which took the answerer from the state `from` to one from which it may end in `to`
-- (`MayEndIn`)
abbrev pub AnswersRun : {State : Type 0} → AnswerRule State Frame → (from to : State) → (old new : Ports) → (gathers : Bool)
    → Result Served ServeFault → Type 0
AnswersRun {State} rule from to old new gathers result =
    (reached : State) × AnswersGiven rule from reached old new result × MayEndIn gathers reached to

-- what an answerer did with the text that it was handed, `old` before the call and `new` after it: it appended its answer to a
-- frame (`appended` is true), or it had no answer and left the text as it is (false). `answered` says which answers it may give,
-- and whether it may give none
abbrev pub AppendsAnswer : (answered : Option (List ℕ) → Type 0) → (old new : List ℕ) → (appended : Bool) → Type 0
AppendsAnswer answered old new true = (text : List ℕ) × answered (Some text) × (new ≡ old ++ text)
AppendsAnswer answered old new false = answered None × (new ≡ old)

-- a text with room for so many bytes has room for one reply more, of at most 512
abbrev pub HasRoomForReply : (room : ℕ) → ArrayVec ℕ → Type 0
HasRoomForReply room text = array_vec_len text + 512 ≤ room

-- a text has at most the 512 bytes of a reply more than before
abbrev pub GrowsByReply : (old new : List ℕ) → Type 0
GrowsByReply old new = length new ≤ length old + 512

-- texts to be sent have room for one answer more, of at most 514 bytes, its line end counted
abbrev pub HasRoomForAnswer : ArrayVec ℕ → Type 0
HasRoomForAnswer text = array_vec_len text + 514 ≤ 8192

-- texts to be sent have at most the 514 bytes of an answer more than before
abbrev pub GrowsByAnswer : (old new : List ℕ) → Type 0
GrowsByAnswer old new = length new ≤ length old + 514

-- `new` is `old` and then a text of which `Is` is true
pub record AppendsText (Is : List ℕ → Type 0) (old new : List ℕ) : Type 0 where
  pub text : List ℕ
  pub appended : new ≡ old ++ text
  pub is : Is text
