-- How a command of a station's setup or cycle ended: this project's own.
use Rattle.gc_texts.specs.Common.{Answer, ValueFault}
use Rattle.std.specs.Prelude.{ℕ, List, [], Option, Some, None, option_map, codes}
use Rattle.gc_texts.specs.Judgements.{judgement_word}
use Rattle.gc_texts.specs.Qualities.{quality_word}
use Rattle.gc_texts.specs.declared.judgement.Judgement.{Judgement}
use Rattle.gc_texts.specs.declared.quality.Quality.{Quality}
use Rattle.gc_texts.specs.declared.ending.Ending.{Ending}
use Rattle.gc_texts.specs.declared.ending.Ending.TheVariants as ending

-- how a command of a station's setup or cycle ended
pub data End : Type 0 where
  -- its reply came in time, with this line, and is an answer of this quality. `answer` is what the reply's values read as, where
  -- both codes are 0, or where the return code is accepted and the values would read with return code 0; else it is `None`
  Answered : (quality : Quality) (answer : Option Answer) (line : List ℕ) → End
  -- its reply came in time, with this line, whose codes are 0, and whose values have this fault
  Unreadable : (line : List ℕ) (fault : ValueFault) → End
  -- its reply came in time, with this line, and is an answer that isn't refused; but a rule of the text set it aside so
  Judged : (judgement : Judgement) (line : List ℕ) → End
  -- a reply to it came after it had timed out
  Late : End
  -- no reply came, and one that still comes will be ignored
  Lost : End
  -- it wasn't sent, because the command before it in its chain wasn't answered well, or because after that command was sent a
  -- connection was closed or the station resynchronized
  Skipped : End
  -- it wasn't sent, because a value that its request takes of a file wasn't there
  NoValue : End
  -- it wasn't sent, because its cycle couldn't begin before the next was due
  Missed : End

-- an ending of the code as an `End`: its answer by its value, and the reply's line by its bytes
abbrev pub ending_seen : Ending → End
ending_seen (ending.Answered quality answer line) = Answered quality (option_map (λ a. a.now) answer) line.now.items
ending_seen (ending.Unreadable line fault) = Unreadable line.now.items fault
ending_seen (ending.Judged judgement line) = Judged judgement line.now.items
ending_seen ending.Late = Late
ending_seen ending.Lost = Lost
ending_seen ending.Skipped = Skipped
ending_seen ending.NoValue = NoValue
ending_seen ending.Missed = Missed

-- the word of an ending in records
abbrev pub word_of : End → List ℕ
word_of (Answered quality answer line) = codes "answered"
word_of (Unreadable line fault) = codes "unreadable"
word_of (Judged judgement line) = judgement_word judgement
word_of Late = codes "late"
word_of Lost = codes "lost"
word_of Skipped = codes "skipped"
word_of NoValue = codes "no_value"
word_of Missed = codes "missed"

-- the fault of the reply's values, if the ending is `Unreadable`
abbrev pub fault_of : End → Option ValueFault
fault_of (Unreadable line fault) = Some fault
fault_of _ = None

-- the line of the command's reply, if one came in time
abbrev pub line_of : End → Option (List ℕ)
line_of (Answered quality answer line) = Some line
line_of (Unreadable line fault) = Some line
line_of (Judged judgement line) = Some line
line_of _ = None

-- the quality of the command's answer, if the ending is `Answered`
abbrev pub quality_of : End → Option Quality
quality_of (Answered quality answer line) = Some quality
quality_of _ = None

-- the word of an answer's quality in records; empty if there is no answer
abbrev pub quality_text : Option Quality → List ℕ
quality_text (Some quality) = quality_word quality
quality_text None = []
