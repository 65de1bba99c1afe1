-- Lines that are handed to an instrument one after the other, and what is written for a stream of bytes: this project's own.
use Rattle.std.specs.Prelude.{◌≡◌, ℕ, List}
use Rattle.std.specs.List.{flat_map}
use Rattle.gc_lines.specs.Prelude.{AnswersInOrder, with_end, lines}
use Rattle.gc_instrument.specs.State.{State}
use Rattle.gc_instrument.specs.Replying.{IsReplied}

-- the lines, one after the other, lead the instrument from the state `before` to `after`, and these are its replies in order;
-- lines that get no reply have none in the list
abbrev pub Hears : (before : State) → (heard : List (List ℕ)) → (after : State) → (replies : List (List ℕ)) → Type 0
Hears before heard after replies = AnswersInOrder State (List ℕ) IsReplied before heard after replies

-- replies as they are written, each with its CR LF
abbrev pub replies_text : List (List ℕ) → List ℕ
replies_text replies = flat_map with_end replies

-- the bytes are all that an instrument in the state `before` writes for the lines of the stream, and `after` is its state after
-- them. What follows the last line feed of the stream is no line yet
pub record IsOutput (before : State) (stream : List ℕ) (after : State) (bytes : List ℕ) : Type 0 where
  pub replies : List (List ℕ)
  pub hears : Hears before (lines stream) after replies
  pub bytes_are : bytes ≡ replies_text replies
