-- What went through a stream, where a transcript keeps it: this project's own. `old` and `new` are what is seen of a source before
-- and after a call.
use Rattle.gc_logs.specs.Common.{Input, input_of, GaveBytes, WasRead, IsUnread, RunFault}
use Rattle.std.specs.Prelude.{◌≡◌, ℕ, List, ◌++◌, take, Result, Ok, Err}
use Rattle.gc_lines.specs.declared.ports.Source.{Ghosts as Source}
use Rattle.gc_logs.specs.declared.heard.Heard.{Heard}

-- a read gave the first n bytes of `buf`, and exactly these were noted; a read that failed gave none, and nothing was noted. `old`
-- and `new` are the bytes that were noted before and after it
abbrev pub NotesRead : {E : Type 0} → (old new : List ℕ) → Result ℕ E → (buf : List ℕ) → Type 0
NotesRead old new (Ok n) buf = new ≡ old ++ take n buf
NotesRead old new (Err _) buf = new ≡ old

-- what is seen of a source that notes what its reads gave: what is seen of the source inside, and the bytes that its reads gave so
-- far
pub record Hearing : Type 0 where
  pub input : Input
  pub heard : List ℕ

-- what is seen of this source, by the ghost members of the source inside
abbrev pub hearing_of : {S : Type 0} → Source S → Heard S → Hearing
hearing_of of_source source = record { input = input_of of_source source.source; heard = source.heard.bytes }

-- the reads of a source gave some bytes, as `GaveBytes` says, exactly these were noted, and `claim` holds of them
abbrev pub HeardBytes : (old new : Hearing) → (claim : List ℕ → Type 0) → Type 0
HeardBytes old new claim = GaveBytes old.input new.input (λ given. (new.heard ≡ old.heard ++ given) × claim given)

-- the reads of a source gave exactly this text, to its end, and it is within the limit
abbrev pub HearsText : (old new : Hearing) → (text : List ℕ) → Type 0
HearsText old new text = HeardBytes old new (λ given. (given ≡ text) × WasRead given old.input new.input)

-- the reads of a source gave no whole text, for the reason that this fault says
abbrev pub HearsNoText : (old new : Hearing) → RunFault → Type 0
HearsNoText old new fault = HeardBytes old new (λ given. IsUnread given old.input new.input fault)
