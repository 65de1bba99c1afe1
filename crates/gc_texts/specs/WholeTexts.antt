-- Texts that are read whole from a source, what they give, and why they are refused: this project's own.
use Rattle.gc_texts.specs.Common.{Consumes, IsAtEnd, Ports}
use Rattle.std.specs.Prelude.{◌≡◌, ℕ, ◌+◌, ◌<◌, ◌≤◌, ◌⊎◌, Bool, true, false, List, length, Option}
use Rattle.gc_lines.specs.declared.ports.Source.{Ghosts as Source}
use Rattle.gc_texts.specs.Commands.{IsCommand, IsCommands}
use Rattle.gc_texts.specs.LineForms.{TextFault}
use Rattle.gc_texts.specs.Texts.{IsReadFault, read_failed, end_reads}
use Rattle.gc_texts.specs.declared.commands.Command.{Command}
use Rattle.gc_texts.specs.declared.text.TheConstants.{TEXT_LIMIT}
use Rattle.gc_texts.specs.declared.fault.RunFault.{RunFault}
use Rattle.gc_texts.specs.declared.fault.RunFault.TheVariants.{Memory}

-- what is seen of a source: the bytes still to come, where they are known, how many reads were answered, whether the last was the end, and
-- whether it has failed
pub record Input : Type 0 where
  pub remaining : Option (List ℕ)
  pub reads : ℕ
  pub ended : Bool
  pub failed : Bool

-- what is seen of this source, by the ghost members of its trait
abbrev pub input_of : {S : Type 0} → Source S → S → Input
input_of of_source source =
    record { remaining = of_source.remaining source; reads = of_source.reads source; ended = of_source.ended source; failed = of_source.failed source }

-- what is seen of the source of these ports
abbrev pub source_of : Ports → Input
source_of ports = record { remaining = ports.remaining; reads = ports.reads; ended = ports.ended; failed = ports.source_failed }

-- a source gave these bytes with at most one read for each of them, and one for its end
abbrev pub ReadsFew : (old new : Input) → List ℕ → Type 0
ReadsFew old new given = new.reads ≤ old.reads + length given + end_reads new.ended

-- a source gave some bytes, with few reads (`ReadsFew`), and `claim` holds of these bytes
abbrev pub GaveBytes : (old new : Input) → (claim : List ℕ → Type 0) → Type 0
GaveBytes old new claim = (given : List ℕ) × Consumes old.remaining new.remaining given × ReadsFew old new given × claim given

-- reading took a source from `old` to `new`, with few reads (`ReadsFew`), and gave this text, which is within the limit
abbrev pub ReadsText : (old new : Input) → (text : List ℕ) → Type 0
ReadsText old new text = Consumes old.remaining new.remaining text × (length text ≤ TEXT_LIMIT) × ReadsFew old new text

-- reading took a source from `old` to `new`, as `GaveBytes` says, and gave no text, for the reason that this fault says
abbrev pub ReadsNoText : (old new : Input) → RunFault → Type 0
ReadsNoText old new fault = GaveBytes old new (λ given. IsReadFault given fault)

-- reading took a source from `old` to `new`, by one read or more, of which the last was the end, and the source has no byte left
abbrev pub IsReadToEnd : (old new : Input) → Type 0
IsReadToEnd old new = IsAtEnd new.remaining × (new.ended ≡ true) × (old.reads < new.reads)

-- a source gave a text within the limit, to its end (`IsReadToEnd`), and has failed exactly if it had before
pub record WasRead (given : List ℕ) (old new : Input) : Type 0 where
  pub within : length given ≤ TEXT_LIMIT
  pub to_end : IsReadToEnd old new
  pub failed : new.failed ≡ old.failed

-- a text wasn't read to its end, for the reason that this fault says: `IsReadFault` says how many bytes came, and `read_failed`
-- whether the source has failed. With `Memory`, for which memory was refused, at least one byte came, and the source hasn't ended
pub record IsUnread (given : List ℕ) (old new : Input) (fault : RunFault) : Type 0 where
  pub fault_is : IsReadFault given fault
  pub failed : new.failed ≡ read_failed fault old.failed
  pub memory : fault ≡ Memory → (0 < length given) × (new.ended ≡ false)

-- why the text that a source gave was refused: it wasn't read to its end (`IsUnread`), or it was, and `HasFault` says that it has
-- this fault
abbrev pub RefusesText : (HasFault : List ℕ → RunFault → Type 0) → (given : List ℕ) → (old new : Input) → RunFault → Type 0
RefusesText HasFault given old new fault = IsUnread given old new fault ⊎ (WasRead given old new × HasFault given fault)

-- a source gave a command text, to its end, and the text gives these commands
pub record GivesCommands (given : List ℕ) (old new : Input) (commands : List Command) : Type 0 where
  pub read : WasRead given old new
  pub are : IsCommands given commands

-- this fault says why a source gave no commands: its text wasn't read to its end; or it was, and it is no command text, or memory was
-- refused for its commands (`TextFault`)
abbrev pub RefusesCommands : (given : List ℕ) → (old new : Input) → RunFault → Type 0
RefusesCommands given old new fault = RefusesText (TextFault IsCommand) given old new fault

-- reading took a source from `old` to `new`, and gave the commands of the text that came
abbrev pub ReadsCommands : (old new : Input) → List Command → Type 0
ReadsCommands old new commands = GaveBytes old new (λ given. GivesCommands given old new commands)

-- reading took a source from `old` to `new`, and gave no commands, for the reason that this fault says
abbrev pub ReadsNoCommands : (old new : Input) → RunFault → Type 0
ReadsNoCommands old new fault = GaveBytes old new (λ given. RefusesCommands given old new fault)
