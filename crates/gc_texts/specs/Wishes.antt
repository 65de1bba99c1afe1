-- Wishes: what a station is to ask, and of which target: a procedure of the table, or any other with its parameters as they are. This
-- project's own.
use Rattle.gc_texts.specs.Common.{Asked, Table, Raw, raw_bytes, RawCall}
use Rattle.std.specs.Prelude.{◌≡◌, ◌⊎◌, ◌<◌, ℕ, List, length, codes}
use Rattle.gc_texts.specs.Commands.{IsCommand}
use Rattle.gc_texts.specs.Procedures.{IsProcedureText, IsRpc, IsTarget}
use Rattle.gc_texts.specs.Cuts.{behind}
use Rattle.gc_texts.specs.Words.{first_word, second_word, third_word, after_two_words, after_three_words}
use Rattle.gc_texts.specs.declared.commands.Command.{Command}
use Rattle.gc_texts.specs.declared.wish.Wish.{Wish}
use Rattle.gc_texts.specs.declared.wording.Wording.{Wording}
use Rattle.gc_texts.specs.declared.wording.Wording.TheVariants.{Plain, Described, Now}

-- the wish that asks what a command asks, of the same target
abbrev pub wish_of : Command → Wish
wish_of command = record { target = command.target; call = Table command.call }

-- `T raw RPC` or `T raw RPC PARAMS`: the target T, the word `raw`, the number of a procedure that isn't in the table, and
-- its parameters as they are. A space follows the number only where parameters do
pub record IsRawWish (line : List ℕ) (target : ℕ) (raw : RawCall) : Type 0 where
  pub target_is : IsTarget (first_word line) target
  pub word : second_word line ≡ codes "raw"
  pub number : IsRpc (third_word line) raw.rpc
  pub params_are : raw_bytes raw.params ≡ after_three_words line
  pub some : (length (third_word line) ≡ length (after_two_words line)) ⊎ (0 < length (after_three_words line))

-- what follows the target in such a line: `raw RPC` or `raw RPC PARAMS`
pub record IsRawRequest (text : List ℕ) (raw : RawCall) : Type 0 where
  pub word : first_word text ≡ codes "raw"
  pub number : IsRpc (second_word text) raw.rpc
  pub params_are : raw_bytes raw.params ≡ after_two_words text
  pub some : (length (second_word text) ≡ length (behind 32 text)) ⊎ (0 < length (after_two_words text))

-- `RPC` or `RPC PARAMS` of a procedure that isn't in the table, with its parameters as they are
pub record IsOutsideRequest (text : List ℕ) (raw : RawCall) : Type 0 where
  pub number : IsRpc (first_word text) raw.rpc
  pub params_are : raw_bytes raw.params ≡ behind 32 text
  pub some : (length (first_word text) ≡ length text) ⊎ (0 < length (behind 32 text))

-- what follows a target in a line asks for this: a procedure of the table, or any other after the word `raw`
abbrev pub IsRequest : List ℕ → Asked → Type 0
IsRequest text (Table call) = IsProcedureText text call
IsRequest text (Raw raw) = IsRawRequest text raw

-- the line asks this target for `asked`: a call of the table has the form of a command, and any other procedure follows the word
-- `raw`
abbrev pub AsksFor : List ℕ → ℕ → Asked → Type 0
AsksFor line target (Table call) = IsCommand line (record { target = target; call = call })
AsksFor line target (Raw raw) = IsRawWish line target raw

-- the line has the form of this wish
abbrev pub IsWish : List ℕ → Wish → Type 0
IsWish line wish = AsksFor line wish.target wish.call

-- `T RPC` or `T RPC PARAMS` of a procedure that isn't in the table, so that it has to be described: a target's number, and such a
-- request for it
pub record IsDescribedWish (line : List ℕ) (wish : Wish) : Type 0 where
  pub raw : RawCall
  pub target_is : IsTarget (first_word line) wish.target
  pub asks : IsOutsideRequest (behind 32 line) raw
  pub call_is : wish.call ≡ Raw raw

-- the line has the form of this wish in this wording; that of a moment at which the clock is set isn't a wish's
abbrev pub IsWorded : Wording → List ℕ → Wish → Type 0
IsWorded Plain line wish = IsWish line wish
IsWorded Described line wish = IsDescribedWish line wish
IsWorded Now line wish = ⊥
