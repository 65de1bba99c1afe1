-- A text that is read whole from a source: this project's own.
use Rattle.std.specs.Prelude.{◌≡◌, ℕ, ◌+◌, ◌≤◌, Bool, true, false, List, length, MatchResult, Result}
use Rattle.gc_texts.specs.declared.text.TheConstants.{TEXT_LIMIT}
use Rattle.gc_texts.specs.declared.fault.RunFault.{RunFault}
use Rattle.gc_texts.specs.declared.fault.RunFault.TheVariants.{Read, Memory, InputTooLong}

-- a source gave these bytes, and the reading of a text ended with this fault: `InputTooLong` after one byte more than a text may have,
-- `Read` and `Memory` after no more than it may have
abbrev pub IsReadFault : List ℕ → RunFault → Type 0
IsReadFault given Read = length given ≤ TEXT_LIMIT
IsReadFault given InputTooLong = length given ≡ TEXT_LIMIT + 1
IsReadFault given Memory = length given ≤ TEXT_LIMIT
IsReadFault given _ = ⊥

-- whether a source has failed once a reading of it ended with this fault; `failed` is whether it had failed before the reading
abbrev pub read_failed : RunFault → (failed : Bool) → Bool
read_failed Read failed = true
read_failed _ failed = failed

-- `old` says whether the source had failed before a reading with this result, and `new` whether it has after it: with the fault `Read` it
-- has, and with any other result `new` is `old`
abbrev pub FailsAtRead : {A : Type 0} → (old new : Bool) → Result A RunFault → Type 0
FailsAtRead old new result = MatchResult result (λ _. new ≡ old) (λ fault. new ≡ read_failed fault old)

-- how many reads gave no byte: one if the source has ended, else none
abbrev pub end_reads : (ended : Bool) → ℕ
end_reads true = 1
end_reads false = 0
