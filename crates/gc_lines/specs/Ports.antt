-- What a call of a source and of a sink does to what contracts see of them: this project's own. `old` and `new` are what is seen
-- before and after the call: the bytes that a source has still to give, or those that a sink took (`None`: they aren't known, and
-- nothing is claimed of them), or whether a port has failed.
use Rattle.std.specs.Prelude.{◌≡◌, ℕ, ◌+◌, ◌<◌, ◌≤◌, ◌==◌, Bool, true, false, List, length, take, Option, Result, Ok, Err, OnOk, IfErr}
use Rattle.std.specs.Io.KnownBytes.{Consumes, Appends, Keeps, IsAtEnd}

-- a read gave the first n bytes of buf, and n is 0 only where no byte is left; a failed read gave none
abbrev pub GivesBytes : {E : Type 0} → (old new : Option (List ℕ)) → Result ℕ E → (buf : List ℕ) → Type 0
GivesBytes old new (Ok n) buf = (n ≤ length buf) × Consumes old new (take n buf) × (n ≡ 0 → IsAtEnd new)
GivesBytes old new (Err _) buf = Keeps old new

-- an answered read is counted, and was the end exactly where it gave no byte. A failed one changes neither the count nor whether
-- the last answered read was the end
abbrev pub CountsRead : {E : Type 0} → (old_reads new_reads : ℕ) (old_end new_end : Bool) → Result ℕ E → Type 0
CountsRead old_reads new_reads old_end new_end (Ok n) = (new_reads ≡ old_reads + 1) × (new_end ≡ (n == 0))
CountsRead old_reads new_reads old_end new_end (Err _) = (new_reads ≡ old_reads) × (new_end ≡ old_end)

-- a call that asks the port fails exactly where the port has failed after it, and a port stays failed
abbrev pub Fails : {X E : Type 0} → (old new : Bool) → Result X E → Type 0
Fails old new (Ok _) = (old ≡ false) × (new ≡ false)
Fails old new (Err _) = new ≡ true

-- a write took the first n bytes, at least one where some were offered; a failed write took none
abbrev pub TakesBytes : {E : Type 0} → (old new : Option (List ℕ)) → Result ℕ E → (bytes : List ℕ) → Type 0
TakesBytes old new (Ok n) bytes = (n ≤ length bytes) × (0 < length bytes → 0 < n) × Appends old new (take n bytes)
TakesBytes old new (Err _) bytes = Keeps old new

-- a call that fails leaves the sink failed, and any other leaves it as it was. Unlike `Fails`, that is also true of a call that
-- has nothing to write, and so succeeds over a sink that has failed
abbrev pub FailsWith : {X E : Type 0} → Result X E → (old new : Bool) → Type 0
FailsWith (Ok _) old new = new ≡ old
FailsWith (Err _) old new = new ≡ true

-- if a call succeeded, it wrote this text, at the end of what `contents` gives of the writer (`None`: it isn't known)
abbrev pub WritesIfOk : {W X E : Type 0} → (contents : W → Option (List ℕ)) → (old new : W) → Result X E → (text : List ℕ)
    → Type 0
WritesIfOk contents old new result text = OnOk result (Appends (contents old) (contents new) text)

-- a sink took the first n bytes of a text, which aren't all of it
abbrev pub TakesFront : (old new : Option (List ℕ)) (n : ℕ) (text : List ℕ) → Type 0
TakesFront old new n text = (n < length text) × Appends old new (take n text)

-- a sink took a front of a text, maybe no byte, and not all of it
abbrev pub TakesPart : (old new : Option (List ℕ)) (text : List ℕ) → Type 0
TakesPart old new text = (n : ℕ) × TakesFront old new n text

-- what a sink took of a text that a call was to write whole: all of it, or where the call failed with n (`Err`) the first n
-- bytes, which aren't all
abbrev pub TakesText : {X : Type 0} → (old new : Option (List ℕ)) → Result X ℕ → (text : List ℕ) → Type 0
TakesText old new result text = OnOk result (Appends old new text) × IfErr result (λ n. TakesFront old new n text)
