-- The bytes of a `RawText`, the parameters of a procedure that isn't in the table: this project's own.
use Rattle.std.specs.Prelude.{ℕ, List, take}
use Rattle.gc_catalogue.specs.declared.raw_text.RawText.{RawText}

-- the bytes of the text: its first `len` bytes, without the unused ones
abbrev pub raw_bytes : RawText → List ℕ
raw_bytes t = take t.len t.bytes
