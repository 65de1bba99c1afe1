-- The coding of a transcript's bytes: a field for proofs alone has to have a coding (`Coded`) of what it holds.
use Rattle.std.specs.Prelude.{ℕ, List}
use Rattle.std.specs.Coded.{Coded, coded_ℕ, coded_list}

-- the coding of a list of bytes, for the field `bytes` of `transcript.rt`
abbrev pub bytes_code : Coded (List ℕ)
bytes_code = coded_list coded_ℕ
