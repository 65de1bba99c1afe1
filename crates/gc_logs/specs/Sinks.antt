-- What a sink of lines over the files of a log took, and whether it takes no more: this project's own.
use Rattle.std.specs.Prelude.{ℕ, ◌||◌, Bool, List}
use Rattle.gc_logs.specs.Files.{bytes_of}
use Rattle.gc_logs.specs.declared.rolling.Rolling.{Rolling}
use Rattle.gc_logs.specs.declared.rolling.Rolls.{Ghosts}

-- all bytes that a sink of lines took, into whichever file
abbrev pub bytes_in : {K : Type 0} {D : Ghosts K} → Rolling K D → List ℕ
bytes_in {K} {D} sink = bytes_of (D.files sink.files)

-- whether a sink of lines takes nothing more: its files failed, or a line had more bytes than a file may have
abbrev pub has_ended : {K : Type 0} {D : Ghosts K} → Rolling K D → Bool
has_ended {K} {D} sink = sink.is_ended || D.failed sink.files
