-- What is known of the file behind a sink: this project's own.
use Rattle.std.specs.Prelude.{◌≡◌, ◌⊎◌, ℕ, List, [], ◌∷◌, Bool, true, not, if◌then◌else◌, Option, Some, None}
use Rattle.gc_files.specs.declared.appending.Appending.{Ghosts}
use Rattle.gc_files.specs.declared.rows_file.RowsFile.{RowsFile}
use Rattle.gc_files.specs.declared.rows_file.RowsOptions.{RowsOptions}
use Rattle.gc_files.specs.declared.system.SystemFile.{SystemFile}
use Rattle.gc_files.specs.Files.{Step, Life, Sync, content, Adds}
use Rattle.gc_files.specs.Rows.{appended}

-- what a read returns, where it is known
abbrev pub known_content : Option Life → Option (List ℕ)
known_content None = None
known_content (Some life) = Some (content life)

-- the file's life, where it was known (`old`), is as it was, or has one sync more at its end
abbrev pub MayAddSync : (old new : Option Life) → Type 0
MayAddSync old new = (new ≡ old) ⊎ Adds old new (Sync ∷ [])

-- the life of the file behind a sink
abbrev pub life_in : {F : Type 0} {D : Ghosts F} → RowsFile F D → Option Life
life_in {F} {D} sink = D.life sink.file

-- what was done to the file of a sink since it was opened
abbrev pub steps_in : {F : Type 0} {D : Ghosts F} → RowsFile F D → List Step
steps_in sink = sink.past.steps

-- what was appended to the file of a sink since it was opened
abbrev pub taken_in : {F : Type 0} {D : Ghosts F} → RowsFile F D → List ℕ
taken_in sink = appended (steps_in sink)

-- whether the sink has failed
abbrev pub has_failed : {F : Type 0} {D : Ghosts F} → RowsFile F D → Bool
has_failed sink = sink.broken

-- whether the sink was opened with `sync`; without it no sync of the sink syncs the file
abbrev pub asks_sync : {F : Type 0} {D : Ghosts F} → RowsFile F D → Bool
asks_sync sink = sink.options.sync

-- whether the last byte that the sink took since its opening ended a row, or it took none
abbrev pub ends_line : {F : Type 0} {D : Ghosts F} → RowsFile F D → Bool
ends_line sink = sink.ends_line

-- how many bytes of a torn row the opening of this sink cut off
abbrev pub torn_in : {F : Type 0} {D : Ghosts F} → RowsFile F D → ℕ
torn_in sink = sink.torn

-- the sink was opened as it was asked to: with this head and this sign, and to sync or not
pub record IsOpenedAs {F : Type 0} {D : Ghosts F} (head sign : List ℕ) (sync : Bool) (sink : RowsFile F D) : Type 0 where
  pub has_head : sink.options.head.now ≡ head
  pub has_sign : sink.options.sign.now ≡ sign
  pub asks : asks_sync sink ≡ sync

-- the sink was opened with these options
abbrev pub HasOptions : {F : Type 0} {D : Ghosts F} → RowsOptions → RowsFile F D → Type 0
HasOptions options sink = IsOpenedAs options.head.now options.sign.now options.sync sink

-- whether all that the sink's file holds is known to be on the disk, or needn't be there
abbrev pub is_durable : {F : Type 0} {D : Ghosts F} → RowsFile F D → Bool
is_durable sink = if asks_sync sink then not sink.unkept else true

-- whether a file of the system is in doubt
abbrev pub is_in_doubt : SystemFile → Bool
is_in_doubt file = file.doubted
