-- The files that a run has left: this project's own.
use Rattle.std.specs.Prelude.{Bool, List}
use Rattle.gc_files.specs.Files.{Step}
use Rattle.gc_files.specs.declared.earlier.Earlier.{Earlier}

-- the steps of each earlier file, since it was opened and until it was left
abbrev pub files_in : Earlier → List (List Step)
files_in earlier = earlier.pasts.files

-- whether the earlier files were opened with `sync`
abbrev pub syncs : Earlier → Bool
syncs earlier = earlier.sync
