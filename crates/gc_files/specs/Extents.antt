-- How far a file of rows reaches: this project's own.
use Rattle.std.specs.Prelude.{◌≤◌, Option}
use Rattle.gc_files.specs.Files.{Life}
use Rattle.gc_files.specs.Rows.{IsEndOfRows, IsLengthOf}
use Rattle.gc_files.specs.declared.opening.Extent.{Extent}

-- the file with this life, if that is known, reaches as far as `extent` says, whose rows end within it
pub record IsExtentOf (life : Option Life) (extent : Extent) : Type 0 where
  pub len : IsLengthOf life extent.len
  pub end : IsEndOfRows life extent.end
  pub within : extent.end ≤ extent.len
