-- What was written into the files of a log on the disk: this project's own. What a file had before it was opened isn't known.
use Rattle.gc_logs.specs.Common.{appended, taken_in}
use Rattle.gc_logs.specs.Files.{LogFiles}
use Rattle.gc_logs.specs.declared.files_at.FilesAt.{FilesAt}

-- what was written into the files of a log at a path
abbrev pub files_in : {R : Type 0} → FilesAt R → LogFiles
files_in files = record {
  earlier = appended files.earlier.steps;
  older = appended files.older.steps;
  newest = taken_in files.rows;
  older_size = files.older_size;
  size = files.size;
}
