-- A file of rows that is followed: at which path it is, how it was opened, and what it and the files before it took. This project's own.
use Rattle.gc_logs.specs.Common.{AllByRecursion, Step, HaveWholeRows, LastsWhole, all_steps, files_in, appended, IsOpenedAs, asks_sync, taken_in}
use Rattle.std.specs.Prelude.{◌≡◌, ℕ, Bool, true, List, [], ◌++◌}
use Rattle.gc_logs.specs.declared.following.Followed.{Followed}

-- what was done to the earlier files, one after the other
abbrev pub steps_before : {R : Type 0} → Followed R → List Step
steps_before followed = all_steps (files_in followed.earlier)

-- all bytes that were appended: those of the earlier files, and then those of the file that takes the rows now
abbrev pub bytes_in : {R : Type 0} → Followed R → List ℕ
bytes_in followed = appended (steps_before followed) ++ taken_in followed.rows

-- the path as it was given, at which the file was opened, and is looked for: with its date, if one is in it
abbrev pub path_of : {R : Type 0} → Followed R → List ℕ
path_of followed = followed.path.now

-- the file was just opened at this path, with this head and this sign, and to sync or not: nothing was appended to it yet
pub record IsOpenedAt {R : Type 0} (path head sign : List ℕ) (sync : Bool) (followed : Followed R) : Type 0 where
  pub at : path_of followed ≡ path
  pub asked : IsOpenedAs head sign sync followed.rows
  pub fresh : bytes_in followed ≡ []

-- the files that took rows before the one that takes them now: what was appended to each is whole rows, so none is in two files; and if the
-- files sync, each lasts with all of them (`LastsWhole`)
pub record EarlierFilesLast {R : Type 0} (followed : Followed R) : Type 0 where
  pub whole_rows : HaveWholeRows (files_in followed.earlier)
  pub last : asks_sync followed.rows ≡ true → AllByRecursion LastsWhole (files_in followed.earlier)
