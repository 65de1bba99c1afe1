-- The names that crates above cite, passed on from one place. Declares nothing.
pub use Rattle.gc_files.specs.Failing.{ArePossibleEvents, Event, IsFound, IsTrusted, MayEnd, Ran, RunEnd, Sides, doubt_after, doubt_ended, feeds, runs_of, same_sides, settled, sides_after, sides_ended}
pub use Rattle.gc_files.specs.Files.{Life, MayBeLeft, Step, content, later_by}
pub use Rattle.gc_files.specs.InTurn.{HaveWholeRows, LastsWhole, all_steps}
pub use Rattle.gc_files.specs.Left.{files_in}
pub use Rattle.gc_files.specs.Rows.{IsFront, OpensFile, appended, cuts_none, has_feed, opened_table, whole}
pub use Rattle.gc_files.specs.Runs.{AreRowCounts, Happen, HasRows, IsHead, IsRun, Run, life_after, row_lines, rows_of, synced}
pub use Rattle.gc_files.specs.Sinks.{IsOpenedAs, asks_sync, is_durable, steps_in, taken_in, torn_in}
