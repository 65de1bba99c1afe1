-- The names that this crate's definitions cite of others, passed on from one place. Declares nothing.
pub use Rattle.std.specs.Io.KnownBytes.{Appends}
pub use Rattle.std.specs.List.{AllByRecursion, flat_map}
pub use Rattle.gc_lines.specs.Prelude.{Taken, all_of, ends_in_return, taken_by, with_end}
pub use Rattle.gc_texts.specs.Prelude.{AreBytes, GaveBytes, Input, IsUnread, Lacks, Tells, WasRead, fault_line, input_of, log_line, mark_text, run_fault_text}
pub use Rattle.gc_texts.specs.declared.fault.RunFault.{RunFault}
pub use Rattle.gc_texts.specs.declared.log_line.LogMark.{LogMark}
pub use Rattle.gc_files.specs.Prelude.{HaveWholeRows, IsOpenedAs, LastsWhole, Step, all_steps, appended, asks_sync, files_in, taken_in}
