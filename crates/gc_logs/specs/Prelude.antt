-- The names that crates above cite, passed on from one place. Declares nothing.
pub use Rattle.gc_logs.specs.Ends.{TellsAt, is_port}
pub use Rattle.gc_logs.specs.Following.{EarlierFilesLast, IsOpenedAt, bytes_in, path_of, steps_before}
pub use Rattle.gc_logs.specs.Refusals.{Refuses, at_line, date_line, place_line, range_line, refusal_line, stale_line, unit_line}
pub use Rattle.gc_logs.specs.Repairs.{copied_line, torn_line}
pub use Rattle.gc_logs.specs.Streams.{ReportsClosed, are_open}
pub use Rattle.gc_logs.specs.Transcripts.{HeardBytes, Hearing, HearsText, hearing_of}
