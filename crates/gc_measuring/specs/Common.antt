-- The names that this crate's definitions cite of others, passed on from one place. Declares nothing.
pub use Rattle.std.specs.Fmt.{decimal}
pub use Rattle.std.specs.Io.KnownBytes.{Appends, Consumes}
pub use Rattle.gc_lines.specs.declared.ports.Source.{Ghosts}
pub use Rattle.gc_texts.specs.Prelude.{GaveBytes, HaveNames, Input, IsTasks, IsTrouble, ReadsFew, RefusesText, TaskFault, TasksSeen, WasRead, are_columns, described_as, description_seen, escaped, fault_line, input_of, line_at, name_text, run_fault_text, tasks_seen, trouble_line}
pub use Rattle.gc_texts.specs.declared.fault.RunFault.{RunFault}
pub use Rattle.gc_texts.specs.declared.fault.RunFault.TheVariants.{Clock, Log, NoCommand, Output, RecordsForeign, RecordsHeld, RecordsUnopened, Schedule}
pub use Rattle.gc_texts.specs.declared.tasks.Task.{Task}
pub use Rattle.gc_rows.specs.Prelude.{Entry, are_new, form_sign, head_text, record_text}
pub use Rattle.gc_station.specs.Prelude.{FailsAtOutput, ForEachAndSomeReadings, KeepsUpBy, LastUnlessFailed, RanBy, Record, RunSeen, Snapshot, close_at_output, watched_of}
pub use Rattle.gc_station.specs.declared.plan.Plan.{Plan}
pub use Rattle.gc_station.specs.declared.tally.Tally.{Tally}
pub use Rattle.gc_options.specs.Prelude.{begun_at, for_file, form_of_rows}
pub use Rattle.gc_options.specs.declared.choice.Choice.{Choice}
pub use Rattle.gc_options.specs.declared.settings.Settings.{Settings}
pub use Rattle.gc_logs.specs.Prelude.{HeardBytes, Hearing, IsOpenedAt, copied_line, hearing_of, torn_line}
pub use Rattle.gc_logs.specs.declared.following.Followed.{Followed}
pub use Rattle.gc_logs.specs.declared.streams.Streams.{Streams}
pub use Rattle.gc_catalogue.specs.Prelude.{IsAnswerOf, answer_fields, call_fields, is_of_table, procedure_of}
pub use Rattle.gc_catalogue.specs.declared.call.Call.{Call}
pub use Rattle.gc_links.specs.Prelude.{Act, MeansActs, PlaceSeen, SignalsSeen}
pub use Rattle.gc_links.specs.declared.watched.LinkRecord.{LinkRecord}
pub use Rattle.gc_files.specs.declared.system.Unfit.{Unfit}
