-- The names that crates above cite, passed on from one place. Declares nothing.
pub use Rattle.gc_options.specs.Chosen.{GivesPlace, HasNumbers, HasRehearsalNumbers, IsChosen, IsLog, IsRecording, IsRehearsal, IsSite}
pub use Rattle.gc_options.specs.Limits.{HasLimits, LacksLimit, limit_refusal}
pub use Rattle.gc_options.specs.Options.{flag, path, positional, rehearse_rules, shape, signed_number, station_rules, tied}
pub use Rattle.gc_options.specs.Stations.{begun_at, for_file, form_of_rows, is_at_without_multiple, is_stale_too_soon, with_status_line}
pub use Rattle.gc_options.specs.Units.{unit_in}
pub use Rattle.gc_options.specs.Words.{IsNumberOr, ReadsNumber, Words, has_flag, text_in, words_of}
