-- The names that crates above cite, passed on from one place. Declares nothing.
pub use Rattle.gc_console.specs.Program.{IsJobOfWords}
pub use Rattle.gc_console.specs.Programs.{DoesAsked, DoesProgram}
pub use Rattle.gc_console.specs.Stations.{ActsAt, AppendsInto, DoesJob, DoesOver, HasNoRun, MeasuresOnto, Records, RecordsLossy, Seeing, rows_noted, seeing_by, stage_after, stage_before}
pub use Rattle.gc_console.specs.Subcommands.{Opening}
