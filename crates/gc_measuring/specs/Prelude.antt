-- The names that crates above cite, passed on from one place. Declares nothing.
pub use Rattle.gc_measuring.specs.Appending.{file_of}
pub use Rattle.gc_measuring.specs.Labels.{AreSound, HasSoundFields, LabelsSeen, labels_of}
pub use Rattle.gc_measuring.specs.Measuring.{Measures, PortsSeen, ReportsEndOfRun, RunsAfterFront, Survey, entry_in, front_text, most_turns, survey_of, text_by, text_in, when_of}
pub use Rattle.gc_measuring.specs.Noted.{IsMeantRecord}
pub use Rattle.gc_measuring.specs.Recording.{IsBegunAt}
pub use Rattle.gc_measuring.specs.Stops.{end_of_run}
pub use Rattle.gc_measuring.specs.TaskTexts.{GivesTasks, HasTasks, IsCheckable}
pub use Rattle.gc_measuring.specs.Telling.{AppendingRun, MeasuresAtLink, ReportsAppended, ReportsAtSite, Stage, Views, acts_noted, began_noted, seen_at, stage, views_by, with_messages}
pub use Rattle.gc_measuring.specs.Texts.{ReadsAndAppends, ReadsAndMeasures}
