-- The names that this crate's definitions cite of others, passed on from one place. Declares nothing.
pub use Rattle.clap.specs.Walk.{Rule, Text}
pub use Rattle.std.specs.Io.KnownBytes.{Appends, Consumes, IsAtEnd}
pub use Rattle.std.specs.Str.{bytes_eq}
pub use Rattle.gc_lines.specs.Prelude.{AnswerRule, Ports, Taken, ports_of, serve_fault_text}
pub use Rattle.gc_texts.specs.Prelude.{IsReadFault, IsReadToEnd, Tells, command_stop_text, fault_line, run_fault_text, source_of, with_command_fault}
unfoldable pub use Rattle.gc_texts.specs.Prelude.{is_dated_path}
pub use Rattle.gc_texts.specs.declared.fault.RunFault.{RunFault}
pub use Rattle.gc_texts.specs.declared.fault.RunFault.TheVariants.{Memory, Output, Schedule}
pub use Rattle.gc_filters.specs.Prelude.{IsChecking, IsCheckingLog, IsDrill, IsLineOf, OpensPlain, OpensRuled, OpensTimed, PlaysAll, SceneFault, SetsUp, scene_trouble_line, takes_all}
unfoldable pub use Rattle.gc_filters.specs.Prelude.{drill_text_on, scene_drill_text}
pub use Rattle.gc_ask.specs.Prelude.{AskRunsConnected, IsFaultOfPlace, KeepsServing, LinkResult, LoopRunsConnected, ServesEach, unless_shown}
pub use Rattle.gc_options.specs.Prelude.{GivesPlace, HasLimits, HasNumbers, HasRehearsalNumbers, IsChosen, IsLog, IsNumberOr, IsRecording, IsRehearsal, IsSite, LacksLimit, ReadsNumber, Words, flag, has_flag, is_at_without_multiple, is_stale_too_soon, limit_refusal, path, positional, rehearse_rules, shape, signed_number, station_rules, text_in, tied, unit_in, with_status_line}
pub use Rattle.gc_options.specs.declared.settings.Settings.{Settings}
pub use Rattle.gc_options.specs.declared.site.Recording.{Recording}
pub use Rattle.gc_options.specs.declared.site.Site.{Site}
pub use Rattle.gc_logs.specs.Prelude.{Refuses, ReportsClosed, TellsAt, are_open, at_line, date_line, hearing_of, is_port, path_of, place_line, range_line, refusal_line, stale_line, unit_line}
pub use Rattle.gc_logs.specs.declared.standard.Standard.{Standard}
pub use Rattle.gc_instrument.specs.Prelude.{AnswersFrame, IsServing, State, restarted, simulator_opening}
pub use Rattle.gc_scenes.specs.Prelude.{HearsSometime, IsSceneServing, PlaysFrame, SceneState, SlowState, scene_restarted, slow_restarted}
pub use Rattle.gc_links.specs.declared.place.Place.{Place}
