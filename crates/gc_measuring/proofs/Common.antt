-- The names that this crate's proofs cite, passed on from one place. Declares nothing.
pub use Rattle.std.proofs.Common.{Bool, Err, List, None, Ok, Option, Result, Some, [], ap, append-nil, arith, drop, eqb-true, false, if◌then◌else◌, inl, inr, leb-false, leb-true, length, lit<, map, min, nat_eq, nat_le, nat_lt, not, refl, replicate, rules, subst, suc, sym, take, true, zero, ℕ, ◌%◌, ◌&&◌, ◌*◌, ◌++◌, ◌+◌, ◌-◌, ◌/◌, ◌<◌, ◌^◌, ◌∙◌, ◌∷◌, ◌≡◌, ◌≤◌}
pub use Rattle.std.proofs.KnownBytes.{Appends-trans}
pub use Rattle.std.proofs.Math.Nat.{add-mul-div_right, div-add-mod', mod-lt, suc-mul}
pub use Rattle.std.proofs.lemmas.Bool.{false≢true, lt-ltb}
pub use Rattle.std.proofs.lemmas.Result.{IfErr-weaker, IfOk-at_ok, IfOk-weaker}
pub use Rattle.std.specs.Fmt.{decimal, format_spec}
pub use Rattle.std.specs.Io.KnownBytes.{Appends, Consumes}
pub use Rattle.std.specs.Prelude.{IfOk, IfSome, filter, option_map}
pub use Rattle.std.specs.Process.{exit_status}
pub use Rattle.gc_values.specs.Prelude.{half_up, half_up_rounds}
pub use Rattle.gc_texts.specs.Prelude.{AreLinesOf, Input, IsTaskLine, IsTasks, IsTrouble, MayFollow, ReachesASoundTaskLine, ReadsFew, TasksSeen, WasRead, described_as, description_seen, fault_line, first_mode, is_kept, no_standing, placed, run_fault_text, tasks_of, tasks_seen, text_lines}
pub use Rattle.gc_texts.specs.declared.fault.RunFault.{RunFault}
pub use Rattle.gc_texts.specs.declared.fault.RunFault.TheVariants.{Memory, Output}
pub use Rattle.gc_texts.specs.declared.tasks.Task.{Task}
pub use Rattle.gc_station.specs.Prelude.{FailsAtOutput, Snapshot, raw_count, raws_of_setup}
pub use Rattle.gc_station.specs.declared.tally.Tally.{Tally}
pub use Rattle.gc_options.specs.declared.choice.Choice.{Choice}
pub use Rattle.gc_options.specs.declared.settings.Settings.{Settings}
pub use Rattle.gc_logs.specs.Prelude.{Hearing, HearsText, bytes_in, hearing_of}
pub use Rattle.gc_catalogue.specs.Prelude.{answer_fields, is_of_table}
pub use Rattle.gc_links.specs.Prelude.{Act, IsMeantAt, PlaceSeen, SignalsSeen, calls_in, place_seen, signals_at}
pub use Rattle.gc_links.specs.declared.watched.Watched.{Watched}
pub use Rattle.gc_measuring.specs.Bounds.{lost_by}
pub use Rattle.gc_measuring.specs.Choices.{IsTimeToMultiple, longest_deadline, plan_of, time_to_multiple}
pub use Rattle.gc_measuring.specs.Measuring.{IsMeasured, MeasuresGiven, PortsSeen, ReportsEndOfRun}
pub use Rattle.gc_measuring.specs.TaskTexts.{GivesTasks, HasNoTasks, HearsNoTasks, HearsTasks, IsStopFor, RefusesTasks}
pub use Rattle.gc_measuring.specs.Telling.{AppendingRun, AppendsAll, CannotBegin, MeasuresAll, MeasuresAllAtLink, MeasuresAtLink, ReportsAppending, ReportsAtSite, ReportsLossAndEnd, ReportsMeasuring, Stage, Views, acts_of, began_of, seen_at, stage, with_messages}
pub use Rattle.gc_measuring.specs.declared.stop.Stop.{Stop}
pub use Rattle.gc_measuring.specs.declared.stop.Stop.TheVariants.{Line, Run}
