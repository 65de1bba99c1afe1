-- The names that this crate's proofs cite, passed on from one place. Declares nothing.
pub use Rattle.clap.specs.Matches.{found_of, has_subcommand, subcommand_name_of}
pub use Rattle.clap.specs.Simple.{App, HasMatchesOf, Shape, app_of, argument_words, built, is_simple, label_of, names_of, rows_at, shape_of, subcommand_of, subcommand_rows, subcommand_rows_of, with_subcommand}
pub use Rattle.clap.specs.Takes.{takes}
pub use Rattle.clap.specs.Walk.{Text, answers_to, rows_of, stop_after}
pub use Rattle.clap.specs.declared.parser.matches.ArgMatches.TheViews.{out-ArgMatches, out-SubCommand}
pub use Rattle.clap.specs.declared.parser.matches.SubCommand.{SubCommand}
pub use Rattle.std.proofs.Common.{Bool, Err, IfOk, List, None, Ok, Option, Result, Some, [], ap, arith, codes, false, find, get_or, inl, inr, length, map, option_map, refl, rules, subst, sym, take, true, ℕ, ◌++◌, ◌+◌, ◌<◌, ◌∙◌, ◌∷◌, ◌≡◌, ◌≤◌, ◌⊎◌}
pub use Rattle.std.proofs.lemmas.Result.{IfErr-weaker, IfOk-weaker}
pub use Rattle.std.specs.Box.{box_value}
pub use Rattle.std.specs.List.{list_any}
pub use Rattle.std.specs.Prelude.{Box, IfSome, IsSome, is_some, option_and_then, ⊤}
pub use Rattle.std.specs.Process.{exit_status}
pub use Rattle.std.specs.String.{string_bytes}
pub use Rattle.gc_lines.specs.Prelude.{AnswerRule, Ports, Taken}
pub use Rattle.gc_texts.specs.Prelude.{Input, Tells, run_fault_text}
pub use Rattle.gc_texts.specs.declared.fault.RunFault.{RunFault}
pub use Rattle.gc_texts.specs.declared.fault.RunFault.TheVariants.{Clock, LinkClosed, Output, Read, Socket, StreamClosed, TooManyReads, Write}
pub use Rattle.gc_ask.specs.Prelude.{AskRunsConnected, Asks, AsksOverFresh, AsksWithin, IsFaultOfDevice, IsFaultOfPlace, LinkResult, LoopRunsConnected, LoopsOverFresh, LosesOne, RunsConnected, SeenAtClient, ServesEach, StopsAt, Written, unless_shown}
pub use Rattle.gc_options.specs.Prelude.{HasLimits, HasNumbers, HasRehearsalNumbers, IsChosen, IsRecording, IsSite, Words, has_flag, is_at_without_multiple, is_stale_too_soon, unit_in, words_of}
pub use Rattle.gc_logs.specs.Prelude.{ReportsClosed, path_of}
pub use Rattle.gc_measuring.specs.Prelude.{file_of}
pub use Rattle.gc_instrument.specs.Prelude.{State, simulator_opening}
pub use Rattle.gc_links.specs.Prelude.{place_seen, signals_at}
pub use Rattle.gc_links.specs.declared.place.Place.{Place}
pub use Rattle.gc_console.specs.Drills.{PlaysScene, PlaysSource, ReadsWholeSource, TellsDrill, TellsDrillWithin}
pub use Rattle.gc_console.specs.Jobs.{AsksSubcommand, IsJobOf, are_dated, name_of, station_job, subcommand_named, subcommands}
pub use Rattle.gc_console.specs.Program.{AreSubcommands, IsBareProgram, IsSubcommand, bare_program, program, shape_of_subcommand}
pub use Rattle.gc_console.specs.Programs.{HasNoJob, IsAnswered, LacksMemory, asks_for_text}
pub use Rattle.gc_console.specs.Refusing.{EndSeen, end_seen, refusal_fault}
pub use Rattle.gc_console.specs.Subcommands.{DoesCheck, DoesDrill, DoesExec, EndsFrom, Opening, opening, opening_ports}
pub use Rattle.gc_console.specs.declared.traces.Traces.{Traces}
pub use Rattle.gc_console.specs.declared.words.Job.{Job}
pub use Rattle.gc_console.specs.declared.words.Subcommand.{Subcommand}
