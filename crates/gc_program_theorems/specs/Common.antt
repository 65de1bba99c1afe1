-- The names that this crate's definitions cite of others, passed on from one place. Declares nothing.
pub use Rattle.std.specs.Fmt.{decimal}
pub use Rattle.std.specs.List.{AllByRecursion, flat_map}
pub use Rattle.gc_lines.specs.Prelude.{IsReply, IsSmallNumber, ReplyFields, with_end}
pub use Rattle.gc_values.specs.Prelude.{value_fault_number}
pub use Rattle.gc_values.specs.declared.fault.ValueFault.{ValueFault}
pub use Rattle.gc_texts.specs.Prelude.{AreBytes, DescriptionSeen, End, IsJudgement, IsTasks, Lacks, TasksSeen, call_at, date_time, described_as, description_seen, escaped, fault_of, is_named, judged_one_more, line_of, lists_code, name_text, none_judged, quality_word, stamp_text, word_of}
pub use Rattle.gc_texts.specs.declared.quality.Quality.TheVariants.{Fine, Refused, Unconfirmed, Warning}
pub use Rattle.gc_texts.specs.declared.tasks.Task.{Task}
pub use Rattle.gc_rows.specs.Prelude.{FitsIn64Bits, IsEndOfBytes, ReadsBackAs, described_value, fault_field, header, is_among, moment_text, procedure_of, quantities_returned, quantity_names, request_sent, row_of, value_text, value_texts}
pub use Rattle.gc_rows.specs.declared.record.Form.{Form}
pub use Rattle.gc_rows.specs.declared.record.Form.TheVariants.{Columns, Csv, Json}
pub use Rattle.gc_station.specs.Prelude.{AreChained, AreReadings, CameAt, ForEachAndSomeReadings, ForEachReadings, Grew, HasItsMoment, HasItsRequest, IsSaid, Part, RanTo, Reads, ReadsClock, Record, Runs, Scope, Snapshot, SynchronizesAnew, accepted_at, form_at, occasion_in, opening, parts, quality_as, request_of, state_after, tally_of, texts_of, twice_at, watched_of, went_out, with_turns}
pub use Rattle.gc_station.specs.declared.tally.Tally.{Tally}
pub use Rattle.gc_theorems.specs.Prelude.{Anew, AnyState, AreFaithful, AreFewRecordsByDamagedLines, AreInARow, AreOfTable, Asks, Changes, Down_lose, Down_repeat, Ends, Foreign, HarmedProgram, HarmedStretch, HasDamageApart, HasItsAnswer, IsAnInstrument, IsInField, IsInHarmedField, IsItsOwn, IsRunFaithful, IsRunLocal, KeptReplyReads, Move, NoActFollows, OfAnyInstrument, OnLine, Program, Reaches, Request, Run, Sends, Stretch, SyncModel, SyncTurn, Tells, TreatsRawsAlike, UnderWay, Up_deliver, Up_lose, Up_repeat, WasMadeFrom, WasMadeOn, World, after_turns, at, begins, cycle_begun, eight_answered, exchanged, first_reply, hz, ids_begun, killed_unless_begun, leaves, left_by_run, left_by_runs, left_by_turns, moves, never_kept, none_under_way, null_answered, null_exchanged, null_lines, null_reply, plain_task, plan_of_width, points, program_parts, program_records, put_all, reads_all, replies, run_and_end, scene_ends, scene_handed, scene_kept, send_all, sent_until, stretches, tells_its_state, turns, undamaged_stretches, under_way_on, v, wire_behind, world}
pub use Rattle.gc_options.specs.declared.layout.Layout.{Layout}
pub use Rattle.gc_options.specs.declared.settings.Settings.{Settings}
pub use Rattle.gc_logs.specs.Prelude.{EarlierFilesLast, are_open, bytes_in, path_of, steps_before}
pub use Rattle.gc_logs.specs.declared.following.Followed.{Followed}
pub use Rattle.gc_measuring.specs.Prelude.{AppendingRun, AreSound, HasTasks, LabelsSeen, PortsSeen, ReportsAppended, RunsAfterFront, Survey, acts_noted, began_noted, front_text, labels_of, most_turns, survey_of, text_by, text_in, views_by, when_of}
pub use Rattle.gc_measuring.specs.declared.stop.Stop.{Stop}
pub use Rattle.gc_rehearsal.specs.Prelude.{AreAskable, AreRuns, AreRunsUnlessAltered, Happening, HasComeTo, IsOfLine, LeadAll, Leads, Lines, RehearsedStation, RunsAndStops, acts_of_all}
pub use Rattle.gc_catalogue.specs.Prelude.{asked_line, call_fields, is_of_table}
pub use Rattle.gc_catalogue.specs.declared.answer.Answer.{Answer}
pub use Rattle.gc_catalogue.specs.declared.asked.Asked.{Asked}
pub use Rattle.gc_catalogue.specs.declared.asked.Asked.TheVariants.{Raw, Table}
pub use Rattle.gc_catalogue.specs.declared.call.Call.TheVariants.{InstrumentNo, NullProc, SetDate}
pub use Rattle.gc_instrument.specs.Prelude.{KeptReply}
pub use Rattle.gc_scenes.specs.Prelude.{SceneState}
pub use Rattle.gc_client.specs.Prelude.{ById}
pub use Rattle.gc_client.specs.declared.window.TheConstants.{WINDOW}
pub use Rattle.gc_links.specs.Prelude.{Act, Broke, Closed, Cut, Ended, Gave, Opened, Put, Silent, Told, Unopened}
pub use Rattle.gc_files.specs.Prelude.{ArePossibleEvents, AreRowCounts, Event, Happen, IsFound, IsFront, IsHead, IsTrusted, Life, MayBeLeft, MayEnd, OpensFile, RunEnd, Sides, Step, appended, asks_sync, content, cuts_none, doubt_after, doubt_ended, is_durable, later_by, life_after, opened_table, rows_of, runs_of, same_sides, settled, sides_after, sides_ended, steps_in, taken_in, whole}
