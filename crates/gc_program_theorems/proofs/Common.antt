-- The names that this crate's proofs cite, passed on from one place. Declares nothing.
pub use Rattle.std.proofs.Common.{Bool, Err, IfSome, List, None, Ok, Option, Result, Some, [], ap, append-nil, append_assoc, arith, cond, drop, false, get_or, if◌then◌else◌, inl, inr, is_some, length, length-append, lit<, lit≤, map, map-id, nat_eq, option_map, refl, subst, suc, sym, take, true, zero, ℕ, ◌%◌, ◌++◌, ◌+◌, ◌-◌, ◌/◌, ◌<◌, ◌^◌, ◌∙◌, ◌∷◌, ◌≡◌, ◌≢◌, ◌≤◌, ◌⊎◌}
pub use Rattle.std.proofs.lemmas.Bool.{and_from, and_parts, cases_Bool, cond_both, eqb-true, false≢true, lt-ltb, ltb-false, ltb-true, ne_eqb, not-true}
pub use Rattle.std.proofs.lemmas.Grind.{flat_map-append}
pub use Rattle.std.proofs.lemmas.Int.{ints}
pub use Rattle.std.proofs.lemmas.List.{append_cancel_left, append_cancel_right, length-drop, length-map, map-append, take-append-drop}
pub use Rattle.std.proofs.lemmas.Option.{none-some, same_Some}
pub use Rattle.std.proofs.lemmas.Slice.Eq.{bytes_eq-Decides}
pub use Rattle.std.specs.Io.KnownBytes.{Appends, Consumes, IsAtEnd}
pub use Rattle.std.specs.List.{AllByRecursion, AllZip, flat_map, list_all, list_any}
pub use Rattle.std.specs.Prelude.{codes, nat_lt, not, pos, slice_get, ◌&&◌, ◌==◌, ◌||◌}
pub use Rattle.std.specs.Str.{bytes_eq}
pub use Rattle.gc_lines.proofs.Lists.{all_append, cons_tail, get_more}
pub use Rattle.gc_lines.proofs.Replies.{reply_found}
pub use Rattle.gc_lines.specs.Prelude.{IsReply, IsSmallNumber, ReplyFields, rest_behind, with_end}
unfoldable pub use Rattle.gc_lines.specs.Prelude.{header_at, reply_at}
pub use Rattle.gc_lines.specs.declared.ports.Source.{Ghosts}
pub use Rattle.gc_values.proofs.Every.{every_behind, every_front, every_weaker}
pub use Rattle.gc_values.specs.Prelude.{AreParams, decimal, faulty_items, number_of, wrong_count}
unfoldable pub use Rattle.gc_values.specs.Prelude.{is_near, rounded}
pub use Rattle.gc_values.specs.declared.fault.ValueFault.{ValueFault}
pub use Rattle.gc_texts.proofs.Judgements.{named_among, no_judgement_word, of_each}
pub use Rattle.gc_texts.specs.Prelude.{Answered, AreBytes, DescriptionSeen, End, FieldSeen, HaveNames, IsJudgement, IsTasks, Judged, Lacks, Late, Lost, Missed, NoValue, Skipped, TasksSeen, are_columns, call_at, date_time, described_as, description_seen, ends_as_text, escape, escaped, fault_of, field_seen, form_of_asked, fresh_names, has_column, hex_digit, input_of, is_column, is_field_name, is_fresh, is_name_byte, is_name_of_row, is_named, is_new_column, is_small_letter, is_unescaped, judgement_word, judgements, line_of, made_at, name_text, names_of_row, placed, quality_of, quality_text, quality_word, stamp_text, with_columns, word_of}
unfoldable pub use Rattle.gc_texts.specs.Prelude.{as_zero, days_after, is_off_target}
pub use Rattle.gc_texts.specs.declared.description.Description.{Description}
pub use Rattle.gc_texts.specs.declared.fault.RunFault.{RunFault}
pub use Rattle.gc_texts.specs.declared.fault.RunFault.TheVariants.{Output}
pub use Rattle.gc_texts.specs.declared.quality.Quality.{Quality}
pub use Rattle.gc_texts.specs.declared.tasks.Task.{Task}
pub use Rattle.gc_rows.proofs.Columns.{lacks_both, reply_columns}
pub use Rattle.gc_rows.proofs.DescribedColumns.{added_follow, columns_hold, fixed_found, read_shown}
pub use Rattle.gc_rows.proofs.Fit.{AreFit, IsFit, each_fit}
pub use Rattle.gc_rows.proofs.Lookup.{from_shown, lookup_among, lookup_behind, object_lookup, records_read_back}
pub use Rattle.gc_rows.proofs.Rows.{rows_read_back}
pub use Rattle.gc_rows.specs.Prelude.{ArePlainMembers, Blank, Bytes, Cell, Code, Column, Content, Entry, HasColumns, HasFieldNames, IsDescribedAnswer, IsEndOfBytes, IsKnownName, IsPlainName, IsReplyOfBytes, IsShown, Items, Member, Moment, Number, Quantity, Text, Texts, Whole, answer_kinds, are_new, behind_backslash, behind_comma, bytes_content, cell, cells_after_run, cells_if, cells_in, code_of, column_of, com_of, comma_where, counted_answer, described_value, end_cells, ending_text, fault_content, fault_field, field_of, field_text, fields_behind_commas, first_columns, first_names, head_text, header, is_among, is_special, items_column, items_of, last_columns, line_content, line_sent, list_text, lookup, member_text, members_after_run, members_in, members_of, members_text, moment_content, moment_text, names_of, object_cells, procedure_of, quantity_cells, quantity_columns, quantity_names, record_read, record_text, request_sent, row_fields, row_of, run_column, string_text, strings_text, text_of, value_text, value_texts, values_of, values_read, within_quotes, without_zeros}
pub use Rattle.gc_rows.specs.declared.record.Form.{Form}
pub use Rattle.gc_rows.specs.declared.record.Form.TheVariants.{Columns, Csv, Json}
pub use Rattle.gc_session.specs.Prelude.{client_after, is_none_left}
pub use Rattle.gc_station.proofs.Answers.{answers_true}
pub use Rattle.gc_station.proofs.Booking.{sending_of, sends_with_room, sent_by}
pub use Rattle.gc_station.proofs.EachRun.{invariant_after, invariant_opening, of_tasks}
pub use Rattle.gc_station.proofs.Going.{after_all-append, runs-append, runs_front}
pub use Rattle.gc_station.proofs.Lists.{all_at, all_on, cons_head}
pub use Rattle.gc_station.proofs.Moments.{all_read, came_at, one_added}
pub use Rattle.gc_station.proofs.PartFronts.{HasSome, some_parts}
pub use Rattle.gc_station.proofs.Saying.{each_said, zero_said}
pub use Rattle.gc_station.proofs.SentAt.{records_stay}
pub use Rattle.gc_station.specs.Prelude.{AnswerIsJustified, AreChained, AreKept, AreReadings, Grew, HasItsMoment, HasItsRequest, IsAsListed, IsAsRead, IsKept, IsOfItsRequest, IsOfItsTask, IsOfQuality, IsRefusedReading, IsSaid, KeepsUp, MarkAsks, MarksAsk, Model, Part, Performs, Ran, RanTo, Reads, ReadsClock, Record, Runs, Scope, Snapshot, SynchronizesAnew, WritesPart, accepted_at, action_at, after, after_all, answer_in, client_part, close_at_output, command_sent, expected_first, form_at, has_begun, heard_in, idle_part, in_front, is_over, lines_completed, loses_all, losing, occasion_in, occasion_of, opening, parts_of, put_part, quality_as, request_of, state_after, sync_part, tally_of, texts_of, turned, twice_at, unanswered_after, waiting_of, went_out, with_progress, with_turns}
pub use Rattle.gc_station.specs.declared.cause.Cause.TheVariants.{Done}
pub use Rattle.gc_station.specs.declared.plan.Plan.{Plan}
pub use Rattle.gc_station.specs.declared.tally.Tally.{Tally}
pub use Rattle.gc_theorems.proofs.BeginJoin.{AreSmall, small_left, word_small}
pub use Rattle.gc_theorems.proofs.BeginWords.{cons_not_nil}
pub use Rattle.gc_theorems.proofs.DamagedRuns.{run_local}
pub use Rattle.gc_theorems.proofs.InARow.{in_a_row, run, same_lines}
pub use Rattle.gc_theorems.proofs.Joining.{run_faithful}
pub use Rattle.gc_theorems.proofs.SceneField.{scene_is_an_instrument}
pub use Rattle.gc_theorems.specs.Prelude.{AnyState, AreFaithful, AreFewKilled, AreInARow, ArePossible, ArePossibleIfBegun, AreRuns, AreShownAs, AreTurns, Ends, HasRisingIds, InFlight, IsAnInstrument, IsDiscarded, IsHeard, IsHeardOrDiscarded, IsInField, IsMeant, IsNullOrLineFeed, IsOwnAnswer, IsPossible, IsRunLocal, IsTurn, KeptReplyReads, MayBecome, MeansSyncSteps, Move, Numbered, OnLine, Program, Request, Run, Stretch, SyncModel, UnderWay, Up_deliver, WasMadeOn, Wire, World, after_turns, at, begins, doubled, down_delivered, first_heard, ids_begun, killed_by, killed_over, killed_unless_begun, leaves, left_by_run, left_by_runs, left_by_turns, left_if_begun, moved, moves, never_kept, none_under_way, points, program_parts, program_records, replies, requested, scene_ends, scene_handed, scene_kept, seen, shown, shows, stretches, turns, under_way_on, up_delivered, with_down, with_settled, with_up, without}
pub use Rattle.gc_options.specs.Prelude.{begun_at, with_status_line}
pub use Rattle.gc_options.specs.declared.layout.Layout.{Layout}
pub use Rattle.gc_options.specs.declared.settings.Settings.{Settings}
pub use Rattle.gc_options.specs.declared.site.Recording.{Recording}
pub use Rattle.gc_options.specs.declared.site.Site.{Site}
pub use Rattle.gc_logs.specs.Prelude.{are_open, bytes_in, path_of, steps_before}
pub use Rattle.gc_logs.specs.declared.following.Followed.{Followed}
pub use Rattle.gc_logs.specs.declared.heard.Heard.{Heard}
pub use Rattle.gc_logs.specs.declared.standard.Standard.{Standard}
pub use Rattle.gc_logs.specs.declared.streams.Streams.{Streams}
pub use Rattle.gc_measuring.specs.Prelude.{AreSound, GivesTasks, HasSoundFields, HasTasks, LabelsSeen, Measures, MeasuresAtLink, PortsSeen, ReportsAtSite, ReportsEndOfRun, RunsAfterFront, Stage, Survey, Views, acts_noted, end_of_run, entry_in, front_text, labels_of, most_turns, seen_at, survey_of, text_by, text_in, with_messages}
pub use Rattle.gc_measuring.specs.declared.stop.Stop.{Stop}
pub use Rattle.gc_rehearsal.specs.Prelude.{ActLeads, Acts, AreAskable, AreRunsOnLine, CarriesNothing, GiveLeads, Happening, HasReached, IsAskable, IsOneLine, IsRunOf, IsSentOrLost, LeadAll, Leads, Lines, Loses_down, Loses_front, Loses_up, Passes, PutLeads, Reaches, RehearsedStation, Repeats_down, Repeats_up, Restarts, RunsAndStops, TakesReply, acts_of, acts_of_all}
pub use Rattle.gc_console.specs.Prelude.{ActsAt, AppendsInto, DoesAsked, DoesJob, DoesOver, DoesProgram, HasNoRun, IsJobOfWords, MeasuresOnto, Opening, Records, RecordsLossy, Seeing, rows_noted, seeing_by, stage_after, stage_before}
pub use Rattle.gc_console.specs.declared.traces.Traces.{Traces}
pub use Rattle.gc_console.specs.declared.words.ClientJob.{ClientJob}
pub use Rattle.gc_catalogue.proofs.Joining.{without_last}
pub use Rattle.gc_catalogue.specs.Prelude.{IsAskedFitting, IsAskedReading, answer_fields, asked_line, call_fields, is_of_table, request_line}
pub use Rattle.gc_catalogue.specs.declared.answer.Answer.{Answer}
pub use Rattle.gc_catalogue.specs.declared.answer.Reading.{Reading}
pub use Rattle.gc_catalogue.specs.declared.answer.Reading.TheVariants.{ComFault, Unreadable, Value}
pub use Rattle.gc_catalogue.specs.declared.asked.Asked.{Asked}
pub use Rattle.gc_catalogue.specs.declared.asked.Asked.TheVariants.{Raw, Table}
pub use Rattle.gc_catalogue.specs.declared.call.Call.TheVariants.{InstrumentNo, NullProc, Position, SetDate, SimpleMea}
pub use Rattle.gc_instrument.specs.Prelude.{KeptReply}
pub use Rattle.gc_scenes.specs.Prelude.{IsPlayed, SceneState, at_moment, scene_restarted}
pub use Rattle.gc_client.specs.Prelude.{ById, ReadsBy, Wanted, course_at, fresh, heard, hears, id_in, left_by, sends}
pub use Rattle.gc_client.specs.declared.window.TheConstants.{WINDOW}
pub use Rattle.gc_world.proofs.Booked.{Has, has_at, has_more}
pub use Rattle.gc_world.specs.Prelude.{ReadsWithItsId, by_ids}
pub use Rattle.gc_links.specs.Prelude.{Act, AddsActs, Broke, Closed, Cut, Ended, Gave, Opened, Put, Silent, Told, Unopened, Untold}
pub use Rattle.gc_files.proofs.Adding.{appended_two}
pub use Rattle.gc_files.proofs.Pieces.{all_pieces, feed_behind_first, rows_left, tail_whole, whole_rest}
pub use Rattle.gc_files.proofs.Staying.{cuts_first, happen_append, is_run, life_append, no_rows_of_none, possible_events_append, run_by, runs_of_append, sides_append, splits_at_run}
pub use Rattle.gc_files.proofs.Whole.{feed_behind, whole_behind, whole_more}
pub use Rattle.gc_files.specs.Prelude.{ArePossibleEvents, Event, HasRows, IsFound, IsFront, IsRun, IsTrusted, Life, MayBeLeft, MayEnd, OpensFile, RunEnd, Sides, Step, appended, asks_sync, content, cuts_none, doubt_after, doubt_ended, feeds, has_feed, opened_table, row_lines, runs_of, same_sides, settled, sides_ended, steps_in, synced, taken_in, whole}
pub use Rattle.gc_files.specs.declared.past.Past.{Past}
pub use Rattle.gc_program_theorems.specs.Damaged.{AreFewByDamagedLines, HarmedRun, HasObjectsOwnOrDamaged, HasRowsOwnOrDamaged, HasTableOwnOrDamaged, IsHarmedRun, ObjectsAreOwnOrDamaged, OfEachHarmedRun, RowsAreOwnOrDamaged, RowsByDamagedLinesAreFew, RunsInFieldAreInstances, TablesAreOwnOrDamaged, harmed_program_of, own_or_damaged_lines}
pub use Rattle.gc_program_theorems.specs.Eventful.{IsEventful, acts, acts_until_anew, anew_acts, anew_turns, at_start, at_target, chained_record, commands, empty_reply, executed_moves, first_acts, first_moves, first_stretch, heard_acts, heard_moves, last_acts, last_moves, last_stretch, left_by_first, measured_reply, number_record, numbered_reply, off_target_reply, plan, pointed_reply, points_record, program, records, reporting, runs, scope, sent_acts, sent_moves, sync_acts, sync_turns, tally}
pub use Rattle.gc_program_theorems.specs.Exchanges.{Exchange, exchange_at, exchange_in, exchange_of_front, exchange_of_move, exchange_of_turn, exchanges_if_begun, exchanges_of, exchanges_of_all, exchanges_of_moves, exchanges_of_runs, exchanges_of_turns}
pub use Rattle.gc_program_theorems.specs.Fields.{HasReply, IsAdded, IsOutcomeOfReply, IsOutside, IsPlain, IsQuantity, IsRowBy, IsRowOf, IsSetTo, description_of, quality_in, quantity_in, quantity_source, shown_as, under}
pub use Rattle.gc_program_theorems.specs.Lasting.{AppendsAreRuns, AreLeft, EachFileHasItsRows, HasRunOfFile, IsRunMoment, IsRunOfFile, RowsOutlastCrashes, RowsOutlastFailures, RunMoment, life_begun, rows_by, sides_begun}
pub use Rattle.gc_program_theorems.specs.LastingSoFar.{AreLeftObjectsSoFar, AreLeftSoFar, FileRunSoFar, IsFileRunSoFar, IsLeftOfSoFar, IsLeftTableSoFar, LeftObjectsSoFarAreOwnOrDamaged, LeftObjectsSoFarAreTheirOwn, LeftTablesSoFarAreOwnOrDamaged, LeftTablesSoFarAreTheirOwn, RowsSoFarOutlastCrashes, RowsSoFarOutlastFailures}
pub use Rattle.gc_program_theorems.specs.Left.{AreLeftObjects, IsLeftTable, LeavesObjects, LeavesTable, LeftObjectsAreOwnOrDamaged, LeftObjectsAreTheirOwn, LeftTablesAreOwnOrDamaged, LeftTablesAreTheirOwn}
pub use Rattle.gc_program_theorems.specs.Objects.{AreObjects, AreTyped, HasOwnObjects, IsObject, IsTyped, ObjectsAreTheirOwn}
pub use Rattle.gc_program_theorems.specs.Programs.{AskForStation, HasLastingRows, HasTrueRows, HoldsInField, HoldsOverDamage, IsFrontOfHead, IsRunOfProgram, ProgramsAreFaithful, ProgramsWithoutActsWriteNoRow, WritesThereAlone, appended_noted, field_run, harmed_run, settings_for, status_of, written_by}
pub use Rattle.gc_program_theorems.specs.Rehearsals.{FewEndUnbegun, RehearsalsAreFaithful, RehearsalsInARowAreFaithful, as_program, exchanges_happened, left_at_its_end, none_in_flight, programs}
pub use Rattle.gc_program_theorems.specs.Rows.{FieldsSay, IsOwnIfAnswered, IsRowOfReply, RowsAreTheirOwn, SayFault, column}
pub use Rattle.gc_program_theorems.specs.RunMoments.{FileMomentsAreRunsSoFar, IsMomentOf, MomentsAreRunsSoFar, ReturnedRunsAreRunsSoFar, RunMomentSeen, RunsSoFarReturn, file_so_far_at, so_far_at, taken_next}
pub use Rattle.gc_program_theorems.specs.SoFar.{AreObjectsSoFar, AreWrittenSoFar, FieldRunSoFar, HarmedRunSoFar, IsFieldRunSoFar, IsHarmedRunSoFar, IsRunSoFar, IsTableSoFar, ObjectsSoFarAreOwnOrDamaged, ObjectsSoFarAreTheirOwn, RowsSoFarAreOwnOrDamaged, RowsSoFarByDamagedLinesAreFew, RunSoFar, TablesSoFarAreOwnOrDamaged, TablesSoFarAreTheirOwn, before_last, own_lines_so_far, own_or_damaged_so_far, records_so_far, texts_by}
pub use Rattle.gc_program_theorems.specs.Tables.{Answers, AreOneForOne, AreReadAs, AreWritten, FieldRun, HasOwnTable, IsFieldRun, IsPartOfNext, IsStationRun, IsTable, OfEachFieldRun, StationRun, TablesAreTheirOwn, acts_in, acts_measured, head_rows, own_lines, parts_in, parts_of_run, program_of, records_in, records_of_run, scope_of, table_form}
pub use Rattle.gc_program_theorems.specs.Witness.{HasOwnRows, SomeRowIsItsOwn, layout_in, no_labels, ports_at, run_in, survey, table_layout, taken}
