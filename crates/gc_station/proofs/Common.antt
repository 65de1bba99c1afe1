-- The names that this crate's proofs cite, passed on from one place. Declares nothing.
pub use base.Logic.{SProp, ent}
pub use contract.Monad.{Fun}
pub use contract.Running.{tables}
pub use denote.RattleType.{RattleType, owns}
pub use denote.Signature.{plain, types_at}
pub use denote.Steps.{nothing}
pub use denote.Triple.Clauses.{Clauses, closing}
pub use denote.Triple.Entry.{alive}
pub use denote.Triple.Spec.{Meets, triple_of}
pub use denote.Triple.Table.{entered}
pub use denote.Triple.Walked.{Goes-dropped, Stays, ends_at, says, stay_dropped, walk_Meets, walk_of}
pub use mir.Syntax.{Args, Fn, a_type}
pub use mir.Val.{Val, vptr}
pub use native.Mathlib.Nat.{div-add-mod', mod-eq-sub-mod, mul-le-mul_right, suc-mul}
pub use prog.Memory.{Memory}
pub use prog.Routine.{Routine}
pub use prog.Wp.{Calls, Loops, Tables, WpFn}
pub use seplogic.Ra.Ura.{Ura}
pub use sound.WpLaws.{WpFn-mono}
pub use types.ByLocal.{alloc_all, free_all, look_at, pass_all, sets}
pub use types.Kit.{ !, done, feq_l, fjoin, fsplit, keep, move, prop, qed, raw, regoal, split, suffices, ‵, ◌$◌, ◌∵◌, ◌⊛◌}
pub use types.Logic.{Logic}
pub use types.Part.{agg}
pub use types.Run.{enter, no_more, returns}
pub use Rattle.std.proofs.Common.{Bool, Err, IfSome, List, None, Ok, OnOk, Option, Result, Some, [], ap, append-nil, append_assoc, arith, drop, drop-drop, false, filter, get_or, if◌then◌else◌, inl, inr, is_some, length, lit<, lit≤, map, max, min, mod-eq_of_lt, mod-lt, nat_eq, nat_le, nat_lt, not, refl, replicate, rules, slice_set, subst, suc, sym, take, take-add, true, zero, ℕ, ◌%◌, ◌&&◌, ◌*◌, ◌++◌, ◌+◌, ◌-◌, ◌/◌, ◌<◌, ◌==◌, ◌||◌, ◌∙◌, ◌∷◌, ◌≡◌, ◌≢◌, ◌≤◌, ◌⊎◌}
pub use Rattle.std.proofs.KnownBytes.{Appends-kept, Appends-nil, Appends-trans, Keeps-refl}
pub use Rattle.std.proofs.Math.Nat.{le-max_left, le-max_right, min-eq_left, min-eq_right, min-le_right}
pub use Rattle.std.proofs.lemmas.Bool.{and_cases, and_from, and_parts, and_right, both_ways, cases_eq, cases_lt, cond-false, cond-true, cond_both, eq-eqb, eqb-false, eqb-true, false_from_ne_true, false≢true, le-leb, le-ltb, leb-false, leb-true, lt-ltb, ltb-false, ltb-true, ne_eqb, not-false, not-true, not_from_false, or_left, or_right}
pub use Rattle.std.proofs.lemmas.Bool.Decides.{eqb_tells, leb_tells, nat_tests}
pub use Rattle.std.proofs.lemmas.List.{append_cancel_left, drop-append-le, drop_all, drop_more, get_or_default, length-append, length-drop, length-map, length-take, map-append, map-id, map_more, nil_from_length, same_from_push, take-append-drop, take_all, take_more, take_rest}
pub use Rattle.std.proofs.lemmas.List.Concat.{flat_map-append}
pub use Rattle.std.proofs.lemmas.List.Elements.{All-cons, All-contains, All-from_recursion, All-nil, filter-append, filter_map-append, recursion_from_All}
pub use Rattle.std.proofs.lemmas.Option.{none-some, same_Some}
pub use Rattle.std.proofs.lemmas.Simd.{map-map}
pub use Rattle.std.specs.Io.KnownBytes.{Appends, Keeps}
pub use Rattle.std.specs.List.{AllByRecursion, Contains, filter_map, list_any}
pub use Rattle.std.specs.Option.{is_none, option_map_or, option_to_list}
pub use Rattle.std.specs.Prelude.{All, IsSomeAnd, MatchOption, codes, is_ok, slice_get, unwrap_or}
pub use Rattle.gc_lines.proofs.Passing.{Takes, assembler_takes}
pub use Rattle.gc_lines.proofs.Replies.{one_reply, reply_again}
pub use Rattle.gc_lines.proofs.Walks.{no_fields, no_fields_made}
pub use Rattle.gc_lines.specs.Prelude.{IsReply, Kept, ReplyFields, StandsFor, TakesFront, completed, frames_behind, lent_seen, line_in, reply_seen, rest_behind, rest_of, with_end}
unfoldable pub use Rattle.gc_lines.specs.Prelude.{header_at, reply_at}
pub use Rattle.gc_lines.specs.declared.fault.LineFault.{LineFault}
pub use Rattle.gc_values.proofs.Every.{every_behind, every_drop, every_take, every_weaker}
pub use Rattle.gc_values.specs.Prelude.{AreTooMany, FirstFault, HasOpenQuote, IsItemFault, IsListFault, IsParams, no_values, quotes}
pub use Rattle.gc_values.specs.declared.decimal.Decimal.{Decimal}
pub use Rattle.gc_values.specs.declared.fault.ValueFault.{ValueFault}
pub use Rattle.gc_texts.specs.Prelude.{Answered, AreOfKinds, BeginAs, End, HaveValues, IsFormAnswer, IsFormFault, IsFormReading, IsItemsMisfit, IsKindsFault, Judged, KindsSeen, Missed, NoValue, Skipped, SuitsCount, Unreadable, call_at, capped, ending_seen, faulty_item, faulty_items, has_code, is_good, is_sign_on, judged_count, judged_one_more, kinds_seen, lack, line_of, lists_code, made_at, measured_part, meets, no_codes, no_needs, one_more, open_quote, repeats_after, too_many, wrong_count}
unfoldable pub use Rattle.gc_texts.specs.Prelude.{as_zero, is_off_target}
pub use Rattle.gc_texts.specs.declared.again.Again.{Again}
pub use Rattle.gc_texts.specs.declared.agree.Twice.{Twice}
pub use Rattle.gc_texts.specs.declared.fault.RunFault.{RunFault}
pub use Rattle.gc_texts.specs.declared.form.Form.{Form}
pub use Rattle.gc_texts.specs.declared.judgement.Judgement.{Judgement}
pub use Rattle.gc_texts.specs.declared.judgement.Judgement.TheVariants.{Disagree, OffTarget, Unexpected}
pub use Rattle.gc_texts.specs.declared.near.Expected.{Expected}
pub use Rattle.gc_texts.specs.declared.occasion.Occasion.{Occasion}
pub use Rattle.gc_texts.specs.declared.quality.Quality.{Quality}
pub use Rattle.gc_texts.specs.declared.quality.Quality.TheVariants.{Fine, Refused, Unconfirmed, Warning}
pub use Rattle.gc_texts.specs.declared.tasks.Task.{Task}
pub use Rattle.gc_texts.specs.declared.turn.Turn.{Turn}
pub use Rattle.gc_texts.specs.declared.value_item.Needs.{Needs}
pub use Rattle.gc_texts.specs.declared.wish.Wish.{Wish}
pub use Rattle.gc_session.proofs.Behind.{CountsBehind, behind_step, counts_step, met_lost, near_by_count, settled_and_waiting}
pub use Rattle.gc_session.proofs.Choosing.{room_of, synchronizing_chosen, waiting_chosen}
pub use Rattle.gc_session.proofs.Courses.{client_of, course_append, course_client, course_of}
pub use Rattle.gc_session.proofs.Stretches.{all_among}
pub use Rattle.gc_session.specs.Prelude.{IsNearTheTable, calls_for_renewal, client_after, client_sent, client_stepped, ended_last, ends_with_table, has_room, hold_left, is_none_left, is_reply, is_some_of_table, last_ended, may_ask, one_more_in_window, pause_within, raises_doubt}
pub use Rattle.gc_session.specs.declared.exchange.Exchange.{Exchange}
pub use Rattle.gc_catalogue.specs.Prelude.{IsAskedReading, asked_line, is_of_table}
pub use Rattle.gc_catalogue.specs.declared.answer.Answer.{Answer}
pub use Rattle.gc_catalogue.specs.declared.answer.Reading.{Reading}
pub use Rattle.gc_catalogue.specs.declared.asked.Asked.{Asked}
pub use Rattle.gc_catalogue.specs.declared.asked.Asked.TheVariants.{Raw, Table}
pub use Rattle.gc_catalogue.specs.declared.call.Call.TheVariants.{NullProc}
pub use Rattle.gc_client.proofs.Digits.{heard_digit, id_back, send_keeps_ids, settling_keeps_ids}
pub use Rattle.gc_client.proofs.Lists.{head_of_drop}
pub use Rattle.gc_client.proofs.OneForOne.{accounts_for_sends, expired_parts, heard_parts, length-settle, lost_parts}
pub use Rattle.gc_client.specs.Prelude.{AccountsForSends, ById, Course, Expire, Hear, IsEarliest, IsSubsequence, IsWithinLimits, Late, Lost, ReadsBy, Restart, Sending, Settled, Settlement, Step, Waits, Wanted, begun, course, course_after, course_at, deadlines, expired, expires, fits, fresh, heard, hears, id_at_place, id_in, id_of, is_answered, left_by, left_when, lost, nothing_settled, of_pending, of_settled, outcome_seen, pending_of, place_in, restarts, send_unless_full, sends, sent_on, settle, settled_by_line, settlement_seen, settles_at, the_word}
pub use Rattle.gc_client.specs.declared.pending.Pending.{Pending}
pub use Rattle.gc_client.specs.declared.settlement.Outcome.{Outcome}
pub use Rattle.gc_client.specs.declared.window.TheConstants.{IDS, WINDOW}
pub use Rattle.gc_links.specs.Prelude.{Act, AddsActs, Broke, Closed, Cut, Ended, Gave, IsPartIfErr, Opened, Put, Silent, Told, Unopened, Untold, put_act}
pub use Rattle.gc_links.specs.declared.link.Moment.{Moment}
pub use Rattle.gc_station.specs.ActKinds.{IsOpening, Puts, ReadsClock, ReadsLink, moment_in}
pub use Rattle.gc_station.specs.Agreeing.{AgreedRowsAgree, AgreesWithFirst, DisagreesInSecond, HasFirst, IsComparedInFull, IsConfirmed, IsUnconfirmed}
pub use Rattle.gc_station.specs.Answers.{AnswerIsJustified, Completes, IsAnsweredIn, IsOwnRequest, IsRecordedBy, IsRepliedIn, IsWrittenAt, ReadsBefore, deadline_after, first_deadline}
pub use Rattle.gc_station.specs.Attempts.{code_in, code_of, listed_after, listed_after_settlements}
pub use Rattle.gc_station.specs.Beginnings.{IsClearedAndQuiet, IsSynchronizing, NoneBeforeTheLastAnswer, SynchronizesAnew, SynchronizesInOrder, lines_heard, lines_heard_at, unanswered_after}
pub use Rattle.gc_station.specs.Behind.{AreOfTable, AwaitsFirstReply, CommandsAreSentNearTheTable, IsNotHeldUp, TheTableIsNeverHeldUp}
pub use Rattle.gc_station.specs.BoundRuns.{CallsAreNeeded, DeadlinesAreNeeded, OutageIsRecorded, ReadingsAreNeeded, UnaskedIsNeeded, asked_in_chain, at, at_asking, chain_commands, exchanged, long_deadline, null_lines, null_replies, outage, outage_commands, outage_plan, quick_plan, scope, slow_commands, stalled_read, stalled_reading}
pub use Rattle.gc_station.specs.Busy.{busy_after, busy_after_settlements, says_busy, wait_for}
pub use Rattle.gc_station.specs.CallTimes.{AreQuick, CallsReturn, IsAskedToWait, IsReadBy, MayTakeTime, ReadingsReturn}
pub use Rattle.gc_station.specs.Causes.{fault_of_cause}
pub use Rattle.gc_station.specs.Chains.{IsChained, IsLinked}
pub use Rattle.gc_station.specs.Closing.{ClosesForACause, EndsAfter, EndsAtFailure, EndsDisconnected, EndsDone, EndsRun, HasFreshClient, IsReasoned, Shows, StopsForACause}
pub use Rattle.gc_station.specs.Counters.{count_at, count_noted, counts_after_settlement, counts_after_settlements, with_before}
pub use Rattle.gc_station.specs.Cycles.{BeginsAt, BeginsLate, ClockRises, CyclesBeginWhenDue, IsBroken, IsDueNext, IsMissedIn, IsUnsentIn, IsWantedBy, IsWithoutValue, LastBegan, SentOnlyInTime, UnsentForACause, UnsentIsJustified, counts_from}
pub use Rattle.gc_station.specs.Deciding.{action_again, action_beginning, action_begun, action_cycle, action_done, action_held, action_in, action_in_setup, action_of, action_of_phase, action_on, action_overdue, action_preparing, action_ready, action_room, action_settled, action_to_prepare, action_to_send, action_waiting, action_without_turns, dead_after, goes_on, has_begun, has_no_time_left, is_asked_for, is_between_chains, is_cut, is_dead, is_due, is_finished, is_held_back, is_out_of_time, is_overdue, is_past, is_preparing, is_quiet, is_resting, is_silent, is_stale, is_stopping, is_unquiet, is_up, is_wanted, lacks_value, later, load_of, may_abandon, may_go, setup_permits, the_choices, waits_for_all, waits_out, width_of}
pub use Rattle.gc_station.specs.EachOnce.{AreRecordedOnce, EachOnce, Interleave, IsEachOnce, IsFurther, RunRequest, all_cycles, commands_of_cycle, commands_reached, in_text, of_cycles, of_record, of_task, of_text, of_waiting, reached, requests, still_waiting}
pub use Rattle.gc_station.specs.Ends.{IsLast, IsLateIn, IsLostIn, IsOvertaken, LateIsJustified, LostIsJustified, MayResynchronize, OneReadsPast, Resynchronizes}
pub use Rattle.gc_station.specs.Expecting.{AnswersAreAsExpected, BringsUnexpected, ChainsAreAsExpected, IsAsExpected, IsByExpectation, IsCompared, IsNotAsExpected, RenewsAfterAnUnexpectedAnswer, TheSetUpIsAsExpected}
pub use Rattle.gc_station.specs.Firsts.{answer_first, answer_found, compares, first_noted, firsts_after, put, with_first}
pub use Rattle.gc_station.specs.Keeping.{AreKept, IsKept, KeepsUp, Snapshot, close_at_output, reads_clock_alone}
pub use Rattle.gc_station.specs.Links.{AreChained, ChainsStay, IsAnsweredEarlier, IsBefore, MarksGoOn, RecordsStay, WasAnsweredWell, parts}
pub use Rattle.gc_station.specs.Marks.{agrees_in, answer_as, answered_as, any_unexpected, command_of, commands_in, end_of, ended_confirmed, first_mark, is_well, judged_by, judgement_of, last_well, occasion_of, passes_rules, quality_in, record_of, record_with, records_of, refused_as, unexpected_noted, unless_judged, warned_as, with_id, with_marks, with_values}
pub use Rattle.gc_station.specs.Model.{IsSending, Model, Performs, Runs, SendsCommand, action_at, after, after_all, after_clock, after_close, after_open, after_pass, after_piece, after_put, after_read, asks_first, asks_for, asks_next, asks_setup, cycle_length, cycle_to_send, end_unsent, first_text, first_unsent_record, firsts_of, is_heard, line_busy, line_called, line_came, line_doubted, line_news, line_settles, lines_came, lines_completed, lines_taken, listed_after_skip, listed_unsent, losing, mark_sent, mark_setup_sent, moved, next_left_out, next_request_text, null_request, null_text, occasion_at, opening, piece_at, piece_heard, piece_noted, place_to_send, request_for, request_of_setup, request_or_null, sent_to, settles, stepped, text_or_null, unsent_record, waiting_of, with_listed, with_losses, with_moment, with_more_passes, with_more_records, with_progress, with_rest}
pub use Rattle.gc_station.specs.Moments.{AnswersHaveTheirMoments, CameAt, EachRecordHasItsMoment, HasItsMoment, IsAsRead, IsUnreadableIfSo, UnreadableAsTheyRead, utc_or, utc_read}
pub use Rattle.gc_station.specs.Nearness.{AnswersAreAtTheirTargets, HasAnswer, IsAtItsTarget, OffTargetIsJustified}
pub use Rattle.gc_station.specs.NextCommand.{commands_before, commands_left, commands_left_after, cycle_next, cycles_begun, expected_at, expected_first, expected_of_setup, first_is_chained, first_upcoming, is_chained_after, is_chained_in, left_out_in, mark_next, mark_setup, needs_first, others_after, others_in, place_next, rests, upcoming_after}
pub use Rattle.gc_station.specs.NullFirst.{HasAllUnanswered, HasEndedANull, SynchronizationsEndWithANull, null_asked}
pub use Rattle.gc_station.specs.OnceAsked.{EndsATableRunByBoundOnceAsked, EndsByBoundOnceAsked, EndsSoonOnceAsked, FinishesATableChainOnceAsked, FinishesItsChainOnceAsked, chain_left, chained_first, end_bound, requests_by, requests_of_table_once_asked, requests_once_asked, requests_sent}
pub use Rattle.gc_station.specs.Pace.{longest_timeout, out_of_time_at, read_end, read_end_without_deadline, read_timeout, stale_at}
pub use Rattle.gc_station.specs.Parts.{Asks, MarkAsks, MarksAsk, Part, SyncStep, client_part, ends_part, first_request_part, heard_steps, idle_part, in_front, mark_of, only_steps, only_sync_steps, part_of_act, parts_joined, parts_of, put_part, request_part, sent_of, sync_part, timeless, went_out}
pub use Rattle.gc_station.specs.Progressing.{advanced, after_failure, attempts_left_out, bytes_noted, cleared, closed, cycle_begun, cycle_start, doubt_noted, drained, due_at, due_of, early_noted, ended_for, failing, gives_back, hold_noted, is_idle, is_missed_at, is_over, is_over_in, is_spared, lateness, line_noted, line_synchronizing, lines_synchronizing, loses_all, moment_noted, next_attempt, next_period, null_sent, opened, pause_ended, phase_again, quieted, regular_period, request_noted, resynchronized, sent, setup_sent, silent, skipped, time_passed, turned, unsent_at}
pub use Rattle.gc_station.specs.Qualities.{GoodIsAnAnswer, IsAsListed, IsOfQuality, IsRefusedReading, QualitiesAreAsListed, accepted_at, answer_in, form_at, quality_as, twice_at}
pub use Rattle.gc_station.specs.Quiet.{HasLast, IsAsking, IsListening, IsSilent, KeepsOpen, SendsRequest, StaysConnected, TellsMoment}
pub use Rattle.gc_station.specs.RealTime.{LastsByBound, ReadsEndInTime, RecordsByBound, bound}
pub use Rattle.gc_station.specs.Reasons.{AwaitsReply, AwaitsSettlements, AwaitsSomething, HasConnectionFor, HasRoomToAsk, HoldsBefore, IsAtItsEnd, IsBetweenChains, IsFinished, IsGoingOn, IsHeld, IsInItsTurn, IsOutOfTime, IsOverdue, IsPreparedOrOverdue, IsReadyOrOverdue, IsResting, MayAskNoMore, MayBeSent, MayGo, MayPrepare, MayRetry, NothingMayGo, StaysInItsChain, WaitsForWhatIsInFlight, WantsNull}
pub use Rattle.gc_station.specs.RecordedInTime.{AreRecorded, DueOnesAreRecorded, IsDueAt, IsInTime, IsUnhindered, ReadsAwaitSomething, ReadsClockBefore, RecordingEnds, RecordsInTime, RecordsOnceTimedOut, RecordsUnsent, acts_to_record, left_to_record, raw_count, raws_of_setup, record_bound}
pub use Rattle.gc_station.specs.Records.{Grew, Record, WritesBy, WritesPart, texts_of}
pub use Rattle.gc_station.specs.Requested.{EachRecordIsOfItsRequest, HasItsRequest, IsOfItsRequest}
pub use Rattle.gc_station.specs.Requests.{asked_at, command_at, command_sent, of_command, sets_clock, untimed}
pub use Rattle.gc_station.specs.Retries.{BeginNoAttempt, EachRecordHasItsTurn, FurtherAttemptsHaveACause, HasItsTurn, HasListed, IsFurtherAttempt, MayLeaveOut, Rests, code_of_end, expected_of, is_listed}
pub use Rattle.gc_station.specs.Runs.{FailedAtRecord, FailedAtSync, OfEachRecord, Ran, RanTo, WhereNext, state_after}
pub use Rattle.gc_station.specs.Saying.{IsSaid, IsSaidInForm}
pub use Rattle.gc_station.specs.Scopes.{AreReadings, ForEachAndSomeReadings, ForEachReadings, OneReadingForALine, Reads, Scope, SomeReadings}
pub use Rattle.gc_station.specs.Setups.{AreInOrder, ArePrepared, Dispatch, EachSetUpOnce, GoOn, IsNextAfter, IsPrepared, NoneBeforeTheSetUp, SetUpInOrder, SetUpsGoOn, StaysUp, dispatch_of_mark, dispatch_of_record, dispatch_row, dispatches_of, of_setup, sent_first, setup_sent_at, setup_sent_by}
pub use Rattle.gc_station.specs.Silences.{BringsNoReply, HasAllTimedOut, IsMute, IsMuteFor, IsNoReply, PutsFirst, WentBack, latest}
pub use Rattle.gc_station.specs.Stations.{Breaks, DropsMarks, KeepsToModel, Makes, MakesMove, Moves, OnCall, ReadsMoment, Refines, RefinesOrTookPart, Steps, SuitsAction, Took, TookPart, as_seen, cut_progress, station_advancing, station_asking, station_expiring, waiting_of_station}
pub use Rattle.gc_station.specs.Stopping.{ClosesBetweenChains, ClosesStale, EndsOnceStale, GoesOnInItsChain, HasStale, NoneWellSince, RenewsNot, StopsAtItsClose, asked_after, least_moment}
pub use Rattle.gc_station.specs.Tallies.{counted, counted_in, empty_counts, empty_tally, sum, tallied, tally_of, total}
pub use Rattle.gc_station.specs.Tasked.{EachRecordIsOfItsTask, IsOfItsTask}
pub use Rattle.gc_station.specs.Tries.{AllTried, EndsSettled, IsDisconnecting, IsTried, NoneSettled, SettlesNone, disconnections_in, openings_in}
pub use Rattle.gc_station.specs.Watching.{cut_to, fresh_after, fresh_in, fresh_of, older, oldest, oldest_from, places_of, renewed, renewed_by, renewed_if, renews, unanswered, watched_at, watched_in}
pub use Rattle.gc_station.specs.Writing.{noted, recorded_after, recorded_unsent}
pub use Rattle.gc_station.specs.Zeros.{IsByForm, IsZeroOf}
pub use Rattle.gc_station.specs.declared.cause.Cause.{Cause}
pub use Rattle.gc_station.specs.declared.cause.Cause.TheVariants.{Clock, Dead, Done, SetUp, Stale, Stopped, Turns, Write}
pub use Rattle.gc_station.specs.declared.firsts.FirstAnswer.{FirstAnswer}
pub use Rattle.gc_station.specs.declared.mark.Mark.{Mark}
pub use Rattle.gc_station.specs.declared.plan.Plan.{Plan}
pub use Rattle.gc_station.specs.declared.progress.Action.{Action}
pub use Rattle.gc_station.specs.declared.progress.Action.TheVariants.{Ask, Begin, Clear, Close, Flush, Open, Pass, Prepare, Read, ReadClock, Renew, Send, Skip, Stop}
pub use Rattle.gc_station.specs.declared.progress.Phase.{Phase}
pub use Rattle.gc_station.specs.declared.progress.Phase.TheVariants.{Clearing, Closing, Down, Draining, Over, Pausing, Ready}
pub use Rattle.gc_station.specs.declared.progress.Progress.{Progress}
pub use Rattle.gc_station.specs.declared.progress.Until.{Until}
pub use Rattle.gc_station.specs.declared.progress.Until.TheVariants.{Due, Limit}
pub use Rattle.gc_station.specs.declared.progress.Upcoming.{Upcoming}
pub use Rattle.gc_station.specs.declared.progress.Waiting.{Waiting}
pub use Rattle.gc_station.specs.declared.recorded.Recorded.{Recorded}
pub use Rattle.gc_station.specs.declared.station.Station.{Station}
pub use Rattle.gc_station.specs.declared.station.sending.Outgoing.{Outgoing}
pub use Rattle.gc_station.specs.declared.tally.Counts.{Counts}
pub use Rattle.gc_station.specs.declared.tally.Tally.{Tally}
pub use Rattle.gc_station.specs.declared.watching.Watch.{Watch}
