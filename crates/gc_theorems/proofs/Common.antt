-- The names that this crate's proofs cite, passed on from one place. Declares nothing.
pub use mathlib.Core.List.{map-map}
pub use mathlib.Core.Path.{ap₂}
pub use Rattle.std.proofs.Common.{Bool, List, None, Option, Some, [], ap, append-nil, append_assoc, arith, cond, drop, eqb, false, if◌then◌else◌, inl, inr, length, length-append, length-drop, lit<, lit≤, ltb, map, map-id, nat_eq, nat_le, nat_lt, negsuc, not, pos, refl, subst, suc, sym, true, unsigned_abs, zero, ℕ, ℤ, ◌%◌, ◌&&◌, ◌*◌, ◌++◌, ◌+◌, ◌-◌, ◌/◌, ◌<◌, ◌^◌, ◌||◌, ◌∙◌, ◌∷◌, ◌≡◌, ◌≢◌, ◌≤◌, ◌⊎◌}
pub use Rattle.std.proofs.Math.Bool.{and-false, or-false, or_assoc}
pub use Rattle.std.proofs.Math.Nat.{mul-le-mul_right, suc-mul}
pub use Rattle.std.proofs.Permutation.{every_append}
pub use Rattle.std.proofs.lemmas.Bool.{and_parts, and_right, cases_order, eq-eqb, eqb-false, eqb-true, false≢true, le-ltb, lt-ltb, ltb-false, ltb-true, ne_eqb, not-true, true≢false}
pub use Rattle.std.proofs.lemmas.List.{append_cancel_left, drop-map, length-map, length_push, map-append, take-append-drop, take-append-le}
pub use Rattle.std.proofs.lemmas.Option.{none-some, same_Some, slice_get_within}
pub use Rattle.std.specs.Fmt.{decimal}
pub use Rattle.std.specs.List.{AllByRecursion, AllZip, cons_option, filter_map}
pub use Rattle.std.specs.Prelude.{IfSome, codes, fold, slice_get, slice_index, take, unwrap_or, ⊤}
pub use Rattle.gc_lines.proofs.Lists.{all_append, cons_tail}
pub use Rattle.gc_lines.proofs.Requests.{request_found}
pub use Rattle.gc_lines.specs.Prelude.{IsNoRequest, IsRequest, RequestFields, ends_in_return, frame_of, frames_behind, id_text, is_line_feed, line_in, lines, pieces_behind}
unfoldable pub use Rattle.gc_lines.specs.Prelude.{header_at, reply_at, request_at}
pub use Rattle.gc_values.proofs.Every.{every_behind, every_drop, every_front, every_take, every_weaker}
pub use Rattle.gc_values.proofs.TextShape.{IsBare, bare_above, bare_param, hex_digit_above_comma}
pub use Rattle.gc_values.specs.Prelude.{AreDigits, AreValues, IsListFault, IsStringByte, IsText, IsValue, boolean_text, byte_text, faulty_items, minus_text, number_of, places_text, signed_text, text, whole_text, wrong_count}
unfoldable pub use Rattle.gc_values.specs.Prelude.{rounded}
pub use Rattle.gc_texts.proofs.TaskMoments.{at_any_moment}
pub use Rattle.gc_texts.specs.Prelude.{End, Lacks, call_at, is_impossible, line_of}
unfoldable pub use Rattle.gc_texts.specs.Prelude.{is_off_target}
pub use Rattle.gc_texts.specs.declared.near.Expected.{Expected}
pub use Rattle.gc_texts.specs.declared.occasion.Occasion.{Occasion}
pub use Rattle.gc_texts.specs.declared.tasks.Task.{Task}
pub use Rattle.gc_session.proofs.Courses.{course_append, course_client}
pub use Rattle.gc_session.proofs.InTable.{AreInTable, IsInTable, calls_in_table}
pub use Rattle.gc_session.proofs.Lawful.{held_back, near, theirs}
pub use Rattle.gc_session.specs.Prelude.{AreInTurn, Came, ClientEvent, Hears, IsNearTheTable, Null, Opens, RequestsAreHeldBack, RequestsAreSentNearTheTable, Restarts, Session, SessionsAreTheirClients, Stepped, Steps, client_after, client_stepped, ended_last, events_all, last_ended, last_ended_at, left_among, raises_doubt, settled_all, settles, steps_among, steps_since}
pub use Rattle.gc_session.specs.declared.session.TheConstants.{OWN}
pub use Rattle.gc_station.proofs.Asked.{FirstHasNoSyncSteps, begun_if_nothing_lost, client_part_no_sync_steps, first_part_no_sync_steps, heard_append, left_append, marks_none, nil_both, parts_begun, steps_none, sync_steps_gave, sync_steps_none, word_after_sync_steps}
pub use Rattle.gc_station.proofs.Booking.{Books, all_records, course_sent, course_settled, marks_ask_at, marks_ask_length, restarting, sending_of, sends_with_room, sent_append, sent_by, settled_append, settled_by}
pub use Rattle.gc_station.proofs.CountedIds.{CountUp, counted_at, ids_count}
pub use Rattle.gc_station.proofs.EachRun.{each_once, invariant_after, invariant_opening}
pub use Rattle.gc_station.proofs.Following.{BooksInParts, follows}
pub use Rattle.gc_station.proofs.Going.{runs-append, runs_front}
pub use Rattle.gc_station.proofs.Linking.{chains_stay, marks_go_on}
pub use Rattle.gc_station.proofs.Lists.{all_on, cons_head, cuts_on, get_behind, get_dropped, get_more, one_front_begins_other}
pub use Rattle.gc_station.proofs.Meets.{IsRecordOf, is_record_of, was_answered, was_late}
pub use Rattle.gc_station.proofs.PartFronts.{IsFront, front_last, front_parts}
pub use Rattle.gc_station.proofs.SentAt.{get_split, records_stay}
pub use Rattle.gc_station.specs.Prelude.{AgreesWithFirst, AreBegun, AreChained, ChainsStay, IsAnsweredEarlier, IsBefore, IsHeldBack, IsSentAfter, MarkAsks, MarksAsk, MarksGoOn, MarksGoOnIn, Model, Part, Performs, Reads, Record, RecordsStay, Runs, Scope, SynchronizesAnew, action_at, after, client_part, commands_in, ends_part, expected_first, has_begun, heard_in, heard_steps, idle_part, in_front, is_heard, lines_completed, loses_all, mark_of, occasion_in, occasion_of, opening, part_of_act, parts, parts_joined, parts_of, put_part, record_of, records_of, scoped, sent_at, sent_of, state_after, sync_part, timeless, unanswered_after, went_out}
pub use Rattle.gc_station.specs.declared.plan.Plan.{Plan}
pub use Rattle.gc_catalogue.proofs.AskedRules.{asked_again}
pub use Rattle.gc_catalogue.specs.Prelude.{IsFitting, asked_line, asked_request, behind_commas, call_fields, is_of_table, params_of, procedure_of, request_line, request_of}
pub use Rattle.gc_catalogue.specs.declared.answer.Answer.{Answer}
pub use Rattle.gc_catalogue.specs.declared.asked.Asked.{Asked}
pub use Rattle.gc_catalogue.specs.declared.asked.Asked.TheVariants.{Raw, Table}
pub use Rattle.gc_catalogue.specs.declared.call.Call.{Call}
pub use Rattle.gc_catalogue.specs.declared.call.Call.TheVariants.{InstrumentNo, NullProc}
pub use Rattle.gc_catalogue.specs.declared.fault.CallFault.TheVariants.{Parameters, Unknown}
pub use Rattle.gc_catalogue.specs.declared.raw.RawCall.{RawCall}
pub use Rattle.gc_instrument.proofs.Answering.{handed_again, handed_new, only_own_request}
pub use Rattle.gc_instrument.specs.Prelude.{Executed, Handed, HasNoRequest, IsFittingState, IsReplied, KeptReply, State, answers, commanded, distance_outcome, is_date, is_precision, is_prism, kept_after, kept_id, kept_line, measured, refusal_line, refuses, set_if, simulator_opening, without_kept}
unfoldable pub use Rattle.gc_instrument.specs.Prelude.{exec, handed}
pub use Rattle.gc_client.proofs.OneForOne.{accounts_for_sends, length-settle}
pub use Rattle.gc_client.specs.Prelude.{Answered, ById, Course, Hear, IsSubsequence, Late, Lost, Outcome, Restart, Sending, Settled, Settlement, Wanted, begun, course, course_after, course_at, expired, expires, fresh, heard, hears, hears_line, is_answered, left_by, left_when, lost, of_pending, of_settled, pending_of, place, place_in, restarts, send_unless_full, sends, sent_on, settle, settled_by_line, settled_on, settles_at, the_word}
pub use Rattle.gc_client.specs.declared.pending.Pending.{Pending}
pub use Rattle.gc_client.specs.declared.window.TheConstants.{IDS, WINDOW}
pub use Rattle.gc_world.proofs.Booked.{Has, has_at, has_more, has_push}
pub use Rattle.gc_world.proofs.Handing.{again_kept, exchange, kept_line_is_kept, kept_reads, reply_heard, without_kept_after}
pub use Rattle.gc_world.proofs.Places.{all_at, element_at, get_map, get_push, get_seen, slice_drop}
pub use Rattle.gc_world.proofs.Replay.{IsAsSent, as_sent_more}
pub use Rattle.gc_world.proofs.Rows.{each_doubled, each_number, each_without, rising_doubled, rising_doubled_behind, rising_each, rising_lower, rising_moved, rising_push, rising_tail, rising_without, rising_without_behind}
pub use Rattle.gc_world.proofs.Settled.{AccountForSent}
pub use Rattle.gc_world.proofs.Sound.{IsComing, IsGoing, Sound, all_sent, sound_open, sound_step}
pub use Rattle.gc_world.specs.Prelude.{ByNumber, IsExchange, IsReplyTo, ReadsWithItsId, Rising, by_ids, by_numbers, ids_open, number_reply, number_send, numbers, numbers_open, of_sent}
pub use Rattle.gc_links.specs.Prelude.{Act, Closed, Cut, Gave, Put, Told}
pub use Rattle.gc_theorems.specs.Begin.{AreTurns, Asks, IsTurn, IsWellFormed, LacksTheWord, Reaches, SyncModel, SyncTurn, UnderWay, asks, begins, comes, ids_under_way, leaves, left_by_turns, none_under_way, reaches, turned, turns}
pub use Rattle.gc_theorems.specs.Beginnings.{AreFewKilled, AreOwn, ArePossibleIfBegun, AreRuns, HasRisingIds, IsOwnIfBegun, Run, RunsInARowAreOwn, after_turns, killed_by, killed_over, killed_unless_begun, left_by_run, left_by_runs, left_if_begun, under_way_on}
pub use Rattle.gc_theorems.specs.Begun.{ArePossibleOnceBegun, HasSynchronizedCleanly, IsBehindTheTable, IsByReply, IsClean, IsFaithful, IsSafe, WasMadeOn, WentOutBehindTheTable, eighth_null, ids_begun, nulls, nulls_settled, numbers_begun, of_eighth, wire_over_empty_line, world_once_begun}
pub use Rattle.gc_theorems.specs.ChainWitness.{IsPointedInField, commands, measures, points, reads_all}
pub use Rattle.gc_theorems.specs.Chains.{AreCalls, AreExecutedInChain, HasEffect, HasNoStartAmong, IsChainedTo, IsExecutedBefore, IsExecutedInChain, IsUndisturbed, stretch_wire}
pub use Rattle.gc_theorems.specs.ClientRuns.{ArePossibleRuns, PlacedRun, ask_events, begun_at, came_of, client_if, client_over, event_of, events_of, events_over, left_over, lost_if, placed_runs, settled_if, settled_over}
pub use Rattle.gc_theorems.specs.ClientSynchronizing.{AreOld, Ask, IsDamagedSynchronization, NoneIsOld, SixAreTooMany, Sync, SyncLine, SyncStep, null_line, sync, sync_after, sync_asked, sync_delivered, sync_over}
pub use Rattle.gc_theorems.specs.CountingChain.{Counter, IsCountedInField, acts, at_start, bare, counter_handed, counting, counts, first_reply, kept_by, null_replies, once_counted, program, stretch, third_reply}
pub use Rattle.gc_theorems.specs.Damage.{Account, AllComeFresh, ComesFresh, Damaged, Event, IsFresh, Of, Origin, account, account_after, account_expired, account_heard, account_sent, account_settled, counted, ended_by, ended_by_damage, one_if_damaged, opened}
pub use Rattle.gc_theorems.specs.DamagedHoldingBack.{AllMayHarmApart, HasRoomIfSent, Holding, MayDoApart, MayHarmApart, ended, holding_begun, holding_harms, holding_moves, last_if, undamaged_if}
pub use Rattle.gc_theorems.specs.DamagedRuns.{AnswerIsOwnOrDamaged, AreFewByDamagedLines, AreFewRecordsByDamagedLines, AreOfTable, AreSentInStretches, HarmedProgram, HasItsRequest, IsByDamagedLine, IsInHarmedField, IsLocal, IsOwnOrByDamage, IsRunLocal, LateIsOwnOrDamaged, WasSettledByDamage, count_in, damaged_lines_in, parts_of_program, records_of_program, sent_before, sent_until, written_in_stretches}
pub use Rattle.gc_theorems.specs.DamagedSynchronizing.{AllMaySyncHarm, IsCleanButStruck, MaySyncHarm, OwnEighthComes, SyncHarm, WasStruck, sync_harmed, sync_harms}
pub use Rattle.gc_theorems.specs.Field.{Anew, ArePossible, AsksOnly, AsksTheTable, Changes, Comes, Foreign, IsFirstAlone, IsLineStep, IsPossible, Joins, Move, OnLine, Sends, Tells, moved, moves, seen, wire_joined}
pub use Rattle.gc_theorems.specs.Fronts.{CutRequestsAreWholeOrNothing, JoinedRequestsHaveTheFrontsId, request_bytes}
pub use Rattle.gc_theorems.specs.Harm.{AllMayHarm, AllowsSend, AreOwnOr, AreRising, Damages, Does, Harm, Harmed, IsByDamage, IsCleanBut, IsFreshIfSent, IsOwn, KeepsItsOwnAfter, MayDo, MayHarm, Strikes, WasMadeAmid, WasMadeOfDamage, damaged_lines, harm_begun, harmed, harms, last_by_step, no_line, one_if_damages}
pub use Rattle.gc_theorems.specs.Instrument.{AnyState, IsAnInstrument, IsAnInstrumentFor, IsOwnOrNone, KeepingNothingSuffices, KeepsItsOwn, KeepsItsReply, MayBeKept, MayForget, ReadsByGrammar, RepeatsWhatIsKept, RepliesWithItsId, StaysGoodOverRequests, StaysGoodOverStarts, TreatsRawsAlike, all_known, never_kept, own_reply}
pub use Rattle.gc_theorems.specs.Laws.{IsFaithfulFrom, IsFaithfulUnsynchronized, SimulatorIsAnInstrument, WasExecuted, asked, kept_of}
pub use Rattle.gc_theorems.specs.Made.{WasMadeFrom, wire_behind}
pub use Rattle.gc_theorems.specs.Needed.{Clause, IsAllBut, IsAllNeeded, IsUnbroken, KeptNumber, Repeats, Replies, StartsGood, StaysGood, breakable_handed, executes_again, forgets, giving, handed_if_known, held, keeper, keeper_handed, keeper_kept, misheard, mistaken, pretends, refusal, refuses_raws, repeated_request, repeats_or_executes, sound, starts_broken, wears_out}
pub use Rattle.gc_theorems.specs.Once.{ExecutesOnce, HasNoStart, IsInOrder}
pub use Rattle.gc_theorems.specs.OneQueue.{Damage, Deliver, InFlight, IsOfFront, Lose, OneQueue, Repeat, Throughout, account_at_end, newly_settled, next_line, nothing_in_flight, queue, queue_after, queue_damaged, queue_delivered, queue_sent}
pub use Rattle.gc_theorems.specs.Owned.{EachIsOwnIfSafe, IsOfRequest, IsOwnRun, IsOwnUnlessLost, IsSafeRequest, IsSafeRun, NextMayBegin}
pub use Rattle.gc_theorems.specs.Pointing.{AreStill, IsPointedInChain, PointsAs, PointsAsLeft, SimulatorHasItsEffect, state_after_call, turns_telescope}
pub use Rattle.gc_theorems.specs.Rarely.{AllMayHarmRarely, IsFreshAndOwn, IsRareIfSent, MayDoRarely, MayHarmRarely, Tally, noted, seen_by, seen_sent, tally_begun, tally_harms}
pub use Rattle.gc_theorems.specs.Runs.{AreMeant, HasRequest, IsFaithfulThroughout, IsInField, IsItsOwn, IsMeant, IsOwnAnswer, LateHasExecution, Program, RaisesNoDoubt, RunsInFieldAreFaithful, SettlesByFirstReply, own_sent, own_settled, program_parts, program_records, times_out, world, written_over}
pub use Rattle.gc_theorems.specs.Shown.{AreShownAs, Stretch, first_heard, shown, shows, stretches}
pub use Rattle.gc_theorems.specs.Simulator.{simulator_ends, simulator_handed}
pub use Rattle.gc_theorems.specs.Slack.{AreRare, HasNoDamage, HasSeenFew, HasSlack, HaveSlack, IfSent}
pub use Rattle.gc_theorems.specs.Stretch.{left_by_sync}
pub use Rattle.gc_theorems.specs.Stretches.{AreApart, AreInARow, ArePossibleHarms, ArePossibleIfSynchronized, HarmedStretch, HasDamageApart, IsApart, IsDamagedOnceSynchronized, IsPossibleHarm, IsPossibleStretch, IsSeenAs, IsSynchronizedUndamaged, at_its_end, client_sent, client_settled, left_by_stretch, left_if_synchronized, once_synchronized, seen_at, seen_harms, shown_harms, shows_harm, synchronized}
pub use Rattle.gc_theorems.specs.Witness.{SomeRunIsInField, answer, at, begun_with, eight_answered, plan, plan_of_width, replies, scope}
pub use Rattle.gc_theorems.specs.World.{Down_deliver, Down_lose, Down_repeat, Ends, Expire, Nothing, Numbered, Request, Restart_client, Restart_instrument, Rule, Send, Sent, Step, Up_deliver, Up_lose, Up_repeat, Wire, World, client_restarted, doubled, down_delivered, happens, instrument_restarted, on_wire, replied, requested, started, up_delivered, with_down, with_settled, with_up, without, written}
