-- The names that this crate's proofs cite, passed on from one place. Declares nothing.
pub use Rattle.std.proofs.Common.{All, Bool, Err, List, None, Ok, Option, Result, Some, [], ap, append-nil, append_assoc, ap₂, arith, cond, drop, false, get_or, if◌then◌else◌, inl, inr, length, length-append, length-set, lit≤, ltb, map, nat_eq, nat_lt, not, refl, rules, subst, suc, sym, take, true, zero, ℕ, ◌&&◌, ◌++◌, ◌+◌, ◌-◌, ◌<◌, ◌==◌, ◌↔◌, ◌∙◌, ◌∷◌, ◌≡◌, ◌≢◌, ◌≤◌, ◌⊎◌}
pub use Rattle.std.proofs.lemmas.Bool.{and_from, and_parts, cases_eq, cases_lt, cond_both, eq-eqb, eqb-false, eqb-true, false_from_ne_true, false≢true, le-ltb, lt-ltb, ltb-false, ltb-true, ne_eqb, not-false, not-true, not_from_false}
pub use Rattle.std.proofs.lemmas.List.{drop-set-lt, drop_all, drop_at, length-drop, length-map, length-take, map-append, nil_from_length, take-append-drop, take-append-le, take-take, take_all, take_more_set}
pub use Rattle.std.proofs.lemmas.Option.{none-some, same_Some, slice_get-get_or, slice_get-map}
pub use Rattle.std.specs.List.{AllByRecursion, filter, filter_map, position, prefix_len}
pub use Rattle.std.specs.Option.{option_map}
pub use Rattle.std.specs.Prelude.{codes, slice_get, slice_set}
pub use Rattle.gc_lines.proofs.Cutting.{cut_none, cut_some, goes_on}
pub use Rattle.gc_lines.proofs.Lists.{all_append, all_at}
pub use Rattle.gc_lines.specs.Prelude.{FirstBadOfReply, IsReply, IsRequest, ReplyFields, RequestFields, ends_in_return, frame_of, is_line_feed, line_in, pieces_behind, reply_seen, request_seen, request_text, rest_behind, with_end}
unfoldable pub use Rattle.gc_lines.specs.Prelude.{header_at, reply_at, request_at}
pub use Rattle.gc_lines.specs.declared.fault.LineFault.{LineFault}
pub use Rattle.gc_lines.specs.declared.frame.Frame.{Frame}
pub use Rattle.gc_lines.specs.declared.frame.Frame.TheVariants.{Cleared, Line, More, Overlong}
pub use Rattle.gc_values.proofs.ItemBytes.{items_within_params, total_length_front, total_length_next}
pub use Rattle.gc_values.specs.Prelude.{IsParams, kind_of, total_length}
pub use Rattle.gc_texts.specs.Prelude.{AreOfKinds, DescriptionSeen, IsKindsFault, KindsSeen, description_seen, field_seen, is_sign_on, kinds_seen}
pub use Rattle.gc_session.specs.Prelude.{AreInTurn, Asks, Call, Came, ClientEvent, Closes, Opens, Restarts, Session, Stepped, Steps, act_for, after, after_all, all_of, anew, anew_settles, asked, asked_if, at_step, attended, begun_anew, came, closed, current_of, done, ends_with_table, flushed, has_begun, is_ready, is_up, left_among, line_came, line_came_in, line_heard, line_heard_if, line_of, line_settles, line_synchronized, may_send, met_in, next_of, null_asked, opened, opening, phase_cleared, quieted_in, renewed, settled_all, settled_by, settled_in, settles, sign_on_noted, stepped, steps_among, taken_all, taken_by, taken_if, takes, timed, with_standing}
pub use Rattle.gc_session.specs.declared.next.Next.{Next}
pub use Rattle.gc_session.specs.declared.session.TheConstants.{OWN}
pub use Rattle.gc_session.specs.declared.settings.Settings.{Settings}
pub use Rattle.gc_session.specs.declared.settings.Want.{Want}
pub use Rattle.gc_session.specs.declared.settings.Want.TheVariants.{Answers, Nothing, Send}
pub use Rattle.gc_session.specs.declared.standing.Phase.{Phase}
pub use Rattle.gc_session.specs.declared.standing.Standing.{Standing}
pub use Rattle.gc_theorems.proofs.InTable.{alike_safe, table_safe}
pub use Rattle.gc_theorems.proofs.Instruments.{simulator_is_an_instrument}
pub use Rattle.gc_theorems.proofs.Parting.{each_is_own_if_safe, steps_in_front}
pub use Rattle.gc_theorems.specs.Prelude.{AllMayHarmApart, AnyState, Damages, Does, EachSessionIsOwn, Ends, Harm, Holding, IsAnInstrument, IsOwn, IsOwnIfCallers, IsOwnUnlessLost, IsPossibleHarm, MayHarmApart, PlacedRun, Strikes, TreatsRawsAlike, WasStruck, ask_events, begins, counting, events_over, harm_events, harmed, harms, holding_begun, holding_harms, kept_by, kept_of, left_by_sync, nulls, nulls_settled, placed_runs, seen_at, seen_harms, simulator_ends}
pub use Rattle.gc_catalogue.proofs.AskedRules.{asked_id, one_asked}
pub use Rattle.gc_catalogue.proofs.CallLaws.{no_refusal, one_call}
pub use Rattle.gc_catalogue.specs.Prelude.{IsAsked, IsAskedReading, IsCall, IsRawCall, IsRawRefusal, ReadsBackAsked, answer_fields, asked_line, asked_request, procedure_of, raw_params}
pub use Rattle.gc_catalogue.specs.declared.answer.Reading.{Reading}
pub use Rattle.gc_catalogue.specs.declared.answer.Reading.TheVariants.{ComFault, Refused, Unreadable, Value}
pub use Rattle.gc_catalogue.specs.declared.asked.Asked.{Asked}
pub use Rattle.gc_catalogue.specs.declared.asked.Asked.TheVariants.{Raw, Table}
pub use Rattle.gc_catalogue.specs.declared.raw.RawCall.{RawCall}
pub use Rattle.gc_instrument.specs.Prelude.{IsFittingState, KeptReply, simulator_opening}
unfoldable pub use Rattle.gc_instrument.specs.Prelude.{exec, handed}
pub use Rattle.gc_client.proofs.Lists.{drop_next, take_next}
pub use Rattle.gc_client.specs.Prelude.{AccountsForSends, ById, Course, IsEarliest, IsReadBy, IsWidth, Sending, Settled, Settlement, Windowed, begun, course, course_after, deadlines, expired, expires, expiring, fits, fresh, heard, hears, hears_line, id_in, left_by, place_in, restarts, sends, sent_on, settle, settled_on, settlement_seen, settles_at, the_word, unanswered_after}
pub use Rattle.gc_client.specs.declared.pending.Pending.{Pending}
pub use Rattle.gc_client.specs.declared.window.TheConstants.{WINDOW}
pub use Rattle.geocom_c.specs.Asking.{HasAsked, IsAsk, WasSessionAsked}
pub use Rattle.geocom_c.specs.Beginning.{IsGiven, given, left_by_bytes, left_by_restart, left_past}
pub use Rattle.geocom_c.specs.Columns.{IsColumnOf}
pub use Rattle.geocom_c.specs.Described.{AnswersBy, HasItemsOf, IsDescribedReading, IsNoAnswer, IsNoReply, ReadsLine, answer_effect, answer_kinds}
pub use Rattle.geocom_c.specs.Feeding.{FeedsFirstLine, FeedsUnended, HasRestarted, HasRoomToSettle, IsFedAs, IsInFront, WritesSettled, client_past, fault_number_in, feed_effect, frame_kind, line_kind, unended}
pub use Rattle.geocom_c.specs.FirstAre.{FirstAre}
pub use Rattle.geocom_c.specs.Following.{CallStage, CallsReach, MadeBut, StandsForCourse, first_stage, hearing, hearing_lines, left_by_call, stage_after}
pub use Rattle.geocom_c.specs.Hearing.{FeedsSessionLine, FeedsSessionUnended, IsFedTo, IsFeed, at_feed, frame_kind_in, frame_settles, session_past}
pub use Rattle.geocom_c.specs.Laws.{AreOfTheTable, CallsAreEvents, EachAnswerIsOwn, TableCallsAreSafe}
pub use Rattle.geocom_c.specs.Rest.{HeardBut, IsNoLineFeed, IsRest, kept_bytes, lines_completed}
pub use Rattle.geocom_c.specs.Rooms.{Effect, SettlingEffect, WritesWithin, effect, settling_effect}
pub use Rattle.geocom_c.specs.Sending.{AsksOrRefuses, IsSend, RequestRule, SendMeets, WasAsked, raw_rule, read_rule, table_rule}
pub use Rattle.geocom_c.specs.SessionCalls.{AreMade, AreOfSession, ArePart, AreSideBySide, Handed, IsAskPart, IsHanded, IsMade, IsOfItsCalls, IsPart, IsPartOf, KeepsSession, Part, Request, SessionCall, SessionCallsAreCalls, bytes_all, bytes_by, comes_calls, fed_part, first_handed, handed_all, handed_by, hears_calls, request_by, request_if, request_of, requests_all, state_after, state_before, written_all, written_by}
pub use Rattle.geocom_c.specs.SessionState.{AreCounts, HoldsStanding, IsOfNoSession, IsOfSession, StandsForSession, StoresSession, flag_byte, phase_byte}
pub use Rattle.geocom_c.specs.Sessions.{HasBegunAnew, IsInit, IsTold, lost_anew, status_of}
pub use Rattle.geocom_c.specs.Settled.{AnswerHasLine, AnswersHaveLine, AreListed, AreLost, AreReadAs, AreStanding, HasOutcome, HasReading, IsKind, IsRecord, ListsItems, StandsAt}
pub use Rattle.geocom_c.specs.State.{HoldsRequest, IsLineOf, KeepsAnswered, StandsForClient, left_of}
pub use Rattle.geocom_c.specs.Stepping.{HasRoomToStep, HasStepped, IsStep, IsWant, StandInFront, bytes_of, rest_stepped, unmoved_with, want_number}
pub use Rattle.geocom_c.specs.Steps.{AreEvents, begin_events, call_events, step_events}
pub use Rattle.geocom_c.specs.declared.answers.GeocomHeard.{GeocomHeard}
pub use Rattle.geocom_c.specs.declared.answers.GeocomStep.{GeocomStep}
pub use Rattle.geocom_c.specs.declared.described.GeocomAnswer.{GeocomAnswer}
pub use Rattle.geocom_c.specs.declared.following.StateCall.{StateCall}
pub use Rattle.geocom_c.specs.declared.following.StateCall.TheVariants.{Begin, Expire, Feed, Restart, SendRaw}
pub use Rattle.geocom_c.specs.declared.header.TheConstants.{ANSWERED, LATE, LINE_ROOM, MORE, NOT_BEGUN, NOT_NOW, NO_CLIENT, NO_ROOM, NO_WANT, OWN_TARGET, SETTLED, TEXT_ROOM, WANT_ANSWERS, WANT_NOTHING, WANT_SEND, WINDOW_FULL}
pub use Rattle.geocom_c.specs.declared.listed.GeocomItem.{GeocomItem}
pub use Rattle.geocom_c.specs.declared.rest.GeocomRest.{GeocomRest}
pub use Rattle.geocom_c.specs.declared.session_state.GeocomSession.{GeocomSession}
pub use Rattle.geocom_c.specs.declared.settled.GeocomSettlement.{GeocomSettlement}
pub use Rattle.geocom_c.specs.declared.state.GeocomClient.{GeocomClient}
