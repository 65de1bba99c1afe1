-- The names that this crate's proofs cite, passed on from one place. Declares nothing.
pub use mathlib.Core.Path.{ap₂}
pub use Rattle.arrayvec.specs.ArrayVec.{ArrayVec}
pub use Rattle.std.proofs.Common.{Bool, Contains, List, None, Ok, Option, Some, [], ap, append_assoc, arith, cond, drop, eqb, false, get_or, inl, inr, leb, length, length-append, length-drop, length-take, lit<, ltb, map, not, refl, rules, subst, suc, sym, take, take-add, true, zero, ℕ, ◌%◌, ◌++◌, ◌+◌, ◌-◌, ◌<◌, ◌||◌, ◌∙◌, ◌∷◌, ◌≡◌, ◌≤◌, ◌⊎◌}
pub use Rattle.std.proofs.Math.Seq.{drop-append_seam, set-append_seam}
pub use Rattle.std.proofs.lemmas.Bool.{both_ways, cases_eq, cases_lt, cond_both, eq-eqb, eqb-false, eqb-true, false≢true, iff_false, le-leb, le-ltb, leb-false, leb-true, lt-leb, lt-ltb, ltb-false, ltb-true, ne_eqb, or_from, or_left, or_right}
pub use Rattle.std.proofs.lemmas.List.{append-nil, drop-append-le, drop-drop, drop-map, drop_all, get_or_push, length-map, length_push, map-append, replicate-append-replicate, take-append-drop, take-append-le, take-map, take_all, take_at, take_more}
pub use Rattle.std.proofs.lemmas.List.Elements.{All-drop, All-from_recursion, All-take, Contains-append_right, recursion_from_All}
pub use Rattle.std.proofs.lemmas.Option.{cond_some, none-some, same_Some, slice_get-get_or, slice_get-map, slice_get_read, slice_get_within}
pub use Rattle.std.proofs.lemmas.Result.{on_ok_weaker}
pub use Rattle.std.specs.List.{AllByRecursion, insert, position, prefix_len, remove}
pub use Rattle.std.specs.Option.{option_map}
pub use Rattle.std.specs.Prelude.{IfNone, IfSome, IsSome, IsTrue, OnOk, OnSome, replicate, slice_get, slice_set, ◌↔◌, ◌≢◌}
pub use Rattle.gc_lines.proofs.Lists.{all_append, cons_tail}
pub use Rattle.gc_lines.specs.Prelude.{AppendsAnswer, EndsFrame, HasNoLineFeed, IsLentLine, IsPlain, IsPlainByte, IsReply, KeepsPiece, Kept, StandsFor, frame_of, is_line_feed, lent_seen, reply_text, with_end}
unfoldable pub use Rattle.gc_lines.specs.Prelude.{reply_at}
pub use Rattle.gc_values.proofs.Every.{every_weaker}
pub use Rattle.gc_catalogue.specs.Prelude.{IsFitting, IsReading, call_fields, reply_of, request_line, request_of, rounded_answer}
pub use Rattle.gc_catalogue.specs.declared.call.Call.{Call}
pub use Rattle.gc_instrument.proofs.Executions.{exec_outcome, restarted_fits}
pub use Rattle.gc_instrument.specs.Prelude.{Executed, Handed, IsExchanged, IsFittingKept, IsFittingReply, IsFittingState, KeptReply, OfItsCall, State, executed_line, kept_after, kept_id, kept_line, reading_of, restarted, without_kept}
unfoldable pub use Rattle.gc_instrument.specs.Prelude.{exec, handed}
pub use Rattle.gc_scenes.specs.Prelude.{IsHanded, IsPlayed, Played, SceneState, again_or_played, answers, counting, fault_of, names_call, played_call, played_line, resent_line, scene_restarted, unless_faulted}
unfoldable pub use Rattle.gc_scenes.specs.Prelude.{handed_call, plays}
pub use Rattle.gc_client.proofs.OneForOne.{expired_parts, heard_parts, length-settle, lost_parts}
pub use Rattle.gc_client.specs.Prelude.{Answered, AreSettlements, ById, HearsInto, IsReadBy, Late, Lost, Outcome, Sending, Settled, Settlement, Wanted, Windowed, expired, fits, heard, hears, id_in, lost, of_pending, of_settled, outcome_seen, pending_of, place, place_in, restarts, send_unless_full, sends, settle, settled_by_line, settlement_seen, settles_at}
pub use Rattle.gc_client.specs.declared.pending.Pending.{Pending}
pub use Rattle.gc_client.specs.declared.window.TheConstants.{IDS, WINDOW}
pub use Rattle.gc_world.specs.Behaviours.{Behaviour, IsHandedOver, TellsExecution, ends_with}
pub use Rattle.gc_world.specs.Clients.{ByNumber, by_ids, by_numbers, ends, expired_from, ids_open, left_between, left_by_ids, number_reply, number_send, numbers_open, played, played_by_numbers, run_by_ids, run_by_numbers, streamed, streamed_between, streams_by_ids, streams_by_numbers}
pub use Rattle.gc_world.specs.Directions.{after_cut, bytes, deliver, delivery, gone, handed_over, lines, pick, texts, to_go, with_front_gone}
pub use Rattle.gc_world.specs.Exchange.{IsExchange, IsKeeper, ReadsWithItsId}
pub use Rattle.gc_world.specs.Faithful.{ActsOnce, AgreesWith, AreStatesBefore, BooksAnswers, Faithful, IsBookedAnswer, IsReplyOf, IsValueOrRefusal, OneForOne, RecordsExecution, has_number, restarted_if, sent_seen}
pub use Rattle.gc_world.specs.FirstReply.{DeliverySettles, HasSend, IsDelivery, IsInTime, IsInTimeOrTooLate, IsNeverInTimeAndTooLate, IsSettledAs, IsTooLate, between, settled_as}
pub use Rattle.gc_world.specs.Memory.{AreStrays, FrontIsStray, IsNoRepeat, SomeInFlight, TakesNoMemory}
pub use Rattle.gc_world.specs.Order.{IsOrderly, IsRecent, Rising, numbers, numbers_in_flight}
pub use Rattle.gc_world.specs.Record.{HasExecutions, Increasing, IsBooked, IsExecuted, IsExecutedIn, IsOneForOne, IsReplyAt, IsReplyTo, handed_in}
pub use Rattle.gc_world.specs.Reports.{IsNoLongerThan, IsReport, StandsForGone, made_seen}
pub use Rattle.gc_world.specs.SceneLaws.{BooksOnExecuting, ExecutesEachTime}
pub use Rattle.gc_world.specs.SceneRuns.{scene_ends, scene_handed, scene_streamed}
pub use Rattle.gc_world.specs.Sides.{Carries, IsFlow, IsPartOfFront, ReplacesQueue, StandsForPart, text_at}
pub use Rattle.gc_world.specs.Stages.{AreOfWorld, AreStreamsOf, IsSentIn, Shows, StageParts, after_step, replies_at, stage_parts, staging}
pub use Rattle.gc_world.specs.Staging.{Follows, HasLeft, after_bytes, after_event, streams_at_start}
pub use Rattle.gc_world.specs.Streams.{Cut, Effect, Streams, at_line, cut, down_lines, down_texts, effect, effect_on, flow, flows, gone_of, is_begun, left_gone, one_line_more, passed, remaining, untouched, up_lines, up_texts}
pub use Rattle.gc_world.specs.World.{Down_deliver, Down_lose, Down_repeat, Ends, Expire, Nothing, Numbered, Request, Restart_client, Restart_instrument, Rule, Send, Step, Up_deliver, Up_lose, Up_repeat, Wire, World, bytes_of, call_line, client_restarted, doubled, down_delivered, happens, idle, instrument_restarted, on_wire, replied, requested, run, up_delivered, with_down, with_up, without}
pub use Rattle.gc_world.specs.Worlds.{of_sent, started, with_settled}
pub use Rattle.gc_world.specs.declared.direction.Direction.{Direction}
pub use Rattle.gc_world.specs.declared.direction.Direction.TheVariants.{Down, Up}
pub use Rattle.gc_world.specs.declared.event.Event.{Event}
pub use Rattle.gc_world.specs.declared.event.Event.TheVariants.{DownBytes, DownDeliver, DownLose, DownRepeat, RestartClient, RestartInstrument, UpBytes, UpDeliver, UpLose, UpRepeat}
pub use Rattle.gc_world.specs.declared.report.Made.{Made}
pub use Rattle.gc_world.specs.declared.report.Report.{Report}
pub use Rattle.gc_world.specs.declared.report.Sent.{Sent}
pub use Rattle.gc_world.specs.declared.side.Side.{Side}
