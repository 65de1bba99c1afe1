-- The names that this crate's definitions cite of others, passed on from one place. Declares nothing.
pub use Rattle.std.specs.List.{AllByRecursion, position}
pub use Rattle.gc_lines.specs.Prelude.{FirstBadOfReply, IsReply, IsRequest, ReplyFields, RequestFields, frame_of, is_line_feed, line_fault_number, rest_behind, with_end}
unfoldable pub use Rattle.gc_lines.specs.Prelude.{reply_at}
pub use Rattle.gc_lines.specs.declared.fault.LineFault.{LineFault}
pub use Rattle.gc_lines.specs.declared.frame.Frame.{Frame}
pub use Rattle.gc_lines.specs.declared.frame.Frame.TheVariants.{Cleared, Line, More, Overlong}
pub use Rattle.gc_values.specs.Prelude.{AreItems, IsParams, value_fault_number}
pub use Rattle.gc_values.specs.declared.value.Value.{Value}
pub use Rattle.gc_texts.specs.Prelude.{AreOfKinds, DescriptionSeen, FieldSeen, HaveValues, IsDescription, IsKindsFault, IsRpc, KindsSeen, before, description_seen, kinds_of_fields}
pub use Rattle.gc_session.specs.Prelude.{AreInTurn, Asks, Call, Came, ClientEvent, Closes, Comes, Hears, IsActFor, Opens, Restarts, Session, Stepped, Steps, act_for, after, after_all, all_of, anew, anew_settles, asked, at_step, came, closed, current_of, has_begun, is_ready, is_up, left_among, line_came, line_of, line_settles, may_send, next_of, opened, opening, settled_all, settled_by, stepped, steps_among, taken_all, takes}
pub use Rattle.gc_session.specs.declared.session.TheConstants.{OWN}
pub use Rattle.gc_session.specs.declared.settings.Want.{Want}
pub use Rattle.gc_session.specs.declared.settings.Want.TheVariants.{Answers, Nothing, Send}
pub use Rattle.gc_theorems.specs.Prelude.{AllMayHarmApart, AllMaySyncHarm, AnyState, AreOfRuns, AreOwnOr, ArePossibleRuns, Ends, Harm, Harmed, HasExecution, IsAnInstrument, IsOwn, IsSafeRun, IsSessionOver, IsWellFormed, LacksTheWord, Move, OfAnyInstrument, OnLine, OwnEighthComes, PlacedRun, Run, Sends, SessionRun, SyncHarm, SyncTurn, Tells, TreatsRawsAlike, UnderWay, Up_deliver, WasMadeOn, WasStruck, ask_events, begins, counting, eight_answered, events_over, harm_begun, harm_events, harmed, holding_begun, kept_by, kept_of, leaves, left_by_sync, placed_runs, replies, seen_harms, simulator_ends, turned}
pub use Rattle.gc_catalogue.specs.Prelude.{IsAsked, IsAskedReading, IsCall, IsProcedure, IsRawRefusal, IsReadingBy, IsRefusal, answer_fields, asked_line, procedure_of, raw_params, refusal_number}
pub use Rattle.gc_catalogue.specs.declared.answer.Answer.{Answer}
pub use Rattle.gc_catalogue.specs.declared.answer.Reading.{Reading}
pub use Rattle.gc_catalogue.specs.declared.asked.Asked.{Asked}
pub use Rattle.gc_catalogue.specs.declared.asked.Asked.TheVariants.{Raw, Table}
pub use Rattle.gc_catalogue.specs.declared.raw.RawCall.{RawCall}
pub use Rattle.gc_instrument.specs.Prelude.{IsFittingState, KeptReply, simulator_opening}
pub use Rattle.gc_client.specs.Prelude.{Answered, ById, Course, IsEarliest, IsWidth, ReadsBy, Sending, Settlement, Wanted, Windowed, asks, begun, course, deadlines, expires, expiring, fits, heard, hears_line, left_by, restarts, sends, settlement_seen, the_word}
pub use Rattle.gc_client.specs.declared.pending.Pending.{Pending}
pub use Rattle.gc_client.specs.declared.window.TheConstants.{IDS, WINDOW}
