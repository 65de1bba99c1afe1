-- The names that this crate's definitions cite of others, passed on from one place. Declares nothing.
pub use Rattle.std.specs.Fmt.{decimal}
pub use Rattle.std.specs.List.{AllByRecursion, AllZip, filter_map}
pub use Rattle.gc_lines.specs.Prelude.{IsRequest, RequestFields, lines, reply_text, rest_behind, with_end}
unfoldable pub use Rattle.gc_lines.specs.Prelude.{request_at}
pub use Rattle.gc_values.specs.declared.decimal.Decimal.{Decimal}
pub use Rattle.gc_texts.specs.Prelude.{End, call_at, is_good, line_of, no_again, no_codes, no_needs}
pub use Rattle.gc_texts.specs.declared.agree.Twice.TheVariants.{Once, Second}
pub use Rattle.gc_texts.specs.declared.near.Expected.{Expected}
pub use Rattle.gc_texts.specs.declared.quality.Quality.TheVariants.{Fine}
pub use Rattle.gc_texts.specs.declared.tasks.Task.{Task}
pub use Rattle.gc_session.specs.Prelude.{AreInTurn, AsksTheTable, Call, Came, ClientEvent, Null, Opens, Restarts, Stepped, Steps, after_all, client_after, events_all, left_among, raises_doubt, settled_all, steps_among}
pub use Rattle.gc_session.specs.declared.session.TheConstants.{OWN}
pub use Rattle.gc_session.specs.declared.settings.Settings.{Settings}
pub use Rattle.gc_station.specs.Prelude.{AgreesWithFirst, AreBegun, AreChained, Asks, EachOnce, Hears, MarksAsk, Model, Part, Reads, Record, Runs, Scope, SyncStep, SynchronizesAnew, WasAnsweredWell, action_at, after, asked_at, commands_in, has_begun, heard_in, is_over, lines_completed, mark_of, no_turn, null_text, occasion_in, opening, part_of_act, parts, records_of, scoped, sent_of, state_after, timeless, unanswered_after, went_out}
pub use Rattle.gc_station.specs.declared.plan.Plan.{Plan}
pub use Rattle.gc_catalogue.specs.Prelude.{IsFitting, asked_line, call_fields, is_of_table, procedure_of, request_line}
pub use Rattle.gc_catalogue.specs.declared.answer.Answer.{Answer}
pub use Rattle.gc_catalogue.specs.declared.answer.Answer.TheVariants.{Long, Nothing}
pub use Rattle.gc_catalogue.specs.declared.asked.Asked.{Asked}
pub use Rattle.gc_catalogue.specs.declared.asked.Asked.TheVariants.{Raw, Table}
pub use Rattle.gc_catalogue.specs.declared.call.Call.TheVariants.{ChangeFace, DoMeasure, FineAdjust, GetPrism, InstrumentNo, NullProc, Position, SetPrism, SimpleMea}
pub use Rattle.gc_catalogue.specs.declared.fault.CallFault.TheVariants.{Unknown}
pub use Rattle.gc_catalogue.specs.declared.raw.RawCall.{RawCall}
pub use Rattle.gc_instrument.specs.Prelude.{Handed, HasNoRequest, IsFittingState, IsReplied, KeptReply, State, kept_line, refusal_line, restarted, simulator_opening, without_kept}
unfoldable pub use Rattle.gc_instrument.specs.Prelude.{exec}
pub use Rattle.gc_client.specs.Prelude.{Answered, ById, Expire, Hear, IsSubsequence, Late, Lost, Outcome, Restart, Send, Sending, Settled, Settlement, Step, asks, begun, course, expires, fresh, heard, hears, is_answered, left_by, lost, of_pending, of_settled, place_in, sends, settle, the_word}
pub use Rattle.gc_client.specs.declared.window.TheConstants.{IDS, WINDOW}
pub use Rattle.gc_world.specs.Prelude.{ByNumber, IsBooked, IsOneForOne, IsReplyTo, ReadsWithItsId, Rising, by_ids, by_numbers, ids_open, numbers_open}
pub use Rattle.gc_links.specs.Prelude.{Act, Broke, Closed, Cut, Ended, Gave, Opened, Put, Silent, Told, Unopened, Untold}
