-- The names that this crate's definitions cite of others, passed on from one place. Declares nothing.
pub use Rattle.std.specs.Io.KnownBytes.{Appends}
pub use Rattle.std.specs.List.{AllByRecursion, AllZip, filter_map, flat_map, list_any}
pub use Rattle.std.specs.Option.{option_map_or, option_to_list}
pub use Rattle.gc_lines.specs.Prelude.{FailsWith, IsReply, ReplyFields, StandsFor, TakesPart, lent_seen, line_in, rest_behind, with_end}
pub use Rattle.gc_values.specs.Prelude.{no_values}
pub use Rattle.gc_values.specs.declared.decimal.Decimal.{Decimal}
pub use Rattle.gc_values.specs.declared.fault.ValueFault.{ValueFault}
pub use Rattle.gc_texts.specs.Prelude.{Answered, End, IsAway, IsFormAnswer, IsFormFault, IsThere, Judged, Late, Missed, NoValue, Skipped, Unreadable, agrees, call_at, capped, count_in, date_time, ending_seen, is_compared, is_confirmed, is_good, is_same, is_sign_on, judged_count, judged_one_more, judged_sum, lack, line_of, lists_code, meets, no_again, no_codes, no_needs, none_judged, one_more, repeats_after}
unfoldable pub use Rattle.gc_texts.specs.Prelude.{as_zero, is_off_target}
pub use Rattle.gc_texts.specs.declared.agree.Twice.{Twice}
pub use Rattle.gc_texts.specs.declared.agree.Twice.TheVariants.{First, Once}
pub use Rattle.gc_texts.specs.declared.codes.Codes.{Codes}
pub use Rattle.gc_texts.specs.declared.fault.RunFault.{RunFault}
pub use Rattle.gc_texts.specs.declared.fault.RunFault.TheVariants.{Output}
pub use Rattle.gc_texts.specs.declared.form.Form.{Form}
pub use Rattle.gc_texts.specs.declared.judgement.Judgement.{Judgement}
pub use Rattle.gc_texts.specs.declared.judgement.Judgement.TheVariants.{Disagree, OffTarget, Unexpected}
pub use Rattle.gc_texts.specs.declared.near.Expected.{Expected}
pub use Rattle.gc_texts.specs.declared.occasion.Occasion.{Occasion}
pub use Rattle.gc_texts.specs.declared.quality.Quality.{Quality}
pub use Rattle.gc_texts.specs.declared.quality.Quality.TheVariants.{Fine, Unconfirmed, Warning}
pub use Rattle.gc_texts.specs.declared.tasks.Task.{Task}
pub use Rattle.gc_texts.specs.declared.turn.Turn.{Turn}
pub use Rattle.gc_texts.specs.declared.wish.Wish.{Wish}
pub use Rattle.gc_session.specs.Prelude.{IsNearTheTable, asks_at, calls_for_renewal, client_after, client_sent, is_line_dead, is_none_left, is_reply, last_ended, next_flush, next_room, next_synchronizing, next_to_send, next_waiting, past_at, pause_within, width_within}
pub use Rattle.gc_catalogue.specs.Prelude.{IsAskedReading, IsReadingBy, asked_line, is_of_table, later, request_line}
pub use Rattle.gc_catalogue.specs.declared.answer.Answer.{Answer}
pub use Rattle.gc_catalogue.specs.declared.answer.Reading.{Reading}
pub use Rattle.gc_catalogue.specs.declared.answer.Reading.TheVariants.{Refused, Value}
pub use Rattle.gc_catalogue.specs.declared.asked.Asked.{Asked}
pub use Rattle.gc_catalogue.specs.declared.asked.Asked.TheVariants.{Table}
pub use Rattle.gc_catalogue.specs.declared.call.Call.TheVariants.{InstrumentNo, NullProc, SetDate}
pub use Rattle.gc_client.specs.Prelude.{ById, Course, Expire, Hear, IsEarliest, IsSubsequence, Lost, Outcome, ReadsBy, Send, Settled, Settlement, Step, Waits, Wanted, begun, course, deadlines, expires, fresh, heard, hears, of_pending, restarts, sends, settlement_seen, the_word}
pub use Rattle.gc_client.specs.declared.window.TheConstants.{IDS, WINDOW}
pub use Rattle.gc_links.specs.Prelude.{Act, AddsActs, Broke, Closed, Cut, Ended, Gave, Opened, Put, Silent, Told, Unopened, Untold, acts_code}
pub use Rattle.gc_links.specs.declared.link.Moment.{Moment}
