-- The names that this crate's definitions cite of others, passed on from one place. Declares nothing.
pub use Rattle.std.specs.Ordering.{int_eq}
pub use Rattle.gc_lines.specs.Prelude.{AnswersFrames, AnswersLines, HasOneReply, IsNoRequest, IsPlain, IsReply, IsRequest, IsRunOverPorts, Ports, RepliesTo, ReplyFields, RequestFields, frames, reply_text}
pub use Rattle.gc_lines.specs.declared.frame.Frame.{Frame}
pub use Rattle.gc_values.specs.Prelude.{IsCanonical, IsInRange, half_turn, is_negative, signed, stripped, stripped_is, turn, units, unsigned_abs-signed, zero, zeros_in_range}
pub use Rattle.gc_values.specs.declared.decimal.Decimal.{Decimal}
pub use Rattle.gc_catalogue.specs.Prelude.{IsCall, IsRefusal, answer_params, later, month_days, raw_bytes}
pub use Rattle.gc_catalogue.specs.declared.answer.Answer.{Answer}
pub use Rattle.gc_catalogue.specs.declared.call.Call.{Call}
pub use Rattle.gc_catalogue.specs.declared.call.DateTime.{DateTime}
pub use Rattle.gc_instrument.specs.Prelude.{Executed, Gives, Handed, KeptReply, State, adjusted, done, first_at, is_at, kept_after, kept_line, measured_outcome, pointed, refusal_line, reply_id, restarted, unmeasured, with_kept}
unfoldable pub use Rattle.gc_instrument.specs.Prelude.{exec}
pub use Rattle.gc_instrument.specs.declared.pointing.Pointing.{Pointing}
pub use Rattle.gc_instrument.specs.declared.target.Target.{Target}
