-- The names that this crate's proofs cite, passed on from one place. Declares nothing.
pub use Rattle.std.proofs.Common.{Bool, Err, FitsSigned, List, None, Ok, Option, Result, Some, [], ap, arith, cond, drop, eqb, false, if◌then◌else◌, inl, inr, length, length-append, map, negsuc, pos, refl, rules, subst, sym, take, true, w32, ℕ, ℤ, ◌&&◌, ◌++◌, ◌+◌, ◌-◌, ◌<◌, ◌==◌, ◌||◌, ◌∙◌, ◌∷◌, ◌≡◌, ◌≢◌, ◌≤◌, ◌⊎◌}
pub use Rattle.std.proofs.lemmas.Bool.{and_parts, cases_eq, cond-false, leb-true, ne_eqb}
pub use Rattle.std.proofs.lemmas.Int.{ints, to_z-of_z}
pub use Rattle.std.proofs.lemmas.List.{length-map, take_all}
pub use Rattle.std.specs.Option.{option_map, option_to_list}
pub use Rattle.std.specs.Ordering.{int_eq}
pub use Rattle.std.specs.Prelude.{int_le, int_lt, nat_le, unsigned_abs, unwrap_or}
pub use Rattle.gc_lines.proofs.AnsweringLines.{appended_alone, faulty_is_no_request, line_answered, line_unanswered, replies_once}
pub use Rattle.gc_lines.proofs.InOrder.{in_order_then}
pub use Rattle.gc_lines.specs.Prelude.{AnswersAll, AnswersFrames, AnswersInOrder, AnswersLines, AnswersPart, AppendsAnswer, AppendsText, IsNoRequest, IsPlain, IsRequest, Progress, RepliesTo, RequestFields, all_of, frames, frames_behind, line_in, lines, progress, request_seen, rest_behind, rest_of, with_end}
pub use Rattle.gc_values.specs.declared.decimal.Decimal.{Decimal}
pub use Rattle.gc_catalogue.proofs.CallLaws.{no_refusal, one_call, one_refusal}
pub use Rattle.gc_catalogue.specs.Prelude.{IsAnswerOf, IsCall, IsFitting, IsFittingAnswer, IsReading, IsRefusal, ReadsBackAnswer, ReadsBackRefusal, ReadsBackValue, date_values, reply_line, reply_of, request_line, request_of, rounded_answer}
pub use Rattle.gc_catalogue.specs.declared.answer.Answer.{Answer}
pub use Rattle.gc_catalogue.specs.declared.answer.Answer.TheVariants.{Nothing}
pub use Rattle.gc_catalogue.specs.declared.call.Call.{Call}
pub use Rattle.gc_catalogue.specs.declared.call.Call.TheVariants.{NullProc}
pub use Rattle.gc_catalogue.specs.declared.fault.CallFault.{CallFault}
pub use Rattle.gc_instrument.specs.Execution.{Executed, adjusted, commanded, distance_outcome, done, is_date, is_precision, is_prism, measured, pointed, refused, searched, set_if, unmeasured}
unfoldable pub use Rattle.gc_instrument.specs.Execution.{exec}
pub use Rattle.gc_instrument.specs.Hearing.{Hears, IsOutput, replies_text}
pub use Rattle.gc_instrument.specs.Laws.{AreForeign, ExecutesApart, ForeignLinesAreSilent, OneReply}
pub use Rattle.gc_instrument.specs.Replying.{AnswersCall, AnswersRequest, AppendsExchange, Handed, IsAnswered, IsExchanged, IsReplied, IsReplyToCall, IsReplyToExecuted, IsReplyToRequest, again_or_new, answers, answers_call, executed_line, executed_with, executes, kept_after, kept_line, reading_of, refusal_line, refuses, repeats, reply_id, silent, with_kept}
unfoldable pub use Rattle.gc_instrument.specs.Replying.{handed}
pub use Rattle.gc_instrument.specs.Seen.{IsSoundState, state_of}
pub use Rattle.gc_instrument.specs.State.{IsFittingKept, IsFittingState, KeptReply, State, first_date, kept_id, kept_in, opening_of, restarted}
pub use Rattle.gc_instrument.specs.Targets.{first_within}
pub use Rattle.gc_instrument.specs.declared.target.Target.{Target}
