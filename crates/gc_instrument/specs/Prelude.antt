-- The names that crates above cite, passed on from one place. Declares nothing.
pub use Rattle.gc_instrument.specs.Execution.{Executed, Gives, adjusted, commanded, distance_outcome, done, is_date, is_precision, is_prism, measured, measured_outcome, pointed, refused, set_if, unmeasured}
unfoldable pub use Rattle.gc_instrument.specs.Execution.{exec}
pub use Rattle.gc_instrument.specs.Laws.{HasNoRequest}
pub use Rattle.gc_instrument.specs.Replying.{AppendsExchange, Handed, IsExchanged, IsReplied, OfItsCall, answers, executed_line, executed_with, kept_after, kept_line, reading_of, refusal_line, refuses, reply_id, with_kept, without_kept}
unfoldable pub use Rattle.gc_instrument.specs.Replying.{handed}
pub use Rattle.gc_instrument.specs.Serving.{AnswersFrame, IsServing}
pub use Rattle.gc_instrument.specs.State.{IsFittingKept, IsFittingReply, IsFittingState, KeptReply, State, kept_id, opening, restarted, simulator_opening}
pub use Rattle.gc_instrument.specs.Targets.{first_at, is_at}
