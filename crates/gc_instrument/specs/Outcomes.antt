-- What holds of the outcome of every execution, whatever the call and the state: this project's own.
use Rattle.std.specs.Prelude.{◌≡◌, ◌≢◌, ◌<◌}
use Rattle.gc_catalogue.specs.Prelude.{IsAnswerOf, IsFittingAnswer, IsFitting}
use Rattle.gc_catalogue.specs.declared.answer.Answer.TheVariants.{Nothing}
use Rattle.gc_catalogue.specs.declared.call.Call.{Call}
use Rattle.gc_instrument.specs.Execution.{Executed}
use Rattle.gc_instrument.specs.State.{State, IsFittingState, opening_of}

-- the outcome `x` of the call in the state `s` is sound: all of the following holds of it
pub record IsSoundOutcome (s : State) (call : Call) (x : Executed) : Type 0 where
  -- the serial number, the name and the scene stay
  pub same : opening_of x.state ≡ opening_of s
  -- the state's values are still in range
  pub fits : IsFittingState s → IsFittingState x.state
  -- the return code is at most 65535
  pub code : x.rc < 65536
  -- the code 0 has an answer of the call, and any other code has none
  pub answers : x.rc ≡ 0 → IsAnswerOf call x.answer
  pub refuses : x.rc ≢ 0 → x.answer ≡ Nothing
  -- the answer's values are in range
  pub answer_fits : IsFittingState s → IsFitting call → IsFittingAnswer x.answer
