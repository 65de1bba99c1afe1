use Rattle.geocom_c.proofs.SessionCalls.{calls_are_calls}
use Rattle.geocom_c.proofs.laws.session_calls_are_calls.Goals as goal

pub returns : goal.returns
returns c = calls_are_calls
