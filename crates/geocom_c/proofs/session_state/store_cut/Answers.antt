use Rattle.geocom_c.proofs.Common.{[]}
use Rattle.geocom_c.proofs.session_state.store_cut.Goals as goal

pub returns : goal.returns
returns c = λ wide. c.store_session.ensures [] c.new-state.ensures wide
