use Rattle.geocom_c.proofs.Common.{AnyState}
use Rattle.geocom_c.proofs.SessionRecords.{records_own}
use Rattle.geocom_c.proofs.laws.session_records_are_their_own.Goals as goal

pub returns : goal.returns
returns g c = λ ends kept is. records_own ends AnyState kept (c.sessions_answers_are_their_own.ensures ends kept is)
