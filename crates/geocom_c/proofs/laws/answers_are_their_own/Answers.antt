use Rattle.geocom_c.proofs.Common.{AnyState}
use Rattle.geocom_c.proofs.Owned.{each_answer_is_own}
use Rattle.geocom_c.proofs.laws.answers_are_their_own.Goals as goal

pub returns : goal.returns
returns g c = λ ends kept is. each_answer_is_own ends AnyState kept is
