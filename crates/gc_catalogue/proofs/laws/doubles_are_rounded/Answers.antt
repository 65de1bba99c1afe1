use Rattle.gc_catalogue.proofs.AnswerLaws.{doubles_are_rounded}
use Rattle.gc_catalogue.proofs.laws.doubles_are_rounded.Goals as goal

pub returns : goal.returns
returns c = doubles_are_rounded
