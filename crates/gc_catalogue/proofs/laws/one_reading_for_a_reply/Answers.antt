use Rattle.gc_catalogue.proofs.AnswerLaws.{one_reading}
use Rattle.gc_catalogue.proofs.laws.one_reading_for_a_reply.Goals as goal

pub returns : goal.returns
returns c = one_reading
