use Rattle.gc_station.proofs.Answers.{as_expected}
use Rattle.gc_station.proofs.record_laws.answers_are_as_expected.Goals as goal

pub returns : goal.returns
returns c = as_expected
