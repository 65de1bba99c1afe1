use Rattle.gc_station.proofs.Answers.{answers_true}
use Rattle.gc_station.proofs.laws.answers_come_in_time.Goals as goal

pub returns : goal.returns
returns c = answers_true
