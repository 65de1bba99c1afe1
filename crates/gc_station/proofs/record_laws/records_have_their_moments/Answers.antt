use Rattle.gc_station.proofs.Moments.{answers_have_moments, records_have_moments}
use Rattle.gc_station.proofs.record_laws.records_have_their_moments.Goals as goal

pub returns : goal.returns
returns c = record { each = records_have_moments; answers = answers_have_moments }
