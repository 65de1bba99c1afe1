use Rattle.gc_station.proofs.DescribedRecords.{described_read}
use Rattle.gc_station.proofs.record_laws.described_answers_are_read_by_their_kinds.Goals as goal

pub returns : goal.returns
returns c = described_read
