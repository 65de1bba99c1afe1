use Rattle.gc_catalogue.proofs.Table.{same_number_alike, same_call}
use Rattle.gc_catalogue.proofs.laws.numbers_differ.Goals as goal

pub returns : goal.returns
returns c = record { alike = same_number_alike; same = same_call }
