use Rattle.gc_station.proofs.OnceAsked.{ends_soon}
use Rattle.gc_station.proofs.OnceAskedInChain.{finishes_its_chain}
use Rattle.gc_station.proofs.OnceAskedOfTable.{finishes_a_table_chain}
use Rattle.gc_station.proofs.laws.a_run_ends_soon_once_asked.Goals as goal

pub returns : goal.returns
returns c = record { soon = ends_soon; chain = finishes_its_chain; table = finishes_a_table_chain }
