use Rattle.gc_station.proofs.OnceAskedInTime.{ends_by_bound, ends_a_table_run_by_bound}
use Rattle.gc_station.proofs.laws.a_run_ends_by_its_bound_once_asked.Goals as goal

pub returns : goal.returns
returns c = record { chain = ends_by_bound; table = ends_a_table_run_by_bound }
