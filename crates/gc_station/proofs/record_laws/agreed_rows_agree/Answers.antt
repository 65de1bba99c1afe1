use Rattle.gc_station.proofs.Nearly.{rows_agree}
use Rattle.gc_station.proofs.record_laws.agreed_rows_agree.Goals as goal

pub returns : goal.returns
returns c = rows_agree
