use Rattle.gc_measuring.proofs.Records.{is_meant_record}
use Rattle.gc_measuring.proofs.station.record_of.Goals as goal

pub returns-in-Some-clause-meant : goal.returns-in-Some-clause-meant
returns-in-Some-clause-meant g c = λ where_to until meant. is_meant_record where_to until c.in-Some.link c.into_record.result c.into_record.ensures (rw (c.in-Some.is) at meant)
