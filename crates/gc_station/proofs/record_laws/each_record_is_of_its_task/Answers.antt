use Rattle.gc_station.proofs.EachRun.{of_tasks}
use Rattle.gc_station.proofs.record_laws.each_record_is_of_its_task.Goals as goal

pub returns : goal.returns
returns c = of_tasks
