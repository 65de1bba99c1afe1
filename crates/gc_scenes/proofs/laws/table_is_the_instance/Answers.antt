use Rattle.gc_scenes.proofs.Instance.{table_is_the_instance}
use Rattle.gc_scenes.proofs.laws.table_is_the_instance.Goals as goal

pub returns : goal.returns
returns c = table_is_the_instance
