use Rattle.gc_values.proofs.ParamLists.{one_list}
use Rattle.gc_values.proofs.laws.one_list.Goals as goal

pub returns : goal.returns
returns c = one_list
