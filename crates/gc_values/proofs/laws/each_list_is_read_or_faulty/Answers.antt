use Rattle.gc_values.proofs.EachItem.{each_list}
use Rattle.gc_values.proofs.laws.each_list_is_read_or_faulty.Goals as goal

pub returns : goal.returns
returns c = each_list
