use Rattle.gc_client.proofs.OneForOne.{accounts_for_sends}
use Rattle.gc_client.proofs.laws.settles_one_for_one.Goals as goal

pub returns : goal.returns
returns g c = accounts_for_sends
