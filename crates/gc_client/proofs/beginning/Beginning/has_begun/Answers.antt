use Rattle.gc_client.proofs.Common.{sym}
use Rattle.gc_client.proofs.Begins.{all_answered}
use Rattle.gc_client.proofs.beginning.Beginning.has_begun.Goals as goal

pub returns : goal.returns
returns c = all_answered c.self.inside.answered c.args.self.now (sym c.self.view_is) c.self.invariant
