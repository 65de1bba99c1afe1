use Rattle.gc_links.proofs.LinksMeant.{link_meant}
use Rattle.gc_links.proofs.laws.acts_are_meant.Goals as goal

pub returns : goal.returns
returns g c = link_meant c.args._link.now
