use Rattle.gc_links.proofs.Common.{place_seen, signals_at}
use Rattle.gc_links.proofs.LinksMeant.{link_meant_at}
use Rattle.gc_links.proofs.watched.Watched.is_for.Goals as goal

pub returns : goal.returns
returns g c = λ yes. link_meant_at c.args.self.now (place_seen c.args.place) (signals_at c.args.signals) (c.leads_to.ensures yes)
