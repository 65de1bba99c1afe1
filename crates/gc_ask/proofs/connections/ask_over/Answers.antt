use Rattle.gc_ask.proofs.Runs.{over_remote}
use Rattle.gc_ask.proofs.connections.ask_over.Goals as goal

pub returns : goal.returns
returns g c = record {
  before = _;
  after = _;
  fresh = (c.new-source.ensures.reads, c.new-source.ensures.failed, c.new-to.ensures.failed);
  asks = over_remote _ _ (record { link = _; sink = _ }) (record { link = _; sink = _ }) _ c.ask_all.ensures.asks;
}
