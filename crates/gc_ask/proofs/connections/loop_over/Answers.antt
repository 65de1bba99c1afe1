use Rattle.gc_ask.proofs.connections.loop_over.Goals as goal

pub returns : goal.returns
returns g c = record {
  client_before = _;
  client_after = _;
  instrument_before = _;
  instrument_after = _;
  client = (c.new-client_in.ensures.reads, c.new-client_in.ensures.failed, c.new-client_out.ensures.failed);
  instrument = (c.new-instrument_in.ensures.reads, c.new-instrument_in.ensures.failed, c.new-instrument_out.ensures.failed);
  asks = c.ask_looped.ensures.asks;
}
