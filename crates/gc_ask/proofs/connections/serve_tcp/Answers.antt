use Rattle.gc_ask.proofs.Common.{inl, refl, arith}
use Rattle.gc_ask.proofs.ServesMore.{well_none}
use Rattle.gc_ask.proofs.connections.serve_tcp.Goals as goal

pub returns-in_default : goal.returns-in_default
returns-in_default g c = record {
  serves = (0, c.args.instrument.now, omega (arith, c.requires.some), well_none _ _ _ c.args.instrument.now, inl (refl, refl));
}
