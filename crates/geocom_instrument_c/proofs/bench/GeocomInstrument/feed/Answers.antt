use Rattle.geocom_instrument_c.proofs.Common.{rules, IsFedTo, IsWithoutReply, NO_INSTRUMENT}
use Rattle.geocom_instrument_c.proofs.Cases.{calls_bench}
use Rattle.geocom_instrument_c.proofs.bench.GeocomInstrument.feed.Goals as goal

pub returns : goal.returns
returns c = calls_bench c.args.self.now c.in-Some.bench c.feed.new.self
    (IsWithoutReply NO_INSTRUMENT 0 c.feed.result) (λ b n. IsFedTo b c.args.bytes.now c.args.now n c.feed.result) (search rules) c.feed.ensures
