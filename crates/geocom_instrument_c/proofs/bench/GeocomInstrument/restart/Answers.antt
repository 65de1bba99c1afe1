use Rattle.geocom_instrument_c.proofs.Common.{◌≡◌, ℕ, refl, rules, IsBenchRestarted, NO_INSTRUMENT}
use Rattle.geocom_instrument_c.proofs.Cases.{calls_bench}
use Rattle.geocom_instrument_c.proofs.bench.GeocomInstrument.restart.Goals as goal

pub returns : goal.returns
returns c = calls_bench c.args.self.now c.in-Some.bench c.restart.new.self
    (◌≡◌ {A = ℕ} 0 NO_INSTRUMENT) (λ b n. IsBenchRestarted b n × (◌≡◌ {A = ℕ} 0 0)) (search rules) (c.restart.ensures, refl)
