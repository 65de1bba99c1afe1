use Rattle.gc_ask.proofs.Common.{◌≡◌, ◌∙◌, refl, subst, ℕ, ServesCaller}
use Rattle.gc_ask.proofs.Keeps.{turns_seen}
use Rattle.gc_ask.proofs.devices.keep_device.Goals as goal

pub returns-clause-kept : goal.returns-clause-kept
returns-clause-kept g c =
    let kept = c.keep.ensures.kept in
    record {
      after = c.keep.new.callers.instrument.now;
      kept = record { ends = kept.ends; count = kept.count ∙ c.most.ensures; served = kept.served; lines = kept.lines };
      turns = turns_seen _ (λ callers. callers.instrument.now) (λ callers. callers.max_reads) c.args.keeping.max_reads
          (ServesCaller g.I.Answers.answers g.I.Simulates.restarted c.args.keeping.max_reads)
          (λ a b end is one. (one.0 ∙ is, subst (λ (most : ℕ). ServesCaller g.I.Answers.answers g.I.Simulates.restarted most a.instrument.now b.instrument.now end) is one.1))
          _ c.keep.new.callers kept.ends refl c.keep.ensures.turns;
    }
