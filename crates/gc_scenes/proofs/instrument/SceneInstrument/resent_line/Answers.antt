use Rattle.gc_scenes.proofs.Plain.{lent_plain}
use Rattle.gc_scenes.proofs.instrument.SceneInstrument.resent_line.Goals as goal

pub returns-then-self-clause-plain : goal.returns-then-self-clause-plain
returns-then-self-clause-plain c = lent_plain (λ r. r.now) c.line_of.result c.self.inside.kept c.args.id c.line_of.ensures.line c.self.invariant
