use Rattle.gc_scenes.proofs.Common.{sym, subst, IsPlainKept}
use Rattle.gc_scenes.proofs.Plain.{kept_plain}
use Rattle.gc_scenes.proofs.instrument.SceneInstrument.keep.Goals as goal

pub invariant_of-self : goal.invariant_of-self
invariant_of-self c = subst IsPlainKept (sym c.keep.ensures) (kept_plain c.self.inside.kept c.args.id c.args.line.now c.self.invariant c.requires.plain)
