use Rattle.gc_filters.specs.declared.scene_trouble.SceneWord.TheVariants as word
use Rattle.gc_filters.proofs.SceneWords.{says_nothing}
use Rattle.gc_filters.proofs.scene_reading.read_behave.Goals as goal

pub returns-in-None : goal.returns-in-None
returns-in-None c = (says_nothing c.args.line.now word.Behave c.requires (c.in_default.ensures, c.in-None.ensures), c.requires)
