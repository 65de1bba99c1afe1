use Rattle.gc_theorems.proofs.BegunRising.{rising_lack_the_word}
use Rattle.gc_theorems.proofs.beginning.rising_ids_lack_the_word.Goals as goal

pub returns : goal.returns
returns g c = rising_lack_the_word
