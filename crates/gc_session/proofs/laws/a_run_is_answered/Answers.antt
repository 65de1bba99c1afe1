use Rattle.gc_session.proofs.Common.{refl}
use Rattle.gc_lines.specs.Prelude.{reply_at, header_at}
use Rattle.gc_session.specs.Witness.{ARunIsAnswered}
use Rattle.gc_session.proofs.laws.a_run_is_answered.Goals as goal

-- it is computed
computed : ARunIsAnswered
unfolding reply_at header_at
computed = record { taken = refl; settled = refl }

pub returns : goal.returns
returns c = computed
