use Rattle.gc_texts.proofs.Common.{ℕ, List, refl, subst, sym, IsFaultOfCommand, RunFault}
use Rattle.gc_texts.specs.CommandStops.{IsCommandStopFor}
use Rattle.gc_texts.specs.declared.command_text.CommandStop.TheVariants.{Line}
use Rattle.gc_texts.proofs.command_text.command_stop_for.Goals as goal

pub returns-in-Schedule : goal.returns-in-Schedule
returns-in-Schedule c =
    subst (λ (fault : RunFault). IsCommandStopFor c.args.text.now fault (Line c.in-Schedule.line c.command_trouble_of.result)) (sym c.in-Schedule.is) (
      c.command_trouble_of.result,
      subst (λ (line : List ℕ). IsFaultOfCommand line c.command_trouble_of.result) c.line_at.ensures c.command_trouble_of.ensures,
      refl,
    )
