use Rattle.gc_ask.proofs.Common.{inr}
use Rattle.gc_ask.proofs.Runs.{no_memory}
use Rattle.gc_ask.proofs.looped.run_looped.Goals as goal

pub returns : goal.returns
returns g c =
    let found = c.in_ok-commands.ensures.found in
    record {
      loops = record {
        runs = (found.0, found.1, found.2, inr (c.in_ok-commands.commands.items, found.3, rw c.as_slice.ensures.value at c.ask_looped.ensures.asks));
        memory = λ is. absurd (no_memory _ _ _ _ _ _ c.ask_looped.ensures.asks is);
      };
    }
