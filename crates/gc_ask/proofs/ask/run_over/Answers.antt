use Rattle.gc_ask.proofs.Common.{inr}
use Rattle.gc_ask.proofs.Runs.{no_memory}
use Rattle.gc_ask.proofs.ask.run_over.Goals as goal

pub returns-clause-asks : goal.returns-clause-asks
returns-clause-asks g c =
    let found = c.in_ok-commands.ensures.found in
    (found.0, found.1, found.2, inr (c.in_ok-commands.commands.items, found.3, rw c.as_slice.ensures.value at c.ask_all.ensures.asks))

pub returns-clause-memory : goal.returns-clause-memory
returns-clause-memory g c is = absurd (no_memory _ _ _ _ _ _ c.ask_all.ensures.asks is)
