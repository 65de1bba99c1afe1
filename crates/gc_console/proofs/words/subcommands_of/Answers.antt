use Rattle.gc_console.proofs.Common.{subcommands}
use Rattle.gc_console.proofs.ProgramLemmas.{are_next}
use Rattle.gc_console.proofs.words.subcommands_of.Goals as goal

pub loop-subcommand-preserved : goal.loop-subcommand-preserved
loop-subcommand-preserved c =
    are_next subcommands c.loop-subcommand.subcommand-index _ c.loop-subcommand-test.true c.loop-subcommand.subcommands.items c.in_ok-command.field-0
    c.loop-subcommand.invariant c.in_ok-command.ensures c.push.new.self.items c.in_ok-push.ensures.items
