use Rattle.gc_console.proofs.Common.{take, subcommands, AreSubcommands}
use Rattle.gc_console.proofs.words.subcommands_of.Given as goal

-- the subcommands so far
abbrev pub invariant-loop-subcommand : goal.invariant-loop-subcommand
invariant-loop-subcommand l = AreSubcommands (take l.subcommand-index subcommands) l.subcommands.items
