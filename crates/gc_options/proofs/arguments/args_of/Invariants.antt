use Rattle.gc_options.proofs.Common.{map, take, HaveRules, rule_of_row}
use Rattle.gc_options.proofs.arguments.args_of.Given as goal

-- the arguments so far have the rules of the rows so far
abbrev pub invariant-loop-row : goal.invariant-loop-row
invariant-loop-row l = HaveRules (map rule_of_row (take l.row-index l.table)) l.args.items
