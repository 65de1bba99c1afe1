use Rattle.gc_station.proofs.Common.{◌≡◌, ◌≤◌, take, commands_in}
use Rattle.gc_station.proofs.mark.commands_in.Given as goal

-- `commands` is how many of the marks before this one are of commands
abbrev pub invariant-loop-mark : goal.invariant-loop-mark
invariant-loop-mark l = record {
  counted : l.commands ≡ commands_in (take l.mark-index l.marks);
  within : l.commands ≤ l.mark-index;
}
