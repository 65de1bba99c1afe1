use Rattle.gc_filters.proofs.Common.{◌≡◌, ◌++◌, drop, simulator_opening, serial_of, name_of, targets_of}
use Rattle.gc_filters.proofs.scene_parts.base_of.Given as goal

-- the lines that are left make of the serial number and of the name so far what all lines make of the simulator's; and the targets
-- gathered so far, and those of the lines that are left, are those of all lines
abbrev pub invariant-loop-line : goal.invariant-loop-line
invariant-loop-line l = record {
  serial : serial_of l.serial (drop l.line-index l.lines) ≡ serial_of simulator_opening.serial l.lines;
  name : name_of l.name (drop l.line-index l.lines) ≡ name_of simulator_opening.name l.lines;
  targets : l.targets.items ++ targets_of (drop l.line-index l.lines) ≡ targets_of l.lines;
}
