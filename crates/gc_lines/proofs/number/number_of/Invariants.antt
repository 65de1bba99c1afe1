use Rattle.gc_lines.proofs.Common.{◌≡◌, ◌-◌, ◌≤◌, length, take, digits_value, AllDigits}
use Rattle.gc_lines.proofs.number.number_of.Given as goal

abbrev pub invariant-loop-len : goal.invariant-loop-len
invariant-loop-len l = record {
  within : l.len ≤ length l.bytes;
  few : l.len ≤ 5;
  digits : AllDigits 10 (take l.len l.bytes);
  value : l.value ≡ digits_value 10 (take l.len l.bytes);
}

abbrev pub decreases-loop-len : goal.decreases-loop-len
decreases-loop-len l = length l.bytes - l.len
