use Rattle.gc_lines.proofs.Common.{◌≡◌, ◌+◌, drop, whole_and_part}
use Rattle.gc_lines.proofs.session.whole_and_part.Given as goal

abbrev pub invariant-loop-length : goal.invariant-loop-length
invariant-loop-length l = record {
  count : l.count ≡ l.fn.whole + l.length-index;
  parts : whole_and_part l.count l.bytes (drop l.length-index l.lengths) ≡ whole_and_part l.fn.whole l.fn.taken l.lengths;
}
