use Rattle.gc_filters.proofs.Common.{◌≡◌, ◌++◌, drop, None, true, no_ways, faults_of, answers_of, noise_of, repeats_of, ways_of}
use Rattle.gc_filters.proofs.scene_parts.rules_of.Given as goal

-- what was gathered so far, and what the lines that are left say, is what all lines say
abbrev pub invariant-loop-line : goal.invariant-loop-line
invariant-loop-line l = record {
  faults : l.faults.items ++ faults_of (drop l.line-index l.lines) ≡ faults_of l.lines;
  answers : l.answers.items ++ answers_of (drop l.line-index l.lines) ≡ answers_of l.lines;
  noise : noise_of l.noise (drop l.line-index l.lines) ≡ noise_of None l.lines;
  repeats : repeats_of l.repeats (drop l.line-index l.lines) ≡ repeats_of true l.lines;
  ways : ways_of l.ways (drop l.line-index l.lines) ≡ ways_of no_ways l.lines;
}
