use Rattle.gc_scenes.proofs.Common.{◌≡◌, drop, fold, delay_of, delayed}
use Rattle.gc_scenes.proofs.slow.delay_of.Given as goal

-- the delays that are left make of `ms` what all delays make of 0
abbrev pub invariant-loop-delay : goal.invariant-loop-delay
invariant-loop-delay l = fold (delayed l.rpc) l.ms (drop l.delay-index l.delays) ≡ delay_of l.rpc l.delays
