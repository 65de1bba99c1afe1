use Rattle.gc_station.proofs.Common.{◌≡◌, take, oldest}
use Rattle.gc_station.proofs.watching.oldest_of.Given as goal

-- of the watched commands before this one `found` was answered well the longest ago
abbrev pub invariant-loop-watch : goal.invariant-loop-watch
invariant-loop-watch l = l.found ≡ oldest (take l.watch-index l.watches)
