use Rattle.geocom_c.proofs.Common.{◌≡◌, length, take, FirstAre, HoldsRequest}
use Rattle.geocom_c.proofs.state.write_places.Given as goal

-- the first k places hold the first k requests, and there are as many places as at first
abbrev pub invariant-loop-k : goal.invariant-loop-k
invariant-loop-k l =
    record {
      places : FirstAre HoldsRequest l.places (take l.k l.window);
      length : length l.places ≡ length l.initial.places;
    }
