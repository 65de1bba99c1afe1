use Rattle.geocom_c.proofs.Common.{◌≡◌, List, length, take, Asked, Pending, FirstAre, HoldsRequest}
use Rattle.geocom_c.proofs.state.read_places.Given as goal

-- the window has the requests of the first k places, and these places hold no others
abbrev pub invariant-loop-k : goal.invariant-loop-k
invariant-loop-k l =
    record {
      count : length l.window ≡ l.k;
      found : FirstAre HoldsRequest l.places l.window;
      only : (ps : List (Pending Asked)) → length ps ≡ l.count → FirstAre HoldsRequest l.places ps → l.window ≡ take l.k ps;
    }
