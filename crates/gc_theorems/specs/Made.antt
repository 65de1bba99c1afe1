-- A line that was made on executing a request, this project's own.
use Rattle.gc_theorems.specs.Common.{Asked, ById, by_ids}
use Rattle.std.specs.Prelude.{◌≡◌, ℕ, true, List, ◌∷◌, ◌++◌}
use Rattle.gc_theorems.specs.World.{Ends, Numbered, Request, Up_deliver, Wire, World}
use Rattle.gc_theorems.specs.Field.{Move, OnLine, moved}

module _ {State : Type 0} (width : ℕ) (ends : Ends State) (start : World (ById Asked) State) where
  -- the wire after these moves of the world `start`, whose client knows ids and has a window of this width
  abbrev pub wire_behind : List (Move State) → Wire State
  wire_behind ms = (moved ends (by_ids width ends) ms start).wire

  -- at one of these moves request m, with this call, reaches the instrument, which executes the call in the state that it has by
  -- then; and this line is the instrument's reply
  pub record WasMadeFrom (ms : List (Move State)) (m : ℕ) (call : Asked) (line : List ℕ) : Type 0 where
    -- the moves before that one, and those after it
    pub front : List (Move State)
    pub later : List (Move State)
    pub split : ms ≡ front ++ OnLine Up_deliver ∷ later
    -- request m is the first of those in flight to the instrument
    pub id : ℕ
    pub rest : List (Numbered Request)
    pub reaches : (wire_behind front).up ≡ record { number = m; line = record { id = id; call = call } } ∷ rest
    pub executed : (ends.handed (wire_behind front).state id call).executed ≡ true
    pub reply : line ≡ (ends.handed (wire_behind front).state id call).reply
