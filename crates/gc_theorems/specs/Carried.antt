-- A station in the field, this project's own: its acts once it has synchronized, and what happens to its lines.
use Rattle.gc_theorems.specs.Common.{WINDOW, fresh, KeptReply, IsFittingState, Act, client_after}
use Rattle.std.specs.Prelude.{◌≡◌, ℕ, List, Option}
use Rattle.gc_theorems.specs.Simulator.{simulator_ends}
use Rattle.gc_theorems.specs.World.{Ends}
use Rattle.gc_theorems.specs.Begin.{UnderWay}
use Rattle.gc_theorems.specs.Begun.{IsClean, IsFaithful, world_once_begun, ArePossibleOnceBegun}
use Rattle.gc_theorems.specs.Field.{Move, seen}
use Rattle.gc_theorems.specs.Instrument.{OfAnyInstrument}
use Rattle.gc_theorems.specs.Laws.{kept_of}
use Rattle.gc_theorems.specs.Meaning.{AllMean}

-- acts of a station, and the moves of the line and of an instrument that go with them. Before these acts the station has
-- synchronized cleanly, which left `u` in flight; `rest` are the bytes of an unfinished line that the last piece of the
-- synchronization left
pub record IsCarried {State : Type 0} (ends : Ends State) (Good : State → Type 0) (kept : State → Option KeptReply) (u : UnderWay State) (rest : List ℕ)
    (acts : List Act) (ms : List (Move State)) : Type 0 where
  pub clean : IsClean Good kept u
  pub steps : AllMean fresh rest acts (seen ms)
  pub possible : ArePossibleOnceBegun WINDOW ends u Good kept ms

-- `IsFaithful` holds of these moves, and the station's client ends in the same state as the world's client
pub record IsStationFaithful {State : Type 0} (ends : Ends State) (Good : State → Type 0) (kept : State → Option KeptReply) (u : UnderWay State) (ms : List (Move State)) : Type 0 where
  pub faithful : IsFaithful WINDOW ends u ms Good kept
  pub client : client_after fresh (seen ms) ≡ (world_once_begun WINDOW ends u ms).client

-- acts of a station that has synchronized cleanly (`IsCarried`) are faithful (`IsStationFaithful`), whenever the station sends.
-- `Good` says which states of the instrument are good, and `kept` what reply each of them keeps
abbrev pub CarriedActsAreFaithful : {State : Type 0} → (ends : Ends State) → (Good : State → Type 0) → (kept : State → Option KeptReply) → Type 0
CarriedActsAreFaithful {State = State} ends Good kept =
    (u : UnderWay State) (rest : List ℕ) (acts : List Act) (ms : List (Move State)) → IsCarried ends Good kept u rest acts ms → IsStationFaithful ends Good kept u ms

-- `CarriedActsAreFaithful`, for any instrument, in any state
abbrev pub StationsAnswersAreTheirOwn : Type 0 → Type 0
StationsAnswersAreTheirOwn State = OfAnyInstrument {State = State} (λ ends Good kept. CarriedActsAreFaithful ends Good kept)

-- `CarriedActsAreFaithful`, for the simulator, in any state that fits
abbrev pub SimulatorsStationsAnswersAreTheirOwn : Type 0
SimulatorsStationsAnswersAreTheirOwn = CarriedActsAreFaithful simulator_ends IsFittingState kept_of
