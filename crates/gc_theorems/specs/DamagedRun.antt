-- Runs with damage that meet the premises of the laws, this project's own, over the simulator. They are computed.
use Rattle.gc_theorems.specs.Common.{Table, InstrumentNo, Answered, Lost, State, IsFittingState, simulator_opening}
use Rattle.std.specs.Prelude.{◌≡◌, ℕ, List, [], ◌∷◌, ◌++◌, codes, replicate}
use Rattle.gc_theorems.specs.Simulator.{simulator_ends}
use Rattle.gc_theorems.specs.World.{Up_deliver, Down_lose, Down_repeat}
use Rattle.gc_theorems.specs.Begin.{IsWellFormed, SyncTurn, Asks, Reaches, Up_lose, UnderWay, begins, none_under_way}
use Rattle.gc_theorems.specs.BeginWitness.{at_start}
use Rattle.gc_theorems.specs.Begun.{IsClean, nulls_settled}
use Rattle.gc_theorems.specs.Field.{Sends, Comes, OnLine}
use Rattle.gc_theorems.specs.Laws.{kept_of}
use Rattle.gc_theorems.specs.Harm.{Harm, Does, Damages, Strikes, AllMayHarm, harm_begun, harmed}
use Rattle.gc_theorems.specs.DamagedHoldingBack.{AllMayHarmApart, holding_begun}
use Rattle.gc_theorems.specs.Rarely.{AllMayHarmRarely, tally_begun}
use Rattle.gc_theorems.specs.Stretch.{left_by_sync}
use Rattle.gc_theorems.specs.DamagedSynchronizing.{SyncHarm, AllMaySyncHarm, OwnEighthComes}
use Rattle.gc_theorems.specs.Begin as turn
use Rattle.gc_theorems.specs.DamagedSynchronizing as sync

-- the simulator, with nothing in flight
abbrev pub nothing : UnderWay State
nothing = none_under_way simulator_opening

-- a request for the instrument's number, for this target
abbrev pub asks_number : ℕ → Harm State
asks_number target = Does (Sends target (Table InstrumentNo) 100)

-- the front request reaches the instrument
abbrev pub reaches_it : Harm State
reaches_it = Does (OnLine Up_deliver)

-- Three commands are sent. The reply to the first comes twice, and the first copy is altered: its id becomes 1, and its value another. One
-- more command is sent while the second copy is in flight, which is then discarded, as is the reply to the second command; the third has
-- its own answer. A request that damage made, with the fourth command's id, reaches the instrument before that command's request does; so
-- the reply to it is sent again for the fourth command.
abbrev pub damaged_steps : List (Harm State)
damaged_steps =
    asks_number 1 ∷ asks_number 2 ∷ asks_number 3
    ∷ reaches_it
    ∷ Does (OnLine (Down_repeat 0))
    ∷ Does (OnLine (Down_lose 0))
    ∷ Damages (codes "%R1P,0,1:0,999")
    ∷ asks_number 4
    ∷ Does (Comes (codes "%R1P,0,0:0,123456"))
    ∷ reaches_it
    ∷ Does (Comes (codes "%R1P,0,1:0,123456"))
    ∷ reaches_it
    ∷ Does (Comes (codes "%R1P,0,2:0,123456"))
    ∷ Strikes 3 (Table InstrumentNo)
    ∷ reaches_it
    ∷ Does (Comes (codes "%R1P,0,3:0,123456"))
    ∷ []

-- with a window of three, these steps meet the premises of each law on steps, and the commands end so: the first is lost, the second is
-- answered by the altered line, the third by its own reply, and the fourth by the reply to the request that damage made
pub record IsDamagedRun : Type 0 where
  pub clean : IsClean IsFittingState kept_of nothing
  -- k is 1 here, and (1 + 1) * 3 is at most 7
  pub rare : AllMayHarmRarely 3 simulator_ends 1 IsFittingState kept_of damaged_steps (tally_begun 3 simulator_ends nothing)
  pub apart : AllMayHarmApart 3 simulator_ends IsFittingState kept_of damaged_steps (holding_begun 3 simulator_ends nothing)
  pub fresh : AllMayHarm 3 simulator_ends IsFittingState kept_of damaged_steps (harm_begun 3 simulator_ends nothing)
  pub settled :
      (harmed 3 simulator_ends damaged_steps (harm_begun 3 simulator_ends nothing)).world.wire.settled
      ≡ nulls_settled ++ record { target = 1; call = Table InstrumentNo; outcome = Lost }
      ∷ record { target = 2; call = Table InstrumentNo; outcome = Answered (codes "%R1P,0,1:0,999") }
      ∷ record { target = 3; call = Table InstrumentNo; outcome = Answered (codes "%R1P,0,2:0,123456") }
      ∷ record { target = 4; call = Table InstrumentNo; outcome = Answered (codes "%R1P,0,3:0,123456") }
      ∷ []

-- the null procedure of the first id that isn't answered is sent, and this damaged line comes
abbrev pub answered_by : List ℕ → List (SyncHarm State) → List (SyncHarm State)
answered_by line later = sync.Does Asks ∷ sync.Damages line ∷ later

-- that many times, this happens
abbrev pub so_often : (count : ℕ) → SyncTurn State → List (SyncHarm State)
so_often count turn = replicate count (sync.Does turn)

-- a synchronization over `at_start`, in which two requests and a reply are in flight: seven null procedures are answered by damaged lines,
-- and the eighth is sent. The first old request is lost, and all others reach the instrument. All replies come but the last one, which
-- is that to the eighth null procedure
abbrev pub until_last : List (SyncHarm State)
until_last =
    answered_by (codes "%R1P,0,6:0") (
    answered_by (codes "%R1P,0,5:0") (
    answered_by (codes "%R1P,0,4:0") (
    answered_by (codes "%R1P,0,3:0") (
    answered_by (codes "%R1P,0,2:0") (
    answered_by (codes "%R1P,0,1:0") (
    answered_by (codes "%R1P,0,0:0") (
    sync.Does Asks ∷ sync.Does (Up_lose 0) ∷ (so_often 9 Reaches ++ so_often 9 turn.Comes))))))))

-- and then the last one comes
abbrev pub damaged_turns : List (SyncHarm State)
damaged_turns = until_last ++ so_often 1 turn.Comes

-- the steps after that synchronization: a command is sent and answered
abbrev pub steps_after : List (Harm State)
steps_after = asks_number 1 ∷ reaches_it ∷ Does (Comes (codes "%R1P,0,0:0,123456")) ∷ []

-- these turns and steps meet the premises of the laws on synchronizations
pub record IsDamagedStretch : Type 0 where
  pub formed : IsWellFormed IsFittingState at_start
  pub turns : AllMaySyncHarm simulator_ends IsFittingState kept_of damaged_turns (begins at_start)
  pub own : OwnEighthComes simulator_ends at_start damaged_turns
  pub fresh : AllMayHarm 3 simulator_ends IsFittingState kept_of steps_after (harm_begun 3 simulator_ends (left_by_sync simulator_ends at_start damaged_turns))
