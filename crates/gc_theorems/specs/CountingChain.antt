-- A run of a chain over an instrument that isn't the simulator, this project's own: it counts what it executes, answers to each
-- request with the count, and keeps its reply. Each of its states is a good one, as the law of chains asks.
use Rattle.gc_theorems.specs.Common.{Asked, WINDOW, Handed, KeptReply, Act, AreChained}
use Rattle.std.specs.Prelude.{◌≡◌, ℕ, suc, List, [], ◌∷◌, codes, Option, Some, None}
use Rattle.gc_theorems.specs.World.{Ends, ends_of}
use Rattle.gc_theorems.specs.ChainWitness.{points, reads_all, commands, scope, acts_with, moves_with, until_first, until_third, records_with}
use Rattle.gc_theorems.specs.Begin.{UnderWay, left_by_turns, none_under_way}
use Rattle.gc_theorems.specs.Begun.{WasMadeOn}
use Rattle.gc_theorems.specs.Chains.{HasEffect, IsUndisturbed, stretch_wire}
use Rattle.gc_theorems.specs.Field.{Move}
use Rattle.gc_theorems.specs.Instrument.{IsAnInstrument, KeepsItsReply, AnyState, all_known}
use Rattle.gc_theorems.specs.Needed.{KeptNumber, repeats_or_executes, held, keeper_kept}
use Rattle.gc_theorems.specs.Runs.{IsInField, Program, program_records}
use Rattle.gc_theorems.specs.Shown.{Stretch}
use Rattle.gc_theorems.specs.Witness.{plan, eight_answered, run_and_end}

-- the state of this instrument: how many requests it has executed since it started, and what it keeps: the last request's id,
-- and the count by then
pub record Counter : Type 0 where
  pub count : ℕ
  pub keeps : KeptNumber

-- the state once the instrument has executed a request with this id: it has counted it, and keeps the count as the reply
abbrev pub once_counted : Counter → ℕ → Counter
once_counted s id = record { count = suc s.count; keeps = Some (id, suc s.count) }

-- what the instrument does with a request, by the count that it keeps for the request's id (`repeats_or_executes`): if it
-- executes the request, it counts it, answers the new count, and keeps that reply
abbrev pub counter_handed : Counter → ℕ → Option ℕ → Handed Counter
counter_handed s id o = repeats_or_executes (once_counted s id) (suc s.count) id s o

-- the instrument, which starts with the count 0, and nothing kept
abbrev pub counting : Ends Counter
counting = ends_of {State = Counter} (λ s id call. counter_handed s id (held s.keeps id)) (λ s. record { count = 0; keeps = None })

-- the reply that the instrument keeps
abbrev pub kept_by : Counter → Option KeptReply
kept_by s = keeper_kept s.keeps

-- the state without what is kept
abbrev pub bare : Counter → Counter
bare s = record { count = s.count; keeps = None }

-- the effect of executing a call on the state: the count grows by one
abbrev pub counts : Counter → Asked → Counter
counts s call = record { count = suc s.count; keeps = s.keeps }

-- the replies to the eight null procedures: the instrument had executed 27 requests before
abbrev pub null_replies : List (List ℕ)
null_replies =
    codes "%R1P,0,6:0,28" ∷ codes "%R1P,0,5:0,29" ∷ codes "%R1P,0,4:0,30" ∷ codes "%R1P,0,3:0,31" ∷ codes "%R1P,0,2:0,32" ∷ codes "%R1P,0,1:0,33"
    ∷ codes "%R1P,0,0:0,34" ∷ codes "%R1P,0,7:0,35" ∷ []

-- the reply to the client's null procedure
abbrev pub null_reply : List ℕ
null_reply = codes "%R1P,0,0:0,36"

-- the reply to the first command
abbrev pub first_reply : List ℕ
first_reply = codes "%R1P,0,1:0,37"

-- the reply to the second command
abbrev pub second_reply : List ℕ
second_reply = codes "%R1P,0,2:0,38"

-- the reply to the third command
abbrev pub third_reply : List ℕ
third_reply = codes "%R1P,0,3:0,39"

-- the acts of the run
abbrev pub acts : List Act
acts = acts_with null_replies null_reply first_reply second_reply third_reply

-- what happens once the run has synchronized
abbrev pub moves : List (Move Counter)
moves = moves_with null_reply first_reply second_reply third_reply

-- at the start of the run nothing is in flight
abbrev pub at_start : UnderWay Counter
at_start = none_under_way (record { count = 27; keeps = None })

-- the run as one stretch
abbrev pub stretch : Stretch Counter
stretch = record { from = left_by_turns counting eight_answered at_start; moves = moves }

-- the run as a program (`run_and_end`)
abbrev pub program : Program Counter
program = record { plan = plan; commands = commands; scope = scope; acts = acts; runs = run_and_end eight_answered moves }

-- this run meets all premises of the law of chains: `counting` is an instrument in each of its states, keeps its reply, and a
-- call has the effect `counts` on its state. The run is in the field, its third command is of the first one's chain, and
-- nothing disturbs the instrument. So the first and the third answer were made on executing their requests, and the count at
-- the third command is what the first and the second made of it
pub record IsCountedInField : Type 0 where
  pub instrument : IsAnInstrument counting AnyState kept_by
  pub keeps : KeepsItsReply counting AnyState kept_by all_known
  pub effect : HasEffect counting bare counts
  pub field : IsInField counting AnyState kept_by at_start program
  pub records : program_records program ≡ records_with first_reply second_reply third_reply
  pub chained : AreChained commands 0 2
  pub undisturbed : IsUndisturbed moves
  pub first_made_on : WasMadeOn WINDOW counting stretch.from moves 9 points first_reply
  pub third_made_on : WasMadeOn WINDOW counting stretch.from moves 11 reads_all third_reply
  pub before_first : (stretch_wire counting stretch (until_first moves)).executed ≡ 8 ∷ []
  pub before_third : (stretch_wire counting stretch (until_third moves)).executed ≡ 8 ∷ 9 ∷ 10 ∷ []
  pub count_at_first : (stretch_wire counting stretch (until_first moves)).state.count ≡ 36
  pub count_at_third : (stretch_wire counting stretch (until_third moves)).state.count ≡ 38
