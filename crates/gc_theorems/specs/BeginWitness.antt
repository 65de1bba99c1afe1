-- Some runs meet the premises of the law on runs one after the other, and the premise on the word is needed: this project's own.
use Rattle.gc_theorems.specs.Common.{Table, InstrumentNo, WINDOW, Answered, State, IsFittingState, simulator_opening}
use Rattle.std.specs.Prelude.{◌≡◌, List, [], ◌∷◌, ◌++◌, codes}
use Rattle.gc_theorems.specs.Simulator.{simulator_ends}
use Rattle.gc_theorems.specs.World.{Up_deliver}
use Rattle.gc_theorems.specs.Begin.{IsWellFormed, SyncTurn, Asks, Comes, Reaches, Up_lose, Up_repeat, Anew, UnderWay, begins, left_by_turns, turned}
use Rattle.gc_theorems.specs.Beginnings.{AreFewKilled, AreRuns, HasRisingIds, Run, left_by_run}
use Rattle.gc_theorems.specs.Begun.{WasMadeOn, world_once_begun, nulls_settled, ArePossibleOnceBegun}
use Rattle.gc_theorems.specs.Field.{Move, Sends, OnLine}
use Rattle.gc_theorems.specs.Laws.{kept_of}
use Rattle.gc_theorems.specs.Witness.{replies}
use Rattle.gc_theorems.specs.Field as field

-- Some runs.

-- in flight before the runs: a reply with id 6, and after it two requests, with ids 7 and 0
abbrev pub at_start : UnderWay State
at_start =
    record {
      up = record { id = 7; call = Table InstrumentNo } ∷ record { id = 0; call = Table InstrumentNo } ∷ [];
      down = codes "%R1P,0,6:0,654321" ∷ [];
      state = simulator_opening;
    }

-- a run that gets no answer: its null procedure is lost, and it is killed. It leaves in flight what was in flight before it
abbrev pub unanswered_run : Run State
unanswered_run = record { turns = Asks ∷ Up_lose 2 ∷ []; moves = [] }

-- the run after five of these: it begins, hears the old reply as the answer to its first null procedure, and is killed once its
-- second null procedure is sent
abbrev pub killed_run : Run State
killed_run = record { turns = Asks ∷ Comes ∷ Asks ∷ []; moves = [] }

-- what happens while the last run synchronizes: the two old requests are answered, and both replies discarded; null procedures
-- 6 and 5 are answered by the replies to those of the killed run, and the six others by their own replies. Meanwhile the
-- instrument starts again, the request of null procedure 0 is lost and is sent again, and the line repeats that of null procedure
-- 7
abbrev pub next_turns : List (SyncTurn State)
next_turns =
    Asks ∷ Reaches ∷ Reaches ∷ Reaches ∷ Comes ∷ Comes ∷ Comes ∷ Asks ∷ Reaches ∷ Comes
    ∷ Asks ∷ Reaches ∷ Reaches ∷ Reaches ∷ Comes ∷ Comes ∷ Comes
    ∷ Asks ∷ Reaches ∷ Comes ∷ Asks ∷ Anew ∷ Reaches ∷ Comes ∷ Asks ∷ Reaches ∷ Comes
    ∷ Asks ∷ Up_lose 0 ∷ Asks ∷ Reaches ∷ Comes ∷ Asks ∷ Up_repeat 0 ∷ Reaches ∷ Comes ∷ []

-- what happens once it has synchronized: two commands are sent at once; then a second reply to null procedure 7 comes, and the
-- replies to both commands
abbrev pub next_moves : List (Move State)
next_moves =
    Sends 7 (Table InstrumentNo) 100
    ∷ Sends 8 (Table InstrumentNo) 100
    ∷ OnLine Up_deliver
    ∷ OnLine Up_deliver
    ∷ OnLine Up_deliver
    ∷ field.Comes (codes "%R1P,0,7:0")
    ∷ field.Comes (codes "%R1P,0,0:0,123456")
    ∷ field.Comes (codes "%R1P,0,1:0,123456")
    ∷ []

-- the last run, which synchronizes
abbrev pub next_run : Run State
next_run = record { turns = next_turns; moves = next_moves }

-- the runs: six in a row are killed while they synchronize, but five of these don't count
abbrev pub the_runs : List (Run State)
the_runs = unanswered_run ∷ unanswered_run ∷ unanswered_run ∷ unanswered_run ∷ unanswered_run ∷ killed_run ∷ next_run ∷ []

-- what is in flight once the last run has synchronized. The killed run began over `at_start`, which the five before it left as it was
abbrev pub from : UnderWay State
from = left_by_turns simulator_ends next_turns (left_by_run WINDOW simulator_ends at_start killed_run)

-- these runs meet the premises of `simulators_runs_are_their_own`; both commands of the last are answered, and the first
-- answer was made on executing its request
pub record AreSomeRuns : Type 0 where
  pub lines : IsWellFormed IsFittingState at_start
  pub rising : HasRisingIds at_start
  pub runs : AreRuns WINDOW simulator_ends IsFittingState kept_of at_start the_runs
  pub few : AreFewKilled WINDOW simulator_ends 0 at_start the_runs
  pub settled :
      (world_once_begun WINDOW simulator_ends from next_moves).wire.settled
      ≡ nulls_settled ++ record { target = 7; call = Table InstrumentNo; outcome = Answered (codes "%R1P,0,0:0,123456") }
      ∷ record { target = 8; call = Table InstrumentNo; outcome = Answered (codes "%R1P,0,1:0,123456") } ∷ []
  pub made_on : WasMadeOn WINDOW simulator_ends from next_moves 8 (Table InstrumentNo) (codes "%R1P,0,0:0,123456")

-- The word: the ids of the eight null procedures of a synchronization, in order: 6 down to 0, and then 7.

-- in flight are nine replies: eight with the ids of the word, and one with id 0 after them
abbrev pub with_the_word : UnderWay State
with_the_word =
    record {
      up = [];
      down = replies ++ codes "%R1P,0,0:0,654321" ∷ [];
      state = simulator_opening;
    }

-- the turns of a synchronization that sends nothing, and hears the first eight replies
abbrev pub eight_come : List (SyncTurn State)
eight_come = Comes ∷ Comes ∷ Comes ∷ Comes ∷ Comes ∷ Comes ∷ Comes ∷ Comes ∷ []

-- what that synchronization leaves in flight: the ninth reply
abbrev pub left_by_eight : UnderWay State
left_by_eight = left_by_turns simulator_ends eight_come with_the_word

-- the moves after that synchronization: the first command is sent, and the ninth reply comes
abbrev pub moves_after : List (Move State)
moves_after = Sends 7 (Table InstrumentNo) 100 ∷ field.Comes (codes "%R1P,0,0:0,654321") ∷ []

-- the first eight replies answer the whole word; the moves after that are possible; and the ninth reply is booked for the first
-- command, though nothing was executed
pub record IsBookedFromBefore : Type 0 where
  pub begun : (turned simulator_ends eight_come (begins with_the_word)).left ≡ []
  pub possible : ArePossibleOnceBegun WINDOW simulator_ends left_by_eight IsFittingState kept_of moves_after
  pub settled :
      (world_once_begun WINDOW simulator_ends left_by_eight moves_after).wire.settled
      ≡ nulls_settled ++ record { target = 7; call = Table InstrumentNo; outcome = Answered (codes "%R1P,0,0:0,654321") } ∷ []
  pub executed : (world_once_begun WINDOW simulator_ends left_by_eight moves_after).wire.executed ≡ []
