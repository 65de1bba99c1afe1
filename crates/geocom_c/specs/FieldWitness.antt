-- Some calls meet all premises of `EachAnswerIsOwn`, this project's own. An old reply is in flight, with the id that the first
-- command has. It is discarded, the eight null procedures are answered, two commands are sent at once, and a moment passes;
-- both are answered. Over the instrument that counts the second command is for a procedure that isn't in the table, whichever
-- it is. Then the client restarts, and resynchronizes.
use Rattle.geocom_c.specs.Common.{AllByRecursion, with_end, raw_params, Asked, Table, Raw, RawCall, the_word, begun, course, IsWidth, Answered, WINDOW, KeptReply, IsFittingState, simulator_opening, ClientEvent, steps_among, simulator_ends, Ends, Up_deliver, IsWellFormed, LacksTheWord, SyncTurn, UnderWay, begins, leaves, turned, Run, WasMadeOn, ArePossibleRuns, events_over, placed_runs, counting, kept_by, Move, Sends, Tells, OnLine, IsAnInstrument, AnyState, kept_of, IsSafeRun, eight_answered, replies}
use Rattle.std.specs.Prelude.{◌≡◌, ℕ, List, [], ◌∷◌, ◌++◌, codes, drop, Option, None}
use Rattle.std.specs.Borrow.{Bor}
use Rattle.gc_catalogue.specs.declared.call.Call.TheVariants.{InstrumentNo}
use Rattle.gc_theorems.specs.Prelude.{Asks, Comes}
use Rattle.geocom_c.specs.Following.{CallsReach, CallStage, first_stage}
use Rattle.geocom_c.specs.Steps.{AreEvents}
use Rattle.geocom_c.specs.declared.following.StateCall.{StateCall}
use Rattle.geocom_c.specs.declared.following.StateCall.TheVariants.{Send, SendRaw, Begin, Feed, Expire, Restart}
use Rattle.gc_theorems.specs.CountingChain as chain
use Rattle.gc_theorems.specs.Field as field

-- an old reply, from before the client synchronizes, with the id that the first command has
abbrev pub old_reply : List ℕ
old_reply = codes "%R1P,0,0:0,654321"

-- the old reply is in flight, and nothing else
abbrev pub old_reply_alone : {State : Type 0} → State → UnderWay State
old_reply_alone state = record { up = []; down = old_reply ∷ []; state = state }

-- bytes as they are passed to a call; their address is (0, 0), as it doesn't matter
abbrev pub passed_bytes : List ℕ → Bor (List ℕ)
passed_bytes bytes = record { ref_ptr = (0, 0); now = bytes }

-- the calls by which each of these lines is handed to the synchronization, as a reply to a null procedure; and then the calls
-- `later`
abbrev pub begin_calls : List (List ℕ) → List StateCall → List StateCall
begin_calls [] later = later
begin_calls (reply ∷ replies) later = Begin (passed_bytes (with_end reply)) ∷ begin_calls replies later

-- what the calls have of each instrument: the replies to the null procedures; the call that sends the second command, and what
-- that asks for; and the replies to the first command and to the other
pub record Exchange : Type 0 where
  pub nulls : List (List ℕ)
  pub second : StateCall
  pub asked : Asked
  pub one : List ℕ
  pub other : List ℕ

-- the calls: a first one of the synchronization without bytes, then one with the old reply and one with each reply to a null
-- procedure; the two commands; a moment; the replies to both; a restart; and a resynchronization
abbrev pub calls : Exchange → List StateCall
calls x =
    Begin (passed_bytes [])
    ∷ begin_calls (old_reply ∷ x.nulls)
    (Send 7 9 5003 (passed_bytes [])
    ∷ x.second
    ∷ Expire 5
    ∷ Feed (passed_bytes (with_end x.one ++ with_end x.other))
    ∷ Restart
    ∷ Begin (passed_bytes [])
    ∷ [])

-- the first null procedure is asked for, and the old reply comes; each null procedure reaches the instrument, and its reply comes
abbrev pub beginning : {State : Type 0} → List (SyncTurn State)
beginning = Asks ∷ Comes ∷ drop 1 eight_answered

-- the moves of the field for these calls: each command reaches the instrument, and its reply comes
abbrev pub moves : {State : Type 0} → Exchange → List (Move State)
moves x = Sends 7 (Table InstrumentNo) 9 ∷ Sends 8 x.asked 9 ∷ Tells 5 ∷ OnLine Up_deliver ∷ OnLine Up_deliver ∷ field.Comes x.one ∷ field.Comes x.other ∷ []

-- the runs of the field for these calls: one with these moves, and after the restart one that has only asked
abbrev pub runs : {State : Type 0} → Exchange → List (Run State)
runs x = record { turns = beginning; moves = moves x } ∷ record { turns = Asks ∷ []; moves = [] } ∷ []

-- the events that these runs are to the library, from this state of the instrument on
abbrev pub run_events : {State : Type 0} → Ends State → State → Exchange → List ClientEvent
run_events ends state x = events_over WINDOW ends (old_reply_alone state) (runs x)

-- the stage that the calls come to
abbrev pub end_stage : {State : Type 0} → Ends State → State → Exchange → CallStage
end_stage ends state x = record { reached = course WINDOW begun (steps_among (run_events ends state x)); rest = []; left = the_word }

module _ {State : Type 0} (ends : Ends State) (Good : State → Type 0) (kept : State → Option KeptReply) where
  -- all premises of `EachAnswerIsOwn` hold at once of the calls of this exchange, from this state of the instrument on, and the
  -- instrument is as `AnswersAreTheirOwn` asks besides; both commands are answered, and the first answer was made on executing
  -- its request
  pub record AreInField (state : State) (x : Exchange) : Type 0 where
    pub instrument : IsAnInstrument ends Good kept
    pub width : IsWidth WINDOW
    pub follows : CallsReach WINDOW first_stage (calls x) (end_stage ends state x)
    pub lines : IsWellFormed Good (old_reply_alone state)
    pub may : LacksTheWord (old_reply_alone state)
    pub are : AreEvents the_word [] (calls x) (run_events ends state x)
    pub possible : ArePossibleRuns WINDOW ends Good kept (old_reply_alone state) (runs x)
    pub safe : AllByRecursion (IsSafeRun WINDOW ends Good kept) (placed_runs WINDOW ends (old_reply_alone state) (runs x))
    pub settlements :
        (end_stage ends state x).reached.settlements
        ≡ record { target = 7; call = Table InstrumentNo; outcome = Answered x.one } ∷ record { target = 8; call = x.asked; outcome = Answered x.other } ∷ []
    pub made_on : WasMadeOn WINDOW ends (leaves (turned ends beginning (begins (old_reply_alone state)))) (moves x) 8 (Table InstrumentNo) x.one

-- the exchange with the instrument that counts: the second command is for a procedure that isn't in the table
abbrev pub counting_exchange : RawCall → Exchange
counting_exchange raw = record {
  nulls = chain.null_replies;
  second = SendRaw 8 9 raw.rpc (passed_bytes (raw_params raw));
  asked = Raw raw;
  one = codes "%R1P,0,0:0,36";
  other = codes "%R1P,0,1:0,37";
}

-- the exchange with the simulator: the second command is one of the table
abbrev pub simulator_exchange : Exchange
simulator_exchange = record {
  nulls = replies;
  second = Send 8 9 5003 (passed_bytes []);
  asked = Table InstrumentNo;
  one = codes "%R1P,0,0:0,123456";
  other = codes "%R1P,0,1:0,123456";
}

-- there are such calls over the instrument that counts, with any procedure that isn't in the table, and over the simulator as it
-- is at the start
pub record SomeCallsAreInField : Type 0 where
  pub any : (raw : RawCall) → AreInField counting AnyState kept_by (record { count = 27; keeps = None }) (counting_exchange raw)
  pub simulator : AreInField simulator_ends IsFittingState kept_of simulator_opening simulator_exchange
