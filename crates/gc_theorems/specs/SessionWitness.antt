-- Some calls on a session meet all premises of `EachSessionIsOwn`, this project's own. An old reply is in flight, with the id that the
-- caller's first request has. It is discarded, the eight null procedures are answered, and then the session's own one; the caller's two
-- requests are sent at once, and both are answered. Over the instrument that counts the second one is for a procedure that isn't in the
-- table, whichever it is. Then the caller has the session begin anew.
use Rattle.gc_theorems.specs.Common.{Asked, Table, Raw, RawCall, InstrumentNo, NullProc, Answered, WINDOW, KeptReply, IsFittingState, simulator_opening, Call, Steps, Opens, Restarts, settled_all, ClientEvent, Null, Came, Stepped, OWN, Settings}
use Rattle.std.specs.Prelude.{◌≡◌, ℕ, List, [], ◌∷◌, codes, drop, Option, None}
use Rattle.gc_session.specs.Prelude.{Asks, Hears, opening}
use Rattle.gc_session.specs.declared.settings.Want.TheVariants.{Send}
use Rattle.gc_theorems.specs.Simulator.{simulator_ends}
use Rattle.gc_theorems.specs.World.{Ends, Up_deliver}
use Rattle.gc_theorems.specs.Begin.{IsWellFormed, LacksTheWord, SyncTurn, UnderWay, begins, leaves, turned}
use Rattle.gc_theorems.specs.Beginnings.{Run}
use Rattle.gc_theorems.specs.Begun.{WasMadeOn}
use Rattle.gc_theorems.specs.CountingChain.{counting, kept_by}
use Rattle.gc_theorems.specs.Field.{Move, Sends, Tells, Comes, OnLine}
use Rattle.gc_theorems.specs.Instrument.{IsAnInstrument, AnyState}
use Rattle.gc_theorems.specs.Laws.{kept_of}
use Rattle.gc_theorems.specs.Sessions.{IsSessionOver, SessionRun}
use Rattle.gc_theorems.specs.Witness.{eight_answered, null_reply, replies}
use Rattle.gc_client.specs.OneForOne as one
use Rattle.gc_theorems.specs.Begin as turn
use Rattle.gc_theorems.specs.CountingChain as chain

-- seven requests at most, a timeout of 100 ms, and a quiet time of 10 ms
abbrev pub settings : Settings
settings = record { width = 7; timeout = 100; quiet = 10 }

-- an old reply, from before the session synchronizes, with the id that the caller's first request has
abbrev pub old_reply : List ℕ
old_reply = codes "%R1P,0,1:0,654321"

-- the old reply is in flight, and nothing else
abbrev pub old_reply_alone : {State : Type 0} → State → UnderWay State
old_reply_alone state = record { up = []; down = old_reply ∷ []; state = state }

-- what the calls have of each instrument: the replies to the null procedures of the synchronization, and to the session's own; what the
-- second request asks for; and the replies to both requests
pub record Exchange : Type 0 where
  pub nulls : List (List ℕ)
  pub null : List ℕ
  pub asked : Asked
  pub one : List ℕ
  pub other : List ℕ

-- these lines are heard, and before each but the first a null procedure is asked for; then the calls `later`
abbrev pub heard_in_turn : List (List ℕ) → List Call → List Call
heard_in_turn [] later = later
heard_in_turn (reply ∷ []) later = Hears reply ∷ later
heard_in_turn (reply ∷ next ∷ replies) later = Hears reply ∷ Steps Send 0 ∷ heard_in_turn (next ∷ replies) later

-- the calls: a connection is made and cleared; the first null procedure is asked for, the old reply comes, and then each reply to a null
-- procedure; the session's own null procedure is answered; the caller's two requests, and the replies to both; and the session begins anew
abbrev pub calls : Exchange → List Call
calls x =
    Opens 0
    ∷ Steps Send 0
    ∷ Steps Send 0
    ∷ Hears old_reply
    ∷ heard_in_turn x.nulls
    (Steps Send 0
    ∷ Hears x.null
    ∷ Asks 7 (Table InstrumentNo) 9
    ∷ Asks 8 x.asked 9
    ∷ Hears x.one
    ∷ Hears x.other
    ∷ Restarts
    ∷ Steps Send 0
    ∷ Steps Send 0
    ∷ [])

-- the events of these calls: the null procedures of the synchronization and the lines that come meanwhile, then the steps of the client, and
-- after the restart the first null procedure again
abbrev pub heard_events : List (List ℕ) → List ClientEvent → List ClientEvent
heard_events [] later = later
heard_events (reply ∷ []) later = Came reply ∷ later
heard_events (reply ∷ next ∷ replies) later = Came reply ∷ Null ∷ heard_events (next ∷ replies) later

abbrev pub events : Exchange → List ClientEvent
events x =
    Null
    ∷ Came old_reply
    ∷ heard_events x.nulls
    (Stepped (one.Expire 0)
    ∷ Stepped (one.Send OWN (Table NullProc) 100)
    ∷ Stepped (one.Hear x.null)
    ∷ Stepped (one.Send 7 (Table InstrumentNo) 9)
    ∷ Stepped (one.Send 8 x.asked 9)
    ∷ Stepped (one.Hear x.one)
    ∷ Stepped (one.Hear x.other)
    ∷ Stepped one.Restart
    ∷ Null
    ∷ [])

-- the first null procedure is asked for, and the old reply comes; each null procedure reaches the instrument, and its reply comes
abbrev pub beginning : {State : Type 0} → List (SyncTurn State)
beginning = turn.Asks ∷ turn.Comes ∷ drop 1 eight_answered

-- the moves of the field for these calls: each request reaches the instrument, and its reply comes
abbrev pub moves : {State : Type 0} → Exchange → List (Move State)
moves x =
    Tells 0 ∷ Sends OWN (Table NullProc) 100 ∷ OnLine Up_deliver ∷ Comes x.null ∷ Sends 7 (Table InstrumentNo) 9 ∷ Sends 8 x.asked 9 ∷ OnLine Up_deliver ∷ OnLine Up_deliver
    ∷ Comes x.one ∷ Comes x.other ∷ []

-- the runs of the field for these calls: one with these moves, and after the restart one that has only asked
abbrev pub runs : {State : Type 0} → Exchange → List (Run State)
runs x = record { turns = beginning; moves = moves x } ∷ record { turns = turn.Asks ∷ []; moves = [] } ∷ []

-- the session with its runs
abbrev pub session : {State : Type 0} → Exchange → SessionRun State
session x = record { settings = settings; calls = calls x; runs = runs x }

module _ {State : Type 0} (ends : Ends State) (Good : State → Type 0) (kept : State → Option KeptReply) where
  -- all premises of `EachSessionIsOwn` hold at once of the calls of this exchange, from this state of the instrument on, and the instrument
  -- is as `SessionsAnswersAreTheirOwn` asks besides; all three requests are answered, and the answers to the caller's were made on executing
  -- them
  pub record IsSessionInField (state : State) (x : Exchange) : Type 0 where
    pub instrument : IsAnInstrument ends Good kept
    pub lines : IsWellFormed Good (old_reply_alone state)
    pub may : LacksTheWord (old_reply_alone state)
    pub over : IsSessionOver ends Good kept (old_reply_alone state) (session x)
    pub settlements :
        settled_all (calls x) (opening settings)
        ≡ record { target = OWN; call = Table NullProc; outcome = Answered x.null }
        ∷ record { target = 7; call = Table InstrumentNo; outcome = Answered x.one }
        ∷ record { target = 8; call = x.asked; outcome = Answered x.other }
        ∷ []
    pub first_made_on : WasMadeOn WINDOW ends (leaves (turned ends beginning (begins (old_reply_alone state)))) (moves x) 9 (Table InstrumentNo) x.one
    pub second_made_on : WasMadeOn WINDOW ends (leaves (turned ends beginning (begins (old_reply_alone state)))) (moves x) 10 x.asked x.other

-- the exchange with the instrument that counts: the second request is for a procedure that isn't in the table
abbrev pub counting_exchange : RawCall → Exchange
counting_exchange raw = record {
  nulls = chain.null_replies;
  null = chain.null_reply;
  asked = Raw raw;
  one = codes "%R1P,0,1:0,37";
  other = codes "%R1P,0,2:0,38";
}

-- the exchange with the simulator: the second request is for a call of the table
abbrev pub simulator_exchange : Exchange
simulator_exchange = record {
  nulls = replies;
  null = null_reply;
  asked = Table InstrumentNo;
  one = codes "%R1P,0,1:0,123456";
  other = codes "%R1P,0,2:0,123456";
}

-- there are such calls over the instrument that counts, with any procedure that isn't in the table, and over the simulator as it is at the
-- start
pub record SomeSessionIsInField : Type 0 where
  pub any : (raw : RawCall) → IsSessionInField counting AnyState kept_by (record { count = 27; keeps = None }) (counting_exchange raw)
  pub simulator : IsSessionInField simulator_ends IsFittingState kept_of simulator_opening simulator_exchange
