-- A synchronization in the field, this project's own: a client that synchronizes, an instrument, and a line between them that
-- keeps order, loses lines whole, and repeats one directly after it. The client sends null procedures with the ids 6 5 4 3 2 1 0
-- 7, the word, each until it is answered. What is in flight from before may be anything. Connections aren't spoken of, because a
-- close is a loss of lines. A request that is cut arrives whole or is lost, because a line feed arrives after its front. The
-- instrument may start again at any moment.
use Rattle.gc_theorems.specs.Common.{filter_map, AllByRecursion, Table, NullProc, IsSubsequence, the_word, left_by, heard, IDS, KeptReply}
use Rattle.std.specs.Prelude.{◌≡◌, ℕ, ◌<◌, Bool, true, false, List, [], ◌∷◌, ◌++◌, map, Option, None}
use Rattle.gc_theorems.specs.World.{Ends, Request, without, doubled}
use Rattle.gc_theorems.specs.Instrument.{MayBecome}

-- What is in flight.

-- the requests in flight to an instrument, the replies in flight from it, the front of each queue first; and the instrument
pub record UnderWay (State : Type 0) : Type 0 where
  pub up : List Request
  pub down : List (List ℕ)
  pub state : State

-- nothing is in flight to this instrument or from it
abbrev pub none_under_way : {State : Type 0} → State → UnderWay State
none_under_way state = record { up = []; down = []; state = state }

-- the ids in flight, in order: of the replies, then of the requests. The reply that the instrument keeps doesn't count,
-- because it is sent only for a request; nor does a line without an id
abbrev pub ids_under_way : {State : Type 0} → UnderWay State → List ℕ
ids_under_way u = filter_map heard u.down ++ map (λ x. x.id) u.up

-- the word isn't in flight: its ids aren't a subsequence of the ids of the replies and requests in flight
abbrev pub LacksTheWord : {State : Type 0} → UnderWay State → Type 0
LacksTheWord u = IsSubsequence the_word (ids_under_way u) → ⊥

-- what is in flight is well formed: the id of each request is one digit from 0 to 7; and the instrument's state is good (`Good`)
pub record IsWellFormed {State : Type 0} (Good : State → Type 0) (u : UnderWay State) : Type 0 where
  pub ids : AllByRecursion (λ x. x.id < IDS) u.up
  pub good : Good u.state

-- The client that synchronizes.

-- a request or a reply in flight, marked old if the request, or the one that the reply was sent for, is from before this
-- synchronization
pub record InFlight (Line : Type 0) : Type 0 where
  pub old : Bool
  pub line : Line

-- the state of a synchronization in the field: the lines in flight each way, the instrument, and the ids of the word that
-- aren't answered
pub record SyncModel (State : Type 0) : Type 0 where
  pub up : List (InFlight Request)
  pub down : List (InFlight (List ℕ))
  pub state : State
  pub left : List ℕ

-- the state at the start of a synchronization: all that is in flight is old
abbrev pub begins : {State : Type 0} → UnderWay State → SyncModel State
begins u = record { up = map (λ x. record { old = true; line = x }) u.up; down = map (λ x. record { old = true; line = x }) u.down; state = u.state; left = the_word }

-- what a synchronization leaves in flight
abbrev pub leaves : {State : Type 0} → SyncModel State → UnderWay State
leaves s = record { up = map (λ x. x.line) s.up; down = map (λ x. x.line) s.down; state = s.state }

-- one step of a synchronization
pub data SyncTurn (State : Type 0) : Type 0 where
  -- the client's part: the null procedure of the first id that isn't answered is sent, the first time or again, whole or in
  -- part; the front reply comes; a line comes that is no reply with an id
  Asks : SyncTurn State
  Comes : SyncTurn State
  Foreign : (line : List ℕ) → SyncTurn State
  -- the line's part: the front request reaches the instrument, whose reply is sent; a line is lost, or comes twice
  Reaches : SyncTurn State
  Up_lose : (which : ℕ) → SyncTurn State
  Up_repeat : (which : ℕ) → SyncTurn State
  Down_lose : (which : ℕ) → SyncTurn State
  Down_repeat : (which : ℕ) → SyncTurn State
  -- the instrument starts again, whatever is in flight
  Anew : SyncTurn State
  -- the instrument's state changes by itself, to this one
  Changes : (state : State) → SyncTurn State

module _ {State : Type 0} where
  -- the state once the null procedure of the first id that isn't answered was sent; if all are answered, none is sent
  abbrev pub asks : SyncModel State → List ℕ → SyncModel State
  asks s [] = s
  asks s (asked ∷ rest) = record s { up = s.up ++ record { old = false; line = record { id = asked; call = Table NullProc } } ∷ [] }

  -- the state once the front reply came: if it has the first id of the word that isn't answered, it answers that id; otherwise it
  -- is discarded. If no reply is in flight, nothing changes
  abbrev pub comes : SyncModel State → List (InFlight (List ℕ)) → SyncModel State
  comes s [] = s
  comes s (x ∷ rest) = record s { down = rest; left = left_by s.left (heard x.line) }

  -- the state once the front request was handed to the instrument. The reply is sent, marked old if the request was. If no
  -- request is in flight, nothing changes
  abbrev pub reaches : Ends State → SyncModel State → List (InFlight Request) → SyncModel State
  reaches ends s [] = s
  reaches ends s (x ∷ rest) =
      let handed = ends.handed s.state x.line.id x.line.call in
      record s { up = rest; down = s.down ++ record { old = x.old; line = handed.reply } ∷ []; state = handed.state }

  -- what a turn does. A turn that takes a line changes nothing if there is no such line
  abbrev pub turns : Ends State → SyncModel State → SyncTurn State → SyncModel State
  turns ends s Asks = asks s s.left
  turns ends s Comes = comes s s.down
  turns ends s (Foreign line) = record s { left = left_by s.left (heard line) }
  turns ends s Reaches = reaches ends s s.up
  turns ends s (Up_lose k) = record s { up = without k s.up }
  turns ends s (Up_repeat k) = record s { up = doubled k s.up }
  turns ends s (Down_lose k) = record s { down = without k s.down }
  turns ends s (Down_repeat k) = record s { down = doubled k s.down }
  turns ends s Anew = record s { state = ends.restarted s.state }
  turns ends s (Changes state) = record s { state = state }

  -- the state after these turns, in order
  abbrev pub turned : Ends State → List (SyncTurn State) → SyncModel State → SyncModel State
  turned ends [] s = s
  turned ends (t ∷ ts) s = turned ends ts (turns ends s t)

  -- what is in flight after these turns of a synchronization that begins over `u`
  abbrev pub left_by_turns : Ends State → List (SyncTurn State) → UnderWay State → UnderWay State
  left_by_turns ends ts u = leaves (turned ends ts (begins u))

  -- a turn is possible: a foreign line is no reply with an id, but an echo, noise, or what is left of a line that was cut; and
  -- the instrument changes by itself only as `MayBecome` allows
  abbrev pub IsTurn : (State → Type 0) → (State → Option KeptReply) → SyncModel State → SyncTurn State → Type 0
  IsTurn Good kept s (Foreign line) = heard line ≡ None
  IsTurn Good kept s (Changes state) = MayBecome Good kept s.state state
  IsTurn Good kept s _ = Unit {0}

  -- each of these turns is possible when it comes
  abbrev pub AreTurns : Ends State → (State → Type 0) → (State → Option KeptReply) → List (SyncTurn State) → SyncModel State → Type 0
  AreTurns ends Good kept [] s = Unit {0}
  AreTurns ends Good kept (t ∷ ts) s = IsTurn Good kept s t × AreTurns ends Good kept ts (turns ends s t)
