-- The field, this project's own: what happens between a client and an instrument over any number of connections, and what may
-- happen to the lines meanwhile. Between the two is the world's line, which keeps order, loses lines whole and repeats a line
-- directly after it. Connections aren't spoken of, because a close is a loss of lines. The instrument may start again at any
-- moment.
use Rattle.gc_theorems.specs.Common.{Asked, heard, KeptReply, by_ids, ids_open, is_of_table}
use Rattle.std.specs.Prelude.{◌≡◌, ℕ, Bool, true, false, List, [], ◌∷◌, ◌++◌, Option, None}
use Rattle.gc_theorems.specs.World.{Numbered, Request, Wire, Ends, Rule, World, Step, Send, Up_deliver, Up_lose, Up_repeat, Down_deliver, Down_lose, Down_repeat, Expire, Restart_client, Restart_instrument, Nothing, started, on_wire, happens}
use Rattle.gc_theorems.specs.Instrument.{MayBecome}
use Rattle.gc_client.specs.OneForOne as client

-- one step in the field
pub data Move (State : Type 0) : Type 0 where
  -- the client's part: it is handed a request, which it sends, whole or in part, or refuses; a moment is read; a reply comes; a
  -- line comes that is no reply with an id
  Sends : (target : ℕ) (call : Asked) (deadline : ℕ) → Move State
  Tells : (now : ℕ) → Move State
  Comes : (line : List ℕ) → Move State
  Foreign : (line : List ℕ) → Move State
  -- the line's part: a request reaches the instrument, or a line is lost or comes twice
  OnLine : (step : Step) → Move State
  -- the instrument starts again, whatever is in flight
  Anew : Move State
  -- the instrument's state changes by itself, to this one
  Changes : (state : State) → Move State
  -- the line feed that clears the front of a request that was cut is lost: that front and the next request reach the instrument
  -- as one line, and this is its reply
  Joins : (line : List ℕ) → Move State

-- a step of the line alone: the client has no part in it, and nothing starts again
abbrev pub IsLineStep : Step → Type 0
IsLineStep (Send target call deadline) = ⊥
IsLineStep Up_deliver = Unit {0}
IsLineStep (Up_lose k) = Unit {0}
IsLineStep (Up_repeat k) = Unit {0}
IsLineStep Down_deliver = ⊥
IsLineStep (Down_lose k) = Unit {0}
IsLineStep (Down_repeat k) = Unit {0}
IsLineStep (Expire now) = ⊥
IsLineStep Restart_client = ⊥
IsLineStep Restart_instrument = ⊥
IsLineStep Nothing = Unit {0}

-- the wire once the first two of these requests, which are in flight to the instrument, reached it as one line, with this reply:
-- the reply counts as that to the first of them. Nothing counts as executed, and the instrument's state stays. If
-- fewer than two are in flight, nothing happens
abbrev pub wire_joined : {State : Type 0} → Wire State → List (Numbered Request) → List ℕ → Wire State
wire_joined w (x ∷ y ∷ rest) line =
    let reply : Numbered (List ℕ) = record { number = x.number; line = line } in
    record w { up = rest; made = w.made ++ reply ∷ []; down = w.down ++ reply ∷ [] }
wire_joined w _ line = w

module _ {Client State : Type 0} where
  -- what a move does to the world
  abbrev pub moves : Ends State → Rule Client → World Client State → Move State → World Client State
  moves ends rule w (Sends target call deadline) = happens ends rule w (Send target call deadline)
  moves ends rule w (Tells now) = happens ends rule w (Expire now)
  moves ends rule w (Comes line) = happens ends rule w Down_deliver
  moves ends rule w (Foreign line) = w
  moves ends rule w (OnLine step) = happens ends rule w step
  moves ends rule w Anew = on_wire w (started ends w.wire true)
  moves ends rule w (Changes state) = on_wire w (record w.wire { state = state })
  moves ends rule w (Joins line) = on_wire w (wire_joined w.wire w.wire.up line)

  -- the world after these moves, in order
  abbrev pub moved : Ends State → Rule Client → List (Move State) → World Client State → World Client State
  moved ends rule [] w = w
  moved ends rule (m ∷ ms) w = moved ends rule ms (moves ends rule w m)

  -- a move is possible in a world. What comes is the whole reply at the front of those in flight, or no reply with an id: an
  -- echo, noise, or what is left of a line that was cut. What the line does is a step of the line alone (`IsLineStep`), and the
  -- instrument changes by itself only as `MayBecome` allows
  abbrev pub IsPossible : (State → Type 0) → (State → Option KeptReply) → World Client State → Move State → Type 0
  IsPossible Good kept w (Sends target call deadline) = Unit {0}
  IsPossible Good kept w (Tells now) = Unit {0}
  IsPossible Good kept w (Comes line) = (n : ℕ) × (rest : List (Numbered (List ℕ))) × (w.wire.down ≡ record { number = n; line = line } ∷ rest)
  IsPossible Good kept w (Foreign line) = heard line ≡ None
  IsPossible Good kept w (OnLine step) = IsLineStep step
  IsPossible Good kept w Anew = Unit {0}
  IsPossible Good kept w (Changes state) = MayBecome Good kept w.wire.state state
  -- never, because a line feed arrives after the front of a request, before the next request does
  IsPossible Good kept w (Joins line) = ⊥

  -- each of these moves is possible in the world that the moves before it make
  abbrev pub ArePossible : Ends State → (State → Type 0) → (State → Option KeptReply) → Rule Client → List (Move State) → World Client State → Type 0
  ArePossible ends Good kept rule [] w = Unit {0}
  ArePossible ends Good kept rule (m ∷ ms) w = IsPossible Good kept w m × ArePossible ends Good kept rule ms (moves ends rule w m)

-- the client's steps among these moves; it doesn't see those of the line
abbrev pub seen : {State : Type 0} → List (Move State) → List (client.Step Asked)
seen [] = []
seen (Sends target call deadline ∷ ms) = client.Send target call deadline ∷ seen ms
seen (Tells now ∷ ms) = client.Expire now ∷ seen ms
seen (Comes line ∷ ms) = client.Hear line ∷ seen ms
seen (Foreign line ∷ ms) = client.Hear line ∷ seen ms
seen (OnLine step ∷ ms) = seen ms
seen (Anew ∷ ms) = seen ms
seen (Changes state ∷ ms) = seen ms
seen (Joins line ∷ ms) = seen ms

-- the client is handed at most one request before the first reply comes among these moves: none if it was handed the first
-- request before these moves (`out`)
abbrev pub IsFirstAlone : {State : Type 0} → Bool → List (Move State) → Type 0
IsFirstAlone out [] = Unit {0}
IsFirstAlone out (Sends target call deadline ∷ ms) = (out ≡ false) × IsFirstAlone true ms
IsFirstAlone out (Comes line ∷ ms) = Unit {0}
IsFirstAlone out (_ ∷ ms) = IsFirstAlone out ms

-- each request that the client is handed, also one that it refuses, is one that `knows` names
abbrev pub AsksOnly : {State : Type 0} → (Asked → Bool) → List (Move State) → Type 0
AsksOnly knows [] = Unit {0}
AsksOnly knows (Sends target call deadline ∷ ms) = (knows call ≡ true) × AsksOnly knows ms
AsksOnly knows (_ ∷ ms) = AsksOnly knows ms

-- each request that the client is handed, also one that it refuses, is a call of the table
abbrev pub AsksTheTable : {State : Type 0} → List (Move State) → Type 0
AsksTheTable ms = AsksOnly is_of_table ms

-- from a new client on, with a window of this width, and with nothing in flight, these moves are possible, whatever reply the
-- instrument keeps; the requests are calls of the table (`AsksTheTable`); and the first one is sent alone (`IsFirstAlone`)
pub record AreMovesInField {State : Type 0} (width : ℕ) (ends : Ends State) (Good : State → Type 0) (kept : State → Option KeptReply) (state : State) (ms : List (Move State)) : Type 0 where
  pub possible : ArePossible ends Good kept (by_ids width ends) ms (ids_open state)
  pub table : AsksTheTable ms
  pub alone : IsFirstAlone false ms
