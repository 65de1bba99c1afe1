-- The world, this project's own: a client and an instrument, the line between them, what may happen on it, and a run. A client of
-- this world asks for calls of the table and for procedures that aren't in it.
use Rattle.gc_theorems.specs.Common.{asked_line, Asked, Sending, heard, Handed}
use Rattle.std.specs.Prelude.{ℕ, true, List, Option, Some}
use Rattle.gc_world.specs.Worlds
pub use Rattle.gc_world.specs.Worlds.{Numbered, Send, Up_deliver, Up_lose, Up_repeat, Down_deliver, Down_lose, Down_repeat, Expire, Restart_client, Restart_instrument, Nothing, opened, without, doubled, idle, replied, up_delivered, with_up, with_down, started, instrument_restarted, on_wire, with_settled, down_delivered, client_restarted}

-- The line.

-- a request that was sent, for a call of the table or a procedure that isn't in it
abbrev pub Sent : Type 0
Sent = Worlds.Sent Asked

-- such a request in flight: its line is the request line of its id and its call
abbrev pub Request : Type 0
Request = Worlds.Request Asked

-- all of a world but its client, for such requests
abbrev pub Wire : Type 0 → Type 0
Wire State = Worlds.Wire Asked State

-- such a wire with its client
abbrev pub World : (Client State : Type 0) → Type 0
World Client State = Worlds.World Asked Client State

-- Its two ends.

-- the two ends: what an instrument does, and what id a client reads in a line
abbrev pub Ends : Type 0 → Type 0
Ends State = Worlds.Ends Asked State

-- the two ends: an instrument that does this with a request, and this at a start, and a client that reads replies by their
-- grammar
abbrev pub ends_of : {State : Type 0} → (handed : State → ℕ → Asked → Handed State) → (restarted : State → State) → Ends State
ends_of handed restarted = record { handed = handed; restarted = restarted; heard = heard; joint = true }

-- a client's rule: what each event does to it
abbrev pub Rule : Type 0 → Type 0
Rule Client = Worlds.Rule Asked Client

-- the line that a client writes for what it asks, with this id
abbrev pub written : ℕ → Asked → List ℕ
written id call = asked_line (Some id) call

-- What may happen.

-- a step of the world
abbrev pub Step : Type 0
Step = Worlds.Step Asked

module _ {Client State : Type 0} where
  -- the world after a call of the client's send, by what its rule gave (`sending`): the request is sent, and goes to the back of
  -- the upward queue; or, if the client refused it (None), a refusal is counted
  abbrev pub requested : World Client State → ℕ → Asked → Option (Sending Client) → World Client State
  requested w target call sending = Worlds.requested written w target call sending

  -- the world after one step
  abbrev pub happens : Ends State → Rule Client → World Client State → Step → World Client State
  happens ends rule w step = Worlds.happens written ends rule w step

  -- the world after all steps of a list, in order
  abbrev pub run : Ends State → Rule Client → List Step → World Client State → World Client State
  run ends rule steps w = Worlds.run written ends rule steps w
