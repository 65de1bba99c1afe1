-- The world, this project's own: a client and an instrument, the line between them, what may happen on it, and a run. A client of
-- this world asks for calls of the table.
use Rattle.gc_world.specs.Common.{Call, request_line, Sending}
use Rattle.std.specs.Prelude.{ℕ, List, Option, Some}
use Rattle.gc_world.specs.Worlds
pub use Rattle.gc_world.specs.Worlds.{Numbered, Send, Up_deliver, Up_lose, Up_repeat, Down_deliver, Down_lose, Down_repeat, Expire, Restart_client, Restart_instrument, Nothing, opened, without, doubled, idle, replied, up_delivered, with_up, with_down, started, instrument_restarted, on_wire, with_settled, down_delivered, client_restarted}

-- The line.

-- a request that was sent, for a call of the table
abbrev pub Sent : Type 0
Sent = Worlds.Sent Call

-- a request in flight, for a call of the table: its line is the request line of its id and its call
abbrev pub Request : Type 0
Request = Worlds.Request Call

-- all of a world but its client, for calls of the table
abbrev pub Wire : Type 0 → Type 0
Wire State = Worlds.Wire Call State

-- such a wire with its client
abbrev pub World : Type 0 → Type 0 → Type 0
World Client State = Worlds.World Call Client State

-- Its two ends.

-- the two ends: what an instrument does, and what id a client reads in a line
abbrev pub Ends : Type 0 → Type 0
Ends State = Worlds.Ends Call State

-- a client's rule: what each event does to it
abbrev pub Rule : Type 0 → Type 0
Rule Client = Worlds.Rule Call Client

-- the line that a client writes for a call with this id
abbrev pub call_line : ℕ → Call → List ℕ
call_line id call = request_line (Some id) call

-- the line of a request in flight, without CR LF
abbrev pub bytes_of : Request → List ℕ
bytes_of r = call_line r.id r.call

-- What may happen.

-- a step of the world
abbrev pub Step : Type 0
Step = Worlds.Step Call

module _ {Client State : Type 0} where
  -- the world after the client was asked to send, by what came of that (the last argument): the request is sent, and goes to
  -- the back of the upward queue; or, where there is none (`None`), a refusal is counted
  abbrev pub requested : World Client State → ℕ → Call → Option (Sending Client) → World Client State
  requested w target call sending = Worlds.requested call_line w target call sending

  -- the world after one step
  abbrev pub happens : Ends State → Rule Client → World Client State → Step → World Client State
  happens ends rule w step = Worlds.happens call_line ends rule w step

  -- the world after all steps of a list, in order
  abbrev pub run : Ends State → Rule Client → List Step → World Client State → World Client State
  run ends rule steps w = Worlds.run call_line ends rule steps w
