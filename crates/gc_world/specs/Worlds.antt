-- The world of a client that may ask for anything of one type, this project's own: a client and an instrument, the line between
-- them, what may happen on it, and a run. Q is the type of what is asked for; `World.antt` has the world in which it is a call of
-- the table. `written` is the line that the client writes with an id for what it asks for.
use Rattle.gc_world.specs.Common.{Wanted, Settlement, Settled, Sending, Handed}
use Rattle.std.specs.Prelude.{ℕ, zero, suc, ◌+◌, Bool, true, false, List, [], ◌∷◌, ◌++◌, length, Option, Some, None, if◌then◌else◌, nat_lt}

-- The line.

-- a request that was sent: its target, what it asks for, and the line that its client wrote; its number is its place in the list
-- of these
pub record Sent (Q : Type 0) : Type 0 where
  pub target : ℕ
  pub call : Q
  pub line : List ℕ

-- whom a request that was sent was for, and what it asks for
abbrev pub of_sent : {Q : Type 0} → Sent Q → Wanted Q
of_sent r = record { target = r.target; call = r.call }

-- a request in flight: its line is the one that a client writes with this id for what it asks for
pub record Request (Q : Type 0) : Type 0 where
  pub id : ℕ
  pub call : Q

-- a line with the number of the request that it belongs to
pub record Numbered (Line : Type 0) : Type 0 where
  pub number : ℕ
  pub line : Line

-- all of the world but its client: the line, the instrument's state, and the lists and counts of what has happened
pub record Wire (Q State : Type 0) : Type 0 where
  -- the requests that were sent
  pub sent : List (Sent Q)
  -- the numbers of the requests that the instrument executed
  pub executed : List ℕ
  -- the replies that the instrument made, each with the number of its request
  pub made : List (Numbered (List ℕ))
  -- what the client settled
  pub settled : List (Settlement Q)
  -- how many requests had been executed at each restart of the instrument; a restart before the first event isn't among these
  pub starts : List ℕ
  -- the requests in flight to the instrument, and the replies in flight to the client, the front of each queue first
  pub up : List (Numbered (Request Q))
  pub down : List (Numbered (List ℕ))
  pub state : State
  -- how many sends were refused, and how many events were not possible
  pub refused : ℕ
  pub idle : ℕ

-- a wire with its client
pub record World (Q Client State : Type 0) : Type 0 where
  pub wire : Wire Q State
  pub client : Client

-- a wire on which nothing has happened
abbrev pub opened : {Q State : Type 0} → State → Wire Q State
opened state = record { sent = []; executed = []; made = []; settled = []; starts = []; up = []; down = []; state = state; refused = 0; idle = 0 }

-- Its two ends.

-- the two ends: what an instrument does, and what id a client reads in a line
pub record Ends (Q State : Type 0) : Type 0 where
  -- what the instrument does with the line that a client writes with this id for what is asked for
  pub handed : State → ℕ → Q → Handed State
  -- the state to which a restart takes the instrument from this one
  pub restarted : State → State
  -- the id that the client reads in a line, where the line is a reply with one
  pub heard : List ℕ → Option ℕ
  -- whether a restart of the client restarts the instrument, too: meant for an instrument that keeps its last reply by the
  -- client's ids
  pub joint : Bool

-- a client's rule: what each event does to it
pub record Rule (Q Client : Type 0) : Type 0 where
  -- a send to a target, with its deadline; `None` is a refusal
  pub send : Client → (target : ℕ) → Q → (deadline : ℕ) → Option (Sending Client)
  -- a reply line, with the number of the request that it belongs to
  pub reply : Client → Numbered (List ℕ) → Settled Q Client
  -- a moment: each waiting request whose deadline is at most this moment times out
  pub expire : Client → ℕ → Client
  -- a restart of the client, with the settlements of the requests that waited
  pub restart : Client → Settled Q Client

-- What may happen.

-- a step of the world. An upward line goes to the instrument, a downward one to the client; `which` counts a queue's lines from 0
-- at its front
pub data Step (Q : Type 0) : Type 0 where
  Send : (target : ℕ) (call : Q) (deadline : ℕ) → Step Q
  -- the front line of a queue is handed over whole; a line is lost; a line is repeated directly after itself
  Up_deliver : Step Q
  Up_lose : (which : ℕ) → Step Q
  Up_repeat : (which : ℕ) → Step Q
  Down_deliver : Step Q
  Down_lose : (which : ℕ) → Step Q
  Down_repeat : (which : ℕ) → Step Q
  -- the client gets this moment
  Expire : (now : ℕ) → Step Q
  Restart_client : Step Q
  Restart_instrument : Step Q
  -- something that is not possible
  Nothing : Step Q

-- the list without element k, counted from 0; all of it where there is no element k
abbrev pub without : {A : Type 0} → ℕ → List A → List A
without k [] = []
without zero (x ∷ xs) = xs
without (suc k) (x ∷ xs) = x ∷ without k xs

-- the list with element k, counted from 0, twice, the second directly after the first; the list as it is where there is no
-- element k
abbrev pub doubled : {A : Type 0} → ℕ → List A → List A
doubled k [] = []
doubled zero (x ∷ xs) = x ∷ x ∷ xs
doubled (suc k) (x ∷ xs) = x ∷ doubled k xs

module _ {Q State : Type 0} where
  -- the wire after an event that is not possible, which is only counted
  abbrev pub idle : Wire Q State → Wire Q State
  idle w = record w { idle = w.idle + 1 }

  -- the wire after the instrument got the front request, of number n, and did with it what `h` says; `rest` is the queue
  -- after it
  abbrev pub replied : Wire Q State → ℕ → List (Numbered (Request Q)) → Handed State → Wire Q State
  replied w n rest h =
      record w {
        up = rest;
        executed = if h.executed then w.executed ++ n ∷ [] else w.executed;
        made = w.made ++ record { number = n; line = h.reply } ∷ [];
        down = w.down ++ record { number = n; line = h.reply } ∷ [];
        state = h.state;
      }

  -- the wire after the front of the upward queue, which is the last argument, was handed to the instrument; where that queue is
  -- empty, the event is only counted
  abbrev pub up_delivered : Ends Q State → Wire Q State → List (Numbered (Request Q)) → Wire Q State
  up_delivered ends w [] = idle w
  up_delivered ends w (x ∷ rest) = replied w x.number rest (ends.handed w.state x.line.id x.line.call)

  -- the wire with this upward queue, if that is possible (`possible`); else the event is only counted
  abbrev pub with_up : Wire Q State → List (Numbered (Request Q)) → (possible : Bool) → Wire Q State
  with_up w up false = idle w
  with_up w up true = record w { up = up }

  -- the wire with this downward queue, if that is possible (`possible`); else the event is only counted
  abbrev pub with_down : Wire Q State → List (Numbered (List ℕ)) → (possible : Bool) → Wire Q State
  with_down w down false = idle w
  with_down w down true = record w { down = down }

  -- if `restarts` is true, the wire after a restart of the instrument, which the list `starts` notes; else the wire as it was
  abbrev pub started : Ends Q State → Wire Q State → (restarts : Bool) → Wire Q State
  started ends w false = w
  started ends w true = record w { starts = w.starts ++ length w.executed ∷ []; state = ends.restarted w.state }

  -- the wire after a restart of the instrument, which is possible where both queues, the last two arguments, are empty; else
  -- the event is only counted
  abbrev pub instrument_restarted : Ends Q State → Wire Q State → List (Numbered (Request Q)) → List (Numbered (List ℕ)) → Wire Q State
  instrument_restarted ends w [] [] = started ends w true
  instrument_restarted ends w _ _ = idle w

module _ {Q Client State : Type 0} where
  -- the world with this wire in place of its own, and the client as it was
  abbrev pub on_wire : World Q Client State → Wire Q State → World Q Client State
  on_wire w wire = record { wire = wire; client = w.client }

  -- the world of this wire once the client settled requests, as `x` says: their settlements are appended to the wire's, and the
  -- client is the one that `x` leaves
  abbrev pub with_settled : Wire Q State → Settled Q Client → World Q Client State
  with_settled wire x = record { wire = record wire { settled = wire.settled ++ x.settlements }; client = x.client }

  -- the world after the front of the downward queue, which is the last argument, was handed to the client; where that queue is
  -- empty, the event is only counted
  abbrev pub down_delivered : Rule Q Client → World Q Client State → List (Numbered (List ℕ)) → World Q Client State
  down_delivered rule w [] = on_wire w (idle w.wire)
  down_delivered rule w (x ∷ rest) = with_settled (record w.wire { down = rest }) (rule.reply w.client x)

  -- the world after a restart of the client, and of the instrument where `joint` says so, which is possible where both queues,
  -- the last two arguments, are empty; else the event is only counted
  abbrev pub client_restarted : Ends Q State → Rule Q Client → World Q Client State → List (Numbered (Request Q)) → List (Numbered (List ℕ))
      → World Q Client State
  client_restarted ends rule w [] [] = with_settled (started ends w.wire ends.joint) (rule.restart w.client)
  client_restarted ends rule w _ _ = on_wire w (idle w.wire)

module _ {Q Client State : Type 0} (written : ℕ → Q → List ℕ) where
  -- the world after the client was asked to send, by what came of that (the last argument): the request is sent, and goes to
  -- the back of the upward queue; or, where there is none (`None`), a refusal is counted
  abbrev pub requested : World Q Client State → ℕ → Q → Option (Sending Client) → World Q Client State
  requested w target call None = on_wire w (record w.wire { refused = w.wire.refused + 1 })
  requested w target call (Some x) =
      record {
        wire =
            record w.wire {
              sent = w.wire.sent ++ record { target = target; call = call; line = written x.id call } ∷ [];
              up = w.wire.up ++ record { number = length w.wire.sent; line = record { id = x.id; call = call } } ∷ [];
            };
        client = x.client;
      }

  -- the world after one step
  abbrev pub happens : Ends Q State → Rule Q Client → World Q Client State → Step Q → World Q Client State
  happens ends rule w (Send target call deadline) = requested w target call (rule.send w.client target call deadline)
  happens ends rule w Up_deliver = on_wire w (up_delivered ends w.wire w.wire.up)
  happens ends rule w (Up_lose k) = on_wire w (with_up w.wire (without k w.wire.up) (nat_lt k (length w.wire.up)))
  happens ends rule w (Up_repeat k) = on_wire w (with_up w.wire (doubled k w.wire.up) (nat_lt k (length w.wire.up)))
  happens ends rule w Down_deliver = down_delivered rule w w.wire.down
  happens ends rule w (Down_lose k) = on_wire w (with_down w.wire (without k w.wire.down) (nat_lt k (length w.wire.down)))
  happens ends rule w (Down_repeat k) = on_wire w (with_down w.wire (doubled k w.wire.down) (nat_lt k (length w.wire.down)))
  happens ends rule w (Expire now) = record { wire = w.wire; client = rule.expire w.client now }
  happens ends rule w Restart_client = client_restarted ends rule w w.wire.up w.wire.down
  happens ends rule w Restart_instrument = on_wire w (instrument_restarted ends w.wire w.wire.up w.wire.down)
  happens ends rule w Nothing = on_wire w (idle w.wire)

  -- the world after all steps of a list, in order
  abbrev pub run : Ends Q State → Rule Q Client → List (Step Q) → World Q Client State → World Q Client State
  run ends rule [] w = w
  run ends rule (step ∷ steps) w = run ends rule steps (happens ends rule w step)
