-- Two clients of the world, this project's own: one that knows requests by ids of one digit, and one, the oracle client,
-- that knows their numbers; and the runs with each: of steps or events, between any two ends, and of events on the simulated
-- instrument.
use Rattle.gc_world.specs.Common.{Call, IDS, Settled, Sending, ById, fresh, pending_of, expired, lost, settle, sends, hears, expires, restarts, handed, State, restarted}
use Rattle.std.specs.Prelude.{ℕ, ◌+◌, ◌-◌, ◌%◌, Bool, true, false, List, [], ◌∷◌, ◌++◌, length, map, take, drop, Option, Some, None, nat_lt, nat_eq}
use Rattle.gc_client.specs.declared.pending.Pending.{Pending}
use Rattle.gc_world.specs.declared.event.Event.{Event}
use Rattle.gc_world.specs.Behaviours.{Behaviour, ends_with}
use Rattle.gc_world.specs.Streams.{Streams, untouched, flow}
use Rattle.gc_world.specs.World.{Numbered, Ends, Wire, World, Step, opened, run}
use Rattle.gc_world.specs.Worlds

-- By ids.

-- the rule of the client that knows ids, for a window of this width; it doesn't look at a reply's number
abbrev pub by_ids : {Q State : Type 0} → ℕ → Worlds.Ends Q State → Worlds.Rule Q (ById Q)
by_ids width ends =
    record {
      send = λ c target call deadline. sends width c target call deadline;
      reply = λ c x. hears c x.line (ends.heard x.line);
      expire = expires;
      restart = restarts;
    }

-- By numbers.

-- the oracle client: `count` requests are settled, `requests` are all that were sent, settled or not, and `since` of them
-- had been sent at the client's last start
pub record ByNumber (Q : Type 0) : Type 0 where
  pub count : ℕ
  pub requests : List (Pending Q)
  pub since : ℕ

-- a send: refused if the window is full (`full`). Else the request's id is the count of the requests that were sent since the
-- last start, modulo the number of ids
abbrev pub number_send : {Q : Type 0} → ByNumber Q → (target : ℕ) → Q → (deadline : ℕ) → (full : Bool) → Option (Sending (ByNumber Q))
number_send c target call deadline true = None
number_send c target call deadline false =
    Some (record {
      id = (length c.requests - c.since) % IDS;
      client = record { count = c.count; requests = c.requests ++ pending_of target call deadline ∷ []; since = c.since };
    })

-- a reply: if its request is settled already (`is_settled`), nothing happens. Else the requests before it that aren't settled are
-- lost, and its own is settled by this line
abbrev pub number_reply : {Q : Type 0} → ByNumber Q → Numbered (List ℕ) → (is_settled : Bool) → Settled Q (ByNumber Q)
number_reply c x true = record { settlements = []; client = c }
number_reply c x false =
    record {
      settlements = settle (x.number - c.count) x.line (drop c.count c.requests);
      client = record { count = x.number + 1; requests = c.requests; since = c.since };
    }

-- the requests once the client got this moment, at which only those from place k on may time out
abbrev pub expired_from : {Q : Type 0} → (now k : ℕ) → List (Pending Q) → List (Pending Q)
expired_from now k ps = take k ps ++ map (expired now) (drop k ps)

-- the rule of the oracle client, for a window of this width: what the client would do if every reply carried its request's
-- number. No id is read in a reply; sends are refused at the same width as by `by_ids`, and get the same ids
abbrev pub by_numbers : {Q : Type 0} → ℕ → Worlds.Rule Q (ByNumber Q)
by_numbers width =
    record {
      send = λ c target call deadline. number_send c target call deadline (nat_eq (length c.requests - c.count) width);
      reply = λ c x. number_reply c x (nat_lt x.number c.count);
      expire = λ c now. record {
        count = c.count;
        requests = expired_from now c.count c.requests;
        since = c.since;
      };
      restart = λ c. record {
        settlements = map lost (drop c.count c.requests);
        client = record { count = length c.requests; requests = c.requests; since = length c.requests };
      };
    }

-- The runs.

module _ {Q State : Type 0} where
  -- the world before the first event, with the client that knows ids
  abbrev pub ids_open : State → Worlds.World Q (ById Q) State
  ids_open state = record { wire = opened state; client = fresh }

  -- the world before the first event, with the oracle client
  abbrev pub numbers_open : State → Worlds.World Q (ByNumber Q) State
  numbers_open state = record { wire = opened state; client = record { count = 0; requests = []; since = 0 } }

module _ {State : Type 0} where
  -- the run by ids: the world after these steps, in order, with the client that knows ids, which has a window of this width, and
  -- with the instrument in this state at first
  abbrev pub run_by_ids : ℕ → Ends State → List Step → State → World (ById Call) State
  run_by_ids width ends steps state = run ends (by_ids width ends) steps (ids_open state)

  -- the run by numbers: the world after these steps, in order, with the oracle client, which has a window of this width, and
  -- with the instrument in this state at first
  abbrev pub run_by_numbers : ℕ → Ends State → List Step → State → World (ByNumber Call) State
  run_by_numbers width ends steps state = run ends (by_numbers width) steps (numbers_open state)

  -- the run by ids of events instead of steps: the streams after these events, in order, that is, the world and how many bytes of
  -- the front line of each direction have gone
  abbrev pub streams_by_ids : ℕ → Ends State → List Event → State → Streams (ById Call) State
  streams_by_ids width ends events state = flow ends (by_ids width ends) events (untouched (ids_open state))

  -- the run by numbers of events instead of steps: the streams after these events, in order, that is, the world and how many
  -- bytes of the front line of each direction have gone
  abbrev pub streams_by_numbers : ℕ → Ends State → List Event → State → Streams (ByNumber Call) State
  streams_by_numbers width ends events state = flow ends (by_numbers width) events (untouched (numbers_open state))

  -- the streams that the run by ids of these events leaves between two ends, from the restarted opening state, with a window of
  -- this width
  abbrev pub streamed_between : Ends State → ℕ → State → List Event → Streams (ById Call) State
  streamed_between ends width opening events = streams_by_ids width ends events (ends.restarted opening)

  -- the world that the run by ids of these events leaves between two ends, from the restarted opening state, with a window of
  -- this width
  abbrev pub played_between : Ends State → ℕ → State → List Event → World (ById Call) State
  played_between ends width opening events = (streamed_between ends width opening events).world

  -- the wire that the run by ids of these events leaves between two ends, from the restarted opening state, with a window of this
  -- width: the world but its client
  abbrev pub left_between : Ends State → ℕ → State → List Event → Wire State
  left_between ends width opening events = (played_between ends width opening events).wire

  -- the world that the run by numbers of these events leaves between two ends, from the restarted opening state, with a window of
  -- this width
  abbrev pub played_by_numbers_between : Ends State → ℕ → State → List Event → World (ByNumber Call) State
  played_by_numbers_between ends width opening events = (streams_by_numbers width ends events (ends.restarted opening)).world

-- what the simulated instrument does
abbrev pub simulator : Behaviour State
simulator = record { handed = handed; restarted = restarted }

-- the two ends: the simulated instrument, and a client that reads replies by their grammar
abbrev pub ends : Ends State
ends = ends_with simulator

-- the streams that the run by ids of these events leaves on the simulated instrument (`streamed_between`)
abbrev pub streamed : ℕ → State → List Event → Streams (ById Call) State
streamed width opening events = streamed_between ends width opening events

-- the world that the run by ids of these events leaves on the simulated instrument
abbrev pub played : ℕ → State → List Event → World (ById Call) State
played width opening events = played_between ends width opening events

-- the world that the run by numbers of these events leaves on the simulated instrument
abbrev pub played_by_numbers : ℕ → State → List Event → World (ByNumber Call) State
played_by_numbers width opening events = played_by_numbers_between ends width opening events

-- the wire that the run by ids of these events leaves, from the restarted opening state, with a window of this width: the world
-- but its client
abbrev pub left_by_ids : ℕ → State → List Event → Wire State
left_by_ids width opening events = (played width opening events).wire

-- the wire that the run by numbers of these events leaves, from the restarted opening state, with a window of this width
abbrev pub left_by_numbers : ℕ → State → List Event → Wire State
left_by_numbers width opening events = (played_by_numbers width opening events).wire
