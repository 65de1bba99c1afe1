-- The first reply to a request is booked if it comes while the request isn't settled, and in time. This is stated of the run by
-- ids between any two ends, in terms of the list of events. This project's own.
-- "First": the first of the replies to a request that is delivered. A reply that finds its request unsettled is the first,
-- because it settles the request; a further one settles nothing. "Unsettled": the request's number isn't below the count of the
-- settlements so far. "In time": since the request was sent the client got no moment at or past the request's deadline.
-- "Delivered": its last byte goes over. Where one event hands over several replies, each is delivered in turn: the law that
-- bytes go over in turn cuts such an event into one delivery for each.
-- The width is that of the window: an argument of `play_width`, and `WINDOW` for `play`.
use Rattle.gc_world.specs.Common.{Call, WINDOW, ById, Outcome, Answered, Late, Lost, Settlement}
use Rattle.std.specs.Prelude.{◌≡◌, ◌⊎◌, ℕ, ◌+◌, ◌-◌, ◌<◌, ◌≤◌, List, [], ◌∷◌, ◌++◌, length, map, take, drop, Some, slice_get, Contains}
use Rattle.gc_world.specs.declared.event.Event.{Event}
use Rattle.gc_world.specs.declared.event.Event.TheVariants.{Send, DownDeliver, DownBytes, Expire}
use Rattle.gc_world.specs.Clients.{streamed_between, left_between}
use Rattle.gc_world.specs.Streams.{Streams, down_lines, remaining}
use Rattle.gc_world.specs.World.{Ends, Sent, Numbered, Wire}

-- the reply at the front of the downward queue is this line, it belongs to request n, and request n isn't settled
pub record IsNextFor {State : Type 0} (w : Wire State) (n : ℕ) (line : List ℕ) : Type 0 where
  pub behind : List (Numbered (List ℕ))
  pub front : w.down ≡ record { number = n; line = line } ∷ behind
  pub unsettled : length w.settled ≤ n

-- the settlement with this outcome of a request that was sent
abbrev pub settled_as : Outcome → Sent → Settlement Call
settled_as outcome r = record { target = r.target; call = r.call; outcome = outcome }

-- the requests from number m through number n - 1
abbrev pub between : (m n : ℕ) → List Sent → List Sent
between m n sent = take (n - m) (drop m sent)

-- between the two wires the requests before request n that weren't settled, timed out or not, were settled as lost, in
-- order, and then request n with this outcome, and nothing else
pub record IsSettledAs {State : Type 0} (before after : Wire State) (n : ℕ) (outcome : Outcome) : Type 0 where
  pub request : Sent
  pub found : slice_get before.sent n ≡ Some request
  pub settled : after.settled ≡ before.settled ++ map (settled_as Lost) (between (length before.settled) n before.sent) ++ settled_as outcome request ∷ []

-- the event is `DownDeliver`, or hands over as many bytes downward as are still to go of the front reply, at least one
abbrev pub IsDelivery : {State : Type 0} → Streams (ById Call) State → Event → Type 0
IsDelivery v e = (e ≡ DownDeliver) ⊎ ((n : ℕ) × (e ≡ DownBytes (n + 1)) × (remaining v.down_gone (down_lines v.world.wire) ≡ n + 1))

module _ {State : Type 0} (ends : Ends State) where
  -- the list of events has the send of request n, with its deadline, and then later ones
  pub record HasSend (width : ℕ) (opening : State) (events : List Event) (n : ℕ) : Type 0 where
    pub earlier : List Event
    pub target : ℕ
    pub call : Call
    pub deadline : ℕ
    pub later : List Event
    pub order : events ≡ earlier ++ Send target call deadline ∷ later
    -- n requests had been sent before it
    pub number : length (left_between ends width opening earlier).sent ≡ n
    -- and it was not refused
    pub taken : length (left_between ends width opening (earlier ++ Send target call deadline ∷ [])).sent ≡ n + 1

  -- in time: each moment that the client got since request n was sent lay before the request's deadline
  pub record IsInTime (width : ℕ) (opening : State) (events : List Event) (n : ℕ) : Type 0 where
    pub sent : HasSend width opening events n
    pub early : (now : ℕ) → Contains sent.later (Expire now) → now < sent.deadline

  -- too late: since request n was sent the client got a moment at or past the request's deadline
  pub record IsTooLate (width : ℕ) (opening : State) (events : List Event) (n : ℕ) : Type 0 where
    pub sent : HasSend width opening events n
    pub now : ℕ
    -- the client got this moment
    pub given : Contains sent.later (Expire now)
    pub reached : sent.deadline ≤ now

  -- after these events, if this line is the reply at the front of the downward queue, and request n, to which it belongs,
  -- isn't settled: the line's delivery settles request n with this outcome, and the unsettled requests before request n as lost
  abbrev pub DeliverySettles : (width : ℕ) → State → List Event → (n : ℕ) → (line : List ℕ) → Outcome → Type 0
  DeliverySettles width opening events n line outcome =
      (delivery : Event) → IsDelivery (streamed_between ends width opening events) delivery → IsNextFor (left_between ends width opening events) n line →
      IsSettledAs (left_between ends width opening events) (left_between ends width opening (events ++ delivery ∷ [])) n outcome

  -- with a window of at most seven, the first reply to a request of which `Comes` holds (`IsInTime` or `IsTooLate`) settles the
  -- request with the outcome that `outcome` gives for the reply's line
  abbrev pub FirstReplySettles : (Comes : (width : ℕ) → State → List Event → (n : ℕ) → Type 0) → (outcome : List ℕ → Outcome) → Type 0
  FirstReplySettles Comes outcome =
      (width : ℕ) → width ≤ WINDOW → (opening : State) (events : List Event) (n : ℕ) (line : List ℕ) →
      Comes width opening events n → DeliverySettles width opening events n line (outcome line)

  -- a first reply in time is booked: its request is answered with that very line
  abbrev pub BooksFirstReply : Type 0
  BooksFirstReply = FirstReplySettles IsInTime Answered

  -- a first reply that comes too late settles its request as late
  abbrev pub FirstReplyIsLate : Type 0
  FirstReplyIsLate = FirstReplySettles IsTooLate (λ line. Late)

  -- each request that was sent is in time or too late
  abbrev pub IsInTimeOrTooLate : Type 0
  IsInTimeOrTooLate =
      (width : ℕ) (opening : State) (events : List Event) (n : ℕ) → n < length (left_between ends width opening events).sent →
      IsInTime width opening events n ⊎ IsTooLate width opening events n

  -- no request is both in time and too late
  abbrev pub IsNeverInTimeAndTooLate : Type 0
  IsNeverInTimeAndTooLate =
      (width : ℕ) (opening : State) (events : List Event) (n : ℕ) → IsInTime width opening events n → IsTooLate width opening events n → ⊥

  -- with a window of at most seven, a further reply, which is one to a request that is settled already, settles nothing
  abbrev pub NoSecondReply : Type 0
  NoSecondReply =
      (width : ℕ) → width ≤ WINDOW → (opening : State) (events : List Event) (n : ℕ) (line : List ℕ) (behind : List (Numbered (List ℕ))) →
      (delivery : Event) → IsDelivery (streamed_between ends width opening events) delivery →
      (left_between ends width opening events).down ≡ record { number = n; line = line } ∷ behind → n < length (left_between ends width opening events).settled →
      (left_between ends width opening (events ++ delivery ∷ [])).settled ≡ (left_between ends width opening events).settled
