-- The field with damage, this project's own: two things are added to all that happens in the field (`Move`). A damaged line comes to the
-- client: any line, at any time. And a request that damage made reaches the instrument: any with an id from 0 to 7, at any time. A line
-- that is altered is one that is lost, with one of these in its place, and so are two that run together. What the instrument replies to a
-- request that damage made comes as a damaged line, if at all, at any time; so it isn't put into the queue. Other ids are left out, as
-- `IsAnInstrument` doesn't speak of them: what an instrument does with another id, or with none, is covered only if it then keeps the same
-- reply as before (`Changes`).
use Rattle.gc_theorems.specs.Common.{AllByRecursion, Asked, is_of_table, IDS, WINDOW, ById, Answered, Late, Settlement, Sending, heard, sends, hears, KeptReply, by_ids}
use Rattle.std.specs.Prelude.{◌≡◌, ◌⊎◌, ℕ, ◌+◌, ◌%◌, ◌<◌, ◌≤◌, true, List, [], ◌∷◌, ◌++◌, length, Option, Some, None, slice_get}
use Rattle.gc_theorems.specs.World.{Numbered, Request, Sent, Ends, World, Step, Up_deliver, on_wire, with_settled}
use Rattle.gc_theorems.specs.Field.{Move, Sends, Comes, OnLine, IsPossible, moves}
use Rattle.gc_theorems.specs.Begin.{UnderWay}
use Rattle.gc_theorems.specs.Begun.{IsClean, eighth_null, ids_begun}
use Rattle.gc_theorems.specs.Instrument.{OfAnyInstrument, TreatsRawsAlike}

-- one step in the field, with damage
pub data Harm (State : Type 0) : Type 0 where
  -- what happens in the field without damage
  Does : (move : Move State) → Harm State
  -- a damaged line comes
  Damages : (line : List ℕ) → Harm State
  -- a request that damage made, with this id and call, reaches the instrument
  Strikes : (id : ℕ) (call : Asked) → Harm State

-- a world; and which of the requests that the client sent was handed to the instrument last
pub record Harmed (State : Type 0) : Type 0 where
  pub world : World (ById Asked) State
  pub last : Option ℕ

-- which request was handed last once the line made this step, before which these requests were in flight
abbrev pub last_by_step : Option ℕ → Step → List (Numbered Request) → Option ℕ
last_by_step last Up_deliver (x ∷ rest) = Some x.number
last_by_step last _ _ = last

-- the same once this move was made
abbrev pub last_by : {State : Type 0} → Option ℕ → Move State → List (Numbered Request) → Option ℕ
last_by last (OnLine step) up = last_by_step last step up
last_by last _ up = last

-- a line of this request allows one more send, where so many requests were sent: at most seven were sent from its own one on
abbrev pub AllowsSend : (sent number : ℕ) → Type 0
AllowsSend sent number = sent + 1 ≤ number + IDS

-- 1 if a damaged line comes at this step (`Damages`), else 0
abbrev pub one_if_damages : {State : Type 0} → Harm State → ℕ
one_if_damages (Does move) = 0
one_if_damages (Damages line) = 1
one_if_damages (Strikes id call) = 0

-- how many damaged lines come at these steps
abbrev pub damaged_lines : {State : Type 0} → List (Harm State) → ℕ
damaged_lines [] = 0
damaged_lines (m ∷ ms) = one_if_damages m + damaged_lines ms

-- these numbers rise, and none is below `low`
abbrev pub AreRising : (low : ℕ) → List ℕ → Type 0
AreRising low [] = Unit {0}
AreRising low (m ∷ ms) = (low ≤ m) × AreRising (m + 1) ms

-- after a request for this call the instrument keeps its own reply, or nothing: the call is of the table; or the instrument does so after
-- each request, also a raw one (`TreatsRawsAlike`), as one does that never keeps a reply
abbrev pub KeepsItsOwnAfter : {State : Type 0} → Ends State → (State → Type 0) → (State → Option KeptReply) → Asked → Type 0
KeepsItsOwnAfter ends Good kept call = (is_of_table call ≡ true) ⊎ TreatsRawsAlike ends Good kept

module _ {State : Type 0} (width : ℕ) (ends : Ends State) where
  -- what a step does
  abbrev pub harms : Harmed State → Harm State → Harmed State
  harms h (Does move) = record { world = moves ends (by_ids width ends) h.world move; last = last_by h.last move h.world.wire.up }
  harms h (Damages line) = record { world = with_settled h.world.wire (hears h.world.client line (ends.heard line)); last = h.last }
  harms h (Strikes id call) = record { world = on_wire h.world (record h.world.wire { state = (ends.handed h.world.wire.state id call).state }); last = h.last }

  -- what these steps do, in order
  abbrev pub harmed : List (Harm State) → Harmed State → Harmed State
  harmed [] h = h
  harmed (m ∷ ms) h = harmed ms (harms h m)

  -- at the end of a synchronization that left `u`: the eighth null procedure, which is request 7, was handed last
  abbrev pub harm_begun : UnderWay State → Harmed State
  harm_begun u = record { world = ids_begun u; last = Some 7 }

  -- a send of this call is fresh: the instrument keeps its own reply to it, or nothing (`KeepsItsOwnAfter`); no line of the request eight
  -- before the one that is sent, nor of an older one, is in flight; and if the instrument keeps a reply, of whichever request, the client's
  -- request that it was handed last is none of these either. Without damage all but the first follows (`IsOwnWithoutDamage`)
  pub record IsFreshSend (Good : State → Type 0) (kept : State → Option KeptReply) (h : Harmed State) (call : Asked) : Type 0 where
    pub own : KeepsItsOwnAfter ends Good kept call
    pub up : AllByRecursion (λ x. AllowsSend (length h.world.wire.sent) x.number) h.world.wire.up
    pub down : AllByRecursion (λ x. AllowsSend (length h.world.wire.sent) x.number) h.world.wire.down
    pub keeps : (k : KeptReply) (n : ℕ) → kept h.world.wire.state ≡ Some k → h.last ≡ Some n → AllowsSend (length h.world.wire.sent) n

  -- if the send isn't refused (`None`), it is fresh
  abbrev pub IsFreshIfSent : (State → Type 0) → (kept : State → Option KeptReply) → Harmed State → Asked → Option (Sending (ById Asked)) → Type 0
  IsFreshIfSent Good kept h call None = Unit {0}
  IsFreshIfSent Good kept h call (Some x) = IsFreshSend Good kept h call

  -- a move is possible, and fresh if it is a send
  abbrev pub MayDo : (State → Type 0) → (State → Option KeptReply) → Harmed State → Move State → Type 0
  MayDo Good kept h (Sends target call deadline) = IsFreshIfSent Good kept h call (sends width h.world.client target call deadline)
  MayDo Good kept h move = IsPossible Good kept h.world move

  -- a step is possible, and fresh if it is a send: a damaged line may be any, and a request that damage made any with an id from 0 to 7
  abbrev pub MayHarm : (State → Type 0) → (State → Option KeptReply) → Harmed State → Harm State → Type 0
  MayHarm Good kept h (Does move) = MayDo Good kept h move
  MayHarm Good kept h (Damages line) = Unit {0}
  MayHarm Good kept h (Strikes id call) = id < IDS

  -- each of these steps is possible after those before it
  abbrev pub AllMayHarm : (State → Type 0) → (State → Option KeptReply) → List (Harm State) → Harmed State → Type 0
  AllMayHarm Good kept [] h = Unit {0}
  AllMayHarm Good kept (m ∷ ms) h = MayHarm Good kept h m × AllMayHarm Good kept ms (harms h m)

  module _ (start : Harmed State) (ms : List (Harm State)) where
    -- at one of these steps request m, with this call and its own id, reaches the instrument, which executes it; and this line is
    -- its reply
    pub record WasMadeAmid (m : ℕ) (call : Asked) (line : List ℕ) : Type 0 where
      pub front : List (Harm State)
      pub later : List (Harm State)
      pub split : ms ≡ front ++ Does (OnLine Up_deliver) ∷ later
      pub id : ℕ
      pub own_id : id ≡ m % IDS
      pub rest : List (Numbered Request)
      pub reaches : (harmed front start).world.wire.up ≡ record { number = m; line = record { id = id; call = call } } ∷ rest
      pub executed : (ends.handed (harmed front start).world.wire.state id call).executed ≡ true
      pub reply : line ≡ (ends.handed (harmed front start).world.wire.state id call).reply

    -- at one of these steps a request that damage made reaches the instrument, and this line is its reply
    pub record WasMadeOfDamage (line : List ℕ) : Type 0 where
      pub front : List (Harm State)
      pub later : List (Harm State)
      pub id : ℕ
      pub call : Asked
      pub split : ms ≡ front ++ Strikes id call ∷ later
      pub reply : line ≡ (ends.handed (harmed front start).world.wire.state id call).reply

  -- at this step, after the steps `front`, the front reply comes, which is this line, as the reply to request m; and it was made before, of a
  -- request that damage made, at one of the steps `front` or before them (`Old`). It comes as the reply to request m because the instrument had kept
  -- it, and sent it again; the definition doesn't ask for that
  pub record ComesAgain (start : Harmed State) (Old : List ℕ → Type 0) (front : List (Harm State)) (step : Harm State) (m : ℕ) (line : List ℕ) : Type 0 where
    pub like : List ℕ
    pub is : step ≡ Does (Comes like)
    pub rest : List (Numbered (List ℕ))
    pub next : (harmed front start).world.wire.down ≡ record { number = m; line = line } ∷ rest
    pub made : WasMadeOfDamage start front line ⊎ Old line

  module _ (start : Harmed State) (ms : List (Harm State)) where
    -- request m was settled by this line, which is damaged: it is the last one that was settled at one of these steps, and at that step
    -- the line came as a damaged one (`Damages`), or came again (`ComesAgain`)
    pub record IsByDamage (Old : List ℕ → Type 0) (m : ℕ) (line : List ℕ) : Type 0 where
      pub front : List (Harm State)
      pub step : Harm State
      pub later : List (Harm State)
      pub split : ms ≡ front ++ step ∷ later
      pub before : length (harmed front start).world.wire.settled ≤ m
      pub after : length (harms (harmed front start) step).world.wire.settled ≡ m + 1
      pub damaged : (step ≡ Damages line) ⊎ ComesAgain start Old front step m line

    -- the line was made on executing request m, which was sent for the call of `request`
    pub record IsOwn (m : ℕ) (line : List ℕ) : Type 0 where
      pub request : Sent
      pub sent : slice_get (harmed ms start).world.wire.sent m ≡ Some request
      pub made : WasMadeAmid start ms m request.call line

  -- of each request from request 8 on, the client's first, that is answered or late: the line was made on executing that very request,
  -- or it is damaged. No more requests were settled by lines that came damaged (`Damages`) than such lines came (`few`). That two requests
  -- aren't settled by damaged lines at one step (`one_each`), be it that these came so or came again, holds by definition, as each is the last
  -- one that its step settled
  pub record AreOwnOr (Old : List ℕ → Type 0) (start : Harmed State) (ms : List (Harm State)) : Type 0 where
    pub answered :
        (m : ℕ) (s : Settlement Asked) (line : List ℕ) → 8 ≤ m → slice_get (harmed ms start).world.wire.settled m ≡ Some s → s.outcome ≡ Answered line →
        IsOwn start ms m line ⊎ IsByDamage start ms Old m line
    pub late :
        (m : ℕ) (s : Settlement Asked) → 8 ≤ m → slice_get (harmed ms start).world.wire.settled m ≡ Some s → s.outcome ≡ Late →
        (line : List ℕ) × (IsOwn start ms m line ⊎ IsByDamage start ms Old m line)
    pub few :
        (requests : List ℕ) → AreRising 0 requests →
        AllByRecursion (λ m. (line : List ℕ) × ((b : IsByDamage start ms Old m line) × (b.step ≡ Damages line))) requests → length requests ≤ damaged_lines ms
    pub one_each : (m n : ℕ) (line other : List ℕ) (a : IsByDamage start ms Old m line) (b : IsByDamage start ms Old n other) → a.front ≡ b.front → m ≡ n

-- no line
abbrev pub no_line : List ℕ → Type 0
no_line line = ⊥

-- what a synchronization leaves is clean (`IsClean`), but for a kept reply that is damaged (`D`)
pub record IsCleanBut {State : Type 0} (D : List ℕ → Type 0) (Good : State → Type 0) (kept : State → Option KeptReply) (u : UnderWay State) : Type 0 where
  pub good : Good u.state
  pub up : AllByRecursion (λ x. x ≡ eighth_null) u.up
  pub down : AllByRecursion (λ line. heard line ≡ Some 7) u.down
  pub keeps : (k : KeptReply) → kept u.state ≡ Some k → (k.id ≡ 7) ⊎ D k.line

-- for any instrument, and a client with a window of at most seven requests: after a clean synchronization (`IsClean`), over all steps that
-- are possible, with fresh sends, each answer is own or damaged
abbrev pub AnswersAreOwnOrDamaged : Type 0 → Type 0
AnswersAreOwnOrDamaged State = OfAnyInstrument {State = State} (λ ends Good kept.
    (width : ℕ) → width ≤ WINDOW → (u : UnderWay State) → IsClean Good kept u → (ms : List (Harm State)) → AllMayHarm width ends Good kept ms (harm_begun width ends u) →
    AreOwnOr width ends no_line (harm_begun width ends u) ms)
