-- Calls as events, this project's own: what the calls that a caller makes on a state are to a synchronization, and to a client
-- that has synchronized.
use Rattle.geocom_c.specs.Common.{Asked, the_word, begun, course, ClientEvent, Came, Stepped, AreInTurn, left_among, steps_among, ask_events}
use Rattle.std.specs.Prelude.{◌≡◌, ℕ, List, [], ◌∷◌, ◌++◌, map}
use Rattle.geocom_c.specs.Beginning.{given, left_by_bytes}
use Rattle.geocom_c.specs.Following.{CallMakes, CallStage, left_by_call, rest_by_call}
use Rattle.geocom_c.specs.Rest.{lines_completed}
use Rattle.geocom_c.specs.declared.following.StateCall.{StateCall}
use Rattle.geocom_c.specs.declared.following.StateCall.TheVariants.{Begin}
use Rattle.gc_client.specs.OneForOne as one

-- the events of a begin: while the client synchronizes, each line that the bytes end comes, and then a null procedure may be
-- sent. Once it has synchronized there are none, and the lines are discarded
abbrev pub begin_events : (left rest bytes : List ℕ) → List ClientEvent
begin_events [] rest bytes = []
begin_events (asked ∷ later) rest bytes =
    map Came (lines_completed rest bytes) ++ ask_events (given bytes (asked ∷ later) (left_by_bytes (asked ∷ later) rest bytes))

-- the events of steps of the client: none while it synchronizes
abbrev pub step_events : (left : List ℕ) → List (one.Step Asked) → List ClientEvent
step_events [] steps = map Stepped steps
step_events (asked ∷ later) steps = []

-- the events of a call that makes these steps of the client: those of a begin (`begin_events`), and of any other call its steps,
-- once the client has synchronized (`step_events`)
abbrev pub call_events : (left rest : List ℕ) → StateCall → (steps : List (one.Step Asked)) → List ClientEvent
call_events left rest (Begin bytes) steps = begin_events left rest bytes.now
call_events left rest other steps = step_events left steps

-- these calls are these events, where `left` are the ids that aren't answered, and `rest` the bytes since the last line feed: the
-- events of each call, by the steps that it makes (`CallMakes`), and then those of the later calls
abbrev pub AreEvents : (left rest : List ℕ) → List StateCall → List ClientEvent → Type 0
AreEvents left rest [] events = events ≡ []
AreEvents left rest (call ∷ calls) events = CallMakes left rest call (λ steps.
    (later : List ClientEvent) × (events ≡ call_events left rest call steps ++ later)
    × AreEvents (left_by_call left rest call) (rest_by_call rest call) calls later)

-- these calls are one list of events, and no other, each in its turn; and they bring the client to what its rule makes of the
-- steps among those events, and its synchronization to the ids that those events leave unanswered
pub record IsOverEvents (width : ℕ) (calls : List StateCall) (t : CallStage) : Type 0 where
  pub events : List ClientEvent
  pub are : AreEvents the_word [] calls events
  pub only : (others : List ClientEvent) → AreEvents the_word [] calls others → others ≡ events
  pub turns : AreInTurn the_word events
  pub reached : t.reached ≡ course width begun (steps_among events)
  pub left : t.left ≡ left_among the_word events
