-- Calls on a state over a line that damages, this project's own: what holds of a client from its synchronization until its restart, if
-- the caller holds back. It holds back if it sends only while the outstanding requests, and those that the last line settled, are
-- together fewer than seven (`AllMayHarmApart` of gc_theorems); requests that have timed out are outstanding, too, until a reply settles them.
use Rattle.geocom_c.specs.Common.{the_word, IsWidth, KeptReply, Stepped, Ends, IsWellFormed, UnderWay, begins, OfAnyInstrument, Harm, AreOwnOr, Harmed, harm_begun, harmed, AllMayHarmApart, holding_begun, harm_events, left_by_sync, seen_harms, SyncHarm, AllMaySyncHarm, OwnEighthComes, WasStruck}
use Rattle.std.specs.Prelude.{◌≡◌, ℕ, List, [], ◌++◌, drop, map, Option}
use Rattle.geocom_c.specs.Following.{CallsReach, CallStage, first_stage}
use Rattle.geocom_c.specs.Steps.{AreEvents}
use Rattle.geocom_c.specs.declared.following.StateCall.{StateCall}

-- a client over a line that damages, until its restart: what is in flight when it begins (`over`), what happens while it synchronizes
-- (`turns`), and what happens after that (`steps`)
pub record HarmedCalls (State : Type 0) : Type 0 where
  pub over : UnderWay State
  pub turns : List (SyncHarm State)
  pub steps : List (Harm State)

module _ {State : Type 0} (width : ℕ) (ends : Ends State) where
  -- the world once the client has synchronized. Its requests 0 to 7 are the null procedures, and the client's come after them
  abbrev pub begun_over : HarmedCalls State → Harmed State
  begun_over x = harm_begun width ends (left_by_sync ends x.over x.turns)

  -- these calls are what happens
  abbrev pub AreCallsOver : List StateCall → HarmedCalls State → Type 0
  AreCallsOver calls x = AreEvents the_word [] calls (harm_events ends x.turns (begins x.over) ++ map Stepped (seen_harms x.steps))

  -- what happens is possible: anything well formed may be in flight at the start, be it the word; the eighth null procedure is answered
  -- by its own reply; and after that the caller holds back, and no two lines in a row that settle something are damaged
  pub record AreHeldBack (Good : State → Type 0) (kept : State → Option KeptReply) (x : HarmedCalls State) : Type 0 where
    pub lines : IsWellFormed Good x.over
    pub turns : AllMaySyncHarm ends Good kept x.turns (begins x.over)
    pub begun : OwnEighthComes ends x.over x.turns
    pub steps : AllMayHarmApart width ends Good kept x.steps (holding_begun width ends (left_by_sync ends x.over x.turns))

  -- what holds of calls that bring the client to the stage t: the library settles what the client of that world settles, and each answer
  -- is own or damaged, as is each late reply
  pub record AreOwnOrDamaged (x : HarmedCalls State) (t : CallStage) : Type 0 where
    pub settled : t.reached.settlements ≡ drop 8 (harmed width ends x.steps (begun_over x)).world.wire.settled
    pub own : AreOwnOr width ends (λ line. WasStruck ends x.over x.turns line) (begun_over x) x.steps

-- for any instrument, every width and all calls on a state: if they are what happens over a line that damages, and are held back, each
-- answer is own or damaged
abbrev pub HeldBackAnswersAreOwnOrDamaged : Type 0 → Type 0
HeldBackAnswersAreOwnOrDamaged State = OfAnyInstrument {State = State} (λ ends Good kept.
    (width : ℕ) → IsWidth width → (calls : List StateCall) (t : CallStage) → CallsReach width first_stage calls t →
    (x : HarmedCalls State) → AreCallsOver width ends calls x → AreHeldBack width ends Good kept x → AreOwnOrDamaged width ends x t)
