-- What holds of calls on a state if there is an instrument at the other end, this project's own: each answer that the library
-- books is the instrument's to that very request, from the first one on. What may happen meanwhile is the field's: a line of
-- many connections that keeps order, loses lines whole and repeats a line directly after it, and an instrument that may start
-- again and change by itself at any moment. What is in flight when the client synchronizes may be anything, but for the word of
-- a synchronization. No clock has a part in it.
use Rattle.geocom_c.specs.Common.{AllByRecursion, the_word, IsWidth, KeptReply, IsFittingState, simulator_ends, Ends, IsWellFormed, LacksTheWord, UnderWay, Run, PlacedRun, ArePossibleRuns, events_over, placed_runs, AnyState, OfAnyInstrument, TreatsRawsAlike, kept_of, AreOfRuns, IsOwn, IsSafeRun}
use Rattle.std.specs.Prelude.{ℕ, List, [], Option}
use Rattle.geocom_c.specs.Following.{CallsReach, CallStage, first_stage}
use Rattle.geocom_c.specs.Steps.{AreEvents, IsOverEvents}
use Rattle.geocom_c.specs.declared.following.StateCall.{StateCall}
use Rattle.geocom_c.specs.declared.following.StateCall.TheVariants.{SendRaw}

-- for every width: any calls on a state are one list of events, and bring the client to where its rule brings it over these
-- events
abbrev pub CallsAreEvents : Type 0
CallsAreEvents = (width : ℕ) (calls : List StateCall) (t : CallStage) → CallsReach width first_stage calls t → IsOverEvents width calls t

-- what holds of calls that are the events of the runs `ps`, and that bring the client to the stage t: the library settles what the
-- world's client settles, and its client ends in the same state; and each settlement is its own: an answer was made on executing that very
-- request, and a late request was executed all the same
abbrev pub AreOwn : {State : Type 0} → (width : ℕ) → Ends State → (Good : State → Type 0) → (kept : State → Option KeptReply) → List (PlacedRun State) → CallStage → Type 0
AreOwn width ends Good kept ps t = AreOfRuns width ends Good kept (IsOwn width ends Good kept ps) ps t.reached.settlements t.reached.client t.left

-- each settlement is its own (`AreOwn`), over the ends `ends` with states of which `Good` holds, which retain the reply
-- `kept`: for every width, all calls on a state, and all runs of which these are the events (`AreEvents`), if the runs are
-- possible and safe (`ArePossibleRuns`, `IsSafeRun`); and whatever is in flight when the state is made, if it is well formed
-- (`IsWellFormed`) and the word isn't in it (`LacksTheWord`)
abbrev pub EachAnswerIsOwn : {State : Type 0} → (ends : Ends State) → (Good : State → Type 0) → (kept : State → Option KeptReply) → Type 0
EachAnswerIsOwn {State = State} ends Good kept =
    (width : ℕ) → IsWidth width → (calls : List StateCall) (t : CallStage) → CallsReach width first_stage calls t →
    (u : UnderWay State) → IsWellFormed Good u → LacksTheWord u →
    (rs : List (Run State)) → AreEvents the_word [] calls (events_over width ends u rs) → ArePossibleRuns width ends Good kept u rs →
    AllByRecursion (IsSafeRun width ends Good kept) (placed_runs width ends u rs) →
    AreOwn width ends Good kept (placed_runs width ends u rs) t

-- `EachAnswerIsOwn`, for any instrument, in any state
abbrev pub AnswersAreTheirOwn : Type 0 → Type 0
AnswersAreTheirOwn State = OfAnyInstrument {State = State} (λ ends Good kept. EachAnswerIsOwn ends Good kept)

-- `EachAnswerIsOwn`, for the simulated instrument, in any state that fits
abbrev pub SimulatorsAnswersAreTheirOwn : Type 0
SimulatorsAnswersAreTheirOwn = EachAnswerIsOwn simulator_ends IsFittingState kept_of

-- the call on a state sends no raw request
abbrev pub IsOfTheTable : StateCall → Type 0
IsOfTheTable (SendRaw target deadline procedure params) = ⊥
IsOfTheTable call = Unit {0}

-- no call on a state asks for a procedure that isn't in the table
abbrev pub AreOfTheTable : List StateCall → Type 0
AreOfTheTable calls = AllByRecursion IsOfTheTable calls

-- over the ends `ends` with states of which `Good` holds, which retain the reply `kept`: each run is safe (`IsSafeRun`) if no
-- call on the state sends a raw request
abbrev pub TableCallsAreSafe : {State : Type 0} → (ends : Ends State) → (Good : State → Type 0) → (kept : State → Option KeptReply) → Type 0
TableCallsAreSafe {State = State} ends Good kept =
    (width : ℕ) (calls : List StateCall) → AreOfTheTable calls →
    (u : UnderWay State) (rs : List (Run State)) → AreEvents the_word [] calls (events_over width ends u rs) →
    AllByRecursion (IsSafeRun width ends Good kept) (placed_runs width ends u rs)

-- each run is safe (`IsSafeRun`) over an instrument that retains its own reply, or none, after every request, as one does that
-- knows the procedures that are asked for (`alike`); and over any instrument if no call on the state sends a raw request
-- (`table`)
pub record CallsAreSafe (State : Type 0) : Type 0 where
  pub alike :
      (ends : Ends State) (kept : State → Option KeptReply) → TreatsRawsAlike ends AnyState kept →
      (width : ℕ) (u : UnderWay State) (rs : List (Run State)) → AllByRecursion (IsSafeRun width ends AnyState kept) (placed_runs width ends u rs)
  pub table : (ends : Ends State) (kept : State → Option KeptReply) → TableCallsAreSafe ends AnyState kept

-- over the simulator, in any state that fits, each run is safe (`IsSafeRun`) if no call on the state sends a raw request. The
-- simulator doesn't treat raw requests as others: it refuses them, and retains what it retained before
abbrev pub SimulatorsCallsAreSafe : Type 0
SimulatorsCallsAreSafe = TableCallsAreSafe simulator_ends IsFittingState kept_of
