-- A session over a line that damages, this project's own: any calls on it, and what happens on the line and to an instrument, stretch by
-- stretch. In a stretch the session synchronizes, and then goes on until it resynchronizes, or ends.
use Rattle.gc_theorems.specs.Common.{AllByRecursion, Asked, Restart, Settlement, lost, KeptReply, IsFittingState, Call, AsksTheTable, events_all, settled_all, ClientEvent, Came, Stepped, Settings}
use Rattle.std.specs.Prelude.{◌≡◌, ◌⊎◌, List, [], ◌∷◌, ◌++◌, map, Option}
use Rattle.gc_session.specs.Prelude.{opening}
use Rattle.gc_theorems.specs.Simulator.{simulator_ends}
use Rattle.gc_theorems.specs.World.{Ends}
use Rattle.gc_theorems.specs.Begin.{IsWellFormed, SyncModel, UnderWay, begins}
use Rattle.gc_theorems.specs.ClientRuns.{event_of}
use Rattle.gc_theorems.specs.Instrument.{OfAnyInstrument, TreatsRawsAlike}
use Rattle.gc_theorems.specs.Laws.{kept_of}
use Rattle.gc_theorems.specs.DamagedRuns.{AreFewByDamagedLines, IsLocal}
use Rattle.gc_theorems.specs.Stretches.{HarmedStretch, HasDamageApart, AreInARow, IsPossibleStretch, at_its_end, client_settled, seen_harms}
use Rattle.gc_theorems.specs.DamagedSynchronizing.{SyncHarm, Does, Damages, Strikes, sync_harms}

-- Events.

-- the event that a step of a synchronization is to the client: a damaged line comes like any other, and a request that damage made is none
abbrev pub harm_event : {State : Type 0} → SyncModel State → SyncHarm State → List ClientEvent
harm_event s (Does turn) = event_of s turn
harm_event s (Damages line) = Came line ∷ []
harm_event s (Strikes id call) = []

-- the events that the steps of a synchronization are to the client
abbrev pub harm_events : {State : Type 0} → Ends State → List (SyncHarm State) → SyncModel State → List ClientEvent
harm_events ends [] s = []
harm_events ends (t ∷ ts) s = harm_event s t ++ harm_events ends ts (sync_harms ends s t)

module _ {State : Type 0} (ends : Ends State) where
  -- the events that stretches are to the client: it restarts between them
  abbrev pub events_in : List (HarmedStretch State) → List ClientEvent
  events_in [] = []
  events_in (s ∷ []) = harm_events ends s.turns (begins s.over) ++ map Stepped (seen_harms s.steps)
  events_in (s ∷ t ∷ ss) = harm_events ends s.turns (begins s.over) ++ (map Stepped (seen_harms s.steps) ++ Stepped Restart ∷ events_in (t ∷ ss))

  -- what the client settles over stretches: what each settled, and at each restart, as lost, what is outstanding
  abbrev pub settled_in : List (HarmedStretch State) → List (Settlement Asked)
  settled_in [] = []
  settled_in (s ∷ []) = client_settled ends s
  settled_in (s ∷ t ∷ ss) = (client_settled ends s ++ map lost (at_its_end ends s).world.client.waiting) ++ settled_in (t ∷ ss)

-- Sessions.

-- a session as a program over a line that damages: what was chosen, the calls of its caller, and its stretches
pub record HarmedSession (State : Type 0) : Type 0 where
  pub settings : Settings
  pub calls : List Call
  pub stretches : List (HarmedStretch State)

module _ {State : Type 0} (ends : Ends State) (Good : State → Type 0) (kept : State → Option KeptReply) where
  -- the events of the calls are those of the stretches, in each of which what happens is possible. In flight at the start (`u`) may be
  -- anything well formed (`IsWellFormed`), be it the word. Each of the caller's requests is for a call of the table, or the instrument keeps
  -- its own reply, or none, after every request (`TreatsRawsAlike`)
  pub record IsSessionInHarmedField (u : UnderWay State) (x : HarmedSession State) : Type 0 where
    pub lines : IsWellFormed Good u
    pub row : AreInARow ends u x.stretches
    pub events : events_all x.calls (opening x.settings) ≡ events_in ends x.stretches
    pub possible : AllByRecursion (IsPossibleStretch ends Good kept) x.stretches
    pub own : AllByRecursion AsksTheTable x.calls ⊎ TreatsRawsAlike ends Good kept

  -- what holds of a session over a line that damages
  pub record IsSessionLocal (x : HarmedSession State) : Type 0 where
    -- it settles what the world's client settles
    pub settled : settled_all x.calls (opening x.settings) ≡ settled_in ends x.stretches
    -- where damage is apart, a stretch is local: each of its answers, and each late reply, is own or damaged
    pub each : AllByRecursion (λ s. HasDamageApart ends s → IsLocal ends Good kept s) x.stretches
    -- each damaged line settles one request at most
    pub few : AreFewByDamagedLines ends x.stretches

-- whatever is in flight at the start of a session, be it the word: if its caller asks only for calls of the table, or the instrument treats
-- raw requests alike, each answer that it settles, and each late reply, was made on executing that very request, or its line is damaged, if
-- damage is apart in the stretch of that request. A stretch in which it isn't apart doesn't spoil the next one, if that one's eighth null
-- procedure is answered by its own reply. `Good` says which states of the instrument are good, and `kept` what reply each of them keeps
abbrev pub SessionsInHarmedFieldAreLocal : {State : Type 0} → (ends : Ends State) → (Good : State → Type 0) → (kept : State → Option KeptReply) → Type 0
SessionsInHarmedFieldAreLocal {State = State} ends Good kept =
    (u : UnderWay State) (x : HarmedSession State) → IsSessionInHarmedField ends Good kept u x → IsSessionLocal ends Good kept x

-- `SessionsInHarmedFieldAreLocal`, for any instrument, in any state
abbrev pub SessionsWithDamageAreLocal : Type 0 → Type 0
SessionsWithDamageAreLocal State = OfAnyInstrument {State = State} (λ ends Good kept. SessionsInHarmedFieldAreLocal ends Good kept)

-- `SessionsInHarmedFieldAreLocal`, for the simulator, in any state whose values lie in their types (`IsFittingState`)
abbrev pub SimulatorsSessionsWithDamageAreLocal : Type 0
SimulatorsSessionsWithDamageAreLocal = SessionsInHarmedFieldAreLocal simulator_ends IsFittingState kept_of
