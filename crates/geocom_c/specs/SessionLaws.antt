-- What holds of calls of C on a session's state if there is an instrument at the other end, this project's own: what holds of the session on
-- which these are calls.
use Rattle.geocom_c.specs.Common.{AllByRecursion, Asked, Settlement, WINDOW, KeptReply, settled_all, opening, OWN, IsWellFormed, LacksTheWord, UnderWay, PlacedRun, placed_runs, OfAnyInstrument, HasExecution, IsSessionOver, SessionRun, Ends}
use Rattle.std.specs.Prelude.{◌≡◌, ◌≢◌, ℕ, List, [], take, Option}
use Rattle.gc_theorems.specs.Owned.{IsItsOwn}
use Rattle.geocom_c.specs.SessionCalls.{AreMade, ArePart, AreSideBySide, Handed, IsHanded, KeepsSession, SessionCall, handed_all}
use Rattle.geocom_c.specs.SessionState.{StandsForSession}
use Rattle.geocom_c.specs.declared.header.TheConstants.{ANSWERED, LATE}
use Rattle.geocom_c.specs.declared.session_state.GeocomSession.{GeocomSession}

module _ {State : Type 0} (ends : Ends State) (Good : State → Type 0) (kept : State → Option KeptReply) where
  -- a record that was handed out says how this request ended. If the request isn't the session's own, and the record is that of an answer,
  -- its line was made by the instrument on executing that very request; and if it is that of a late reply, the instrument executed it
  pub record IsOwnHanded (ps : List (PlacedRun State)) (h : Handed) (s : Settlement Asked) : Type 0 where
    pub is : IsHanded h s
    pub answer : h.settlement.target ≢ OWN → h.settlement.outcome ≡ ANSWERED → IsItsOwn WINDOW ends Good kept ps s (take h.settlement.line_length h.text)
    pub late : h.settlement.target ≢ OWN → h.settlement.outcome ≡ LATE → HasExecution WINDOW ends Good kept ps s

-- over the ends `ends` with states of which `Good` holds, which retain the reply `kept`: the records that any calls hand out on the state of
-- a new session, which are the calls of `x` and make no other one, are those of its settlements, in order, and own (`IsOwnHanded`), if what happens on the line is
-- possible and its events are those of the calls (`IsSessionOver`); whatever is in flight at first (`u`), if it is well formed and the word
-- isn't in it
abbrev pub EachRecordIsOwn : {State : Type 0} → (ends : Ends State) → (Good : State → Type 0) → (kept : State → Option KeptReply) → Type 0
EachRecordIsOwn {State = State} ends Good kept =
    (old new : GeocomSession) (calls : List SessionCall) (x : SessionRun State) (last : List ℕ) → StandsForSession old (opening x.settings) []
    → AllByRecursion KeepsSession calls → AreMade old calls new
    → ArePart (opening x.settings) [] calls x.calls last → (u : UnderWay State) → IsWellFormed Good u → LacksTheWord u → IsSessionOver ends Good kept u x
    → AreSideBySide (IsOwnHanded ends Good kept (placed_runs WINDOW ends u x.runs)) (handed_all calls) (settled_all x.calls (opening x.settings))

-- `EachRecordIsOwn`, for any instrument, in any state
abbrev pub RecordsAreTheirOwn : Type 0 → Type 0
RecordsAreTheirOwn State = OfAnyInstrument {State = State} (λ ends Good kept. EachRecordIsOwn ends Good kept)
