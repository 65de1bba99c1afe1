-- What is told a session, this project's own: its connections, a new start, and how far it is, in plain fields.
use Rattle.geocom_c.specs.Common.{Asked, IsWidth, Settlement, has_begun, Session, all_of, anew, anew_settles, current_of, is_ready, is_up, opening, WINDOW}
use Rattle.std.specs.Prelude.{◌≡◌, ◌≢◌, ◌↔◌, ◌≤◌, ℕ, List, [], length}
use Rattle.geocom_c.specs.FirstAre.{FirstAre}
use Rattle.geocom_c.specs.Rooms.{Effect, FaultLeavesAll, ReportsNoRoom, WritesFirst}
use Rattle.geocom_c.specs.SessionState.{IfOfSession, IsOfNoSession, IsOfSession, StandsForSession, flag_byte}
use Rattle.geocom_c.specs.Settled.{IsRecord}
use Rattle.geocom_c.specs.declared.answers.GeocomCount.{GeocomCount}
use Rattle.geocom_c.specs.declared.answers.GeocomStatus.{GeocomStatus}
use Rattle.geocom_c.specs.declared.header.TheConstants.{NO_CLIENT, NO_WIDTH}
use Rattle.geocom_c.specs.declared.session_state.GeocomSession.{GeocomSession}
use Rattle.geocom_c.specs.declared.settled.GeocomSettlement.{GeocomSettlement}

-- a state was made, with these settings: if the width is allowed it is that of a new session, and else it stays as it was
pub record IsInit (width timeout quiet : ℕ) (old new : GeocomSession) (fault : ℕ) : Type 0 where
  pub made : IsWidth width → (fault ≡ 0) × StandsForSession new (opening (record { width = width; timeout = timeout; quiet = quiet })) []
  pub refused : (IsWidth width → ⊥) → (fault ≡ NO_WIDTH) × (new ≡ old)

-- a session's state was told something that makes of a session what `told` says, and discards half a line: the fault is 0, and the
-- state (`old` before, `new` after) stands for that. The fault comes exactly of a state that is no session's, which has not changed
pub record IsTold (told : Session → Session) (old new : GeocomSession) (fault : ℕ) : Type 0 where
  pub stands : IfOfSession old (λ s rest. (fault ≡ 0) × StandsForSession new (told s) [])
  pub astray : (fault ≡ NO_CLIENT) ↔ IsOfNoSession old
  pub done : fault ≡ 0 → IsOfSession old
  pub refused : fault ≢ 0 → new ≡ old

-- what the session s settles if it begins anew
abbrev pub lost_anew : Session → List (Settlement Asked)
lost_anew s = anew_settles (has_begun s.standing.exchange) s

-- the session s began anew: the fault is 0, the state is the rule's, with no byte of a line, each request that was outstanding has a
-- record if the session had synchronized, and the count is that of these requests
pub record HasBegunAnew (s : Session) (state : GeocomSession) (told : GeocomCount) (records : List GeocomSettlement) : Type 0 where
  pub fault : told.fault ≡ 0
  pub stands : StandsForSession state (anew s) []
  pub count : told.count ≡ length (lost_anew s)
  pub recorded : FirstAre (IsRecord []) records (lost_anew s)

-- the fault is `NO_CLIENT` if and only if the list `room` has at least `least` items and the bytes of the state are no session's
abbrev pub ReportsNoSession : {A : Type 0} → (room : List A) → (least : ℕ) → GeocomSession → (fault : ℕ) → Type 0
ReportsNoSession room least state fault = (fault ≡ NO_CLIENT) ↔ ((least ≤ length room) × IsOfNoSession state)

-- what a restart did and returned: with enough room the session begins anew; each fault comes exactly for its reason, too little room
-- before a state that is no session's; and after a fault nothing has changed
pub record IsRestart (x : Effect GeocomSession GeocomSettlement) : Type 0 where
  pub restarted : WINDOW ≤ length x.before → IfOfSession x.old (λ s rest. HasBegunAnew s x.new x.told x.after)
  pub room : ReportsNoRoom x.before WINDOW x.told.fault
  pub astray : ReportsNoSession x.before WINDOW x.old x.told.fault
  pub done : x.told.fault ≡ 0 → IsOfSession x.old
  pub refused : FaultLeavesAll x.told x.old x.new x.before x.after
  pub written : WritesFirst x.told.count x.before x.after

-- what is said of the session s
abbrev pub status_of : Session → GeocomStatus
status_of s = record {
  interruptions = s.standing.stretch;
  sign_ons = s.standing.sign_ons;
  fault = 0;
  is_up = flag_byte (is_up s.standing.phase);
  is_ready = flag_byte (is_ready s);
  outstanding = all_of s;
  current = current_of s;
}

-- what is said of a state that is no session's
abbrev pub no_status : GeocomStatus
no_status = record { interruptions = 0; sign_ons = 0; fault = NO_CLIENT; is_up = 0; is_ready = 0; outstanding = 0; current = 0 }

-- what is returned of a state: what is said of its session, or that it is no session's
pub record IsStatus (state : GeocomSession) (status : GeocomStatus) : Type 0 where
  pub told : IfOfSession state (λ s rest. status ≡ status_of s)
  pub astray : IsOfNoSession state → status ≡ no_status
  pub done : status.fault ≡ 0 → IsOfSession state
