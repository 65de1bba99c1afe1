-- What a session makes of a request that it is asked, this project's own.
use Rattle.geocom_c.specs.Common.{asked_line, Asked, OWN, Send, Session, asked, may_send, next_of, takes}
use Rattle.std.specs.Prelude.{◌≡◌, ◌≢◌, ◌≤◌, ℕ, true, false, List, length, Some, if◌then◌else◌, nat_eq}
use Rattle.geocom_c.specs.Beginning.{IsGiven}
use Rattle.geocom_c.specs.Rooms.{Effect, FaultLeavesAll, ReportsNoRoom, WritesWithin}
use Rattle.geocom_c.specs.Sending.{RequestRule}
use Rattle.geocom_c.specs.SessionState.{StandsForSession}
use Rattle.geocom_c.specs.Sessions.{ReportsNoSession}
use Rattle.geocom_c.specs.declared.header.TheConstants.{LINE_ROOM, NO_CLIENT, NO_ROOM, NOT_NOW, OWN_TARGET}
use Rattle.geocom_c.specs.declared.session_state.GeocomSession.{GeocomSession}

-- the fault of a well-formed request for this target, of the session s: that the target is that of the session's own requests, or that it
-- isn't a request's turn; 0 if the request is taken
abbrev pub ask_fault : (target : ℕ) → Session → ℕ
ask_fault target s = if nat_eq target OWN then OWN_TARGET else if may_send (next_of Send s) then 0 else NOT_NOW

-- the session s was asked `call`, for this target and with so long a wait: the fault is that of `ask_fault`; the state is that of the
-- session after it, which is the same one if the request isn't taken; and if it is, its line was written with CR LF, with the next id
pub record HasAsked (s : Session) (rest : List ℕ) (call : Asked) (target wait : ℕ) (x : Effect GeocomSession ℕ) : Type 0 where
  pub fault : x.told.fault ≡ ask_fault target s
  pub stands : StandsForSession x.new (asked target call wait s) rest
  pub given : x.told.fault ≡ 0 → IsGiven (Some (asked_line (Some s.client.next) call)) x.told.count x.after

-- the state is that of a session of which `Meets` holds, and it was asked for an x of which `Is` holds
pub record WasSessionAsked {X : Type 0} (Is : X → Type 0) (Meets : Session → Type 0) (state : GeocomSession) : Type 0 where
  pub session : Session
  pub rest : List ℕ
  pub asked : X
  pub stands : StandsForSession state session rest
  pub is : Is asked
  pub meets : Meets session

-- the fault is none of an ask's own: not 0, nor that of too little room, of a state that is no session's, of a request that isn't taken
abbrev pub IsOfAsked : (fault : ℕ) → Type 0
IsOfAsked fault = (fault ≢ 0) × (fault ≢ NO_ROOM) × (fault ≢ NO_CLIENT) × (fault ≢ NOT_NOW) × (fault ≢ OWN_TARGET)

-- what asking did and returned: a session takes what `rule` asks for if it is its turn (`HasAsked`), and refuses for the reasons that `rule`
-- has; each fault comes only for its reason, and after one nothing has changed
pub record IsAsk {X E : Type 0} (rule : RequestRule X E) (target wait : ℕ) (x : Effect GeocomSession ℕ) : Type 0 where
  -- if there is room for a line
  pub asked : LINE_ROOM ≤ length x.before → (s : Session) (rest : List ℕ) (request : X) → StandsForSession x.old s rest → rule.is request
      → HasAsked s rest (rule.to request) target wait x
  pub refuses : LINE_ROOM ≤ length x.before → (s : Session) (rest : List ℕ) (e : E) → StandsForSession x.old s rest → rule.is_not e
      → x.told.fault ≡ rule.number e
  -- what each fault says
  pub room : ReportsNoRoom x.before LINE_ROOM x.told.fault
  pub astray : ReportsNoSession x.before LINE_ROOM x.old x.told.fault
  pub own : x.told.fault ≡ OWN_TARGET → WasSessionAsked rule.is (λ s. target ≡ OWN) x.old
  pub not_now : x.told.fault ≡ NOT_NOW → WasSessionAsked rule.is (λ s. may_send (next_of Send s) ≡ false) x.old
  pub done : x.told.fault ≡ 0 → WasSessionAsked rule.is (λ s. takes target s ≡ true) x.old
  pub refusal : IsOfAsked x.told.fault → (e : E) × rule.is_not e × (x.told.fault ≡ rule.number e)
  -- what stays
  pub refused : FaultLeavesAll x.told x.old x.new x.before x.after
  pub written : WritesWithin x.told.count x.before x.after
