-- What the bytes of a session's state stand for: a session, and the bytes since the last line feed. This project's own.
use Rattle.geocom_c.specs.Common.{IsWidth, WINDOW, Session}
use Rattle.std.specs.Prelude.{◌≡◌, ℕ, ◌≤◌, Bool, List, if◌then◌else◌, Option, Some, None}
use Rattle.gc_session.specs.declared.exchange.Exchange.{Exchange}
use Rattle.gc_session.specs.declared.settings.Settings.{Settings}
use Rattle.gc_session.specs.declared.standing.Phase.{Phase}
use Rattle.gc_session.specs.declared.standing.Standing.{Standing}
use Rattle.geocom_c.specs.Rest.{IsRest}
use Rattle.geocom_c.specs.State.{StandsForClient, left_of}
use Rattle.geocom_c.specs.declared.state.GeocomClient.{GeocomClient}
use Rattle.geocom_c.specs.declared.session_state.GeocomSession.{GeocomSession}
use Rattle.gc_session.specs.declared.standing.Phase.TheVariants as phase

-- the byte of a flag
abbrev pub flag_byte : Bool → ℕ
flag_byte flag = if flag then 1 else 0

-- the byte of a phase
abbrev pub phase_byte : Phase → ℕ
phase_byte phase.Down = 0
phase_byte phase.Pausing = 1
phase_byte phase.Clearing = 2
phase_byte phase.Draining = 3
phase_byte phase.Ready = 4

-- a flag and a moment say since when nothing is wanted (`Some`), or that something is (`None`)
abbrev pub RestsSince : (flag moment : ℕ) → Option ℕ → Type 0
RestsSince flag moment None = flag ≡ 0
RestsSince flag moment (Some since) = (flag ≡ 1) × (moment ≡ since)

-- the counts of an exchange are those of a window
pub record AreCounts (x : Exchange) : Type 0 where
  pub behind : x.behind ≤ WINDOW
  pub ended : 1 ≤ x.last_ended
  pub few : x.last_ended ≤ WINDOW

-- the bytes of a state are those of this exchange
pub record HoldsExchange (s : GeocomSession) (x : Exchange) : Type 0 where
  pub word : left_of s.client ≡ x.word
  pub again : s.null_deadline ≡ x.again
  pub hold : s.hold_until ≡ x.hold
  pub since : s.wait_since ≡ x.since
  pub alive : s.no_reply_since ≡ x.alive
  pub asked : s.awaits_reply ≡ flag_byte x.asked
  pub pause : s.pause ≡ x.pause
  pub behind : s.requests_since_table_call ≡ x.behind
  pub last_ended : s.last_ended ≡ x.last_ended
  pub doubtful : s.must_resynchronize ≡ flag_byte x.doubtful
  pub counts : AreCounts x

-- the bytes of a state are those of this standing
pub record HoldsStanding (s : GeocomSession) (t : Standing) : Type 0 where
  pub phase : s.phase ≡ phase_byte t.phase
  pub moment : s.moment ≡ t.moment
  pub patience : s.patience ≡ t.patience
  pub stretch : s.interruptions ≡ t.stretch
  pub sign_ons : s.sign_ons ≡ t.sign_ons
  pub has_asked : s.has_asked ≡ flag_byte t.has_asked
  pub rests : RestsSince s.is_idle s.idle_since t.rests
  pub listened : s.has_listened ≡ flag_byte t.listened
  pub exchange : HoldsExchange s t.exchange

-- the bytes of a state are those of these settings
pub record HoldsSettings (s : GeocomSession) (settings : Settings) : Type 0 where
  pub width : s.width ≡ settings.width
  pub timeout : s.timeout ≡ settings.timeout
  pub quiet : s.settle ≡ settings.quiet
  pub allowed : IsWidth settings.width

-- the bytes of a state are those of this session, and the bytes `rest` came since the last line feed
pub record StandsForSession (s : GeocomSession) (session : Session) (rest : List ℕ) : Type 0 where
  pub settings : HoldsSettings s session.settings
  pub standing : HoldsStanding s session.standing
  pub client : StandsForClient s.client (record { width = WINDOW; ids = session.client }) rest

-- if the bytes of a state are some session's, `claim` holds of that session and of the bytes since the last line feed
abbrev pub IfOfSession : GeocomSession → (claim : (session : Session) → (rest : List ℕ) → Type 0) → Type 0
IfOfSession s claim = (session : Session) (rest : List ℕ) → StandsForSession s session rest → claim session rest

-- the bytes of a state are no session's
abbrev pub IsOfNoSession : GeocomSession → Type 0
IsOfNoSession s = IfOfSession s (λ session rest. ⊥)

-- the bytes of a state are some session's
abbrev pub IsOfSession : GeocomSession → Type 0
IsOfSession s = (session : Session) × (rest : List ℕ) × StandsForSession s session rest

-- no part of a promise: a client's bytes stay, but for how many null procedures are answered, which is a valid count
pub record KeepsClient (old new : GeocomClient) : Type 0 where
  pub same : new ≡ record old { answered = new.answered }
  pub answered : new.answered ≤ 8

-- no part of a promise: if the state `old` has a valid rest of a line, the state `new` stands for this session, with that rest
abbrev pub StoresSession : (old new : GeocomSession) → Session → Type 0
StoresSession old new session = (rest : List ℕ) → IsRest old.client.rest rest → IsWidth session.settings.width → StandsForSession new session rest
