-- Frames that are fed to a session: what a line settles, and what is told of it.
use Rattle.geocom_c.proofs.Common.{◌≡◌, ◌<◌, ◌≤◌, ℕ, List, [], ◌∷◌, length, nat_lt, Result, Ok, Err, refl, ap, arith, lt-ltb, length-map, reply_at, ReplyFields, LineFault, Frame, Line, Cleared, Overlong, More, Asked, Settlement, expired, heard, hears, id_in, WINDOW, has_begun, Session, line_settles, fault_number_in, line_kind, at_feed, session_past, StandsForSession, AnswersHaveLine, SETTLED, GeocomSession}
use Rattle.geocom_c.proofs.Counts.{HasCounts, came_counts, line_came_counts}
use Rattle.geocom_c.proofs.NextSteps.{each_line}
use Rattle.geocom_c.proofs.Records.{heard_have_line}
use Rattle.geocom_c.proofs.SessionSettings.{line_came_settings}

-- Lines.

-- each request that a session settles by a line as answered has this line
pub session_have_line : (line : List ℕ) (s : Session) → AnswersHaveLine line (line_settles line s)
session_have_line line s =
    each_line (λ t (settled : List (Settlement Asked)). AnswersHaveLine line settled) line s tt (heard_have_line s.client line (heard line)) tt s.standing.phase
    (has_begun s.standing.exchange)

-- a line that is no reply settles nothing
pub unread_settles_none : (line : List ℕ) (s : Session) (fault : LineFault) → reply_at line ≡ Err fault → length (line_settles line s) ≡ 0
unread_settles_none line s fault e =
    each_line (λ t (settled : List (Settlement Asked)). length settled ≡ 0) line s refl
    (ap (λ (r : Result ReplyFields LineFault). length (hears s.client line (id_in r)).settlements) e) refl s.standing.phase (has_begun s.standing.exchange)

-- a line that settles n requests, more than none, has the kind of a line that settled, and no fault
pub kind_if_settled : (r : Result ReplyFields LineFault) (n : ℕ) → ((fault : LineFault) → r ≡ Err fault → n ≡ 0) → 0 < n
    → (line_kind r (nat_lt 0 n) ≡ SETTLED) × (fault_number_in r ≡ 0)
kind_if_settled (Ok reply) n none some = (ap (line_kind (Ok reply)) (lt-ltb 0 n some), refl)
kind_if_settled (Err fault) n none some = absurd (omega (arith, none fault refl, some))

-- Sessions.

pub past_settings : (f : Frame) (s : Session) → (session_past s f).settings ≡ s.settings
past_settings (Line line) s = line_came_settings line.items s
past_settings Cleared s = refl
past_settings Overlong s = refl
past_settings More s = refl

pub past_counts : (f : Frame) (s : Session) → length s.client.waiting ≤ WINDOW → HasCounts s → HasCounts (session_past s f)
past_counts (Line line) s few c = line_came_counts line.items s few c
past_counts Cleared s few c = c
past_counts Overlong s few c = c
past_counts More s few c = c

-- as many requests are outstanding once bytes came
pub few_at_feed : (now : ℕ) (bytes : List ℕ) (s : Session) → length s.client.waiting ≤ WINDOW → length (at_feed now bytes s).client.waiting ≤ WINDOW
few_at_feed now [] s few = few
few_at_feed now (byte ∷ bytes) s few = omega (arith, length-map s.client.waiting (expired now), few)

pub at_feed_counts : (now : ℕ) (bytes : List ℕ) (s : Session) → HasCounts s → HasCounts (at_feed now bytes s)
at_feed_counts now [] s c = c
at_feed_counts now (byte ∷ bytes) s c = came_counts now s c

pub at_feed_settings : (now : ℕ) (bytes : List ℕ) (s : Session) → (at_feed now bytes s).settings ≡ s.settings
at_feed_settings now [] s = refl
at_feed_settings now (byte ∷ bytes) s = refl

-- no more requests are outstanding than a window has places for
pub held_few : (state : GeocomSession) (s : Session) (rest : List ℕ) → StandsForSession state s rest → length s.client.waiting ≤ WINDOW
held_few state s rest held = omega (arith, held.client.waiting, held.client.head.few, held.client.head.width.1)
