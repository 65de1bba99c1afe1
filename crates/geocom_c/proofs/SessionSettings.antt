-- A session's settings stay as they are, and what it loses is outstanding.
use Rattle.geocom_c.proofs.Common.{◌≡◌, ℕ, Bool, true, false, List, [], map, refl, sym, subst, Asked, IsWidth, settlement_seen, Settings, Want, Session, anew, anew_settles, asked, asked_if, at_step, begun_anew, line_came, next_of, settled_by, sign_on_noted, stepped, takes, with_standing, is_sign_on, AreLost}
use Rattle.gc_client.specs.declared.settlement.Settlement.{Settlement}
use Rattle.geocom_c.proofs.NextSteps.{each_line, each_next}
use Rattle.gc_session.specs.Exchange as exchange

-- a width is allowed in settings that are the same
pub still_allowed : (x y : Settings) → y ≡ x → IsWidth x.width → IsWidth y.width
still_allowed x y same allowed = subst (λ (z : Settings). IsWidth z.width) (sym same) allowed

pub stepped_settings : (want : Want) (now : ℕ) (s : Session) → (stepped want now s).settings ≡ s.settings
stepped_settings want now s =
    each_next (λ (t : Session) lost. t.settings ≡ s.settings) (at_step want now s) refl refl refl refl refl refl (next_of want (at_step want now s))

asked_if_settings : (may : Bool) (target : ℕ) (call : Asked) (wait : ℕ) (s : Session) → (asked_if may target call wait s).settings ≡ s.settings
asked_if_settings true target call wait s = refl
asked_if_settings false target call wait s = refl

pub asked_settings : (target : ℕ) (call : Asked) (wait : ℕ) (s : Session) → (asked target call wait s).settings ≡ s.settings
asked_settings target call wait s = asked_if_settings (takes target s) target call wait s

begun_anew_settings : (begun : Bool) (s : Session) → (begun_anew begun s).settings ≡ s.settings
begun_anew_settings true s = refl
begun_anew_settings false s = refl

pub anew_settings : (s : Session) → (anew s).settings ≡ s.settings
anew_settings s = begun_anew_settings (exchange.has_begun s.standing.exchange) s

pub line_came_settings : (line : List ℕ) (s : Session) → (line_came line s).settings ≡ s.settings
line_came_settings line s =
    each_line (λ (t : Session) settled. t.settings ≡ s.settings) line (with_standing (sign_on_noted (is_sign_on line)) s) refl refl refl s.standing.phase
    (exchange.has_begun s.standing.exchange)

-- What is lost.

pub anew_lost : (begun : Bool) (s : Session) (settled : List (Settlement Asked)) → map settlement_seen settled ≡ anew_settles begun s → AreLost settled
anew_lost true s settled e = (s.client.waiting, e)
anew_lost false s settled e = ([], e)

pub step_lost : (want : Want) (s : Session) (settled : List (Settlement Asked)) → map settlement_seen settled ≡ settled_by (next_of want s) s → AreLost settled
step_lost want s settled =
    each_next (λ (t : Session) lost. map settlement_seen settled ≡ lost → AreLost settled) s
    (λ e. ([], e)) (λ e. ([], e)) (λ e. ([], e)) (λ e. ([], e)) (λ e. (s.client.waiting, e)) (λ e. ([], e)) (next_of want s)
