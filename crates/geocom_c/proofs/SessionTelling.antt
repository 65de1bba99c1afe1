-- What is told a session's state.
use Rattle.geocom_c.proofs.Common.{◌≡◌, ◌≤◌, ◌∙◌, ℕ, suc, Bool, not, List, [], ◌∷◌, length, Option, Some, refl, sym, ap, subst, arith, filter, cond_both, length-map, Asked, IsWidth, deadlines, Pending, Standing, same_Some, Session, all_of, current_of, is_ready, is_up, IsOfNoSession, StandsForSession, flag_byte, IsTold, status_of, NO_CLIENT, GeocomSession}
use Rattle.geocom_c.specs.declared.answers.GeocomStatus.{GeocomStatus}
use Rattle.geocom_c.proofs.SessionSettings.{still_allowed}

-- a session that is stored is stored as what it is equal to
pub stored_as : (new : GeocomSession) (t u : Session) → t ≡ u → (IsWidth t.settings.width → StandsForSession new t []) → IsWidth u.settings.width → StandsForSession new u []
stored_as new t u same stored = subst (λ (x : Session). IsWidth x.settings.width → StandsForSession new x []) same stored

module _ (old : GeocomSession) (loaded : Option Session) (only : (s : Session) (rest : List ℕ) → StandsForSession old s rest → loaded ≡ Some s) where
  -- what holds of the session that was loaded holds of each that the state stands for
  pub of_each : (P : Session → Type 0) (x : Session) → loaded ≡ Some x → P x → (s : Session) (rest : List ℕ) → StandsForSession old s rest → P s
  of_each P x is holds s rest stands = subst P (same_Some x s (sym is ∙ only s rest stands)) holds

  -- a state that was told something, and stands for what that makes of its session
  pub was_told : (told : Session → Session) (new : GeocomSession) (x t : Session) (rest : List ℕ) → loaded ≡ Some x → StandsForSession old x rest → t ≡ told x
      → (IsWidth t.settings.width → StandsForSession new t []) → (told x).settings ≡ x.settings → IsTold told old new 0
  was_told told new x t rest is stands made stored same = record {
    stands = λ s r held. (
      refl,
      of_each (λ (u : Session). StandsForSession new (told u) []) x is
          (stored_as new t (told x) made stored (still_allowed x.settings (told x).settings same stands.settings.allowed)) s r held,
    );
    astray = (λ e. absurd (omega (arith, e)), λ none. absurd (none x rest stands));
    done = λ _. (x, rest, stands);
    refused = λ fault. absurd (fault refl);
  }

-- a state that is no session's
pub never_told : (told : Session → Session) (old : GeocomSession) → IsOfNoSession old → IsTold told old old NO_CLIENT
never_told told old none = record {
  stands = λ s rest held. absurd (none s rest held);
  astray = (λ _. none, λ _. refl);
  done = λ e. absurd (omega (arith, e));
  refused = λ _. refl;
}

-- a list has no fewer items than what a test leaves of it
filter_few : {A : Type 0} (test : A → Bool) (xs : List A) → length (filter test xs) ≤ length xs
filter_few test [] = omega arith
filter_few test (x ∷ xs) =
    cond_both (test x) (x ∷ filter test xs) (filter test xs) (λ ys. length ys ≤ suc (length xs)) (λ _. omega (arith, filter_few test xs)) (λ _. omega (arith, filter_few test xs))

-- no more requests are current than are outstanding
pub current_few : (ps : List (Pending Asked)) → length (deadlines ps) ≤ length ps
current_few ps = omega (arith, length-map (filter (λ (p : Pending Asked). not p.given_up) ps) (λ (p : Pending Asked). p.deadline), filter_few (λ (p : Pending Asked). not p.given_up) ps)

-- what is said of a session, by its parts
abbrev pub status_by : (t : Standing) (up ready waiting current : ℕ) → GeocomStatus
status_by t up ready waiting current = record {
  interruptions = t.stretch;
  sign_ons = t.sign_ons;
  fault = 0;
  is_up = up;
  is_ready = ready;
  outstanding = waiting;
  current = current;
}

-- what is said of the session s, if its parts are these
pub same_status : (s : Session) (t : Standing) (up ready : Bool) (u r waiting current : ℕ) → t ≡ s.standing → up ≡ is_up t.phase → ready ≡ is_ready s
    → u ≡ flag_byte up → r ≡ flag_byte ready → waiting ≡ all_of s → current ≡ current_of s → status_by t u r waiting current ≡ status_of s
same_status s t up ready u r waiting current a b d e f g h =
    ap (λ (x : Standing). status_by x u r waiting current) a
    ∙ ap (λ n. status_by s.standing n r waiting current) (e ∙ ap flag_byte (b ∙ ap (λ (x : Standing). is_up x.phase) a))
    ∙ ap (λ n. status_by s.standing (flag_byte (is_up s.standing.phase)) n waiting current) (f ∙ ap flag_byte d)
    ∙ ap (λ n. status_by s.standing (flag_byte (is_up s.standing.phase)) (flag_byte (is_ready s)) n current) g
    ∙ ap (λ n. status_by s.standing (flag_byte (is_up s.standing.phase)) (flag_byte (is_ready s)) (all_of s) n) h
