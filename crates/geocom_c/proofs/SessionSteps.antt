-- Steps of a session's state, and requests that it is asked.
use Rattle.geocom_c.proofs.Common.{◌≡◌, ◌≢◌, ◌↔◌, ◌⊎◌, inl, inr, ◌<◌, ◌≤◌, ◌&&◌, ◌∙◌, ℕ, Bool, true, false, not, List, Result, Ok, Err, if◌then◌else◌, nat_eq, refl, sym, ap, subst, arith, and_from, and_parts, cases_lt, eq-eqb, false_from_ne_true, false≢true, ne_eqb, not_from_false, Asked, OWN, Want, Send, Session, asked, asked_if, may_send, next_of, takes, IsAsk, WasSessionAsked, AsksOrRefuses, RequestRule, read_rule, IsOfNoSession, IsOfSession, StandsForSession, HasRoomToStep, IsStep, IsWant, unmoved_with, want_number, GeocomStep, LINE_ROOM, NO_CLIENT, NO_ROOM, NO_WANT, NOT_NOW, OWN_TARGET, GeocomSession, GeocomSettlement, Effect, settling_effect}
use Rattle.gc_session.specs.declared.session.NotTaken.{NotTaken}
use Rattle.gc_session.specs.declared.session.NotTaken.TheVariants.{NotNow, OwnTarget}

-- a step that was refused with this fault, for which its reason holds
pub never_stepped : (number now fault : ℕ) (old : GeocomSession) (before : List GeocomSettlement) (blank : List ℕ) (told : GeocomStep) → told ≡ unmoved_with fault → fault ≢ 0
    → (HasRoomToStep before blank → (want : Want) → number ≡ want_number want → IsOfNoSession old)
    → ((fault ≡ NO_ROOM) ↔ (HasRoomToStep before blank → ⊥))
    → ((fault ≡ NO_CLIENT) ↔ (HasRoomToStep before blank × IsOfNoSession old))
    → ((fault ≡ NO_WANT) ↔ (HasRoomToStep before blank × IsOfSession old × (IsWant number → ⊥)))
    → IsStep number now (settling_effect old old before before blank blank told)
never_stepped number now fault old before blank told same some none room astray wants =
    let e : told.fault ≡ fault = ap (λ (x : GeocomStep). x.fault) same in
    record {
      stepped = λ roomy want is s rest held. absurd (none roomy want is s rest held);
      room = (λ f. room.0 (sym e ∙ f), λ no. e ∙ room.1 no);
      astray = (λ f. astray.0 (sym e ∙ f), λ both. e ∙ astray.1 both);
      wants = (λ f. wants.0 (sym e ∙ f), λ all. e ∙ wants.1 all);
      done = λ zero. absurd (some (sym e ∙ zero));
      refused = λ _. (same ∙ ap unmoved_with (sym e), refl, refl, refl);
      written = record { few = omega (arith, ap (λ (x : GeocomStep). x.count) same); within = record { untouched = refl; length = refl } };
      lined = record { untouched = refl; length = refl };
    }

-- Faults of a request.

-- the fault of a request, by whether its target is that of the session's own, and by whether it is its turn
abbrev pub fault_if : (own may : Bool) → ℕ
fault_if own may = if own then OWN_TARGET else if may then 0 else NOT_NOW

pub fault_taken : (own may : Bool) → (not own && may) ≡ true → fault_if own may ≡ 0
fault_taken true may e = absurd (false≢true (and_parts (not true) may e).0)
fault_taken false true e = refl
fault_taken false false e = absurd (false≢true (and_parts (not false) false e).1)

pub fault_of_own : (own may : Bool) → fault_if own may ≡ OWN_TARGET → own ≡ true
fault_of_own true may e = refl
fault_of_own false true e = absurd (omega (arith, e))
fault_of_own false false e = absurd (omega (arith, e))

pub fault_not_now : (own may : Bool) → fault_if own may ≡ NOT_NOW → may ≡ false
fault_not_now true may e = absurd (omega (arith, e))
fault_not_now false true e = absurd (omega (arith, e))
fault_not_now false false e = refl

pub fault_none : (own may : Bool) → fault_if own may ≡ 0 → (not own && may) ≡ true
fault_none true may e = absurd (omega (arith, e))
fault_none false true e = and_from (not false) true refl refl
fault_none false false e = absurd (omega (arith, e))

pub no_other_fault : (own may : Bool) (n : ℕ) → n ≢ 0 → n ≢ NOT_NOW → n ≢ OWN_TARGET → fault_if own may ≡ n → ⊥
no_other_fault true may n zero now target e = target (sym e)
no_other_fault false true n zero now target e = zero (sym e)
no_other_fault false false n zero now target e = now (sym e)

-- where a request isn't taken, and n is the number of why, n is the fault, and isn't 0
pub fault_refused : (why : NotTaken) (n target : ℕ) (may : Bool) → (why ≡ NotNow → n ≡ NOT_NOW) → (why ≡ OwnTarget → n ≡ OWN_TARGET)
    → ((why ≡ OwnTarget) ↔ (target ≡ OWN)) → ((not (nat_eq target OWN) && may) ≡ true → ⊥) → (n ≡ fault_if (nat_eq target OWN) may) × (n ≢ 0)
fault_refused NotNow n target may now own iff never =
    let other : nat_eq target OWN ≡ false = ne_eqb target OWN (λ e. let bad : NotNow ≡ OwnTarget = iff.1 e in cc) in
    let none : may ≡ false = false_from_ne_true may (λ e. never (and_from (not (nat_eq target OWN)) may (not_from_false (nat_eq target OWN) other) e)) in
    let is = now refl in
    (is ∙ ap (λ b. fault_if b false) (sym other) ∙ ap (λ b. fault_if (nat_eq target OWN) b) (sym none), λ e. absurd (omega (arith, is, e)))
fault_refused OwnTarget n target may now own iff never =
    let same : nat_eq target OWN ≡ true = eq-eqb target OWN (iff.0 refl) in
    let is = own refl in
    (is ∙ ap (λ b. fault_if b may) (sym same), λ e. absurd (omega (arith, is, e)))

-- an error is another only if it is that
pub same_error : (why : NotTaken) (P : Type 0) → ((let r : Result Unit NotTaken = Err why in r) ≡ Err OwnTarget ↔ P) → (why ≡ OwnTarget) ↔ P
same_error why P iff = (λ e. iff.0 (ap (λ (x : NotTaken). let r : Result Unit NotTaken = Err x in r) e), λ p. let e = iff.1 p in cc)

-- a request that isn't taken leaves the session as it is
pub never_asked : (target : ℕ) (call : Asked) (wait : ℕ) (s : Session) (state : GeocomSession) (rest : List ℕ) → (takes target s ≡ true → ⊥) → StandsForSession state s rest
    → StandsForSession state (asked target call wait s) rest
never_asked target call wait s state rest never held =
    subst (λ b. StandsForSession state (asked_if b target call wait s) rest) (sym (false_from_ne_true (takes target s) never)) held

roomy_by : (room fault : ℕ) → ((fault ≡ NO_ROOM) ↔ (room < LINE_ROOM)) → fault ≡ 0 → (room < LINE_ROOM) ⊎ (LINE_ROOM ≤ room) → LINE_ROOM ≤ room
roomy_by room fault iff none (inl short) = absurd (omega (arith, iff.1 short, none))
roomy_by room fault iff none (inr wide) = wide

-- where a request has no fault, there was room for its line
pub roomy : (room fault : ℕ) → ((fault ≡ NO_ROOM) ↔ (room < LINE_ROOM)) → fault ≡ 0 → LINE_ROOM ≤ room
roomy room fault iff none = roomy_by room fault iff none (cases_lt room LINE_ROOM)

-- What was read.

module _ {X E : Type 0} (rule : RequestRule X E) (read : Result Asked ℕ) (r : AsksOrRefuses rule read) where
  -- a session that was asked for what was read was asked for something that `rule` asks for
  session_asked_as : (Meets : Session → Type 0) (state : GeocomSession) → WasSessionAsked (λ (request : Asked). read ≡ Ok request) Meets state → WasSessionAsked rule.is Meets state
  session_asked_as Meets state was =
      let found = r.asks was.asked was.is in
      record { session = was.session; rest = was.rest; asked = found.0; stands = was.stands; is = found.1; meets = was.meets }

  -- asking for what was read is asking for what is asked for
  pub asks_as : (target wait : ℕ) (x : Effect GeocomSession ℕ) → IsAsk (read_rule read) target wait x → IsAsk rule target wait x
  asks_as target wait x did = record {
    asked = λ room s rest request held is. did.asked room s rest (rule.to request) held (r.only request is);
    refuses = λ room s rest e held is. did.refuses room s rest (rule.number e) held (r.refused e is);
    room = did.room;
    astray = did.astray;
    own = λ e. session_asked_as (λ s. target ≡ OWN) x.old (did.own e);
    not_now = λ e. session_asked_as (λ s. may_send (next_of Send s) ≡ false) x.old (did.not_now e);
    done = λ e. session_asked_as (λ s. takes target s ≡ true) x.old (did.done e);
    refusal = λ of. let (fault, is, same) = did.refusal of in let found = r.refuses fault is in (found.0, found.1, same ∙ found.2);
    refused = did.refused;
    written = did.written;
  }
