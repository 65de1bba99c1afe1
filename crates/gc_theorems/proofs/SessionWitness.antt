-- Calls on a session that meet each premise of `EachSessionIsOwn`, computed: so the laws that say it aren't about nothing.
use Rattle.gc_theorems.proofs.Common.{◌≡◌, ◌⊎◌, ℕ, Bool, true, false, List, [], ◌∷◌, ◌++◌, map, None, inl, inr, refl, sym, ap, ◌∙◌, arith, codes, take, header_at, reply_at, Asked, Table, Raw, RawCall, InstrumentNo, NullProc, the_word, ById, Settlement, fresh, pending_of, WINDOW, exec, handed, IsFittingState, simulator_opening, Steps, Hears, Opens, Restarts, events_all, settled_all, settles, ClientEvent, Session, OWN, events_over, simulator_ends, counting, kept_by, AnyState, kept_of}
use Rattle.std.specs.Prelude.{drop}
use Rattle.std.specs.Fmt.{digits}
use Rattle.gc_session.specs.Prelude.{Call, Asks, after, events_of, opening}
use Rattle.gc_session.specs.declared.settings.Want.TheVariants.{Send}
use Rattle.gc_session.specs.declared.standing.Phase.{Phase}
use Rattle.gc_theorems.specs.SessionWitness.{Exchange, IsSessionInField, SomeSessionIsInField, counting_exchange, events, moves, old_reply, old_reply_alone, runs, settings, simulator_exchange}
use Rattle.gc_theorems.proofs.CountingChain.{counted_in_field}
use Rattle.gc_theorems.proofs.Instruments.{simulator_is_an_instrument}
use Rattle.gc_theorems.proofs.Witness.{opening_fits, units}
use Rattle.gc_session.specs.declared.standing.Phase.TheVariants as phase

-- the word, whose first id is 6, isn't in flight where nothing is but one reply with id 1
one_reply_isnt_the_word : {A : Type 0} → (◌≡◌ {A = ℕ} 6 1 × A) ⊎ ⊥ → ⊥
one_reply_isnt_the_word (inl f) = absurd (omega (arith, f.0))
one_reply_isnt_the_word (inr f) = f

-- a session at one point of these calls
abbrev at_point : Phase → (stretch : ℕ) → (has_asked : Bool) → (word : List ℕ) → (again : ℕ) → (asked : Bool) → (behind : ℕ) → ById Asked → Session
at_point phase stretch has_asked word again asked behind client = record {
  settings = settings;
  standing = record {
    phase = phase;
    moment = 0;
    patience = 100;
    stretch = stretch;
    sign_ons = 0;
    has_asked = has_asked;
    rests = None;
    listened = false;
    exchange = record { word = word; again = again; hold = 0; since = 0; alive = 0; asked = asked; pause = 0; behind = behind; last_ended = 1; doubtful = false };
  };
  client = client;
}

-- a call, and the session after it
abbrev Step : Type 0
Step = Call × Session

-- these steps, one after the other, lead from the session s on
abbrev AreSteps : Session → List Step → Type 0
AreSteps s [] = Unit {0}
AreSteps s (x ∷ xs) = (after x.0 s ≡ x.1) × AreSteps x.1 xs

-- the events of steps from the session s on
abbrev events_in : Session → List Step → List ClientEvent
events_in s [] = []
events_in s (x ∷ xs) = events_of x.0 s ++ events_in x.1 xs

-- what steps from the session s on settle
abbrev settled_in : Session → List Step → List (Settlement Asked)
settled_in s [] = []
settled_in s (x ∷ xs) = settles x.0 s ++ settled_in x.1 xs

-- the calls of steps have the events of the steps, and settle what these do
walked : (s : Session) (xs : List Step) → AreSteps s xs → (events_all (map (λ (x : Step). x.0) xs) s ≡ events_in s xs) × (settled_all (map (λ (x : Step). x.0) xs) s ≡ settled_in s xs)
walked s [] h = (refl, refl)
walked s (x ∷ xs) h =
    let calls = map (λ (x : Step). x.0) xs in
    let more = walked x.1 xs h.1 in (
      ap (λ l. events_of x.0 s ++ l) (ap (λ u. events_all calls u) h.0 ∙ more.0),
      ap (λ l. settles x.0 s ++ l) (ap (λ u. settled_all calls u) h.0 ∙ more.1),
    )

-- one step more, which is computed
on : {S R : Type 0} {s : S} → R → (s ≡ s) × R
on r = (refl, r)

-- the session while it synchronizes: these ids of the word aren't answered
abbrev synchronizing : (word : List ℕ) → (again : ℕ) → (asked : Bool) → Session
synchronizing word again asked = at_point phase.Ready 0 false word again asked 7 fresh

-- the steps in which these lines answer the ids of the word, and before each line but the first a null procedure is asked for
abbrev answering : (lines : List (List ℕ)) → (word : List ℕ) → List Step → List Step
answering (line ∷ []) (id ∷ word) later = (Hears line, synchronizing word 0 false) ∷ later
answering (line ∷ next ∷ lines) (id ∷ word) later = (Hears line, synchronizing word 0 false) ∷ (Steps Send 0, synchronizing word 100 true) ∷ answering (next ∷ lines) word later
answering _ _ later = later

-- the steps of these calls; `behind` says how many requests follow the last call of the table that a reply ended, once all are answered
abbrev steps : (behind : ℕ) → Exchange → List Step
steps behind x =
    let first = pending_of 7 (Table InstrumentNo) 9 in
    let second = pending_of 8 x.asked 9 in
    (Opens 0, at_point phase.Clearing 0 false the_word 0 false 7 fresh)
    ∷ (Steps Send 0, synchronizing the_word 0 false)
    ∷ (Steps Send 0, synchronizing the_word 100 true)
    ∷ (Hears old_reply, synchronizing the_word 100 false)
    ∷ answering x.nulls the_word
    ((Steps Send 0, at_point phase.Ready 0 false [] 0 true 7 (record { next = 1; waiting = pending_of OWN (Table NullProc) 100 ∷ [] }))
    ∷ (Hears x.null, at_point phase.Ready 0 false [] 0 false 0 (record { next = 1; waiting = [] }))
    ∷ (Asks 7 (Table InstrumentNo) 9, at_point phase.Ready 0 true [] 0 true 1 (record { next = 2; waiting = first ∷ [] }))
    ∷ (Asks 8 x.asked 9, at_point phase.Ready 0 true [] 0 true 2 (record { next = 3; waiting = first ∷ second ∷ [] }))
    ∷ (Hears x.one, at_point phase.Ready 0 true [] 0 false 1 (record { next = 3; waiting = second ∷ [] }))
    ∷ (Hears x.other, at_point phase.Ready 0 true [] 0 false behind (record { next = 3; waiting = [] }))
    ∷ (Restarts, at_point phase.Clearing 1 true the_word 0 false 7 fresh)
    ∷ (Steps Send 0, at_point phase.Ready 1 true the_word 0 false 7 fresh)
    ∷ (Steps Send 0, at_point phase.Ready 1 true the_word 100 true 7 fresh)
    ∷ [])

-- the steps over the instrument that counts, computed
steps_counting : (raw : RawCall) → AreSteps (opening settings) (steps 1 (counting_exchange raw))
unfolding header_at reply_at
steps_counting raw = on (on (on (on (on (on (on (on (on (on (on (on (on (on (on (on (on (on (on (on (on (on (on (on (on (on (on (on tt)))))))))))))))))))))))))))

-- the steps over the simulator, computed
steps_simulator : AreSteps (opening settings) (steps 0 simulator_exchange)
unfolding header_at reply_at
steps_simulator = on (on (on (on (on (on (on (on (on (on (on (on (on (on (on (on (on (on (on (on (on (on (on (on (on (on (on (on tt)))))))))))))))))))))))))))

-- the events of the runs over the instrument that counts
runs_counting : (raw : RawCall) → events_over WINDOW counting (old_reply_alone (record { count = 27; keeps = None })) (runs (counting_exchange raw)) ≡ events (counting_exchange raw)
unfolding header_at reply_at digits
runs_counting raw = refl

-- the events of the runs over the simulator
runs_simulator : events_over WINDOW simulator_ends (old_reply_alone simulator_opening) (runs simulator_exchange) ≡ events simulator_exchange
unfolding header_at reply_at handed exec digits
runs_simulator = refl

-- the calls over an instrument that counts meet every premise of `EachSessionIsOwn` (`IsSessionInField`)
over_counting : (raw : RawCall) → IsSessionInField counting AnyState kept_by (record { count = 27; keeps = None }) (counting_exchange raw)
unfolding header_at reply_at digits
over_counting raw =
    record {
      instrument = counted_in_field.instrument;
      lines = record { ids = tt; good = tt };
      may = one_reply_isnt_the_word;
      over = record {
        events = (walked (opening settings) (steps 1 (counting_exchange raw)) (steps_counting raw)).0 ∙ sym (runs_counting raw);
        possible = (
          (units 25, (tt, (tt, (tt, ((8, [], refl), (tt, (tt, (tt, (tt, ((9, record { number = 10; line = codes "%R1P,0,2:0,38" } ∷ [], refl), ((10, [], refl), tt))))))))))),
          (((tt, tt), tt), tt),
        );
      };
      settlements = (walked (opening settings) (steps 1 (counting_exchange raw)) (steps_counting raw)).1;
      first_made_on = record {
        front = take 6 (moves (counting_exchange raw));
        later = drop 7 (moves (counting_exchange raw));
        split = refl;
        id = 1;
        rest = record { number = 10; line = record { id = 2; call = Raw raw } } ∷ [];
        reaches = refl;
        executed = refl;
        reply = refl;
      };
      second_made_on = record { front = take 7 (moves (counting_exchange raw)); later = drop 8 (moves (counting_exchange raw)); split = refl; id = 2; rest = []; reaches = refl; executed = refl; reply = refl };
    }

-- the calls over the simulator meet every premise of `EachSessionIsOwn` (`IsSessionInField`)
over_simulator : IsSessionInField simulator_ends IsFittingState kept_of simulator_opening simulator_exchange
unfolding header_at reply_at handed exec digits
over_simulator =
    record {
      instrument = simulator_is_an_instrument.instrument;
      lines = record { ids = tt; good = opening_fits };
      may = one_reply_isnt_the_word;
      over = record {
        events = (walked (opening settings) (steps 0 simulator_exchange) steps_simulator).0 ∙ sym runs_simulator;
        possible = (
          (units 25, (tt, (tt, (tt, ((8, [], refl), (tt, (tt, (tt, (tt, ((9, record { number = 10; line = codes "%R1P,0,2:0,123456" } ∷ [], refl), ((10, [], refl), tt))))))))))),
          (((tt, tt), tt), tt),
        );
      };
      settlements = (walked (opening settings) (steps 0 simulator_exchange) steps_simulator).1;
      first_made_on = record {
        front = take 6 (moves simulator_exchange);
        later = drop 7 (moves simulator_exchange);
        split = refl;
        id = 1;
        rest = record { number = 10; line = record { id = 2; call = Table InstrumentNo } } ∷ [];
        reaches = refl;
        executed = refl;
        reply = refl;
      };
      second_made_on = record { front = take 7 (moves simulator_exchange); later = drop 8 (moves simulator_exchange); split = refl; id = 2; rest = []; reaches = refl; executed = refl; reply = refl };
    }

-- the law: there are calls on a session that meet every premise of the laws
pub some_session_is_in_field : SomeSessionIsInField
some_session_is_in_field = record { any = over_counting; simulator = over_simulator }
