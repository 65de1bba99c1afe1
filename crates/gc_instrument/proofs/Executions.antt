-- The outcome of every call is sound (`IsSoundOutcome`): the serial number, the name and the scene stay, the values are in range,
-- and a code other than 0 has no answer. Below, a state *fits* if `IsFittingState` holds of it.
use Rattle.gc_instrument.proofs.Common.{◌≡◌, ℕ, ℤ, pos, negsuc, ◌<◌, ◌≤◌, ◌&&◌, ◌||◌, Bool, true, false, cond, List, Option, Some, None, refl, sym, ap, subst, arith, and_parts, leb-true, int_lt, int_le, nat_le, unsigned_abs, int_eq, ints, Decimal, IsAnswerOf, IsFittingAnswer, IsFitting, date_values, Answer, Nothing, Call, NullProc, exec, done, refused, set_if, distance_outcome, commanded, searched, adjusted, measured, unmeasured, pointed, is_precision, is_prism, is_date, State, IsFittingState, IsFittingKept, opening_of, restarted, first_date, first_within, Target}
use Rattle.gc_values.specs.Prelude.{IsText, FitsLong, FitsShort, AreValues}
use Rattle.gc_catalogue.specs.declared.call.DateTime.{DateTime}
use Rattle.gc_instrument.specs.Faces.{face_number}
use Rattle.gc_instrument.specs.declared.face.Face.{Face}
use Rattle.gc_instrument.specs.declared.face.Face.TheVariants.{Normal, Turned}
use Rattle.gc_instrument.proofs.Keeping.{commanded_by_tests}
pub use Rattle.gc_instrument.specs.Outcomes.{IsSoundOutcome}

-- a call may lead from the state s to t: the serial number, the name and the scene stay, and t fits where s does
record MayLeadTo (s t : State) : Type 0 where
  same : opening_of t ≡ opening_of s
  fits : IsFittingState s → IsFittingState t

-- a call may leave the state as it is
may_stay : (s : State) → MayLeadTo s s
may_stay s = record { same = refl; fits = λ f. f }

-- a call may lead to a state with the same serial number, name, scene, precision, date, prism type and stored reply
leads_likewise : (s t : State) → opening_of t ≡ opening_of s → s.precision ≡ t.precision → s.date ≡ t.date → s.prism ≡ t.prism → s.kept ≡ t.kept
    → MayLeadTo s t
leads_likewise s t same p d r k = record {
  same = same;
  fits = λ f. record {
    precision = subst (λ (x : ℕ). x ≤ 15) p f.precision;
    serial = subst FitsLong (sym (ap (λ (x : State). x.serial) same)) f.serial;
    name = subst (λ (x : List ℕ). IsText x) (sym (ap (λ (x : State). x.name) same)) f.name;
    date = subst (λ (x : DateTime). AreValues (date_values x)) d f.date;
    prism = subst FitsLong r f.prism;
    kept = subst IsFittingKept k f.kept;
  };
}

-- an outcome with code 0 is sound if the call may lead to its state (`MayLeadTo`), and the answer is one of the call, and has its
-- values in range where s fits and the call's values are in range
done_outcome : (s t : State) (call : Call) (a : Answer) → MayLeadTo s t → IsAnswerOf call a → (IsFittingState s → IsFitting call → IsFittingAnswer a)
    → IsSoundOutcome s call (done t a)
done_outcome s t call a leads of_call answer_fits = record {
  same = leads.same;
  fits = leads.fits;
  code = omega arith;
  answers = λ _. of_call;
  refuses = λ h. absurd (h refl);
  answer_fits = answer_fits;
}

-- an outcome with a code from 1 to 65535, and no answer, is sound if the call may lead to its state (`MayLeadTo`)
refused_outcome : (s t : State) (call : Call) (code : ℕ) → MayLeadTo s t → 0 < code → code < 65536 → IsSoundOutcome s call (refused t code)
refused_outcome s t call code leads some small = record {
  same = leads.same;
  fits = leads.fits;
  code = small;
  answers = λ h. absurd (omega (arith, h));
  refuses = λ _. refl;
  answer_fits = λ _ _. tt;
}

-- the outcome of a call that only answers is sound if the answer is one of the call, and has its values in range where s fits and
-- the call's values are in range
answered_outcome : (s : State) (call : Call) (a : Answer) → IsAnswerOf call a → (IsFittingState s → IsFitting call → IsFittingAnswer a)
    → IsSoundOutcome s call (done s a)
answered_outcome s call a of_call answer_fits = done_outcome s s call a (may_stay s) of_call answer_fits

-- the outcome of a call that leads from the state s to t if that is allowed (b is true), and else is refused in s, is sound: if t
-- has the serial number, name and scene of s; if t, where it is allowed, fits whenever s does; and if the call is answered
-- without values
set_outcome : (b : Bool) (s t : State) (call : Call) → opening_of t ≡ opening_of s → (b ≡ true → IsFittingState s → IsFittingState t)
    → IsAnswerOf call Nothing → IsSoundOutcome s call (set_if b s t)
set_outcome true s t call same fits of_call = done_outcome s t call Nothing (record { same = same; fits = fits refl }) of_call (λ _ _. tt)
set_outcome false s t call same fits of_call = refused_outcome s s call 2 (may_stay s) (omega arith) (omega arith)

-- the outcome of a call that answers with the distance d, or is refused if there is none, is sound if the call may lead to its state
-- (`MayLeadTo`), and the answer with any distance is one of the call, and has its values in range where the call's are
distance_sound : (s t : State) (call : Call) (answer_with : Decimal → Answer) (d : Option Decimal) → MayLeadTo s t
    → ((x : Decimal) → IsAnswerOf call (answer_with x)) → ((x : Decimal) → IsFitting call → IsFittingAnswer (answer_with x))
    → IsSoundOutcome s call (distance_outcome t answer_with d)
distance_sound s t call answer_with (Some d) leads of_call answer_fits = done_outcome s t call (answer_with d) leads (of_call d) (λ _ c. answer_fits d c)
distance_sound s t call answer_with None leads of_call answer_fits = refused_outcome s t call 1285 leads (omega arith) (omega arith)

-- the outcome of a measuring command is sound, for a call that is answered without values
commanded_outcome : (s : State) (call : Call) (command : ℤ) → IsAnswerOf call Nothing → IsSoundOutcome s call (commanded s command)
commanded_outcome s call command of_call = by_tests (int_eq command (pos 0)) (int_eq command (pos 1)) (int_eq command (pos 3)) where
  -- whichever outcome the three tests of the command choose, it is sound
  by_tests : (a b c : Bool) → IsSoundOutcome s call (commanded_by_tests s a b c)
  by_tests true b c = answered_outcome s call Nothing of_call (λ _ _. tt)
  by_tests false true c = done_outcome s (measured s) call Nothing (leads_likewise s (measured s) refl refl refl refl refl) of_call (λ _ _. tt)
  by_tests false false true = done_outcome s (unmeasured s) call Nothing (leads_likewise s (unmeasured s) refl refl refl refl refl) of_call (λ _ _. tt)
  by_tests false false false = refused_outcome s s call 2 (may_stay s) (omega arith) (omega arith)

-- the outcome of a search that found a target, or none, is sound, for a call that is answered without values
adjusted_outcome : (s : State) (call : Call) (t : Option Target) → IsAnswerOf call Nothing → IsSoundOutcome s call (adjusted s t)
adjusted_outcome s call (Some t) of_call = done_outcome s (pointed s t.hz t.v) call Nothing (leads_likewise s (pointed s t.hz t.v) refl refl refl refl refl) of_call (λ _ _. tt)
adjusted_outcome s call None of_call = refused_outcome s s call 8710 (may_stay s) (omega arith) (omega arith)

-- the outcome of a search within areas is sound, for a call that is answered without values
searched_outcome : (s : State) (call : Call) (area_hz area_v : Decimal) → IsAnswerOf call Nothing → IsSoundOutcome s call (searched s area_hz area_v)
searched_outcome s call area_hz area_v of_call = by_test (int_lt area_hz.digits (pos 0) || int_lt area_v.digits (pos 0)) where
  -- whether an area is below zero (true) or none is, the outcome is sound
  by_test : (b : Bool) → IsSoundOutcome s call (cond b (refused s 2) (adjusted s (first_within s.pointing area_hz area_v s.scene)))
  by_test true = refused_outcome s s call 2 (may_stay s) (omega arith) (omega arith)
  by_test false = adjusted_outcome s call (first_within s.pointing area_hz area_v s.scene) of_call

-- What the tests of values imply.

-- a precision that is allowed is at most 15
precision_at_most_fifteen : (n : ℤ) → is_precision n ≡ true → unsigned_abs n ≤ 15
precision_at_most_fifteen (pos k) h = leb-true k 15 (and_parts (nat_le 0 k) (nat_le k 15) h).1
precision_at_most_fifteen (negsuc k) h = let wrong : ⊥ = cc in absurd wrong

-- a year from 1 to 9999 fits in a Short
year_fits : (z : ℤ) → int_le (pos 1) z ≡ true → int_le z (pos 9999) ≡ true → FitsShort z
year_fits (pos k) low high = let few : k ≤ 9999 = leb-true k 9999 high in (omega (arith, ints), omega (arith, ints, few))
year_fits (negsuc k) low high = let wrong : ⊥ = cc in absurd wrong

-- where all nine tests of a date hold (a to i, in the order of `is_date`), so do the seven that the ranges of its values need.
-- Those left out, c and e, say that month and day are at least 1
date_tests : (a b c d e f g h i : Bool) → a && b && c && d && e && f && g && h && i ≡ true
    → (a ≡ true) × (b ≡ true) × (d ≡ true) × (f ≡ true) × (g ≡ true) × (h ≡ true) × (i ≡ true)
date_tests a b c d e f g h i all =
    let abcdefgh = and_parts (a && b && c && d && e && f && g && h) i all in
    let abcdefg = and_parts (a && b && c && d && e && f && g) h abcdefgh.0 in
    let abcdef = and_parts (a && b && c && d && e && f) g abcdefg.0 in
    let abcde = and_parts (a && b && c && d && e) f abcdef.0 in
    let abcd = and_parts (a && b && c && d) e abcde.0 in
    let abc = and_parts (a && b && c) d abcd.0 in
    let ab = and_parts (a && b) c abc.0 in
    let both = and_parts a b ab.0 in (
      both.0,
      both.1,
      abc.1,
      abcde.1,
      abcdef.1,
      abcdefg.1,
      abcdefgh.1,
    )

-- the values of a date that the clock takes are in the ranges of their types
date_fits : (d : DateTime) → is_date d ≡ true → AreValues (date_values d)
date_fits d h =
    let t = date_tests (int_le (pos 1) d.year) (int_le d.year (pos 9999)) (nat_le 1 d.month) (nat_le d.month 12) (nat_le 1 d.day) (nat_le d.day 31)
    (nat_le d.hour 23) (nat_le d.minute 59) (nat_le d.second 59) h in
    let month = leb-true d.month 12 t.2 in
    let day = leb-true d.day 31 t.3 in
    let hour = leb-true d.hour 23 t.4 in
    let minute = leb-true d.minute 59 t.5 in
    let second = leb-true d.second 59 t.6 in
    (year_fits d.year t.0 t.1, (omega (arith, month), (omega (arith, day), (omega (arith, hour), (omega (arith, minute), (omega (arith, second), tt))))))

-- a face's number fits in a Long
face_fits : (f : Face) → FitsLong (face_number f)
face_fits Normal = (omega (arith, ints), omega (arith, ints))
face_fits Turned = (omega (arith, ints), omega (arith, ints))

-- a prism type that is allowed fits in a Long
prism_fits : (n : ℤ) → is_prism n ≡ true → FitsLong n
prism_fits (pos k) h = let few : k ≤ 2147483647 = leb-true k 2147483647 (and_parts (nat_le 0 k) (nat_le k 2147483647) h).1 in (omega (arith, ints), omega (arith, ints, few))
prism_fits (negsuc k) h = let wrong : ⊥ = cc in absurd wrong

-- a precision of at most 15 fits in a Short
precision_fits : (n : ℕ) → n ≤ 15 → FitsShort (pos n)
precision_fits n h = (omega (arith, ints), omega (arith, ints, h))

-- the values after a restart fit, where those before it do
pub restarted_fits : (s : State) → IsFittingState s → IsFittingState (restarted s)
restarted_fits s f = record { precision = f.precision; serial = f.serial; name = f.name; date = date_fits first_date refl; prism = (omega (arith, ints), omega (arith, ints)); kept = tt }

-- a state that fits does so with a new precision that is allowed
new_precision : (s : State) (n : ℤ) → is_precision n ≡ true → IsFittingState s → IsFittingState (record s { precision = unsigned_abs n })
new_precision s n h f = record { precision = precision_at_most_fifteen n h; serial = f.serial; name = f.name; date = f.date; prism = f.prism; kept = f.kept }

-- a state that fits does so with a new date that the clock takes
new_date : (s : State) (d : DateTime) → is_date d ≡ true → IsFittingState s → IsFittingState (record s { date = d })
new_date s d h f = record { precision = f.precision; serial = f.serial; name = f.name; date = date_fits d h; prism = f.prism; kept = f.kept }

-- a state that fits does so with a new prism type that is allowed
new_prism : (s : State) (n : ℤ) → is_prism n ≡ true → IsFittingState s → IsFittingState (record s { prism = n })
new_prism s n h f = record { precision = f.precision; serial = f.serial; name = f.name; date = f.date; prism = prism_fits n h; kept = f.kept }

-- the lemmas of which the search proves each row of the execution table
ruleset row_rules = (
  answered_outcome,
  done_outcome,
  set_outcome,
  distance_sound,
  commanded_outcome,
  searched_outcome,
  may_stay,
  leads_likewise,
  new_precision,
  new_date,
  new_prism,
  face_fits,
  precision_fits,
  arith,
)

-- the outcome of every call in every state is sound. A new row of the table is made of the same parts, so it needs nothing here
pub exec_outcome : (s : State) (call : Call) → IsSoundOutcome s call (exec s call)
unfolding exec
exec_outcome s NullProc = search row_rules
exec_outcome s call = search row_rules
