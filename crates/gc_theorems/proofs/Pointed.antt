-- Where the telescope pointed when a command of a chain was executed.
use Rattle.gc_theorems.proofs.Common.{◌≡◌, ℕ, ◌+◌, ◌-◌, ℤ, pos, ◌<◌, Bool, true, false, List, [], ◌∷◌, length, map, Option, Some, None, refl, sym, ◌∙◌, ap, subst, arith, fold, slice_get, AllByRecursion, Answer, is_of_table, Asked, Table, Raw, Call, Wanted, Executed, exec, set_if, distance_outcome, commanded, measured, is_precision, is_date, is_prism, Handed, kept_line, without_kept, State, IsFittingState, handed_again, handed_new, call_at, Occasion, Task, at_any_moment, ChainsStay, MarksGoOn, RecordsStay, occasion_of, MarkAsks, Record, marks_ask_at, simulator_ends, simulator_handed, Sent, without_kept_after, same_Some, slice_get_within, get_map, element_at, UnderWay, AreCalls, HasNoStartAmong, IsUndisturbed, IsChainedTo, IsExecutedInChain, stretch_wire, Move, Anew, Changes, Joins, asked, kept_of, AreStill, IsPointedInChain, PointsAsLeft, SimulatorHasItsEffect, state_after_call, turns_telescope, PointsAs, IsInField, Program, own_sent, program_parts, program_records, world, Stretch, stretches, all_on, get_dropped, true≢false}
use Rattle.std.specs.Prelude.{unsigned_abs}
use Rattle.std.specs.Ordering.{int_eq}
use Rattle.gc_values.specs.declared.decimal.Decimal.{Decimal}
use Rattle.gc_instrument.proofs.Keeping.{commanded_by_tests, executes_apart}
use Rattle.gc_theorems.proofs.Among.{zip_at}
use Rattle.gc_theorems.proofs.Chained.{chains_executed}
use Rattle.gc_theorems.proofs.Instruments.{simulator_is_an_instrument}
use Rattle.gc_theorems.proofs.Joining.{run_faithful}
use Rattle.gc_catalogue.specs.declared.call.Call.TheVariants as call
use Rattle.gc_instrument.specs.Replying as calls

-- What executing a call makes of the simulator.

-- the kept reply may be left out before the effect of a request (`state_after_call`) or after it: that makes the same state
call_without_kept : (s : State) (asked : Asked) → state_after_call (without_kept s) asked ≡ without_kept (state_after_call s asked)
call_without_kept s (Table c) = ap (λ (x : Executed). x.state) (executes_apart s None c)
call_without_kept s (Raw raw) = refl

-- if the simulator sends a line again, its state stays as it was
handed_same : (s : State) (id : ℕ) (c : Call) (o : Option (List ℕ)) → kept_line s.kept (Some id) ≡ o → (calls.handed s id c).executed ≡ false → (calls.handed s id c).state ≡ s
handed_same s id c (Some line) e not = ap (λ (x : Handed State). x.state) (handed_again s id c line e)
handed_same s id c None e not = absurd (true≢false (sym (ap (λ (x : Handed State). x.executed) (handed_new s id c e)) ∙ not))

-- if the simulator executes a request, that has the effect `state_after_call` on its state, but for the kept reply
executes_by_effect : (s : State) (id : ℕ) (asked : Asked) → (simulator_handed s id asked).executed ≡ true → without_kept (simulator_handed s id asked).state ≡ without_kept (state_after_call s asked)
executes_by_effect s id (Table c) e = without_kept_after s id c e ∙ call_without_kept s (Table c)
executes_by_effect s id (Raw raw) e = refl

-- if the simulator doesn't execute a request, its state stays, but for the kept reply
repeats_unchanged : (s : State) (id : ℕ) (asked : Asked) → (simulator_handed s id asked).executed ≡ false → without_kept (simulator_handed s id asked).state ≡ without_kept s
repeats_unchanged s id (Table c) not = ap without_kept (handed_same s id c (kept_line s.kept (Some id)) refl not)
repeats_unchanged s id (Raw raw) not = refl

-- executing a request has the effect `state_after_call` on the simulator
pub has_effect : SimulatorHasItsEffect
has_effect =
    record {
      executes = executes_by_effect;
      repeats = repeats_unchanged;
      alike = λ s t asked e. sym (call_without_kept s asked) ∙ ap (λ x. state_after_call x asked) e ∙ call_without_kept t asked;
    }

-- if nothing disturbs the instrument, it doesn't start
no_start : (ms : List (Move State)) → IsUndisturbed ms → HasNoStartAmong ms
no_start [] h = tt
no_start (Anew ∷ ms) h = absurd h
no_start (Changes state ∷ ms) h = absurd h
no_start (Joins line ∷ ms) h = absurd h
no_start (m ∷ ms) h = no_start ms h

-- What a call that doesn't turn the telescope leaves.

-- a setting whose new state, t, points as s does leaves the telescope as it was in s, also if it is refused (`b` is false)
set_same : (b : Bool) (s t : State) → PointsAs t s → PointsAs (set_if b s t).state s
set_same true s t h = h
set_same false s t h = record { pointing = refl; face = refl }

-- telling a distance in a state t that points as s does leaves the telescope as it was in s
told_same : (s t : State) (answer_with : Decimal → Answer) (d : Option Decimal) → PointsAs t s → PointsAs (distance_outcome t answer_with d).state s
told_same s t answer_with None h = h
told_same s t answer_with (Some d) h = h

-- executing a command to measure turns no telescope
commanded_same : (s : State) (command : ℤ) → PointsAs (commanded s command).state s
commanded_same s command = by_tests (int_eq command (pos 0)) (int_eq command (pos 1)) (int_eq command (pos 3)) where
  -- whichever outcome the three tests of the command choose, it turns no telescope
  by_tests : (a b c : Bool) → PointsAs (commanded_by_tests s a b c).state s
  by_tests true b c = record { pointing = refl; face = refl }
  by_tests false true c = record { pointing = refl; face = refl }
  by_tests false false true = record { pointing = refl; face = refl }
  by_tests false false false = record { pointing = refl; face = refl }

-- a call that turns no telescope leaves the telescope's direction and face as they were
call_same : (s : State) (c : Call) → turns_telescope (Table c) ≡ false → PointsAs (exec s c).state s
unfolding exec
call_same s (call.SetPrecision n) e = set_same (is_precision n) s (record s { precision = unsigned_abs n }) (record { pointing = refl; face = refl })
call_same s (call.SetDate d) e = set_same (is_date d) s (record s { date = d }) (record { pointing = refl; face = refl })
call_same s (call.SetPrism n) e = set_same (is_prism n) s (record s { prism = n }) (record { pointing = refl; face = refl })
call_same s (call.DoMeasure command mode) e = commanded_same s command
call_same s (call.SimpleMea wait mode) e = told_same s s _ s.distance (record { pointing = refl; face = refl })
call_same s call.QuickDist e = told_same s (measured s) _ (measured s).distance (record { pointing = refl; face = refl })
call_same s (call.MeasDistance mode) e = told_same s (measured s) _ (measured s).distance (record { pointing = refl; face = refl })
call_same s (call.Position hz v pos_mode atr_mode dummy) e = cc
call_same s (call.ChangeFace pos_mode atr_mode dummy) e = cc
call_same s (call.FineAdjust area_hz area_v dummy) e = cc
call_same s c e = record { pointing = refl; face = refl }

-- a request that turns no telescope leaves the telescope's direction and face as they were
asked_same : (s : State) (asked : Asked) → turns_telescope asked ≡ false → PointsAs (state_after_call s asked) s
asked_same s (Table c) e = call_same s c e
asked_same s (Raw raw) e = record { pointing = refl; face = refl }

-- a request turns no telescope if it turns none in case that it is a call of the table, since other requests turn none
still_table : (asked : Asked) → (is_of_table asked ≡ true → turns_telescope asked ≡ false) → turns_telescope asked ≡ false
still_table (Table c) f = f refl
still_table (Raw raw) f = refl

-- a positioning leaves the telescope in the direction that the call commands, in the same face as before
position_points : (s : State) (hz v : Decimal) (pos_mode atr_mode dummy : _) → let t = (exec s (call.Position hz v pos_mode atr_mode dummy)).state in
    (t.pointing ≡ record { hz = hz; v = v }) × (t.face ≡ s.face)
unfolding exec
position_points s hz v pos_mode atr_mode dummy = (refl, refl)

-- calls that turn no telescope leave the telescope's direction and face as they were
calls_same : (calls : List Asked) (s : State) → AllByRecursion (λ x. turns_telescope x ≡ false) calls → PointsAs (fold state_after_call s calls) s
calls_same [] s h = record { pointing = refl; face = refl }
calls_same (x ∷ calls) s h =
    let one = asked_same s x h.0 in
    let others = calls_same calls (state_after_call s x) h.1 in
    record { pointing = others.pointing ∙ one.pointing; face = others.face ∙ one.face }

-- What was executed between.

-- if those of these requests (`ns`) that are calls of the table are between m and n, and the requests sent between m and n turn
-- no telescope, the calls of these requests (`calls`) don't
all_still : (sent : List Sent) (m n : ℕ) (ns : List ℕ) (calls : List Asked) → AreCalls sent ns calls
    → AllByRecursion (λ x. (r : Sent) → slice_get sent x ≡ Some r → is_of_table r.call ≡ true → (m < x) × (x < n)) ns
    → ((x : ℕ) (r : Sent) → m < x → x < n → slice_get sent x ≡ Some r → turns_telescope r.call ≡ false)
    → AllByRecursion (λ x. turns_telescope x ≡ false) calls
all_still sent m n [] [] h g f = tt
all_still sent m n [] (x ∷ calls) h g f = absurd h
all_still sent m n (k ∷ ns) [] h g f = absurd h
all_still sent m n (k ∷ ns) (x ∷ calls) h g f =
    let still : turns_telescope h.0.0.call ≡ false =
    still_table h.0.0.call (λ of. let inside : (m < k) × (k < n) = g.0 h.0.0 h.0.1 of in f k h.0.0 inside.0 inside.1 h.0.1) in
    (ap turns_telescope (sym h.0.2) ∙ still, all_still sent m n ns calls h.1 g.1 f)

-- a null procedure turns no telescope
null_still : (a : Wanted Asked) (r : Sent) → asked r ≡ a → a ≡ record { target = 0; call = Table call.NullProc } → turns_telescope r.call ≡ false
null_still a r e f = ap (λ (o : Wanted Asked). turns_telescope o.call) (e ∙ f)

-- a task that turns no telescope turns none on any occasion
still_at_any_moment : (task : Task) (occasion : Occasion) → turns_telescope task.command.call ≡ false → turns_telescope (call_at task occasion) ≡ false
still_at_any_moment task occasion still = at_any_moment (λ call. turns_telescope call ≡ false) task occasion refl (λ raw other asked same. refl) still

module _ (u : UnderWay State) (run : Program State) (field : IsInField simulator_ends IsFittingState kept_of u run) where
  -- the stretches of the run
  abbrev ss : List (Stretch State)
  ss = stretches simulator_ends u run.runs

  module _ (b : Record) (line : List ℕ) (a : ℕ) (h : IsChainedTo simulator_ends IsFittingState kept_of u run a b line)
      (still : AreStill run.commands a b.place) where
    -- a request between those of the chain's two commands turns no telescope, by its mark: it is a null procedure, or for a
    -- command between them
    still_by : (x : ℕ) (r : Sent) (o : Option _) (above : h.m < x) (under : x < h.n) → slice_get h.part.marks x ≡ Some o
        → (y : Wanted Asked) → asked r ≡ y → MarkAsks run.commands o y → turns_telescope r.call ≡ false
    still_by x r None above under at y e is = null_still y r e is
    still_by x r (Some mark) above under at y e is =
        let there = h.between x mark above under at in
        let quiet = still_at_any_moment is.0 (occasion_of mark) (still mark.place is.0 there.1 there.2 is.1) in
        ap (λ (o : Wanted Asked). turns_telescope o.call) (e ∙ is.2) ∙ quiet

    -- a request of the client between those of the chain's two commands turns no telescope
    still_at : (x : ℕ) (r : Sent) → h.m < x → x < h.n → slice_get (own_sent simulator_ends h.stretch) x ≡ Some r → turns_telescope r.call ≡ false
    still_at x r above under got =
        let f = run_faithful simulator_ends IsFittingState kept_of simulator_is_an_instrument.instrument u run field in
        let of = zip_at _ (program_parts run) ss h.i h.part h.stretch f.sent h.of_parts h.of_stretches in
        let size : h.n < length h.part.marks = slice_get_within h.part.marks h.n _ h.mark_b in
        let mark = element_at h.part.marks x (omega (arith, under, size)) in
        let y = marks_ask_at run.commands h.part.marks (map asked (own_sent simulator_ends h.stretch)) x mark.0 of mark.1 in
        let same : asked r ≡ y.0 = same_Some (asked r) y.0 (sym (get_map asked (own_sent simulator_ends h.stretch) x r got) ∙ y.1) in
        still_by x r mark.0 above under mark.1 y.0 same y.2

    -- request k of the stretch, between those of the chain's two commands, turns no telescope; the first eight requests of the
    -- stretch are the null procedures
    still_number : (k : ℕ) (r : Sent) → 8 + h.m < k → k < 8 + h.n → slice_get (world simulator_ends h.stretch).wire.sent k ≡ Some r → turns_telescope r.call ≡ false
    still_number k r above under got =
        still_at (k - 8) r (omega (arith, above)) (omega (arith, above, under)) (get_dropped 8 (k - 8) k (world simulator_ends h.stretch).wire.sent r (omega (arith, above)) got)

    -- the simulator's state at the earlier of the two executions
    abbrev earlier_state : State
    earlier_state = (stretch_wire simulator_ends h.stretch h.executed.first.front).state

    -- if nothing disturbs the simulator between the two executions, the telescope points at the later one as the earlier one left
    -- it (`PointsAsLeft`)
    pointed_there : IsUndisturbed h.executed.between
        → PointsAsLeft h.earlier.answer.command.call earlier_state (stretch_wire simulator_ends h.stretch h.executed.second.front).state
    pointed_there quiet =
        let x = h.executed in
        let s = earlier_state in
        let calls = all_still (world simulator_ends h.stretch).wire.sent (8 + h.m) (8 + h.n) x.numbers x.calls x.asked
        (x.strictly is_of_table simulator_is_an_instrument.keeps (no_start x.between quiet)) (λ k r above under got. still_number k r above under got) in
        let there = x.state without_kept state_after_call has_effect quiet in
        let t = state_after_call s h.earlier.answer.command.call in
        let same = calls_same x.calls t calls in
        let pointing = ap (λ (z : State). z.pointing) there ∙ same.pointing in
        let face = ap (λ (z : State). z.face) there ∙ same.face in
        record {
          as_left = record { pointing = pointing; face = face };
          as_commanded = λ hz v pos_mode atr_mode dummy e.
              let at = subst (λ c. ((state_after_call s c).pointing ≡ record { hz = hz; v = v }) × ((state_after_call s c).face ≡ s.face)) (sym e) (position_points s hz v pos_mode atr_mode dummy) in
              (pointing ∙ at.0, face ∙ at.1);
        }

  -- if the laws of stations `ChainsStay`, `MarksGoOn` and `RecordsStay` hold, each record of a run over the simulator is
  -- `IsPointedInChain`
  pub pointed : ChainsStay → MarksGoOn → RecordsStay → AllByRecursion (IsPointedInChain u run) (program_records run)
  pointed stay go_on records_stay =
      all_on (IsExecutedInChain simulator_ends IsFittingState kept_of u run) (IsPointedInChain u run) (program_records run)
      (λ b h line a answered many low less chained. let c = h line a answered many low less chained in (c, λ still quiet. pointed_there b line a c still quiet))
      (chains_executed simulator_ends IsFittingState kept_of simulator_is_an_instrument.instrument stay go_on records_stay run.plan run.commands run.scope run.acts u run.runs field)
