-- A command has its turn only in the cycles of its group: so each mark and each record is of one that doesn't rest in its cycle. An act is
-- one call on the link, with its result. A mark says which command an outstanding request is of.
use Rattle.gc_station.proofs.Common.{◌≡◌, ℕ, ◌<◌, Bool, false, List, [], ◌∷◌, ◌++◌, drop, Option, Some, None, refl, sym, ap, subst, arith, suc, ◌*◌, ◌-◌, ◌/◌, ◌%◌, ◌+◌, ◌||◌, true, nat_le, nat_eq, ◌∙◌, leb-true, leb-false, eqb-true, eq-eqb, not-true, not-false, both_ways, div-add-mod', AllByRecursion, every_drop, Asked, heard, hears, restarts, Task, Act, Told, Gave, Cut, Moment, records_of, Model, opening, action_at, asks_for, asks_next, asks_setup, with_progress, with_moment, line_came, is_heard, after_piece, first_unsent_record, losing, moved, Runs, request_for, null_request, mark_sent, mark_setup_sent, commands_left, cycles_begun, mark_next, place_next, rests, turned, moment_noted, loses_all, Record, state_after, Scope, Mark, Plan, Action, Progress, Outgoing}
use Rattle.std.proofs.lemmas.Nat.{mod-mul-add}
use Rattle.gc_station.specs.Groups.{HasItsTurnIn, IsOfItsCycle, GroupsHaveTheirTurn}
use Rattle.gc_station.proofs.Always.{always}
use Rattle.gc_station.proofs.Booking.{all_settled}
use Rattle.gc_station.proofs.Closings.{needs_of}
use Rattle.gc_station.proofs.EachRun.{invariant_holds}
use Rattle.gc_station.proofs.Lists.{all_append, all_on}
use Rattle.gc_station.proofs.Resting.{is_resting_next, sent_in_turn, skipped_in_turn}
use Rattle.gc_station.proofs.Walk.{came_along, first_along, setup_along, losing_along, moved_changed}
use Rattle.gc_client.specs.Rule
use Rattle.gc_station.specs.declared.progress.Action.TheVariants as actions

-- a command that doesn't rest has its turn
turn_if_awake : (cycle : ℕ) (tasks : List Task) → 0 < cycle → rests cycle tasks ≡ false → HasItsTurnIn cycle tasks
turn_if_awake cycle [] some awake = tt
turn_if_awake cycle (task ∷ others) some awake = λ many. ((cycle - 1) / task.every, by_tests (nat_le task.every 1) refl many) where
  -- the lemma above, by the two tests of `is_turn`
  by_tests : (b : Bool) → nat_le task.every 1 ≡ b → 1 < task.every → cycle ≡ suc ((cycle - 1) / task.every * task.every)
  by_tests true one many = let few = leb-true task.every 1 one in absurd (omega (arith, few, many))
  by_tests false more many =
      let turn : nat_eq ((cycle - 1) % task.every) 0 ≡ true = sym (ap (λ (b : Bool). b || nat_eq ((cycle - 1) % task.every) 0) more) ∙ not-false _ awake in
      let none : (cycle - 1) % task.every ≡ 0 = eqb-true ((cycle - 1) % task.every) 0 turn in
      let whole = div-add-mod' (cycle - 1) task.every in
      omega (arith, none, whole, some)

-- a command that rests doesn't have its turn
no_turn_if_resting : (cycle : ℕ) (task : Task) (others : List Task) → 0 < cycle → rests cycle (task ∷ others) ≡ true → (1 < task.every) × ((k : ℕ) → cycle ≡ suc (k * task.every) → ⊥)
no_turn_if_resting cycle task others some resting = by_tests (nat_le task.every 1) refl (nat_eq ((cycle - 1) % task.every) 0) refl (not-true _ resting) where
  -- the lemma above, by the two tests of `is_turn`
  by_tests : (a : Bool) → nat_le task.every 1 ≡ a → (b : Bool) → nat_eq ((cycle - 1) % task.every) 0 ≡ b → (a || b) ≡ false
      → (1 < task.every) × ((k : ℕ) → cycle ≡ suc (k * task.every) → ⊥)
  by_tests true one b turn e = cc
  by_tests false more true turn e = cc
  by_tests false more false turn e =
      let many = leb-false task.every 1 more in (
        many,
        λ k is.
            let before : cycle - 1 ≡ k * task.every + 0 = omega (arith, is) in
            let none : (cycle - 1) % task.every ≡ 0 = ap (λ (n : ℕ). n % task.every) before ∙ mod-mul-add k task.every 0 (omega (arith, many)) in
            both_ways (nat_eq ((cycle - 1) % task.every) 0) turn (eq-eqb ((cycle - 1) % task.every) 0 none),
      )

module _ (plan : Plan) (commands : List Task) where
  -- a mark is of a command that has its turn in its cycle
  abbrev IsMarkOfItsCycle : Option Mark → Type 0
  IsMarkOfItsCycle None = Unit {0}
  IsMarkOfItsCycle (Some mark) = 0 < mark.cycle → rests mark.cycle (drop mark.place commands) ≡ false

  -- so is a record
  abbrev pub IsAwakeRecord : Record → Type 0
  IsAwakeRecord r = 0 < r.cycle → rests r.cycle (drop r.place commands) ≡ false

  -- so is each mark and each record of a model
  record AreOfTheirCycles (s : Model) : Type 0 where
    marks : AllByRecursion IsMarkOfItsCycle s.marks
    records : AllByRecursion IsAwakeRecord s.records

  -- so are the records of settlements, after those of a model
  settled_in_turn : (s : Model) (xs : List (Rule.Settlement Asked)) → AreOfTheirCycles s
      → AllByRecursion IsAwakeRecord (s.records ++ records_of s.reads s.progress.moment.utc s.marks xs)
  settled_in_turn s xs k = all_settled IsMarkOfItsCycle IsAwakeRecord s.reads s.progress.moment.utc s.marks s.records xs (λ mark x its. its) k.marks k.records

  -- a line keeps it so
  line_in_turn : (s : Model) (line : List ℕ) → AreOfTheirCycles s → AreOfTheirCycles (line_came s line)
  line_in_turn s line k = record { marks = every_drop IsMarkOfItsCycle s.marks _ k.marks; records = settled_in_turn s (hears s.client line (heard line)).settlements k }

  -- and so does a piece
  came_in_turn : (ready : Bool) (word piece : List ℕ) (s : Model) → AreOfTheirCycles s → AreOfTheirCycles (after_piece ready word piece s)
  came_in_turn ready word piece s k =
      came_along AreOfTheirCycles line_in_turn ready word piece s (record { marks = k.marks; records = k.records }) (record { marks = k.marks; records = k.records }) k

  -- and the loss of what is outstanding
  losing_in_turn : (all : Bool) (s : Model) → AreOfTheirCycles s → AreOfTheirCycles (losing all s)
  losing_in_turn all s k =
      losing_along AreOfTheirCycles all s (record { marks = every_drop IsMarkOfItsCycle s.marks _ k.marks; records = settled_in_turn s (restarts s.client).settlements k }) k

  -- and a request, if its mark is of a command that has its turn
  asks_in_turn : (x : Outgoing) (s : Model) → IsMarkOfItsCycle x.mark → AreOfTheirCycles s → AreOfTheirCycles (asks_for x s)
  asks_in_turn x s its k = record { marks = all_append IsMarkOfItsCycle s.marks _ k.marks (its, tt); records = k.records }

  -- so does the next command of a cycle, if it doesn't rest
  next_in_turn : (s : Model) → is_resting_next plan commands s.progress ≡ false → AreOfTheirCycles s → AreOfTheirCycles (asks_next plan commands s)
  next_in_turn s awake k =
      first_along AreOfTheirCycles (mark_sent plan commands s) (drop (place_next commands s.progress) commands) s
      (λ task. asks_in_turn (request_for (mark_sent plan commands s) task) s (λ many. awake) k) k

  -- and the next one of the setup, which is of no cycle
  setup_in_turn : (s : Model) → AreOfTheirCycles s → AreOfTheirCycles (asks_setup plan commands s)
  setup_in_turn s k =
      setup_along AreOfTheirCycles plan (mark_setup_sent commands s) (drop s.progress.prepared commands) s
      (λ task. asks_in_turn (request_for (mark_setup_sent commands s) task) s (λ many. absurd (omega (arith, many))) k) (asks_in_turn (null_request plan) s tt k)

  -- the record of a command that isn't sent is of one that has its turn, if it doesn't rest
  skips_in_turn : (p : Progress) (m : Moment) (left : List Task) → is_resting_next plan commands p ≡ false
      → AllByRecursion IsAwakeRecord (first_unsent_record p m (mark_next plan commands p) left)
  skips_in_turn p m [] awake = tt
  skips_in_turn p m (task ∷ others) awake = (λ many. awake, tt)

  -- an act of each action keeps it so, if the command that is sent, or recorded without being sent, doesn't rest
  moved_in_turn : (o : Action) (s : Model) (act : Act) → (o ≡ actions.Send → is_resting_next plan commands s.progress ≡ false)
      → (o ≡ actions.Skip → is_resting_next plan commands s.progress ≡ false) → AreOfTheirCycles s → AreOfTheirCycles (moved plan commands o s act)
  moved_in_turn actions.Prepare s (Cut bytes count) sends skips k = let n = setup_in_turn s k in record { marks = n.marks; records = n.records }
  moved_in_turn actions.Prepare s act sends skips k = let n = setup_in_turn s k in record { marks = n.marks; records = n.records }
  moved_in_turn actions.Send s (Cut bytes count) sends skips k = let n = next_in_turn s (sends refl) k in record { marks = n.marks; records = n.records }
  moved_in_turn actions.Send s act sends skips k = let n = next_in_turn s (sends refl) k in record { marks = n.marks; records = n.records }
  moved_in_turn actions.Flush s (Cut bytes count) sends skips k = let n = asks_in_turn (null_request plan) s tt k in record { marks = n.marks; records = n.records }
  moved_in_turn actions.Flush s act sends skips k = let n = asks_in_turn (null_request plan) s tt k in record { marks = n.marks; records = n.records }
  moved_in_turn actions.Skip s (Told m) sends skips k = record {
    marks = k.marks;
    records = all_append IsAwakeRecord s.records _ k.records (skips_in_turn s.progress m (drop (place_next commands s.progress) commands) (skips refl));
  }
  moved_in_turn actions.Skip s act sends skips k = record { marks = k.marks; records = all_append IsAwakeRecord s.records [] k.records tt }
  moved_in_turn (actions.Read until) s (Gave bytes m) sends skips k =
      let mid = with_moment m (with_progress (moment_noted m) s) in
      let n = came_in_turn (is_heard s.progress.phase) s.progress.exchange.word bytes mid (record { marks = k.marks; records = k.records }) in record { marks = n.marks; records = n.records }
  moved_in_turn (actions.Read until) s act sends skips k = record { marks = k.marks; records = k.records }
  moved_in_turn o s act sends skips k =
      let is = moved_changed plan commands o s act in
      record {
        marks = subst (λ (ms : List (Option Mark)). AllByRecursion IsMarkOfItsCycle ms) (sym (ap (λ (x : Model). x.marks) is)) k.marks;
        records = subst (λ (rs : List Record). AllByRecursion IsAwakeRecord rs) (sym (ap (λ (x : Model). x.records) is)) k.records;
      }

  -- after every run each mark and each record is of a command that has its turn in its cycle
  all_in_turn : (scope : Scope) (acts : List Act) → Runs plan commands (opening plan scope) acts → AreOfTheirCycles (state_after plan commands scope acts)
  all_in_turn scope acts runs =
      always plan commands (opening plan scope) (λ (done : List Act) (t : Model). AreOfTheirCycles t)
      (λ done act runs' o k.
      let s = state_after plan commands scope done in
      let t = moved plan commands (action_at plan s) (with_progress turned s) act in
      losing_in_turn (loses_all t.progress) t
      (moved_in_turn (action_at plan s) (with_progress turned s) act (sent_in_turn plan commands scope done runs') (skipped_in_turn plan commands scope done runs')
      (record { marks = k.marks; records = k.records })))
      (record { marks = tt; records = tt }) acts runs

-- the law: a command has its turn only in the cycles of its group
pub groups_turn : GroupsHaveTheirTurn
groups_turn = record {
  sends = λ plan commands scope acts runs is.
      let s = state_after plan commands scope acts in
      let needs = needs_of plan s actions.Send is in
      let fine = invariant_holds plan commands scope acts in
      let below = fine.begun needs.2 in
      turn_if_awake (cycles_begun plan s.progress) (commands_left commands s.progress) (omega (arith, below)) (sent_in_turn plan commands scope acts runs is);
  records = λ plan commands scope acts runs.
      all_on (IsAwakeRecord plan commands) (IsOfItsCycle commands) (state_after plan commands scope acts).records (λ r awake many. turn_if_awake r.cycle (drop r.place commands) many (awake many))
      (all_in_turn plan commands scope acts runs).records;
  rest = no_turn_if_resting;
}
