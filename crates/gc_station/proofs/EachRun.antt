-- Each act, and so each run, preserves the invariant of every run (`Invariant`). Most lemmas say that an action preserves
-- `HoldsMidAct` of `Midway`: the counts, the client, the marks and the records belong together, and the phase fits them, before
-- what is outstanding is lost. An act is one call on the link, with its result. A mark says which command an outstanding request
-- is of, or `None` of a null procedure.
use Rattle.gc_station.proofs.Common.{◌≡◌, ℕ, ◌-◌, ◌<◌, ◌⊎◌, inl, inr, ◌||◌, ◌&&◌, Bool, true, false, not, List, [], ◌∷◌, length, drop, map, nat_eq, Option, refl, sym, ap, ◌∙◌, subst, arith, append-nil, if◌then◌else◌, length-drop, both_ways, WINDOW, head_of_drop, Table, NullProc, Task, Moment, Mark, Plan, Cause, Phase, Clearing, Draining, Ready, Closing, Over, Action, Progress, Upcoming, Waiting, Act, Told, later, has_begun, is_up, EachOnce, Interleave, RunRequest, commands_reached, of_record, all_cycles, of_text, AreRecordedOnce, reached, commands_in, turned, moment_noted, unsent_at, early_noted, cycle_begun, skipped, attempts_left_out, cleared, request_noted, null_sent, resynchronized, sent, is_over, is_over_in, setup_sent, HoldsBefore, IsGoingOn, IsReadyOrOverdue, Record, state_after, EachRecordIsOfItsTask, Model, opening, action_at, waiting_of, with_progress, asks_first, asks_next, next_left_out, with_more_passes, with_listed, listed_after_skip, after_pass, with_more_records, end_unsent, unsent_record, first_unsent_record, after_clock, moved, after, after_all, cycle_length, asks_setup, request_for, null_request, request_or_null, asks_for, mark_sent, mark_setup_sent, place_next, commands_left, mark_next, upcoming_after, first_upcoming, cycles_begun, Scope}
use Rattle.gc_station.proofs.InCycle.{within_window}
use Rattle.gc_station.proofs.Acting.{mid_fail, mid_moment, mid_clock, mid_put, mid_open, mid_close, mid_read}
use Rattle.gc_station.proofs.Each.{row_empty, reached_whole}
use Rattle.gc_station.proofs.Facts.{action_for}
use Rattle.gc_station.proofs.Invariant.{Invariant, is_before_requests, says_done}
use Rattle.gc_station.proofs.Midway.{ledger_at, NothingIsLeft, PhaseFits, HoldsMidAct, mid_act_of, sound_null, sound_sent, sound_skipped, sound_passed, sound_begun, invariant_with_losses, sound_prepared}
use Rattle.gc_station.proofs.Tasked.{unsent_end}
use Rattle.gc_station.proofs.Walk.{acts_along}
use Rattle.gc_station.specs.declared.cause.Cause.TheVariants as cause
use Rattle.gc_station.specs.declared.progress.Action.TheVariants as action

-- `HoldsMidAct` is preserved if no record is added
mid_nothing : (plan : Plan) (commands : List Task) (s : Model) → HoldsMidAct plan commands s → HoldsMidAct plan commands (with_more_records [] s)
mid_nothing plan commands s mid = subst (λ (rs : List Record). HoldsMidAct plan commands (record s { records = rs })) (sym (append-nil s.records)) mid

-- the phase `Ready` is `PhaseFits`: it says nothing of the counts, the kept bytes and the marks
ready_fits : (phase : Phase) (left unsent : ℕ) (rest : List ℕ) (marks : List (Option Mark)) → phase ≡ Ready → PhaseFits phase left unsent rest marks
ready_fits phase left unsent rest marks is =
    record {
      empty = λ e. absurd (both_ways (is_before_requests phase) (ap is_before_requests is) e);
      finished = λ e. absurd (both_ways (says_done phase) (ap says_done is) e);
    }

-- a phase in which the run goes on (`IsGoingOn`) is `PhaseFits` whatever the counts and marks are, if it was with others
going_fits : (phase : Phase) (left unsent left' unsent' : ℕ) (rest : List ℕ) (marks marks' : List (Option Mark)) → IsGoingOn phase
    → PhaseFits phase left unsent rest marks → PhaseFits phase left' unsent' rest marks'
going_fits phase left unsent left' unsent' rest marks marks' going fits =
    record { empty = fits.empty; finished = λ e. absurd (both_ways (says_done phase) (undone phase going) e) } where
      -- such a phase doesn't say that all is done
      undone : (at : Phase) → IsGoingOn at → says_done at ≡ false
      undone Clearing g = absurd g
      undone (Closing why) g = absurd g
      undone (Over why) g = absurd g
      undone other g = refl

-- in the phase `Ready`, and where the cycle is overdue, the run goes on
going_on : (plan : Plan) (p : Progress) (w : Waiting) → IsReadyOrOverdue plan p w → IsGoingOn p.phase
going_on plan p w (inl is) = subst IsGoingOn (sym is) tt
going_on plan p w (inr over) = over.2

-- the beginning of a cycle preserves `HoldsMidAct`, while the run goes on, if a cycle is left and no command of the one before is
-- unsent
mid_begun : (plan : Plan) (commands : List Task) (s : Model) (next : Upcoming) (m : Moment) → (going : IsGoingOn s.progress.phase) → (none_unsent : s.progress.unsent ≡ 0)
    → (some : 0 < s.progress.left) → HoldsMidAct plan commands s
    → HoldsMidAct plan commands (with_progress (cycle_begun plan (cycle_length plan commands) next m) s)
mid_begun plan commands s next m is none some mid =
    let p = s.progress in (
      sound_begun plan commands (ledger_at s p) none some mid.0,
      going_fits p.phase p.left p.unsent (p.left - 1) (cycle_length plan commands) s.rest s.marks s.marks is mid.1,
    )

-- a line feed that was sent in the phase `Clearing` preserves `HoldsMidAct`
mid_cleared : (plan : Plan) (commands : List Task) (s : Model) → s.progress.phase ≡ Clearing → HoldsMidAct plan commands s → HoldsMidAct plan commands (with_progress cleared s)
mid_cleared plan commands s is mid = (mid.0, by_word (has_begun s.progress)) where
  -- the lemma above, whether the station has synchronized (`true`) or is synchronizing
  by_word : (begun : Bool) → PhaseFits (if begun then Draining else Ready) s.progress.left s.progress.unsent s.rest s.marks
  by_word true = record { empty = λ e. mid.1.empty (ap is_before_requests is); finished = λ e. cc }
  by_word false = record { empty = λ e. cc; finished = λ e. cc }

-- a null procedure that is sent in the phase `Ready`, and for which there is room, preserves `HoldsMidAct`
mid_flushed : (plan : Plan) (commands : List Task) (s : Model) → s.progress.phase ≡ Ready → length s.client.waiting < WINDOW → HoldsMidAct plan commands s
    → HoldsMidAct plan commands (with_progress request_noted (asks_for (null_request plan) s))
mid_flushed plan commands s is room mid =
    let p = s.progress in (
      sound_null plan commands (ledger_at s p) 0 (Table NullProc) (later p.moment.elapsed plan.deadline) room refl mid.0,
      ready_fits p.phase p.left p.unsent s.rest (asks_for (null_request plan) s).marks is,
    )

-- `left` are the commands from the setup's next one on. To send the first of them, or a null procedure if there is none,
-- preserves `HoldsMidAct`, in the phase `Ready`, if there is room for a request
mid_prepares : (plan : Plan) (commands : List Task) (s : Model) (left : List Task) → drop s.progress.prepared commands ≡ left → s.progress.phase ≡ Ready
    → length s.client.waiting < WINDOW → HoldsMidAct plan commands s
    → HoldsMidAct plan commands (with_progress (setup_sent plan) (asks_for (request_or_null plan (mark_setup_sent commands s) left) s))
mid_prepares plan commands s [] at is room mid = mid_flushed plan commands s is room mid
mid_prepares plan commands s (task ∷ others) at is room mid =
    let p = s.progress in
    let t = asks_for (request_for (mark_setup_sent commands s) task) s in (
      sound_prepared plan commands (ledger_at s p) (later p.moment.elapsed task.deadline) (mark_setup_sent commands s) task room refl
          (head_of_drop commands p.prepared task others at) mid.0,
      ready_fits p.phase p.left p.unsent s.rest t.marks is,
    )

-- the next command of a cycle has its turn: `next` is noted of the one after it
module _ (plan : Plan) (commands : List Task) (next : Upcoming) (s : Model) where
  -- `left` are the commands from the cycle's next one on. To send the first of them preserves `HoldsMidAct`, in the phase
  -- `Ready`, if a command is unsent and there is room for a request
  mid_first : (left : List Task) → (there : commands_left commands s.progress ≡ left)
      → (is_ready : s.progress.phase ≡ Ready) → (some : 0 < s.progress.unsent) → (room : length s.client.waiting < WINDOW) → HoldsMidAct plan commands s
      → HoldsMidAct plan commands (with_progress (sent next) (asks_first (mark_sent plan commands s) left s))
  mid_first [] at is some room mid =
      let sound = mid.0 in
      let n : length commands - place_next commands s.progress ≡ 0 = sym (length-drop (place_next commands s.progress) commands) ∙ ap length at in
      absurd (omega (arith, n, some, sound.unsents))
  mid_first (task ∷ others) at is some room mid =
      let p = s.progress in
      let t = asks_first (mark_sent plan commands s) (task ∷ others) s in (
        sound_sent plan commands (ledger_at s p) p.moment.utc (mark_sent plan commands s).id (later p.moment.elapsed task.deadline)
            (mark_sent plan commands s).expected task others room some at mid.0,
        ready_fits p.phase p.left (p.unsent - 1) s.rest t.marks is,
      )

  -- `left` are the commands from the cycle's next one on. To record the first of them without sending it preserves `HoldsMidAct`,
  -- in the phase `Ready`, if a command is unsent and none is outstanding
  mid_skips : (m : Moment) (left : List Task)
      → (there : commands_left commands s.progress ≡ left)
      → (going : IsGoingOn s.progress.phase) → (some : 0 < s.progress.unsent) → (settled : commands_in s.marks ≡ 0) → HoldsMidAct plan commands s
      → HoldsMidAct plan commands (with_progress (λ p. early_noted plan (commands_in s.marks) (skipped next m p))
      (with_more_records (first_unsent_record s.progress m (mark_next plan commands s.progress) left) s))
  mid_skips m [] at is some none mid =
      let sound = mid.0 in
      let n : length commands - place_next commands s.progress ≡ 0 = sym (length-drop (place_next commands s.progress) commands) ∙ ap length at in
      absurd (omega (arith, n, some, sound.unsents))
  mid_skips m (task ∷ others) at is some none mid =
      let p = s.progress in (
        sound_skipped plan commands (ledger_at s p) (unsent_at m p) (end_unsent p)
            (mark_next plan commands p).expected task others none some at (unsent_end p) mid.0,
        going_fits p.phase p.left p.unsent p.left (p.unsent - 1) s.rest s.marks s.marks is mid.1,
      )

  -- an act that is to record the next command of a cycle without sending it preserves `HoldsMidAct`, in the phase `Ready`, with a
  -- command unsent and none outstanding
  mid_skip : (act : Act) → IsGoingOn s.progress.phase → 0 < s.progress.unsent
      → commands_in s.marks ≡ 0 → HoldsMidAct plan commands s
      → HoldsMidAct plan commands (after_clock (λ m p. early_noted plan (commands_in s.marks) (skipped next m p))
      (with_listed (listed_after_skip plan commands s act) (with_more_records (unsent_record plan commands s.progress act) s)) act)
  mid_skip (Told m) is some none mid =
      mid_moment plan commands (with_progress (λ p. early_noted plan (commands_in s.marks) (skipped next m p))
      (with_listed (listed_after_skip plan commands s (Told m)) (with_more_records (unsent_record plan commands s.progress (Told m)) s))) m
      (mid_skips m (drop (place_next commands s.progress) commands) refl is some none mid)
  mid_skip act is some none mid = mid_fail plan commands (with_more_records [] s) cause.Clock refl (mid_nothing plan commands s mid)

-- an act that leaves out the further attempts of a chain preserves `HoldsMidAct`, in the phase `Ready`, if a command is unsent
mid_pass : (plan : Plan) (commands : List Task) (s : Model) (act : Act) → IsGoingOn s.progress.phase → 0 < s.progress.unsent → HoldsMidAct plan commands s
    → HoldsMidAct plan commands (after_pass plan commands s act)
mid_pass plan commands s (Told m) is some mid =
    let p = s.progress in
    let n = p.next_others in
    mid_moment plan commands (with_progress (λ q. early_noted plan (commands_in s.marks) (attempts_left_out (upcoming_after plan n commands p) m q))
    (with_more_passes (next_left_out plan commands p) s)) m (
      sound_passed plan commands (ledger_at s p) n some mid.0,
      going_fits p.phase p.left p.unsent p.left (p.unsent - n) s.rest s.marks s.marks is mid.1,
    )
mid_pass plan commands s act is some mid = mid_fail plan commands s cause.Clock refl mid

-- if a connection is closed for being done, no cycle and no command is left
close_done : (plan : Plan) (commands : List Task) (s : Model) (w : Waiting) (why : Cause) → Invariant plan commands s
    → HoldsBefore plan s.progress w (action.Close why) → why ≡ cause.Done → NothingIsLeft s.progress
close_done plan commands s w cause.Done fine (up, inl phase) is = let it = fine.finished (ap says_done phase) in (it.0, it.1)
close_done plan commands s w cause.Done fine (up, inr end) is = (end.0, end.1)
close_done plan commands s w why fine for_it is = cc

-- from a model with the invariant, each act of an action whose conditions hold leads to `HoldsMidAct`, before what is outstanding
-- is lost
pub mid_moved : (plan : Plan) (commands : List Task) (s : Model) (action : Action) (act : Act) → Invariant plan commands s → HoldsBefore plan s.progress (waiting_of s) action
    → HoldsMidAct plan commands (moved plan commands action (with_progress turned s) act)
mid_moved plan commands s action.ReadClock act fine is =
    let t = with_progress turned s in mid_clock plan commands (λ m p. early_noted plan (commands_in t.marks) (moment_noted m p)) t act (mid_act_of plan commands s fine)
    (λ m. mid_act_of plan commands s fine)
mid_moved plan commands s action.Renew act fine is =
    let t = with_progress turned s in mid_clock plan commands (λ m p. early_noted plan 0 (resynchronized plan m p)) t act (mid_act_of plan commands s fine) (λ m. mid_act_of plan commands s fine)
mid_moved plan commands s action.Begin act fine is =
    let t = with_progress turned s in
    let mid = mid_act_of plan commands s fine in
    mid_clock plan commands (cycle_begun plan (cycle_length plan commands) (first_upcoming plan commands t.progress)) t act mid (λ m. mid_begun plan commands t (first_upcoming plan commands t.progress) m (going_on plan s.progress (waiting_of s) is.0) is.2 is.4 mid)
mid_moved plan commands s action.Open act fine is = mid_open plan commands (with_progress turned s) act is (mid_act_of plan commands s fine)
mid_moved plan commands s action.Clear act fine is =
    let t = with_progress turned s in mid_put plan commands _ (with_progress cleared) t act (mid_cleared plan commands t is (mid_act_of plan commands s fine))
mid_moved plan commands s action.Ask act fine is = let t = with_progress turned s in
    mid_put plan commands _ (with_progress (null_sent plan)) t act (let mid = mid_act_of plan commands s fine in (mid.0, mid.1))
mid_moved plan commands s action.Prepare act fine is =
    let t = with_progress turned s in
    mid_put plan commands _ (λ (x : Model). with_progress (setup_sent plan) (asks_setup plan commands x)) t act
    (mid_prepares plan commands t (drop t.progress.prepared commands) refl is.0 (within_window _ _ is.3.1) (mid_act_of plan commands s fine))
mid_moved plan commands s action.Send act fine is =
    let t = with_progress turned s in
    mid_put plan commands _ (λ (x : Model). with_progress (sent (upcoming_after plan 1 commands x.progress)) (asks_next plan commands x)) t act
    (mid_first plan commands (upcoming_after plan 1 commands t.progress) t (drop (place_next commands t.progress) commands) refl
    is.0 is.2 (within_window _ _ is.3.1) (mid_act_of plan commands s fine))
mid_moved plan commands s action.Skip act fine is =
    let t = with_progress turned s in
    mid_skip plan commands (upcoming_after plan 1 commands t.progress) t act (going_on plan s.progress (waiting_of s) is.0) is.2 is.3 (mid_act_of plan commands s fine)
mid_moved plan commands s action.Pass act fine is = mid_pass plan commands (with_progress turned s) act (going_on plan s.progress (waiting_of s) is.0) is.2 (mid_act_of plan commands s fine)
mid_moved plan commands s action.Flush act fine is =
    let t = with_progress turned s in
    mid_put plan commands _ (λ (x : Model). with_progress request_noted (asks_for (null_request plan) x)) t act (mid_flushed plan commands t is.0 (within_window _ _ is.4.1) (mid_act_of plan commands s fine))
mid_moved plan commands s (action.Read until) act fine is = mid_read plan commands until (with_progress turned s) act (mid_act_of plan commands s fine)
mid_moved plan commands s (action.Close why) act fine is =
    mid_close plan commands (with_progress turned s) why (close_done plan commands s (waiting_of s) why fine is) (mid_act_of plan commands s fine)
mid_moved plan commands s (action.Stop why) act fine is = mid_act_of plan commands s fine

-- each act preserves the invariant of every run
pub invariant_after : (plan : Plan) (commands : List Task) (s : Model) (act : Act) → Invariant plan commands s → Invariant plan commands (after plan commands s act)
invariant_after plan commands s act fine =
    invariant_with_losses plan commands (moved plan commands (action_at plan s) (with_progress turned s) act)
    (mid_moved plan commands s (action_at plan s) act fine (action_for plan s.progress (waiting_of s)))

-- acts preserve the invariant of every run
pub invariant_all : (plan : Plan) (commands : List Task) (s : Model) (acts : List Act) → Invariant plan commands s → Invariant plan commands (after_all plan commands s acts)
invariant_all plan commands s acts fine = acts_along plan commands (Invariant plan commands) (invariant_after plan commands) s acts fine

-- the invariant of every run holds at the start
pub invariant_opening : (plan : Plan) (commands : List Task) (scope : Scope) → Invariant plan commands (opening plan scope)
invariant_opening plan commands scope =
    let none : plan.cycles - plan.cycles ≡ 0 = omega arith in
    record {
      unsent = omega arith;
      left = omega arith;
      begun = λ e. absurd (omega (arith, e));
      paired = refl;
      window = omega arith;
      digit = omega arith;
      begins = λ e. refl;
      rest = λ e. refl;
      over = λ e. refl;
      finished = λ e. cc;
      each = subst (λ (xs : List RunRequest). Interleave [] [] xs) (sym (ap (λ n. commands_reached plan.setup commands n (length commands - 0)) none)) (refl, refl);
      own = tt;
      tasked = tt;
    }

-- the invariant of every run holds after any acts
pub invariant_holds : (plan : Plan) (commands : List Task) (scope : Scope) (acts : List Act) → Invariant plan commands (state_after plan commands scope acts)
invariant_holds plan commands scope acts = invariant_all plan commands (opening plan scope) acts (invariant_opening plan commands scope)

-- if the conditions of a stop hold, the run is over (`is_over`): no act follows
pub stop_over : (plan : Plan) (p : Progress) (w : Waiting) (why : Cause) → HoldsBefore plan p w (action.Stop why) → is_over p ≡ true
stop_over plan p w why (down, inl over) = ap (λ (phase : Phase). is_over_in phase || (not (is_up phase) && nat_eq p.turns 0)) over
stop_over plan p w why (down, inr turns) = either_way (is_over_in p.phase) (is_up p.phase) (nat_eq p.turns 0) down (ap (λ (n : ℕ). nat_eq n 0) turns.1) where
  -- the lemma above, if the phase says so (`o`), or there is no connection and no turn is left
  either_way : (o up none : Bool) → up ≡ false → none ≡ true → (o || (not up && none)) ≡ true
  either_way true up none d n = refl
  either_way false false true d n = refl
  either_way false false false d n = cc
  either_way false true none d n = cc

-- if a run stops, nothing is outstanding, and the records, with the attempts that were left out (`passes`) between them, are of
-- the commands that had their turn, in order; if it stops as done, no cycle and no command is left
pub all_recorded_at_stop : (plan : Plan) (commands : List Task) (s : Model) (why : Cause) → Invariant plan commands s → action_at plan s ≡ action.Stop why
    → (s.client.waiting ≡ []) × AreRecordedOnce commands s (reached plan commands s)
    × (why ≡ cause.Done → NothingIsLeft s.progress)
all_recorded_at_stop plan commands s why fine stop =
    let p = s.progress in
    let w = waiting_of s in
    let is : HoldsBefore plan p w (action.Stop why) = subst (λ (o : Action). HoldsBefore plan p w o) stop (action_for plan p w) in
    let nothing = fine.over (stop_over plan p w why is) in (
      nothing,
      subst (λ (xs : List RunRequest). Interleave xs s.passes (commands_reached plan.setup commands (cycles_begun plan p) (place_next commands p)))
          (ap (of_text commands) (row_empty s.marks s.client.waiting s.records nothing)) fine.each,
      by_reason is.1,
    ) where
      -- if the run stops as done nothing is left: its phase says that it is done, as it isn't for its turns
      by_reason : ((s.progress.phase ≡ Over why) ⊎ ((why ≡ cause.Turns) × (s.progress.turns ≡ 0))) → why ≡ cause.Done → NothingIsLeft s.progress
      by_reason (inl over) e = let it = fine.finished (ap says_done (over ∙ ap Over e)) in (it.0, it.1)
      by_reason (inr turns) e = let other : cause.Turns ≡ cause.Done = sym turns.0 ∙ e in cc

-- after any acts the records and the outstanding commands are the commands that had their turn, but for those left out
-- (`EachOnce`)
pub each_once : (plan : Plan) (commands : List Task) (scope : Scope) (acts : List Act) → EachOnce plan commands scope acts
each_once plan commands scope acts =
    let s = state_after plan commands scope acts in
    let fine = invariant_holds plan commands scope acts in
    record {
      each = fine.each;
      settled = λ why stop. (all_recorded_at_stop plan commands s why fine stop).1;
      done = λ stop.
          let it = all_recorded_at_stop plan commands s cause.Done fine stop in
          let none = it.2 refl in
          let cycles : cycles_begun plan s.progress ≡ plan.cycles = omega (arith, none.0) in
          let place : place_next commands s.progress ≡ length commands = omega (arith, none.1) in
          subst (λ (xs : List RunRequest). Interleave (of_text commands (map of_record s.records)) s.passes xs)
          (reached_whole plan.setup commands (cycles_begun plan s.progress) (place_next commands s.progress) place ∙ ap (all_cycles plan.setup commands) cycles) it.1;
    }

-- each record after any acts is of its task
pub of_tasks : EachRecordIsOfItsTask
of_tasks plan commands scope acts = (invariant_holds plan commands scope acts).tasked
