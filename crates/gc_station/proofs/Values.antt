-- Each request of a command was made with the values of files of the last moment that was read before it was sent; and of a command of a
-- cycle each value that it takes was there then. An act is one call on the link, with its result.
use Rattle.gc_station.proofs.Common.{◌≡◌, ℕ, zero, suc, ◌<◌, List, [], ◌∷◌, ◌++◌, drop, Option, Some, None, refl, sym, ap, ◌∙◌, subst, slice_get, same_Some, no_values, with_end, asked_line, Asked, Act, Moment, call_at, lack, Task, Needs, Wish, Puts, moment_in, Model, Runs, opening, utc_read, needs_first, place_next, Record, HasItsRequest, command_sent, state_after, Scope, IsOfItsTask, Plan}
use Rattle.gc_station.specs.Values.{EachRequestHasItsValues, HasItsValues, IsSentWithItsValues, values_or, values_read}
use Rattle.gc_station.proofs.Always.{always}
use Rattle.gc_station.proofs.Answers.{each_made}
use Rattle.gc_station.proofs.Closings.{runs_split}
use Rattle.gc_station.proofs.EachRun.{of_tasks}
use Rattle.gc_station.proofs.Lists.{all_at}
use Rattle.gc_station.proofs.Moments.{after_ticks, all_of_each, moment_or, now_is}
use Rattle.gc_station.proofs.Needed.{sent_with_its_values}
use Rattle.gc_station.proofs.Outs.{send_place, sends_of_cycle}
use Rattle.gc_station.proofs.Waiting.{WasMade}

-- The values that were read last.

-- with one act more, the values read last are those of the moment that the act read, if it read one
values_more : (values : List (List ℕ)) (xs : List Act) (act : Act) → values_read values (xs ++ act ∷ []) ≡ values_or (values_read values xs) (moment_in act)
values_more values [] act = refl
values_more values (x ∷ xs) act = values_more (values_or values (moment_in x)) xs act

-- the values of this moment, if an act read one, and else those of `m`
values_of_moment : (m : Moment) (read : Option Moment) → (moment_or m read).values ≡ values_or m.values read
values_of_moment m None = refl
values_of_moment m (Some read) = refl

-- a run's model has the values of the moment that its acts read last
values_are : (plan : Plan) (commands : List Task) (scope : Scope) (acts : List Act) → Runs plan commands (opening plan scope) acts
    → (state_after plan commands scope acts).progress.moment.values ≡ values_read no_values acts
values_are plan commands scope acts runs =
    always plan commands (opening plan scope) (λ (xs : List Act) (t : Model). t.progress.moment.values ≡ values_read no_values xs)
    (λ done act before obeys values.
    let s = state_after plan commands scope done in
    ap (λ (m : Moment). m.values) (after_ticks plan commands s act obeys) ∙ values_of_moment s.progress.moment (moment_in act)
    ∙ ap (λ (vs : List (List ℕ)). values_or vs (moment_in act)) values ∙ sym (values_more no_values done act)) refl acts runs

-- The request of a record.

-- the values that the first of the commands from a place on takes are those of the command there
needs_there : (commands : List Task) (k : ℕ) (task : Task) → slice_get commands k ≡ Some task → needs_first (drop k commands) ≡ task.needs
needs_there [] zero task e = cc
needs_there [] (suc k) task e = cc
needs_there (t ∷ commands) zero task e = let same : t ≡ task = cc in ap (λ (x : Task). x.needs) same
needs_there (t ∷ commands) (suc k) task e = needs_there commands k task e

-- a command with this target and this call
wish_of_both : (w : Wish) (target : ℕ) (call : Asked) → w.target ≡ target → w.call ≡ call → w ≡ record { target = target; call = call }
wish_of_both w target call of_target of_call =
    ap (λ (n : ℕ). record { target = n; call = w.call }) of_target ∙ ap (λ (c : Asked). record { target = target; call = c }) of_call

-- a record of a command that was sent has the target of the task at its place
target_of_task : (commands : List Task) (r : Record) (task : Task) → IsOfItsTask commands r → slice_get commands r.place ≡ Some task → r.command.target ≡ task.command.target
target_of_task commands r task its listed =
    ap (λ (w : Wish). w.target) its.command ∙ by_sent r.sent ∙ ap (λ (t : Task). t.command.target) (same_Some its.task task (sym its.listed ∙ listed)) where
      -- the target of its task, whether that was sent or not
      by_sent : (sent : Option ℕ) → (command_sent its.values sent its.task).target ≡ its.task.command.target
      by_sent None = refl
      by_sent (Some utc) = refl

module _ (plan : Plan) (commands : List Task) (scope : Scope) (acts : List Act) (r : Record) (runs : Runs plan commands (opening plan scope) acts) where
  -- a record whose request was made of its command then has the request with its values
  made_with_values : IsOfItsTask commands r → WasMade plan commands scope acts r → (its : HasItsRequest plan commands scope acts r) × HasItsValues plan commands scope acts r its
  made_with_values tasked made =
      let before = made.its.before in
      let s = state_after plan commands scope before in
      let own = made.its.own in
      let task = made.asks.0 in
      let listed = made.asks.1 in
      let whole = subst (λ (xs : List Act). Runs plan commands (opening plan scope) xs) made.its.order runs in
      let front = (runs_split plan commands (opening plan scope) before (made.its.between ++ made.act ∷ made.its.behind) made.its.request whole).0 in
      let utc = now_is plan commands scope before front in
      let values = values_are plan commands scope before front in
      let call : r.command.call ≡ call_at task (record { utc = utc_read 0 before; values = values_read no_values before }) =
      made.asks.2 ∙ ap (λ (now : ℕ). call_at task (record { utc = now; values = s.progress.moment.values })) utc
      ∙ ap (λ (vs : List (List ℕ)). call_at task (record { utc = utc_read 0 before; values = vs })) values in (
        record {
          act = made.act;
          its = made.its;
          put = subst (λ (n : ℕ). Puts (with_end (asked_line (Some n) r.command.call)) made.its.request) (sym own.id) own.put;
          moment = own.sent ∙ ap Some utc;
        },
        record {
          task = task;
          listed = listed;
          command = wish_of_both r.command task.command.target _ (target_of_task commands r task tasked listed) call;
          there = λ of_cycle.
              let sends = sends_of_cycle plan s own.sends (subst (λ (n : ℕ). 0 < n) own.cycle of_cycle) in
              let at : slice_get commands (place_next commands s.progress) ≡ Some task =
              ap (slice_get commands) (sym (own.place ∙ send_place plan commands s sends)) ∙ listed in
              ap (λ (vs : List (List ℕ)). lack task.needs vs) (sym values)
              ∙ ap (λ (needs : Needs). lack needs s.progress.moment.values) (sym (needs_there commands (place_next commands s.progress) task at))
              ∙ sent_with_its_values plan commands scope before front sends;
        },
      )

  -- the record at a place among those of a run has its values, if its command was sent
  one_has_values : (n : ℕ) → slice_get (state_after plan commands scope acts).records n ≡ Some r → IsSentWithItsValues plan commands scope acts r
  one_has_values n got utc sent =
      let rs = (state_after plan commands scope acts).records in
      let tasked = all_at (IsOfItsTask commands) rs n r (of_tasks plan commands scope acts) got in
      made_with_values tasked (all_at (λ (x : Record). (at : ℕ) → x.sent ≡ Some at → WasMade plan commands scope acts x) rs n r (each_made plan commands scope acts runs) got utc sent)

-- the law: each request of a run has its values
pub requests_have_values : EachRequestHasItsValues
requests_have_values plan commands scope acts runs =
    all_of_each (IsSentWithItsValues plan commands scope acts) (state_after plan commands scope acts).records
    (λ n r got. one_has_values plan commands scope acts r runs n got)
