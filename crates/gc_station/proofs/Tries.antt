-- A run stops for want of tries only where enough connections ended, or couldn't be made, since a read settled a command, or
-- since the start. `preparing` of a progress is true if there is a setup, and since the connection was made and the station
-- synchronized no cycle began or went on.
-- `up_count` is 1 if there is a connection, and 0 if there is none. An act is one call on the link, with its result. A piece is
-- the bytes that one read gave. `Trying` says how many tries are left, by the connections that ended since the last read that
-- settled a command. `TriesAfterPiece` says what a piece does to the tries: they are all given back if it settles a command and
-- `preparing` is false after it, and stay otherwise; `Settling` says the same of a whole read, by the records.
use Rattle.gc_station.proofs.Common.{◌≡◌, ◌≢◌, ◌⊎◌, inl, inr, ℕ, suc, ◌+◌, ◌<◌, ◌≤◌, Bool, true, false, not, List, [], ◌∷◌, ◌++◌, length, map, Option, Some, None, refl, sym, ap, ◌∙◌, subst, arith, append_assoc, append-nil, length-map, length-append, nil_from_length, not-true, false_from_ne_true, both_ways, Asked, Pending, ById, Task, Moment, Mark, Plan, Cause, Action, Progress, Act, Gave, Closed, Opened, Unopened, Shows, EndsDone, EndsAfter, has_begun, is_up, still_waiting, of_record, commands_in, turned, is_over, loses_all, Record, Grew, state_after, Model, opening, action_at, waiting_of, with_progress, Performs, moved, losing, after, after_all, Runs, IsTried, IsDisconnecting, disconnections_in, openings_in, SettlesNone, NoneSettled, EndsSettled, AllTried, Scope}
use Rattle.gc_station.proofs.Closings.{no_cause_shown, runs_split, needs_of, cause_in, Decided, after_decided, done_is_finished}
use Rattle.gc_station.proofs.Counts.{with_losses_progress}
use Rattle.gc_station.proofs.Always.{always}
use Rattle.gc_station.proofs.EachRun.{invariant_after, invariant_holds}
use Rattle.gc_station.proofs.Facts.{action_for}
use Rattle.gc_station.proofs.InCycle.{or_first}
use Rattle.gc_station.proofs.Invariant.{Invariant}
use Rattle.gc_station.proofs.Going.{after_all-append}
use Rattle.gc_station.proofs.Opens.{IsBalanced, Quits, moved_balanced, IsBalancedAt}
use Rattle.gc_station.proofs.Row.{row_of, row_losing, row_read}
use Rattle.gc_station.proofs.Turns.{no_act_once_over, up_count, at_most_one_up}
use Rattle.gc_station.proofs.TriesTaken.{GivesTriesBack, TriesAfterPiece, TakesTries, took_moved, took_with_turn}
use Rattle.gc_station.proofs.SentAt.{after_grew}
use Rattle.gc_station.specs.declared.cause.Cause.TheVariants as cause
use Rattle.gc_station.specs.declared.progress.Phase.TheVariants as phase
use Rattle.gc_station.specs.declared.progress.Action.TheVariants as actions

-- A read gives tries back where, and only where, it settled a command.

-- as many commands are outstanding as marks are of commands
waiting_count : (marks : List (Option Mark)) (waits : List (Pending Asked)) → length marks ≡ length waits → length (still_waiting marks waits) ≡ commands_in marks
waiting_count [] [] e = refl
waiting_count [] (w ∷ waits) e = refl
waiting_count (mark ∷ marks) [] e = absurd (omega (arith, e))
waiting_count (None ∷ marks) (w ∷ waits) e = waiting_count marks waits (omega (arith, e))
waiting_count (Some mark ∷ marks) (w ∷ waits) e = ap suc (waiting_count marks waits (omega (arith, e)))

-- the records and the outstanding commands are as many as the row has
row_length : (plan : Plan) (commands : List Task) (s : Model) → Invariant plan commands s → length s.records + commands_in s.marks ≡ length (row_of s)
row_length plan commands s fine =
    let a = length-append (map of_record s.records) (still_waiting s.marks s.client.waiting) in
    let b = length-map s.records of_record in
    let c = waiting_count s.marks s.client.waiting fine.paired in
    omega (arith, a, b, c)

-- where two models have the same row, the records and the outstanding commands are as many in both
same_row_length : (plan : Plan) (commands : List Task) (s t : Model) → Invariant plan commands s → Invariant plan commands t → row_of t ≡ row_of s
    → length t.records + commands_in t.marks ≡ length s.records + commands_in s.marks
same_row_length plan commands s t fine fine' same = row_length plan commands t fine' ∙ ap length same ∙ sym (row_length plan commands s fine)

-- records that were only added to, and aren't more than before, are the same
same_if_not_longer : (old new more : List Record) → new ≡ old ++ more → length new ≤ length old → new ≡ old
same_if_not_longer old new more is few =
    let a = ap length is in
    let b = length-append old more in
    let none : length more ≡ 0 = omega (arith, a, b, few) in
    is ∙ ap (λ xs. old ++ xs) (nil_from_length more none) ∙ append-nil old

-- what a read does to the tries, from s to t, as `GivesTriesBack` says: it settled a command if it added a record
abbrev Settling : Plan → (s t : Model) → Type 0
Settling plan s t = GivesTriesBack (t.records ≢ s.records) (t.records ≡ s.records) plan s.progress t.progress

-- a read does what `Settling` says, whatever is lost at its end. `old` commands were outstanding before it, and `mid` after its
-- lines were heard, before anything was lost; and as many commands are recorded or outstanding after it as before
settling_by : (plan : Plan) (s t : Model) (mid old : ℕ) → (grew : Grew s.records t.records) → (same : length t.records + commands_in t.marks ≡ length s.records + old)
    → (kept : (commands_in t.marks ≡ mid) ⊎ (old ≡ 0)) → GivesTriesBack (mid < old) (old ≤ mid) plan s.progress t.progress
    → Settling plan s t
settling_by plan s t mid old grew same kept (inl fewer) = inl (λ e. by_kept kept (ap length e), fewer.1, fewer.2) where
  -- the records became more, as fewer commands are outstanding; or no command waited before, and none can be fewer
  by_kept : ((commands_in t.marks ≡ mid) ⊎ (old ≡ 0)) → length t.records ≡ length s.records → ⊥
  by_kept (inl stay) e = let few = fewer.0 in omega (arith, stay, e, few, same)
  by_kept (inr none) e = let few = fewer.0 in omega (arith, none, few)
settling_by plan s t mid old grew same kept (inr (inr on, tries)) = inr (inr on, tries)
settling_by plan s t mid old grew same kept (inr (inl least, tries)) = inr (inl (same_if_not_longer s.records t.records grew.0 grew.1 (by_kept kept)), tries) where
  -- the records didn't become more
  by_kept : ((commands_in t.marks ≡ mid) ⊎ (old ≡ 0)) → length t.records ≤ length s.records
  by_kept (inl stay) = omega (arith, stay, least, same)
  by_kept (inr none) = omega (arith, none, same)

-- after a read that neither ends the run nor makes the station resynchronize, a loss takes no command away: as many commands are
-- outstanding as before the loss, or none waited before the read
kept_marks : (plan : Plan) (commands : List Task) (s t : Model) (all : Bool) → loses_all t.progress ≡ all → is_over t.progress ≡ false
    → (has_begun t.progress ≡ false → has_begun s.progress ≡ false) → Invariant plan commands s
    → (commands_in (losing all t).marks ≡ commands_in t.marks) ⊎ (commands_in s.marks ≡ 0)
kept_marks plan commands s t false e goes begins fine = inl refl
kept_marks plan commands s t true e goes begins fine =
    let new = fine.begins (begins (not-true (has_begun t.progress) (or_first (not (has_begun t.progress)) (is_over t.progress) e goes))) in
    let none : length s.marks ≡ 0 = fine.paired ∙ ap (λ (c : ById Asked). length c.waiting) new in
    inr (ap commands_in (nil_from_length s.marks none))

-- a read that gave bytes does what `Settling` says
gave_settles : (plan : Plan) (commands : List Task) (s t u : Model) → Invariant plan commands s → Invariant plan commands u → TriesAfterPiece plan s t → (grew : Grew s.records u.records)
    → (same : u.progress ≡ t.progress) → (same_row : row_of u ≡ row_of s)
    → (kept : (commands_in u.marks ≡ commands_in t.marks) ⊎ (commands_in s.marks ≡ 0)) → Settling plan s u
gave_settles plan commands s t u fine fine' h grew same row kept =
    settling_by plan s u (commands_in t.marks) (commands_in s.marks) grew (same_row_length plan commands s u fine fine' row) kept
    (subst (λ (p : Progress). GivesTriesBack (commands_in t.marks < commands_in s.marks) (commands_in s.marks ≤ commands_in t.marks) plan s.progress p) (sym same) h.tries)

-- So the tries are counted along a run.

-- the connections that ended, or couldn't be made, among acts and one more are those among the acts, and the one of the last act,
-- if it has one
disconnections_more : (xs : List Act) (act : Act) → disconnections_in (xs ++ act ∷ []) ≡ disconnections_in xs + disconnections_in (act ∷ [])
disconnections_more [] act = omega arith
disconnections_more (Closed ∷ xs) act = let e = disconnections_more xs act in omega (arith, e)
disconnections_more (Unopened ∷ xs) act = let e = disconnections_more xs act in omega (arith, e)
disconnections_more (x ∷ xs) act = disconnections_more xs act

-- the connections that were asked for among acts and one more are those among the acts, and the one of the last act, if it asks
-- for one
openings_more : (xs : List Act) (act : Act) → openings_in (xs ++ act ∷ []) ≡ openings_in xs + openings_in (act ∷ [])
openings_more [] act = omega arith
openings_more (Opened ∷ xs) act = let e = openings_more xs act in omega (arith, e)
openings_more (Unopened ∷ xs) act = let e = openings_more xs act in omega (arith, e)
openings_more (x ∷ xs) act = openings_more xs act

-- if no read among acts settled a command, and one act more settles none, none among all of them did
none_settled_more : (plan : Plan) (commands : List Task) (s : Model) (xs : List Act) (act : Act) → NoneSettled plan commands s xs
    → SettlesNone (after_all plan commands s xs) act (after plan commands (after_all plan commands s xs) act)
    → NoneSettled plan commands s (xs ++ act ∷ [])
none_settled_more plan commands s [] act none here = (here, tt)
none_settled_more plan commands s (x ∷ xs) act none here = (none.0, none_settled_more plan commands (after plan commands s x) xs act none.1 here)

-- after an act that ends a run whether there is a connection or not, the run is over
quits_over : (plan : Plan) (commands : List Task) (next : Action) (s : Model) (act : Act) → Quits next → is_over (moved plan commands next (with_progress turned s) act).progress ≡ true
quits_over plan commands (actions.Close cause.Stale) s act quits = refl
quits_over plan commands (actions.Close cause.Stopped) s act quits = refl
quits_over plan commands next s act quits = absurd quits

-- an act that closes a connection, or fails to make one (`IsDisconnecting`), shows no cause
disconnecting_shows_none : (why : Cause) (act : Act) → IsDisconnecting act → Shows why act → ⊥
disconnecting_shows_none why act o shows = no_cause_shown IsDisconnecting (λ x. x) (λ x. x) (λ x. x) (λ text n x. x) why act o shows

-- a cause for which a run stops only without a try left (`IsTried`) isn't `Done`
tried_not_done : (p : Progress) (n : ℕ) (why : Cause) → IsTried why → EndsDone p n why → ⊥
tried_not_done p n why tried done = subst IsTried done.0 tried

-- if a run ends for a cause that is one of `IsTried`, no try is left
no_try_at_end : (plan : Plan) (p : Progress) (n : ℕ) (other why : Cause) → IsTried why → EndsAfter plan p n other why → p.tries ≡ 0
no_try_at_end plan p n cause.Done why tried ends = absurd (tried_not_done p n why tried ends)
no_try_at_end plan p n cause.Clock why tried ends = absurd (subst IsTried ends tried)
no_try_at_end plan p n cause.Turns why tried ends = absurd (subst IsTried ends tried)
no_try_at_end plan p n cause.Stale why tried ends = absurd (subst IsTried ends tried)
no_try_at_end plan p n cause.Stopped why tried ends = absurd (subst IsTried ends tried)
no_try_at_end plan p n other why tried (inl done) = absurd (tried_not_done p n why tried done)
no_try_at_end plan p n other why tried (inr used) = used.3

-- a close that ends a run whether there is a connection or not (`Quits`) isn't one after which the run ends for a cause that is
-- one of `IsTried`
tried_not_quits : (plan : Plan) (p : Progress) (n : ℕ) (other why : Cause) → IsTried why → EndsAfter plan p n other why → Quits (actions.Close other) → ⊥
tried_not_quits plan p n cause.Stale why tried ends quits = absurd (subst IsTried ends tried)
tried_not_quits plan p n cause.Stopped why tried ends quits = absurd (subst IsTried ends tried)
tried_not_quits plan p n other why tried ends quits = quits

-- an attempt to connect that failed performs no action that ends a run whether there is a connection or not (`Quits`)
unopened_quits_not : (commands : List Task) (s : Model) (next : Action) → Performs commands s next Unopened → Quits next → ⊥
unopened_quits_not commands s (actions.Close cause.Stale) o quits = let other : Unopened ≡ Closed = o in cc
unopened_quits_not commands s (actions.Close cause.Stopped) o quits = let other : Unopened ≡ Closed = o in cc
unopened_quits_not commands s next o quits = quits

-- an act that closes a connection, or fails to make one (`IsDisconnecting`), settles no command
settles_none : (s t : Model) (act : Act) → IsDisconnecting act → SettlesNone s act t
settles_none s t Closed o = tt
settles_none s t Unopened o = tt
settles_none s t act o = absurd o

-- an act that closes a connection, or fails to make one, counts as one in `disconnections_in`
one_disconnection : (act : Act) → IsDisconnecting act → disconnections_in (act ∷ []) ≡ 1
one_disconnection Closed o = refl
one_disconnection Unopened o = refl
one_disconnection act o = absurd o

module _ (plan : Plan) (commands : List Task) (scope : Scope) where
  -- the model after these acts
  abbrev state : List Act → Model
  state acts = state_after plan commands scope acts

  -- how many tries are left after these acts: since the last read that settled a command (after `before`), or from the start,
  -- each connection that ended or couldn't be made has taken at most one. `held` is 1 if there was a connection at that read,
  -- else 0; `held` and the connections asked for since are as many as those that ended or couldn't be made since, and 1 more if
  -- there is a connection now (`up`)
  record Trying (tries : ℕ) (up : Bool) (acts : List Act) : Type 0 where
    before : List Act
    behind : List Act
    held : ℕ
    order : acts ≡ before ++ behind
    since : (before ≡ []) ⊎ EndsSettled plan commands scope before
    none : NoneSettled plan commands (state before) behind
    left : plan.retries ≤ tries + disconnections_in behind
    most : held ≤ 1
    first : before ≡ [] → held ≡ 0
    opens : openings_in behind + held ≡ disconnections_in behind + up_count up

  -- `Trying` is preserved by an act that settles no command, takes at most one try for each connection that ends by it or
  -- couldn't be made, and of which `IsBalanced` holds
  abbrev trying_on : (tries tries' : ℕ) (up up' : Bool) (acts : List Act) (act : Act) → tries ≤ tries' + disconnections_in (act ∷ []) → IsBalanced up act up'
      → SettlesNone (state acts) act (after plan commands (state acts) act)
      → Trying tries up acts → Trying tries' up' (acts ++ act ∷ [])
  trying_on tries tries' up up' acts act took counted settles t =
      let ends = disconnections_more t.behind act in
      let opens = openings_more t.behind act in
      let there : state acts ≡ after_all plan commands (state t.before) t.behind =
      ap state t.order ∙ after_all-append plan commands (opening plan scope) t.before t.behind in
      let enough = t.left in
      let even = t.opens in
      let least : plan.retries ≤ tries' + disconnections_in (t.behind ++ act ∷ []) = omega (arith, ends, took, enough) in
      let level : openings_in (t.behind ++ act ∷ []) + t.held ≡ disconnections_in (t.behind ++ act ∷ []) + up_count up' = omega (arith, ends, opens, counted, even) in
      record {
        before = t.before;
        behind = t.behind ++ act ∷ [];
        held = t.held;
        order = ap (λ xs. xs ++ act ∷ []) t.order ∙ append_assoc t.before t.behind (act ∷ []);
        since = t.since;
        none = none_settled_more plan commands (state t.before) t.behind act t.none (subst (λ (x : Model). SettlesNone x act (after plan commands x act)) there settles);
        left = least;
        most = t.most;
        first = t.first;
        opens = level;
      }

  -- `Trying` starts again with a read that settled a command, and after which `preparing` is false: it gives all tries back
  trying_anew : (tries : ℕ) (up : Bool) (acts : List Act) (bytes : List ℕ) (m : Moment) → tries ≡ plan.retries
      → (state (acts ++ Gave bytes m ∷ [])).progress.preparing ≡ false
      → (state (acts ++ Gave bytes m ∷ [])).records ≢ (state acts).records → Trying tries up (acts ++ Gave bytes m ∷ [])
  trying_anew tries up acts bytes m all done settled = record {
    before = acts ++ Gave bytes m ∷ [];
    behind = [];
    held = up_count up;
    order = sym (append-nil (acts ++ Gave bytes m ∷ []));
    since = inr (record { earlier = acts; piece = bytes; moment = m; order = refl; settled = settled; prepared = done });
    none = tt;
    left = omega (arith, all);
    most = at_most_one_up up;
    first = λ e. absurd (some acts e);
    opens = refl;
  } where
    -- acts that end with a read aren't none
    some : (xs : List Act) → xs ++ Gave bytes m ∷ [] ≡ [] → ⊥
    some [] e = cc
    some (x ∷ xs) e = cc

  -- `Trying`, of the tries of a model and its connection
  abbrev TryingAt : List Act → Model → Type 0
  TryingAt acts s = Trying s.progress.tries (is_up s.progress.phase) acts

  -- `TryingAt` holds if the run isn't over
  abbrev TryingUnlessOver : List Act → Model → Type 0
  TryingUnlessOver acts s = is_over s.progress ≡ false → TryingAt acts s

  -- the model after these acts and one more
  abbrev next_state : List Act → Act → Model
  next_state acts act = after plan commands (state acts) act

  -- `TryingAt` is preserved by one act; t is the model after it, before what is outstanding is lost
  try_step : (acts : List Act) (act : Act) (t : Model) → (next_state acts act).progress ≡ t.progress → TakesTries plan (state acts) act t → IsBalancedAt (state acts) act t
      → (((bytes : List ℕ) × (m : Moment) × (act ≡ Gave bytes m)) → TriesAfterPiece plan (state acts) t → Settling plan (state acts) (next_state acts act))
      → TryingAt acts (state acts) → TryingAt (acts ++ act ∷ []) (next_state acts act)
  try_step acts (Gave bytes m) t same took counted settling trying = by_settling (settling (bytes, m, refl) took) where
    -- the model after the acts with this one is the next one
    appended : state (acts ++ Gave bytes m ∷ []) ≡ next_state acts (Gave bytes m)
    appended = after_all-append plan commands (opening plan scope) acts (Gave bytes m ∷ [])

    -- the loss of what is outstanding changes nothing of the connection
    up_same : IsBalancedAt (state acts) (Gave bytes m) (next_state acts (Gave bytes m))
    up_same = subst (λ (p : Progress). IsBalanced (is_up (state acts).progress.phase) (Gave bytes m) (is_up p.phase)) (sym same) counted

    -- the lemma above, by whether the read settled a command
    by_settling : Settling plan (state acts) (next_state acts (Gave bytes m)) → TryingAt (acts ++ Gave bytes m ∷ []) (next_state acts (Gave bytes m))
    by_settling (inl some) =
        let u = next_state acts (Gave bytes m) in
        trying_anew u.progress.tries (is_up u.progress.phase) acts bytes m some.2 (ap (λ (x : Model). x.progress.preparing) appended ∙ some.1)
        (λ e. some.0 (sym (ap (λ (x : Model). x.records) appended) ∙ e))
    by_settling (inr none) =
        let s = state acts in
        let u = next_state acts (Gave bytes m) in
        let kept = none.1 in
        let tries : s.progress.tries ≤ u.progress.tries + 0 = omega (arith, kept) in
        trying_on s.progress.tries u.progress.tries (is_up s.progress.phase) (is_up u.progress.phase) acts (Gave bytes m) tries up_same none.0 trying
  try_step acts act t same took counted settling trying =
      let s = state acts in
      let u = next_state acts act in
      trying_on s.progress.tries u.progress.tries (is_up s.progress.phase) (is_up u.progress.phase) acts act
      (subst (λ (p : Progress). s.progress.tries ≤ p.tries + disconnections_in (act ∷ [])) (sym same) took)
      (subst (λ (p : Progress). IsBalanced (is_up s.progress.phase) act (is_up p.phase)) (sym same) counted) tt trying

  -- `TryingUnlessOver` is preserved by one act of a run more
  try_after : (done : List Act) (act : Act)
      → Performs commands (state done) (action_at plan (state done)) act
      → TryingUnlessOver done (state done)
      → TryingUnlessOver (done ++ act ∷ []) (next_state done act)
  try_after done act o trying not_over =
      let s = state done in
      let u = after plan commands s act in
      let t = moved plan commands (action_at plan s) (with_progress turned s) act in
      let same = with_losses_progress t in
      let goes = false_from_ne_true (is_over s.progress) (λ over. no_act_once_over plan commands s act over o) in
      let fine = invariant_holds plan commands scope done in
      let not_over_mid : is_over t.progress ≡ false = sym (ap is_over same) ∙ not_over in
      try_step done act t same
      (took_with_turn plan s t act (took_moved plan commands (action_at plan s) s act o))
      (moved_balanced plan commands (action_at plan s) s act o (action_for plan s.progress (waiting_of s))
      (λ quits. absurd (both_ways (is_over t.progress) not_over_mid (quits_over plan commands (action_at plan s) s act quits))))
      (λ gave h. gave_settles plan commands s t u fine (invariant_after plan commands s act fine) h (after_grew plan commands s act) same
      (row_losing (loses_all t.progress) t ∙ row_read plan commands (action_at plan s) (with_progress turned s) act gave.0 gave.1 o gave.2)
      (kept_marks plan commands s t (loses_all t.progress) refl not_over_mid h.begins fine))
      (trying goes)

  -- `TryingUnlessOver` holds after every run
  try_holds : (acts : List Act) → Runs plan commands (opening plan scope) acts
      → TryingUnlessOver acts (state acts)
  try_holds acts runs =
      always plan commands (opening plan scope) TryingUnlessOver (λ done act runs' o. try_after done act o)
      (λ not_over. record {
        before = [];
        behind = [];
        held = 0;
        order = refl;
        since = inl refl;
        none = tt;
        left = omega arith;
        most = omega arith;
        first = λ e. refl;
        opens = refl;
      }) acts runs

  -- A run that stops.

  -- if no try is left (`Trying`), and the last act closes a connection or fails to make one, so that there is none, all tries are
  -- used up as the law says (`AllTried`)
  all_tried : (acts : List Act) (last : Act) → IsDisconnecting last → IsBalanced (is_up (state acts).progress.phase) last false
      → Trying 0 (is_up (state acts).progress.phase) acts → AllTried plan commands scope (acts ++ last ∷ [])
  all_tried acts last ending counted t =
      let s = state acts in
      let one = one_disconnection last ending in
      let more : 0 ≤ 0 + disconnections_in (last ∷ []) = omega arith in
      let u = trying_on 0 0 (is_up s.progress.phase) false acts last more counted (settles_none s (after plan commands s last) last ending) t in
      let ends = disconnections_more t.behind last in
      let left : plan.retries ≤ 0 + disconnections_in t.behind = t.left in
      let over : plan.retries < disconnections_in (t.behind ++ last ∷ []) = omega (arith, ends, one, left) in
      let even : openings_in (t.behind ++ last ∷ []) + t.held ≡ disconnections_in (t.behind ++ last ∷ []) + 0 = u.opens in
      let most : t.held ≤ 1 = t.most in
      let enough : plan.retries ≤ openings_in (t.behind ++ last ∷ []) = omega (arith, over, even, most) in
      record {
        before = u.before;
        behind = u.behind;
        order = u.order;
        since = u.since;
        none = u.none;
        ended = over;
        opened = enough;
        first = λ e. let start : t.held ≡ 0 = t.first e in let all : plan.retries < openings_in (t.behind ++ last ∷ []) = omega (arith, over, even, start) in all;
      }

  -- if a run stops for a cause that is one of `IsTried`, at an act that closes a connection or fails to make one, all tries are
  -- used up (`AllTried`)
  pub stop_tried : (acts : List Act) (last : Act) (why : Cause) → Runs plan commands (opening plan scope) (acts ++ last ∷ [])
      → action_at plan (state (acts ++ last ∷ [])) ≡ actions.Stop why → IsTried why → IsDisconnecting last → AllTried plan commands scope (acts ++ last ∷ [])
  stop_tried acts last why runs stop tried ending = by_decided decided where
    -- the model before the last act
    s : Model
    s = state acts

    -- the model after the last act, before what is outstanding is lost
    t : Model
    t = moved plan commands (action_at plan s) (with_progress turned s) last

    -- the acts before the last one are a run, and the last one performs the action that was next
    split : Runs plan commands (opening plan scope) acts × Performs commands s (action_at plan s) last
    split = runs_split plan commands (opening plan scope) acts [] last runs

    -- the run is over, and not for its turns
    over : (state (acts ++ last ∷ [])).progress.phase ≡ phase.Over why
    over = by_needs (needs_of plan (state (acts ++ last ∷ [])) (actions.Stop why) stop).1 where
      -- the phase says that the run is over: the other condition of a stop, that all turns are used up, is no cause of `IsTried`
      by_needs : ((state (acts ++ last ∷ [])).progress.phase ≡ phase.Over why)
          ⊎ ((why ≡ cause.Turns) × ((state (acts ++ last ∷ [])).progress.turns ≡ 0))
          → (state (acts ++ last ∷ [])).progress.phase ≡ phase.Over why
      by_needs (inl is) = is
      by_needs (inr turns) = absurd (subst IsTried turns.0 tried)

    -- the phase after the last act says that the run is over
    there : (after plan commands s last).progress.phase ≡ phase.Over why
    there = sym (ap (λ (x : Model). x.progress.phase) (after_all-append plan commands (opening plan scope) acts (last ∷ []))) ∙ over

    -- the last act decided the end
    decided : Decided plan s (after plan commands s last).progress.phase why last
    decided = after_decided plan commands s last why split.1 (done_is_finished plan commands scope acts) (ap cause_in there)

    -- after the last act there is no connection
    down : is_up t.progress.phase ≡ false
    down = sym (ap (λ (p : Progress). is_up p.phase) (with_losses_progress t)) ∙ ap is_up there

    -- before the last act the run wasn't over
    goes : is_over s.progress ≡ false
    goes = false_from_ne_true (is_over s.progress) (λ gone. no_act_once_over plan commands s last gone split.1)

    -- the connection that the last act ends, or couldn't make, is counted
    counted : (Quits (action_at plan s) → ⊥) → IsBalanced (is_up s.progress.phase) last false
    counted never = subst (λ (b : Bool). IsBalanced (is_up s.progress.phase) last b) down
        (moved_balanced plan commands (action_at plan s) s last split.1 (action_for plan s.progress (waiting_of s)) never)

    -- if no try was left before the last act, all tries are used up
    used : (Quits (action_at plan s) → ⊥) → s.progress.tries ≡ 0 → AllTried plan commands scope (acts ++ last ∷ [])
    used never none = all_tried acts last ending (counted never)
        (subst (λ n. Trying n (is_up s.progress.phase) acts) none (try_holds acts split.0 goes))

    -- the last act ended a connection or could make none, so no try was left
    by_decided : Decided plan s (after plan commands s last).progress.phase why last → AllTried plan commands scope (acts ++ last ∷ [])
    by_decided (inl failed) = absurd (disconnecting_shows_none why last ending failed.1)
    by_decided (inr (down, inl (other, closes, next, ends))) =
        used (λ quits. tried_not_quits plan s.progress (commands_in s.marks) other why tried ends (subst Quits next quits)) (no_try_at_end plan s.progress (commands_in s.marks) other why tried ends)
    by_decided (inr (down, inr (unopened, ends))) =
        used (λ quits. unopened_quits_not commands s (action_at plan s) (subst (λ (a : Act). Performs commands s (action_at plan s) a) unopened split.1) quits)
        (no_try_at_end plan s.progress (commands_in s.marks) cause.Open why tried ends)
