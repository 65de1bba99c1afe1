-- Each command of the setup that was sent has one record, or is outstanding; and its attempts count over the run. The row of a
-- station has its records and, after them, the outstanding commands. An act leaves the row as it is, or adds the command that is
-- sent, or recorded without being sent.
use Rattle.gc_station.proofs.Common.{◌≡◌, ◌⊎◌, inl, inr, ℕ, ◌+◌, ◌-◌, ◌<◌, ◌≤◌, Bool, if◌then◌else◌, nat_eq, min, List, [], ◌∷◌, ◌++◌, length, drop, map, Option, Some, None, refl, sym, ap, ◌∙◌, subst, arith, append_assoc, append-nil, length-drop, map-append, Asked, Settlement, heard, hears, lost, Task, Moment, Act, Told, Opened, Cut, Gave, Mark, Plan, Action, Progress, Until, later, commands_in, records_of, moment_noted, turned, loses_all, next_attempt, HoldsBefore, Record, state_after, Scope, Reads, Model, opening, action_at, waiting_of, is_heard, asks_first, after_piece, line_came, losing, moved, piece_at, first_unsent_record, with_progress, with_moment, with_rest, after, after_all, request_or_null, asks_for, mark_sent, mark_setup_sent, cycles_begun, place_next, commands_left, mark_next, mark_setup, Dispatch, dispatch_of_record, dispatch_of_mark, dispatches_of, of_setup, sent_first, setup_sent_at, setup_sent_by, EachSetUpOnce, IsNextAfter, GoOn, AreInOrder, SetUpsGoOn, dispatch_row, filter-append}
use Rattle.gc_station.proofs.Counts.{with_losses_progress}
use Rattle.gc_station.proofs.EachRun.{invariant_all, invariant_opening, invariant_holds, all_recorded_at_stop}
use Rattle.gc_station.proofs.Facts.{action_for}
use Rattle.gc_station.proofs.InCycle.{not_zero}
use Rattle.gc_station.proofs.Invariant.{Invariant}
use Rattle.gc_station.proofs.Walk.{came_along, losing_along, closed_along, moved_changed}
use Rattle.gc_station.specs.declared.progress.Action.TheVariants as action

-- The row.

-- the commands of the records of settlements, and after them those of the marks that are left, are those of all marks
dispatches_of_settled : (reads : Reads) (utc : ℕ) (ms : List (Option Mark)) (ss : List (Settlement Asked))
    → map dispatch_of_record (records_of reads utc ms ss) ++ dispatches_of (drop (length ss) ms) ≡ dispatches_of ms
dispatches_of_settled reads utc [] [] = refl
dispatches_of_settled reads utc [] (x ∷ ss) = refl
dispatches_of_settled reads utc (None ∷ ms) [] = refl
dispatches_of_settled reads utc (Some mark ∷ ms) [] = refl
dispatches_of_settled reads utc (None ∷ ms) (x ∷ ss) = dispatches_of_settled reads utc ms ss
dispatches_of_settled reads utc (Some mark ∷ ms) (x ∷ ss) = ap (λ xs. dispatch_of_mark mark ∷ xs) (dispatches_of_settled reads utc ms ss)

-- settlements leave the row of dispatches as it is: their records take the place of the requests
dispatch_row_settles : (reads : Reads) (utc : ℕ) (ms : List (Option Mark)) (ss : List (Settlement Asked)) (rs : List Record)
    → map dispatch_of_record (rs ++ records_of reads utc ms ss) ++ dispatches_of (drop (length ss) ms) ≡ map dispatch_of_record rs ++ dispatches_of ms
dispatch_row_settles reads utc ms ss rs =
    let left = dispatches_of (drop (length ss) ms) in
    let news = records_of reads utc ms ss in
    ap (λ xs. xs ++ left) (map-append dispatch_of_record rs news) ∙ append_assoc (map dispatch_of_record rs) (map dispatch_of_record news) left ∙ ap
    (λ xs. map dispatch_of_record rs ++ xs) (dispatches_of_settled reads utc ms ss)

-- a line that is heard leaves `dispatch_row` as it is
dispatch_row_line : (s : Model) (line : List ℕ) → dispatch_row (line_came s line) ≡ dispatch_row s
dispatch_row_line s line = let x = hears s.client line (heard line) in dispatch_row_settles s.reads s.progress.moment.utc s.marks x.settlements s.records

-- a piece leaves `dispatch_row` as it is, heard or not
dispatch_row_came : (heard : Bool) (word piece : List ℕ) (s : Model) → dispatch_row (after_piece heard word piece s) ≡ dispatch_row s
dispatch_row_came h word piece s = came_along (λ (t : Model). dispatch_row t ≡ dispatch_row s) (λ t line e. dispatch_row_line t line ∙ e) h word piece s refl refl refl

-- a read that gave bytes leaves `dispatch_row` as it is
dispatch_row_gave : (plan : Plan) (until : Until) (s : Model) (bytes : List ℕ) (m : Moment) → dispatch_row (piece_at plan until bytes m s) ≡ dispatch_row s
dispatch_row_gave plan until s bytes m = dispatch_row_came (is_heard s.progress.phase) s.progress.exchange.word bytes (with_moment m (with_progress (moment_noted m) s))

-- the loss of what is outstanding leaves `dispatch_row` as it is
pub dispatch_row_losing : (all : Bool) (s : Model) → dispatch_row (losing all s) ≡ dispatch_row s
dispatch_row_losing all s =
    losing_along (λ (t : Model). dispatch_row t ≡ dispatch_row s) all s (dispatch_row_settles s.reads s.progress.moment.utc s.marks (map lost s.client.waiting) s.records) refl

-- the dispatches of two lists of marks, one after the other, are those of the first list, and after them those of the second
dispatches-append : (xs ys : List (Option Mark)) → dispatches_of (xs ++ ys) ≡ dispatches_of xs ++ dispatches_of ys
dispatches-append [] ys = refl
dispatches-append (None ∷ xs) ys = dispatches-append xs ys
dispatches-append (Some mark ∷ xs) ys = ap (λ zs. dispatch_of_mark mark ∷ zs) (dispatches-append xs ys)

-- one mark more adds its command, if it is a command's, to the row of dispatches, after the others
dispatch_row_more : (rs : List Record) (ms : List (Option Mark)) (m : Option Mark)
    → map dispatch_of_record rs ++ dispatches_of (ms ++ m ∷ []) ≡ (map dispatch_of_record rs ++ dispatches_of ms) ++ dispatches_of (m ∷ [])
dispatch_row_more rs ms m = ap (λ xs. map dispatch_of_record rs ++ xs) (dispatches-append ms (m ∷ [])) ∙ sym (append_assoc (map dispatch_of_record rs) (dispatches_of ms) (dispatches_of (m ∷ [])))

-- to send the first of these commands adds it to `dispatch_row`; without one nothing is added
dispatch_row_first : (mark : Mark) (left : List Task) (s : Model) → dispatch_row (asks_first mark left s) ≡ dispatch_row s ++ sent_first mark left
dispatch_row_first mark [] s = sym (append-nil (dispatch_row s))
dispatch_row_first mark (task ∷ others) s = dispatch_row_more s.records s.marks (Some mark)

-- to send the first of these commands of the setup adds it to `dispatch_row`; a null procedure, sent without one, adds nothing
dispatch_row_setup : (plan : Plan) (mark : Mark) (left : List Task) (s : Model) → dispatch_row (asks_for (request_or_null plan mark left) s) ≡ dispatch_row s ++ sent_first mark left
dispatch_row_setup plan mark [] s = dispatch_row_more s.records s.marks None
dispatch_row_setup plan mark (task ∷ others) s = dispatch_row_first mark (task ∷ others) s

module _ (plan : Plan) (commands : List Task) where
  -- an act that sends the next command of the setup adds it to `dispatch_row`
  pub dispatch_row_prepared : (s : Model) (act : Act) → dispatch_row (moved plan commands action.Prepare s act) ≡ dispatch_row s ++ setup_sent_at action.Prepare commands s
  dispatch_row_prepared s (Cut bytes n) = dispatch_row_setup plan (mark_setup_sent commands s) (drop s.progress.prepared commands) s
  dispatch_row_prepared s act = dispatch_row_setup plan (mark_setup_sent commands s) (drop s.progress.prepared commands) s

  -- an act that sends the next command of a cycle adds it to `dispatch_row`, if there is one
  dispatch_row_sent : (s : Model) (act : Act) → dispatch_row (moved plan commands action.Send s act)
      ≡ dispatch_row s ++ sent_first (mark_sent plan commands s) (commands_left commands s.progress)
  dispatch_row_sent s (Cut bytes n) = dispatch_row_first (mark_sent plan commands s) (drop (place_next commands s.progress) commands) s
  dispatch_row_sent s act = dispatch_row_first (mark_sent plan commands s) (drop (place_next commands s.progress) commands) s

  -- an action by which no command is sent, or recorded without being sent: any but `Prepare`, `Send` and `Skip`
  abbrev pub LeavesDispatchRow : Action → Type 0
  LeavesDispatchRow action.Prepare = ⊥
  LeavesDispatchRow action.Send = ⊥
  LeavesDispatchRow action.Skip = ⊥
  LeavesDispatchRow o = Unit {0}

  -- an act of such an action (`LeavesDispatchRow`) leaves `dispatch_row` as it is
  pub dispatch_row_kept : (o : Action) (s : Model) (act : Act) → LeavesDispatchRow o → dispatch_row (moved plan commands o s act) ≡ dispatch_row s
  dispatch_row_kept action.Prepare s act other = absurd other
  dispatch_row_kept action.Send s act other = absurd other
  dispatch_row_kept action.Skip s act other = absurd other
  dispatch_row_kept action.Flush s (Cut bytes n) other = dispatch_row_more s.records s.marks None ∙ append-nil (dispatch_row s)
  dispatch_row_kept action.Flush s act other = dispatch_row_more s.records s.marks None ∙ append-nil (dispatch_row s)
  dispatch_row_kept (action.Read until) s (Gave bytes m) other = dispatch_row_gave plan until s bytes m
  dispatch_row_kept (action.Read until) s act other = refl
  dispatch_row_kept o s act other = ap dispatch_row (moved_changed plan commands o s act)

-- Those of the setup.

-- one command, which is of a cycle, has none of the setup in it
no_setup_in_one : (x : Dispatch) → 0 < x.cycle → of_setup (x ∷ []) ≡ []
no_setup_in_one x many = ap (λ b. if b then x ∷ [] else []) (not_zero x.cycle many)

-- a command of a cycle that is sent isn't one of the setup
no_setup_sent : (mark : Mark) (left : List Task) → 0 < mark.cycle → of_setup (sent_first mark left) ≡ []
no_setup_sent mark [] many = refl
no_setup_sent mark (task ∷ others) many = no_setup_in_one (dispatch_of_mark mark) many

-- the record of a command of a cycle that isn't sent isn't one of the setup
no_setup_skipped : (p : Progress) (m : Moment) (mark : Mark) (left : List Task) → 0 < mark.cycle → of_setup (map dispatch_of_record (first_unsent_record p m mark left)) ≡ []
no_setup_skipped p m mark [] many = refl
no_setup_skipped p m mark (task ∷ others) many = no_setup_in_one (record { cycle = mark.cycle; place = mark.place; attempt = mark.expected.turn.attempt; sent = None }) many

-- a command of the setup that is sent is of the setup
setup_sent_is_of_setup : (commands : List Task) (p : Progress) (left : List Task) → of_setup (sent_first (mark_setup commands p) left) ≡ sent_first (mark_setup commands p) left
setup_sent_is_of_setup commands p [] = refl
setup_sent_is_of_setup commands p (task ∷ others) = refl

-- records that aren't of the setup, between others and the outstanding commands, add no command of it
no_setup_between : (rs news : List Record) (ms : List (Option Mark)) → of_setup (map dispatch_of_record news) ≡ []
    → of_setup (map dispatch_of_record (rs ++ news) ++ dispatches_of ms) ≡ of_setup (map dispatch_of_record rs ++ dispatches_of ms)
no_setup_between rs news ms none =
    ap (λ xs. of_setup (xs ++ dispatches_of ms)) (map-append dispatch_of_record rs news) ∙ filter-append _ (map dispatch_of_record rs ++ map dispatch_of_record news) (dispatches_of ms)
    ∙ ap (λ xs. xs ++ of_setup (dispatches_of ms))
    (filter-append _ (map dispatch_of_record rs) (map dispatch_of_record news) ∙ ap (λ xs. of_setup (map dispatch_of_record rs) ++ xs) none ∙ append-nil (of_setup (map dispatch_of_record rs)))
    ∙ sym (filter-append _ (map dispatch_of_record rs) (dispatches_of ms))

-- if no mark is of a command, the marks give no dispatch
pub dispatches_none : (ms : List (Option Mark)) → commands_in ms ≡ 0 → dispatches_of ms ≡ []
dispatches_none [] e = refl
dispatches_none (None ∷ ms) e = dispatches_none ms e
dispatches_none (Some mark ∷ ms) e = absurd (omega (arith, e))

module _ (plan : Plan) (commands : List Task) where
  -- where `Invariant` holds, a cycle has begun if some command of a cycle is unsent
  some_cycle : (s : Model) → Invariant plan commands s → 0 < s.progress.unsent → 0 < cycles_begun plan s.progress
  some_cycle s fine some = let below = fine.begun some in omega (arith, below)

  -- an act adds to the setup's part of the row the command of the setup that it sends, if it sends one; where `Invariant` holds
  -- before it, and `HoldsBefore` of its action
  setup_moved : (o : Action) (s : Model) (act : Act) → Invariant plan commands s → HoldsBefore plan s.progress (waiting_of s) o
      → of_setup (dispatch_row (moved plan commands o (with_progress turned s) act)) ≡ of_setup (dispatch_row s) ++ setup_sent_at o commands s
  setup_moved action.Prepare s act fine is =
      let t = with_progress turned s in
      ap of_setup (dispatch_row_prepared plan commands t act) ∙ filter-append _ (dispatch_row s) (setup_sent_at action.Prepare commands t)
      ∙ ap (λ xs. of_setup (dispatch_row s) ++ xs) (setup_sent_is_of_setup commands t.progress (drop t.progress.prepared commands))
  setup_moved action.Send s act fine is =
      let t = with_progress turned s in
      let one = sent_first (mark_sent plan commands t) (drop (place_next commands t.progress) commands) in
      ap of_setup (dispatch_row_sent plan commands t act) ∙ filter-append _ (dispatch_row s) one
      ∙ ap (λ xs. of_setup (dispatch_row s) ++ xs) (no_setup_sent (mark_sent plan commands t) (drop (place_next commands t.progress) commands) (some_cycle s fine is.2))
  setup_moved action.Skip s (Told m) fine is =
      let p = turned s.progress in
      let left = drop (place_next commands p) commands in
      no_setup_between s.records (first_unsent_record p m (mark_next plan commands p) left) s.marks (no_setup_skipped p m (mark_next plan commands p) left (some_cycle s fine is.2)) ∙ sym
      (append-nil (of_setup (dispatch_row s)))
  setup_moved action.Skip s act fine is = no_setup_between s.records [] s.marks refl ∙ sym (append-nil (of_setup (dispatch_row s)))
  setup_moved o s act fine is = ap of_setup (dispatch_row_kept plan commands o (with_progress turned s) act tt) ∙ sym (append-nil (of_setup (dispatch_row s)))

  -- acts add to the setup's part of the row the commands of the setup that they send, where `Invariant` holds before them
  setup_from : (s : Model) (acts : List Act) → Invariant plan commands s → of_setup (dispatch_row (after_all plan commands s acts)) ≡ of_setup (dispatch_row s) ++ setup_sent_by plan commands s acts
  setup_from s [] fine = sym (append-nil (of_setup (dispatch_row s)))
  setup_from s (act ∷ acts) fine =
      let o = action_at plan s in
      let u = after plan commands s act in
      let t = moved plan commands o (with_progress turned s) act in
      let one = ap of_setup (dispatch_row_losing (loses_all t.progress) t) ∙ setup_moved o s act fine (action_for plan s.progress (waiting_of s)) in
      setup_from u acts (invariant_all plan commands s (act ∷ []) fine) ∙ ap (λ xs. xs ++ setup_sent_by plan commands u acts) one
      ∙ append_assoc (of_setup (dispatch_row s)) (setup_sent_at o commands s) (setup_sent_by plan commands u acts)

-- the law: each command of the setup that was sent has one record, or is outstanding; and if the run stopped, none is
-- outstanding
pub each_set_up_once : (plan : Plan) (commands : List Task) (scope : Scope) (acts : List Act) → EachSetUpOnce plan commands scope acts
each_set_up_once plan commands scope acts =
    let s = state_after plan commands scope acts in
    let all = setup_from plan commands (opening plan scope) acts (invariant_opening plan commands scope) in
    let fine = invariant_holds plan commands scope acts in
    record {
      each = all;
      settled = λ why stop.
          let paired : length s.marks ≡ length s.client.waiting = fine.paired in
          let empty : length s.client.waiting ≡ 0 = ap length (all_recorded_at_stop plan commands s why fine stop).0 in
          ap of_setup (sym (append-nil (map dispatch_of_record s.records)) ∙ ap (λ xs. map dispatch_of_record s.records ++ xs) (sym (no_dispatches s.marks (omega (arith, paired, empty))))) ∙ all;
    } where
      -- if there are no marks, no command is outstanding
      no_dispatches : (ms : List (Option Mark)) → length ms ≡ 0 → dispatches_of ms ≡ []
      no_dispatches [] e = refl
      no_dispatches (m ∷ ms) e = absurd (omega (arith, e))

-- Attempts.

-- from p to q the setup's next command and attempt stay; or the setup is sent again
abbrev pub Resets : (p q : Progress) → Type 0
Resets p q = ((q.attempt ≡ p.attempt) × (q.prepared ≡ p.prepared)) ⊎ ((q.attempt ≡ next_attempt p) × (q.prepared ≡ 0))

-- an act that sends no command of the setup changes neither the setup's next command nor its attempt, or restarts the setup
resets : (plan : Plan) (commands : List Task) (o : Action) (s : Model) (act : Act) → (o ≡ action.Prepare → ⊥) → Resets s.progress (moved plan commands o s act).progress
resets plan commands action.Prepare s act other = absurd (other refl)
resets plan commands action.Renew s (Told m) other = inr (refl, refl)
resets plan commands action.Renew s act other = inl (refl, refl)
resets plan commands action.Open s Opened other = inl (refl, refl)
resets plan commands action.Open s act other = inr (refl, refl)
resets plan commands (action.Close why) s act other = closed_along (λ (q : Progress). Resets s.progress q) plan (waiting_of (with_rest [] s)) why s.progress (inl (refl, refl)) (inr (refl, refl))
resets plan commands o s act other =
    let is = moved_changed plan commands o s act in
    inl (ap (λ (x : Model). x.progress.attempt) is, ap (λ (x : Model). x.progress.prepared) is)

-- an act that sends a command of the setup keeps the attempt, and makes the setup's next place one more, at most `plan.setup`
pub prepares : (plan : Plan) (commands : List Task) (s : Model) (act : Act)
    → ((moved plan commands action.Prepare s act).progress.attempt ≡ s.progress.attempt) × ((moved plan commands action.Prepare s act).progress.prepared ≡ min (s.progress.prepared + 1) plan.setup)
prepares plan commands s (Cut bytes n) = (refl, refl)
prepares plan commands s act = (refl, refl)

-- the next command of the setup, at the progress p, goes after x (`IsNextAfter`)
abbrev NextGoesAfter : (x : Dispatch) → (p : Progress) → Type 0
NextGoesAfter x p = IsNextAfter x (record { cycle = 0; place = p.prepared; attempt = p.attempt; sent = None })

-- if the setup starts again, its first command is next, and goes after x, if the one that was next did
restarted_next : (x : Dispatch) (p q : Progress) → q.attempt ≡ next_attempt p → q.prepared ≡ 0 → NextGoesAfter x p → NextGoesAfter x q
restarted_next x p q a k (inl is) = inr (
  a ∙ ap (λ (b : Bool). if b then p.attempt else later p.attempt 1)
      (not_zero p.prepared (let at : p.prepared ≡ x.place + 1 = is.1 in omega (arith, at))) ∙ ap (λ n. later n 1) is.0,
  k,
)
restarted_next x p q a k (inr is) = inr (a ∙ ap (λ (n : ℕ). if nat_eq n 0 then p.attempt else later p.attempt 1) is.1 ∙ is.0, k)

-- if from p to q the setup's next command stays, or is the first again (`Resets`), it still goes after x
next_kept : (x : Dispatch) (p q : Progress) → Resets p q → NextGoesAfter x p → NextGoesAfter x q
next_kept x p q (inl same) (inl is) = inl (same.0 ∙ is.0, same.1 ∙ is.1)
next_kept x p q (inl same) (inr is) = inr (same.0 ∙ is.0, same.1 ∙ is.1)
next_kept x p q (inr anew) is = restarted_next x p q anew.0 anew.1 is

-- an action is `Prepare`, by which a command of the setup is sent, or it isn't
is_prepare_or_not : (o : Action) → (o ≡ action.Prepare) ⊎ (o ≡ action.Prepare → ⊥)
is_prepare_or_not action.Prepare = inl refl
is_prepare_or_not o = inr (λ e. cc)

-- an action other than `Prepare` sends no command of the setup
others_send_none : (o : Action) (commands : List Task) (s : Model) → (o ≡ action.Prepare → ⊥) → setup_sent_at o commands s ≡ []
others_send_none action.Prepare commands s other = absurd (other refl)
others_send_none o commands s other = refl

-- if there is a command, the first one alone is what `sent_first` says is sent
pub sent_some : (mark : Mark) (left : List Task) → 0 < length left → sent_first mark left ≡ dispatch_of_mark mark ∷ []
sent_some mark [] some = absurd (omega (arith, some))
sent_some mark (task ∷ others) some = refl

module _ (plan : Plan) (commands : List Task) (within : plan.setup ≤ length commands) where
  -- the dispatch of the next command of the setup
  abbrev next_dispatch : Model → Dispatch
  next_dispatch s = dispatch_of_mark (mark_setup commands s.progress)

  -- if a command of the setup is next, its place is below `plan.setup`
  prepared_below_setup : (s : Model) → action_at plan s ≡ action.Prepare → s.progress.prepared < plan.setup
  prepared_below_setup s is = let needs = subst (λ (o : Action). HoldsBefore plan s.progress (waiting_of s) o) is (action_for plan s.progress (waiting_of s)) in needs.2.1

  -- if a command of the setup is next, what the next action sends of the setup (`setup_sent_at`) is that command alone
  pub sends_next_dispatch : (s : Model) → action_at plan s ≡ action.Prepare → setup_sent_at (action_at plan s) commands s ≡ next_dispatch s ∷ []
  sends_next_dispatch s is =
      let some = prepared_below_setup s is in
      let many : length (drop s.progress.prepared commands) ≡ length commands - s.progress.prepared = length-drop s.progress.prepared commands in
      ap (λ (o : Action). setup_sent_at o commands s) is ∙ sent_some (mark_setup commands s.progress) (drop s.progress.prepared commands) (omega (arith, many, some, within))

  -- after the setup's next command was sent, the one that is next then goes after it (`NextGoesAfter`)
  next_sent : (s : Model) (act : Act) → action_at plan s ≡ action.Prepare → NextGoesAfter (next_dispatch s) (after plan commands s act).progress
  next_sent s act is =
      let t = with_progress turned s in
      let far : (after plan commands s act).progress ≡ (moved plan commands action.Prepare t act).progress =
      with_losses_progress (moved plan commands (action_at plan s) t act) ∙ ap (λ (o : Action). (moved plan commands o t act).progress) is in
      let it = prepares plan commands t act in
      let prepared : (moved plan commands action.Prepare t act).progress.prepared ≡ min (s.progress.prepared + 1) plan.setup = it.1 in
      let some = prepared_below_setup s is in
      inl (ap (λ (p : Progress). p.attempt) far ∙ it.0, ap (λ (p : Progress). p.prepared) far ∙ omega (arith, prepared, some))

  -- if the setup's next command goes after x (`NextGoesAfter`), it still does after an act that sends no command of the setup
  next_other : (x : Dispatch) (s : Model) (act : Act) → (action_at plan s ≡ action.Prepare → ⊥) → NextGoesAfter x s.progress → NextGoesAfter x (after plan commands s act).progress
  next_other x s act other is =
      let t = moved plan commands (action_at plan s) (with_progress turned s) act in
      subst (λ (q : Progress). NextGoesAfter x q) (sym (with_losses_progress t))
      (next_kept x (turned s.progress) t.progress (resets plan commands (action_at plan s) (with_progress turned s) act other) is)

  -- if the setup's next command goes after x (`NextGoesAfter`), the commands of the setup that these acts send go on after x
  go_on_from : (x : Dispatch) (s : Model) (acts : List Act) → NextGoesAfter x s.progress → GoOn x (setup_sent_by plan commands s acts)
  go_on_from x s [] is = tt
  go_on_from x s (act ∷ acts) is =
      let u = after plan commands s act in
      let rest = setup_sent_by plan commands u acts in
      elim (is_prepare_or_not (action_at plan s)) [
        | inl sends ↦ subst (λ xs. GoOn x (xs ++ rest)) (sym (sends_next_dispatch s sends)) (is, go_on_from (next_dispatch s) u acts (next_sent s act sends))
        | inr other ↦ subst (λ xs. GoOn x (xs ++ rest)) (sym (others_send_none (action_at plan s) commands s other)) (go_on_from x u acts (next_other x s act other is))
      ]

  -- nothing of the setup was sent yet: its first command is next, in attempt 1
  abbrev NoneOfSetupSent : Progress → Type 0
  NoneOfSetupSent p = (p.attempt ≡ 1) × (p.prepared ≡ 0)

  -- if nothing of the setup was sent at the progress p, nothing of it was at q, where from p to q `Resets` holds
  none_of_setup_kept : (p q : Progress) → Resets p q → NoneOfSetupSent p → NoneOfSetupSent q
  none_of_setup_kept p q (inl same) is = (same.0 ∙ is.0, same.1 ∙ is.1)
  none_of_setup_kept p q (inr anew) is = (anew.0 ∙ ap (λ (n : ℕ). if nat_eq n 0 then p.attempt else later p.attempt 1) is.1 ∙ is.0, anew.1)

  -- the commands of the setup that these acts send are in order, if none was sent before
  in_order_from : (s : Model) (acts : List Act) → NoneOfSetupSent s.progress → AreInOrder (setup_sent_by plan commands s acts)
  in_order_from s [] is = tt
  in_order_from s (act ∷ acts) is =
      let u = after plan commands s act in
      let rest = setup_sent_by plan commands u acts in
      let t = moved plan commands (action_at plan s) (with_progress turned s) act in
      elim (is_prepare_or_not (action_at plan s)) [
        | inl sends ↦ subst (λ xs. AreInOrder (xs ++ rest)) (sym (sends_next_dispatch s sends)) (is.0, is.1, go_on_from (next_dispatch s) u acts (next_sent s act sends))
        | inr other ↦
            subst (λ xs. AreInOrder (xs ++ rest)) (sym (others_send_none (action_at plan s) commands s other))
            (in_order_from u acts (subst (λ (q : Progress). NoneOfSetupSent q) (sym (with_losses_progress t))
            (none_of_setup_kept (turned s.progress) t.progress (resets plan commands (action_at plan s) (with_progress turned s) act other) is)))
      ]

-- the law: the commands of the setup that a run sends are in order (`AreInOrder`), if the list has at least `plan.setup` commands
pub set_ups_go_on : SetUpsGoOn
set_ups_go_on plan commands scope acts within = in_order_from plan commands within (opening plan scope) acts (refl, refl)
