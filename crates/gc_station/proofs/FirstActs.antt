-- What a station does doesn't depend on how many turns it is given, as long as turns are left. An act is one call on the link, with its
-- result.
use Rattle.gc_station.proofs.Common.{◌≡◌, ◌⊎◌, inl, inr, ℕ, ◌+◌, ◌-◌, ◌<◌, ◌≤◌, ◌&&◌, ◌||◌, Bool, true, false, not, nat_eq, List, [], ◌∷◌, ◌++◌, length, if◌then◌else◌, refl, sym, ap, ◌∙◌, subst, arith, ne_eqb, length-append, rest_behind, Task, Act, Told, Cut, Gave, Silent, Closed, Opened, Moment, action_in, action_overdue, has_begun, is_overdue, is_stale, is_stopping, action_of_phase, action_on, action_without_turns, is_quiet, is_up, Model, Performs, Runs, action_at, after, after_all, after_piece, asks_first, first_unsent_record, is_heard, line_came, lines_came, lines_completed, losing, mark_sent, moved, opening, piece_noted, waiting_of, with_losses, with_moment, with_progress, with_rest, commands_in, commands_before, commands_left, mark_next, upcoming_after, closed, failing, line_synchronizing, sent, drained, is_over_in, lines_synchronizing, loses_all, moment_noted, quieted, time_passed, turned, Grew, Record, state_after, Scope, Cause, Mark, Plan, Action, Phase, Progress, Waiting}
use Rattle.gc_station.specs.FirstActs.{EndsThere, FirstActsAreARun, with_turns}
use Rattle.gc_station.proofs.Closings.{none_or_last, runs_split}
use Rattle.gc_station.proofs.Counts.{with_losses_progress, turns_kept}
use Rattle.gc_station.proofs.Going.{after_all-append, runs-append, runs_front}
use Rattle.gc_station.proofs.Growing.{losing_records}
use Rattle.gc_station.proofs.Records.{grew_none}
use Rattle.gc_station.proofs.Turns.{closed_down}
use Rattle.gc_station.specs.declared.cause.Cause.TheVariants as cause
use Rattle.gc_station.specs.declared.progress.Action.TheVariants as actions
use Rattle.gc_station.specs.declared.progress.Phase.TheVariants as phase

-- the progress `p` with this many turns left
abbrev turns_of : ℕ → Progress → Progress
turns_of k p = record p { turns = k }

-- the model `s` with this many turns left
abbrev pub given : ℕ → Model → Model
given k s = record s { progress = turns_of k s.progress }

-- What doesn't look at the turns.

-- the action of a phase
phase_same : (plan : Plan) (at : Phase) (k : ℕ) (p : Progress) (w : Waiting) → action_of_phase plan at (turns_of k p) w ≡ action_of_phase plan at p w
phase_same plan phase.Down k p w = refl
phase_same plan phase.Pausing k p w = refl
phase_same plan phase.Clearing k p w = refl
phase_same plan phase.Draining k p w = refl
phase_same plan phase.Ready k p w = refl
phase_same plan (phase.Closing why) k p w = refl
phase_same plan (phase.Over why) k p w = refl

-- two choices by tests that both fail are their second values
both_fail : (a b : Bool) (x x' y : Action) → a ≡ false → b ≡ false → (if a then x else y) ≡ (if b then x' else y)
both_fail true b x x' y e f = cc
both_fail false true x x' y e f = cc
both_fail false false x x' y e f = refl

-- the next action where turns are left and the end isn't decided, if `x` is that of the phase
abbrev with_phase : Plan → Progress → Waiting → Action → Action
with_phase plan p w x =
    if is_stale plan p w then actions.Close cause.Stale
    else if is_stopping p w then actions.Close cause.Stopped
    else if p.clock_due then actions.ReadClock
    else if is_overdue plan p w then action_overdue p w
    else x

-- the next action, if turns are left in both
on_same : (plan : Plan) (k : ℕ) (p : Progress) (w : Waiting) → nat_eq k 0 ≡ false → nat_eq p.turns 0 ≡ false → action_on plan (turns_of k p) w ≡ action_on plan p w
on_same plan k p w some left =
    both_fail (nat_eq k 0) (nat_eq p.turns 0) (action_without_turns (is_up p.phase)) (action_without_turns (is_up p.phase)) (with_phase plan p w (action_of_phase plan p.phase (turns_of k p) w)) some left
    ∙ ap (λ (x : Action). if nat_eq p.turns 0 then action_without_turns (is_up p.phase) else with_phase plan p w x) (phase_same plan p.phase k p w)

-- the same in each phase
in_same : (plan : Plan) (at : Phase) (k : ℕ) (p : Progress) (w : Waiting) → nat_eq k 0 ≡ false → nat_eq p.turns 0 ≡ false → action_in at plan (turns_of k p) w ≡ action_in at plan p w
in_same plan (phase.Over why) k p w some left = refl
in_same plan (phase.Closing why) k p w some left = refl
in_same plan at k p w some left = on_same plan k p w some left

-- lines that are heard while the station synchronizes
synchronizing_same : (k : ℕ) (p : Progress) (lines : List (List ℕ)) → lines_synchronizing (turns_of k p) lines ≡ turns_of k (lines_synchronizing p lines)
synchronizing_same k p [] = refl
synchronizing_same k p (line ∷ others) = synchronizing_same k (line_synchronizing p line) others

-- lines that the client hears
came_same : (k : ℕ) (s : Model) (lines : List (List ℕ)) → lines_came (given k s) lines ≡ given k (lines_came s lines)
came_same k s [] = refl
came_same k s (line ∷ others) = came_same k (line_came s line) others

-- a piece
piece_same : (k : ℕ) (ready : Bool) (word piece : List ℕ) (s : Model) → after_piece ready word piece (given k s) ≡ given k (after_piece ready word piece s)
piece_same k true [] piece s = came_same k (with_rest (rest_behind s.rest piece) s) (lines_completed s.rest piece)
piece_same k true (asked ∷ others) piece s =
    ap (λ (p : Progress). record s { progress = p; rest = rest_behind s.rest piece }) (synchronizing_same k s.progress (lines_completed s.rest piece))
piece_same k false word piece s = refl

-- a read that gave nothing
quiet_same : (plan : Plan) (at : Phase) (k : ℕ) (p : Progress) → quieted plan at (turns_of k p) ≡ turns_of k (quieted plan at p)
quiet_same plan phase.Draining k p = by_test (is_quiet plan p) where
  -- whether the connection is quiet
  by_test : (b : Bool) → (if b then drained (turns_of k p) else turns_of k p) ≡ turns_of k (if b then drained p else p)
  by_test true = refl
  by_test false = refl
quiet_same plan at k p = refl

-- a close
closed_same : (plan : Plan) (w : Waiting) (why : Cause) (k : ℕ) (p : Progress) → closed plan w why (turns_of k p) ≡ turns_of k (closed plan w why p)
closed_same plan w cause.Done k p = refl
closed_same plan w cause.Clock k p = refl
closed_same plan w cause.Turns k p = refl
closed_same plan w cause.Stale k p = refl
closed_same plan w cause.Stopped k p = refl
closed_same plan w why k p = refl

-- the send of a command
first_same : (k : ℕ) (mark : Mark) (left : List Task) (s : Model) → asks_first mark left (given k s) ≡ given k (asks_first mark left s)
first_same k mark [] s = refl
first_same k mark (task ∷ others) s = refl

-- the record of a command that isn't sent
unsent_same : (k : ℕ) (p : Progress) (m : Moment) (mark : Mark) (left : List Task) → first_unsent_record (turns_of k p) m mark left ≡ first_unsent_record p m mark left
unsent_same k p m mark [] = refl
unsent_same k p m mark (task ∷ others) = refl

module _ (plan : Plan) (commands : List Task) where
  -- the model after an act of an action, apart from the turn that it takes
  moved_same : (o : Action) (k : ℕ) (s : Model) (act : Act) → moved plan commands o (given k s) act ≡ given k (moved plan commands o s act)
  moved_same actions.ReadClock k s (Told m) = refl
  moved_same actions.ReadClock k s act = refl
  moved_same actions.Renew k s (Told m) = refl
  moved_same actions.Renew k s act = refl
  moved_same actions.Begin k s (Told m) = refl
  moved_same actions.Begin k s act = refl
  moved_same actions.Open k s Opened = refl
  moved_same actions.Open k s act = refl
  moved_same actions.Clear k s (Cut bytes n) = refl
  moved_same actions.Clear k s act = refl
  moved_same actions.Ask k s (Cut bytes n) = refl
  moved_same actions.Ask k s act = refl
  moved_same actions.Prepare k s (Cut bytes n) = refl
  moved_same actions.Prepare k s act = refl
  moved_same actions.Send k s (Cut bytes n) =
      ap (λ (t : Model). with_progress (λ p. failing (cause.Write (commands_before plan commands s.progress) n) p)
      (with_progress (sent (upcoming_after plan 1 commands s.progress)) t))
      (first_same k (mark_sent plan commands s) (commands_left commands s.progress) s)
  moved_same actions.Send k s act =
      ap (λ (t : Model). with_progress (sent (upcoming_after plan 1 commands s.progress)) t)
      (first_same k (mark_sent plan commands s) (commands_left commands s.progress) s)
  moved_same actions.Skip k s (Told m) =
      ap (λ (rs : List Record). record (given k (moved plan commands actions.Skip s (Told m))) { records = s.records ++ rs })
      (unsent_same k s.progress m (mark_next plan commands s.progress) (commands_left commands s.progress))
  moved_same actions.Skip k s act = refl
  moved_same actions.Pass k s (Told m) = refl
  moved_same actions.Pass k s act = refl
  moved_same actions.Flush k s (Cut bytes n) = refl
  moved_same actions.Flush k s act = refl
  moved_same (actions.Read until) k s (Gave bytes m) =
      ap (piece_noted plan until (commands_in s.marks)) (piece_same k (is_heard s.progress.phase) s.progress.exchange.word bytes (with_moment m (with_progress (moment_noted m) s)))
  moved_same (actions.Read until) k s (Silent m) =
      ap (λ (p : Progress). with_moment m (record s { progress = p })) (quiet_same plan s.progress.phase k (time_passed until m s.progress))
  moved_same (actions.Read until) k s act = refl
  moved_same (actions.Close why) k s act = ap (λ (p : Progress). record s { progress = p; rest = [] }) (closed_same plan (waiting_of s) why k s.progress)
  moved_same (actions.Stop why) k s act = refl

  -- the loss of what is outstanding
  losing_same : (all : Bool) (k : ℕ) (s : Model) → losing all (given k s) ≡ given k (losing all s)
  losing_same true k s = refl
  losing_same false k s = refl

  -- whether it is lost, if turns are left in both
  loses_same : (k : ℕ) (p : Progress) → nat_eq k 0 ≡ false → nat_eq p.turns 0 ≡ false → loses_all (turns_of k p) ≡ loses_all p
  loses_same k p some left =
      ap (λ (b : Bool). not (has_begun p) || (is_over_in p.phase || (not (is_up p.phase) && b))) (some ∙ sym left)

  -- one act, if turns are left after it in both
  after_same : (k : ℕ) (s : Model) (act : Act) → 1 < k → 1 < s.progress.turns → after plan commands (given k s) act ≡ given (k - 1) (after plan commands s act)
  after_same k s act more left =
      let o = action_at plan s in
      let same : action_at plan (given k s) ≡ o =
      in_same plan s.progress.phase k s.progress (waiting_of s) (ne_eqb k 0 (λ e. omega (arith, e, more))) (ne_eqb s.progress.turns 0 (λ e. omega (arith, e, left))) in
      let m = moved plan commands o (with_progress turned s) act in
      let turns : m.progress.turns ≡ s.progress.turns - 1 = turns_kept plan commands o (with_progress turned s) act in
      ap (λ (x : Action). with_losses (moved plan commands x (with_progress turned (given k s)) act)) same
      ∙ ap with_losses (moved_same o (k - 1) (with_progress turned s) act)
      ∙ ap (λ (b : Bool). losing b (given (k - 1) m)) (loses_same (k - 1) m.progress (ne_eqb (k - 1) 0 (λ e. omega (arith, e, more))) (ne_eqb m.progress.turns 0 (λ e. omega (arith, e, turns, left))))
      ∙ losing_same (loses_all m.progress) (k - 1) m

  -- an act that performs the next action with some turns left does so with others
  performs_same : (k : ℕ) (s : Model) (act : Act) → 0 < k → 0 < s.progress.turns → Performs commands s (action_at plan s) act
      → Performs commands (given k s) (action_at plan (given k s)) act
  performs_same k s act more left obeys =
      let same : action_at plan (given k s) ≡ action_at plan s =
      in_same plan s.progress.phase k s.progress (waiting_of s) (ne_eqb k 0 (λ e. omega (arith, e, more))) (ne_eqb s.progress.turns 0 (λ e. omega (arith, e, left))) in
      subst (λ (o : Action). Performs commands (given k s) o act) (sym same) (by_action (action_at plan s) obeys) where
        -- the bytes that are to be written don't depend on the turns
        by_action : (o : Action) → Performs commands s o act → Performs commands (given k s) o act
        by_action actions.ReadClock o = o
        by_action actions.Renew o = o
        by_action actions.Begin o = o
        by_action actions.Open o = o
        by_action actions.Clear o = o
        by_action actions.Ask o = o
        by_action actions.Prepare o = o
        by_action actions.Send o = o
        by_action actions.Skip o = o
        by_action actions.Pass o = o
        by_action actions.Flush o = o
        by_action (actions.Read until) o = o
        by_action (actions.Close why) o = o
        by_action (actions.Stop why) o = o

  -- an act takes a turn
  turn_taken : (s : Model) (act : Act) → (after plan commands s act).progress.turns ≡ s.progress.turns - 1
  turn_taken s act =
      let m = moved plan commands (action_at plan s) (with_progress turned s) act in
      ap (λ (p : Progress). p.turns) (with_losses_progress m) ∙ turns_kept plan commands (action_at plan s) (with_progress turned s) act

  -- acts that perform what is next with some turns left, no fewer than they are, do so with others; and if turns are left after them in
  -- both, all else is the same
  pub acts_same : (acts : List Act) (k : ℕ) (s : Model) → length acts ≤ k → length acts ≤ s.progress.turns → Runs plan commands s acts
      → Runs plan commands (given k s) acts × (length acts < k → length acts < s.progress.turns → after_all plan commands (given k s) acts ≡ given (k - length acts) (after_all plan commands s acts))
  acts_same [] k s few left runs = (tt, λ more some. ap (λ (n : ℕ). given n s) (omega arith))
  acts_same (act ∷ []) k s few left runs = (
    (performs_same k s act (omega (arith, few)) (omega (arith, left)) runs.0, tt),
    λ more some. after_same k s act (omega (arith, more)) (omega (arith, some)),
  )
  acts_same (act ∷ next ∷ acts) k s few left runs =
      let one = after_same k s act (omega (arith, few)) (omega (arith, left)) in
      let turns = turn_taken s act in
      let rest = acts_same (next ∷ acts) (k - 1) (after plan commands s act) (omega (arith, few)) (omega (arith, left, turns)) runs.1 in (
        (
          performs_same k s act (omega (arith, few)) (omega (arith, left)) runs.0,
          subst (λ (t : Model). Runs plan commands t (next ∷ acts)) (sym one) rest.0,
        ),
        λ more some.
            ap (λ (t : Model). after_all plan commands t (next ∷ acts)) one ∙ rest.1 (omega (arith, more)) (omega (arith, some, turns))
            ∙ ap (λ (n : ℕ). given n (after_all plan commands s (act ∷ next ∷ acts))) (omega arith),
      )

  -- Where no turn is left.

  -- the next action of a station without a connection and a turn is to stop
  stops_down : (s : Model) → s.progress.turns ≡ 0 → is_up s.progress.phase ≡ false → (why : Cause) × (action_at plan s ≡ actions.Stop why)
  stops_down s none down = by_phase s.progress.phase refl down where
    -- without a turn, in a phase that hasn't decided the end
    on : action_on plan s.progress (waiting_of s) ≡ actions.Stop cause.Turns
    on = rw (ap (λ (n : ℕ). nat_eq n 0) none, down) refl

    -- by the phase
    by_phase : (at : Phase) → s.progress.phase ≡ at → is_up at ≡ false → (why : Cause) × (action_at plan s ≡ actions.Stop why)
    by_phase (phase.Over why) is e = (why, ap (λ (at : Phase). action_in at plan s.progress (waiting_of s)) is)
    by_phase (phase.Closing why) is e = cc
    by_phase phase.Clearing is e = cc
    by_phase phase.Draining is e = cc
    by_phase phase.Ready is e = cc
    by_phase phase.Down is e = (cause.Turns, ap (λ (at : Phase). action_in at plan s.progress (waiting_of s)) is ∙ on)
    by_phase phase.Pausing is e = (cause.Turns, ap (λ (at : Phase). action_in at plan s.progress (waiting_of s)) is ∙ on)

  -- the next action of a station with a connection and without a turn is to close it
  closes_up : (s : Model) → s.progress.turns ≡ 0 → is_up s.progress.phase ≡ true → (why : Cause) × (action_at plan s ≡ actions.Close why)
  closes_up s none up = by_phase s.progress.phase refl up where
    -- without a turn, in a phase that hasn't decided to close
    on : action_on plan s.progress (waiting_of s) ≡ actions.Close cause.Turns
    on = rw (ap (λ (n : ℕ). nat_eq n 0) none, up) refl

    -- by the phase
    by_phase : (at : Phase) → s.progress.phase ≡ at → is_up at ≡ true → (why : Cause) × (action_at plan s ≡ actions.Close why)
    by_phase (phase.Over why) is e = cc
    by_phase phase.Down is e = cc
    by_phase phase.Pausing is e = cc
    by_phase (phase.Closing why) is e = (why, ap (λ (at : Phase). action_in at plan s.progress (waiting_of s)) is)
    by_phase phase.Clearing is e = (cause.Turns, ap (λ (at : Phase). action_in at plan s.progress (waiting_of s)) is ∙ on)
    by_phase phase.Draining is e = (cause.Turns, ap (λ (at : Phase). action_in at plan s.progress (waiting_of s)) is ∙ on)
    by_phase phase.Ready is e = (cause.Turns, ap (λ (at : Phase). action_in at plan s.progress (waiting_of s)) is ∙ on)

  -- a close leaves no connection
  close_leaves_none : (s : Model) (why : Cause) → action_at plan s ≡ actions.Close why → is_up (after plan commands s Closed).progress.phase ≡ false
  close_leaves_none s why is =
      let m = moved plan commands (action_at plan s) (with_progress turned s) Closed in
      ap (λ (p : Progress). is_up p.phase) (with_losses_progress m)
      ∙ ap (λ (o : Action). is_up (moved plan commands o (with_progress turned s) Closed).progress.phase) is
      ∙ closed_down plan (waiting_of (with_progress turned s)) why (turned s.progress)

  -- what is left to be made by a station without turns: at most a close
  pub at_most_a_close : (s : Model) → s.progress.turns ≡ 0
      → (last : List Act) × ((last ≡ []) ⊎ (last ≡ Closed ∷ [])) × Runs plan commands s last × (why : Cause) × (action_at plan (after_all plan commands s last) ≡ actions.Stop why)
  at_most_a_close s none = by_connection (is_up s.progress.phase) refl where
    -- by whether there is a connection
    by_connection : (up : Bool) → is_up s.progress.phase ≡ up
        → (last : List Act) × ((last ≡ []) ⊎ (last ≡ Closed ∷ [])) × Runs plan commands s last × (why : Cause) × (action_at plan (after_all plan commands s last) ≡ actions.Stop why)
    by_connection false down = let stops = stops_down s none down in ([], inl refl, tt, stops.0, stops.1)
    by_connection true up =
        let closes = closes_up s none up in
        let turns : (after plan commands s Closed).progress.turns ≡ 0 = let taken = turn_taken s Closed in omega (arith, taken, none) in
        let stops = stops_down (after plan commands s Closed) turns (close_leaves_none s closes.0 closes.1) in
        (Closed ∷ [], inr refl, (subst (λ (o : Action). Performs commands s o Closed) (sym closes.1) refl, tt), stops.0, stops.1)

-- the records after a loss where it comes also without turns
grew_losing : (m : Model) (x y : Bool) → (x ≡ true → y ≡ true) → Grew (losing x m).records (losing y (given 0 m)).records
grew_losing m true true more = grew_none (losing true m).records
grew_losing m true false more = let never : false ≡ true = more refl in cc
grew_losing m false y more = losing_records y (given 0 m)

-- whatever is lost with turns is lost without
loses_more : (p : Progress) → loses_all p ≡ true → loses_all (turns_of 0 p) ≡ true
loses_more p e = by_parts (not (has_begun p)) (is_over_in p.phase) (not (is_up p.phase)) (nat_eq p.turns 0) e where
  -- by each of the tests
  by_parts : (a b c d : Bool) → (a || (b || (c && d))) ≡ true → (a || (b || (c && true))) ≡ true
  by_parts true b c d e = refl
  by_parts false true c d e = refl
  by_parts false false true d e = refl
  by_parts false false false d e = cc

module _ (plan : Plan) (commands : List Task) (scope : Scope) (acts : List Act) (runs : Runs plan commands (opening plan scope) acts) (few : length acts ≤ scope.turns) where
  -- as many turns as these acts are
  abbrev n : ℕ
  n = length acts

  -- the run that is given as many turns makes the acts
  same : Runs plan commands (given n (opening plan scope)) acts
  same = (acts_same plan commands acts n (opening plan scope) (omega arith) few runs).0

  -- after fewer acts the records are the same
  front_same : (front later : List Act) → acts ≡ front ++ later → 0 < length later
      → (state_after plan commands (with_turns n scope) front).records ≡ (state_after plan commands scope front).records
  front_same front later order some =
      let whole : length acts ≡ length front + length later = ap (λ (xs : List Act). length xs) order ∙ length-append front later in
      let first = runs_front plan commands (opening plan scope) front later (subst (λ (xs : List Act). Runs plan commands (opening plan scope) xs) order runs) in
      ap (λ (t : Model). t.records)
      ((acts_same plan commands front n (opening plan scope) (omega (arith, whole)) (omega (arith, whole, few)) first).1 (omega (arith, whole, some)) (omega (arith, whole, some, few)))

  -- after all acts no turn is left
  turns_after : (xs : List Act) (s : Model) → (after_all plan commands s xs).progress.turns ≡ s.progress.turns - length xs
  turns_after [] s = omega arith
  turns_after (x ∷ xs) s = let one = turn_taken plan commands s x in let rest = turns_after xs (after plan commands s x) in omega (arith, one, rest)

  -- after all acts the records are the same, but for what is lost besides
  all_grew : Grew (state_after plan commands scope acts).records (state_after plan commands (with_turns n scope) acts).records
  all_grew = by_last (none_or_last acts) where
    -- by whether there is a last act
    by_last : ((acts ≡ []) ⊎ ((earlier : List Act) × (last : Act) × (acts ≡ earlier ++ last ∷ [])))
        → Grew (state_after plan commands scope acts).records (state_after plan commands (with_turns n scope) acts).records
    by_last (inl none) =
        subst (λ (xs : List Act). Grew (state_after plan commands scope xs).records (state_after plan commands (with_turns n scope) xs).records) (sym none) (grew_none [])
    by_last (inr (earlier, last, order)) =
        let whole : length acts ≡ length earlier + 1 = ap (λ (xs : List Act). length xs) order ∙ length-append earlier (last ∷ []) in
        let split = runs_split plan commands (opening plan scope) earlier [] last (subst (λ (xs : List Act). Runs plan commands (opening plan scope) xs) order runs) in
        let t = state_after plan commands scope earlier in
        let turns : t.progress.turns ≡ scope.turns - length earlier = turns_after earlier (opening plan scope) in
        let there : after_all plan commands (given n (opening plan scope)) earlier ≡ given 1 t =
        (acts_same plan commands earlier n (opening plan scope) (omega (arith, whole)) (omega (arith, whole, few)) split.0).1 (omega (arith, whole)) (omega (arith, whole, few))
        ∙ ap (λ (k : ℕ). given k t) (omega (arith, whole)) in
        let o = action_at plan t in
        let next : action_at plan (given 1 t) ≡ o = in_same plan t.progress.phase 1 t.progress (waiting_of t) (ne_eqb 1 0 (λ e. omega (arith, e))) (ne_eqb t.progress.turns 0 (λ e. omega (arith, e, turns, whole, few))) in
        let m = moved plan commands o (with_progress turned t) last in
        let after_it : after plan commands (given 1 t) last ≡ losing (loses_all (turns_of 0 m.progress)) (given 0 m) =
        ap (λ (x : Action). with_losses (moved plan commands x (with_progress turned (given 1 t)) last)) next ∙ ap with_losses (moved_same plan commands o 0 (with_progress turned t) last) in
        let long : state_after plan commands scope acts ≡ losing (loses_all m.progress) m =
        ap (state_after plan commands scope) order ∙ after_all-append plan commands (opening plan scope) earlier (last ∷ []) in
        let short : state_after plan commands (with_turns n scope) acts ≡ losing (loses_all (turns_of 0 m.progress)) (given 0 m) =
        ap (state_after plan commands (with_turns n scope)) order ∙ after_all-append plan commands (given n (opening plan scope)) earlier (last ∷ [])
        ∙ ap (λ (x : Model). after plan commands x last) there ∙ after_it in
        subst (λ (x : Model). Grew (state_after plan commands scope acts).records x.records) (sym short)
        (subst (λ (x : Model). Grew x.records (losing (loses_all (turns_of 0 m.progress)) (given 0 m)).records) (sym long)
        (grew_losing m (loses_all m.progress) (loses_all (turns_of 0 m.progress)) (loses_more m.progress)))

  -- the run that is given as many turns ends after the acts, at most with a close
  ends_there : EndsThere plan commands (with_turns n scope) acts
  ends_there =
      let s = state_after plan commands (with_turns n scope) acts in
      let none : s.progress.turns ≡ 0 = let left = turns_after acts (given n (opening plan scope)) in omega (arith, left) in
      let end = at_most_a_close plan commands s none in
      record {
        last = end.0;
        at_most_a_close = end.1;
        runs = runs-append plan commands (given n (opening plan scope)) acts end.0 same end.2;
        why = end.3;
        stops = ap (action_at plan) (after_all-append plan commands (given n (opening plan scope)) acts end.0) ∙ end.4;
      }

-- the law: the first acts of each run, at most as many as it has turns, are a whole run
pub first_acts_are_a_run : FirstActsAreARun
first_acts_are_a_run plan commands scope acts later runs few =
    let first = runs_front plan commands (opening plan scope) acts later runs in
    record {
      runs = same plan commands scope acts first few;
      ends = ends_there plan commands scope acts first few;
      records = front_same plan commands scope acts first few;
      all = all_grew plan commands scope acts first few;
    }
