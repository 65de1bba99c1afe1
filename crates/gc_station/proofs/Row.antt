-- The row of a station: the requests of its records, and after them those of the outstanding commands. An act leaves it as it is,
-- or adds the request of the command that is sent, or recorded without being sent. If a chain is unbroken, the last request is of
-- a cycle, not of the setup.
use Rattle.gc_station.proofs.Common.{◌≡◌, ℕ, ◌-◌, ◌<◌, Bool, true, false, List, [], ◌∷◌, ◌++◌, length, drop, map, Some, None, refl, sym, ap, ◌∙◌, subst, arith, append_assoc, append-nil, not, if◌then◌else◌, length-drop, map-append, both_ways, Table, NullProc, WINDOW, heard, hears, lost, pending_of, of_pending, of_settled, heard_parts, lost_parts, call_at, Task, Moment, Act, Gave, Silent, Mark, Plan, Action, Progress, Until, later, RunRequest, of_record, of_cycles, of_text, in_text, of_waiting, commands_in, occasion_of, moment_noted, turned, loses_all, HoldsBefore, state_after, Scope, Model, opening, action_at, waiting_of, Performs, Runs, is_heard, asks_first, after_piece, line_came, losing, moved, piece_at, with_progress, with_moment, null_request, asks_for, mark_sent, cycles_begun, place_next, filter-append}
use Rattle.gc_station.proofs.Always.{always}
use Rattle.gc_station.proofs.Each.{row, row_moment, row_settles, more_waiting, marked_none, waiting_marked}
use Rattle.gc_station.proofs.EachRun.{invariant_holds}
use Rattle.gc_station.proofs.Facts.{action_for}
use Rattle.gc_station.proofs.InCycle.{within_window, not_zero}
use Rattle.gc_station.proofs.Invariant.{Paired, Invariant}
use Rattle.gc_station.proofs.Midway.{sent_with_room}
use Rattle.gc_station.proofs.Walk.{came_along, losing_along, closed_along, moved_changed, walk}
use Rattle.gc_station.specs.declared.progress.Action.TheVariants as action

-- the row of a model
abbrev pub row_of : Model → List RunRequest
row_of s = row s.marks s.client.waiting s.records

-- a line that is heard leaves the row as it is
row_line : (s : Model) (line : List ℕ) → row_of (line_came s line) ≡ row_of s
row_line s line =
    let x = hears s.client line (heard line) in
    row_settles s.reads s.progress.moment.utc s.marks s.client.waiting x.client.waiting x.settlements s.records (heard_parts s.client line (heard line))

-- a piece leaves the row as it is, heard or not
row_came : (heard : Bool) (word piece : List ℕ) (s : Model) → row_of (after_piece heard word piece s) ≡ row_of s
row_came h word piece s = came_along (λ (t : Model). row_of t ≡ row_of s) (λ t line e. row_line t line ∙ e) h word piece s refl refl refl

-- a piece that came by the moment m leaves the row as it is
pub row_gave : (plan : Plan) (until : Until) (s : Model) (bytes : List ℕ) (m : Moment) → row_of (piece_at plan until bytes m s) ≡ row_of s
row_gave plan until s bytes m =
    row_came (is_heard s.progress.phase) s.progress.exchange.word bytes (with_moment m (with_progress (moment_noted m) s)) ∙ row_moment s.marks s.client.waiting s.records m.elapsed

-- the loss of what is outstanding leaves the row as it is
pub row_losing : (all : Bool) (s : Model) → row_of (losing all s) ≡ row_of s
row_losing all s =
    losing_along (λ (t : Model). row_of t ≡ row_of s) all s
    (row_settles s.reads s.progress.moment.utc s.marks s.client.waiting [] (map lost s.client.waiting) s.records
    (append-nil (map of_settled (map lost s.client.waiting)) ∙ lost_parts s.client.waiting)) refl

-- an act that is a read which gave bytes leaves the row as it is
pub row_read : (plan : Plan) (commands : List Task) (o : Action) (s : Model) (act : Act) (bytes : List ℕ) (m : Moment) → Performs commands s o act → act ≡ Gave bytes m
    → row_of (moved plan commands o s act) ≡ row_of s
row_read plan commands o s act bytes m obeys is =
    subst (λ (a : Act). row_of (moved plan commands o s a) ≡ row_of s) (sym is) (by_action o (subst (λ (a : Act). Performs commands s o a) is obeys)) where
      -- the lemma above, by the action: only a read can give bytes
      by_action : (o : Action) → Performs commands s o (Gave bytes m) → row_of (moved plan commands o s (Gave bytes m)) ≡ row_of s
      by_action (action.Read until) obeys = row_gave plan until s bytes m
      by_action (action.Close why) obeys = cc
      by_action o obeys = absurd obeys

-- If a chain is unbroken, the last request of the row is of a cycle.

-- the cycle of the last of these requests; `n` if there is none
abbrev pub last_cycle : (n : ℕ) → List RunRequest → ℕ
last_cycle n [] = n
last_cycle n (x ∷ xs) = last_cycle x.cycle xs

-- where x comes after some requests, the cycle of the last request of all (`last_cycle`) is that of x
last_behind : (n : ℕ) (xs : List RunRequest) (x : RunRequest) → last_cycle n (xs ++ x ∷ []) ≡ x.cycle
last_behind n [] x = refl
last_behind n (y ∷ xs) x = last_behind y.cycle xs x

-- if a chain is unbroken, the last request of the row is of a cycle
abbrev LastIsOfCycle : Model → Type 0
LastIsOfCycle s = s.progress.chain_unbroken ≡ true → 0 < last_cycle 0 (row_of s)

-- what `LastIsOfCycle` says of the row `xs`, where b is whether the chain is unbroken, holds of the row `ys` that is equal to
-- `xs`
last_cycle_of_same_row : {xs ys : List RunRequest} {b : Bool} → ys ≡ xs → (b ≡ true → 0 < last_cycle 0 xs) → b ≡ true → 0 < last_cycle 0 ys
last_cycle_of_same_row same h e = subst (λ (zs : List RunRequest). 0 < last_cycle 0 zs) (sym same) (h e)

-- if each request that waits has a mark, there is room, and the first of these commands, of which there are some, is sent with a
-- mark of a cycle, the last request of the row is of a cycle
sent_last : (mark : Mark) (left : List Task) (s : Model) → Paired s → length s.client.waiting < WINDOW → 0 < length left → 0 < mark.cycle
    → 0 < last_cycle 0 (row (asks_first mark left s).marks (asks_first mark left s).client.waiting s.records)
sent_last mark [] s paired room some many = absurd (omega (arith, some))
sent_last mark (task ∷ others) s paired room some many =
    let d = later s.progress.moment.elapsed task.deadline in
    let p = pending_of task.command.target (call_at task (occasion_of mark)) d in
    let one = of_waiting mark p in
    let is : row (s.marks ++ Some mark ∷ []) (s.client.waiting ++ p ∷ []) s.records ≡ row_of s ++ one ∷ [] =
    ap (λ xs. map of_record s.records ++ xs) (more_waiting s.marks s.client.waiting (Some mark) p paired) ∙ sym (append_assoc (map of_record s.records) _ (one ∷ [])) in
    let last : 0 < last_cycle 0 (row_of s ++ one ∷ []) = subst (λ (n : ℕ). 0 < n) (sym (last_behind 0 (row_of s) one)) many in
    subst (λ (c : _). 0 < last_cycle 0 (row (s.marks ++ Some mark ∷ []) c.waiting s.records)) (sym (sent_with_room s.client task.command.target (call_at task (occasion_of mark)) d room))
    (subst (λ (xs : List RunRequest). 0 < last_cycle 0 xs) (sym is) last)

module _ (plan : Plan) (commands : List Task) where
  -- `LastIsOfCycle` is preserved by an act of each action, if `Invariant` holds before it, and `HoldsBefore` of the action
  last_moved : (o : Action) (s : Model) (act : Act) → Invariant plan commands s → HoldsBefore plan s.progress (waiting_of s) o → Performs commands s o act → LastIsOfCycle (with_progress turned s)
      → LastIsOfCycle (moved plan commands o (with_progress turned s) act)
  last_moved action.Send s act fine is o h =
      let t = with_progress turned s in
      let p = s.progress in
      let left = drop (place_next commands p) commands in
      let many : length left ≡ length commands - place_next commands p = length-drop (place_next commands p) commands in
      let some : 0 < length left = omega (arith, many, is.2, fine.unsent) in
      let below = fine.begun is.2 in
      let cycle : 0 < cycles_begun plan p = omega (arith, below) in
      let last = sent_last (mark_sent plan commands t) left t fine.paired (within_window _ _ is.3.1) some cycle in
      walk plan commands (λ a (u : Model). LastIsOfCycle u) action.Send t act o (λ m e. last, λ n e. last)
  last_moved action.Prepare s act fine is o h = walk plan commands (λ a (u : Model). LastIsOfCycle u) action.Prepare (with_progress turned s) act o (λ m e. cc, λ n e. cc)
  last_moved action.Skip s act fine is o h =
      walk plan commands (λ a (u : Model). LastIsOfCycle u) action.Skip (with_progress turned s) act o
      (λ m e. cc, λ n. last_cycle_of_same_row (ap (λ rs. row s.marks s.client.waiting rs) (append-nil s.records)) h)
  last_moved action.Pass s act fine is o h = walk plan commands (λ a (u : Model). LastIsOfCycle u) action.Pass (with_progress turned s) act o (λ m e. cc, λ n. h)
  last_moved action.Begin s act fine is o h = walk plan commands (λ a (u : Model). LastIsOfCycle u) action.Begin (with_progress turned s) act o (λ m e. cc, λ n. h)
  last_moved action.Renew s act fine is o h = walk plan commands (λ a (u : Model). LastIsOfCycle u) action.Renew (with_progress turned s) act o (λ m e. cc, λ n. h)
  last_moved action.ReadClock s act fine is o h =
      walk plan commands (λ a (u : Model). LastIsOfCycle u) action.ReadClock (with_progress turned s) act o
      (λ m. last_cycle_of_same_row (row_moment s.marks s.client.waiting s.records m.elapsed) h, λ n. h)
  last_moved action.Open s act fine is o h = walk plan commands (λ a (u : Model). LastIsOfCycle u) action.Open (with_progress turned s) act o (λ m. h, λ n e. cc)
  last_moved action.Clear s act fine is o h = walk plan commands (λ a (u : Model). LastIsOfCycle u) action.Clear (with_progress turned s) act o (λ m. h, λ n. h)
  last_moved action.Ask s act fine is o h = walk plan commands (λ a (u : Model). LastIsOfCycle u) action.Ask (with_progress turned s) act o (λ m. h, λ n. h)
  last_moved action.Flush s act fine is o h =
      let d = later s.progress.moment.elapsed plan.deadline in
      let p = pending_of 0 (Table NullProc) d in
      let same : row_of (asks_for (null_request plan) (with_progress turned s)) ≡ row_of s =
      ap (λ (c : _). row (s.marks ++ None ∷ []) c.waiting s.records) (sent_with_room s.client 0 (Table NullProc) d (within_window _ _ is.4.1))
      ∙ ap (λ xs. map of_record s.records ++ xs) (more_waiting s.marks s.client.waiting None p fine.paired ∙ append-nil _) in
      walk plan commands (λ a (u : Model). LastIsOfCycle u) action.Flush (with_progress turned s) act o (λ m. last_cycle_of_same_row same h, λ n. last_cycle_of_same_row same h)
  last_moved (action.Read until) s act fine is o h =
      let t = with_progress turned s in
      let back = λ (a : Act). ap (λ (x : Model). x.progress.chain_unbroken) (moved_changed plan commands (action.Read until) t a) in
      walk plan commands (λ a (u : Model). LastIsOfCycle u) (action.Read until) t act o (
        λ bytes m. last_cycle_of_same_row (row_gave plan until t bytes m) (λ e. h (sym (back (Gave bytes m)) ∙ e)),
        λ m. last_cycle_of_same_row (row_moment s.marks s.client.waiting s.records m.elapsed) (λ e. h (sym (back (Silent m)) ∙ e)),
        h,
        h,
        h,
      )
  last_moved (action.Close why) s act fine is o h =
      walk plan commands (λ a (u : Model). LastIsOfCycle u) (action.Close why) (with_progress turned s) act o
      (λ e. absurd (both_ways _ (closed_along (λ (q : Progress). q.chain_unbroken ≡ false) plan (waiting_of s) why (turned s.progress) refl refl) e))
  last_moved (action.Stop why) s act fine is o h = absurd o

  -- `LastIsOfCycle` holds after every run
  last_holds : (scope : Scope) (acts : List Act) → Runs plan commands (opening plan scope) acts → LastIsOfCycle (state_after plan commands scope acts)
  last_holds scope acts runs =
      always plan commands (opening plan scope) (λ (xs : List Act) (t : Model). LastIsOfCycle t)
      (λ done act before obeys h.
      let s = state_after plan commands scope done in
      let t = moved plan commands (action_at plan s) (with_progress turned s) act in
      let one = last_moved (action_at plan s) s act (invariant_holds plan commands scope done) (action_for plan s.progress (waiting_of s)) obeys h in
      last_cycle_of_same_row (row_losing (loses_all t.progress) t) (λ e. one (by_loss (loses_all t.progress) t e))) (λ e. cc) acts runs where
        -- the loss of what is outstanding mends no chain
        by_loss : (all : Bool) (t : Model) → (losing all t).progress.chain_unbroken ≡ true → t.progress.chain_unbroken ≡ true
        by_loss true t e = e
        by_loss false t e = e

module _ (plan : Plan) (commands : List Task) (scope : Scope) where
  -- the model after these acts
  abbrev state : List Act → Model
  state acts = state_after plan commands scope acts

  -- after a run, if no command is outstanding and the chain is unbroken, the last record is of a cycle
  pub last_of_cycle : (acts : List Act) → Runs plan commands (opening plan scope) acts
      → commands_in (state acts).marks ≡ 0 → (state acts).progress.chain_unbroken ≡ true → (xs : List RunRequest) (x : RunRequest)
      → map of_record (state acts).records ≡ xs ++ x ∷ [] → 0 < x.cycle
  last_of_cycle acts runs none whole xs x is =
      let s = state acts in
      let all : row_of s ≡ xs ++ x ∷ [] =
      ap (λ ys. map of_record s.records ++ ys) (waiting_marked s.marks s.client.waiting ∙ marked_none s.marks (map of_pending s.client.waiting) none) ∙ append-nil (map of_record s.records) ∙ is in
      subst (λ (n : ℕ). 0 < n) (ap (last_cycle 0) all ∙ last_behind 0 xs x) (last_holds plan commands scope acts runs whole)

-- if the last of some requests is of a cycle, it is also the last of those among them that are (`of_cycles`)
of_cycles_last : (xs : List RunRequest) (x : RunRequest) → 0 < x.cycle → of_cycles (xs ++ x ∷ []) ≡ of_cycles xs ++ x ∷ []
of_cycles_last xs x many = filter-append _ xs (x ∷ []) ∙ ap (λ b. of_cycles xs ++ (if not b then x ∷ [] else [])) (not_zero x.cycle many)

-- if the last of some requests is of a cycle, it is, as the text has it, also the last of those that `of_text` gives
pub of_text_last : (commands : List Task) (xs : List RunRequest) (x : RunRequest) → 0 < x.cycle → of_text commands (xs ++ x ∷ []) ≡ of_text commands xs ++ in_text commands x ∷ []
of_text_last commands xs x many = ap (map (in_text commands)) (of_cycles_last xs x many) ∙ map-append (in_text commands) (of_cycles xs) (x ∷ [])
