-- How the premises of the bound are computed of acts, and that it doesn't hold after acts that recorded too few commands. An act is one
-- call on the link, with its result.
use Rattle.gc_station.proofs.Common.{◌≡◌, ◌⊎◌, inl, inr, ℕ, zero, suc, ◌+◌, ◌<◌, ◌≤◌, Bool, true, false, List, [], ◌∷◌, ◌++◌, length, map, nat_le, Option, Some, None, refl, sym, ap, subst, arith, append_assoc, append-nil, leb-true, leb-false, length-map, All-cons, All-nil, All, Contains, IsEarliest, deadlines, Task, Act, Told, Gave, Silent, Interleave, RunRequest, all_cycles, commands_of_cycle, of_record, of_text, of_cycles, in_text, Model, opening, action_at, waiting_of, moved, with_progress, next_left_out, read_timeout, turned, MayTakeTime, IsAskedToWait, IsReadBy, AreQuick, CallsReturn, ReadingsReturn, AreRecorded, IsInTime, IsDueAt, Record, state_after, Scope, latest, Plan, Action}
use Rattle.std.proofs.Common.{length-append}
use Rattle.std.specs.Prelude.{if◌then◌else◌, not, nat_eq}
use Rattle.gc_station.proofs.Counts.{with_losses_passes}
use Rattle.gc_station.proofs.Going.{after_all-append}
use Rattle.gc_station.proofs.CallTimes.{latest_append, read_later}
use Rattle.gc_station.proofs.SentAt.{records_stay}
use Rattle.gc_station.proofs.Walk.{acts_along, moved_changed}
use Rattle.gc_station.specs.declared.progress.Action.TheVariants as actions

-- Splits of acts.

-- a fact P of each of these acts, with those before and after it; `earlier` come before all of them
abbrev pub OfEach : (P : (earlier : List Act) → Act → (later : List Act) → Type 0) → (earlier acts : List Act) → Type 0
OfEach P earlier [] = Unit {0}
OfEach P earlier (act ∷ acts) = P earlier act acts × OfEach P (earlier ++ act ∷ []) acts

-- where it holds of each, it holds of each of the last ones
of_behind : (P : (earlier : List Act) → Act → (later : List Act) → Type 0) (before xs ys : List Act) → OfEach P before (xs ++ ys) → OfEach P (before ++ xs) ys
of_behind P before [] ys each = subst (λ (zs : List Act). OfEach P zs ys) (sym (append-nil before)) each
of_behind P before (x ∷ xs) ys each = subst (λ (zs : List Act). OfEach P zs ys) (append_assoc before (x ∷ []) xs) (of_behind P (before ++ x ∷ []) xs ys each.1)

-- Waits.

-- what a list contains it contains with another in front
Contains-later : (d x : ℕ) (ds : List ℕ) → Contains ds x → Contains (d ∷ ds) x
Contains-later d x ds at = (suc at.0, omega (arith, at.1), at.2)

-- of some moments there is the earliest, or there is none
earliest_is : (ds : List ℕ) → (deadline : Option ℕ) × IsEarliest ds deadline
earliest_is [] = (None, refl)
earliest_is (d ∷ ds) = by_others (earliest_is ds) where
  -- the earliest of the first and the others
  by_others : (deadline : Option ℕ) × IsEarliest ds deadline → (deadline : Option ℕ) × IsEarliest (d ∷ ds) deadline
  by_others x = by_kind x.0 x.1 where
    -- the first is the earliest, if it is no later than the earliest of the others
    by_test : (e : ℕ) → IsEarliest ds (Some e) → (b : Bool) → nat_le d e ≡ b → (deadline : Option ℕ) × IsEarliest (d ∷ ds) deadline
    by_test e h true is =
        let le = leb-true d e is in
        (Some d, ((0, omega arith, refl), All-cons (λ (x : ℕ). d ≤ x) d ds (omega arith) (λ k x lt. let low = h.1 k x lt in omega (arith, low, le))))
    by_test e h false is = let lt = leb-false d e is in (Some e, (Contains-later d e ds h.0, All-cons (λ (x : ℕ). e ≤ x) d ds (omega (arith, lt)) h.1))

    -- the lemma above, whether there are others
    by_kind : (deadline : Option ℕ) → IsEarliest ds deadline → (deadline : Option ℕ) × IsEarliest (d ∷ ds) deadline
    by_kind None none = (Some d, ((0, omega arith, refl), All-cons (λ (x : ℕ). d ≤ x) d ds (omega arith) (subst (λ (xs : List ℕ). All (λ (x : ℕ). d ≤ x) xs) (sym none) (All-nil (λ (x : ℕ). d ≤ x)))))
    by_kind (Some e) h = by_test e h (nat_le d e) refl

-- of each call it is known how long it is asked to wait
some_wait : (plan : Plan) (s : Model) (o : Action) → (wait : ℕ) × IsAskedToWait plan s o wait
some_wait plan s (actions.Read until) = let e = earliest_is (deadlines s.client.waiting) in (read_timeout plan s.progress (waiting_of s).fresh until e.0, (e.0, e.1, refl))
some_wait plan s o = (0, refl)

-- an act that reads its moment by `n` leaves the moment read last at `n`, if it was that, or earlier
one_by : (n : ℕ) (act : Act) → IsReadBy n (act ∷ []) → latest n (act ∷ []) ≤ n
one_by n (Told m) by = by
one_by n (Gave bytes m) by = by
one_by n (Silent m) by = by
one_by n act by = omega arith

module _ (plan : Plan) (commands : List Task) (scope : Scope) where
  -- from this act on the first moment is read at most `call` after the one read last, if the act may take its time
  abbrev pub IsSoon : (call : ℕ) → (earlier : List Act) → Act → (later : List Act) → Type 0
  IsSoon call earlier act later = MayTakeTime (action_at plan (state_after plan commands scope earlier)) → IsReadBy (latest 0 earlier + call) (act ∷ later)

  -- this act may take its time, or reads no later moment than the one read last
  abbrev pub IsAtOnce : (earlier : List Act) → Act → (later : List Act) → Type 0
  IsAtOnce earlier act later = MayTakeTime (action_at plan (state_after plan commands scope earlier)) ⊎ IsReadBy (latest 0 earlier) (act ∷ [])

  -- calls that don't use their waits return
  pub calls_soon : (call : ℕ) (acts : List Act) → IsReadBy call acts → OfEach (IsSoon call) [] acts → CallsReturn plan commands scope call acts
  calls_soon call acts first each =
      record {
        first = first;
        each = λ earlier later act e slow.
            let s = state_after plan commands scope earlier in
            let here = of_behind (IsSoon call) [] earlier (act ∷ later) (subst (λ (xs : List Act). OfEach (IsSoon call) [] xs) e each) in
            let wait = some_wait plan s (action_at plan s) in
            (wait.0, wait.1, read_later (latest 0 earlier + call) (latest 0 earlier + wait.0 + call) (act ∷ later) (omega arith) (here.0 slow));
      }

  -- the call of this act returns, if it may take its time (`CallsReturn`)
  abbrev pub Returns : (call : ℕ) → (earlier : List Act) → Act → (later : List Act) → Type 0
  Returns call earlier act later =
      let s = state_after plan commands scope earlier in MayTakeTime (action_at plan s)
      → (wait : ℕ) × IsAskedToWait plan s (action_at plan s) wait × IsReadBy (latest 0 earlier + wait + call) (act ∷ later)

  -- calls return, if each does
  pub calls_each : (call : ℕ) (acts : List Act) → IsReadBy call acts → OfEach (Returns call) [] acts → CallsReturn plan commands scope call acts
  calls_each call acts first each =
      record { first = first; each = λ earlier later act e slow. let here = of_behind (Returns call) [] earlier (act ∷ later) (subst (λ (xs : List Act). OfEach (Returns call) [] xs) e each) in here.0 slow }

  -- quick acts that read no later moment leave the moment read last, or an earlier one
  still : (earlier quick later : List Act) → OfEach IsAtOnce earlier (quick ++ later) → AreQuick plan commands scope earlier quick → latest 0 (earlier ++ quick) ≤ latest 0 earlier
  still earlier [] later each are = subst (λ (xs : List Act). latest 0 xs ≤ latest 0 earlier) (sym (append-nil earlier)) (omega arith)
  still earlier (act ∷ quick) later each are = by_kind each.0 (still (earlier ++ act ∷ []) quick later each.1 are.1) where
    -- the lemma above, as the act is quick
    by_kind : IsAtOnce earlier act (quick ++ later) → latest 0 ((earlier ++ act ∷ []) ++ quick) ≤ latest 0 (earlier ++ act ∷ []) → latest 0 (earlier ++ act ∷ quick) ≤ latest 0 earlier
    by_kind (inl slow) on = absurd (are.0 slow)
    by_kind (inr by) on =
        let here = latest_append 0 earlier (act ∷ []) in
        let one = one_by (latest 0 earlier) act by in
        let there = subst (λ (xs : List Act). latest 0 xs ≤ latest 0 (earlier ++ act ∷ [])) (append_assoc earlier (act ∷ []) quick) on in
        omega (arith, here, one, there)

  -- readings that take no time return
  pub readings_at_once : (acts : List Act) → OfEach IsAtOnce [] acts → ReadingsReturn plan commands scope 0 acts
  readings_at_once acts each earlier quick later told e listens are =
      let behind = of_behind IsAtOnce [] earlier (told ∷ (quick ++ later)) (subst (λ (xs : List Act). OfEach IsAtOnce [] xs) e each) in
      let on = subst (λ (xs : List Act). latest 0 xs ≤ latest 0 (earlier ++ told ∷ [])) (append_assoc earlier (told ∷ []) quick) (still (earlier ++ told ∷ []) quick later behind.1 are) in
      omega (arith, on)

-- Too few records.

-- mixed lists have the elements of both
interleaved_length : {A : Type 0} (xs ys zs : List A) → Interleave xs ys zs → length zs ≡ length xs + length ys
interleaved_length {A = A} xs ys [] h = let a = ap (λ (l : List A). length l) h.0 in let b = ap (λ (l : List A). length l) h.1 in omega (arith, a, b)
interleaved_length {A = A} xs ys (z ∷ zs) (inl h) = let same = ap (λ (l : List A). length l) h.1 in let others = interleaved_length h.0 ys zs h.2 in omega (arith, same, others)
interleaved_length {A = A} xs ys (z ∷ zs) (inr h) = let same = ap (λ (l : List A). length l) h.1 in let others = interleaved_length xs h.0 zs h.2 in omega (arith, same, others)

-- no more requests are of cycles than there are
of_cycles_length : (xs : List RunRequest) → length (of_cycles xs) ≤ length xs
of_cycles_length [] = omega arith
of_cycles_length (x ∷ xs) = by_test (not (nat_eq x.cycle 0)) (of_cycles_length xs) where
  -- the lemma above, whether the first is of a cycle
  by_test : (b : Bool) → length (of_cycles xs) ≤ length xs → length (if b then x ∷ of_cycles xs else of_cycles xs) ≤ length (x ∷ xs)
  by_test true less = omega (arith, less)
  by_test false less = omega (arith, less)

-- commands that were left out stay so at an act
passes_moved : (plan : Plan) (commands : List Task) (o : Action) (s : Model) (act : Act) → length s.passes ≤ length (moved plan commands o s act).passes
passes_moved plan commands actions.Pass s (Told m) = let more = length-append s.passes (next_left_out plan commands s.progress) in omega (arith, more)
passes_moved plan commands actions.Pass s act = omega arith
passes_moved plan commands o s act = subst (λ (t : Model). length s.passes ≤ length t.passes) (sym (moved_changed plan commands o s act)) (omega arith)

module _ (plan : Plan) (commands : List Task) (scope : Scope) where
  -- commands that were left out stay so
  passes_stay : (before rest : List Act) → length (state_after plan commands scope before).passes ≤ length (state_after plan commands scope (before ++ rest)).passes
  passes_stay before rest =
      let s = state_after plan commands scope before in
      subst (λ (t : Model). length s.passes ≤ length t.passes) (sym (after_all-append plan commands (opening plan scope) before rest))
      (acts_along plan commands (λ (t : Model). length s.passes ≤ length t.passes)
      (λ t act le.
      let on = passes_moved plan commands (action_at plan t) (with_progress turned t) act in
      let lost = ap (λ (xs : List RunRequest). length xs) (with_losses_passes (moved plan commands (action_at plan t) (with_progress turned t) act)) in omega (arith, le, on, lost))
      s rest (omega arith))

  -- if fewer commands are recorded or left out than a cycle has, and the first cycle was due long enough ago, it isn't in time
  pub not_in_time : (wait due : ℕ) (acts : List Act) → 0 < plan.cycles → IsDueAt plan commands scope acts 0 due
      → ((n : ℕ) → length (state_after plan commands scope acts).records + length (state_after plan commands scope acts).passes < length (commands_of_cycle n plan.setup commands))
      → due + wait ≤ (state_after plan commands scope acts).progress.moment.elapsed → IsInTime plan commands scope wait acts → ⊥
  not_in_time wait due acts some is few long (inl (left, inl short)) = omega (arith, long, short)
  not_in_time wait due acts some is few long (inl (left, inr none)) = omega (arith, some, none)
  not_in_time wait due acts some is few long (inr d) = by_count d.count (d.each 0 due some is long) d.are where
    -- the lemma above, by how many cycles are said to be recorded
    by_count : (count : ℕ) → 0 < count → AreRecorded plan commands scope acts count → ⊥
    by_count zero more are = omega (arith, more)
    by_count (suc n) more are =
        let s = state_after plan commands scope are.before in
        let t = state_after plan commands scope acts in
        let all = interleaved_length (of_text commands (map of_record s.records)) s.passes (all_cycles plan.setup commands (suc n)) are.all in
        let texts : length (of_text commands (map of_record s.records)) ≡ length (of_cycles (map of_record s.records)) = length-map (of_cycles (map of_record s.records)) (in_text commands) in
        let cycles = of_cycles_length (map of_record s.records) in
        let records : length (map of_record s.records) ≡ length s.records = length-map s.records of_record in
        let cycle = length-append (all_cycles plan.setup commands n) (commands_of_cycle (suc n) plan.setup commands) in
        let grew = records_stay plan commands scope are.before are.behind in
        let more_records = ap (λ (rs : List Record). length rs) grew.1 in
        let longer = length-append s.records grew.0 in
        let passes = passes_stay are.before are.behind in
        let same_records : length (state_after plan commands scope (are.before ++ are.behind)).records ≡ length t.records = ap (λ (xs : List Act). length (state_after plan commands scope xs).records) (sym are.order) in
        let same_passes : length (state_after plan commands scope (are.before ++ are.behind)).passes ≡ length t.passes = ap (λ (xs : List Act). length (state_after plan commands scope xs).passes) (sym are.order) in
        let fewer = few (suc n) in
        omega (arith, all, texts, cycles, records, cycle, more_records, longer, passes, same_records, same_passes, fewer)
