-- No command of a cycle is sent before each command of the setup was answered well, in order, since the connection was made and
-- the station synchronized. No command of the setup is sent before each one before it was answered well, since then, too.
use Rattle.gc_station.proofs.Common.{◌≡◌, ◌⊎◌, inl, inr, ℕ, zero, suc, ◌+◌, ◌<◌, ◌≤◌, ◌&&◌, ◌||◌, Bool, true, false, not, nat_eq, nat_le, nat_lt, min, List, [], ◌∷◌, ◌++◌, length, drop, map, refl, sym, ap, ◌∙◌, subst, arith, append_assoc, append-nil, map-append, append_cancel_left, and_parts, both_ways, eq-eqb, ne_eqb, leb_tells, Task, Act, Told, Opened, Plan, Action, Progress, is_preparing, is_up, has_begun, last_well, commands_in, turned, is_over_in, loses_all, KeepsOpen, HoldsBefore, IsPreparedOrOverdue, Record, state_after, Scope, Model, opening, action_at, waiting_of, with_progress, Performs, moved, after, after_all, Runs, mark_setup, Dispatch, dispatch_row, dispatch_of_record, dispatch_of_mark, dispatches_of, setup_sent_at, StaysUp, ArePrepared, NoneBeforeTheSetUp, SetUpInOrder}
use Rattle.std.proofs.Common.{leb-true, eqb-true, lt-ltb}
use Rattle.gc_station.proofs.Always.{always, progress_after_act}
use Rattle.gc_station.proofs.ChainSteps.{stays_open}
use Rattle.gc_station.proofs.EachRun.{invariant_holds}
use Rattle.gc_station.proofs.Facts.{action_for}
use Rattle.gc_station.proofs.Going.{after_all-append}
use Rattle.gc_station.proofs.Records.{last-append}
use Rattle.gc_station.proofs.SentAt.{records_stay}
use Rattle.gc_station.proofs.Setups.{dispatch_row_losing, dispatch_row_prepared, dispatch_row_kept, dispatches_none, prepares, sends_next_dispatch}
use Rattle.gc_station.proofs.Turns.{no_act_once_over}
use Rattle.gc_station.proofs.Walk.{closed_along, moved_changed}
use Rattle.gc_station.proofs.Words.{begun_unless_renewed}
use Rattle.gc_station.proofs.Unbroken.{not_preparing_after_send}
use Rattle.gc_station.specs.declared.progress.Action.TheVariants as action

-- Records.

-- if the dispatches of some records end with x, the records end with one whose dispatch is x
split_last : (rs : List Record) (xs : List Dispatch) (x : Dispatch) → map dispatch_of_record rs ≡ xs ++ x ∷ [] → (mid : List Record) × (r : Record) × (rs ≡ mid ++ r ∷ []) × (dispatch_of_record r ≡ x)
split_last [] [] x e = cc
split_last [] (y ∷ xs) x e = cc
split_last (r ∷ []) [] x e = let same : dispatch_of_record r ≡ x = cc in ([], r, refl, same)
split_last (r ∷ q ∷ rs) [] x e = cc
split_last (r ∷ rs) (y ∷ xs) x e =
    let tail : map dispatch_of_record rs ≡ xs ++ x ∷ [] = ap (drop 1) e in
    let it = split_last rs xs x tail in
    (r ∷ it.0, it.1, ap (λ ys. r ∷ ys) it.2, it.3)

-- Tests.

-- if "not all three" is false, all three tests are true
all_three : (a b c : Bool) → (true && not (a && b && c)) ≡ false → (a ≡ true) × (b ≡ true) × (c ≡ true)
all_three true true true e = (refl, refl, refl)
all_three false b c e = cc
all_three true false c e = cc
all_three true true false e = cc

module _ (plan : Plan) (commands : List Task) (scope : Scope) where
  -- the model after these acts
  abbrev state : List Act → Model
  state acts = state_after plan commands scope acts

  -- the station is synchronized after these acts
  abbrev IsBegun : List Act → Type 0
  IsBegun acts = has_begun (state acts).progress ≡ true

  -- after these acts, the first j commands of the setup were answered well, and the one at place j was sent (by `request`).
  -- Since then no connection was closed, the station stayed synchronized, and the records before it are still the first ones.
  -- In the row (`dispatch_row`) come those records, then `xs`, and then this command, which is the last
  record SentAfterPrepared (j : ℕ) (acts : List Act) : Type 0 where
    done : ArePrepared plan commands scope acts j
    before : List Act
    request : Act
    behind : List Act
    order : acts ≡ before ++ request ∷ behind
    sends : action_at plan (state before) ≡ action.Prepare
    its_place : (state before).progress.prepared ≡ j
    stays : StaysUp plan commands (state before) (request ∷ behind)
    more : List Record
    written : (state acts).records ≡ (state before).records ++ more
    xs : List Dispatch
    row : dispatch_row (state acts) ≡ map dispatch_of_record (state before).records ++ (xs ++ dispatch_of_mark (mark_setup commands (state before).progress) ∷ [])

  -- where `SentAfterPrepared` holds of j, all commands are settled, and the last record is of one that was answered well, the
  -- first j + 1 commands of the setup were answered well
  one_more_prepared : (j : ℕ) (acts : List Act) → commands_in (state acts).marks ≡ 0 → last_well false (state acts).records ≡ true → SentAfterPrepared j acts
      → ArePrepared plan commands scope acts (suc j)
  one_more_prepared j acts none good p place below =
      let s = state acts in
      let old = (state p.before).records in
      let x = dispatch_of_mark (mark_setup commands (state p.before).progress) in
      let all : dispatch_row s ≡ map dispatch_of_record old ++ map dispatch_of_record p.more =
      ap (λ ys. map dispatch_of_record s.records ++ ys) (dispatches_none s.marks none) ∙ append-nil (map dispatch_of_record s.records) ∙ ap
      (map dispatch_of_record) p.written ∙ map-append dispatch_of_record old p.more in
      let it = split_last p.more p.xs x (append_cancel_left (map dispatch_of_record old) (map dispatch_of_record p.more) (p.xs ++ x ∷ []) (sym all ∙ p.row)) in
      let r : Record = it.1 in
      let written : s.records ≡ old ++ (it.0 ++ r ∷ []) = p.written ∙ ap (λ ys. old ++ ys) it.2 in
      let flat : s.records ≡ (old ++ it.0) ++ r ∷ [] = written ∙ sym (append_assoc old it.0 (r ∷ [])) in
      elim (leb_tells j place) [
        | inl least ↦ record {
          before = p.before;
          request = p.request;
          behind = p.behind;
          order = p.order;
          sends = p.sends;
          its_place = p.its_place ∙ omega (arith, least.1, below);
          stays = p.stays;
          earlier = it.0;
          answer = r;
          later = [];
          written = written;
          own = it.3;
          well = sym (last-append false (old ++ it.0) (r ∷ [])) ∙ ap (last_well false) (sym flat) ∙ good;
        }
        | inr less ↦ p.done place less.1
      ]

  -- `StaysUp` holds after one more act that closes no connection, if the station has synchronized after it
  stays_up_more : (s : Model) (xs : List Act) (act : Act) → StaysUp plan commands s xs → KeepsOpen act → has_begun (after_all plan commands s (xs ++ act ∷ [])).progress ≡ true
      → StaysUp plan commands s (xs ++ act ∷ [])
  stays_up_more s [] act h keeps begun = (keeps, begun, tt)
  stays_up_more s (x ∷ xs) act h keeps begun = (h.0, h.1, stays_up_more (after plan commands s x) xs act h.2 keeps begun)

  -- `StaysUp` holds of the acts after `before` with one more, if that closes no connection and the station is synchronized after
  -- it
  since_more : (acts before since : List Act) (act : Act) → acts ≡ before ++ since → StaysUp plan commands (state before) since → KeepsOpen act
      → IsBegun (acts ++ act ∷ []) → (acts ++ act ∷ [] ≡ before ++ (since ++ act ∷ [])) × StaysUp plan commands (state before) (since ++ act ∷ [])
  since_more acts before since act order stays keeps begun =
      let longer : acts ++ act ∷ [] ≡ before ++ (since ++ act ∷ []) = ap (λ xs. xs ++ act ∷ []) order ∙ append_assoc before since (act ∷ []) in
      let there = ap (λ (x : Model). has_begun x.progress)
      (sym (ap (state_after plan commands scope) longer ∙ after_all-append plan commands (opening plan scope) before (since ++ act ∷ []))) ∙ begun in
      (longer, stays_up_more (state before) since act stays keeps there)

  -- an act that closes no connection, after which the station is synchronized, preserves `ArePrepared`
  prepared_more : (n : ℕ) (acts : List Act) (act : Act) → KeepsOpen act → IsBegun (acts ++ act ∷ []) → ArePrepared plan commands scope acts n
      → ArePrepared plan commands scope (acts ++ act ∷ []) n
  prepared_more n acts act keeps begun h place below =
      let d = h place below in
      let its = since_more acts d.before (d.request ∷ d.behind) act d.order d.stays keeps begun in
      let grew = records_stay plan commands scope acts (act ∷ []) in
      let old = (state d.before).records in
      record {
        before = d.before;
        request = d.request;
        behind = d.behind ++ act ∷ [];
        order = its.0;
        sends = d.sends;
        its_place = d.its_place;
        stays = its.1;
        earlier = d.earlier;
        answer = d.answer;
        later = d.later ++ grew.0;
        written =
            grew.1 ∙ ap (λ ys. ys ++ grew.0) d.written ∙ append_assoc old (d.earlier ++ d.answer ∷ d.later) grew.0
            ∙ ap (λ ys. old ++ ys) (append_assoc d.earlier (d.answer ∷ d.later) grew.0);
        own = d.own;
        well = d.well;
      }

  -- `SentAfterPrepared` is preserved by an act that closes no connection, leaves the row as it is, and after which the station is
  -- synchronized
  sent_kept : (j : ℕ) (acts : List Act) (act : Act) → KeepsOpen act → IsBegun (acts ++ act ∷ [])
      → dispatch_row (state (acts ++ act ∷ [])) ≡ dispatch_row (state acts) → SentAfterPrepared j acts → SentAfterPrepared j (acts ++ act ∷ [])
  sent_kept j acts act keeps begun same d =
      let its = since_more acts d.before (d.request ∷ d.behind) act d.order d.stays keeps begun in
      let grew = records_stay plan commands scope acts (act ∷ []) in
      record {
        done = prepared_more j acts act keeps begun d.done;
        before = d.before;
        request = d.request;
        behind = d.behind ++ act ∷ [];
        order = its.0;
        sends = d.sends;
        its_place = d.its_place;
        stays = its.1;
        more = d.more ++ grew.0;
        written = grew.1 ∙ ap (λ ys. ys ++ grew.0) d.written ∙ append_assoc (state d.before).records d.more grew.0;
        xs = d.xs;
        row = same ∙ d.row;
      }

  -- `SentAfterPrepared` holds once an act sends the command of the setup at place j, and adds it to the row, if that act closes
  -- no connection, the station is synchronized after it, and the first j commands of the setup were answered well
  sent_prepared : (j : ℕ) (acts : List Act) (act : Act) → (keeps : KeepsOpen act) → (begun : IsBegun (acts ++ act ∷ [])) → (sends : action_at plan (state acts) ≡ action.Prepare)
      → (place : (state acts).progress.prepared ≡ j)
      → (longer : dispatch_row (state (acts ++ act ∷ [])) ≡ dispatch_row (state acts) ++ dispatch_of_mark (mark_setup commands (state acts).progress) ∷ [])
      → ArePrepared plan commands scope acts j
      → SentAfterPrepared j (acts ++ act ∷ [])
  sent_prepared j acts act keeps begun sends place longer d =
      let s = state acts in
      let there = ap (λ (x : Model). has_begun x.progress) (sym (after_all-append plan commands (opening plan scope) acts (act ∷ []))) ∙ begun in
      let grew = records_stay plan commands scope acts (act ∷ []) in
      record {
        done = prepared_more j acts act keeps begun d;
        before = acts;
        request = act;
        behind = [];
        order = refl;
        sends = sends;
        its_place = place;
        stays = (keeps, there, tt);
        more = grew.0;
        written = grew.1;
        xs = dispatches_of s.marks;
        row = longer ∙ append_assoc (map dispatch_of_record s.records) (dispatches_of s.marks) (dispatch_of_mark (mark_setup commands s.progress) ∷ []);
      }

  -- what holds of the setup, by `preparing` (the setup isn't over) and `prepared` (how many of its commands were sent on this
  -- connection)
  abbrev SetupFits : Bool → ℕ → List Act → Type 0
  SetupFits false k acts = IsBegun acts × ArePrepared plan commands scope acts plan.setup
  SetupFits true zero acts = Unit {0}
  SetupFits true (suc j) acts = IsBegun acts × SentAfterPrepared j acts

  -- `SetupFits`, by the fields of the station after these acts
  abbrev SetupFitsAt : List Act → Type 0
  SetupFitsAt acts = SetupFits (state acts).progress.preparing (state acts).progress.prepared acts

  -- `SetupFitsAt` holds, or the run is over
  abbrev SetupFitsNow : List Act → Type 0
  SetupFitsNow acts = (is_over_in (state acts).progress.phase ≡ true) ⊎ SetupFitsAt acts

  -- where `SetupFits` holds, and the setup, which has at least one command, is done, the station has synchronized, and each
  -- command of the setup was answered well
  prepared_if_done : (some : 0 < plan.setup) (preparing : Bool) (k : ℕ) (acts : List Act) → SetupFits preparing k acts
      → (preparing && not (nat_le plan.setup k && nat_eq (commands_in (state acts).marks) 0 && last_well false (state acts).records)) ≡ false
      → IsBegun acts × ArePrepared plan commands scope acts plan.setup
  prepared_if_done some false k acts h e = h
  prepared_if_done some true zero acts h e =
      let it = all_three (nat_le plan.setup 0) (nat_eq (commands_in (state acts).marks) 0) (last_well false (state acts).records) e in
      let none = leb-true plan.setup 0 it.0 in absurd (omega (arith, none, some))
  prepared_if_done some true (suc j) acts h e =
      let it = all_three (nat_le plan.setup (suc j)) (nat_eq (commands_in (state acts).marks) 0) (last_well false (state acts).records) e in
      let all = one_more_prepared j acts (eqb-true (commands_in (state acts).marks) 0 it.1) it.2 h.1 in
      let enough = leb-true plan.setup (suc j) it.0 in
      (h.0, λ place below. all place (omega (arith, below, enough)))

  -- where `SetupFits` holds, and the setup isn't over: if no command of it was sent (k is 0), or all commands are settled and the
  -- one recorded last was answered well, the first k commands of the setup were answered well
  prepared_before_next : (preparing : Bool) (k : ℕ) (acts : List Act) → SetupFits preparing k acts → preparing ≡ true
      → (k ≡ 0) ⊎ ((commands_in (state acts).marks ≡ 0) × (last_well false (state acts).records ≡ true))
      → ArePrepared plan commands scope acts k
  prepared_before_next false k acts h e may place below = cc
  prepared_before_next true zero acts h e may place below = absurd (omega (arith, below))
  prepared_before_next true (suc j) acts h e (inl none) place below = absurd (omega (arith, none))
  prepared_before_next true (suc j) acts h e (inr it) place below = one_more_prepared j acts it.0 it.1 h.1 place below

  -- `SetupFits` is preserved by an act that closes no connection, changes neither field (`preparing` and `prepared`) nor the row,
  -- and after which a station is synchronized that was before
  fits_kept : (b c : Bool) (k n : ℕ) (acts : List Act) (act : Act) → (same_flag : c ≡ b) → (same_place : n ≡ k) → (keeps : KeepsOpen act)
      → (stays_begun : IsBegun acts → IsBegun (acts ++ act ∷ []))
      → (same_row : dispatch_row (state (acts ++ act ∷ [])) ≡ dispatch_row (state acts)) → SetupFits b k acts → SetupFits c n (acts ++ act ∷ [])
  fits_kept b c k n acts act e f keeps begins same h =
      subst (λ (x : Bool). SetupFits x n (acts ++ act ∷ [])) (sym e) (subst (λ (m : ℕ). SetupFits b m (acts ++ act ∷ [])) (sym f) (by_case b k h)) where
        -- the lemma above, by cases on both fields
        by_case : (b : Bool) (k : ℕ) → SetupFits b k acts → SetupFits b k (acts ++ act ∷ [])
        by_case false k h = let on = begins h.0 in (on, prepared_more plan.setup acts act keeps on h.1)
        by_case true zero h = tt
        by_case true (suc j) h = let on = begins h.0 in (on, sent_kept j acts act keeps on same h.1)

  module _ (some : 0 < plan.setup) (within : plan.setup ≤ length commands) (acts : List Act) (act : Act) where
    -- the model before the act
    abbrev s : Model
    s = state acts

    -- the model after an act of this action, before what is outstanding is lost
    abbrev t : Action → Model
    t o = moved plan commands o (with_progress turned s) act

    -- the progress after the act is that of `t`
    progress_after : (o : Action) → action_at plan s ≡ o → (state (acts ++ act ∷ [])).progress ≡ (t o).progress
    progress_after o is = progress_after_act plan commands scope acts act ∙ ap (λ (x : Action). (t x).progress) is

    -- the row after the act is that of `t`
    row_after : (o : Action) → action_at plan s ≡ o → dispatch_row (state (acts ++ act ∷ [])) ≡ dispatch_row (t o)
    row_after o is =
        ap dispatch_row (after_all-append plan commands (opening plan scope) acts (act ∷ [])) ∙ dispatch_row_losing (loses_all (t (action_at plan s)).progress) (t (action_at plan s)) ∙ ap
        (λ (x : Action). dispatch_row (t x)) is

    -- a synchronized station stays so, if the act doesn't resynchronize
    begins : (o : Action) → action_at plan s ≡ o → Performs commands s o act → (o ≡ action.Renew → ⊥) → has_begun s.progress ≡ true → IsBegun (acts ++ act ∷ [])
    begins o is obeys other begun = ap has_begun (progress_after o is) ∙ begun_unless_renewed plan commands s o act obeys other begun

    -- after an act that closes no connection, changes neither field nor the row, and after which a station is synchronized that
    -- was before, `SetupFitsNow` holds if `SetupFitsAt` held before the act
    fits_unchanged : (o : Action) → (is_next : action_at plan s ≡ o) → (stays_begun : has_begun s.progress ≡ true → IsBegun (acts ++ act ∷ [])) → (keeps : KeepsOpen act)
        → (same_flag : (t o).progress.preparing ≡ s.progress.preparing) → (same_place : (t o).progress.prepared ≡ s.progress.prepared) → (same_row : dispatch_row (t o) ≡ dispatch_row s)
        → SetupFitsAt acts → SetupFitsNow (acts ++ act ∷ [])
    fits_unchanged o is begin keeps b k same h =
        inr (fits_kept s.progress.preparing (state (acts ++ act ∷ [])).progress.preparing s.progress.prepared (state (acts ++ act ∷ [])).progress.prepared acts act
        (ap (λ (p : Progress). p.preparing) (progress_after o is) ∙ b) (ap (λ (p : Progress). p.prepared) (progress_after o is) ∙ k) keeps begin (row_after o is ∙ same) h)

    -- after an act that makes the setup start again from its first command, `SetupFitsNow` holds
    fits_restarted : (o : Action) → action_at plan s ≡ o → (t o).progress.preparing ≡ nat_lt 0 plan.setup → (t o).progress.prepared ≡ 0 → SetupFitsNow (acts ++ act ∷ [])
    fits_restarted o is b k =
        inr (subst (λ (n : ℕ). SetupFits (state (acts ++ act ∷ [])).progress.preparing n (acts ++ act ∷ [])) (sym (ap (λ (p : Progress). p.prepared) (progress_after o is) ∙ k))
        (subst (λ (c : Bool). SetupFits c 0 (acts ++ act ∷ [])) (sym (ap (λ (p : Progress). p.preparing) (progress_after o is) ∙ b ∙ lt-ltb 0 plan.setup some)) tt))

    -- after an act that gives a command of a cycle its turn, which only happens once the setup is done, `SetupFitsNow` holds, if
    -- `SetupFitsAt` held before it
    fits_once_done : (o : Action) → (is_next : action_at plan s ≡ o) → (performs : Performs commands s o act) → (other : o ≡ action.Renew → ⊥) → (keeps : KeepsOpen act)
        → (over : (t o).progress.preparing ≡ false)
        → (done : is_preparing plan s.progress (waiting_of s) ≡ false) → SetupFitsAt acts → SetupFitsNow (acts ++ act ∷ [])
    fits_once_done o is obeys other keeps b done h =
        let it = prepared_if_done some s.progress.preparing s.progress.prepared acts h done in
        let on = begins o is obeys other it.0 in
        inr (subst (λ (c : Bool). SetupFits c (state (acts ++ act ∷ [])).progress.prepared (acts ++ act ∷ []))
        (sym (ap (λ (p : Progress). p.preparing) (progress_after o is) ∙ b)) (on, prepared_more plan.setup acts act keeps on it.1))

    -- after an act that begins a cycle, or tells of commands that aren't sent, `SetupFitsNow` holds, if `SetupFitsAt` held before it:
    -- the setup is done, or nothing of it was sent
    fits_told : (o : Action) → (is_next : action_at plan s ≡ o) → (performs : Performs commands s o act) → (other : o ≡ action.Renew → ⊥) → (keeps : KeepsOpen act)
        → (flag : (t o).progress.preparing ≡ (s.progress.preparing && nat_eq s.progress.prepared 0)) → (same_place : (t o).progress.prepared ≡ s.progress.prepared)
        → IsPreparedOrOverdue plan s.progress (waiting_of s) → SetupFitsAt acts → SetupFitsNow (acts ++ act ∷ [])
    fits_told o is obeys other keeps flag same why h = by_flag s.progress.preparing refl why where
      -- if the setup is done, it is over
      over_if_done : (b : Bool) → s.progress.preparing ≡ b → is_preparing plan s.progress (waiting_of s) ≡ false → (t o).progress.preparing ≡ false
      over_if_done false e done = flag ∙ ap (λ (b : Bool). b && nat_eq s.progress.prepared 0) e
      over_if_done true e done =
          let it = all_three (nat_le plan.setup s.progress.prepared) (nat_eq (commands_in s.marks) 0) (last_well false s.records)
          (sym (ap (λ (b : Bool). b && not (nat_le plan.setup s.progress.prepared && nat_eq (commands_in s.marks) 0 && last_well false s.records)) e) ∙ done) in
          let enough = leb-true plan.setup s.progress.prepared it.0 in
          flag ∙ ap (λ (b : Bool). b && nat_eq s.progress.prepared 0) e ∙ ne_eqb s.progress.prepared 0 (λ none. omega (arith, none, enough, some))

      -- the lemma above, by `preparing`
      by_flag : (b : Bool) → s.progress.preparing ≡ b → IsPreparedOrOverdue plan s.progress (waiting_of s) → SetupFitsNow (acts ++ act ∷ [])
      by_flag b e (inl done) = fits_once_done o is obeys other keeps (over_if_done b e done) done h
      by_flag false e (inr none) =
          let done : is_preparing plan s.progress (waiting_of s) ≡ false = ap (λ (b : Bool). b && not (nat_le plan.setup s.progress.prepared && nat_eq (commands_in s.marks) 0 && last_well false s.records)) e in
          fits_once_done o is obeys other keeps (over_if_done false e done) done h
      by_flag true e (inr none) =
          fits_restarted o is (flag ∙ ap (λ (b : Bool). b && nat_eq s.progress.prepared 0) e ∙ eq-eqb s.progress.prepared 0 none.0 ∙ sym (lt-ltb 0 plan.setup some)) (same ∙ none.0)

    -- after an act that sends a command of the setup, `SetupFitsNow` holds, if `SetupFitsAt` held before it
    fits_sent : action_at plan s ≡ action.Prepare → Performs commands s action.Prepare act → HoldsBefore plan s.progress (waiting_of s) action.Prepare
        → SetupFitsAt acts → SetupFitsNow (acts ++ act ∷ [])
    fits_sent is obeys needs h =
        let k = s.progress.prepared in
        let may = needs.2 in
        let preparing : s.progress.preparing ≡ true = (and_parts s.progress.preparing (not (nat_le plan.setup k && nat_eq (commands_in s.marks) 0 && last_well false s.records)) may.0).0 in
        let on = begins action.Prepare is obeys (λ e. cc) needs.1 in
        let keeps = stays_open plan commands action.Prepare s act obeys (λ why e. cc) in
        let one = sends_next_dispatch plan commands within s is in
        let longer = row_after action.Prepare is ∙ dispatch_row_prepared plan commands (with_progress turned s) act
        ∙ ap (λ xs. dispatch_row s ++ xs) (ap (λ (o : Action). setup_sent_at o commands s) (sym is) ∙ one) in
        let part = sent_prepared k acts act keeps on is refl longer (prepared_before_next s.progress.preparing k acts h preparing may.2) in
        let q = prepares plan commands (with_progress turned s) act in
        let prepared : (t action.Prepare).progress.prepared ≡ min (k + 1) plan.setup = q.1 in
        let below : k < plan.setup = may.1 in
        let next : (state (acts ++ act ∷ [])).progress.prepared ≡ suc k = ap (λ (p : Progress). p.prepared) (progress_after action.Prepare is) ∙ omega (arith, prepared, below) in
        let same : (state (acts ++ act ∷ [])).progress.preparing ≡ true =
        ap (λ (p : Progress). p.preparing) (progress_after action.Prepare is) ∙ ap (λ (x : Model). x.progress.preparing)
        (moved_changed plan commands action.Prepare (with_progress turned s) act) ∙ preparing in
        inr (subst (λ (n : ℕ). SetupFits (state (acts ++ act ∷ [])).progress.preparing n (acts ++ act ∷ [])) (sym next)
        (subst (λ (c : Bool). SetupFits c (suc k) (acts ++ act ∷ [])) (sym same) (on, part)))

  module _ (some : 0 < plan.setup) (within : plan.setup ≤ length commands) (acts : List Act) where
    -- after an act of any action, `SetupFitsNow` holds if `SetupFitsAt` held before it
    fits_after : (o : Action) (act : Act) → action_at plan (state acts) ≡ o → Performs commands (state acts) o act → HoldsBefore plan (state acts).progress (waiting_of (state acts)) o
        → SetupFitsAt acts → SetupFitsNow (acts ++ act ∷ [])
    fits_after action.Prepare act is obeys needs h = fits_sent some within acts act is obeys needs h
    fits_after action.Send act is obeys needs h =
        fits_once_done some within acts act action.Send is obeys (λ e. cc) (stays_open plan commands action.Send (state acts) act obeys (λ why e. cc))
        (not_preparing_after_send plan commands (with_progress turned (state acts)) act) needs.8 h
    fits_after action.Begin (Told m) is obeys needs h = fits_told some within acts (Told m) action.Begin is obeys (λ e. cc) tt refl refl needs.6 h
    fits_after action.Skip (Told m) is obeys needs h = fits_told some within acts (Told m) action.Skip is obeys (λ e. cc) tt refl refl needs.5 h
    fits_after action.Pass (Told m) is obeys needs h = fits_told some within acts (Told m) action.Pass is obeys (λ e. cc) tt refl refl needs.6 h
    fits_after action.Renew (Told m) is obeys needs h = fits_restarted some within acts (Told m) action.Renew is refl refl
    fits_after action.Open Opened is obeys needs h = fits_unchanged some within acts Opened action.Open is (begins some within acts Opened action.Open is obeys (λ e. cc)) tt refl refl refl h
    fits_after action.Open act is obeys needs h = fits_restarted some within acts act action.Open is refl refl
    fits_after (action.Close why) act is obeys needs h =
        elim (closed_along (λ (q : Progress). (is_over_in q.phase ≡ true) ⊎ ((q.preparing ≡ nat_lt 0 plan.setup) × (q.prepared ≡ 0))) plan
        (waiting_of (with_progress turned (state acts))) why (turned (state acts).progress) (inl refl) (inr (refl, refl))) [
          | inl over ↦ inl (ap (λ (p : Progress). is_over_in p.phase) (progress_after some within acts act (action.Close why) is) ∙ over)
          | inr anew ↦ fits_restarted some within acts act (action.Close why) is anew.0 anew.1
        ]
    fits_after (action.Stop why) act is obeys needs h = absurd obeys
    fits_after action.Begin act is obeys needs h =
        fits_unchanged some within acts act action.Begin is (begins some within acts act action.Begin is obeys (λ e. cc))
        (stays_open plan commands action.Begin (state acts) act obeys (λ why e. cc)) refl refl refl h
    fits_after action.Pass act is obeys needs h =
        fits_unchanged some within acts act action.Pass is (begins some within acts act action.Pass is obeys (λ e. cc))
        (stays_open plan commands action.Pass (state acts) act obeys (λ why e. cc)) refl refl refl h
    fits_after action.Skip act is obeys needs h =
        fits_unchanged some within acts act action.Skip is (begins some within acts act action.Skip is obeys (λ e. cc))
        (stays_open plan commands action.Skip (state acts) act obeys (λ why e. cc)) refl refl
        (ap (λ rs. map dispatch_of_record rs ++ dispatches_of (state acts).marks) (append-nil (state acts).records)) h
    fits_after action.Renew act is obeys needs h =
        fits_unchanged some within acts act action.Renew is (λ begun. ap has_begun (progress_after some within acts act action.Renew is) ∙ begun)
        (stays_open plan commands action.Renew (state acts) act obeys (λ why e. cc)) refl refl refl h
    fits_after o act is obeys needs h =
        let u = with_progress turned (state acts) in
        let same = moved_changed plan commands o u act in
        fits_unchanged some within acts act o is (begins some within acts act o is obeys (λ e. cc)) (stays_open plan commands o (state acts) act obeys (λ why e. cc))
        (ap (λ (x : Model). x.progress.preparing) same) (ap (λ (x : Model). x.progress.prepared) same) (dispatch_row_kept plan commands o u act tt) h

  -- `SetupFitsNow` holds after every run, if there is a setup, and the list has at least as many commands
  setup_fits : (some : 0 < plan.setup) (within : plan.setup ≤ length commands) (acts : List Act) → Runs plan commands (opening plan scope) acts → SetupFitsNow acts
  setup_fits some within acts runs = always plan commands (opening plan scope) (λ (xs : List Act) (u : Model). SetupFitsNow xs) step start acts runs where
    -- at the start the setup is sent from its first command on
    start : SetupFitsNow []
    start = inr (subst (λ (c : Bool). SetupFits c 0 []) (sym (lt-ltb 0 plan.setup some)) tt)

    -- one more act preserves `SetupFitsNow`; if the run is over, no act follows
    step : (done : List Act) (act : Act) → Runs plan commands (opening plan scope) done → Performs commands (state done) (action_at plan (state done)) act → SetupFitsNow done
        → SetupFitsNow (done ++ act ∷ [])
    step done act before obeys (inl over) =
        let p = (state done).progress in absurd (no_act_once_over plan commands (state done) act (ap (λ b. b || (not (is_up p.phase) && nat_eq p.turns 0)) over) obeys)
    step done act before obeys (inr h) = fits_after some within done (action_at plan (state done)) act refl obeys (action_for plan (state done).progress (waiting_of (state done))) h

-- the law: a command of a cycle is sent only once each command of the setup was answered well, on its connection, and after its
-- synchronization
pub none_before_the_set_up : NoneBeforeTheSetUp
none_before_the_set_up plan commands scope acts runs is place below =
    let s = state_after plan commands scope acts in
    let needs = subst (λ (o : Action). HoldsBefore plan s.progress (waiting_of s) o) is (action_for plan s.progress (waiting_of s)) in
    let some : 0 < plan.setup = omega (arith, below) in
    let unsent : 0 < s.progress.unsent = needs.2 in
    let within : plan.setup ≤ length commands = let most = (invariant_holds plan commands scope acts).unsent in omega (arith, unsent, most) in
    elim (setup_fits plan commands scope some within acts runs) [
      | inl over ↦ absurd (both_ways (is_over_in s.progress.phase) (ap is_over_in needs.0) over)
      | inr h ↦ (prepared_if_done plan commands scope some s.progress.preparing s.progress.prepared acts h needs.8).1 place below
    ]

-- the law: a command of the setup is sent only once each one before it was answered well, on its connection, and after its
-- synchronization, if the list has at least `plan.setup` commands
pub set_up_in_order : SetUpInOrder
set_up_in_order plan commands scope acts runs within is place below =
    let s = state_after plan commands scope acts in
    let k = s.progress.prepared in
    let needs = subst (λ (o : Action). HoldsBefore plan s.progress (waiting_of s) o) is (action_for plan s.progress (waiting_of s)) in
    let some : 0 < plan.setup = omega (arith, needs.2.1) in
    let preparing : s.progress.preparing ≡ true = (and_parts s.progress.preparing (not (nat_le plan.setup k && nat_eq (commands_in s.marks) 0 && last_well false s.records)) needs.2.0).0 in
    elim (setup_fits plan commands scope some within acts runs) [
      | inl over ↦ absurd (both_ways (is_over_in s.progress.phase) (ap is_over_in needs.0) over)
      | inr h ↦ prepared_before_next plan commands scope s.progress.preparing k acts h preparing needs.2.2 place below
    ]
