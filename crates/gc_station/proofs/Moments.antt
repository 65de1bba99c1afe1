-- Each record has the moment of the act by which its command ended; and the fault of an unreadable one is that of its line (`AsText`). The records
-- that one act adds are its `news`. An act is one call on the link, with its result.
use Rattle.gc_station.proofs.Common.{◌≡◌, ℕ, suc, Bool, true, false, List, [], ◌∷◌, ◌++◌, Option, Some, None, if◌then◌else◌, refl, sym, ap, ◌∙◌, subst, append_assoc, append-nil, append_cancel_left, AllByRecursion, slice_get, Asked, Settlement, hears, heard, restarts, Act, Told, Gave, Moment, End, Skipped, NoValue, Missed, line_of, Task, moment_in, AnswerIsJustified, IsAnsweredIn, IsWrittenAt, UnsentIsJustified, lacks_value, records_of, Model, Performs, Runs, action_at, after, after_piece, first_unsent_record, is_heard, line_came, lines_completed, losing, moved, opening, with_moment, with_progress, commands_left, mark_next, lines_synchronizing, loses_all, moment_noted, turned, Record, state_after, Reads, Scope, Mark, Plan, Action, Progress, form_at, AnswersHaveTheirMoments, CameAt, EachRecordHasItsMoment, HasItsMoment, IsAsRead, UnreadableAsTheyRead, utc_or, utc_read}
use Rattle.gc_station.proofs.Always.{always}
use Rattle.gc_station.proofs.AsText.{IsAsItsText, kept_all}
use Rattle.gc_station.proofs.Answers.{answers_true}
use Rattle.gc_station.proofs.Booking.{all_records}
use Rattle.gc_station.proofs.Closings.{runs_split}
use Rattle.gc_station.proofs.Going.{after_all-append, runs-append}
use Rattle.gc_station.proofs.Readings.{reads_as_in_scope}
use Rattle.gc_station.proofs.Lists.{all_append, all_at, all_on}
use Rattle.gc_station.proofs.Staying.{closed_stays, gave_stays, silent_stays}
use Rattle.gc_station.proofs.Unsent.{unsent_for_a_cause}
use Rattle.gc_station.proofs.Walk.{asked_along, came_along, losing_along, moved_changed, walk, HoldsInEachCase}
use Rattle.gc_station.specs.declared.progress.Action.TheVariants as actions

-- the record has the moment `utc`, unless its command is missed
abbrev pub IsOfMoment : (utc : ℕ) → Record → Type 0
IsOfMoment utc r = (r.end ≡ Missed → ⊥) → r.utc ≡ utc

-- the record of the first of these commands, which isn't sent, has the moment `m`
unsent_news : (p : Progress) (m : Moment) (mark : Mark) (left : List Task) → AllByRecursion (IsOfMoment m.utc) (first_unsent_record p m mark left)
unsent_news p m mark [] = tt
unsent_news p m mark (task ∷ others) = (by_missed p.missed (if lacks_value p then NoValue else Skipped), tt) where
  -- by whether the cycle is missed; if it isn't, the command has the other end
  by_missed : (missed : Bool) (other : End) → IsOfMoment m.utc (record { sent = None; id = mark.id; utc = if missed then p.due else m.utc; cycle = mark.cycle; place = mark.place; turn = mark.expected.turn; command = task.command; end = if missed then Missed else other })
  by_missed true other = λ not_missed. absurd (not_missed refl)
  by_missed false other = λ not_missed. refl

-- One act.

-- a model that read the moment `utc` last has the records `old`, and news of that moment
pub record AddsNews (reads : Reads) (utc : ℕ) (old : List Record) (t : Model) : Type 0 where
  pub reads_so : t.reads ≡ reads
  pub now : t.progress.moment.utc ≡ utc
  pub news : List Record
  pub added : t.records ≡ old ++ news
  pub each : AllByRecursion (IsOfMoment utc) news

-- settlements are recorded with news
settles_adds : (reads : Reads) (utc : ℕ) (old : List Record) (s : Model) (xs : List (Settlement Asked)) → (a : AddsNews reads utc old s)
    → (more : List Record) × (s.records ++ records_of s.reads s.progress.moment.utc s.marks xs ≡ old ++ more) × AllByRecursion (IsOfMoment utc) more
settles_adds reads utc old s xs a =
    let one = records_of reads utc s.marks xs in
    let same : records_of s.reads s.progress.moment.utc s.marks xs ≡ one =
    ap (λ (f : Reads). records_of f s.progress.moment.utc s.marks xs) a.reads_so ∙ ap (λ (n : ℕ). records_of reads n s.marks xs) a.now in (
      a.news ++ one,
      ap (λ (l : List Record). s.records ++ l) same ∙ ap (λ (l : List Record). l ++ one) a.added ∙ append_assoc old a.news one,
      all_append (IsOfMoment utc) a.news one a.each (all_records reads utc (IsOfMoment utc) s.marks xs (λ n mark x at got not_missed. refl)),
    )

-- a line that is heard adds news
line_adds : (reads : Reads) (utc : ℕ) (old : List Record) (s : Model) (line : List ℕ) → AddsNews reads utc old s → AddsNews reads utc old (line_came s line)
line_adds reads utc old s line a =
    let more = settles_adds reads utc old s (hears s.client line (heard line)).settlements a in
    record { reads_so = a.reads_so; now = a.now; news = more.0; added = more.1; each = more.2 }

-- a piece adds news
came_adds : (reads : Reads) (utc : ℕ) (old : List Record) (ready : Bool) (word piece : List ℕ) (s : Model) → AddsNews reads utc old s → AddsNews reads utc old (after_piece ready word piece s)
came_adds reads utc old ready word piece s a =
    came_along (AddsNews reads utc old) (line_adds reads utc old) ready word piece s
    (record { reads_so = a.reads_so; now = a.now; news = a.news; added = a.added; each = a.each })
    (record { reads_so = a.reads_so; now = synchronizing s (lines_completed s.rest piece) ∙ a.now; news = a.news; added = a.added; each = a.each }) a where
      -- lines that are heard while the station synchronizes leave the moment
      synchronizing : (s : Model) (lines : List (List ℕ)) → (lines_synchronizing s.progress lines).moment.utc ≡ s.progress.moment.utc
      synchronizing s lines = asked_along (λ (q : Progress). q.moment.utc ≡ s.progress.moment.utc) (λ q line e. e) s.progress lines refl

-- the loss of what is outstanding adds news
losing_adds : (reads : Reads) (utc : ℕ) (old : List Record) (all : Bool) (s : Model) → AddsNews reads utc old s → AddsNews reads utc old (losing all s)
losing_adds reads utc old all s a =
    let more = settles_adds reads utc old s (restarts s.client).settlements a in
    losing_along (AddsNews reads utc old) all s (record { reads_so = a.reads_so; now = a.now; news = more.0; added = more.1; each = more.2 }) a

-- this moment, if an act read one, and else `m`
abbrev pub moment_or : (m : Moment) → Option Moment → Moment
moment_or m None = m
moment_or m (Some read) = read

-- its time by the clock of time stamps
utc_of_moment : (m : Moment) (read : Option Moment) → (moment_or m read).utc ≡ utc_or m.utc read
utc_of_moment m None = refl
utc_of_moment m (Some read) = refl

-- an act that performs an action reads the moment that its model then has
module _ (plan : Plan) (commands : List Task) where
  -- the model `t` after an act on the model `s` has the moment that the act read, or the one that `s` has
  abbrev pub Ticks : Model → Act → Model → Type 0
  Ticks s act t = t.progress.moment ≡ moment_or s.progress.moment (moment_in act)

  -- `Ticks` holds in each case of each action
  ticks_in_each : (o : Action) (s : Model) → HoldsInEachCase plan commands (Ticks s) o s
  ticks_in_each actions.ReadClock s = (λ m. refl, λ n. refl)
  ticks_in_each actions.Renew s = (λ m. refl, λ n. refl)
  ticks_in_each actions.Begin s = (λ m. refl, λ n. refl)
  ticks_in_each actions.Open s = (λ m. refl, λ n. refl)
  ticks_in_each actions.Clear s = (λ m. refl, λ n. refl)
  ticks_in_each actions.Ask s = (λ m. refl, λ n. refl)
  ticks_in_each actions.Prepare s = (λ m. refl, λ n. refl)
  ticks_in_each actions.Send s = (λ m. refl, λ n. refl)
  ticks_in_each actions.Skip s = (λ m. refl, λ n. refl)
  ticks_in_each actions.Pass s = (λ m. refl, λ n. refl)
  ticks_in_each actions.Flush s = (λ m. refl, λ n. refl)
  ticks_in_each (actions.Read until) s = (
    (λ bytes m. (gave_stays plan commands until s bytes m).1.0),
    (λ m. (silent_stays plan s.progress.phase s.progress until m).1.0),
    refl,
    refl,
    refl,
  )
  ticks_in_each (actions.Close why) s = (closed_stays plan s why).1.0
  ticks_in_each (actions.Stop why) s = tt

  -- an act of a run leaves the moment that it read, or the one before it
  moved_ticks : (s : Model) (act : Act) → Performs commands s (action_at plan s) act → Ticks s act (moved plan commands (action_at plan s) (with_progress turned s) act)
  moved_ticks s act obeys =
      walk plan commands (Ticks (with_progress turned s)) (action_at plan s) (with_progress turned s) act obeys (ticks_in_each (action_at plan s) (with_progress turned s))

  -- so it does with all that follows it
  pub after_ticks : (s : Model) (act : Act) → Performs commands s (action_at plan s) act → Ticks s act (after plan commands s act)
  after_ticks s act obeys =
      let t = moved plan commands (action_at plan s) (with_progress turned s) act in
      losing_along (Ticks s act) (loses_all t.progress) t (moved_ticks s act obeys) (moved_ticks s act obeys)

  -- a model that read the moment `utc` last, and has no other records than `s`
  none_added : (reads : Reads) (utc : ℕ) (s t : Model) → t.reads ≡ reads → t.progress.moment.utc ≡ utc → t.records ≡ s.records → AddsNews reads utc s.records t
  none_added reads utc s t reads_so now same = record { reads_so = reads_so; now = now; news = []; added = same ∙ sym (append-nil s.records); each = tt }

  -- an act adds news of the moment that it leaves
  moved_adds : (reads : Reads) (utc : ℕ) (o : Action) (s : Model) (act : Act) → s.reads ≡ reads → (moved plan commands o s act).progress.moment.utc ≡ utc
      → AddsNews reads utc s.records (moved plan commands o s act)
  moved_adds reads utc actions.Skip s (Told m) reads_so now =
      record {
        reads_so = reads_so;
        now = now;
        news = first_unsent_record s.progress m (mark_next plan commands s.progress) (commands_left commands s.progress);
        added = refl;
        each = subst (λ (n : ℕ). AllByRecursion (IsOfMoment n) (first_unsent_record s.progress m (mark_next plan commands s.progress) (commands_left commands s.progress))) now
            (unsent_news s.progress m (mark_next plan commands s.progress) (commands_left commands s.progress));
      }
  moved_adds reads utc actions.Skip s act reads_so now = none_added reads utc s (moved plan commands actions.Skip s act) reads_so now (append-nil s.records)
  moved_adds reads utc (actions.Read until) s (Gave bytes m) reads_so now =
      let mid = with_moment m (with_progress (moment_noted m) s) in
      let is : m.utc ≡ utc = sym (ap (λ (x : Moment). x.utc) (gave_stays plan commands until s bytes m).1.0) ∙ now in
      let came = came_adds reads utc s.records (is_heard s.progress.phase) s.progress.exchange.word bytes mid (none_added reads utc s mid reads_so is refl) in
      record { reads_so = came.reads_so; now = now; news = came.news; added = came.added; each = came.each }
  moved_adds reads utc (actions.Read until) s act reads_so now = none_added reads utc s (moved plan commands (actions.Read until) s act) reads_so now refl
  moved_adds reads utc o s act reads_so now =
      let is = moved_changed plan commands o s act in
      none_added reads utc s (moved plan commands o s act) (ap (λ (x : Model). x.reads) is ∙ reads_so) now (ap (λ (x : Model). x.records) is)

  -- so does an act of a run, with all that follows it
  after_adds : (reads : Reads) (s : Model) (act : Act) → s.reads ≡ reads → Performs commands s (action_at plan s) act
      → AddsNews reads (utc_or s.progress.moment.utc (moment_in act)) s.records (after plan commands s act)
  after_adds reads s act reads_so obeys =
      let t = moved plan commands (action_at plan s) (with_progress turned s) act in
      let utc = utc_or s.progress.moment.utc (moment_in act) in
      losing_adds reads utc s.records (loses_all t.progress) t
      (moved_adds reads utc (action_at plan s) (with_progress turned s) act reads_so
      (ap (λ (x : Moment). x.utc) (moved_ticks s act obeys) ∙ utc_of_moment s.progress.moment (moment_in act)))

-- what holds of the record at each place holds of all records
pub all_of_each : (P : Record → Type 0) (rs : List Record) → ((n : ℕ) (r : Record) → slice_get rs n ≡ Some r → P r) → AllByRecursion P rs
all_of_each P [] f = tt
all_of_each P (r ∷ rs) f = (f 0 r refl, all_of_each P rs (λ n x got. f (suc n) x got))

-- The acts of a run.

-- with one act more, the moment read last is that of the act, if it reads one
pub utc_more : (now : ℕ) (xs : List Act) (act : Act) → utc_read now (xs ++ act ∷ []) ≡ utc_or (utc_read now xs) (moment_in act)
utc_more now [] act = refl
utc_more now (x ∷ xs) act = utc_more (utc_or now (moment_in x)) xs act

module _ (plan : Plan) (commands : List Task) (scope : Scope) where
  -- the model after these acts
  abbrev state : List Act → Model
  state acts = state_after plan commands scope acts

  -- a run's model has read the moment that its acts read last
  pub now_is : (acts : List Act) → Runs plan commands (opening plan scope) acts → (state acts).progress.moment.utc ≡ utc_read 0 acts
  now_is acts runs =
      always plan commands (opening plan scope) (λ (xs : List Act) (t : Model). t.progress.moment.utc ≡ utc_read 0 xs)
      (λ done act runs o now. (after_adds plan commands (state done).reads (state done) act refl o).now ∙ ap (λ (n : ℕ). utc_or n (moment_in act)) now ∙ sym (utc_more 0 done act)) refl acts runs

  -- the act after some of a run adds news of the moment read last by then
  pub act_adds : (acts later : List Act) (act : Act) → Runs plan commands (opening plan scope) (acts ++ act ∷ later)
      → AddsNews scope.reads (utc_read 0 (acts ++ act ∷ [])) (state acts).records (state (acts ++ act ∷ []))
  act_adds acts later act runs =
      let split = runs_split plan commands (opening plan scope) acts later act runs in
      let s = state acts in
      let utc : utc_or s.progress.moment.utc (moment_in act) ≡ utc_read 0 (acts ++ act ∷ []) = ap (λ (n : ℕ). utc_or n (moment_in act)) (now_is acts split.0) ∙ sym (utc_more 0 acts act) in
      subst (λ (n : ℕ). AddsNews scope.reads n s.records (state (acts ++ act ∷ []))) utc
      (subst (λ (t : Model). AddsNews scope.reads (utc_or s.progress.moment.utc (moment_in act)) s.records t) (sym (after_all-append plan commands (opening plan scope) acts (act ∷ [])))
      (after_adds plan commands scope.reads s act (reads_as_in_scope plan commands scope acts) split.1))

  -- the record was added by one of these acts, and has the moment read last by then
  pub record IsAdded (acts : List Act) (r : Record) : Type 0 where
    pub before : List Act
    pub act : Act
    pub behind : List Act
    pub order : acts ≡ before ++ act ∷ behind
    pub written : IsWrittenAt plan commands scope before act r
    pub of_moment : IsOfMoment (utc_read 0 (before ++ act ∷ [])) r

  -- it was so with one act more
  added_more : (acts : List Act) (act : Act) (r : Record) → IsAdded acts r → IsAdded (acts ++ act ∷ []) r
  added_more acts act r a =
      record {
        before = a.before;
        act = a.act;
        behind = a.behind ++ act ∷ [];
        order = ap (λ (xs : List Act). xs ++ act ∷ []) a.order ∙ append_assoc a.before (a.act ∷ a.behind) (act ∷ []);
        written = a.written;
        of_moment = a.of_moment;
      }

  -- what holds of each of the records `xs ++ ys` that has the others around it, holds of all of `ys`
  each_apart : (P : Record → Type 0) (xs ys : List Record) → ((earlier : List Record) (r : Record) (later : List Record) → xs ++ ys ≡ earlier ++ r ∷ later → P r) → AllByRecursion P ys
  each_apart P xs [] f = tt
  each_apart P xs (r ∷ ys) f =
      (f xs r ys refl, each_apart P (xs ++ r ∷ []) ys (λ earlier x later e. f earlier x later (sym (append_assoc xs (r ∷ []) ys) ∙ e)))

  -- what holds of all records holds of one among them
  pub of_one : (P : Record → Type 0) (all earlier : List Record) (r : Record) (later : List Record) → all ≡ earlier ++ r ∷ later → AllByRecursion P all → P r
  of_one P all earlier r later e each = at_once earlier (subst (AllByRecursion P) e each) where
    -- the lemma above, of the records as they are split
    at_once : (earlier : List Record) → AllByRecursion P (earlier ++ r ∷ later) → P r
    at_once [] each = each.0
    at_once (x ∷ xs) each = at_once xs each.1

  -- each record of a run was added so
  all_added : (acts : List Act) → Runs plan commands (opening plan scope) acts → AllByRecursion (IsAdded acts) (state acts).records
  all_added acts runs =
      always plan commands (opening plan scope) (λ (xs : List Act) (t : Model). AllByRecursion (IsAdded xs) t.records) step tt acts runs where
        -- one act more
        step : (done : List Act) (act : Act) → Runs plan commands (opening plan scope) done → Performs commands (state done) (action_at plan (state done)) act
            → AllByRecursion (IsAdded done) (state done).records → AllByRecursion (IsAdded (done ++ act ∷ [])) (after plan commands (state done) act).records
        step done act runs o all =
            let a = act_adds done [] act (runs-append plan commands (opening plan scope) done (act ∷ []) runs (o, tt)) in
            let is = after_all-append plan commands (opening plan scope) done (act ∷ []) in
            let new = each_apart (IsAdded (done ++ act ∷ [])) [] a.news (λ earlier r later e.
            let news = of_one (IsOfMoment (utc_read 0 (done ++ act ∷ []))) a.news earlier r later e a.each in
            record {
              before = done;
              act = act;
              behind = [];
              order = refl;
              written = record { earlier = earlier; later = later; written = a.added ∙ ap (λ (l : List Record). (state done).records ++ l) e };
              of_moment = news;
            }) in
            subst (λ (t : Model). AllByRecursion (IsAdded (done ++ act ∷ [])) t.records) is
            (subst (AllByRecursion (IsAdded (done ++ act ∷ []))) (sym a.added)
            (all_append (IsAdded (done ++ act ∷ [])) (state done).records a.news (all_on (IsAdded done) (IsAdded (done ++ act ∷ [])) (state done).records (added_more done act) all) new))

  -- each record is as its line reads
  pub all_read : (acts : List Act) → AllByRecursion (λ r. IsAsRead (scope.reads (form_at commands r.place)) r) (state acts).records
  all_read acts = all_on (IsAsItsText plan commands scope) (λ r. IsAsRead (scope.reads (form_at commands r.place)) r) (state acts).records (λ r is. is.6) (kept_all plan commands scope acts).records

  -- the record at a place among those of a run has its moment, where cycles have due moments and the clock doesn't go back also if it is
  -- missed; and it is as its line reads
  pub one_added : (acts : List Act) → Runs plan commands (opening plan scope) acts → (n : ℕ) (r : Record) → slice_get (state acts).records n ≡ Some r
      → HasItsMoment plan commands scope acts r × IsAsRead (scope.reads (form_at commands r.place)) r
  one_added acts runs n r got =
      let a = all_at (IsAdded acts) (state acts).records n r (all_added acts runs) got in (
        record {
          before = a.before;
          act = a.act;
          behind = a.behind;
          order = a.order;
          written = a.written;
          moment = a.of_moment;
          missed = λ e some rises. (all_at (UnsentIsJustified plan commands scope acts) (state acts).records n r (unsent_for_a_cause plan commands scope acts runs some rises) got).0 e;
        },
        all_at (λ (x : Record). IsAsRead (scope.reads (form_at commands x.place)) x) (state acts).records n r (all_read acts) got,
      )

  -- a line that answered a record came at the record's moment
  pub came_at : (acts : List Act) → Runs plan commands (opening plan scope) acts → (r : Record) (line : List ℕ) → line_of r.end ≡ Some line
      → IsAnsweredIn plan commands scope acts r line → CameAt plan commands scope acts r line
  came_at acts runs r line answers came =
      let its = came.reply.its in
      let read = Gave came.reply.piece came.reply.moment in
      let front = its.before ++ its.request ∷ its.between in
      let order : acts ≡ front ++ read ∷ its.behind = its.order ∙ sym (append_assoc its.before (its.request ∷ its.between) (read ∷ its.behind)) in
      let a = act_adds front its.behind read (subst (λ (xs : List Act). Runs plan commands (opening plan scope) xs) order runs) in
      let split : a.news ≡ its.written.earlier ++ r ∷ its.written.later =
      append_cancel_left (state front).records a.news (its.written.earlier ++ r ∷ its.written.later) (sym a.added ∙ its.written.written) in
      let news = of_one (IsOfMoment (utc_read 0 (front ++ read ∷ []))) a.news its.written.earlier r its.written.later split a.each in
      record { came = came; moment = news (λ missed. let none = ap line_of (sym missed) ∙ answers in cc) ∙ utc_more 0 front read }

  -- each record of a run has its moment
  each_has_moment : (acts : List Act) → Runs plan commands (opening plan scope) acts → AllByRecursion (HasItsMoment plan commands scope acts) (state acts).records
  each_has_moment acts runs = all_of_each (HasItsMoment plan commands scope acts) (state acts).records (λ n r got. (one_added acts runs n r got).0)

  -- a line that answered each came at the record's moment
  each_came_at : (acts : List Act) → Runs plan commands (opening plan scope) acts
      → AllByRecursion (λ r. (line : List ℕ) → line_of r.end ≡ Some line → CameAt plan commands scope acts r line) (state acts).records
  each_came_at acts runs =
      all_on (AnswerIsJustified plan commands scope acts) (λ r. (line : List ℕ) → line_of r.end ≡ Some line → CameAt plan commands scope acts r line) (state acts).records
      (λ r came line answers. came_at acts runs r line answers (came line answers)) (answers_true plan commands scope acts runs)

-- the law: each record of a run has its moment
pub records_have_moments : EachRecordHasItsMoment
records_have_moments plan commands scope acts runs = each_has_moment plan commands scope acts runs

-- the law: each record of a reply in time has the moment of the read that brought its line
pub answers_have_moments : AnswersHaveTheirMoments
answers_have_moments plan commands scope acts runs = each_came_at plan commands scope acts runs

-- the law: each record of a run is unreadable only as its line reads
pub unreadable_as_read : UnreadableAsTheyRead
unreadable_as_read plan commands scope acts runs = all_read plan commands scope acts
