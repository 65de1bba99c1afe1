-- Each record of a command that was missed, skipped or without a value is of one that was so for its cause, where cycles have due
-- moments and the clock doesn't go back. An act is one call on the link, with its result. A piece is the bytes that one read
-- gave.
use Rattle.gc_station.proofs.Common.{◌≡◌, ◌⊎◌, inl, inr, ℕ, ◌<◌, Bool, true, false, List, [], ◌∷◌, ◌++◌, drop, Option, None, refl, sym, ap, ◌∙◌, subst, arith, append_assoc, if◌then◌else◌, AllByRecursion, leb-true, cond-true, cond-false, both_ways, Asked, heard, hears, restarts, Skipped, NoValue, Missed, Task, Act, Told, Gave, Moment, IsChained, ClockRises, IsMissedIn, IsUnsentIn, IsBroken, UnsentIsJustified, UnsentForACause, record_of, records_of, went_out, turned, moment_noted, cycle_begun, unsent_at, loses_all, Record, IsOverdue, StaysInItsChain, state_after, Scope, Reads, waiting_of, Model, opening, action_at, is_heard, with_progress, with_moment, end_unsent, first_unsent_record, after_piece, moved, losing, Performs, Runs, lacks_value, may_go, cycles_begun, place_next, mark_next, Mark, Plan, Action, Progress}
use Rattle.gc_station.proofs.Booking.{ended_sent, all_records}
use Rattle.gc_station.proofs.Closings.{needs_of}
use Rattle.gc_station.proofs.Always.{always}
use Rattle.gc_station.proofs.Going.{after_all-append}
use Rattle.gc_station.proofs.Lists.{all_append, all_on}
use Rattle.gc_station.proofs.Needed.{without_value}
use Rattle.gc_station.proofs.Resting.{is_resting_next, skipped_in_turn}
use Rattle.gc_station.proofs.Walk.{came_along, losing_along, moved_changed}
use Rattle.gc_station.proofs.Ticking.{rises_front}
use Rattle.gc_station.proofs.Cycles.{Begun, Cycling, late_more, begun_if_clock_rises, last_began, WaitsForAnswer}
use Rattle.gc_client.specs.Rule
use Rattle.gc_station.specs.declared.progress.Action.TheVariants as actions

module _ (plan : Plan) (commands : List Task) (scope : Scope) (some : 0 < plan.every) where
  -- the model after these acts
  abbrev state : List Act → Model
  state acts = state_after plan commands scope acts

  -- `Begun` of this run
  abbrev HasBegun : List Act → Progress → Type 0
  HasBegun acts p = Begun plan commands scope some acts p

  -- the record is justified by these acts, as `UnsentIsJustified` says
  abbrev Justified : List Act → Record → Type 0
  Justified = UnsentIsJustified plan commands scope

  -- a record of a command that wasn't sent, for a reason in these acts, is so in these and more
  unsent_more : (Why : Model → Type 0) (acts more : List Act) (r : Record) → IsUnsentIn Why plan commands scope acts r → IsUnsentIn Why plan commands scope (acts ++ more) r
  unsent_more Why acts more r x = record {
    before = x.before;
    moment = x.moment;
    behind = x.behind ++ more;
    order = ap (λ xs. xs ++ more) x.order ∙ append_assoc x.before (Told x.moment ∷ x.behind) more;
    skips = x.skips;
    cycle = x.cycle;
    place = x.place;
    why = x.why;
    last = x.last;
    in_time = x.in_time;
    sent = x.sent;
    utc = x.utc;
  }

  -- a record that is justified by these acts is justified by these and more
  justified_more : (acts more : List Act) (r : Record) → Justified acts r → Justified (acts ++ more) r
  justified_more acts more r h = (missed_more, (λ e. unsent_more _ acts more r (h.1 e)), (λ e. unsent_more _ acts more r (h.2 e))) where
    -- the record of a missed command is justified by these acts and more
    missed_more : r.end ≡ Missed → IsMissedIn plan commands scope (acts ++ more) r
    missed_more e =
        let x = h.0 e in
        record {
          its = record {
            n = x.its.n;
            moment = x.its.moment;
            late = x.its.late;
            begins = late_more plan commands scope some acts more x.its.n x.its.moment x.its.late x.its.begins;
            number = x.its.number;
          };
          too_late = x.too_late;
          sent = x.sent;
          due = x.due;
        }

  -- the record of a command that was sent says nothing of not being sent, so it is justified (`UnsentIsJustified`)
  sent_justified : (acts : List Act) (r : Record) → went_out r.end ≡ true → Justified acts r
  sent_justified acts r out = (
    (λ e. absurd (both_ways (went_out r.end) (ap went_out e) out)),
    (λ e. absurd (both_ways (went_out r.end) (ap went_out e) out)),
    (λ e. absurd (both_ways (went_out r.end) (ap went_out e) out)),
  )

  -- the records of settlements are justified, as they say nothing of not being sent
  settled_justified : (acts : List Act) (reads : Reads) (utc : ℕ) (marks : List (Option Mark)) (settlements : List (Rule.Settlement Asked))
      → AllByRecursion (Justified acts) (records_of reads utc marks settlements)
  settled_justified acts reads utc marks settlements =
      all_records reads utc (Justified acts) marks settlements
      (λ n mark x at got. sent_justified acts (record_of reads utc mark x) (ended_sent reads mark.expected x.call x.outcome))

  -- if the records before a piece are justified, so are those after it: the added ones say nothing of not being sent
  came_justified : (acts : List Act) (heard : Bool) (word piece : List ℕ) (s : Model) → AllByRecursion (Justified acts) s.records
      → AllByRecursion (Justified acts) (after_piece heard word piece s).records
  came_justified acts ready word piece s h =
      came_along (λ (x : Model). AllByRecursion (Justified acts) x.records)
      (λ x line all. all_append (Justified acts) x.records _ all
      (settled_justified acts x.reads x.progress.moment.utc x.marks (hears x.client line (heard line)).settlements)) ready word piece s h h h

  -- if the records are justified, they still are after the loss of what is outstanding: the added ones say nothing of not
  -- being sent
  losing_justified : (acts : List Act) (all : Bool) (s : Model) → AllByRecursion (Justified acts) s.records
      → AllByRecursion (Justified acts) (losing all s).records
  losing_justified acts all s h =
      losing_along (λ (x : Model). AllByRecursion (Justified acts) x.records) all s
      (all_append (Justified acts) s.records _ h (settled_justified acts s.reads s.progress.moment.utc s.marks (restarts s.client).settlements)) h

  -- a command that isn't sent ends as missed only if its cycle is missed; as skipped only if it isn't, and each value is there that it takes;
  -- and as without a value only if it isn't, and one of them isn't there
  unsent_ends_as : (p : Progress) → (end_unsent p ≡ Missed → p.missed ≡ true) × (end_unsent p ≡ Skipped → (p.missed ≡ false) × (lacks_value p ≡ false))
      × (end_unsent p ≡ NoValue → (p.missed ≡ false) × (lacks_value p ≡ true))
  unsent_ends_as p = by_tests p.missed (lacks_value p) where
    -- the lemma above, by the two tests
    by_tests : (missed lacks : Bool) → let end = if missed then Missed else if lacks then NoValue else Skipped in
        (end ≡ Missed → missed ≡ true) × (end ≡ Skipped → (missed ≡ false) × (lacks ≡ false)) × (end ≡ NoValue → (missed ≡ false) × (lacks ≡ true))
    by_tests true lacks = ((λ e. refl), (λ e. cc), (λ e. cc))
    by_tests false true = ((λ e. cc), (λ e. cc), (λ e. (refl, refl)))
    by_tests false false = ((λ e. cc), (λ e. (refl, refl)), (λ e. cc))

  -- where `Begun` holds, the record of a command of a missed cycle, which isn't sent, came about as `IsMissedIn` says
  skip_missed : (acts : List Act) (m : Moment) (p : Progress) (r : Record) → HasBegun acts p → (here : 0 < p.unsent) → (cycle : r.cycle ≡ cycles_begun plan p)
      → (sent : r.sent ≡ None)
      → (utc : r.utc ≡ unsent_at m p) → (missed : p.missed ≡ true) → IsMissedIn plan commands scope (acts ++ Told m ∷ []) r
  skip_missed acts m p r (inl none) here cycle sent utc missed = let nothing = none.1 in absurd (omega (arith, nothing, here))
  skip_missed acts m p r (inr c) here cycle sent utc missed = record {
    its = record {
      n = c.earlier;
      moment = c.moment;
      late = c.late;
      begins = late_more plan commands scope some acts (Told m ∷ []) c.earlier c.moment c.late c.begins;
      number = cycle ∙ c.count;
    };
    too_late = leb-true plan.every c.late (sym c.missed ∙ missed);
    sent = sent;
    due = utc ∙ cond-true p.missed p.due m.utc missed ∙ c.due;
  }

  -- in a cycle that isn't missed, a command that waits for the answer of the one before it, and doesn't rest, is of a chain, and not its
  -- first
  waits_in_its_chain : (p : Progress) → WaitsForAnswer plan commands scope some p → p.missed ≡ false → is_resting_next plan commands p ≡ false
      → IsChained plan commands p
  waits_in_its_chain p (inl missed) free awake = absurd (both_ways p.missed free missed)
  waits_in_its_chain p (inr (inl chain)) free awake = chain
  waits_in_its_chain p (inr (inr resting)) free awake = absurd (both_ways (is_resting_next plan commands p) awake resting)

  -- where `Begun` holds, and the next action is to skip a command, the record of that command in a cycle that isn't missed comes
  -- about as `IsUnsentIn` says, for a reason that there is within the cycle
  skip_unsent : (Why : Model → Type 0) (acts : List Act) (m : Moment) (r : Record) → HasBegun acts (state acts).progress
      → (is_next : action_at plan (state acts) ≡ actions.Skip)
      → (cycle : r.cycle ≡ cycles_begun plan (state acts).progress) → (place : r.place ≡ place_next commands (state acts).progress)
      → (sent : r.sent ≡ None) → (utc : r.utc ≡ unsent_at m (state acts).progress)
      → (free : (state acts).progress.missed ≡ false) → (why : Cycling plan commands scope some acts (state acts).progress → Why (state acts))
      → IsUnsentIn Why plan commands scope (acts ++ Told m ∷ []) r
  skip_unsent Why acts m r cycle_begun is cycle place sent utc free why = by_begun cycle_begun where
    -- the lemma above, by whether a cycle has begun: one has, as a command is unsent
    by_begun : HasBegun acts (state acts).progress → IsUnsentIn Why plan commands scope (acts ++ Told m ∷ []) r
    by_begun (inl none) = let here = (needs_of plan (state acts) actions.Skip is).2 in let nothing = none.1 in absurd (omega (arith, nothing, here))
    by_begun (inr c) =
        let last = last_began plan commands scope some acts (state acts).progress refl c free in
        record {
          before = acts;
          moment = m;
          behind = [];
          order = refl;
          skips = is;
          cycle = cycle;
          place = place;
          why = why c;
          last = last.0;
          in_time = last.1;
          sent = sent;
          utc = utc ∙ cond-false (state acts).progress.missed (state acts).progress.due m.utc free;
        }

  -- why a command is skipped, in a cycle that isn't missed, if each value is there that it takes: its chain is broken, or the cycle is overdue
  skip_reason : (acts : List Act) → Runs plan commands (opening plan scope) acts → action_at plan (state acts) ≡ actions.Skip → (state acts).progress.missed ≡ false → lacks_value (state acts).progress ≡ false
      → Cycling plan commands scope some acts (state acts).progress → IsBroken plan commands (state acts) ⊎ IsOverdue plan (state acts).progress (waiting_of (state acts))
  skip_reason acts runs is free there c = by_why (needs_of plan (state acts) actions.Skip is).4 where
    -- the model before the act
    s : Model
    s = state acts

    -- the lemma above, by the reasons for which a command may be skipped
    by_why : ((s.progress.next_is_chained ≡ true) × (may_go s.progress (waiting_of s) ≡ false))
        ⊎ (((lacks_value s.progress ≡ true) × StaysInItsChain s.progress) ⊎ IsOverdue plan s.progress (waiting_of s))
        → IsBroken plan commands s ⊎ IsOverdue plan s.progress (waiting_of s)
    by_why (inl broken) = inl (waits_in_its_chain s.progress (c.chained broken.0) free (skipped_in_turn plan commands scope acts runs is), broken.1)
    by_why (inr (inl without)) = absurd (both_ways (lacks_value s.progress) there without.0)
    by_why (inr (inr over)) = inr over

  -- where `Begun` holds, and the next action is to skip a command, the record of the first of these commands, if there is one, is
  -- justified
  skips_justified : (acts : List Act) (m : Moment) (left : List Task) → Runs plan commands (opening plan scope) acts → HasBegun acts (state acts).progress
      → action_at plan (state acts) ≡ actions.Skip
      → AllByRecursion (Justified (acts ++ Told m ∷ [])) (first_unsent_record (turned (state acts).progress) m
      (mark_next plan commands (turned (state acts).progress)) left)
  skips_justified acts m [] runs cycle_begun is = tt
  skips_justified acts m (task ∷ others) runs cycle_begun is =
      let p = (state acts).progress in
      let here = (needs_of plan (state acts) actions.Skip is).2 in
      let ends = unsent_ends_as p in (
        (
          (λ e. skip_missed acts m p _ cycle_begun here refl refl refl (ends.0 e)),
          (λ e. skip_unsent _ acts m _ cycle_begun is refl refl refl refl (ends.1 e).0 (skip_reason acts runs is (ends.1 e).0 (ends.1 e).1)),
          (λ e. skip_unsent _ acts m _ cycle_begun is refl refl refl refl (ends.2 e).0 (λ c. without_value plan commands scope acts runs (ends.2 e).1)),
        ),
        tt,
      )

  -- where `Begun` holds, and the records before an act are justified by the acts with this one, so are the records after it,
  -- before what is outstanding is lost
  moved_justified : (acts : List Act) (next : Action) (act : Act) → Runs plan commands (opening plan scope) acts → HasBegun acts (state acts).progress
      → action_at plan (state acts) ≡ next
      → AllByRecursion (Justified (acts ++ act ∷ [])) (state acts).records
      → AllByRecursion (Justified (acts ++ act ∷ [])) (moved plan commands next (with_progress turned (state acts)) act).records
  moved_justified acts actions.Skip (Told m) runs cycle_begun is all =
      let s = state acts in
      all_append (Justified (acts ++ Told m ∷ [])) s.records _ all (skips_justified acts m (drop (place_next commands (turned s.progress)) commands) runs cycle_begun is)
  moved_justified acts actions.Skip act runs cycle_begun is all = all_append (Justified (acts ++ act ∷ [])) (state acts).records [] all tt
  moved_justified acts (actions.Read until) (Gave bytes m) runs cycle_begun is all =
      let s = with_progress turned (state acts) in
      came_justified (acts ++ Gave bytes m ∷ []) (is_heard s.progress.phase) s.progress.exchange.word bytes (with_moment m (with_progress (moment_noted m) s)) all
  moved_justified acts (actions.Read until) act runs cycle_begun is all = all
  moved_justified acts next act runs cycle_begun is all =
      let t = with_progress turned (state acts) in
      subst (λ (x : Model). AllByRecursion (Justified (acts ++ act ∷ [])) x.records) (sym (moved_changed plan commands next t act)) all

  -- if the clock doesn't go back in these acts, each record after them is justified
  abbrev JustifiedIfClockRises : List Act → Type 0
  JustifiedIfClockRises acts = ClockRises 0 acts → AllByRecursion (Justified acts) (state acts).records

  -- one act of a run more preserves `JustifiedIfClockRises`
  written_step : (done : List Act) (act : Act) → Runs plan commands (opening plan scope) done
      → Performs commands (state done) (action_at plan (state done)) act → JustifiedIfClockRises done → JustifiedIfClockRises (done ++ act ∷ [])
  written_step done act runs o h rises =
      let s = state done in
      let front = rises_front 0 done act rises in
      let cycle_begun = (begun_if_clock_rises plan commands scope some done runs front).1 in
      let old = all_on (Justified done) (Justified (done ++ act ∷ [])) s.records (λ r x. justified_more done (act ∷ []) r x) (h front) in
      let t = moved plan commands (action_at plan s) (with_progress turned s) act in
      subst (λ (x : Model). AllByRecursion (Justified (done ++ act ∷ [])) x.records) (sym (after_all-append plan commands (opening plan scope) done (act ∷ [])))
      (losing_justified (done ++ act ∷ []) (loses_all t.progress) t (moved_justified done (action_at plan s) act runs cycle_begun refl old))

  -- `JustifiedIfClockRises` holds after every run
  written_holds : (acts : List Act) → Runs plan commands (opening plan scope) acts → JustifiedIfClockRises acts
  written_holds acts runs = always plan commands (opening plan scope) (λ (xs : List Act) (t : Model). JustifiedIfClockRises xs) written_step (λ rises. tt) acts runs

-- the law: each record of a command that was missed, skipped or without a value is justified, where cycles have due moments and the clock doesn't go back
pub unsent_for_a_cause : UnsentForACause
unsent_for_a_cause plan commands scope acts runs some rises = written_holds plan commands scope some acts runs rises
