-- All that wait are lost only for a cause: at that act the station resynchronizes, or no act follows it. An act is one call on
-- the link, with its result.
use Rattle.gc_station.proofs.Common.{◌≡◌, ◌⊎◌, inl, inr, ℕ, ◌&&◌, ◌||◌, Bool, true, false, not, List, [], ◌∷◌, ◌++◌, length, map, Option, Some, if◌then◌else◌, nat_eq, refl, sym, ap, ◌∙◌, subst, append_assoc, AllByRecursion, nil_from_length, both_ways, not-true, Asked, Pending, id_of, ById, Settlement, Late, Lost, lost, Judged, Unexpected, Task, Cause, Mark, Plan, Phase, Down, Pausing, Ready, Closing, Over, Action, Progress, Waiting, Act, Cut, has_begun, is_up, action_of, action_in, action_without_turns, IsRecordedBy, IsWrittenAt, Resynchronizes, IsLast, IsLostIn, records_of, end_of, is_well, turned, sent, failing, is_over, is_over_in, loses_all, setup_sent, HoldsBefore, Record, state_after, Model, opening, action_at, waiting_of, Performs, with_progress, asks_next, after_put, moved, losing, with_losses, after, SendsCommand, IsSending, asks_setup, upcoming_after, Scope, Reads}
use Rattle.gc_client.specs.Prelude.{Answered}
use Rattle.gc_station.proofs.Counts.{with_losses_progress}
use Rattle.gc_station.proofs.Facts.{action_for}
use Rattle.gc_station.proofs.InCycle.{or_first}
use Rattle.gc_station.proofs.Invariant.{Invariant}
use Rattle.gc_station.proofs.Going.{after_all-append}
use Rattle.gc_station.proofs.Growing.{moved_grew}
use Rattle.gc_station.proofs.Lists.{all_append, all_split, CutOf, AtEnd, Before, cut_at_end_or_before, rising_all}
use Rattle.gc_station.proofs.Meets.{IsRecordOf, is_record_of, some_sent, own_request, made_then, all_records_at, was_answered, was_late}
use Rattle.gc_station.proofs.Waiting.{WasAsked, TimedOutAsRead, StillWaits, IsJustified, IsHonest, WasMade}
use Rattle.gc_station.proofs.Parting.{keeps_new_client}
use Rattle.gc_station.proofs.Walk.{sent_same, moved_changed}
use Rattle.gc_station.proofs.Words.{renews_only, renews_needs}
use Rattle.gc_station.specs.declared.cause.Cause.TheVariants as cause
use Rattle.gc_station.specs.declared.progress.Action.TheVariants as actions

-- with these marks no record is written, whatever is settled
abbrev Unwritten : List (Option Mark) → Type 0
Unwritten marks = (reads : Reads) (utc : ℕ) (settlements : List (Settlement Asked)) → records_of reads utc marks settlements ≡ []

-- if there are no marks, no record is written
unwritten_none : (marks : List (Option Mark)) → marks ≡ [] → Unwritten marks
unwritten_none marks is reads utc settlements = ap (λ (ms : List (Option Mark)). records_of reads utc ms settlements) is

-- if the run is over, the next action is to stop, for some cause
over_stops : (plan : Plan) (p : Progress) (w : Waiting) → is_over p ≡ true → (why : Cause) × (action_of plan p w ≡ actions.Stop why)
over_stops plan p w over = by_phase p.phase refl over where
  -- without a connection and a turn, a run stops because its turns are used up
  no_turn : (phase : Phase) (other : Action) → p.phase ≡ phase → is_up phase ≡ false → nat_eq p.turns 0 ≡ true
      → (if nat_eq p.turns 0 then action_without_turns (is_up p.phase) else other) ≡ actions.Stop cause.Turns
  no_turn phase other is down none = ap (λ (b : Bool). if b then action_without_turns (is_up p.phase) else other) none ∙ ap
      (λ (x : Phase). action_without_turns (is_up x)) is ∙ ap action_without_turns down

  -- the lemma above, by the phase: the run is over, or there is no connection and no turn is left
  by_phase : (phase : Phase) → p.phase ≡ phase → (is_over_in phase || (not (is_up phase) && nat_eq p.turns 0)) ≡ true → (why : Cause) × (action_in phase plan p w ≡ actions.Stop why)
  by_phase Down is e = (cause.Turns, no_turn Down _ is refl e)
  by_phase Pausing is e = (cause.Turns, no_turn Pausing _ is refl e)
  by_phase (Over why) is e = (why, refl)
  by_phase phase is e = cc

-- in the phase `Ready` the run isn't over
pub ready_not_over : (p : Progress) → p.phase ≡ Ready → is_over p ≡ false
ready_not_over p is = ap (λ (phase : Phase). is_over_in phase || (not (is_up phase) && nat_eq p.turns 0)) is

-- in the phase `Ready` a failure doesn't end the run: the connection is to be closed first
failing_not_over : (why : Cause) (p : Progress) → p.phase ≡ Ready → is_over (failing why p) ≡ false
failing_not_over why p is = ap (λ (phase : Phase). is_over_in (if is_up phase then Closing why else Over why) || (not (is_up (if is_up phase then Closing why else Over why)) && nat_eq p.turns 0)) is

-- the run isn't over after a write, whole or cut, if the model that `f` gives is in the phase `Ready`
put_not_over : (requests : ℕ) (f : Model → Model) (s : Model) (act : Act) → (f s).progress.phase ≡ Ready → is_over (after_put requests f s act).progress ≡ false
put_not_over requests f s (Cut bytes n) is = failing_not_over (cause.Write requests n) (f s).progress is
put_not_over requests f s act is = ready_not_over (f s).progress is

-- if the station has synchronized (a), and the run isn't over (b), nothing is lost
pub loses_nothing : (a b : Bool) → a ≡ true → b ≡ false → (not a || b) ≡ false
loses_nothing true b x y = y
loses_nothing false b x y = cc

-- nothing is lost if a command is sent, of a cycle or of the setup
sending_loses_none : (plan : Plan) (commands : List Task) (s : Model) (act : Act) → IsSending plan s
    → loses_all (moved plan commands (action_at plan s) (with_progress turned s) act).progress ≡ false
sending_loses_none plan commands s act sends = by_action (action_at plan s) sends (action_for plan s.progress (waiting_of s)) where
  -- the lemma above, by the action
  by_action : (next : Action) → SendsCommand next → HoldsBefore plan s.progress (waiting_of s) next
      → loses_all (moved plan commands next (with_progress turned s) act).progress ≡ false
  by_action actions.Send is needs =
      let t = with_progress turned s in
      let f = λ (x : Model). with_progress (sent (upcoming_after plan 1 commands x.progress)) (asks_next plan commands x) in
      loses_nothing (has_begun (moved plan commands actions.Send t act).progress) _ (ap (λ (x : Model). has_begun x.progress) (moved_changed plan commands actions.Send t act) ∙ needs.1)
      (put_not_over _ f t act (sym (ap (λ (x : Model). x.progress.phase) (sent_same plan commands t)) ∙ needs.0))
  by_action actions.Prepare is needs =
      let t = with_progress turned s in
      let f = λ (x : Model). with_progress (setup_sent plan) (asks_setup plan commands x) in
      loses_nothing (has_begun (moved plan commands actions.Prepare t act).progress) _ (ap (λ (x : Model). has_begun x.progress) (moved_changed plan commands actions.Prepare t act) ∙ needs.1)
      (put_not_over _ f t act needs.0)
  by_action next (inl is) needs = cc
  by_action next (inr is) needs = cc

-- The records of those that are lost.

-- this settlement is of a request that is lost, with this mark; that request was put among these acts
pub record LostOf (plan : Plan) (commands : List Task) (scope : Scope) (acts : List Act) (x : Settlement Asked) (mark : Option Mark) : Type 0 where
  pub number : ℕ
  pub at : ℕ
  pub id : ℕ
  pub pending : Pending Asked
  pub is : x ≡ lost pending
  pub asked : WasAsked plan commands scope acts TimedOutAsRead number at id pending mark

-- the record is of the settlement of a command that is lost (`LostOf`)
abbrev IsLostRecord : Plan → List Task → Scope → List Act → Record → Type 0
IsLostRecord plan commands scope acts r = (mark : Mark) × (y : Settlement Asked) × IsRecordOf r mark y × LostOf plan commands scope acts y (Some mark)

-- An act, made after some acts of a run.

module _ (plan : Plan) (commands : List Task) (scope : Scope) (acts : List Act) (act : Act) where
  -- the model before the act
  abbrev s : Model
  s = state_after plan commands scope acts

  -- the model after the act, before what is outstanding is lost
  abbrev t : Model
  t = moved plan commands (action_at plan s) (with_progress turned s) act

  -- the acts with this one at their end
  abbrev all : List Act
  all = acts ++ act ∷ []

  -- at the act the station resynchronizes, or no act follows it
  abbrev EndsPart : Type 0
  EndsPart = Resynchronizes plan s act ⊎ IsLast plan commands scope acts act []

  -- if all outstanding requests are lost at the act, `EndsPart` holds; or no record is written of them (`Unwritten`)
  loses_why : Invariant plan commands s → Performs commands s (action_at plan s) act → loses_all t.progress ≡ true → Unwritten t.marks ⊎ EndsPart
  loses_why fine obeys loses = by_test (is_over t.progress) refl loses where
    -- the model after the whole act
    next : state_after plan commands scope (acts ++ act ∷ []) ≡ with_losses t
    next = after_all-append plan commands (opening plan scope) acts (act ∷ [])

    -- while the station synchronizes no request is outstanding, so none is recorded
    none_waits : has_begun s.progress ≡ false → Unwritten t.marks
    none_waits begins =
        let new = fine.begins begins in
        unwritten_none t.marks
        ((keeps_new_client plan commands s (action_at plan s) act (action_for plan s.progress (waiting_of s)) obeys begins new).1
        ∙ nil_from_length s.marks (fine.paired ∙ ap (λ (c : ById Asked). length c.waiting) new))

    -- if the station hasn't synchronized after the act: it hadn't before it, or it resynchronizes at it
    renews : (begun : Bool) → has_begun s.progress ≡ begun → has_begun t.progress ≡ false → Unwritten t.marks ⊎ EndsPart
    renews false begun begins = inl (none_waits begun)
    renews true begun begins =
        let it = renews_only plan commands s (action_at plan s) act obeys begun begins in
        let full = renews_needs plan commands s (action_at plan s) fine it.0 (action_for plan s.progress (waiting_of s)) in
        inr (inl (record { renews = it.0; moment = it.1; told = it.2; why = full.0; given_up = full.1 }))

    -- the lemma above, by whether the run is over after the act (`true`)
    by_test : (b : Bool) → is_over t.progress ≡ b → (not (has_begun t.progress) || b) ≡ true → Unwritten t.marks ⊎ EndsPart
    by_test true over e =
        let stops = over_stops plan (with_losses t).progress (waiting_of (with_losses t)) (ap is_over (with_losses_progress t) ∙ over) in
        inr (inr (record { none = refl; why = stops.0; stops = ap (λ (x : Model). action_at plan x) next ∙ stops.1 }))
    by_test false on e = renews (has_begun s.progress) refl (not-true (has_begun t.progress) (or_first (not (has_begun t.progress)) false e refl))

  -- if all outstanding requests are lost at the act, and `EndsPart` holds, each record that the act writes of them is true
  -- (`IsJustified`)
  lost_justified : (r : Record) (news earlier later : List Record) → (loses : loses_all t.progress ≡ true) → (why : EndsPart)
      → (ends : (state_after plan commands scope all).records ≡ (s.records ++ news) ++ (earlier ++ r ∷ later)) → IsLostRecord plan commands scope all r
      → IsJustified plan commands scope all r
  lost_justified r news earlier later loses why ends it = record {
    answered = λ line e. absurd (not_answered line (sym outcome ∙ was_answered r it.0 it.1 it.2 line e));
    late = λ e. absurd (not_late (sym outcome ∙ was_late r it.0 it.1 it.2 e));
    lost = λ e. on (cut_at_end_or_before acts a.before a.between act a.request a.order);
    made = λ utc e. was_made (cut_at_end_or_before acts a.before a.between act a.request a.order);
    unsent = λ e. some_sent r it.0 it.1 it.2 e;
    expected = (
      (λ well. let bad : false ≡ true = sym (ap is_well ended) ∙ well in cc),
      (λ line e. absurd (not_unexpected line (sym ended ∙ e))),
    );
  } where
    -- the settlement is of a request that is lost
    x : LostOf plan commands scope all it.1 (Some it.0)
    x = it.3

    -- that request was put among the acts
    a : WasAsked plan commands scope all TimedOutAsRead x.number x.at x.id x.pending (Some it.0)
    a = x.asked

    -- the outcome is that it is lost
    outcome : it.1.outcome ≡ Lost
    outcome = ap (λ (y : Settlement Asked). y.outcome) x.is

    -- so its command ends as lost
    ended : r.end ≡ end_of it.2.reads it.0.expected it.1.call Lost
    ended = it.2.ended ∙ ap (end_of it.2.reads it.0.expected it.1.call) outcome

    -- and not as unexpected
    not_unexpected : (line : List ℕ) → end_of it.2.reads it.0.expected it.1.call Lost ≡ Judged Unexpected line → ⊥
    not_unexpected line e = cc

    -- a request that is lost isn't answered
    not_answered : (line : List ℕ) → Lost ≡ Answered line → ⊥
    not_answered line e = cc

    -- a request that is lost isn't late
    not_late : Lost ≡ Late → ⊥
    not_late e = cc

    -- the act writes the record
    here : IsWrittenAt plan commands scope acts act r
    here = record {
      earlier = news ++ earlier;
      later = later;
      written = let rs = s.records in ends ∙ append_assoc rs news (earlier ++ r ∷ later) ∙ ap (λ xs. rs ++ xs) (sym (append_assoc news earlier (r ∷ later)));
    }

    -- the settlement is of the call of that request
    asks : x.pending.call ≡ it.1.call
    asks = sym (ap (λ (y : Settlement Asked). y.call) x.is)

    -- the request isn't this act, which sends none
    not_here : acts ≡ a.before → ⊥
    not_here same =
        let sends : IsSending plan s = subst (λ (xs : List Act). IsSending plan (state_after plan commands scope xs)) (sym same) (a.its it.0 refl).sends in
        both_ways (loses_all t.progress) (sending_loses_none plan commands s act sends) loses

    -- if these acts are between the request and this act, that adds the record
    recorded : (between : List Act) → acts ≡ a.before ++ a.request ∷ between → a.between ≡ between ++ act ∷ [] → IsRecordedBy plan commands scope all r act
    recorded between at rest = record {
      before = a.before;
      request = a.request;
      between = between;
      behind = [];
      order = a.order ∙ ap (λ xs. a.before ++ a.request ∷ xs) rest;
      own = own_request plan commands scope all TimedOutAsRead x.number x.at x.id x.pending it.0 r it.1 it.2 asks a;
      written = subst (λ (xs : List Act). IsWrittenAt plan commands scope xs act r) at here;
    }

    -- the request was put among the acts before this act, as that of its command was made then
    was_made : CutOf acts act a.before a.between a.request → WasMade plan commands scope all r
    was_made (AtEnd same) = absurd (not_here same)
    was_made (Before between at rest) = record {
      act = act;
      its = recorded between at rest;
      asks = made_then plan commands scope all TimedOutAsRead x.number x.at x.id x.pending it.0 r it.1 it.2 asks a;
    }

    -- so its record is lost for a cause, as `IsLostIn` says
    on : CutOf acts act a.before a.between a.request → IsLostIn plan commands scope all r
    on (AtEnd same) = absurd (not_here same)
    on (Before between at rest) =
        record {
          act = act;
          its = recorded between at rest;
          shown = inr (subst (λ (xs : List Act). Resynchronizes plan (state_after plan commands scope xs) act ⊎ IsLast plan commands scope xs act []) at why);
        }

  -- if `IsHonest` holds after the act, before what is outstanding is lost, it holds after the whole act, whether all outstanding
  -- requests are lost or not
  pub losing_honest : Invariant plan commands s → Performs commands s (action_at plan s) act → IsHonest plan commands scope all all t
      → IsHonest plan commands scope all all (after plan commands s act)
  losing_honest fine obeys h = by_test (loses_all t.progress) refl where
    -- the records of all that is outstanding, as lost
    written : List Record
    written = records_of t.reads t.progress.moment.utc t.marks (map lost t.client.waiting)

    -- if all are lost, these records come last after the whole act
    ends : loses_all t.progress ≡ true → (more : List Record) → t.records ≡ s.records ++ more → (state_after plan commands scope all).records ≡ (s.records ++ more) ++ written
    ends loses more grew =
        ap (λ (x : Model). x.records) (after_all-append plan commands (opening plan scope) acts (act ∷ [])) ∙ ap (λ (b : Bool). (losing b t).records) loses ∙ ap (λ xs. xs ++ written) grew

    -- each of these records is of a command that is lost
    of_lost : AllByRecursion (IsLostRecord plan commands scope all) written
    of_lost =
        all_records_at (λ (k : ℕ). LostOf plan commands scope all) (IsLostRecord plan commands scope all) t.reads t.progress.moment.utc 0 (map lost t.client.waiting) t.marks
        (λ i x mark is. (mark, x, is_record_of t.reads t.progress.moment.utc mark x, is))
        (rising_all (StillWaits plan commands scope all t.client.next (length t.client.waiting)) (λ (k : ℕ). LostOf plan commands scope all) lost 0 0 t.client.waiting t.marks
        (λ n j p mark w. record { number = n; at = j; id = id_of t.client j; pending = p; is = refl; asked = w }) h.waiting)

    -- each of these records is true, if all are lost for a cause
    all_lost : loses_all t.progress ≡ true → Unwritten t.marks ⊎ EndsPart
        → AllByRecursion (IsJustified plan commands scope all) written
    all_lost loses (inl none) = subst (λ (rs : List Record). AllByRecursion (IsJustified plan commands scope all) rs) (sym (none t.reads t.progress.moment.utc (map lost t.client.waiting))) tt
    all_lost loses (inr why) =
        let grew = moved_grew plan commands (action_at plan s) (with_progress turned s) act in
        all_split (IsLostRecord plan commands scope all) (IsJustified plan commands scope all) [] written written refl
        (λ (earlier : List Record) (r : Record) (later : List Record) at is.
        lost_justified r grew.0 earlier later loses why (ends loses grew.0 grew.1 ∙ ap (λ xs. (s.records ++ grew.0) ++ xs) (sym at)) is) of_lost

    -- the lemma above, by whether all outstanding requests are lost (`true`)
    by_test : (b : Bool) → loses_all t.progress ≡ b → IsHonest plan commands scope all all (losing b t)
    by_test true loses = record {
      waiting = tt;
      written = all_append (IsJustified plan commands scope all) t.records written h.written
          (all_lost loses (loses_why fine obeys loses));
    }
    by_test false loses = h
