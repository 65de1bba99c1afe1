-- Each record has its request: an act of the run writes it, with the record's id. A record of a command that was sent is of a reply in
-- time, late or lost, and each of these is recorded by an act after the one that writes its request. An act is one call on the link,
-- with its result.
use Rattle.gc_station.proofs.Common.{◌≡◌, ℕ, ◌<◌, true, List, ◌∷◌, ◌++◌, Option, Some, None, is_some, refl, sym, ap, ◌∙◌, subst, arith, slice_get, with_end, asked_line, IDS, Act, Gave, End, Answered, Unreadable, Judged, Skipped, NoValue, Missed, line_of, Task, Puts, AnswerIsJustified, IsRecordedBy, LateIsJustified, LostIsJustified, Runs, opening, went_out, Record, EachRecordIsOfItsRequest, HasItsRequest, IsOfItsRequest, state_after, Scope, IsOfItsTask, Plan}
use Rattle.gc_texts.specs.Prelude.{Late, Lost}
use Rattle.gc_station.proofs.Answers.{answers_true, late_true, lost_true, unsent_has_none}
use Rattle.gc_station.proofs.Closings.{runs_split}
use Rattle.gc_station.proofs.Lists.{all_at}
use Rattle.gc_station.proofs.Moments.{all_of_each, now_is}
use Rattle.gc_station.proofs.EachRun.{invariant_holds, of_tasks}

module _ (plan : Plan) (commands : List Task) (scope : Scope) (acts : List Act) (r : Record) where
  -- one of the acts adds the record, after the one that writes its request
  abbrev Recorded : Type 0
  Recorded = (act : Act) × IsRecordedBy plan commands scope acts r act

  -- a reply in time with this line recorded it
  by_line : AnswerIsJustified plan commands scope acts r → (line : List ℕ) → line_of r.end ≡ Some line → Recorded
  by_line answered line e = let came = answered line e in (Gave came.reply.piece came.reply.moment, came.reply.its)

  -- a record whose command was sent is recorded, whatever its ending
  recorded_sent : AnswerIsJustified plan commands scope acts r → LateIsJustified plan commands scope acts r → LostIsJustified plan commands scope acts r
      → (end : End) → r.end ≡ end → went_out end ≡ true → Recorded
  recorded_sent answered late lost (Answered quality answer line) is out = by_line answered line (ap line_of is)
  recorded_sent answered late lost (Unreadable line fault) is out = by_line answered line (ap line_of is)
  recorded_sent answered late lost (Judged judgement line) is out = by_line answered line (ap line_of is)
  recorded_sent answered late lost Late is out = let came = late is in (Gave came.reply.piece came.reply.moment, came.reply.its)
  recorded_sent answered late lost Lost is out = let it = lost is in (it.act, it.its)
  recorded_sent answered late lost Skipped is out = cc
  recorded_sent answered late lost NoValue is out = cc
  recorded_sent answered late lost Missed is out = cc

  -- a record that an act adds after the one that writes its request has its request
  has_its_request : Runs plan commands (opening plan scope) acts → Recorded → HasItsRequest plan commands scope acts r
  has_its_request runs (act, its) =
      let own = its.own in
      let whole = subst (λ (xs : List Act). Runs plan commands (opening plan scope) xs) its.order runs in
      let front = (runs_split plan commands (opening plan scope) its.before (its.between ++ act ∷ its.behind) its.request whole).0 in
      record {
        act = act;
        its = its;
        put = subst (λ (n : ℕ). Puts (with_end (asked_line (Some n) r.command.call)) its.request) (sym own.id) own.put;
        moment = own.sent ∙ ap Some (now_is plan commands scope its.before front);
      }

  -- a record with its request, or with the id 0 if its command wasn't sent, has an id of a client
  digit_of : (o : Option ℕ) → r.sent ≡ o → ((utc : ℕ) → r.sent ≡ Some utc → HasItsRequest plan commands scope acts r) → (r.sent ≡ None → r.id ≡ 0) → r.id < IDS
  digit_of (Some utc) is sent none =
      let its = (sent utc is).its in
      let digit = (invariant_holds plan commands scope its.before).digit in
      let same : r.id ≡ (state_after plan commands scope its.before).client.next = its.own.id in
      omega (arith, same, digit)
  digit_of None is sent none = let zero : r.id ≡ 0 = none is in omega (arith, zero)

-- the record at a place among those of a run is of its request
pub one_requested : (plan : Plan) (commands : List Task) (scope : Scope) (acts : List Act) → Runs plan commands (opening plan scope) acts
    → (n : ℕ) (r : Record) → slice_get (state_after plan commands scope acts).records n ≡ Some r → IsOfItsRequest plan commands scope acts r
one_requested plan commands scope acts runs n r got =
    let rs = (state_after plan commands scope acts).records in
    let answered = all_at (AnswerIsJustified plan commands scope acts) rs n r (answers_true plan commands scope acts runs) got in
    let late = all_at (LateIsJustified plan commands scope acts) rs n r (late_true plan commands scope acts runs) got in
    let lost = all_at (LostIsJustified plan commands scope acts) rs n r (lost_true plan commands scope acts runs) got in
    let none = all_at (λ (r : Record). r.sent ≡ None → r.id ≡ 0) rs n r (unsent_has_none plan commands scope acts runs) got in
    let tasked = all_at (IsOfItsTask commands) rs n r (of_tasks plan commands scope acts) got in
    let sent : (utc : ℕ) → r.sent ≡ Some utc → HasItsRequest plan commands scope acts r =
    λ utc e. has_its_request plan commands scope acts r runs
    (recorded_sent plan commands scope acts r answered late lost r.end refl (sym tasked.sent ∙ ap is_some e)) in
    record { sent = sent; unsent = none; digit = digit_of plan commands scope acts r r.sent refl sent none }

-- the law: each record of a run is of its request
pub records_requested : EachRecordIsOfItsRequest
records_requested plan commands scope acts runs =
    all_of_each (IsOfItsRequest plan commands scope acts) (state_after plan commands scope acts).records (one_requested plan commands scope acts runs)
