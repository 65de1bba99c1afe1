-- An answer that isn't as expected ends its command as unexpected, and leaves the station in doubt: the act that adds such a record notes
-- that a synchronization is called for. So the setup is sent anew. An act is one call on the link, with its result.
use Rattle.gc_station.proofs.Common.{◌≡◌, ℕ, ◌||◌, Bool, true, false, List, [], ◌∷◌, ◌++◌, map, nat_lt, Option, Some, None, refl, sym, ap, ◌∙◌, append_assoc, append-nil, both_ways, append_cancel_left, Asked, Pending, lost, End, Judged, Unexpected, Task, calls_for_renewal, Act, Told, Gave, Moment, Mark, Plan, Action, Progress, IsByExpectation, TheSetUpIsAsExpected, ChainsAreAsExpected, BringsUnexpected, RenewsAfterAnUnexpectedAnswer, any_unexpected, is_well, records_of, unexpected_noted, Model, opening, action_at, waiting_of, is_heard, after_piece, first_unsent_record, line_busy, line_came, line_news, losing, moved, after, with_moment, with_progress, commands_left, mark_next, turned, moment_noted, loses_all, IsAsking, HoldsBefore, Record, state_after, Scope, Reads, Dispatch}
use Rattle.gc_station.proofs.Answers.{as_expected}
use Rattle.gc_station.proofs.Chaining.{chain_kept}
use Rattle.gc_station.proofs.Facts.{action_for}
use Rattle.gc_station.proofs.Going.{after_all-append}
use Rattle.gc_station.proofs.Moments.{of_one}
use Rattle.gc_station.proofs.Prepared.{none_before_the_set_up}
use Rattle.gc_station.proofs.Records.{unexpected-append}
use Rattle.gc_station.proofs.Starts.{in_doubt_at_end, set_up_anew_after_a_doubt}
use Rattle.gc_station.proofs.Walk.{came_along, moved_changed, unsent_along}
use Rattle.gc_station.specs.declared.progress.Action.TheVariants as action

-- Records.

-- once one record ended as unexpected, it stays noted that one did
stays_unexpected : (rs : List Record) → any_unexpected true rs ≡ true
stays_unexpected [] = refl
stays_unexpected (r ∷ rs) = ap (λ (b : Bool). any_unexpected b rs) (by_end r.end) ∙ stays_unexpected rs where
  -- so it does with the first record, by how that ended
  by_end : (end : End) → unexpected_noted end true ≡ true
  by_end (Judged Unexpected line) = refl
  by_end end = refl

-- if a record among others ended as unexpected, it is noted that one did
one_unexpected : (b : Bool) (earlier : List Record) (r : Record) (later : List Record) (line : List ℕ) → r.end ≡ Judged Unexpected line → any_unexpected b (earlier ++ r ∷ later) ≡ true
one_unexpected b [] r later line e = ap (λ (end : End). any_unexpected (unexpected_noted end b) later) e ∙ stays_unexpected later
one_unexpected b (x ∷ earlier) r later line e = one_unexpected (unexpected_noted x.end b) earlier r later line e

-- if it is noted that a record ended as unexpected, it was before these records, or it is noted of these alone
either_unexpected : (b : Bool) (rs : List Record) → any_unexpected b rs ≡ true → (b || any_unexpected false rs) ≡ true
either_unexpected true rs e = refl
either_unexpected false rs e = e

-- no command that is lost ends as unexpected
lost_as_expected : (reads : Reads) (utc : ℕ) (marks : List (Option Mark)) (ps : List (Pending Asked)) → any_unexpected false (records_of reads utc marks (map lost ps)) ≡ false
lost_as_expected reads utc [] ps = refl
lost_as_expected reads utc (mark ∷ marks) [] = refl
lost_as_expected reads utc (None ∷ marks) (p ∷ ps) = lost_as_expected reads utc marks ps
lost_as_expected reads utc (Some mark ∷ marks) (p ∷ ps) = lost_as_expected reads utc marks ps

-- nor does one that isn't sent
unsent_as_expected : (p : Progress) (m : Moment) (mark : Mark) (left : List Task) → any_unexpected false (first_unsent_record p m mark left) ≡ false
unsent_as_expected p m mark [] = refl
unsent_as_expected p m mark (task ∷ others) = unsent_along (λ (end : End). unexpected_noted end false ≡ false) refl refl refl p

-- One act.

-- the model `t` has the records `old`, and news; if one of these ended as unexpected, it is noted that a synchronization is called for
record AddsDoubt (old : List Record) (t : Model) : Type 0 where
  news : List Record
  added : t.records ≡ old ++ news
  doubt : any_unexpected false news ≡ true → t.progress.exchange.doubtful ≡ true

-- a line that is heard keeps it so
line_doubts : (old : List Record) (s : Model) (line : List ℕ) → AddsDoubt old s → AddsDoubt old (line_came s line)
line_doubts old s line a = record {
  news = a.news ++ line_news line s;
  added = ap (λ rs. rs ++ line_news line s) a.added ∙ append_assoc old a.news (line_news line s);
  doubt = λ one.
      let either = either_unexpected (any_unexpected false a.news) (line_news line s) (sym (unexpected-append false a.news (line_news line s)) ∙ one) in
      ap (λ (d : Bool). d || nat_lt 0 (line_busy line s))
      (noted (any_unexpected false a.news) s.progress.exchange.doubtful (calls_for_renewal s.client line) (any_unexpected false (line_news line s)) a.doubt either);
} where
  -- if one of two alternatives holds, so does one of three, the first of which follows from that of the two
  noted : (a b call new : Bool) → (a ≡ true → b ≡ true) → (a || new) ≡ true → ((b || call) || new) ≡ true
  noted true b call new on e = ap (λ (x : Bool). (x || call) || new) (on refl)
  noted false b call true on e = or_true (b || call) where
    -- a test is true if its last alternative is
    or_true : (x : Bool) → (x || true) ≡ true
    or_true true = refl
    or_true false = refl
  noted false b call false on e = cc

-- so does a piece
came_doubts : (old : List Record) (ready : Bool) (word piece : List ℕ) (s : Model) → s.records ≡ old → AddsDoubt old (after_piece ready word piece s)
came_doubts old ready word piece s same =
    came_along (AddsDoubt old) (line_doubts old) ready word piece s
    (record { news = []; added = same ∙ sym (append-nil old); doubt = λ e. cc })
    (record { news = []; added = same ∙ sym (append-nil old); doubt = λ e. cc })
    (record { news = []; added = same ∙ sym (append-nil old); doubt = λ e. cc })

-- and the loss of what is outstanding
losing_doubts : (old : List Record) (all : Bool) (s : Model) → AddsDoubt old s → AddsDoubt old (losing all s)
losing_doubts old false s a = a
losing_doubts old true s a =
    let new = records_of s.reads s.progress.moment.utc s.marks (map lost s.client.waiting) in
    record {
      news = a.news ++ new;
      added = ap (λ rs. rs ++ new) a.added ∙ append_assoc old a.news new;
      doubt = λ one.
          a.doubt (first (any_unexpected false a.news) (any_unexpected false new) (lost_as_expected s.reads s.progress.moment.utc s.marks s.client.waiting)
          (either_unexpected (any_unexpected false a.news) new (sym (unexpected-append false a.news new) ∙ one)));
    } where
      -- of two alternatives the first holds, if the other doesn't
      first : (a b : Bool) → b ≡ false → (a || b) ≡ true → a ≡ true
      first true b none e = refl
      first false b none e = sym none ∙ e

module _ (plan : Plan) (commands : List Task) where
  -- a model without news
  none_new : (s t : Model) → t.records ≡ s.records → AddsDoubt s.records t
  none_new s t same = record { news = []; added = same ∙ sym (append-nil s.records); doubt = λ e. cc }

  -- so does an act of each action
  moved_doubts : (o : Action) (s : Model) (act : Act) → AddsDoubt s.records (moved plan commands o s act)
  moved_doubts action.Skip s (Told m) = record {
    news = first_unsent_record s.progress m (mark_next plan commands s.progress) (commands_left commands s.progress);
    added = refl;
    doubt = λ one. absurd (both_ways (any_unexpected false (first_unsent_record s.progress m (mark_next plan commands s.progress) (commands_left commands s.progress)))
        (unsent_as_expected s.progress m (mark_next plan commands s.progress) (commands_left commands s.progress)) one);
  }
  moved_doubts action.Skip s act = none_new s (moved plan commands action.Skip s act) (append-nil s.records)
  moved_doubts (action.Read until) s (Gave bytes m) =
      let came = came_doubts s.records (is_heard s.progress.phase) s.progress.exchange.word bytes (with_moment m (with_progress (moment_noted m) s)) refl in
      record { news = came.news; added = came.added; doubt = came.doubt }
  moved_doubts (action.Read until) s act = none_new s (moved plan commands (action.Read until) s act) refl
  moved_doubts o s act = none_new s (moved plan commands o s act) (ap (λ (x : Model). x.records) (moved_changed plan commands o s act))

  -- so does an act with all that follows it
  after_doubts : (s : Model) (act : Act) → AddsDoubt s.records (after plan commands s act)
  after_doubts s act =
      let t = moved plan commands (action_at plan s) (with_progress turned s) act in
      losing_doubts s.records (loses_all t.progress) t (moved_doubts (action_at plan s) (with_progress turned s) act)

  module _ (scope : Scope) where
    -- an act that brings an unexpected answer leaves the station in doubt
    unexpected_doubts : (acts : List Act) (act : Act) → BringsUnexpected plan commands scope acts act → (after plan commands (state_after plan commands scope acts) act).progress.exchange.doubtful ≡ true
    unexpected_doubts acts act b =
        let s = state_after plan commands scope acts in
        let a = after_doubts s act in
        let w = b.written in
        let same : s.records ++ a.news ≡ s.records ++ (w.earlier ++ b.answer ∷ w.later) =
        sym a.added ∙ sym (ap (λ (t : Model). t.records) (after_all-append plan commands (opening plan scope) acts (act ∷ []))) ∙ w.written in
        a.doubt (ap (any_unexpected false) (append_cancel_left s.records a.news (w.earlier ++ b.answer ∷ w.later) same) ∙ one_unexpected false w.earlier b.answer w.later b.line b.unexpected)

-- no request of the client is sent in doubt
pub none_asked : (plan : Plan) (s : Model) (o : Action) → HoldsBefore plan s.progress (waiting_of s) o → IsAsking o → s.progress.exchange.doubtful ≡ true → ⊥
none_asked plan s action.Prepare needs asks doubt = both_ways s.progress.exchange.doubtful needs.3.2 doubt
none_asked plan s action.Send needs asks doubt = both_ways s.progress.exchange.doubtful needs.3.2 doubt
none_asked plan s action.Flush needs asks doubt = both_ways s.progress.exchange.doubtful needs.4.2 doubt
none_asked plan s o needs asks doubt = absurd asks

-- The laws.

-- the law: where a command of a cycle is sent, the answer of each command of the setup is as the text expects it
pub set_up_as_expected : TheSetUpIsAsExpected
set_up_as_expected plan commands scope acts runs sends place below =
    let p = none_before_the_set_up plan commands scope acts runs sends place below in
    let before = state_after plan commands scope p.before in
    record {
      prepared = p;
      of_its_place = ap (λ (d : Dispatch). d.place) p.own ∙ p.its_place;
      as_expected = (of_one plan commands scope (IsByExpectation plan commands scope acts) (state_after plan commands scope acts).records (before.records ++ p.earlier) p.answer p.later
          (p.written ∙ sym (append_assoc before.records p.earlier (p.answer ∷ p.later))) (as_expected plan commands scope acts runs)).0 p.well;
    }

-- the law: where a command is sent that goes on with a chain, the answer of the one before it is as the text expects it
pub chains_as_expected : ChainsAreAsExpected
chains_as_expected plan commands scope acts runs sends chained =
    let l = chain_kept plan commands scope acts runs sends chained in
    record {
      linked = l;
      as_expected = (of_one plan commands scope (IsByExpectation plan commands scope acts) (state_after plan commands scope acts).records l.earlier l.answer [] l.last
          (as_expected plan commands scope acts runs)).0 (ap is_well l.good.answered ∙ l.good.well);
    }

-- the law: after an unexpected answer the setup is sent anew, and until a synchronization no request is
pub renews_after_an_unexpected_answer : RenewsAfterAnUnexpectedAnswer
renews_after_an_unexpected_answer = record {
  set_up = λ plan commands scope earlier behind act runs brings.
      set_up_anew_after_a_doubt plan commands scope earlier behind act runs (λ begun still. unexpected_doubts plan commands scope earlier act brings);
  requests = λ plan commands scope earlier behind act runs brings asks up.
      let end = state_after plan commands scope (earlier ++ act ∷ behind) in
      let doubt = in_doubt_at_end plan commands scope earlier behind act runs (unexpected_doubts plan commands scope earlier act brings) up in
      none_asked plan end (action_at plan end) (action_for plan end.progress (waiting_of end)) asks doubt;
}
