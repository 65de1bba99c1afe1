-- Each act that records commands without sending them leaves less to be recorded. An act is one call on the link, with its result.
use Rattle.gc_station.proofs.Common.{◌≡◌, inl, inr, ℕ, zero, suc, ◌+◌, ◌-◌, ◌<◌, ◌≤◌, List, refl, sym, ap, subst, arith, Task, Act, Told, Untold, Model, opening, action_at, waiting_of, with_progress, cycle_length, moved, Performs, turned, HoldsBefore, state_after, acts_to_record, left_to_record, RecordsUnsent, RecordingEnds, IsListening, Plan, Action, Progress}
use Rattle.gc_station.proofs.Always.{progress_after_act}
use Rattle.gc_station.proofs.Closings.{runs_split}
use Rattle.gc_station.proofs.Counts.{KeepsCounts, ChangesCounts, moved_counts}
use Rattle.gc_station.proofs.Facts.{action_for}
use Rattle.gc_station.specs.declared.progress.Action.TheVariants as actions

-- with a cycle begun less is left to be recorded, also if all its commands are
less_begun : (count left left' : ℕ) → left' ≡ left - 1 → 0 < left → acts_to_record count left' + count < acts_to_record count left
less_begun count zero left' e some = absurd (omega (arith, some))
less_begun count (suc n) left' e some = let is : left' ≡ n = omega (arith, e) in subst (λ (k : ℕ). acts_to_record count k + count < suc count + acts_to_record count n) (sym is) (omega arith)

module _ (plan : Plan) (commands : List Task) where
  -- less is left to be recorded from p to q
  abbrev Less : (p q : Progress) → Type 0
  Less p q = left_to_record plan commands q < left_to_record plan commands p

  -- no more is left to be recorded from p to q
  abbrev NoMore : (p q : Progress) → Type 0
  NoMore p q = left_to_record plan commands q ≤ left_to_record plan commands p

  -- where the counts stay, as much is left
  same_left : (p q : Progress) → KeepsCounts p q → NoMore p q
  same_left p q k = let unsent = k.unsent in let left = ap (acts_to_record (cycle_length plan commands)) k.left in omega (arith, unsent, left)

  -- with a cycle begun, less is left, if one was left, and no command was unsent
  begun_left : (p q : Progress) → 0 < p.left → q.left ≡ p.left - 1 → q.unsent ≡ cycle_length plan commands → Less p q
  begun_left p q some left unsent = let less = less_begun (cycle_length plan commands) p.left q.left left some in omega (arith, less, unsent)

  -- with fewer commands unsent, no more is left, and less if some were
  fewer_left : (p q : Progress) → q.left ≡ p.left → q.unsent ≤ p.unsent → NoMore p q
  fewer_left p q left fewer = let same = ap (acts_to_record (cycle_length plan commands)) left in omega (arith, same, fewer)

  -- the same, where some were unsent
  less_left : (p q : Progress) → q.left ≡ p.left → q.unsent < p.unsent → Less p q
  less_left p q left fewer = let same = ap (acts_to_record (cycle_length plan commands)) left in omega (arith, same, fewer)

  -- an act of each action leaves no more to be recorded
  no_more : (o : Action) (p q : Progress) → (begins : o ≡ actions.Begin → 0 < p.left) → ChangesCounts (cycle_length plan commands) o p q → NoMore p q
  no_more actions.Begin p q begins (inl k) = same_left p q k
  no_more actions.Begin p q begins (inr k) = let less = begun_left p q (begins refl) k.left k.unsent in omega (arith, less)
  no_more actions.Send p q begins k = let unsent = k.unsent in fewer_left p q k.left (omega (arith, unsent))
  no_more actions.Skip p q begins (inl k) = same_left p q k
  no_more actions.Skip p q begins (inr k) = let unsent = k.unsent in fewer_left p q k.left (omega (arith, unsent))
  no_more actions.Pass p q begins (inl k) = same_left p q k
  no_more actions.Pass p q begins (inr k) = let unsent = k.unsent in fewer_left p q k.left (omega (arith, unsent))
  no_more o p q begins k = same_left p q k

  -- an act that records commands without sending them leaves less to be recorded, if it reads the clock
  leaves_less : (s : Model) (o : Action) (act : Act) → Performs commands s o act → HoldsBefore plan s.progress (waiting_of s) o → RecordsUnsent o → IsListening act
      → Less s.progress (moved plan commands o (with_progress turned s) act).progress
  leaves_less s actions.Begin (Told m) obeys needs records listens =
      begun_left s.progress (moved plan commands actions.Begin (with_progress turned s) (Told m)).progress needs.4 refl refl
  leaves_less s actions.Skip (Told m) obeys needs records listens =
      let here = needs.2 in less_left s.progress (moved plan commands actions.Skip (with_progress turned s) (Told m)).progress refl (omega (arith, here))
  leaves_less s actions.Pass (Told m) obeys needs records listens =
      let here = needs.2 in let more = needs.4 in less_left s.progress (moved plan commands actions.Pass (with_progress turned s) (Told m)).progress refl (omega (arith, here, more))
  leaves_less s actions.Begin Untold obeys needs records listens = cc
  leaves_less s actions.Skip Untold obeys needs records listens = cc
  leaves_less s actions.Pass Untold obeys needs records listens = cc
  leaves_less s actions.Begin act obeys needs records listens = absurd obeys
  leaves_less s actions.Skip act obeys needs records listens = absurd obeys
  leaves_less s actions.Pass act obeys needs records listens = absurd obeys
  leaves_less s o act obeys needs records listens = absurd records

-- the law: each act that records commands without sending them leaves less to be recorded, and none more
pub recording_ends : RecordingEnds
recording_ends plan commands scope earlier later act runs =
    let s = state_after plan commands scope earlier in
    let o = action_at plan s in
    let needs = action_for plan s.progress (waiting_of s) in
    let obeys = (runs_split plan commands (opening plan scope) earlier later act runs).1 in
    let there = progress_after_act plan commands scope earlier act in
    let t = moved plan commands o (with_progress turned s) act in (
      subst (λ (q : Progress). NoMore plan commands s.progress q) (sym there) (no_more plan commands o (turned s.progress) t.progress
          (λ is. (subst (λ (x : Action). HoldsBefore plan s.progress (waiting_of s) x) is needs).4) (moved_counts plan commands o (with_progress turned s) act)),
      λ records listens. subst (λ (q : Progress). Less plan commands s.progress q) (sym there) (leaves_less plan commands s o act obeys needs records listens),
    )
