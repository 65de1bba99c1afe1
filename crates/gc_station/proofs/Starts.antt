-- Once the station heard a sign-on, or anything else left it in doubt, no command of a cycle is sent before the setup was sent anew, and
-- answered well. The doubt is noted until the station resynchronizes, and while it is nothing is sent. An act is one call on the link, with its result.
use Rattle.gc_station.proofs.Common.{◌≡◌, inl, inr, ℕ, ◌||◌, ◌<◌, Bool, true, false, List, [], ◌∷◌, ◌++◌, map, refl, sym, ap, ◌∙◌, subst, append_assoc, if◌then◌else◌, list_any, both_ways, Asked, Hear, Expire, ById, is_sign_on, Task, raises_doubt, client_stepped, Act, Gave, Plan, Send, Action, has_begun, Model, opening, action_at, waiting_of, is_heard, lines_completed, with_progress, Performs, moved, after, after_all, Runs, client_part, turned, HoldsBefore, state_after, Scope, StaysUp, IsPrepared}
use Rattle.gc_station.specs.Starts.{BringsSignOn, IsPreparedBehind, SetsUpAnewAfterASignOn}
use Rattle.gc_station.proofs.Counts.{with_losses_progress}
use Rattle.gc_station.proofs.Facts.{action_for}
use Rattle.gc_station.proofs.Going.{after_all-append, runs_behind}
use Rattle.gc_station.proofs.HoldingBack.{Noted, noted_in, noted_at, noted_by, acts_noted, doubt_stays}
use Rattle.gc_station.proofs.Prepared.{none_before_the_set_up}
use Rattle.gc_station.proofs.SentWell.{Splits, split}

-- a test is true if the last of its three alternatives is
last_of_three : (a b : Bool) → (a || (b || true)) ≡ true
last_of_three true b = refl
last_of_three false true = refl
last_of_three false false = refl

-- if one of these lines has a sign-on in it, that is noted once they were heard
sign_on_noted : (c : ById Asked) (n : Noted) (lines : List (List ℕ)) → list_any is_sign_on lines ≡ true → (noted_by c n (map Hear lines)).doubtful ≡ true
sign_on_noted c n [] some = cc
sign_on_noted c n (line ∷ others) some =
    by_test (is_sign_on line) refl (λ more. sign_on_noted (client_stepped c (Hear line)) (noted_at c n (Hear line)) others more) where
      -- the lemma above, by whether the first line has one; `behind` is the lemma of the other lines
      by_test : (b : Bool) → is_sign_on line ≡ b
          → (list_any is_sign_on others ≡ true → (noted_by (client_stepped c (Hear line)) (noted_at c n (Hear line)) (map Hear others)).doubtful ≡ true)
          → (noted_by c n (map Hear (line ∷ others))).doubtful ≡ true
      by_test true is behind =
          doubt_stays (client_stepped c (Hear line)) (noted_at c n (Hear line)) (map Hear others)
          (ap (λ (b : Bool). n.doubtful || (raises_doubt c line || b)) is ∙ last_of_three n.doubtful (raises_doubt c line))
      by_test false is behind = behind (sym (ap (λ (b : Bool). b || list_any is_sign_on others) is) ∙ some)

module _ (plan : Plan) (commands : List Task) where
  -- the station has synchronized, and it is noted that a line called for another synchronization
  abbrev IsInDoubt : Model → Type 0
  IsInDoubt s = (has_begun s.progress ≡ true) × (s.progress.exchange.doubtful ≡ true)

  -- an act of a run notes a doubt that the steps of its part note, if the station had synchronized before it and has after it
  pub noted_after : (s : Model) (act : Act) → Performs commands s (action_at plan s) act → has_begun s.progress ≡ true → has_begun (after plan commands s act).progress ≡ true
      → (noted_by s.client (noted_in s.progress) (client_part plan commands s (action_at plan s) act).steps).doubtful ≡ true → (after plan commands s act).progress.exchange.doubtful ≡ true
  noted_after s act performs begun still doubt =
      let t = moved plan commands (action_at plan s) (with_progress turned s) act in
      let same = with_losses_progress t in
      ap (λ p. p.exchange.doubtful) same
      ∙ (acts_noted plan commands s (action_at plan s) act (action_for plan s.progress (waiting_of s)) performs begun (sym (ap has_begun same) ∙ still)).1 doubt

  -- while no connection is closed, and the station doesn't resynchronize, a doubt stays
  stays_in_doubt : (s : Model) (acts : List Act) → Runs plan commands s acts → StaysUp plan commands s acts → IsInDoubt s → (after_all plan commands s acts).progress.exchange.doubtful ≡ true
  stays_in_doubt s [] runs up doubt = doubt.1
  stays_in_doubt s (act ∷ acts) runs up doubt =
      stays_in_doubt (after plan commands s act) acts runs.1 up.2 (
        up.1,
        noted_after s act runs.0 doubt.0 up.1 (doubt_stays s.client (noted_in s.progress) (client_part plan commands s (action_at plan s) act).steps doubt.1),
      )

  -- an act that brings a sign-on leaves the station in doubt
  doubt_begins : (s : Model) (act : Act) → Performs commands s (action_at plan s) act → has_begun s.progress ≡ true → has_begun (after plan commands s act).progress ≡ true
      → BringsSignOn s act → (after plan commands s act).progress.exchange.doubtful ≡ true
  doubt_begins s (Gave piece m) performs begun still brings = noted_after s (Gave piece m) performs begun still (by_phase (is_heard s.progress.phase) refl) where
    -- the lemma above, by whether lines are heard in the phase
    by_phase : (h : Bool) → is_heard s.progress.phase ≡ h
        → (noted_by s.client (noted_in s.progress) (client_part plan commands s (action_at plan s) (Gave piece m)).steps).doubtful ≡ true
    by_phase true is =
        rw is (sign_on_noted (client_stepped s.client (Expire m.elapsed)) (noted_in s.progress) (lines_completed s.rest piece)
        (sym (ap (λ (b : Bool). list_any is_sign_on (if b then lines_completed s.rest piece else [])) is) ∙ brings))
    by_phase false is = let none : false ≡ true = sym (ap (λ (b : Bool). list_any is_sign_on (if b then lines_completed s.rest piece else [])) is) ∙ brings in cc
  doubt_begins s act performs begun still brings = cc

  -- the acts `ys` after the first ones (`xs`) stay up from the model after these on, which has synchronized if s has
  up_behind : (s : Model) (xs ys : List Act) → StaysUp plan commands s (xs ++ ys) → has_begun s.progress ≡ true
      → StaysUp plan commands (after_all plan commands s xs) ys × (has_begun (after_all plan commands s xs).progress ≡ true)
  up_behind s [] ys up begun = (up, begun)
  up_behind s (x ∷ xs) ys up begun = up_behind (after plan commands s x) xs ys up.2 up.1

module _ (plan : Plan) (commands : List Task) (scope : Scope) (earlier behind : List Act) (start : Act) (runs : Runs plan commands (opening plan scope) (earlier ++ start ∷ behind)) where
  -- the model after these acts
  abbrev state : List Act → Model
  state acts = state_after plan commands scope acts

  -- the act leaves the station in doubt, if it had synchronized before the act, and has after it
  abbrev pub LeavesInDoubt : Type 0
  LeavesInDoubt =
      has_begun (state earlier).progress ≡ true → has_begun (after plan commands (state earlier) start).progress ≡ true → (after plan commands (state earlier) start).progress.exchange.doubtful ≡ true

  -- the run from the act on
  run : Runs plan commands (state earlier) (start ∷ behind)
  run = runs_behind plan commands (opening plan scope) earlier (start ∷ behind) runs

  -- the station is in doubt at the end, if it is after the act, and no connection was closed, and the station didn't resynchronize, since
  -- before the act
  pub in_doubt_at_end : (after plan commands (state earlier) start).progress.exchange.doubtful ≡ true → StaysUp plan commands (state earlier) (start ∷ behind)
      → (state (earlier ++ start ∷ behind)).progress.exchange.doubtful ≡ true
  in_doubt_at_end doubt up =
      ap (λ (t : Model). t.progress.exchange.doubtful) (after_all-append plan commands (opening plan scope) earlier (start ∷ behind))
      ∙ stays_in_doubt plan commands (after plan commands (state earlier) start) behind run.1 up.2 (up.1, doubt)

  -- a command of a cycle is sent only once each command of the setup was sent after such an act
  pub set_up_anew_after_a_doubt : LeavesInDoubt → action_at plan (state (earlier ++ start ∷ behind)) ≡ Send → (place : ℕ) → place < plan.setup
      → IsPreparedBehind plan commands scope (earlier ++ start ∷ []) (earlier ++ start ∷ behind) place
  set_up_anew_after_a_doubt leaves sends place below = by_case (split p.before (p.request ∷ p.behind) earlier start behind (sym p.order)) where
    -- how the command of the setup was prepared
    p : IsPrepared plan commands scope (earlier ++ start ∷ behind) place
    p = none_before_the_set_up plan commands scope (earlier ++ start ∷ behind) runs sends place below

    -- its request is sent after the act, since otherwise the station would be in doubt
    by_case : Splits p.before (p.request ∷ p.behind) earlier start behind → IsPreparedBehind plan commands scope (earlier ++ start ∷ []) (earlier ++ start ∷ behind) place
    by_case (inl (mid, is)) = record { prepared = p; between = mid; order = is ∙ sym (append_assoc earlier (start ∷ []) mid) }
    by_case (inr (rest, is, others)) =
        let old = state p.before in
        let s = state earlier in
        let end = state (earlier ++ start ∷ behind) in
        let begun = (subst (λ (o : Action). HoldsBefore plan old.progress (waiting_of old) o) p.sends (action_for plan old.progress (waiting_of old))).1 in
        let both = up_behind plan commands old rest (start ∷ behind) (subst (StaysUp plan commands old) others p.stays) begun in
        let here : s ≡ after_all plan commands old rest = ap state is ∙ after_all-append plan commands (opening plan scope) p.before rest in
        let up = subst (λ (t : Model). StaysUp plan commands t (start ∷ behind)) (sym here) both.0 in
        let was : has_begun s.progress ≡ true = ap (λ (t : Model). has_begun t.progress) here ∙ both.1 in
        let needs = subst (λ (o : Action). HoldsBefore plan end.progress (waiting_of end) o) sends (action_for plan end.progress (waiting_of end)) in
        absurd (both_ways end.progress.exchange.doubtful needs.3.2 (in_doubt_at_end (leaves was up.1) up))

-- the law: a command of a cycle is sent only once each command of the setup was sent after the sign-on
pub set_up_anew_after_a_sign_on : SetsUpAnewAfterASignOn
set_up_anew_after_a_sign_on plan commands scope earlier behind start runs brings =
    set_up_anew_after_a_doubt plan commands scope earlier behind start runs
    (λ begun still. doubt_begins plan commands (state_after plan commands scope earlier) start (run plan commands scope earlier behind start runs).0 begun still brings)
