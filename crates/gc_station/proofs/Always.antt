-- Facts of every run: what holds at the start, and is kept by each act of a run, holds after a whole run. An act is one call on
-- the link, with its result.
use Rattle.gc_station.proofs.Common.{◌≡◌, List, [], ◌∷◌, ◌++◌, sym, ap, ◌∙◌, subst, Task, Plan, Progress, Act, turned, state_after, Scope, Model, opening, action_at, with_progress, Performs, moved, after, after_all, Runs}
use Rattle.gc_station.proofs.Counts.{with_losses_progress}
use Rattle.gc_station.proofs.Going.{after_all-append}

module _ (plan : Plan) (commands : List Task) where
  -- the act performs the action that is next after the acts `done`, made from the model s on
  abbrev pub PerformsNext : Model → (done : List Act) → Act → Type 0
  PerformsNext s done act = Performs commands (after_all plan commands s done) (action_at plan (after_all plan commands s done)) act

  -- the model after the acts `done`, made from the model s on, and one more, before what is outstanding is lost
  abbrev pub moved_next : Model → (done : List Act) → Act → Model
  moved_next s done act = let t = after_all plan commands s done in moved plan commands (action_at plan t) (with_progress turned t) act

  -- a fact P of the acts so far, and of the model after them, holds after each run from s on, if it holds at s, and each act of a
  -- run keeps it
  pub always : (s : Model) (P : List Act → Model → Type 0)
      → ((done : List Act) (act : Act) → Runs plan commands s done → PerformsNext s done act → P done (after_all plan commands s done)
      → P (done ++ act ∷ []) (after plan commands (after_all plan commands s done) act))
      → P [] s → (acts : List Act) → Runs plan commands s acts → P acts (after_all plan commands s acts)
  always s P step start [] runs = start
  always s P step start (act ∷ acts) runs =
      always (after plan commands s act) (λ (done : List Act) (t : Model). P (act ∷ done) t)
      (λ done next runs' o p. step (act ∷ done) next (runs.0, runs') o p) (step [] act tt runs.0 start) acts runs.1

  -- a fact P of the progress, and of the acts so far, holds after each run from s on, if it holds at s, and each act of a run
  -- keeps it
  pub always_of_progress : (s : Model) (P : Progress → List Act → Type 0)
      → ((done : List Act) (act : Act) → Runs plan commands s done → PerformsNext s done act → P (after_all plan commands s done).progress done
      → P (moved_next s done act).progress (done ++ act ∷ []))
      → P s.progress [] → (acts : List Act) → Runs plan commands s acts → P (after_all plan commands s acts).progress acts
  always_of_progress s P step start acts runs = always s (λ (done : List Act) (t : Model). P t.progress done) progress_kept start acts runs where
    -- each act keeps P of the model's progress: the loss of what is outstanding, at the end of an act, changes no progress
    progress_kept : (done : List Act) (act : Act) → Runs plan commands s done → PerformsNext s done act → P (after_all plan commands s done).progress done
        → P (after plan commands (after_all plan commands s done) act).progress (done ++ act ∷ [])
    progress_kept done act runs o p = subst (λ (q : Progress). P q (done ++ act ∷ [])) (sym (with_losses_progress (moved_next s done act))) (step done act runs o p)

-- the progress after one act more is that which `moved` gives once the turn is taken: the loss of what is outstanding, at the end
-- of the act, changes no progress
pub progress_after_act : (plan : Plan) (commands : List Task) (scope : Scope) (done : List Act) (act : Act)
    → (state_after plan commands scope (done ++ act ∷ [])).progress ≡ (moved_next plan commands (opening plan scope) done act).progress
progress_after_act plan commands scope done act =
    ap (λ (x : Model). x.progress) (after_all-append plan commands (opening plan scope) done (act ∷ [])) ∙ with_losses_progress (moved_next plan commands (opening plan scope) done act)
