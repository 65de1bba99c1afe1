-- Each end of a connection takes a try at most, and only a read that settles a command gives tries back. `preparing` of a
-- progress is true if there is a setup, and since the connection was made and the station synchronized no cycle began or went
-- on. An act is one call on the link, with its result.
use Rattle.gc_station.proofs.Common.{◌≡◌, ◌⊎◌, inl, inr, ℕ, ◌+◌, ◌-◌, ◌<◌, ◌≤◌, Bool, true, false, not, List, [], ◌∷◌, if◌then◌else◌, nat_lt, refl, ap, arith, ◌&&◌, ltb-true, ltb-false, Task, Moment, Plan, Cause, Phase, Action, Progress, Until, Waiting, Act, Gave, has_begun, commands_in, is_spared, turned, moment_noted, time_passed, quieted, closed, Model, waiting_of, with_progress, with_moment, lines_completed, after_piece, is_heard, piece_at, Performs, moved, after, disconnections_in}
use Rattle.gc_station.proofs.Words.{was_synchronizing}
use Rattle.gc_station.proofs.Walk.{asked_along, came_along, closed_along, moved_changed, quieted_along, walk}
use Rattle.gc_station.specs.declared.progress.Action.TheVariants as actions

-- from the progress p to q, a read settled a command (`settled`), `preparing` is false, and all tries are left; or it settled
-- none (`none`), or `preparing` is true, and the tries stay
abbrev pub GivesTriesBack : (settled none : Type 0) → Plan → (p q : Progress) → Type 0
GivesTriesBack settled none plan p q =
    (settled × (q.preparing ≡ false) × (q.tries ≡ plan.retries)) ⊎ ((none ⊎ (q.preparing ≡ true)) × (q.tries ≡ p.tries))

-- what a piece does, from s to t: it gives no cycle and no command its turn; a station that synchronizes after it did so before
-- it; and `GivesTriesBack` says what becomes of the tries, where a command was settled if fewer are outstanding after it
pub record TriesAfterPiece (plan : Plan) (s t : Model) : Type 0 where
  pub left : t.progress.left ≡ s.progress.left
  pub unsent : t.progress.unsent ≡ s.progress.unsent
  pub begins : has_begun t.progress ≡ false → has_begun s.progress ≡ false
  pub tries : GivesTriesBack (commands_in t.marks < commands_in s.marks) (commands_in s.marks ≤ commands_in t.marks) plan s.progress t.progress

-- what an act does to the tries, from s to t: a read that gave bytes does what `TriesAfterPiece` says; any other act takes at
-- most one try for each connection that ends by it or couldn't be made
abbrev pub TakesTries : Plan → (s : Model) → Act → (t : Model) → Type 0
TakesTries plan s (Gave bytes m) t = TriesAfterPiece plan s t
TakesTries plan s act t = s.progress.tries ≤ t.progress.tries + disconnections_in (act ∷ [])

-- after a read either fewer commands are outstanding (b), `preparing` is false (`on`), and all tries are left; or as many or
-- more are outstanding, or `preparing` is true, and the tries stay
given_back : (b on : Bool) (after before retries new old : ℕ) → nat_lt after before ≡ b → new ≡ old
    → ((after < before) × (on ≡ false) × ((if b && not on then retries else new) ≡ retries)) ⊎ (((before ≤ after) ⊎ (on ≡ true)) × ((if b && not on then retries else new) ≡ old))
given_back true false after before retries new old e same = inl (ltb-true after before e, refl, refl)
given_back true true after before retries new old e same = inr (inr refl, same)
given_back false on after before retries new old e same = inr (inl (ltb-false after before e), same)

-- a read that gave bytes does to the tries what `TriesAfterPiece` says
gave_took : (plan : Plan) (until : Until) (s : Model) (bytes : List ℕ) (m : Moment) → TriesAfterPiece plan s (piece_at plan until bytes m s)
gave_took plan until s bytes m =
    let heard = is_heard s.progress.phase in
    let mid = with_moment m (with_progress (moment_noted m) s) in
    let is = moved_changed plan [] (actions.Read until) s (Gave bytes m) in
    let t = after_piece heard s.progress.exchange.word bytes mid in
    record {
      left = ap (λ (x : Model). x.progress.left) is;
      unsent = ap (λ (x : Model). x.progress.unsent) is;
      begins = λ e. was_synchronizing heard s.progress.exchange.word bytes mid refl e;
      tries = given_back (nat_lt (commands_in t.marks) (commands_in s.marks)) t.progress.preparing (commands_in t.marks) (commands_in s.marks) plan.retries t.progress.tries s.progress.tries refl
          (came_along (λ (x : Model). x.progress.tries ≡ s.progress.tries) (λ x line e. e) heard s.progress.exchange.word bytes mid refl
          (asked_along (λ (q : Progress). q.tries ≡ s.progress.tries) (λ q line e. e) mid.progress (lines_completed s.rest bytes) refl) refl);
    }

-- the end of a pause or a drain, if one ends at a read that gave nothing, doesn't change the tries
quieted_tries : (plan : Plan) (at : Phase) (p : Progress) → (quieted plan at p).tries ≡ p.tries
quieted_tries plan at p = quieted_along (λ (q : Progress). q.tries ≡ p.tries) plan at p refl refl refl

-- at most one try is taken, whether it is spared (b) or not
one_try_less : (b : Bool) (n : ℕ) → n ≤ (if b then n else n - 1) + 1
one_try_less true n = omega arith
one_try_less false n = omega arith

-- a close takes at most one try
close_took : (plan : Plan) (w : Waiting) (why : Cause) (p : Progress) → p.tries ≤ (closed plan w why p).tries + 1
close_took plan w why p =
    closed_along (λ (q : Progress). p.tries ≤ q.tries + 1) plan w why p (omega arith) (one_try_less (is_spared plan why p) p.tries)

-- an act of each action does to the tries what `TakesTries` says
pub took_moved : (plan : Plan) (commands : List Task) (next : Action) (s : Model) (act : Act) → Performs commands s next act
    → TakesTries plan (with_progress turned s) act (moved plan commands next (with_progress turned s) act)
took_moved plan commands (actions.Read until) s act o =
    walk plan commands (TakesTries plan (with_progress turned s)) (actions.Read until) (with_progress turned s) act o (
      λ bytes m. gave_took plan until (with_progress turned s) bytes m,
      λ m. let same =
          quieted_tries plan s.progress.phase (time_passed until m (turned s.progress)) in omega (arith, same),
      omega arith,
      omega arith,
      omega arith,
    )
took_moved plan commands (actions.Close why) s act o = walk plan commands (TakesTries plan (with_progress turned s)) (actions.Close why)
    (with_progress turned s) act o (close_took plan (waiting_of s) why (turned s.progress))
took_moved plan commands (actions.Stop why) s act o = absurd o
took_moved plan commands next s act o = walk plan commands (TakesTries plan (with_progress turned s)) next (with_progress turned s) act o (λ m. omega arith, λ n. omega arith)

-- what `TakesTries` says from the model with the act's turn taken, it says from the model before: a turn takes no try
pub took_with_turn : (plan : Plan) (s t : Model) (act : Act) → TakesTries plan (with_progress turned s) act t → TakesTries plan s act t
took_with_turn plan s t (Gave bytes m) h = record { left = h.left; unsent = h.unsent; begins = h.begins; tries = h.tries }
took_with_turn plan s t act h = h
