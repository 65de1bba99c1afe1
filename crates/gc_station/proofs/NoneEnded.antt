-- While a station synchronizes, no request of its client is ended by a reply: the count of the requests after the last call of the
-- table that a reply ended (`behind`) is seven. An act is one call on the link, with its result.
use Rattle.gc_station.proofs.Common.{◌≡◌, ℕ, Bool, true, false, List, [], ◌∷◌, refl, sym, ap, ◌∙◌, both_ways, WINDOW, Task, is_none_left, one_more_in_window, Moment, Act, Told, Plan, Action, Progress, has_begun, Model, opening, action_at, waiting_of, is_heard, with_progress, with_rest, lines_completed, after_piece, moved, with_losses, after, Performs, Runs, turned, time_passed, HoldsBefore, state_after, Scope}
use Rattle.gc_station.proofs.Always.{always}
use Rattle.gc_station.proofs.Counts.{with_losses_progress}
use Rattle.gc_station.proofs.Facts.{action_for}
use Rattle.gc_station.proofs.Walk.{asked_along, quieted_along, closed_along, walk, piece_before}
use Rattle.gc_station.proofs.Words.{renews_only}
use Rattle.gc_station.specs.declared.progress.Action.TheVariants as action

-- no request of the client was ended by a reply, by the count of the progress p (`behind`)
abbrev pub NoneEnded : Progress → Type 0
NoneEnded p = p.exchange.behind ≡ WINDOW

-- it is so while the station synchronizes
abbrev pub NoneEndedBefore : Progress → Type 0
NoneEndedBefore p = has_begun p ≡ false → NoneEnded p

-- one request more leaves seven
one_more_of_seven : (b : ℕ) → b ≡ WINDOW → one_more_in_window b ≡ WINDOW
one_more_of_seven b e = ap one_more_in_window e

-- while the station synchronizes, a piece, heard or discarded, leaves it so
came_none : (heard : Bool) (word piece : List ℕ) (s : Model) → is_none_left word ≡ false → NoneEnded s.progress → NoneEnded (after_piece heard word piece s).progress
came_none true [] piece s begins e = cc
came_none true (asked ∷ others) piece s begins e = asked_along NoneEnded (λ q line e. e) s.progress (lines_completed s.rest piece) e
came_none false word piece s begins e = e

module _ (plan : Plan) (commands : List Task) where
  -- what is claimed of an act
  abbrev After : Act → Model → Type 0
  After act t = NoneEnded t.progress

  -- while the station synchronizes, an act leaves it so
  pub none_ended : (s : Model) (o : Action) (act : Act) → HoldsBefore plan s.progress (waiting_of s) o → Performs commands s o act → has_begun s.progress ≡ false → NoneEnded s.progress
      → NoneEnded (moved plan commands o (with_progress turned s) act).progress
  none_ended s action.Renew act is obeys begins e = absurd (both_ways (has_begun s.progress) begins is.1)
  none_ended s action.Begin act is obeys begins e = walk plan commands After action.Begin (with_progress turned s) act obeys (λ m. e, λ n. e)
  none_ended s action.Prepare act is obeys begins e = absurd (both_ways (has_begun s.progress) begins is.1)
  none_ended s action.Send act is obeys begins e = absurd (both_ways (has_begun s.progress) begins is.1)
  none_ended s action.Skip act is obeys begins e = walk plan commands After action.Skip (with_progress turned s) act obeys (λ m. e, λ n. e)
  none_ended s action.Flush act is obeys begins e = absurd (both_ways (has_begun s.progress) begins is.1)
  none_ended s action.Ask act is obeys begins e =
      let more = one_more_of_seven s.progress.exchange.behind e in walk plan commands After action.Ask (with_progress turned s) act obeys (λ m. more, λ n. more)
  none_ended s (action.Read until) act is obeys begins e =
      walk plan commands After (action.Read until) (with_progress turned s) act obeys (
        λ bytes m. came_none (is_heard s.progress.phase) s.progress.exchange.word bytes (piece_before m s) begins e,
        λ m. quieted_along NoneEnded plan s.progress.phase (time_passed until m (turned s.progress)) e e e,
        e,
        e,
        e,
      )
  none_ended s (action.Close why) act is obeys begins e =
      walk plan commands After (action.Close why) (with_progress turned s) act obeys
      (closed_along NoneEnded plan (waiting_of (with_rest [] (with_progress turned s))) why (turned s.progress) e e)
  none_ended s (action.Stop why) act is obeys begins e = absurd obeys
  none_ended s o act is obeys begins e = walk plan commands After o (with_progress turned s) act obeys (λ m. e, λ n. e)

  -- if the station resynchronizes, it is so
  none_ended_anew : (s : Model) (o : Action) (act : Act) (m : Moment) → o ≡ action.Renew → act ≡ Told m → NoneEnded (moved plan commands o (with_progress turned s) act).progress
  none_ended_anew s o act m is told =
      ap (λ (x : Action). (moved plan commands x (with_progress turned s) act).progress.exchange.behind) is
      ∙ ap (λ (x : Act). (moved plan commands action.Renew (with_progress turned s) x).progress.exchange.behind) told

  -- each act of a run keeps it so while the station synchronizes
  pub none_ended_after : (s : Model) (act : Act) → Performs commands s (action_at plan s) act → NoneEndedBefore s.progress → NoneEndedBefore (after plan commands s act).progress
  none_ended_after s act obeys h begins = by_begun (has_begun s.progress) refl where
    -- the model after the act, before what is outstanding is lost
    t : Model
    t = moved plan commands (action_at plan s) (with_progress turned s) act

    -- the loss of what is outstanding changes no progress
    same : (with_losses t).progress ≡ t.progress
    same = with_losses_progress t

    -- the lemma above, by whether the station had synchronized before
    by_begun : (b : Bool) → has_begun s.progress ≡ b → NoneEnded (with_losses t).progress
    by_begun true begun =
        let it = renews_only plan commands s (action_at plan s) act obeys begun (sym (ap has_begun same) ∙ begins) in
        ap (λ (p : Progress). p.exchange.behind) same ∙ none_ended_anew s (action_at plan s) act it.1 it.0 it.2
    by_begun false e = ap (λ (p : Progress). p.exchange.behind) same ∙ none_ended s (action_at plan s) act (action_for plan s.progress (waiting_of s)) obeys e (h e)

  -- so it is after each run
  pub none_ended_holds : (scope : Scope) (acts : List Act) → Runs plan commands (opening plan scope) acts → NoneEndedBefore (state_after plan commands scope acts).progress
  none_ended_holds scope acts runs =
      always plan commands (opening plan scope) (λ (done : List Act) (t : Model). NoneEndedBefore t.progress)
      (λ done act before obeys h. none_ended_after (state_after plan commands scope done) act obeys h) (λ e. refl) acts runs
