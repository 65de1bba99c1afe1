-- What an act leaves of a station's word, the ids of its synchronization that aren't answered: what the lines that the act
-- brings leave, unless the station resynchronizes. An act is one call on the link, with its result. A piece is the bytes that
-- one read gave.
use Rattle.gc_station.proofs.Common.{◌≡◌, ℕ, Bool, true, false, List, [], ◌∷◌, if◌then◌else◌, refl, sym, ap, ◌∙◌, subst, nil_from_length, both_ways, rest_behind, deadlines, Task, is_none_left, Moment, Act, Told, Plan, Action, Progress, lines_heard_at, unanswered_after, has_begun, turned, line_synchronizing, lines_synchronizing, time_passed, HoldsBefore, MayResynchronize, Model, waiting_of, with_progress, with_rest, lines_completed, is_heard, after_piece, Performs, moved}
use Rattle.gc_station.proofs.Invariant.{Invariant}
use Rattle.gc_station.proofs.Walk.{lines_along, quieted_along, closed_along, walk, piece_before}
use Rattle.gc_station.specs.declared.progress.Action.TheVariants as actions

-- if all ids are answered, lines leave none
pub left_none : (lines : List (List ℕ)) → unanswered_after [] lines ≡ []
left_none [] = refl
left_none (line ∷ others) = left_none others

-- lines that are heard while the station synchronizes leave of the ids what `unanswered_after` says
word_asked : (p : Progress) (lines : List (List ℕ)) → (lines_synchronizing p lines).exchange.word ≡ unanswered_after p.exchange.word lines
word_asked p [] = refl
word_asked p (line ∷ others) = word_asked (line_synchronizing p line) others

-- a piece leaves of the ids what its lines leave if it is heard, and all if it is discarded
word_came : (heard : Bool) (word piece : List ℕ) (s : Model) → s.progress.exchange.word ≡ word
    → (after_piece heard word piece s).progress.exchange.word ≡ unanswered_after word (if heard then lines_completed s.rest piece else [])
word_came true [] piece s e =
    lines_along (λ (t : Model). t.progress.exchange.word ≡ []) (λ t line same. same) (with_rest (rest_behind s.rest piece) s) (lines_completed s.rest piece) e ∙ sym (left_none (lines_completed s.rest piece))
word_came true (asked ∷ others) piece s e = word_asked s.progress (lines_completed s.rest piece) ∙ ap (λ (w : List ℕ). unanswered_after w (lines_completed s.rest piece)) e
word_came false word piece s e = e

-- if a station synchronizes after a piece, it was synchronizing before it
pub was_synchronizing : (heard : Bool) (word piece : List ℕ) (s : Model) → s.progress.exchange.word ≡ word → has_begun (after_piece heard word piece s).progress ≡ false → is_none_left word ≡ false
was_synchronizing h [] piece s e f =
    let lines = if h then lines_completed s.rest piece else [] in absurd (both_ways (has_begun (after_piece h [] piece s).progress) f (ap is_none_left (word_came h [] piece s e ∙ left_none lines)))
was_synchronizing h (asked ∷ others) piece s e f = refl

module _ (plan : Plan) (commands : List Task) where
  -- from the model s to t an act leaves of the ids what its lines leave
  abbrev pub LeavesIds : Model → Act → Model → Type 0
  LeavesIds s act t = t.progress.exchange.word ≡ unanswered_after s.progress.exchange.word (lines_heard_at s act)

  -- an act of each action but `Renew` leaves of the ids what its lines leave (`LeavesIds`)
  pub word_moved : (s : Model) (o : Action) (act : Act) → Performs commands s o act → (o ≡ actions.Renew → ⊥)
      → LeavesIds s act (moved plan commands o (with_progress turned s) act)
  word_moved s actions.Renew act obeys other = absurd (other refl)
  word_moved s (actions.Read until) act obeys other =
      walk plan commands (LeavesIds s) (actions.Read until) (with_progress turned s) act obeys (
        λ bytes m. word_came (is_heard s.progress.phase) s.progress.exchange.word bytes (piece_before m s) refl,
        λ m. quieted_along (λ (q : Progress). q.exchange.word ≡ s.progress.exchange.word) plan s.progress.phase (time_passed until m (turned s.progress)) refl refl refl,
        refl,
        refl,
        refl,
      )
  word_moved s (actions.Close why) act obeys other =
      walk plan commands (LeavesIds s) (actions.Close why) (with_progress turned s) act obeys
      (closed_along (λ (q : Progress). q.exchange.word ≡ s.progress.exchange.word) plan (waiting_of (with_rest [] (with_progress turned s))) why (turned s.progress) refl refl)
  word_moved s (actions.Stop why) act obeys other = absurd obeys
  word_moved s o act obeys other = walk plan commands (LeavesIds s) o (with_progress turned s) act obeys (λ m. refl, λ n. refl)

  -- an act of any action but `Renew` leaves a synchronized station synchronized
  pub begun_unless_renewed : (s : Model) (o : Action) (act : Act) → Performs commands s o act → (o ≡ actions.Renew → ⊥) → has_begun s.progress ≡ true
      → has_begun (moved plan commands o (with_progress turned s) act).progress ≡ true
  begun_unless_renewed s o act obeys other begun = by_word s.progress.exchange.word refl begun where
    -- the lemma above, by the word: no id is left
    by_word : (word : List ℕ) → s.progress.exchange.word ≡ word → is_none_left word ≡ true → has_begun (moved plan commands o (with_progress turned s) act).progress ≡ true
    by_word [] e b = ap is_none_left (word_moved s o act obeys other ∙ ap (λ (w : List ℕ). unanswered_after w (lines_heard_at s act)) e ∙ left_none (lines_heard_at s act))
    by_word (asked ∷ others) e b = cc

  -- if a chain isn't broken after an act, the act leaves a synchronized station synchronized
  pub begun_kept : (s : Model) (o : Action) (act : Act) → Performs commands s o act → has_begun s.progress ≡ true → (moved plan commands o (with_progress turned s) act).progress.chain_unbroken ≡ true
      → has_begun (moved plan commands o (with_progress turned s) act).progress ≡ true
  begun_kept s actions.Renew (Told m) obeys begun whole = cc
  begun_kept s actions.Renew act obeys begun whole = begun
  begun_kept s o act obeys begun whole = begun_unless_renewed s o act obeys (λ e. cc) begun

  -- if a station that has synchronized hasn't after an act, the act reads a moment, and its action is to resynchronize (`Renew`)
  pub renews_only : (s : Model) (o : Action) (act : Act) → Performs commands s o act → has_begun s.progress ≡ true → has_begun (moved plan commands o (with_progress turned s) act).progress ≡ false
      → (o ≡ actions.Renew) × (m : Moment) × (act ≡ Told m)
  renews_only s actions.Renew (Told m) obeys begun begins = (refl, m, refl)
  renews_only s actions.Renew act obeys begun begins = absurd (both_ways (has_begun s.progress) begins begun)
  renews_only s o act obeys begun begins = absurd (both_ways (has_begun (moved plan commands o (with_progress turned s) act).progress) begins (begun_unless_renewed s o act obeys (λ e. cc) begun))

-- if `Invariant` holds, and `HoldsBefore` of the action, which is to resynchronize (`Renew`), it may (`MayResynchronize`), and all
-- requests that are outstanding have timed out
pub renews_needs : (plan : Plan) (commands : List Task) (s : Model) (o : Action) → Invariant plan commands s → o ≡ actions.Renew
    → HoldsBefore plan s.progress (waiting_of s) o → MayResynchronize plan s × (deadlines s.client.waiting ≡ [])
renews_needs plan commands s o fine is needs =
    let it = subst (λ (x : Action). HoldsBefore plan s.progress (waiting_of s) x) is needs in
    (it.3, nil_from_length (deadlines s.client.waiting) it.2)
