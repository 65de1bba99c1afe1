-- A session in the field: each settlement of a request of its caller's is its own, because the session sends such a request only near the
-- table. Sessions one after the other: no synchronization finds the word in flight, as long as few runs in a row are killed while they
-- synchronize.
use Rattle.gc_theorems.proofs.Common.{◌≡◌, ℕ, List, [], ◌∷◌, Option, sym, ◌∙◌, ap, subst, arith, AllByRecursion, Asked, the_word, Wanted, begun, course, WINDOW, KeptReply, OWN, settled_all, AreInTurn, left_among, steps_among, RequestsAreSentNearTheTable, SessionsAreTheirClients, all_on, all_at, Ends, UnderWay, killed_over, left_by_runs, events_over, placed_runs, IsAnInstrument, IsOwnUnlessLost}
use Rattle.gc_session.specs.Prelude.{opening}
use Rattle.gc_theorems.specs.Sessions.{AreSessionsInARow, AreSessionsOwn, EachInARowIsOwn, EachSessionIsOwn, IsOwnIfCallers, SessionRun}
use Rattle.gc_theorems.proofs.BegunRuns.{IsShortOfTheWord, after_runs, short_if_rising, short_lacks_the_word}
use Rattle.gc_theorems.proofs.Owning.{own_if_safe}
use Rattle.gc_theorems.proofs.Parting.{each_is_own_if_safe}
use Rattle.gc_theorems.proofs.SentNear.{IsSafeBut, runs_safe}

module _ {State : Type 0} (ends : Ends State) (Good : State → Type 0) (kept : State → Option KeptReply) (is : IsAnInstrument ends Good kept) (clients : SessionsAreTheirClients)
    (near : RequestsAreSentNearTheTable) where
  -- each settlement of a request of a session's caller is its own
  pub session_is_own : EachSessionIsOwn ends Good kept
  session_is_own u lines may x over =
      let events = events_over WINDOW ends u x.runs in
      let ps = placed_runs WINDOW ends u x.runs in
      let c = clients x.settings x.calls in
      let all = each_is_own_if_safe ends Good kept is WINDOW (omega arith) u lines may x.runs over.possible (subst (λ l. AreInTurn the_word l) over.events c.turns) in
      let settled : settled_all x.calls (opening x.settings) ≡ (course WINDOW begun (steps_among events)).settlements =
      c.settled ∙ ap (λ l. (course WINDOW begun (steps_among l)).settlements) over.events in
      let safe = runs_safe ends Good kept is OWN x.runs u over.possible all.each
      (λ front later target call deadline e other. near x.settings x.calls front later target call deadline (over.events ∙ e) other) in
      record {
        settled = settled ∙ all.settled;
        client = c.client ∙ ap (λ l. (course WINDOW begun (steps_among l)).client) over.events ∙ all.client;
        left = c.left ∙ ap (λ l. left_among the_word l) over.events ∙ all.left;
        own = all_on (IsOwnUnlessLost WINDOW ends Good kept ps) (IsOwnIfCallers ends Good kept ps) (settled_all x.calls (opening x.settings))
            (λ s own other. own_if_safe WINDOW ends Good kept ps s own
            (λ of. all_at (IsSafeBut ends Good kept is OWN) ps of.k of.placed safe of.of_runs of.begun of.m of.request of.commands of.sent
            (λ own_target. other (sym (ap (λ (a : Wanted Asked). a.target) of.asks) ∙ own_target))))
            (subst (λ l. AllByRecursion (IsOwnUnlessLost WINDOW ends Good kept ps) l) (sym settled) all.own);
        each = all.each;
      }

  -- Sessions in a row.

  -- where what is in flight before the first of sessions one after the other is `IsShortOfTheWord` for the n runs in a row that were killed
  -- before, each session is its own
  all_own : (xs : List (SessionRun State)) (n : ℕ) (u : UnderWay State) → IsShortOfTheWord Good n u → AreSessionsInARow ends Good kept n u xs → AreSessionsOwn ends Good kept u xs
  all_own [] n u short h = tt
  all_own (x ∷ xs) n u short h = (
    session_is_own u short.lines (short_lacks_the_word Good n u short) x h.0.0,
    all_own xs (killed_over WINDOW ends n u x.runs) (left_by_runs WINDOW ends u x.runs) (after_runs ends Good kept is WINDOW (omega arith) x.runs n u short h.0.0.possible h.0.1).1 h.1,
  )

  -- sessions in a row are their own
  pub in_a_row_own : EachInARowIsOwn ends Good kept
  in_a_row_own u lines row xs h = all_own xs 0 u (short_if_rising Good u lines row) h
