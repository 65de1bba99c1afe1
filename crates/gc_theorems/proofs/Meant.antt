-- Each act of a run means what its part says: steps of the synchronization until the station has synchronized, and then steps of
-- the client.
use Rattle.gc_theorems.proofs.Common.{◌≡◌, inl, inr, ℕ, Bool, true, false, if◌then◌else◌, List, [], ◌∷◌, map, refl, sym, ◌∙◌, ap, subst, Asked, ById, Task, Plan, Act, Put, Cut, Gave, Closed, has_begun, Part, sync_part, client_part, heard_steps, put_part, Model, action_at, is_heard, lines_completed, Performs, after, Runs, client_part_no_sync_steps, steps_none, sync_steps_gave, sync_steps_none, word_after_sync_steps, sending_of, sends_with_room, invariant_after, AreMeant, IsMeant}
use Rattle.gc_client.specs.Prelude.{Expire}
use Rattle.gc_links.specs.declared.link.Moment.{Moment}
use Rattle.gc_station.specs.Prelude.{Hears}
use Rattle.gc_station.proofs.Givens.{after_rest, rest_with}
use Rattle.gc_station.proofs.Invariant.{Invariant}
use Rattle.gc_station.proofs.Meant.{IsPutByClient, IsPutBySync, put_by_sync, put_by_client}
use Rattle.gc_theorems.specs.Asking.{IsNullOrLineFeed, IsHeardOrDiscarded, MeansSyncSteps}
use Rattle.gc_theorems.specs.Meaning.{IsPut, Means}

-- where bytes that are sent mean the part p to the station, they mean the part's steps to its client
put_means : (s : Model) (bytes : List ℕ) (p : Part) → IsPutByClient s bytes p → IsPut s.client bytes p.steps
put_means s bytes p (inl e) = inl (e.0, ap (λ (x : Part). x.steps) e.1)
put_means s bytes p (inr x) =
    inr (record {
      target = x.target;
      call = x.call;
      deadline = x.deadline;
      sending = sending_of s.client x.target x.call x.deadline;
      taken = sends_with_room s.client x.target x.call x.deadline x.room;
      text = x.text;
      step = ap (λ (y : Part). y.steps) x.part;
    })

-- what a piece of bytes that came means to the client: the moment, and its lines if it is heard (`h`); the moment alone if it
-- is discarded. `rest` and `behind` are the bytes since the last line feed, before the piece and after it
gave_means : (client : ById Asked) (h : Bool) (rest behind piece : List ℕ) (m : Moment) → behind ≡ rest_with h (Gave piece m) rest
    → Means client rest (Gave piece m) (Expire m.elapsed ∷ heard_steps h rest piece) behind
gave_means client true rest behind piece m e = inl (record { lines = refl; rest = e })
gave_means client false rest behind piece m e = inr (record { lines = refl; rest = e })

-- what a piece of bytes that came means while a station synchronizes: its lines if it is heard (`h`); nothing if it is
-- discarded. `rest` and `behind` are as in `gave_means`
gave_means_sync_steps : (h : Bool) (rest behind piece : List ℕ) (m : Moment) → behind ≡ rest_with h (Gave piece m) rest
    → IsHeardOrDiscarded rest piece (if h then map Hears (lines_completed rest piece) else []) behind
gave_means_sync_steps true rest behind piece m e = inl (refl, e)
gave_means_sync_steps false rest behind piece m e = inr (refl, e)

-- where bytes that are sent while the station synchronizes mean the part p to it, they mean p's steps of the synchronization
put_means_sync_steps : (s : Model) (bytes : List ℕ) (p : Part) → IsPutBySync s bytes p → IsNullOrLineFeed s.progress.exchange.word bytes p.sync_steps
put_means_sync_steps s bytes p (inl e) = inl (e.0, ap (λ (x : Part). x.sync_steps) e.1)
put_means_sync_steps s bytes p (inr e) = inr (e.0, ap (λ (x : Part). x.sync_steps) e.1)

-- this act brings no bytes, and doesn't close the connection
abbrev LeavesRest : Act → Type 0
LeavesRest (Gave piece m) = ⊥
LeavesRest Closed = ⊥
LeavesRest act = Unit {0}

-- an act of `LeavesRest` leaves the bytes since the last line feed as they were
rest_stays : (h : Bool) (rest : List ℕ) (act : Act) → LeavesRest act → rest_with h act rest ≡ rest
rest_stays h rest (Gave piece m) leaves = absurd leaves
rest_stays h rest Closed leaves = absurd leaves
rest_stays true rest act leaves = refl
rest_stays false rest act leaves = refl

-- a close forgets the bytes since the last line feed
close_forgets : (h : Bool) (rest : List ℕ) → rest_with h Closed rest ≡ []
close_forgets true rest = refl
close_forgets false rest = refl

module _ (plan : Plan) (commands : List Task) where
  -- an act of a run that brings no bytes and does not close leaves the bytes since the last line feed as they were
  same_rest : (s : Model) (act : Act) → Performs commands s (action_at plan s) act → LeavesRest act → (after plan commands s act).rest ≡ s.rest
  same_rest s act obeys leaves = after_rest plan commands s act obeys ∙ rest_stays (is_heard s.progress.phase) s.rest act leaves

  -- a close of a run forgets the bytes since the last line feed
  no_rest : (s : Model) → Performs commands s (action_at plan s) Closed → (after plan commands s Closed).rest ≡ []
  no_rest s obeys = after_rest plan commands s Closed obeys ∙ close_forgets (is_heard s.progress.phase) s.rest

  -- where the `Invariant` holds and the station has synchronized, an act that it performs means the steps of its part to its
  -- client
  act_means : (s : Model) (act : Act) → Invariant plan commands s → has_begun s.progress ≡ true → Performs commands s (action_at plan s) act
      → Means s.client s.rest act (client_part plan commands s (action_at plan s) act).steps (after plan commands s act).rest
  act_means s (Gave piece m) fine begun obeys = gave_means s.client (is_heard s.progress.phase) s.rest (after plan commands s (Gave piece m)).rest piece m
      (after_rest plan commands s (Gave piece m) obeys)
  act_means s (Put bytes) fine begun obeys = (
    put_means s bytes (put_part plan commands s (action_at plan s))
        (put_by_client plan commands s (Put bytes) bytes fine obeys refl begun),
    same_rest s (Put bytes) obeys tt,
  )
  act_means s (Cut bytes count) fine begun obeys = (
    put_means s bytes (put_part plan commands s (action_at plan s))
        (put_by_client plan commands s (Cut bytes count) bytes fine obeys refl begun),
    same_rest s (Cut bytes count) obeys tt,
  )
  act_means s Closed fine begun obeys = (refl, no_rest s obeys)
  act_means s act fine begun obeys = (refl, same_rest s act obeys tt)

  -- while a station synchronizes, an act that it performs means the steps of its part (`MeansSyncSteps`)
  sync_steps_mean : (s : Model) (act : Act) → has_begun s.progress ≡ false → Performs commands s (action_at plan s) act
      → MeansSyncSteps s.progress.exchange.word s.rest act (sync_part s (action_at plan s) act).sync_steps (after plan commands s act).rest
  sync_steps_mean s (Gave piece m) begins obeys =
      subst (λ steps. IsHeardOrDiscarded s.rest piece steps (after plan commands s (Gave piece m)).rest) (sym (sync_steps_gave commands s (action_at plan s) piece m obeys))
      (gave_means_sync_steps (is_heard s.progress.phase) s.rest (after plan commands s (Gave piece m)).rest piece m (after_rest plan commands s (Gave piece m) obeys))
  sync_steps_mean s (Put bytes) begins obeys = (
    put_means_sync_steps s bytes (sync_part s (action_at plan s) (Put bytes))
        (put_by_sync plan commands s (Put bytes) bytes obeys refl begins),
    same_rest s (Put bytes) obeys tt,
  )
  sync_steps_mean s (Cut bytes count) begins obeys = (
    put_means_sync_steps s bytes (sync_part s (action_at plan s) (Cut bytes count))
        (put_by_sync plan commands s (Cut bytes count) bytes obeys refl begins),
    same_rest s (Cut bytes count) obeys tt,
  )
  sync_steps_mean s Closed begins obeys = (sync_steps_none s (action_at plan s) Closed tt, no_rest s obeys)
  sync_steps_mean s act begins obeys = (sync_steps_none s (action_at plan s) act tt, same_rest s act obeys tt)

  -- where the `Invariant` holds, an act that the station performs means its part, whether the station has synchronized (`b`) or
  -- not
  pub is_meant : (s : Model) (act : Act) (b : Bool) → has_begun s.progress ≡ b → Invariant plan commands s → Performs commands s (action_at plan s) act
      → IsMeant b s act (if b then client_part plan commands s (action_at plan s) act else sync_part s (action_at plan s) act) (after plan commands s act)
  is_meant s act true e fine obeys = (client_part_no_sync_steps plan commands s (action_at plan s) act, act_means s act fine e obeys)
  is_meant s act false e fine obeys = (steps_none s (action_at plan s) act, sync_steps_mean s act e obeys, word_after_sync_steps plan commands s act obeys e)

  -- from a model of which the `Invariant` holds, each act of a run means its part
  pub are_meant : (s : Model) (acts : List Act) → Invariant plan commands s → Runs plan commands s acts → AreMeant plan commands s acts
  are_meant s [] fine runs = tt
  are_meant s (act ∷ acts) fine runs = (is_meant s act (has_begun s.progress) refl fine runs.0, are_meant (after plan commands s act) acts (invariant_after plan commands s act fine) runs.1)
