-- A run on the way: what was done so far (`Went`), and one act more. An act is one call on the link, with its result. At the
-- start the link had recorded `told` and the book had taken `taken`, by now `told'` and `taken'`, and later those with more
-- primes; each is `None` if it isn't known. `text` is how a record is written.
use Rattle.gc_station.proofs.Common.{◌≡◌, ℕ, ◌<◌, ◌≤◌, List, [], ◌∷◌, ◌++◌, Option, Some, None, Result, Ok, Err, refl, sym, ap, ◌∙◌, subst, append-nil, Appends, Keeps, Appends-kept, Appends-nil, Keeps-refl, Task, Plan, Cause, Action, Stop, Progress, Station, Act, Closed, AddsActs, turned, loses_all, Record, texts_of, state_after, FailedAtRecord, FailedAtSync, Model, opening, action_at, Performs, after, after_all, moved, with_losses, stepped, Runs, with_progress, cycle_length, waiting_of_station, Refines, Makes, Breaks, OnCall, as_seen, MakesMove, KeepsToModel, Steps, action_of, Scope, AreReadings}
use Rattle.gc_station.proofs.Counts.{unsent_within, with_losses_progress}
use Rattle.gc_station.proofs.Growing.{losing_records, moved_grew}
use Rattle.gc_station.proofs.Hearing.{adds_acts_append}
use Rattle.gc_station.proofs.Making.{refines_with}
use Rattle.gc_station.proofs.Readings.{losing_reads, stepped_reads, reads_as_in_scope, same_readings}
use Rattle.gc_station.proofs.Records.{part_since_grew, part_more_grew}
use Rattle.gc_station.proofs.Turns.{left_to_do, less_stepped}

-- One turn.

-- an act that performs an action after a turn that was taken performs it without the turn as well
pub turn_obeys : (commands : List Task) (action : Action) (s : Model) (act : Act) → Performs commands (with_progress turned s) action act → Performs commands s action act
turn_obeys commands (Stop cause) s act o = o
turn_obeys commands action s act o = o

-- `OnCall action claim` is the claim for each action but `Stop`; of an action that isn't `Stop` it gives the claim
pub on_call : (action : Action) (claim : Type 0) → ((cause : Cause) → action ≡ Stop cause → ⊥) → OnCall action claim → claim
on_call (Stop cause) claim never on = absurd (never cause refl)
on_call action claim never on = on

-- where `other` follows from `claim`, `OnCall` of `claim` gives `OnCall` of `other`
pub on_then : (action : Action) (claim other : Type 0) → (claim → other) → OnCall action claim → OnCall action other
on_then (Stop cause) claim other step on = tt
on_then action claim other step on = step on

-- a turn in which an act performs `action`
module _ (plan : Plan) (commands : List Task) (action : Action) (text : Record → List ℕ) (told told' : Option (List Act)) (taken taken' : Option (List ℕ)) where
  -- a turn is an act and then, if the station has to, the loss of what is outstanding. If the act was made (`Makes`), and the
  -- loss wrote its records or the book failed at one of them (`RefinesOrTookPart`), the whole turn was made, or the book failed
  -- in it (`MakesOrBreaks`)
  pub makes_step : {X E : Type 0} (taken'' : Option (List ℕ)) (station mid new : Station) (p : Progress) (result : Result X E)
      → p ≡ turned station.progress → MakesMove plan commands action (as_seen told text taken (record station { progress = p })) (as_seen told' text taken' mid)
      → KeepsToModel with_losses text taken' taken'' mid new result → Steps plan commands action (as_seen told text taken station) (as_seen told' text taken'' new) result
  makes_step taken'' station mid new p (Ok r) e makes ends = record {
    act = makes.act;
    tells = makes.tells;
    goes = λ s start stands so.
        let one = makes.goes (with_progress turned s) start (refines_with station p turned s stands e) so in
        let end = ends (moved plan commands action (with_progress turned s) makes.act) start one.1 one.2 in
        (turn_obeys commands action s makes.act one.0, end.0, end.1);
  }
  makes_step taken'' station mid new p (Err r) e makes ends = record {
    act = makes.act;
    tells = makes.tells;
    goes = λ s start stands so.
        let one = makes.goes (with_progress turned s) start (refines_with station p turned s stands e) so in
        let mid : Model = moved plan commands action (with_progress turned s) makes.act in
        let part = ends mid start one.1 one.2 in (
          turn_obeys commands action s makes.act one.0,
          λ are. part_since_grew text s.records mid.records (with_losses mid).records start taken''
              (moved_grew plan commands action (with_progress turned s) makes.act) (part are),
        );
  }

  -- if the book failed at a record of an act, apart from its turn and from what is lost at its end, it failed at a record of the
  -- whole turn
  pub breaks_step : (station : Station) (p : Progress) → p ≡ turned station.progress
      → Breaks commands action (moved plan commands action) (as_seen told text taken (record station { progress = p })) told' taken'
      → Breaks commands action (stepped plan commands action) (as_seen told text taken station) told' taken'
  breaks_step station p e breaks = record {
    act = breaks.act;
    tells = breaks.tells;
    goes = λ s start stands so.
        let mid : Model = moved plan commands action (with_progress turned s) breaks.act in
        let one = breaks.goes (with_progress turned s) start (refines_with station p turned s stands e) so in
        let more = losing_records (loses_all mid.progress) mid in (
          turn_obeys commands action s breaks.act one.0,
          λ are. part_more_grew text s.records mid.records (with_losses mid).records start taken' more
              (one.1 (same_readings mid.reads (with_losses mid).reads (sym (losing_reads (loses_all mid.progress) mid)) are)),
        );
  }

-- Many turns.

-- what was done so far: the acts of a run that the link recorded, the records that the book took, and a station that is as the
-- model after these acts
pub record Went (plan : Plan) (commands : List Task) (scope : Scope) (text : Record → List ℕ) (told told' : Option (List Act)) (taken taken' : Option (List ℕ)) (station : Station) : Type 0 where
  pub acts : List Act
  pub tells : AddsActs told told' acts
  pub runs : Runs plan commands (opening plan scope) acts
  pub stands : Refines station (state_after plan commands scope acts)
  pub took : Appends taken taken' (texts_of text (state_after plan commands scope acts).records)

-- a link that recorded nothing more recorded no acts
pub adds_no_acts : (a : Option (List Act)) → AddsActs a a []
adds_no_acts None = tt
adds_no_acts (Some a) = sym (append-nil a)

-- if what a book has taken is the same, it took nothing more, as `Keeps` says
pub kept_same : (taken taken' : Option (List ℕ)) → taken' ≡ taken → Keeps taken taken'
kept_same taken taken' same = subst (λ (t : Option (List ℕ)). Keeps taken t) (sym same) (Keeps-refl taken)

-- the model after two lists of acts is the one after the second, from the one after the first on
pub after_all-append : (plan : Plan) (commands : List Task) (s : Model) (xs ys : List Act) → after_all plan commands s (xs ++ ys) ≡ after_all plan commands (after_all plan commands s xs) ys
after_all-append plan commands s [] ys = refl
after_all-append plan commands s (x ∷ xs) ys = after_all-append plan commands (after plan commands s x) xs ys

-- the first acts of a run are a run
pub runs_front : (plan : Plan) (commands : List Task) (s : Model) (xs ys : List Act) → Runs plan commands s (xs ++ ys) → Runs plan commands s xs
runs_front plan commands s [] ys runs = tt
runs_front plan commands s (x ∷ xs) ys runs = (runs.0, runs_front plan commands (after plan commands s x) xs ys runs.1)

-- of a run, the acts `ys` after its first ones (`xs`) are a run from the model after these on
pub runs_behind : (plan : Plan) (commands : List Task) (s : Model) (xs ys : List Act) → Runs plan commands s (xs ++ ys) → Runs plan commands (after_all plan commands s xs) ys
runs_behind plan commands s [] ys runs = runs
runs_behind plan commands s (x ∷ xs) ys runs = runs_behind plan commands (after plan commands s x) xs ys runs.1

-- acts that are a run, and others that are a run after them, are a run together
pub runs-append : (plan : Plan) (commands : List Task) (s : Model) (xs ys : List Act) → Runs plan commands s xs → Runs plan commands (after_all plan commands s xs) ys → Runs plan commands s (xs ++ ys)
runs-append plan commands s [] ys p q = q
runs-append plan commands s (x ∷ xs) ys p q = (p.0, runs-append plan commands (after plan commands s x) xs ys p.1 q)

-- the run so far, whose link had recorded `told` at the start
module _ (plan : Plan) (commands : List Task) (scope : Scope) (text : Record → List ℕ) (told : Option (List Act)) where
  -- `Went` holds if nothing was done, and the station is as the model at the start
  abbrev pub went_nothing : (taken : Option (List ℕ)) (station : Station) → Refines station (opening plan scope) → Went plan commands scope text told told taken taken station
  went_nothing taken station stands = record {
    acts = [];
    tells = adds_no_acts told;
    runs = tt;
    stands = stands;
    took = Appends-nil taken;
  }

  -- `Went` is preserved if a book took nothing more, as `Keeps` says: if what it took was known, it is known still, and the same
  abbrev pub went_kept : (told' : Option (List Act)) (taken taken' taken'' : Option (List ℕ)) (station : Station) → Keeps taken' taken''
      → Went plan commands scope text told told' taken taken' station → Went plan commands scope text told told' taken taken'' station
  went_kept told' taken taken' taken'' station keeps w = record {
    acts = w.acts;
    tells = w.tells;
    runs = w.runs;
    stands = w.stands;
    took = Appends-kept taken taken' taken'' (texts_of text (state_after plan commands scope w.acts).records) w.took keeps;
  }

  -- if `Went` holds, and the link recorded a close after that, the run is as `FailedAtSync` says: its book has all records, but
  -- couldn't make them last
  pub fails_at_sync : (told' told'' : Option (List Act)) (taken taken' : Option (List ℕ)) (station : Station)
      → Went plan commands scope text told told' taken taken' station → AddsActs told' told'' (Closed ∷ []) → FailedAtSync plan commands scope text told told'' taken taken'
  fails_at_sync told' told'' taken taken' station w closed = record {
    acts = w.acts;
    tells = adds_acts_append told told' told'' w.acts (Closed ∷ []) w.tells closed;
    runs = w.runs;
    took = w.took;
  }

  -- `Went` is preserved by one turn more of the action that is next (`Makes`), if the scope has the readings of all lines
  -- (`AreReadings`)
  abbrev pub went_on : (told' told'' : Option (List Act)) (taken taken' taken'' : Option (List ℕ)) (station new : Station) (action : Action)
      → (w : Went plan commands scope text told told' taken taken' station)
      → action ≡ action_at plan (state_after plan commands scope w.acts)
      → Makes commands action (stepped plan commands action) (as_seen told' text taken' station) (as_seen told'' text taken'' new)
      → AreReadings scope.reads → Went plan commands scope text told told'' taken taken'' new
  went_on told' told'' taken taken' taken'' station new action w is makes are =
      let s = state_after plan commands scope w.acts in
      let one = makes.goes s taken w.stands (λ ok. w.took) in
      let same = stepped_reads plan commands action s makes.act ∙ reads_as_in_scope plan commands scope w.acts in
      let took = one.2 (same_readings (stepped plan commands action s makes.act).reads scope.reads same are) in
      let whole = after_all-append plan commands (opening plan scope) w.acts (makes.act ∷ []) in
      let obeys : Performs commands s (action_at plan s) makes.act = subst (λ (o : Action). Performs commands s o makes.act) is one.0 in
      record {
        acts = w.acts ++ makes.act ∷ [];
        tells = adds_acts_append told told' told'' w.acts (makes.act ∷ []) w.tells makes.tells;
        runs = runs-append plan commands (opening plan scope) w.acts (makes.act ∷ []) w.runs (obeys, tt);
        stands = rw (whole, ← is) one.1;
        took = rw (whole, ← is) took;
      }

  -- if `Went` holds, the book failed at a record of the next act (`Breaks`), and the link recorded a close after that, the run is
  -- as `FailedAtRecord` says, if the scope has the readings of all lines (`AreReadings`)
  pub fails_at_record : (told' told'' told''' : Option (List Act)) (taken taken' taken'' : Option (List ℕ)) (station : Station) (action : Action)
      → (w : Went plan commands scope text told told' taken taken' station)
      → action ≡ action_at plan (state_after plan commands scope w.acts)
      → Breaks commands action (stepped plan commands action) (as_seen told' text taken' station) told'' taken''
      → AddsActs told'' told''' (Closed ∷ [])
      → AreReadings scope.reads → FailedAtRecord plan commands scope text told told''' taken taken''
  fails_at_record told' told'' told''' taken taken' taken'' station action w is breaks closed are =
      let s = state_after plan commands scope w.acts in
      let one = breaks.goes s taken w.stands (λ ok. w.took) in
      let same = stepped_reads plan commands action s breaks.act ∙ reads_as_in_scope plan commands scope w.acts in
      let took = one.1 (same_readings (stepped plan commands action s breaks.act).reads scope.reads same are) in
      let whole = after_all-append plan commands (opening plan scope) w.acts (breaks.act ∷ []) in
      let obeys : Performs commands s (action_at plan s) breaks.act = subst (λ (o : Action). Performs commands s o breaks.act) is one.0 in
      record {
        acts = w.acts;
        last = breaks.act;
        tells = adds_acts_append told told' told''' w.acts (breaks.act ∷ (Closed ∷ [])) w.tells (adds_acts_append told' told'' told''' (breaks.act ∷ []) (Closed ∷ []) breaks.tells closed);
        runs = runs-append plan commands (opening plan scope) w.acts (breaks.act ∷ []) w.runs (obeys, tt);
        took = rw (whole, ← is) took;
      }

-- an act leaves no more commands unsent than a cycle has, and less to be done than before (`left_to_do`), so that a run ends
pub record IsNearer (plan : Plan) (commands : List Task) (from to : Progress) : Type 0 where
  pub within : to.unsent ≤ cycle_length plan commands
  pub less : left_to_do to < left_to_do from

-- a station stands for some model (`Refines`)
abbrev pub HasModel : Station → Type 0
HasModel station = (s : Model) × Refines station s

-- a turn that led from `station` to `new`, in which an act performed `action`
module _ (plan : Plan) (commands : List Task) (text : Record → List ℕ) (told told' : Option (List Act)) (taken taken' : Option (List ℕ)) (station new : Station) (action : Action) where
  -- a turn leads a station that stands for some model to one that stands for some model
  pub has_model_on : Makes commands action (stepped plan commands action) (as_seen told text taken station) (as_seen told' text taken' new) → HasModel station → HasModel new
  has_model_on makes some =
      let one = makes.goes some.0 None some.1 (λ are. tt) in
      (stepped plan commands action some.0 makes.act, one.1)

  -- a turn of the action that is next leaves a station nearer to the end (`IsNearer`), if the station stands for some model,
  -- and no more commands were unsent than a cycle has
  pub went_nearer : action ≡ action_of plan station.progress (waiting_of_station station) → HasModel station
      → Makes commands action (stepped plan commands action) (as_seen told text taken station) (as_seen told' text taken' new)
      → station.progress.unsent ≤ cycle_length plan commands → IsNearer plan commands station.progress new.progress
  went_nearer is some makes within =
      let s = some.0 in
      let p = station.progress in
      let w = waiting_of_station station in
      let one = makes.goes s None some.1 (λ are. tt) in
      let o : action ≡ action_of plan s.progress w = is ∙ ap (λ (q : Progress). action_of plan q w) some.1.progress in
      let obeys : Performs commands s (action_of plan s.progress w) makes.act = subst (λ (x : Action). Performs commands s x makes.act) o one.0 in
      let mid : Model = moved plan commands action (with_progress turned s) makes.act in
      let next : new.progress ≡ (with_losses mid).progress = one.1.progress in
      let below : s.progress.unsent ≤ cycle_length plan commands = subst (λ (p : Progress). p.unsent ≤ cycle_length plan commands) some.1.progress within in
      record {
        within = subst (λ (p : Progress). p.unsent ≤ cycle_length plan commands) (sym (next ∙ with_losses_progress mid)) (unsent_within plan commands action (with_progress turned s) makes.act below);
        less = subst (λ (q : Progress). left_to_do q < left_to_do p) (sym (next ∙ ap (λ (x : Action). (stepped plan commands x s makes.act).progress) o))
            (subst (λ (q : Progress). left_to_do (stepped plan commands (action_of plan s.progress w) s makes.act).progress < left_to_do q)
            (sym some.1.progress) (less_stepped plan commands s w makes.act obeys));
      }
