-- The steps of synchronizations in a station's parts, and which ids of the word they leave. A part reaches from one synchronization to the next.
-- The word is the ids of a synchronization's null procedures, and what is left of it are those that aren't answered yet;
-- `the_word` is all eight. `AreBegun word parts`: the lines of each part but the last answered all ids of its synchronization,
-- `word` for the first part and all eight for each later one; and the last part did so, too, or has no step of the client. An
-- act is one call on the link, with its result.
use Rattle.gc_station.proofs.Common.{◌≡◌, inl, inr, ℕ, ◌||◌, ◌&&◌, Bool, true, false, not, List, [], ◌∷◌, ◌++◌, drop, map, if◌then◌else◌, refl, sym, ◌∙◌, ap, subst, the_word, left_by, heard, is_none_left, Moment, Act, Told, Put, Cut, Gave, Task, Mark, Plan, Action, lines_heard_at, unanswered_after, has_begun, Part, only_sync_steps, sync_part, client_part, in_front, parts_of, is_over, loses_all, Performs, Runs, Model, after, is_heard, lines_completed, action_at, mark_sent, place_next}
use Rattle.gc_station.specs.Begun.{AreBegun, heard_in}
use Rattle.gc_station.proofs.Beginnings.{word_after, word_if_resynchronizing}
use Rattle.gc_station.proofs.Midway.{none_lost_parts}
use Rattle.gc_station.proofs.Turns.{no_act_once_over}
use Rattle.gc_station.proofs.Words.{left_none}
use Rattle.gc_station.specs.declared.progress.Action.TheVariants as action
use Rattle.gc_station.specs.Parts as part

-- What is heard among steps of a synchronization.

-- the lines of two lists of steps, one after the other, are those of the first and then those of the second
pub heard_append : (xs ys : List part.SyncStep) → heard_in (xs ++ ys) ≡ heard_in xs ++ heard_in ys
heard_append [] ys = refl
heard_append (part.Asks ∷ xs) ys = heard_append xs ys
heard_append (part.Hears line ∷ xs) ys = ap (λ l. line ∷ l) (heard_append xs ys)

-- what two lists of lines leave of a word is what the second leaves of what the first left
pub left_append : (word : List ℕ) (xs ys : List (List ℕ)) → unanswered_after word (xs ++ ys) ≡ unanswered_after (unanswered_after word xs) ys
left_append word [] ys = refl
left_append word (line ∷ xs) ys = left_append (left_by word (heard line)) xs ys

-- the steps that hear `lines`, one step for each line, hear these lines and no others
heard_lines : (lines : List (List ℕ)) → heard_in (map part.Hears lines) ≡ lines
heard_lines [] = refl
heard_lines (line ∷ lines) = ap (λ l. line ∷ l) (heard_lines lines)

-- What an act does while the station synchronizes.

-- if no id is left, the word is empty
pub word_empty : (w : List ℕ) → is_none_left w ≡ true → w ≡ []
word_empty [] e = refl
word_empty (asked ∷ others) e = cc

-- the lines heard by the steps of a piece are its lines if it is heard, and none if it is discarded
heard_piece : (heard : Bool) (lines : List (List ℕ)) → heard_in (if heard then map part.Hears lines else []) ≡ (if heard then lines else [])
heard_piece true lines = heard_lines lines
heard_piece false lines = refl

-- if an act performs the action o, the lines in the steps of the act's part of a synchronization (`sync_part`) are those that the
-- station hears at the act
heard_in_sync_part : (commands : List Task) (s : Model) (o : Action) (act : Act) → Performs commands s o act → heard_in (sync_part s o act).sync_steps ≡ lines_heard_at s act
heard_in_sync_part commands s action.Ask (Put bytes) obeys = refl
heard_in_sync_part commands s action.Ask (Cut bytes count) obeys = refl
heard_in_sync_part commands s (action.Read until) (Gave piece m) obeys = heard_piece (is_heard s.progress.phase) (lines_completed s.rest piece)
heard_in_sync_part commands s (action.Close why) (Gave piece m) obeys = cc
heard_in_sync_part commands s o (Gave piece m) obeys = absurd obeys
heard_in_sync_part commands s o act obeys = refl

-- the steps of a read that gave `piece`, in its part of a synchronization (`sync_part`), are the lines of the piece if it is
-- heard, and none if it is discarded
pub sync_steps_gave : (commands : List Task) (s : Model) (o : Action) (piece : List ℕ) (m : Moment) → Performs commands s o (Gave piece m)
    → (sync_part s o (Gave piece m)).sync_steps ≡ (if is_heard s.progress.phase then map part.Hears (lines_completed s.rest piece) else [])
sync_steps_gave commands s (action.Read until) piece m obeys = refl
sync_steps_gave commands s (action.Close why) piece m obeys = cc
sync_steps_gave commands s o piece m obeys = absurd obeys

-- the act puts no bytes, and gives none
abbrev pub CarriesNoBytes : Act → Type 0
CarriesNoBytes (Put bytes) = ⊥
CarriesNoBytes (Cut bytes count) = ⊥
CarriesNoBytes (Gave piece m) = ⊥
CarriesNoBytes act = Unit {0}

-- an act that puts and gives no bytes makes no step of a synchronization
pub sync_steps_none : (s : Model) (o : Action) (act : Act) → CarriesNoBytes act → (sync_part s o act).sync_steps ≡ []
sync_steps_none s action.Ask (Put bytes) h = absurd h
sync_steps_none s action.Ask (Cut bytes count) h = absurd h
sync_steps_none s (action.Read until) (Gave piece m) h = absurd h
sync_steps_none s o act h = refl

module _ (plan : Plan) (commands : List Task) where
  -- after an act while the station synchronizes, the ids that are left are those that the lines of the act leave
  pub word_after_sync_steps : (s : Model) (act : Act) → Performs commands s (action_at plan s) act → has_begun s.progress ≡ false
      → (after plan commands s act).progress.exchange.word ≡ unanswered_after s.progress.exchange.word (heard_in (sync_part s (action_at plan s) act).sync_steps)
  word_after_sync_steps s act obeys begins = word_after plan commands s act obeys begins
      ∙ ap (λ l. unanswered_after s.progress.exchange.word l) (sym (heard_in_sync_part commands s (action_at plan s) act obeys))

-- Each part synchronizes first.

-- the part of an act while the station synchronizes has only steps of the synchronization
pub sync_part_only_sync_steps : (s : Model) (o : Action) (act : Act) → sync_part s o act ≡ only_sync_steps (sync_part s o act).sync_steps
sync_part_only_sync_steps s action.Ask (Put bytes) = refl
sync_part_only_sync_steps s action.Ask (Cut bytes count) = refl
sync_part_only_sync_steps s action.Ask act = refl
sync_part_only_sync_steps s (action.Read until) (Gave piece m) = refl
sync_part_only_sync_steps s (action.Read until) act = refl
sync_part_only_sync_steps s o act = refl

-- the part of an act while the station synchronizes has no steps of the client
pub steps_none : (s : Model) (o : Action) (act : Act) → (sync_part s o act).steps ≡ []
steps_none s o act = ap (λ (p : Part). p.steps) (sync_part_only_sync_steps s o act)

-- the part of an act while the station synchronizes has no marks
pub marks_none : (s : Model) (o : Action) (act : Act) → (sync_part s o act).marks ≡ []
marks_none s o act = ap (λ (p : Part). p.marks) (sync_part_only_sync_steps s o act)

-- where two lists are empty, they are empty joined
pub nil_both : {A : Type 0} (xs ys : List A) → xs ≡ [] → ys ≡ [] → xs ++ ys ≡ []
nil_both [] ys e f = f
nil_both (x ∷ xs) ys e f = cc

-- the first of these parts has no steps of a synchronization
abbrev pub FirstHasNoSyncSteps : List Part → Type 0
FirstHasNoSyncSteps [] = Unit {0}
FirstHasNoSyncSteps (p ∷ ps) = p.sync_steps ≡ []

-- what two lists of steps leave of a word is what the second leaves of what the first left
left_both : (word : List ℕ) (xs ys : List part.SyncStep) → unanswered_after word (heard_in (xs ++ ys)) ≡ unanswered_after (unanswered_after word (heard_in xs)) (heard_in ys)
left_both word xs ys = ap (λ l. unanswered_after word l) (heard_append xs ys) ∙ left_append word (heard_in xs) (heard_in ys)

-- parts with p, which has no step of the client, joined to the front of the first one (or p alone, if there are none) have
-- synchronized from `word` (`AreBegun`), if without p they have synchronized from the ids that the lines of p leave of `word`
begun_in_front : (word : List ℕ) (p : Part) (ps : List Part) → p.steps ≡ [] → AreBegun (unanswered_after word (heard_in p.sync_steps)) ps → AreBegun word (in_front p false ps)
begun_in_front word p [] e h = inl e
begun_in_front word p (q ∷ []) e (inl f) = inl (nil_both p.steps q.steps e f)
begun_in_front word p (q ∷ []) e (inr f) = inr (left_both word p.sync_steps q.sync_steps ∙ f)
begun_in_front word p (q ∷ r ∷ ps) e h = (left_both word p.sync_steps q.sync_steps ∙ h.0, h.1)

-- if the parts have synchronized with no id left (`AreBegun []`), they still have with p joined to the front of the first one;
-- and so has p alone, if there are none
begun_joined : (p : Part) (ps : List Part) → AreBegun [] ps → AreBegun [] (in_front p false ps)
begun_joined p [] h = inr (left_none (heard_in p.sync_steps))
begun_joined p (q ∷ []) h = inr (left_none (heard_in (p.sync_steps ++ q.sync_steps)))
begun_joined p (q ∷ r ∷ ps) h = (left_none (heard_in (p.sync_steps ++ q.sync_steps)), h.1)

-- where parts have synchronized from all eight ids, p and these parts after it have synchronized with no id left: p had
-- synchronized already
begun_with_more : (p : Part) (ps : List Part) → AreBegun the_word ps → AreBegun [] (p ∷ ps)
begun_with_more p [] h = inr (left_none (heard_in p.sync_steps))
begun_with_more p (q ∷ ps) h = (left_none (heard_in p.sync_steps), h)

-- if `loses_all` says that nothing is lost, the station has synchronized
pub begun_if_nothing_lost : (t : Model) → loses_all t.progress ≡ false → has_begun t.progress ≡ true
begun_if_nothing_lost t e = (none_lost_parts (has_begun t.progress) (is_over t.progress) e).0

-- with a part p without steps of a synchronization before the parts `ps` (`in_front`), the first part has none, if the first of
-- `ps` has none in case p is joined to it (`ends` is false)
in_front_no_sync_steps : (p : Part) (ends : Bool) (ps : List Part) → p.sync_steps ≡ [] → (ends ≡ false → FirstHasNoSyncSteps ps) → FirstHasNoSyncSteps (in_front p ends ps)
in_front_no_sync_steps p true ps e h = e
in_front_no_sync_steps p false [] e h = e
in_front_no_sync_steps p false (q ∷ ps) e h = nil_both p.sync_steps q.sync_steps e (h refl)

-- the part that sends the first of these commands has no steps of a synchronization; nor does it have any if there is no command
first_request_no_sync_steps : (now : ℕ) (mark : Mark) (tasks : List Task) → (part.first_request_part now mark tasks).sync_steps ≡ []
first_request_no_sync_steps now mark [] = refl
first_request_no_sync_steps now mark (task ∷ others) = refl

module _ (plan : Plan) (commands : List Task) where
  -- let all that is outstanding be lost at the model t (`loses_all`), and all eight ids be left in t unless the station has
  -- synchronized. If the parts of the acts after t have synchronized from the ids left in t, they have synchronized from all
  -- eight: where the station has synchronized, the run is over, and no act follows
  next_begun : (t : Model) (acts : List Act) → loses_all t.progress ≡ true → (has_begun t.progress ≡ false → t.progress.exchange.word ≡ the_word)
      → Runs plan commands t acts → AreBegun t.progress.exchange.word (parts_of plan commands t acts)
      → AreBegun the_word (parts_of plan commands t acts)
  next_begun t acts loses anew runs h = by_case (has_begun t.progress) refl loses where
    -- if the run is over, the parts have synchronized from all eight ids: no act follows, so nothing happens in them
    begun_if_over : (acts : List Act) → is_over t.progress ≡ true → Runs plan commands t acts → AreBegun the_word (parts_of plan commands t acts)
    begun_if_over [] over runs = inl refl
    begun_if_over (act ∷ acts) over runs = absurd (no_act_once_over plan commands t act over runs.0)

    -- `next_begun` by whether the station has synchronized (b): if it hasn't, its word is whole; if it has, the run is over
    by_case : (b : Bool) → has_begun t.progress ≡ b → (not b || is_over t.progress) ≡ true → AreBegun the_word (parts_of plan commands t acts)
    by_case true e over = begun_if_over acts over runs
    by_case false e over = subst (λ w. AreBegun w (parts_of plan commands t acts)) (anew e) h

  module _ (s : Model) (act : Act) (acts : List Act) where
    -- the model after the act
    abbrev t : Model
    t = after plan commands s act

    -- the parts of the acts after it
    abbrev ps : List Part
    ps = parts_of plan commands t acts

    -- if these parts have synchronized from the ids left after the act, they have, with the act's part in front of them, from the
    -- ids left before it. `begun` is whether the station had synchronized before the act, and `lost` whether all that is
    -- outstanding is lost at its end
    parts_begun_with : (begun lost : Bool) → (is_begun : has_begun s.progress ≡ begun) → (is_lost : loses_all t.progress ≡ lost) → (performs : Performs commands s (action_at plan s) act)
        → (runs : Runs plan commands t acts) → AreBegun t.progress.exchange.word ps
        → AreBegun s.progress.exchange.word (in_front (if begun then client_part plan commands s (action_at plan s) act else sync_part s (action_at plan s) act) (begun && lost) ps)
    parts_begun_with false lost e f obeys runs h =
        begun_in_front s.progress.exchange.word (sync_part s (action_at plan s) act) ps (steps_none s (action_at plan s) act)
        (subst (λ w. AreBegun w ps) (word_after_sync_steps plan commands s act obeys e) h)
    parts_begun_with true false e f obeys runs h =
        let p = client_part plan commands s (action_at plan s) act in
        let goes : has_begun t.progress ≡ true = begun_if_nothing_lost t f in
        subst (λ w. AreBegun w (in_front p false ps)) (sym (word_empty s.progress.exchange.word e))
        (begun_joined p ps (subst (λ w. AreBegun w ps) (word_empty t.progress.exchange.word goes) h))
    parts_begun_with true true e f obeys runs h =
        let p = client_part plan commands s (action_at plan s) act in
        subst (λ w. AreBegun w (p ∷ ps)) (sym (word_empty s.progress.exchange.word e))
        (begun_with_more p ps (next_begun t acts f (λ begins. word_if_resynchronizing plan commands s act obeys e begins) runs h))

  -- the parts of a run from the model s on have synchronized from the ids left in s, as `AreBegun` says
  pub parts_begun : (s : Model) (acts : List Act) → Runs plan commands s acts → AreBegun s.progress.exchange.word (parts_of plan commands s acts)
  parts_begun s [] runs = inl refl
  parts_begun s (act ∷ acts) runs =
      parts_begun_with s act acts (has_begun s.progress) (loses_all (after plan commands s act).progress) refl refl runs.0 runs.1 (parts_begun (after plan commands s act) acts runs.1)

  -- Once the station has synchronized there are no steps of a synchronization.

  -- the part of an action that puts bytes has no steps of a synchronization
  put_part_no_sync_steps : (s : Model) (o : Action) → (part.put_part plan commands s o).sync_steps ≡ []
  put_part_no_sync_steps s action.Flush = refl
  put_part_no_sync_steps s action.Prepare = refl
  put_part_no_sync_steps s action.Send = first_request_no_sync_steps s.progress.moment.elapsed (mark_sent plan commands s) (drop (place_next commands s.progress) commands)
  put_part_no_sync_steps s o = refl

  -- the part of an act, once the station has synchronized, has no steps of a synchronization
  pub client_part_no_sync_steps : (s : Model) (o : Action) (act : Act) → (client_part plan commands s o act).sync_steps ≡ []
  client_part_no_sync_steps s o (Put bytes) = put_part_no_sync_steps s o
  client_part_no_sync_steps s o (Cut bytes count) = put_part_no_sync_steps s o
  client_part_no_sync_steps s o (Told m) = refl
  client_part_no_sync_steps s o (Gave piece m) = refl
  client_part_no_sync_steps s o act = refl

  -- the first part of acts, once the station has synchronized, has no steps of a synchronization
  pub first_part_no_sync_steps : (s : Model) (acts : List Act) → has_begun s.progress ≡ true → FirstHasNoSyncSteps (parts_of plan commands s acts)
  first_part_no_sync_steps s [] e = refl
  first_part_no_sync_steps s (act ∷ acts) e =
      let t = after plan commands s act in
      let o = action_at plan s in
      let ps = parts_of plan commands t acts in
      subst (λ b. FirstHasNoSyncSteps (in_front (if b then client_part plan commands s o act else sync_part s o act) (b && loses_all t.progress) ps)) (sym e)
      (in_front_no_sync_steps (client_part plan commands s o act) (loses_all t.progress) ps (client_part_no_sync_steps s o act) (λ f. first_part_no_sync_steps t acts (begun_if_nothing_lost t f)))
