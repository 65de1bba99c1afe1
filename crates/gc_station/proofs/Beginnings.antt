-- A synchronization goes on by its answers, and no command is sent before the last of them. The word is the ids of a
-- synchronization that aren't answered yet; a line answers the first of them if it has that id. An act is one call on the link,
-- with its result.
use Rattle.gc_station.proofs.Common.{◌≡◌, inl, inr, ℕ, Bool, true, false, List, [], ◌∷◌, ◌++◌, length, Option, Some, None, nat_eq, refl, sym, ap, ◌∙◌, subst, filter_map, eqb-true, both_ways, nil_from_length, filter_map-append, Asked, IsSubsequence, the_word, left_by, left_when, ById, heard, Task, is_none_left, Plan, Action, Progress, Act, lines_heard_at, lines_heard, unanswered_after, NoneBeforeTheLastAnswer, IsSynchronizing, SynchronizesAnew, SynchronizesInOrder, has_begun, turned, IsAsking, HoldsBefore, state_after, Scope, Model, opening, action_at, waiting_of, with_progress, Performs, moved, after, after_all, Runs}
use Rattle.gc_station.proofs.Always.{progress_after_act}
use Rattle.gc_station.proofs.Closings.{runs_split}
use Rattle.gc_station.proofs.Counts.{with_losses_progress}
use Rattle.gc_station.proofs.EachRun.{invariant_holds}
use Rattle.gc_station.proofs.Facts.{action_for}
use Rattle.gc_station.proofs.Going.{after_all-append, runs_behind}
use Rattle.gc_station.proofs.Quiets.{only_ask_sends}
use Rattle.gc_station.proofs.Words.{word_moved, renews_only, renews_needs}
use Rattle.gc_station.specs.declared.progress.Action.TheVariants as actions

-- Lines answer the ids of a word in their order: the word is a subsequence of the lines' ids.

-- if what `line` leaves of the word is a subsequence of the ids of `others` and then `ids`, the word is a subsequence of the id
-- of `line`, the ids of `others` and then `ids`
left_answered : (word : List ℕ) (line : List ℕ) (others : List (List ℕ)) (ids : List ℕ)
    → IsSubsequence (left_by word (heard line)) (filter_map heard others ++ ids) → IsSubsequence word (filter_map heard (line ∷ others) ++ ids)
left_answered [] line others ids h = tt
left_answered (asked ∷ rest) line others ids h = by_id (heard line) refl h where
  -- the lemma above, if the line has an id: the word's first one (`true`) or another
  by_test : (id : ℕ) (b : Bool) → nat_eq id asked ≡ b → IsSubsequence (left_when b asked rest) (filter_map heard others ++ ids) → IsSubsequence (asked ∷ rest) (id ∷ (filter_map heard others ++ ids))
  by_test id true e h = inl (sym (eqb-true id asked e), h)
  by_test id false e h = inr h

  -- `left_answered` by the id that the line has, if it has one
  by_id : (o : Option ℕ) → heard line ≡ o → IsSubsequence (left_by (asked ∷ rest) o) (filter_map heard others ++ ids) → IsSubsequence (asked ∷ rest) (filter_map heard (line ∷ others) ++ ids)
  by_id None e h = rw e h
  by_id (Some id) e h = rw e (by_test id (nat_eq id asked) refl h)

-- if what these lines leave of the word is a subsequence of `ids`, the word is a subsequence of the lines' ids and then `ids`
lines_answered : (word : List ℕ) (lines : List (List ℕ)) (ids : List ℕ) → IsSubsequence (unanswered_after word lines) ids → IsSubsequence word (filter_map heard lines ++ ids)
lines_answered word [] ids h = h
lines_answered word (line ∷ others) ids h = left_answered word line others ids (lines_answered (left_by word (heard line)) others ids h)

-- a word of which no id is left is a subsequence of any ids
empty_word_among : (word ids : List ℕ) → is_none_left word ≡ true → IsSubsequence word ids
empty_word_among [] ids e = tt
empty_word_among (asked ∷ others) ids e = cc

module _ (plan : Plan) (commands : List Task) where
  -- while the station synchronizes, an action whose conditions hold isn't `Renew`
  not_renew : (s : Model) (o : Action) → HoldsBefore plan s.progress (waiting_of s) o → has_begun s.progress ≡ false → o ≡ actions.Renew → ⊥
  not_renew s o needs begins is = let it = subst (λ (x : Action). HoldsBefore plan s.progress (waiting_of s) x) is needs in both_ways (has_begun s.progress) begins it.1

  -- while the station synchronizes, the ids that an act leaves unanswered are those that its lines leave
  pub word_after : (s : Model) (act : Act) → Performs commands s (action_at plan s) act → has_begun s.progress ≡ false
      → (after plan commands s act).progress.exchange.word ≡ unanswered_after s.progress.exchange.word (lines_heard_at s act)
  word_after s act obeys begins =
      ap (λ (p : Progress). p.exchange.word) (with_losses_progress (moved plan commands (action_at plan s) (with_progress turned s) act))
      ∙ word_moved plan commands s (action_at plan s) act obeys (not_renew s (action_at plan s) (action_for plan s.progress (waiting_of s)) begins)

  -- if the station resynchronizes, all ids of the word are left
  pub word_if_resynchronizing : (s : Model) (act : Act) → Performs commands s (action_at plan s) act → has_begun s.progress ≡ true
      → has_begun (after plan commands s act).progress ≡ false → (after plan commands s act).progress.exchange.word ≡ the_word
  word_if_resynchronizing s act obeys begun begins =
      let o = action_at plan s in
      let far = with_losses_progress (moved plan commands o (with_progress turned s) act) in
      let it = renews_only plan commands s o act obeys begun (ap has_begun (sym far) ∙ begins) in
      ap (λ (p : Progress). p.exchange.word) far ∙ ap (λ (x : Action). (moved plan commands x (with_progress turned s) act).progress.exchange.word) it.0
      ∙ ap (λ (x : Act). (moved plan commands actions.Renew (with_progress turned s) x).progress.exchange.word) it.2

  -- if the word after an act is a subsequence of `ids`, the word before it is a subsequence of the ids of the act's lines and
  -- then `ids`; `begun` is whether the station had synchronized before the act
  word_before_act : (s : Model) (act : Act) (ids : List ℕ) (begun : Bool) → has_begun s.progress ≡ begun → Performs commands s (action_at plan s) act
      → IsSubsequence (after plan commands s act).progress.exchange.word ids
      → IsSubsequence s.progress.exchange.word (filter_map heard (lines_heard_at s act) ++ ids)
  word_before_act s act ids true begun obeys h = empty_word_among s.progress.exchange.word _ begun
  word_before_act s act ids false begins obeys h = lines_answered s.progress.exchange.word (lines_heard_at s act) ids (subst (λ (w : List ℕ). IsSubsequence w ids) (word_after s act obeys begins) h)

  -- if the station has synchronized after these acts, the word before them is a subsequence of the ids of the lines that are
  -- heard at them
  word_among_heard : (s : Model) (acts : List Act) → Runs plan commands s acts → has_begun (after_all plan commands s acts).progress ≡ true
      → IsSubsequence s.progress.exchange.word (filter_map heard (lines_heard plan commands s acts))
  word_among_heard s [] runs begun = empty_word_among s.progress.exchange.word [] begun
  word_among_heard s (act ∷ acts) runs begun =
      let u = after plan commands s act in
      let ids = filter_map heard (lines_heard plan commands u acts) in
      subst (λ (all : List ℕ). IsSubsequence s.progress.exchange.word all) (sym (filter_map-append heard (lines_heard_at s act) (lines_heard plan commands u acts)))
      (word_before_act s act ids (has_begun s.progress) refl runs.0 (word_among_heard u acts runs.1 begun))

-- if a command is next, or a null procedure that isn't of a synchronization, the station has synchronized
pub asking_begun : (plan : Plan) (s : Model) (o : Action) → IsAsking o → HoldsBefore plan s.progress (waiting_of s) o → has_begun s.progress ≡ true
asking_begun plan s actions.Prepare asks needs = needs.1
asking_begun plan s actions.Send asks needs = needs.1
asking_begun plan s actions.Flush asks needs = needs.1
asking_begun plan s o asks needs = absurd asks

-- the law: if a command is sent next, or a null procedure that isn't of a synchronization, the ids that weren't answered after
-- some acts are, in order, among the ids of the lines heard since
pub none_before_the_last : NoneBeforeTheLastAnswer
none_before_the_last plan commands scope earlier between runs asks =
    let t = state_after plan commands scope (earlier ++ between) in
    let begun = asking_begun plan t (action_at plan t) asks (action_for plan t.progress (waiting_of t)) in
    word_among_heard plan commands (state_after plan commands scope earlier) between (runs_behind plan commands (opening plan scope) earlier between runs)
    (ap (λ (x : Model). has_begun x.progress) (sym (after_all-append plan commands (opening plan scope) earlier between)) ∙ begun)

-- Each act while the station synchronizes, and if it resynchronizes.

module _ (plan : Plan) (commands : List Task) (scope : Scope) (acts : List Act) (act : Act) where
  -- the model before the act
  abbrev here : Model
  here = state_after plan commands scope acts

  -- the model after the act
  abbrev there : Model
  there = state_after plan commands scope (acts ++ act ∷ [])

  -- an act of a run, while the station synchronizes, is `IsSynchronizing`: the client is new, a request that is sent is the null
  -- procedure of the first id left, and the act's lines answer ids in order
  of_beginning : Performs commands here (action_at plan here) act → has_begun here.progress ≡ false → IsSynchronizing here act there
  of_beginning obeys begins =
      let fine = invariant_holds plan commands scope acts in
      let new = fine.begins begins in
      let needs = action_for plan here.progress (waiting_of here) in
      record {
        client = new;
        marks = nil_from_length here.marks (fine.paired ∙ ap (λ (c : ById Asked). length c.waiting) new);
        asks = λ asks. subst (λ (o : Action). Performs commands here o act) (only_ask_sends plan commands (action_at plan here) here act obeys asks needs begins) obeys;
        left = ap (λ (x : Model). x.progress.exchange.word) (after_all-append plan commands (opening plan scope) acts (act ∷ [])) ∙ word_after plan commands here act obeys begins;
      }

  -- `SynchronizesAnew` holds of an act of a run at which the station resynchronizes: it reads the clock where all outstanding
  -- requests have timed out; after it the client is new, and all eight ids are left
  of_resynchronizing : Performs commands here (action_at plan here) act → has_begun here.progress ≡ true → has_begun there.progress ≡ false → SynchronizesAnew plan commands scope acts act
  of_resynchronizing obeys begun begins =
      let far = progress_after_act plan commands scope acts act in
      let on = after_all-append plan commands (opening plan scope) acts (act ∷ []) in
      let it = renews_only plan commands here (action_at plan here) act obeys begun (ap has_begun (sym far) ∙ begins) in
      let full = renews_needs plan commands here (action_at plan here) (invariant_holds plan commands scope acts) it.0 (action_for plan here.progress (waiting_of here)) in
      record {
        resynchronizes = record { renews = it.0; moment = it.1; told = it.2; why = full.0; given_up = full.1 };
        word = ap (λ (x : Model). x.progress.exchange.word) on ∙ word_if_resynchronizing plan commands here act obeys begun (ap (λ (x : Model). has_begun x.progress) (sym on) ∙ begins);
        client = (invariant_holds plan commands scope (acts ++ act ∷ [])).begins begins;
      }

  -- each act of a run is as `SynchronizesInOrder` says: `IsSynchronizing` holds of it while the station synchronizes, and
  -- `SynchronizesAnew` if it resynchronizes
  pub synchronizes_in_order : (later : List Act) → Runs plan commands (opening plan scope) (acts ++ act ∷ later) → SynchronizesInOrder plan commands scope acts act
  synchronizes_in_order later runs =
      let obeys = (runs_split plan commands (opening plan scope) acts later act runs).1 in
      record { starts = refl; begins = λ begins. of_beginning obeys begins; anew = λ begun begins. of_resynchronizing obeys begun begins }
