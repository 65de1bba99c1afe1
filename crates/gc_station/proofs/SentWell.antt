-- When requests are sent, over whole runs: each command after a call of the table that a reply ended, and the first request of a
-- client is a null procedure. The count of the requests after the last call of the table that a reply ended is that of the course since
-- the synchronization, and a command is sent only if it is below seven. A course is what a client has sent and settled so far, and
-- the client after that; a part reaches from one synchronization to the next. An act is one call on the link, with its result.
use Rattle.gc_station.proofs.Common.{◌≡◌, ◌⊎◌, inl, inr, ℕ, ◌+◌, ◌<◌, ◌&&◌, ◌||◌, Bool, not, true, false, List, [], ◌∷◌, ◌++◌, length, Option, Some, None, refl, sym, ap, ◌∙◌, subst, arith, append_assoc, append-nil, if◌then◌else◌, slice_get, AllByRecursion, length-append, nil_from_length, both_ways, Asked, Table, NullProc, Wanted, Course, Step, begun, ById, fresh, deadlines, WINDOW, Task, Act, IsNearTheTable, client_after, CountsBehind, near_by_count, course_of, course_append, course_client, Mark, Plan, Action, Progress, CommandsAreSentNearTheTable, has_begun, HasEndedANull, HasAllUnanswered, SynchronizationsEndWithANull, null_asked, Part, parts_joined, client_part, sync_part, part_of_act, in_front, parts_of, turned, loses_all, is_over, HoldsBefore, Model, opening, action_at, waiting_of, with_progress, moved, losing, after, Performs, Runs, with_losses, parts, Scope}
use Rattle.gc_client.specs.Prelude.{Send}
use Rattle.gc_station.proofs.Behind.{behind_by, counts_steps}
use Rattle.gc_station.proofs.Booking.{sent_by, course_sent, sent_append, marks_ask_length}
use Rattle.gc_station.proofs.Counts.{losing_progress}
use Rattle.gc_station.proofs.EachRun.{invariant_after, invariant_opening}
use Rattle.gc_station.proofs.Facts.{action_for}
use Rattle.gc_station.proofs.FirstReply.{SendsNulls, AwaitsOrHasReply, awaits_steps, none_ended_yet, SendsFirst, sends_first}
use Rattle.gc_station.proofs.Invariant.{Invariant}
use Rattle.gc_station.proofs.NoneEnded.{NoneEndedBefore, none_ended, none_ended_after}
use Rattle.gc_station.proofs.Parting.{Leads, leads, keeps_new_client}
use Rattle.gc_station.proofs.Walk.{losing_along}
use Rattle.gc_station.proofs.Lists.{all_at, get_behind}
use Rattle.gc_station.proofs.Asked.{steps_none, begun_if_nothing_lost}
use Rattle.gc_station.proofs.Turns.{no_act_once_over}
use Rattle.gc_station.proofs.GoesBehind.{behind_counted, no_send, act_goes_out, SendsAs, client_nulls}
use Rattle.gc_station.specs.declared.progress.Action.TheVariants as action

-- Lists.

-- where two lists in a row are `front`, an element and more, the element is in the first list or in the second
abbrev pub Splits : {A : Type 0} → (xs ys front : List A) → A → List A → Type 0
Splits {A} xs ys front a later = ((mid : List A) × (xs ≡ front ++ a ∷ mid)) ⊎ ((rest : List A) × (front ≡ xs ++ rest) × (ys ≡ rest ++ a ∷ later))

-- `Splits` holds of two lists that are, in a row, `front`, a and `later`
pub split : {A : Type 0} (xs ys front : List A) (a : A) (later : List A) → xs ++ ys ≡ front ++ a ∷ later → Splits xs ys front a later
split [] ys front a later e = inr (front, refl, e)
split (x ∷ xs) ys [] a later e = let same : x ≡ a = cc in inl (xs, ap (λ y. y ∷ xs) same)
split (x ∷ xs) ys (f ∷ front) a later e =
    let head : x ≡ f = cc in
    let tails : xs ++ ys ≡ front ++ a ∷ later = cc in
    more (split xs ys front a later tails) head where
      -- the lemma above, for lists with one element more before both
      more : Splits xs ys front a later → x ≡ f → Splits (x ∷ xs) ys (f ∷ front) a later
      more (inl (mid, is)) head = inl (mid, ap (λ y. y ∷ xs) head ∙ ap (λ l. f ∷ l) is)
      more (inr (rest, is, others)) head = inr (rest, ap (λ l. f ∷ l) is ∙ ap (λ y. y ∷ (xs ++ rest)) (sym head), others)

-- Runs.

-- what is so where a request is sent after the course x: a reply has ended a null procedure; or all requests have timed out without a
-- reply, and it is a null procedure of the station's own, which has no mark
abbrev IsAfterANull : Course Asked → (target : ℕ) (call : Asked) (mark : Option Mark) → Type 0
IsAfterANull x target call mark = HasEndedANull x ⊎ (HasAllUnanswered x × (target ≡ 0) × (call ≡ Table NullProc) × (mark ≡ None))

-- and if it is a command, it is sent near the table (`IsNearTheTable`)
abbrev IsSentWell : Course Asked → (target : ℕ) (call : Asked) (mark : Option Mark) → Type 0
IsSentWell x target call mark = ((own : Mark) → mark ≡ Some own → IsNearTheTable x) × IsAfterANull x target call mark

-- the count b is right for the course x, and until it is below seven nothing is settled
abbrev CountsWell : Course Asked → (b : ℕ) → Type 0
CountsWell x b = CountsBehind x b × AwaitsOrHasReply x b

-- `IsSentWell` holds wherever a request is sent in the part p, if the steps `done` come before those of p in the same part
abbrev AllSentWell : (done : List (Step Asked)) → (p : Part) → Type 0
AllSentWell done p =
    (front later : List (Step Asked)) (target : ℕ) (call : Asked) (deadline : ℕ) (mark : Option Mark) → p.steps ≡ front ++ Send target call deadline ∷ later
    → slice_get p.marks (length (sent_by (course_of done).client front)) ≡ Some mark → IsSentWell (course_of (done ++ front)) target call mark

-- `AllSentWell` holds of each of these parts; the steps `done` come before those of the first
abbrev AreSentWell : (done : List (Step Asked)) → List Part → Type 0
AreSentWell done [] = Unit {0}
AreSentWell done (p ∷ ps) = AllSentWell done p × AllByRecursion (AllSentWell []) ps

-- if `AreSentWell` holds of parts with nothing done before, `AllSentWell` holds of each
well_all : (ps : List Part) → AreSentWell [] ps → AllByRecursion (AllSentWell []) ps
well_all [] h = tt
well_all (p ∷ ps) h = h

module _ (plan : Plan) (commands : List Task) (s : Model) (o : Action) (act : Act) (done : List (Step Asked)) (fine : Invariant plan commands s)
    (is : HoldsBefore plan s.progress (waiting_of s) o) (obeys : Performs commands s o act) (client : s.client ≡ (course_of done).client)
    (counts : CountsWell (course_of done) s.progress.exchange.behind) where
  -- the client's part of the act
  abbrev p : Part
  p = part_of_act plan commands s o act

  -- the act leads from its model to the next by its part
  led : Leads commands s p (moved plan commands o (with_progress turned s) act)
  led = leads plan commands s o act fine is obeys

  -- `IsSentWell` holds where the act sends a request. `more` are marks of requests after those of the act
  sends_well : (more : List (Option Mark)) (front later : List (Step Asked)) (target : ℕ) (call : Asked) (deadline : ℕ) (mark : Option Mark) → p.steps ≡ front ++ Send target call deadline ∷ later
      → slice_get (p.marks ++ more) (length (sent_by (course_of done).client front)) ≡ Some mark → IsSentWell (course_of (done ++ front)) target call mark
  sends_well more front later target call deadline mark e at =
      let so = act_goes_out plan commands s (course_of done).client more front later target call deadline mark o act (has_begun s.progress) (e, at) in
      subst (λ (l : List (Step Asked)). IsSentWell (course_of l) target call mark) (sym (ap (λ l. done ++ l) so.0 ∙ append-nil done))
      (by_action o so.1 is) where
        -- a command is sent only if fewer than seven requests were sent after the last call of the table that a reply ended
        of_command : s.progress.exchange.behind < WINDOW → IsSentWell (course_of done) target call mark
        of_command near = (λ own e. near_by_count (course_of done) s.progress.exchange.behind counts.0 near, inl (by_reply counts.1)) where
          -- then a reply has ended a null procedure
          by_reply : AwaitsOrHasReply (course_of done) s.progress.exchange.behind → HasEndedANull (course_of done)
          by_reply (inl ended) = ended
          by_reply (inr none) = let far = none.0 in absurd (omega (arith, near, far))

        -- a null procedure is sent once nothing is in flight that hasn't timed out
        of_null : (target ≡ 0) × (call ≡ Table NullProc) × (mark ≡ None) → HoldsBefore plan s.progress (waiting_of s) action.Flush → IsSentWell (course_of done) target call mark
        of_null own needs = (λ other e. let no : ◌≡◌ {A = Option Mark} None (Some other) = sym own.2 ∙ e in cc, by_reply counts.1) where
          -- whether a reply has ended a null procedure
          by_reply : AwaitsOrHasReply (course_of done) s.progress.exchange.behind → IsAfterANull (course_of done) target call mark
          by_reply (inl ended) = inl ended
          by_reply (inr none) =
              let timed : length (deadlines (course_of done).client.waiting) ≡ 0 = ap (λ (c : ById Asked). length (deadlines c.waiting)) (sym client) ∙ needs.3 in
              inr ((none.1, nil_from_length (deadlines (course_of done).client.waiting) timed), own.0, own.1, own.2)

        -- the lemma above, by the action
        by_action : (o : Action) → SendsAs plan commands s (course_of done).client more front later target call deadline mark o → HoldsBefore plan s.progress (waiting_of s) o
            → IsSentWell (course_of done) target call mark
        by_action action.Send so needs = of_command needs.5
        by_action action.Prepare so needs = of_command needs.4
        by_action action.Flush so needs = of_null so needs
        by_action other so needs = absurd so

  -- the part of the act has as many marks as its steps send requests
  as_many : length p.marks ≡ length (sent_by (course_of done).client p.steps)
  as_many = marks_ask_length commands p.marks (sent_by s.client p.steps) led.wrote.sent ∙ ap (λ (c : ById Asked). length (sent_by c p.steps)) client

  -- `AllSentWell` holds of the act's part joined with a part q, if it holds of q after the steps of the act
  joined_well : (q : Part) → AllSentWell (done ++ p.steps) q → AllSentWell done (parts_joined p q)
  joined_well q h front later target call deadline mark e at = by_case (split p.steps q.steps front (Send target call deadline) later e) where
    -- the lemma above, whether the request is sent at the act or after it
    by_case : Splits p.steps q.steps front (Send target call deadline) later → IsSentWell (course_of (done ++ front)) target call mark
    by_case (inl (mid, here)) = sends_well q.marks front mid target call deadline mark here at
    by_case (inr (rest, is_front, there)) =
        let c = (course_of done).client in
        let after : (course_of (done ++ p.steps)).client ≡ client_after c p.steps =
        ap (λ y. y.client) (course_append WINDOW done p.steps begun) ∙ course_client p.steps (course_of done) in
        let sent = sent_append c p.steps rest in
        let many = length-append (sent_by c p.steps) (sent_by (client_after c p.steps) rest) in
        let count : length (sent_by c front) ≡ length p.marks + length (sent_by (client_after c p.steps) rest) =
        ap (λ l. length (sent_by c l)) is_front ∙ ap length sent ∙ many ∙ ap (λ n. n + length (sent_by (client_after c p.steps) rest)) (sym as_many) in
        let at_q = sym (get_behind p.marks q.marks (length (sent_by c front)) (length (sent_by (client_after c p.steps) rest)) count) ∙ at in
        subst (λ (l : List (Step Asked)). IsSentWell (course_of l) target call mark) (append_assoc done p.steps rest ∙ ap (λ l. done ++ l) (sym is_front))
        (h rest later target call deadline mark there (ap (λ (k : ById Asked). slice_get q.marks (length (sent_by k rest))) after ∙ at_q))

  -- `AllSentWell` holds of the part of the act alone
  alone_well : AllSentWell done p
  alone_well front later target call deadline mark e at =
      sends_well [] front later target call deadline mark e (ap (λ l. slice_get l (length (sent_by (course_of done).client front))) (append-nil p.marks) ∙ at)

  -- `AreSentWell` holds with the act's part joined to the first of the others, if it holds of these after the act's steps
  front_well : (ps : List Part) → AreSentWell (done ++ p.steps) ps → AreSentWell done (in_front p false ps)
  front_well [] h = (alone_well, tt)
  front_well (q ∷ ps) h = (joined_well q h.0, h.1)

-- a new client has sent nothing, so `CountsWell` holds of it with the count seven
new_counts : (b : ℕ) → b ≡ WINDOW → CountsWell (course_of []) b
new_counts b far = (λ low. absurd (omega (arith, low, far)), inr (far, refl, tt))

-- a client that is new stays new, whether what is outstanding is lost or not
fresh_client_stays : (t : Model) (all : Bool) → t.client ≡ fresh → (losing all t).client ≡ fresh
fresh_client_stays t all e = losing_along (λ (u : Model). u.client ≡ fresh) all t refl e

-- one act more, before the parts `ps` of the acts after it
module _ (plan : Plan) (commands : List Task) (s : Model) (act : Act) (done : List (Step Asked)) (fine : Invariant plan commands s)
    (obeys : Performs commands s (action_at plan s) act) (client : s.client ≡ (course_of done).client) (new : has_begun s.progress ≡ false → done ≡ [])
    (none : NoneEndedBefore s.progress) (counts : CountsWell (course_of done) s.progress.exchange.behind) (ps : List Part) where
  -- the action that the act performs
  abbrev o : Action
  o = action_at plan s

  -- the conditions of that action hold
  its : HoldsBefore plan s.progress (waiting_of s) o
  its = action_for plan s.progress (waiting_of s)

  -- the client's part of the act
  abbrev part : Part
  part = part_of_act plan commands s o act

  -- the model after it, before what is outstanding is lost
  abbrev t : Model
  t = moved plan commands o (with_progress turned s) act

  -- the model after the act
  abbrev u : Model
  u = with_losses t

  -- the steps of the act's part, by whether the station has synchronized (b)
  part_is : (b : Bool) → has_begun s.progress ≡ b → part.steps ≡ (if b then client_part plan commands s o act else sync_part s o act).steps
  part_is b w = ap (λ (x : Bool). (if x then client_part plan commands s o act else sync_part s o act).steps) w

  -- if the station has synchronized before the act and after it, the act changes the count as the steps of its part do
  part_counted : has_begun s.progress ≡ true → has_begun t.progress ≡ true → t.progress.exchange.behind ≡ behind_by (course_of done).client s.progress.exchange.behind part.steps
  part_counted w still =
      behind_counted plan commands s o act fine its obeys w still
      ∙ ap (behind_by s.client s.progress.exchange.behind) (sym (part_is true w)) ∙ ap (λ (c : ById Asked). behind_by c s.progress.exchange.behind part.steps) client

  -- the client after the act, before what is outstanding is lost, is that of the course after the steps of the act's part
  part_client : (course_of (done ++ part.steps)).client ≡ t.client
  part_client =
      ap (λ y. y.client) (course_append WINDOW done part.steps begun) ∙ course_client part.steps (course_of done) ∙ ap (λ (c : ById Asked). client_after c part.steps) (sym client)
      ∙ (led plan commands s o act done fine its obeys client counts).client

  -- the loss of what is outstanding changes no progress
  same_progress : u.progress ≡ t.progress
  same_progress = losing_progress (loses_all t.progress) t

  -- if the station has synchronized before the act and after it, the count stays right
  counts_on : has_begun s.progress ≡ true → has_begun t.progress ≡ true → CountsWell (course_of (done ++ part.steps)) t.progress.exchange.behind
  counts_on w still =
      let counted = sym (part_counted w still) in
      let nulls : s.progress.exchange.behind ≡ WINDOW → AllByRecursion SendsNulls part.steps =
      λ far. subst (AllByRecursion SendsNulls) (sym (part_is true w)) (client_nulls plan commands s far o act its) in (
        subst (λ (n : ℕ). CountsBehind (course_of (done ++ part.steps)) n) counted (counts_steps done part.steps s.progress.exchange.behind counts.0),
        subst (λ (n : ℕ). AwaitsOrHasReply (course_of (done ++ part.steps)) n) counted (awaits_steps done part.steps s.progress.exchange.behind nulls counts.1),
      )

  -- what the parts after the act need: the client after it is that of the course after the steps `later`, none if the station has to
  -- synchronize; and unless the run is over, the count is right for that course
  abbrev IsFitFor : (later : List (Step Asked)) → Type 0
  IsFitFor later =
      (u.client ≡ (course_of later).client) × (has_begun u.progress ≡ false → later ≡ []) × (is_over u.progress ≡ false → CountsWell (course_of later) u.progress.exchange.behind)

  -- if `AreSentWell` holds of the parts after the act, it holds with the act's part before them; by whether the station had
  -- synchronized before the act (`started`), and whether what is outstanding is lost at its end (`all`)
  well_with_part : (started all : Bool) → has_begun s.progress ≡ started → loses_all t.progress ≡ all
      → ((later : List (Step Asked)) → IsFitFor later → AreSentWell later ps)
      → AreSentWell done (in_front part (started && all) ps)
  well_with_part true true w l next = (
    alone_well plan commands s o act done fine its obeys client counts,
    well_all ps (next [] (
      ap (λ b. (losing b t).client) l,
      λ e. refl,
      λ going.
          new_counts u.progress.exchange.behind (none_ended_after plan commands s act obeys none (lost_anew (has_begun u.progress) (is_over u.progress) going (ap loses_all same_progress ∙ l))),
    )),
  ) where
    -- if all is lost and the run isn't over, the station synchronizes
    lost_anew : (begun over : Bool) → over ≡ false → (not begun || over) ≡ true → begun ≡ false
    lost_anew false over e f = refl
    lost_anew true over e f = absurd (both_ways over e f)
  well_with_part true false w l next =
      let same : u ≡ t = ap (λ b. losing b t) l in
      let still = begun_if_nothing_lost t l in
      front_well plan commands s o act done fine its obeys client counts ps
      (next (done ++ part.steps) (
        ap (λ (x : Model). x.client) same ∙ sym part_client,
        λ e. absurd (both_ways (has_begun t.progress) (ap (λ (x : Model). has_begun x.progress) (sym same) ∙ e) still),
        λ going. subst (λ (x : Model). CountsWell (course_of (done ++ part.steps)) x.progress.exchange.behind) (sym same) (counts_on w still),
      ))
  well_with_part false all w l next =
      let kept = keeps_new_client plan commands s o act its obeys w (fine.begins w) in
      let steps : part.steps ≡ [] = part_is false w ∙ steps_none s o act in
      let none_done : done ++ part.steps ≡ [] = ap (λ l. l ++ part.steps) (new w) ∙ steps in
      let still : t.progress.exchange.behind ≡ WINDOW = none_ended plan commands s o act its obeys w (none w) in
      front_well plan commands s o act done fine its obeys client counts ps
      (subst (λ (l : List (Step Asked)). AreSentWell l ps) (sym none_done)
      (next [] (
        fresh_client_stays t (loses_all t.progress) kept.0,
        λ e. refl,
        λ going. new_counts u.progress.exchange.behind (ap (λ (p : Progress). p.exchange.behind) same_progress ∙ still),
      )))

module _ (plan : Plan) (commands : List Task) where
  -- `AreSentWell` holds of the parts of a run from the model s on, if s has the client of the course after the steps `done`, its
  -- count is right for that course, and `done` is empty if the station hasn't synchronized in s
  well_from : (s : Model) (acts : List Act) (done : List (Step Asked)) → Invariant plan commands s → (runs : Runs plan commands s acts) → NoneEndedBefore s.progress
      → (same : s.client ≡ (course_of done).client) → (none_done : has_begun s.progress ≡ false → done ≡ [])
      → (is_over s.progress ≡ false → CountsWell (course_of done) s.progress.exchange.behind) → AreSentWell done (parts_of plan commands s acts)
  well_from s [] done fine runs none client new counts = ((λ front later target call deadline mark e at. absurd (no_send [] front later target call deadline tt e)), tt)
  well_from s (act ∷ acts) done fine runs none client new counts =
      let t = moved plan commands (action_at plan s) (with_progress turned s) act in
      let ps = parts_of plan commands (after plan commands s act) acts in
      subst (λ b. AreSentWell done (in_front (part_of_act plan commands s (action_at plan s) act) (has_begun s.progress && b) ps)) (sym (ap loses_all (losing_progress (loses_all t.progress) t)))
      (well_with_part plan commands s act done fine runs.0 client new none (counts (wasnt_over (is_over s.progress) refl)) ps (has_begun s.progress) (loses_all t.progress) refl refl
      (λ later fit.
      well_from (after plan commands s act) acts later (invariant_after plan commands s act fine) runs.1 (none_ended_after plan commands s act runs.0 none) fit.0 fit.1 fit.2)) where
        -- the run wasn't over before the act
        wasnt_over : (b : Bool) → is_over s.progress ≡ b → is_over s.progress ≡ false
        wasnt_over true e = absurd (no_act_once_over plan commands s act e runs.0)
        wasnt_over false e = e

  -- `AllSentWell` holds of each part of a run
  pub sent_well : (scope : Scope) (acts : List Act) → Runs plan commands (opening plan scope) acts → (i : ℕ) (part : Part) → slice_get (parts plan commands scope acts) i ≡ Some part → AllSentWell [] part
  sent_well scope acts runs i part at =
      let all = well_all (parts plan commands scope acts)
      (well_from (opening plan scope) acts [] (invariant_opening plan commands scope) runs (λ e. refl) refl (λ b. refl) (λ going. new_counts WINDOW refl)) in
      all_at (AllSentWell []) (parts plan commands scope acts) i part all at

-- the law: wherever a command is sent, one of the seven requests before it is a call of the table that a reply ended
pub behind_the_table : CommandsAreSentNearTheTable
behind_the_table plan commands scope acts runs i q at front later target call deadline mark e here =
    (sent_well plan commands scope acts runs i q at front later target call deadline (Some mark) e (ap (λ l. slice_get q.marks (length l)) (sym (course_sent front begun)) ∙ here)).0 mark refl

-- the law: each part of a run begins with a null procedure
pub begins_with_null : SynchronizationsEndWithANull
begins_with_null plan commands scope acts runs i q at =
    record {
      first = first;
      ended = λ front later target call deadline mark e here. by_mark (course_of front) target call mark (well front later target call deadline (Some mark) e here).1;
      alone = λ front later target call deadline mark e here. by_reply (course_of front) target call mark (well front later target call deadline mark e here).1;
    } where
      -- what is so of each request of the part
      well : (front later : List (Step Asked)) (target : ℕ) (call : Asked) (deadline : ℕ) (mark : Option Mark) → q.steps ≡ front ++ Send target call deadline ∷ later
          → slice_get q.marks (length (course_of front).sent) ≡ Some mark → IsSentWell (course_of front) target call mark
      well front later target call deadline mark e here =
          sent_well plan commands scope acts runs i q at front later target call deadline mark e (ap (λ l. slice_get q.marks (length l)) (sym (course_sent front begun)) ∙ here)

      -- before a command a reply has ended a null procedure
      by_mark : (x : Course Asked) (target : ℕ) (call : Asked) (mark : Mark) → IsAfterANull x target call (Some mark) → HasEndedANull x
      by_mark x target call mark (inl ended) = ended
      by_mark x target call mark (inr null) = let no : ◌≡◌ {A = Option Mark} None (Some mark) = sym null.3 in cc

      -- before each request a reply has ended a null procedure, or all have timed out
      by_reply : (x : Course Asked) (target : ℕ) (call : Asked) (mark : Option Mark) → IsAfterANull x target call mark → HasEndedANull x ⊎ HasAllUnanswered x
      by_reply x target call mark (inl ended) = inl ended
      by_reply x target call mark (inr null) = inr null.0

      -- the first request is a null procedure
      first : (asked : Wanted Asked) (mark : Option Mark) → slice_get (course_of q.steps).sent 0 ≡ Some asked → slice_get q.marks 0 ≡ Some mark → (asked ≡ null_asked) × (mark ≡ None)
      first asked mark sent own = by_case (well it.front it.later asked.target asked.call it.deadline mark it.split (ap (λ l. slice_get q.marks (length l)) it.none ∙ own)).1 where
        -- where it is sent
        it : SendsFirst q.steps asked
        it = sends_first [] q.steps asked refl sent

        -- a request for no target whose call is a null procedure is one
        same : (a : Wanted Asked) → a.target ≡ 0 → a.call ≡ Table NullProc → a ≡ null_asked
        same a e f = ap (λ (n : ℕ). record { target = n; call = a.call }) e ∙ ap (λ (c : Asked). record { target = 0; call = c }) f

        -- the lemma above: nothing was ended before it
        by_case : IsAfterANull (course_of it.front) asked.target asked.call mark → (asked ≡ null_asked) × (mark ≡ None)
        by_case (inl ended) = absurd (none_ended_yet it.front it.none ended)
        by_case (inr null) = (same asked null.1 null.2, null.3)
