-- Which act sends the request of a command; and that records stay. An act is one call on the link, with its result. A part
-- reaches from one synchronization of the station to the next. A mark says which command a request is of, or `None` of a null
-- procedure.
use Rattle.gc_station.proofs.Common.{◌≡◌, ◌⊎◌, inl, inr, ℕ, zero, suc, ◌+◌, Bool, true, false, List, [], ◌∷◌, ◌++◌, length, drop, Some, None, refl, sym, ◌∙◌, ap, subst, arith, slice_get, length-append, none-some, same_Some, cond_both, Task, Mark, Plan, Action, Send, Flush, Prepare, Act, Put, Cut, has_begun, RecordsStay, Part, idle_part, parts_joined, request_part, first_request_part, put_part, client_part, sync_part, part_of_act, ends_part, in_front, parts_of, turned, loses_all, state_after, Model, opening, action_at, with_progress, moved, after, after_all, request_or_null, mark_sent, mark_setup_sent, place_next, Grew}
use Rattle.gc_station.proofs.Outs.{SendsMarked}
use Rattle.gc_station.proofs.Asked.{marks_none}
use Rattle.gc_station.proofs.Going.{after_all-append}
use Rattle.gc_station.proofs.Growing.{losing_records, moved_grew}
use Rattle.gc_station.proofs.Records.{grew_none, grew_then}
use Rattle.gc_station.proofs.Walk.{acts_along}

-- Lists.

-- what is at a place of two lists in a row is in the first list, or at a place of the second
pub get_split : {A : Type 0} (xs ys : List A) (n : ℕ) (x : A) → slice_get (xs ++ ys) n ≡ Some x → (slice_get xs n ≡ Some x) ⊎ ((k : ℕ) × (n ≡ length xs + k) × (slice_get ys k ≡ Some x))
get_split [] ys n x e = inr (n, omega arith, e)
get_split (y ∷ xs) ys zero x e = inl e
get_split (y ∷ xs) ys (suc n) x e =
    elim (get_split xs ys n x e) [
      | inl l ↦ inl l
      | inr r ↦ (let at : n ≡ length xs + r.0 = r.1 in inr (r.0, omega (arith, at), r.2))
    ]

-- What is recorded stays.

-- the records before an act are the first of those after it
pub after_grew : (plan : Plan) (commands : List Task) (s : Model) (act : Act) → Grew s.records (after plan commands s act).records
after_grew plan commands s act =
    let t = moved plan commands (action_at plan s) (with_progress turned s) act in
    grew_then s.records t.records (after plan commands s act).records (moved_grew plan commands (action_at plan s) (with_progress turned s) act) (losing_records (loses_all t.progress) t)

-- the records before acts are the first of those after them
pub all_grew : (plan : Plan) (commands : List Task) (s : Model) (acts : List Act) → Grew s.records (after_all plan commands s acts).records
all_grew plan commands s acts =
    acts_along plan commands (λ (t : Model). Grew s.records t.records)
    (λ t act g. grew_then s.records t.records (after plan commands t act).records g (after_grew plan commands t act)) s acts (grew_none s.records)

-- the law: the records after some acts stay, before those of the acts that follow
pub records_stay : RecordsStay
records_stay plan commands scope before rest =
    let g = all_grew plan commands (state_after plan commands scope before) rest in
    (g.0, ap (λ (s : Model). s.records) (after_all-append plan commands (opening plan scope) before rest) ∙ g.1)

-- Which act sends the request of a command.

-- the part of the request for the first of some commands, which is sent with the mark `its`, has no other mark, and that at
-- place 0
pub put_mark : (now : ℕ) (its : Mark) (left : List Task) (n : ℕ) (mark : Mark) → slice_get (first_request_part now its left).marks n ≡ Some (Some mark) → (n ≡ 0) × (mark ≡ its)
put_mark now its [] n mark e = absurd (none-some (Some mark) e)
put_mark now its (task ∷ others) zero mark e = (refl, sym (same_Some its mark (same_Some (Some its) (Some mark) e)))
put_mark now its (task ∷ others) (suc n) mark e = absurd (none-some (Some mark) e)

-- a null procedure has no mark
pub null_mark : (n : ℕ) (mark : Mark) → slice_get (None ∷ []) n ≡ Some (Some mark) → ⊥
null_mark zero mark e = cc
null_mark (suc n) mark e = none-some (Some mark) e

-- the part of the request for the first of some commands of the setup, sent with the mark `its`, or for a null procedure if
-- there is no command, has no other mark, and that at place 0
pub setup_mark : (plan : Plan) (now : ℕ) (its : Mark) (left : List Task) (n : ℕ) (mark : Mark)
    → slice_get (request_part now (request_or_null plan its left)).marks n ≡ Some (Some mark) → (n ≡ 0) × (mark ≡ its)
setup_mark plan now its [] n mark e = absurd (null_mark n mark e)
setup_mark plan now its (task ∷ others) n mark e = put_mark now its (task ∷ others) n mark e

-- this action sends the command with this mark, as request n of its part, which has no other: n is 0
abbrev pub SendsMarkedAt : Plan → List Task → Model → Action → (n : ℕ) → Mark → Type 0
SendsMarkedAt plan commands s o n mark = (n ≡ 0) × SendsMarked plan commands s o mark

-- a mark in the part of bytes that are put is of a command that the action sends
pub put_part_sends : (plan : Plan) (commands : List Task) (s : Model) (o : Action) (n : ℕ) (mark : Mark)
    → slice_get (put_part plan commands s o).marks n ≡ Some (Some mark) → SendsMarkedAt plan commands s o n mark
put_part_sends plan commands s Prepare n mark e =
    let h = setup_mark plan s.progress.moment.elapsed (mark_setup_sent commands s) (drop s.progress.prepared commands) n mark e in (h.0, inr (refl, h.1))
put_part_sends plan commands s Send n mark e =
    let h = put_mark s.progress.moment.elapsed (mark_sent plan commands s) (drop (place_next commands s.progress) commands) n mark e in (h.0, inl (refl, h.1))
put_part_sends plan commands s Flush n mark e = absurd (null_mark n mark e)
put_part_sends plan commands s o n mark e = absurd (none-some (Some mark) e)

-- a mark in the part of an act is of a command that is sent, once the station has synchronized
pub client_part_sends : (plan : Plan) (commands : List Task) (s : Model) (o : Action) (act : Act) (n : ℕ) (mark : Mark)
    → slice_get (client_part plan commands s o act).marks n ≡ Some (Some mark) → SendsMarkedAt plan commands s o n mark
client_part_sends plan commands s o (Put bytes) n mark e = put_part_sends plan commands s o n mark e
client_part_sends plan commands s o (Cut bytes count) n mark e = put_part_sends plan commands s o n mark e
client_part_sends plan commands s o act n mark e = absurd (none-some (Some mark) e)

-- while the station synchronizes no request is a command's
pub sync_part_sends_none : (s : Model) (o : Action) (act : Act) (n : ℕ) (mark : Mark) → slice_get (sync_part s o act).marks n ≡ Some (Some mark) → ⊥
sync_part_sends_none s o act n mark e = none-some (Some mark) (ap (λ marks. slice_get marks n) (sym (marks_none s o act)) ∙ e)

-- a mark in the part of an act is of a command that is sent
pub act_part_sends : (plan : Plan) (commands : List Task) (s : Model) (o : Action) (act : Act) (n : ℕ) (mark : Mark)
    → slice_get (part_of_act plan commands s o act).marks n ≡ Some (Some mark) → SendsMarkedAt plan commands s o n mark
act_part_sends plan commands s o act n mark =
    cond_both (has_begun s.progress) (client_part plan commands s o act) (sync_part s o act) (λ (p : Part). slice_get p.marks n ≡ Some (Some mark) → SendsMarkedAt plan commands s o n mark)
    (λ begun e. client_part_sends plan commands s o act n mark e) (λ begins e. absurd (sync_part_sends_none s o act n mark e))

-- among these acts the command with this mark is sent, as request n of part i, both counted from 0: after the acts `before`, part
-- i is the last one and has n requests so far
pub record SentAt (plan : Plan) (commands : List Task) (s : Model) (acts : List Act) (i n : ℕ) (mark : Mark) : Type 0 where
  pub before : List Act
  pub act : Act
  pub rest : List Act
  pub order : acts ≡ before ++ act ∷ rest
  pub its : SendsMarked plan commands (after_all plan commands s before) (action_at plan (after_all plan commands s before)) mark
  pub so_far : Part
  pub of_parts : slice_get (parts_of plan commands s before) i ≡ Some so_far
  pub last : length (parts_of plan commands s before) ≡ suc i
  pub count : length so_far.marks ≡ n

-- where a part p is joined to the first of these parts, q, the first is then p and q in one (`parts_joined`)
pub joined_first : (p : Part) (ps : List Part) (q : Part) → slice_get ps 0 ≡ Some q → slice_get (in_front p false ps) 0 ≡ Some (parts_joined p q)
joined_first p [] q e = absurd (none-some q e)
joined_first p (x ∷ ps) q e = ap (λ y. Some (parts_joined p y)) (same_Some x q e)

-- the parts after the first stay at their places where a part is joined to the first
pub joined_later : (p : Part) (ps : List Part) (i : ℕ) (q : Part) → slice_get ps (suc i) ≡ Some q → slice_get (in_front p false ps) (suc i) ≡ Some q
joined_later p [] i q e = absurd (none-some q e)
joined_later p (x ∷ ps) i q e = e

-- once a part is joined to the first of some parts, of which there is at least one, there are as many as before
pub joined_length : (p : Part) (ps : List Part) (i : ℕ) → length ps ≡ suc i → length (in_front p false ps) ≡ suc i
joined_length p [] i e = absurd (omega (arith, e))
joined_length p (x ∷ ps) i e = e

module _ (plan : Plan) (commands : List Task) where
  -- `SentAt` of this plan and these commands
  abbrev Sent : Model → List Act → (i n : ℕ) → Mark → Type 0
  Sent s acts i n mark = SentAt plan commands s acts i n mark

  -- the model after an act
  abbrev next_state : Model → Act → Model
  next_state s act = after plan commands s act

  -- the part of an act that performs the action that is next
  abbrev part_at : Model → Act → Part
  part_at s act = part_of_act plan commands s (action_at plan s) act

  -- if the part of the first act has the mark of a command, the first act sends the command
  pub sent_here : (s : Model) (act : Act) (acts : List Act) (n : ℕ) (mark : Mark)
      → slice_get (part_at s act).marks n ≡ Some (Some mark) → Sent s (act ∷ acts) 0 n mark
  sent_here s act acts n mark e =
      let h = act_part_sends plan commands s (action_at plan s) act n mark e in
      record { before = []; act = act; rest = acts; order = refl; its = h.1; so_far = idle_part; of_parts = refl; last = refl; count = sym h.0 }

  -- if the acts after the first one send the command with this mark (`h`), all acts send it as request n of part i, where that is
  -- the last part of the first act and of those before `h.act`, and has n requests so far
  one_before : (s : Model) (act : Act) (acts : List Act) (i n j k : ℕ) (mark : Mark) (so_far : Part) → (h : Sent (next_state s act) acts j k mark)
      → slice_get (parts_of plan commands s (act ∷ h.before)) i ≡ Some so_far → length (parts_of plan commands s (act ∷ h.before)) ≡ suc i → length so_far.marks ≡ n
      → Sent s (act ∷ acts) i n mark
  one_before s act acts i n j k mark so_far h there last count = record {
    before = act ∷ h.before;
    act = h.act;
    rest = h.rest;
    order = ap (λ l. act ∷ l) h.order;
    its = h.its;
    so_far = so_far;
    of_parts = there;
    last = last;
    count = count;
  }

  -- if a part ends with the first act, a command that the acts after it send as request n of part i is, with the first act
  -- counted, request n of part i + 1
  pub sent_cut : (s : Model) (act : Act) (acts : List Act) (i n : ℕ) (mark : Mark) → ends_part plan commands s act ≡ true
      → Sent (next_state s act) acts i n mark → Sent s (act ∷ acts) (suc i) n mark
  sent_cut s act acts i n mark is h =
      let p = part_at s act in
      let ps = parts_of plan commands (next_state s act) h.before in
      one_before s act acts (suc i) n i n mark h.so_far h (subst (λ b. slice_get (in_front p b ps) (suc i) ≡ Some h.so_far) (sym is) h.of_parts)
      (subst (λ b. length (in_front p b ps) ≡ suc (suc i)) (sym is) (ap suc h.last)) h.count

  -- if no part ends with the first act, a command that the acts after it send as request k of the first part is, with the first
  -- act counted, in the first part still, after the requests of the first act
  pub sent_on : (s : Model) (act : Act) (acts : List Act) (n k : ℕ) (mark : Mark) → ends_part plan commands s act ≡ false → n ≡ length (part_at s act).marks + k
      → Sent (next_state s act) acts 0 k mark → Sent s (act ∷ acts) 0 n mark
  sent_on s act acts n k mark is at h =
      let p = part_at s act in
      let ps = parts_of plan commands (next_state s act) h.before in
      let size : length (p.marks ++ h.so_far.marks) ≡ length p.marks + length h.so_far.marks = length-append p.marks h.so_far.marks in
      let count : length h.so_far.marks ≡ k = h.count in
      one_before s act acts 0 n 0 k mark (parts_joined p h.so_far) h
      (subst (λ b. slice_get (in_front p b ps) 0 ≡ Some (parts_joined p h.so_far)) (sym is) (joined_first p ps h.so_far h.of_parts))
      (subst (λ b. length (in_front p b ps) ≡ 1) (sym is) (joined_length p ps 0 h.last)) (omega (arith, size, count, at))

  -- if no part ends with the first act, a command that the acts after it send in a later part than the first is at the same place
  -- with the first act counted
  pub sent_later : (s : Model) (act : Act) (acts : List Act) (i n : ℕ) (mark : Mark) → ends_part plan commands s act ≡ false
      → Sent (next_state s act) acts (suc i) n mark → Sent s (act ∷ acts) (suc i) n mark
  sent_later s act acts i n mark is h =
      let p = part_at s act in
      let ps = parts_of plan commands (next_state s act) h.before in
      one_before s act acts (suc i) n (suc i) n mark h.so_far h (subst (λ b. slice_get (in_front p b ps) (suc i) ≡ Some h.so_far) (sym is) (joined_later p ps i h.so_far h.of_parts))
      (subst (λ b. length (in_front p b ps) ≡ suc (suc i)) (sym is) (joined_length p ps (suc i) h.last)) h.count

  -- if the acts after the first one send each request with this mark that the parts `ps` have, all acts send each that these
  -- parts have with the first act's part before them, whether the first act ends a part (b) or not
  pub sent_by : (s : Model) (act : Act) (acts : List Act) (b : Bool) (ps : List Part) (i n : ℕ) (part : Part) (mark : Mark) → ends_part plan commands s act ≡ b
      → ((j k : ℕ) (p : Part) → slice_get ps j ≡ Some p → slice_get p.marks k ≡ Some (Some mark) → Sent (next_state s act) acts j k mark)
      → slice_get (in_front (part_at s act) b ps) i ≡ Some part → slice_get part.marks n ≡ Some (Some mark) → Sent s (act ∷ acts) i n mark
  sent_by s act acts true ps zero n part mark is again e f =
      sent_here s act acts n mark (subst (λ (p : Part). slice_get p.marks n ≡ Some (Some mark)) (sym (same_Some (part_at s act) part e)) f)
  sent_by s act acts true ps (suc i) n part mark is again e f = sent_cut s act acts i n mark is (again i n part e f)
  sent_by s act acts false [] zero n part mark is again e f =
      sent_here s act acts n mark (subst (λ (p : Part). slice_get p.marks n ≡ Some (Some mark)) (sym (same_Some (part_at s act) part e)) f)
  sent_by s act acts false [] (suc i) n part mark is again e f = absurd (none-some part e)
  sent_by s act acts false (q ∷ ps) zero n part mark is again e f =
      let p = part_at s act in
      elim (get_split p.marks q.marks n (Some mark) (subst (λ (x : Part). slice_get x.marks n ≡ Some (Some mark)) (sym (same_Some (parts_joined p q) part e)) f)) [
        | inl l ↦ sent_here s act acts n mark l
        | inr r ↦ sent_on s act acts n r.0 mark is r.1 (again 0 r.0 q refl r.2)
      ]
  sent_by s act acts false (q ∷ ps) (suc i) n part mark is again e f = sent_later s act acts i n mark is (again (suc i) n part e f)

  -- a request of a command in a run's parts was sent among the run's acts
  pub sent_at : (s : Model) (acts : List Act) (i n : ℕ) (part : Part) (mark : Mark) → slice_get (parts_of plan commands s acts) i ≡ Some part
      → slice_get part.marks n ≡ Some (Some mark) → Sent s acts i n mark
  sent_at s [] zero n part mark e f = absurd (none-some (Some mark) (subst (λ (p : Part). slice_get p.marks n ≡ Some (Some mark)) (sym (same_Some idle_part part e)) f))
  sent_at s [] (suc i) n part mark e f = absurd (none-some part e)
  sent_at s (act ∷ acts) i n part mark e f =
      sent_by s act acts (ends_part plan commands s act) (parts_of plan commands (next_state s act) acts) i n part mark refl
      (λ j k p g h. sent_at (next_state s act) acts j k p mark g h) e f
