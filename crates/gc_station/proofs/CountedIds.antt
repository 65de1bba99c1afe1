-- The ids of a run's requests: in each part, which reaches from one synchronization to the next, they count up from 0, going round at 8. An
-- act is one call on the link, with its result.
use Rattle.gc_station.proofs.Common.{◌≡◌, inl, inr, ℕ, zero, suc, ◌+◌, ◌<◌, ◌%◌, ◌&&◌, Bool, true, false, if◌then◌else◌, List, [], ◌∷◌, ◌++◌, map, drop, Option, Some, None, refl, sym, ◌∙◌, ap, subst, arith, slice_get, AllByRecursion, same_Some, Asked, Hear, Expire, sent_on, course_at, ById, Sending, fresh, fits, heard, hears, place_in, settles_at, IDS, Act, Told, Put, Cut, Gave, Silent, Task, client_after, client_stepped, Mark, Plan, Action, has_begun, parts, Model, action_at, after, is_heard, lines_completed, losing, mark_sent, mark_setup_sent, moved, opening, request_or_null, Runs, waiting_of, with_losses, with_progress, Performs, commands_left, Part, client_part, first_request_part, heard_steps, in_front, parts_of, put_part, sync_part, loses_all, turned, Scope}
use Rattle.gc_station.proofs.Asked.{marks_none}
use Rattle.gc_station.proofs.Booking.{sends_with_room}
use Rattle.gc_station.proofs.Counts.{losing_progress}
use Rattle.gc_station.proofs.EachRun.{invariant_after, invariant_opening}
use Rattle.gc_station.proofs.Facts.{action_for}
use Rattle.gc_station.proofs.Following.{losing_none, lost_fresh}
use Rattle.gc_station.proofs.Invariant.{Invariant}
use Rattle.gc_station.proofs.Meant.{IsPutByClient, put_by_client}
use Rattle.gc_station.proofs.Parting.{keeps_new_client, leads}
use Rattle.gc_station.specs.declared.progress.Action.TheVariants as action

-- Marks.

-- the request with this mark has this id; nothing is said of a null procedure of the station's own, which has no mark
abbrev HasId : (id : ℕ) → Option Mark → Type 0
HasId id None = Unit {0}
HasId id (Some mark) = mark.id ≡ id

-- the requests with these marks have the ids from `next` on, in order, going round at 8
abbrev pub CountUp : (next : ℕ) → List (Option Mark) → Type 0
CountUp next [] = Unit {0}
CountUp next (mark ∷ marks) = HasId next mark × CountUp ((next + 1) % IDS) marks

-- the next id after requests with these marks, if it was `next` before them
abbrev next_after : (next : ℕ) → List (Option Mark) → ℕ
next_after next [] = next
next_after next (mark ∷ marks) = next_after ((next + 1) % IDS) marks

-- where ids count up, and further ones from there on, they all do
count_append : (next : ℕ) (ms ns : List (Option Mark)) → CountUp next ms → CountUp (next_after next ms) ns → CountUp next (ms ++ ns)
count_append next [] ns h g = g
count_append next (m ∷ ms) ns h g = (h.0, count_append ((next + 1) % IDS) ms ns h.1 g)

-- one further of them is the next one
next_round : (next k : ℕ) → ((next + 1) % 8 + k) % 8 ≡ (next + suc k) % 8
next_round next k = omega arith

-- where ids count up from `next`, which is below 8, the one at place n is `next` + n, going round at 8
pub counted_at : (next : ℕ) (marks : List (Option Mark)) (n : ℕ) (mark : Mark) → next < 8 → CountUp next marks → slice_get marks n ≡ Some (Some mark) → mark.id ≡ (next + n) % 8
counted_at next [] n mark low h e = cc
counted_at next (None ∷ marks) zero mark low h e = cc
counted_at next (Some m ∷ marks) zero mark low h e =
    let same : ◌≡◌ {A = Option Mark} (Some m) (Some mark) = same_Some (Some m) (Some mark) e in
    let id : mark.id ≡ next = sym (ap (λ (x : Mark). x.id) (same_Some m mark same)) ∙ h.0 in
    omega (arith, id, low)
counted_at next (m ∷ marks) (suc n) mark low h e =
    let small : (next + 1) % 8 < 8 = omega arith in
    counted_at ((next + 1) % 8) marks n mark small h.1 e ∙ next_round next n

-- Steps.

-- a line that is heard leaves the next id
hears_next : (c : ById Asked) (line : List ℕ) (id : Option ℕ) → (hears c line id).client.next ≡ c.next
hears_next c line None = refl
hears_next c line (Some id) = by_place (place_in c id) (fits c (Some id)) where
  -- whether a request waits at the place of the id or not
  by_place : (k : ℕ) (waits : Bool) → (settles_at c line k waits).client.next ≡ c.next
  by_place k true = refl
  by_place k false = refl

-- lines that are heard leave the next id
lines_next : (c : ById Asked) (lines : List (List ℕ)) → (client_after c (map Hear lines)).next ≡ c.next
lines_next c [] = refl
lines_next c (line ∷ lines) = lines_next (client_stepped c (Hear line)) lines ∙ hears_next c line (heard line)

-- what is heard of a piece, if it is heard (`ready`), leaves the next id
heard_next : (c : ById Asked) (ready : Bool) (rest piece : List ℕ) → (client_after c (heard_steps ready rest piece)).next ≡ c.next
heard_next c true rest piece = lines_next c (lines_completed rest piece)
heard_next c false rest piece = refl

-- bytes that are put take the next id if they are a request's
put_next : (s : Model) (bytes : List ℕ) (p : Part) → IsPutByClient s bytes p → (client_after s.client p.steps).next ≡ next_after s.client.next p.marks
put_next s bytes p (inl e) = subst (λ (q : Part). (client_after s.client q.steps).next ≡ next_after s.client.next q.marks) (sym e.1) refl
put_next s bytes p (inr x) =
    subst (λ (q : Part). (client_after s.client q.steps).next ≡ next_after s.client.next q.marks) (sym x.part)
    (ap (λ (o : Option (Sending (ById Asked))). (sent_on (course_at s.client) x.target x.call o).client.next)
    (sends_with_room s.client x.target x.call x.deadline x.room))

-- Parts.

-- the ids of the first of these parts count up from `next`, and those of each further one from 0
abbrev CountUpInParts : (next : ℕ) → List Part → Type 0
CountUpInParts next [] = Unit {0}
CountUpInParts next (p ∷ ps) = CountUp next p.marks × AllByRecursion (λ (q : Part). CountUp 0 q.marks) ps

-- where they do so from 0, those of each part do
each_counts : (ps : List Part) → CountUpInParts 0 ps → AllByRecursion (λ (q : Part). CountUp 0 q.marks) ps
each_counts [] h = tt
each_counts (p ∷ ps) h = h

-- where ids count up in an act's part p, and from there on in the parts of later acts, they do in all. p is a part of its own if
-- the act ends a part (`ends`), after which the ids begin at 0
count_in_front : (next later : ℕ) (p : Part) (ends : Bool) (ps : List Part) → CountUp next p.marks → CountUpInParts later ps
    → later ≡ (if ends then 0 else next_after next p.marks) → CountUpInParts next (in_front p ends ps)
count_in_front next later p true ps h g e = (h, each_counts ps (subst (λ n. CountUpInParts n ps) e g))
count_in_front next later p false [] h g e = (h, tt)
count_in_front next later p false (q ∷ ps) h g e = (count_append next p.marks q.marks h (subst (λ n. CountUp n q.marks) e g.0), g.1)

-- a new client stays new if all that is outstanding is lost
new_if_lost : (t : Model) (all : Bool) → t.client ≡ fresh → (losing all t).client ≡ fresh
new_if_lost t true e = refl
new_if_lost t false e = e

module _ (plan : Plan) (commands : List Task) where
  -- the request for the first of these commands of the setup has the id of its mark; a null procedure has no mark
  count_setup : (mark : Mark) (left : List Task) → HasId mark.id (request_or_null plan mark left).mark
  count_setup mark [] = tt
  count_setup mark (task ∷ others) = refl

  -- the request for the first of these commands has the id of its mark
  count_first : (now : ℕ) (mark : Mark) (left : List Task) → CountUp mark.id (first_request_part now mark left).marks
  count_first now mark [] = tt
  count_first now mark (task ∷ others) = (refl, tt)

  -- the request that an action sends has the client's next id
  count_put : (s : Model) (o : Action) → CountUp s.client.next (put_part plan commands s o).marks
  count_put s action.Flush = (tt, tt)
  count_put s action.Prepare = (count_setup (mark_setup_sent commands s) (drop s.progress.prepared commands), tt)
  count_put s action.Send = count_first s.progress.moment.elapsed (mark_sent plan commands s) (commands_left commands s.progress)
  count_put s o = tt

  -- the request of an act, if it sends one, has the client's next id
  count_part : (s : Model) (o : Action) (act : Act) → CountUp s.client.next (client_part plan commands s o act).marks
  count_part s o (Put bytes) = count_put s o
  count_part s o (Cut bytes count) = count_put s o
  count_part s o (Told m) = tt
  count_part s o (Silent m) = tt
  count_part s o (Gave piece m) = tt
  count_part s o act = tt

  -- once the station has synchronized, an act takes the client's next id if it sends a request
  part_next : (s : Model) (act : Act) → Invariant plan commands s → has_begun s.progress ≡ true → Performs commands s (action_at plan s) act
      → (let p = client_part plan commands s (action_at plan s) act in (client_after s.client p.steps).next ≡ next_after s.client.next p.marks)
  part_next s (Put bytes) fine begun obeys =
      put_next s bytes (put_part plan commands s (action_at plan s)) (put_by_client plan commands s (Put bytes) bytes fine obeys refl begun)
  part_next s (Cut bytes count) fine begun obeys =
      put_next s bytes (put_part plan commands s (action_at plan s)) (put_by_client plan commands s (Cut bytes count) bytes fine obeys refl begun)
  part_next s (Told m) fine begun obeys = refl
  part_next s (Silent m) fine begun obeys = refl
  part_next s (Gave piece m) fine begun obeys =
      heard_next (client_stepped s.client (Expire m.elapsed)) (is_heard s.progress.phase) s.rest piece
  part_next s act fine begun obeys = refl

  -- An act.

  -- the model before an act of a run, of which the invariant holds, and the parts of the acts after it, in which ids count up
  module _ (s : Model) (act : Act) (fine : Invariant plan commands s) (obeys : Performs commands s (action_at plan s) act) (ps : List Part) where
    -- the model after the act, before all that is outstanding is lost
    abbrev t : Model
    t = moved plan commands (action_at plan s) (with_progress turned s) act

    -- by whether the station had synchronized (`begun`), and whether all that is outstanding is lost at the act (`lost`)
    count_act : (begun lost : Bool) → has_begun s.progress ≡ begun → loses_all t.progress ≡ lost → CountUpInParts (with_losses t).client.next ps
        → CountUpInParts s.client.next (in_front (if begun then client_part plan commands s (action_at plan s) act else sync_part s (action_at plan s) act) (begun && lost) ps)
    count_act false lost e f later =
        let p = sync_part s (action_at plan s) act in
        let none : p.marks ≡ [] = marks_none s (action_at plan s) act in
        let new : s.client ≡ fresh = fine.begins e in
        let still : (with_losses t).client ≡ fresh =
        new_if_lost t (loses_all t.progress) (keeps_new_client plan commands s (action_at plan s) act (action_for plan s.progress (waiting_of s)) obeys e new).0 in
        count_in_front s.client.next (with_losses t).client.next p false ps (subst (λ (l : List (Option Mark)). CountUp s.client.next l) (sym none) tt) later
        (ap (λ (c : ById Asked). c.next) (still ∙ sym new) ∙ ap (next_after s.client.next) (sym none))
    count_act true true e f later =
        count_in_front s.client.next (with_losses t).client.next (client_part plan commands s (action_at plan s) act) true ps (count_part s (action_at plan s) act) later
        (ap (λ (c : ById Asked). c.next) (lost_fresh t (loses_all t.progress) f))
    count_act true false e f later =
        let p = client_part plan commands s (action_at plan s) act in
        let led = leads plan commands s (action_at plan s) act fine (action_for plan s.progress (waiting_of s)) obeys in
        let same : (if has_begun s.progress then p else sync_part s (action_at plan s) act) ≡ p =
        ap (λ (b : Bool). if b then p else sync_part s (action_at plan s) act) e in
        let client : client_after s.client p.steps ≡ t.client = ap (λ (q : Part). client_after s.client q.steps) (sym same) ∙ led.client in
        count_in_front s.client.next (with_losses t).client.next p false ps (count_part s (action_at plan s) act) later
        (ap (λ (u : Model). u.client.next) (losing_none t (loses_all t.progress) f) ∙ ap (λ (c : ById Asked). c.next) (sym client) ∙ part_next s act fine e obeys)

  -- from a model of which the invariant holds, the ids of the requests of these acts count up in each part
  counts : (s : Model) (acts : List Act) → Invariant plan commands s → Runs plan commands s acts → CountUpInParts s.client.next (parts_of plan commands s acts)
  counts s [] fine runs = (tt, tt)
  counts s (act ∷ acts) fine runs =
      let t = moved plan commands (action_at plan s) (with_progress turned s) act in
      let u = after plan commands s act in
      let p = if has_begun s.progress then client_part plan commands s (action_at plan s) act else sync_part s (action_at plan s) act in
      let ps = parts_of plan commands u acts in
      subst (λ (b : Bool). CountUpInParts s.client.next (in_front p (has_begun s.progress && b) ps)) (sym (ap loses_all (losing_progress (loses_all t.progress) t)))
      (count_act s act fine runs.0 ps (has_begun s.progress) (loses_all t.progress) refl refl (counts u acts (invariant_after plan commands s act fine) runs.1))

-- in each part of a run the ids of its requests count up from 0
pub ids_count : (plan : Plan) (commands : List Task) (scope : Scope) (acts : List Act) → Runs plan commands (opening plan scope) acts
    → AllByRecursion (λ (q : Part). CountUp 0 q.marks) (parts plan commands scope acts)
ids_count plan commands scope acts runs =
    each_counts (parts plan commands scope acts) (counts plan commands (opening plan scope) acts (invariant_opening plan commands scope) runs)
