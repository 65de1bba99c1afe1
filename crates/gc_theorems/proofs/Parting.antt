-- The events of runs, one after the other: what they settle, and which request each answer is to. A run is the turns of a synchronization
-- and then the moves of the field, and a placed run is a run with what was in flight when it began. The word is the ids of a
-- synchronization's eight null procedures, and `left` those of them that aren't answered. `ends` is the instrument, `Good` the states that
-- it may be in, and `kept` the reply that it retains. `Turned` says which events a synchronization's turns are, and `Holds` what the
-- law promises of runs.
use Rattle.gc_theorems.proofs.Common.{◌≡◌, ℕ, List, [], ◌∷◌, ◌++◌, map, drop, Option, refl, sym, ◌∙◌, ap, subst, append_assoc, AllByRecursion, Asked, the_word, Restart, Course, begun, settled_on, course, ById, Settlement, restarts, lost, KeptReply, ClientEvent, Stepped, AreInTurn, left_among, steps_among, Null, Came, steps_since, course_append, all_on, Ends, Asks, Reaches, SyncModel, SyncTurn, UnderWay, asks, begins, comes, turned, turns, IsOwnIfBegun, Run, left_by_run, PlacedRun, ask_events, begun_at, client_if, client_over, event_of, events_of, events_over, came_of, left_over, lost_if, placed_runs, settled_if, settled_over, Move, Sends, Tells, seen, IsAnInstrument, EachIsOwnIfSafe, IsOwnRun, IsOwnUnlessLost}
use Rattle.std.proofs.lemmas.List.{append-nil}
use Rattle.gc_client.specs.Prelude.{asks as line_asked, Step}
use Rattle.gc_station.proofs.Lists.{all_append}
use Rattle.gc_theorems.specs.Begin.{InFlight, Comes, Foreign}
use Rattle.gc_theorems.specs.ClientRuns.{world}
use Rattle.gc_theorems.proofs.BeginWords.{cons_not_nil}
use Rattle.gc_theorems.proofs.BegunFaithful.{prefixed_all}
use Rattle.gc_theorems.proofs.BegunRuns.{AreBegunButLast, own_runs}
use Rattle.gc_theorems.proofs.Owning.{later_own, none_replied, own_here}
use Rattle.gc_theorems.proofs.Shown.{left_reaches}
use Rattle.gc_client.specs.OneForOne as one
use Rattle.gc_theorems.specs.Field as field

-- Steps among events.

-- the steps among events that begin with `steps` are these, and then those among the other events
pub steps_in_front : (steps : List (Step Asked)) (es : List ClientEvent) → steps_among (map Stepped steps ++ es) ≡ steps ++ steps_among es
steps_in_front [] es = refl
steps_in_front (step ∷ steps) es = ap (λ l. step ∷ l) (steps_in_front steps es)

-- the steps since the last restart among two lists of events are those of the second, after those of the first
pub since_both : (xs ys : List ClientEvent) (since : List (Step Asked)) → steps_since since (xs ++ ys) ≡ steps_since (steps_since since xs) ys
since_both [] ys since = refl
since_both (Null ∷ xs) ys since = since_both xs ys since
since_both (Came line ∷ xs) ys since = since_both xs ys since
since_both (Stepped one.Restart ∷ xs) ys since = since_both xs ys []
since_both (Stepped step ∷ xs) ys since = since_both xs ys (since ++ step ∷ [])

-- where an id isn't answered yet, and events in their turn begin with `steps`, `steps` is empty
no_step : (asked : ℕ) (later : List ℕ) (steps : List (Step Asked)) (es : List ClientEvent) → AreInTurn (asked ∷ later) (map Stepped steps ++ es) → steps ≡ []
no_step asked later [] es h = refl
no_step asked later (step ∷ steps) es h = absurd (cons_not_nil asked later h.0)

-- where an id isn't answered yet, no events in their turn begin with `steps` and then a restart
no_restart : (asked : ℕ) (later : List ℕ) (steps : List (Step Asked)) (es : List ClientEvent) → AreInTurn (asked ∷ later) (map Stepped steps ++ Stepped Restart ∷ es) → ⊥
no_restart asked later [] es h = cons_not_nil asked later h.0
no_restart asked later (step ∷ steps) es h = cons_not_nil asked later h.0

-- the step is no restart
abbrev pub IsNoRestart : Step Asked → Type 0
IsNoRestart one.Restart = ⊥
IsNoRestart step = Unit {0}

-- no step that the client sees of moves of the field is a restart
pub no_restart_seen : {State : Type 0} (ms : List (Move State)) → AllByRecursion IsNoRestart (seen ms)
no_restart_seen [] = tt
no_restart_seen (Sends target call deadline ∷ ms) = (tt, no_restart_seen ms)
no_restart_seen (Tells now ∷ ms) = (tt, no_restart_seen ms)
no_restart_seen (field.Comes line ∷ ms) = (tt, no_restart_seen ms)
no_restart_seen (field.Foreign line ∷ ms) = (tt, no_restart_seen ms)
no_restart_seen (m ∷ ms) = no_restart_seen ms

-- where events of a client that has synchronized begin with steps without a restart: if they come in their turn, the others do without
-- these steps; and the ids that aren't answered after them are those after the others
past_steps : (steps : List (Step Asked)) (es : List ClientEvent) → AllByRecursion IsNoRestart steps
    → (AreInTurn [] (map Stepped steps ++ es) → AreInTurn [] es) × (left_among [] (map Stepped steps ++ es) ≡ left_among [] es)
past_steps [] es none = ((λ h. h), refl)
past_steps (one.Restart ∷ steps) es none = absurd none.0
past_steps (step ∷ steps) es none = let past = past_steps steps es none.1 in ((λ h. past.0 h.1), past.1)

module _ {State : Type 0} (width : ℕ) (ends : Ends State) where
  -- the events `front` go with turns of a synchronization that lead from s to `after`: they have no step of the client, none
  -- since a restart either, and leave of the word what the turns leave
  pub record Turned (s after : SyncModel State) (front : List ClientEvent) : Type 0 where
    pub turns : (es : List ClientEvent) → AreInTurn s.left (front ++ es) → AreInTurn after.left es
    pub left : (es : List ClientEvent) → left_among s.left (front ++ es) ≡ left_among after.left es
    pub steps : (es : List ClientEvent) → steps_among (front ++ es) ≡ steps_among es
    pub since : (since : List (Step Asked)) → steps_since since front ≡ since

  -- the empty list of events goes with turns that leave the ids as they were
  turned_same : (s after : SyncModel State) → after.left ≡ s.left → Turned s after []
  turned_same s after e =
      record {
        turns = λ es h. subst (λ l. AreInTurn l es) (sym e) h;
        left = λ es. ap (λ l. left_among l es) (sym e);
        steps = λ es. refl;
        since = λ since. refl;
      }

  -- the event of a null procedure that is sent, while the ids `left` aren't answered, goes with the turn that sends it; where
  -- `left` is empty, none is sent, and there is no event
  turned_asked : (s : SyncModel State) (left : List ℕ) → Turned s (asks s left) (ask_events (line_asked left))
  turned_asked s [] = turned_same s s refl
  turned_asked s (asked ∷ later) = record { turns = λ es h. h; left = λ es. refl; steps = λ es. refl; since = λ since. refl }

  -- the event that the front reply of `down` comes goes with the turn in which it comes; where `down` is empty, there is no event
  turned_front : (s : SyncModel State) (down : List (InFlight (List ℕ))) → Turned s (comes s down) (came_of down)
  turned_front s [] = turned_same s s refl
  turned_front s (x ∷ rest) = record { turns = λ es h. h; left = λ es. refl; steps = λ es. refl; since = λ since. refl }

  -- the events of one turn of a synchronization go with that turn (`Turned`)
  pub turned_one : (s : SyncModel State) (t : SyncTurn State) → Turned s (turns ends s t) (event_of s t)
  turned_one s Asks = turned_asked s s.left
  turned_one s Comes = turned_front s s.down
  turned_one s (Foreign line) = record { turns = λ es h. h; left = λ es. refl; steps = λ es. refl; since = λ since. refl }
  turned_one s Reaches = turned_same s _ (left_reaches ends s s.up)
  turned_one s other = turned_same s _ refl

  -- the events of turns of a synchronization go with these turns (`Turned`)
  pub turned_all : (ts : List (SyncTurn State)) (s : SyncModel State) → Turned s (turned ends ts s) (events_of ends s ts)
  turned_all [] s = turned_same s s refl
  turned_all (t ∷ ts) s =
      let one = turned_one s t in
      let more = turned_all ts (turns ends s t) in
      let front = event_of s t in
      let later = events_of ends (turns ends s t) ts in
      record {
        turns = λ es h. more.turns es (one.turns (later ++ es) (subst (λ l. AreInTurn s.left l) (append_assoc front later es) h));
        left = λ es. ap (λ l. left_among s.left l) (append_assoc front later es) ∙ one.left (later ++ es) ∙ more.left es;
        steps = λ es. ap steps_among (append_assoc front later es) ∙ one.steps (later ++ es) ∙ more.steps es;
        since = λ since. since_both front later since ∙ ap (λ l. steps_since l later) (one.since since) ∙ more.since since;
      }

  -- if a restart comes in its turn after a run, the run has synchronized: `left`, what it leaves of its word, is empty; and the events after
  -- the restart, `rest`, come in their turn
  passes : (p : PlacedRun State) (left : List ℕ) (rest : List ClientEvent) → (begun_at ends p).left ≡ left
      → AreInTurn the_word (events_of ends (begins p.before) p.run.turns ++ (map Stepped (seen p.run.moves) ++ Stepped Restart ∷ rest)) → (left ≡ []) × AreInTurn the_word rest
  passes p [] rest e h =
      let turn = (turned_all p.run.turns (begins p.before)).turns (map Stepped (seen p.run.moves) ++ Stepped Restart ∷ rest) h in
      (refl, ((past_steps (seen p.run.moves) (Stepped Restart ∷ rest) (no_restart_seen p.run.moves)).0 (subst (λ l. AreInTurn l (map Stepped (seen p.run.moves) ++ Stepped Restart ∷ rest)) e turn)).1)
  passes p (asked ∷ later) rest e h =
      let turn = (turned_all p.run.turns (begins p.before)).turns (map Stepped (seen p.run.moves) ++ Stepped Restart ∷ rest) h in
      absurd (no_restart asked later (seen p.run.moves) rest (subst (λ l. AreInTurn l (map Stepped (seen p.run.moves) ++ Stepped Restart ∷ rest)) e turn))

  -- so each run but the last has synchronized, where the events of runs come in their turn
  begun_but_last : (rs : List (Run State)) (u : UnderWay State) → AreInTurn the_word (events_over width ends u rs) → AreBegunButLast width ends u rs
  begun_but_last [] u h = tt
  begun_but_last (r ∷ []) u h = tt
  begun_but_last (r ∷ next ∷ others) u h =
      let pass = passes (record { before = u; run = r }) _ (events_over width ends (left_by_run width ends u r) (next ∷ others)) refl h in
      (pass.0, begun_but_last (next ∷ others) (left_by_run width ends u r) pass.1)

  module _ (Good : State → Type 0) (kept : State → Option KeptReply) where
    -- each of these settlements is its own, if its request is safe
    abbrev OwnAll : List (PlacedRun State) → List (Settlement Asked) → Type 0
    OwnAll ps ss = AllByRecursion (IsOwnUnlessLost width ends Good kept ps) ss

    -- what holds of runs (`ps`) and their events: the client settles and leaves what the runs do, and each settlement is its own if its
    -- request is safe
    record Holds (ps : List (PlacedRun State)) (events : List ClientEvent) : Type 0 where
      settled : (course width begun (steps_among events)).settlements ≡ settled_over width ends ps
      client : (course width begun (steps_among events)).client ≡ client_over width ends ps
      left : left_among the_word events ≡ left_over width ends ps
      own : OwnAll ps (settled_over width ends ps)

    -- `Holds` is true of the last run alone, synchronized or not (`left` is the ids that it left unanswered), if it is its own, and its
    -- events come in their turn
    last_holds : (p : PlacedRun State) (left : List ℕ) → (begun_at ends p).left ≡ left → IsOwnRun width ends Good kept p
        → AreInTurn the_word (events_of ends (begins p.before) p.run.turns ++ map Stepped (seen p.run.moves))
        → Holds (p ∷ []) (events_of ends (begins p.before) p.run.turns ++ map Stepped (seen p.run.moves))
    last_holds p [] e own h =
        let w = world width ends p in
        let steps = seen p.run.moves in
        let front = turned_all p.run.turns (begins p.before) in
        let f = (subst (λ l. IsOwnIfBegun width ends Good kept l (begun_at ends p) p.run.moves) e own).1 in
        let nil = append-nil (map Stepped steps) in
        let same = front.steps (map Stepped steps) ∙ ap steps_among (sym nil) ∙ steps_in_front steps [] ∙ append-nil steps in
        let here : drop 8 w.wire.settled ≡ (course width begun steps).settlements = ap (drop 8) f.settled in
        let none : settled_if width ends (begun_at ends p).left w ≡ drop 8 w.wire.settled = ap (λ l. settled_if width ends l w) e in
        record {
          settled = ap (λ l. (course width begun l).settlements) same ∙ sym here ∙ sym none;
          client = ap (λ l. (course width begun l).client) same ∙ f.stands ∙ sym (ap (λ l. client_if width ends l w) e);
          left = front.left (map Stepped steps) ∙ ap (λ l. left_among l (map Stepped steps)) e ∙ ap (left_among []) (sym nil) ∙ (past_steps steps [] (no_restart_seen p.run.moves)).1 ∙ sym e;
          own = subst (λ l. OwnAll (p ∷ []) l) (sym none) (own_here width ends Good kept p [] e f);
        }
    last_holds p (asked ∷ later) e own h =
        let w = world width ends p in
        let steps = seen p.run.moves in
        let front = turned_all p.run.turns (begins p.before) in
        let nil = append-nil (map Stepped steps) in
        let turn = front.turns (map Stepped steps) h in
        let none = no_step asked later steps [] (subst (λ l. AreInTurn (asked ∷ later) l) (sym nil) (subst (λ l. AreInTurn l (map Stepped steps)) e turn)) in
        let same = front.steps (map Stepped steps) ∙ ap (λ l. steps_among (map Stepped l)) none in
        record {
          settled = ap (λ l. (course width begun l).settlements) same ∙ sym (ap (λ l. settled_if width ends l w) e);
          client = ap (λ l. (course width begun l).client) same ∙ sym (ap (λ l. client_if width ends l w) e);
          left = front.left (map Stepped steps) ∙ ap (λ l. left_among (begun_at ends p).left (map Stepped l)) none;
          own = subst (λ l. OwnAll (p ∷ []) (settled_if width ends l w)) (sym e) tt;
        }

    -- if a run has synchronized and is its own, and a restart follows, and `Holds` is true of the later runs, it is true of all of them
    passed_holds : (p next : PlacedRun State) (others : List (PlacedRun State)) (rest : List ClientEvent) → (begun_at ends p).left ≡ [] → IsOwnRun width ends Good kept p → Holds (next ∷ others) rest
        → Holds (p ∷ next ∷ others) (events_of ends (begins p.before) p.run.turns ++ (map Stepped (seen p.run.moves) ++ Stepped Restart ∷ rest))
    passed_holds p next others rest e own more =
        let w = world width ends p in
        let steps = seen p.run.moves in
        let f = (subst (λ l. IsOwnIfBegun width ends Good kept l (begun_at ends p) p.run.moves) e own).1 in
        let front = turned_all p.run.turns (begins p.before) in
        let tail = map Stepped steps ++ Stepped Restart ∷ rest in
        let later = steps_among rest in
        let x = course width begun steps in
        let z = settled_on x (restarts x.client) in
        let all = p ∷ next ∷ others in
        let same = front.steps tail ∙ steps_in_front steps (Stepped Restart ∷ rest) in
        let on = prefixed_all width z.sent z.settlements later z begun
        (record { sent = sym (append-nil z.sent); settled = sym (append-nil z.settlements); client = refl }) in
        let here : z.settlements ≡ drop 8 w.wire.settled ++ map lost w.client.waiting =
        ap (λ l. l ++ map lost x.client.waiting) (sym (ap (drop 8) f.settled)) ∙ ap (λ (c : ById Asked). drop 8 w.wire.settled ++ map lost c.waiting) f.stands in
        let over : settled_over width ends all ≡ (drop 8 w.wire.settled ++ map lost w.client.waiting) ++ settled_over width ends (next ∷ others) =
        ap (λ l. (settled_if width ends l w ++ lost_if width ends l w) ++ settled_over width ends (next ∷ others)) e in
        record {
          settled =
              ap (λ l. (course width begun l).settlements) same
              ∙ ap (λ (c : Course Asked). c.settlements) (course_append width steps (Restart ∷ later) begun)
              ∙ on.settled
              ∙ ap (λ l. l ++ (course width begun later).settlements) here
              ∙ ap (λ l. (drop 8 w.wire.settled ++ map lost w.client.waiting) ++ l) more.settled
              ∙ sym over;
          client =
              ap (λ l. (course width begun l).client) same
              ∙ ap (λ (c : Course Asked). c.client) (course_append width steps (Restart ∷ later) begun)
              ∙ on.client
              ∙ more.client;
          left = front.left tail ∙ ap (λ l. left_among l tail) e ∙ (past_steps steps (Stepped Restart ∷ rest) (no_restart_seen p.run.moves)).1 ∙ more.left;
          own = subst (λ l. OwnAll all l) (sym over)
              (all_append (IsOwnUnlessLost width ends Good kept all) (drop 8 w.wire.settled ++ map lost w.client.waiting) (settled_over width ends (next ∷ others))
              (all_append (IsOwnUnlessLost width ends Good kept all) (drop 8 w.wire.settled) (map lost w.client.waiting)
              (own_here width ends Good kept p (next ∷ others) e f) (none_replied width ends Good kept all w.client.waiting))
              (all_on (IsOwnUnlessLost width ends Good kept (next ∷ others)) (IsOwnUnlessLost width ends Good kept all) (settled_over width ends (next ∷ others))
              (later_own width ends Good kept p (next ∷ others)) more.own));
        }

    -- `Holds` is true of all runs, one after the other, if each is its own, and their events come in their turn
    all_hold : (rs : List (Run State)) (u : UnderWay State) → AllByRecursion (IsOwnRun width ends Good kept) (placed_runs width ends u rs) → AreInTurn the_word (events_over width ends u rs)
        → Holds (placed_runs width ends u rs) (events_over width ends u rs)
    all_hold [] u each h = record { settled = refl; client = refl; left = refl; own = tt }
    all_hold (r ∷ []) u each h = last_holds (record { before = u; run = r }) _ refl each.0 h
    all_hold (r ∷ next ∷ others) u each h =
        let after = left_by_run width ends u r in
        let rest = events_over width ends after (next ∷ others) in
        let pass = passes (record { before = u; run = r }) _ rest refl h in
        passed_holds (record { before = u; run = r }) (record { before = after; run = next }) (placed_runs width ends (left_by_run width ends after next) others) rest pass.0 each.0
        (all_hold (next ∷ others) after each.1 pass.1)

-- the law: each settlement of a request that is safe is its own, over every instrument
pub each_is_own_if_safe : {State : Type 0} (ends : Ends State) (Good : State → Type 0) (kept : State → Option KeptReply) → IsAnInstrument ends Good kept
    → EachIsOwnIfSafe ends Good kept
each_is_own_if_safe ends Good kept is width narrow u lines may rs possible turns =
    let each = own_runs ends Good kept is width narrow rs u lines may possible (begun_but_last width ends rs u turns) in
    let all = all_hold width ends Good kept rs u each turns in
    record { settled = all.settled; client = all.client; left = all.left; own = subst (λ l. AllByRecursion (IsOwnUnlessLost width ends Good kept (placed_runs width ends u rs)) l) (sym all.settled) all.own; each = each }
