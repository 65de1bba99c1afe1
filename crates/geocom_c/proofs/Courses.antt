-- Calls on a state are events; and the calls bring the client to where its rule brings it over the steps among these events. A
-- course is what a client has sent and settled so far, and the client after that; a step is a send, a line heard, a moment read
-- or a restart. The word is the ids of a synchronization's null procedures, and `left` those of them that aren't answered.
-- `Leads` says that events lead from one course to another, and `Over` that calls do, by their events.
use Rattle.geocom_c.proofs.Common.{◌≡◌, ℕ, List, [], ◌∷◌, ◌++◌, map, Option, Some, None, refl, sym, ap, subst, ◌∙◌, inl, inr, append_assoc, arith, le-ltb, rest_behind, one_asked, one_call, Asked, Table, Raw, the_word, left_by, Course, course_after, course, settled_on, AccountsForSends, ById, Settled, expires, fresh, heard, hears, settles_at, place_in, restarts, ClientEvent, Came, Stepped, AreInTurn, left_among, steps_among, ask_events, left_by_restart, given, left_by_bytes, CallsReach, CallStage, first_stage, hearing_lines, left_by_call, stage_after, CallsAreEvents, lines_completed, AreEvents, begin_events, call_events, step_events, StateCall, SendRaw, Begin, Feed, Expire, Restart}
use Rattle.std.proofs.lemmas.List.{append-nil}
use Rattle.gc_client.proofs.OneForOne.{accounts_for_sends}
use Rattle.gc_station.proofs.Words.{left_none}
use Rattle.gc_theorems.proofs.BeginWords.{cons_not_nil}
use Rattle.geocom_c.specs.Beginning.{unanswered_after}
use Rattle.geocom_c.specs.declared.following.StateCall.TheVariants.{Send}
use Rattle.gc_client.specs.OneForOne as one

-- the events `front` lead from course x to course y, and from the ids `left` of the word that aren't answered to the ids
-- `after`; `es` stands for any events after these
record Leads (width : ℕ) (x y : Course Asked) (left after : List ℕ) (front : List ClientEvent) : Type 0 where
  turns : (es : List ClientEvent) → AreInTurn after es → AreInTurn left (front ++ es)
  reached : (es : List ClientEvent) → course width x (steps_among (front ++ es)) ≡ course width y (steps_among es)
  behind : (es : List ClientEvent) → left_among left (front ++ es) ≡ left_among after es

-- the empty list of events leaves all as it was
leads_none : (width : ℕ) (x : Course Asked) (left : List ℕ) → Leads width x x left left []
leads_none width x left = record { turns = λ es h. h; reached = λ es. refl; behind = λ es. refl }

-- lines that come to the synchronization leave the course as it was, and lead to the ids that aren't answered after these lines
leads_came : (width : ℕ) (x : Course Asked) (lines : List (List ℕ)) (left : List ℕ) → Leads width x x left (unanswered_after left lines) (map Came lines)
leads_came width x [] left = leads_none width x left
leads_came width x (line ∷ lines) left =
    let more = leads_came width x lines (left_by left (heard line)) in
    record { turns = more.turns; reached = more.reached; behind = more.behind }

-- a null procedure that is asked for, or none, leaves the course and the ids as they were
leads_asked : (width : ℕ) (x : Course Asked) (left : List ℕ) (o : Option (List ℕ)) → Leads width x x left left (ask_events o)
leads_asked width x left None = leads_none width x left
leads_asked width x left (Some line) = record { turns = λ es h. h; reached = λ es. refl; behind = λ es. refl }

-- where events lead from one course to another, and others from there to a third, all of them lead from the first to the third
leads_both : (width : ℕ) (x y z : Course Asked) (left between after : List ℕ) (front later : List ClientEvent) → Leads width x y left between front
    → Leads width y z between after later → Leads width x z left after (front ++ later)
leads_both width x y z left between after front later f g =
    record {
      turns = λ es h. subst (λ l. AreInTurn left l) (sym (append_assoc front later es)) (f.turns (later ++ es) (g.turns es h));
      reached = λ es. ap (λ l. course width x (steps_among l)) (append_assoc front later es) ∙ f.reached (later ++ es) ∙ g.reached es;
      behind = λ es. ap (λ l. left_among left l) (append_assoc front later es) ∙ f.behind (later ++ es) ∙ g.behind es;
    }

-- the events of a begin leave the course as it was, and lead to the ids that aren't answered after its bytes
leads_begin : (width : ℕ) (x : Course Asked) (left rest bytes : List ℕ) → Leads width x x left (left_by_bytes left rest bytes) (begin_events left rest bytes)
leads_begin width x [] rest bytes = subst (λ l. Leads width x x [] l []) (sym (left_none (lines_completed rest bytes))) (leads_none width x [])
leads_begin width x (asked ∷ later) rest bytes =
    let left = asked ∷ later in
    let after = left_by_bytes left rest bytes in
    leads_both width x x x left after after (map Came (lines_completed rest bytes)) (ask_events (given bytes left after))
    (leads_came width x (lines_completed rest bytes) left) (leads_asked width x after (given bytes left after))

-- A client that hasn't synchronized has no outstanding request, so a line, a moment or a restart changes nothing in it.

-- a new client (`fresh`) for requests of the catalogue
abbrev new_client : ById Asked
new_client = fresh

-- a line, whether an id is heard in it or none, settles nothing of a new client, which stays new
new_settles_none : (line : List ℕ) (o : Option ℕ) → hears new_client line o ≡ record { settlements = []; client = new_client }
new_settles_none line None = refl
new_settles_none line (Some id) = ap (settles_at new_client line (place_in new_client id)) (le-ltb (place_in new_client id) 0 (omega arith))

-- what settles nothing of a new client leaves its course as it was
stays_idle : (x : Course Asked) (s : Settled Asked (ById Asked)) → x.client ≡ fresh → s ≡ record { settlements = []; client = fresh } → settled_on x s ≡ x
stays_idle x s idle e =
    ap (settled_on x) e
    ∙ ap (λ l. let y : Course Asked = record { sent = x.sent; settlements = l; client = fresh } in y) (append-nil x.settlements)
    ∙ ap (λ c. let y : Course Asked = record { sent = x.sent; settlements = x.settlements; client = c } in y) (sym idle)

-- a line changes nothing in the course of a new client
idle_line : (width : ℕ) (x : Course Asked) (line : List ℕ) → x.client ≡ fresh → course_after width x (one.Hear line) ≡ x
idle_line width x line idle = stays_idle x (hears x.client line (heard line)) idle (ap (λ c. hears c line (heard line)) idle ∙ new_settles_none line (heard line))

-- a restart changes nothing in the course of a new client
idle_restart : (width : ℕ) (x : Course Asked) → x.client ≡ fresh → course_after width x one.Restart ≡ x
idle_restart width x idle = stays_idle x (restarts x.client) idle (ap restarts idle)

-- a moment changes nothing in the course of a new client
idle_moment : (width : ℕ) (x : Course Asked) (now : ℕ) → x.client ≡ fresh → course_after width x (one.Expire now) ≡ x
idle_moment width x now idle = ap (λ c. let y : Course Asked = record { sent = x.sent; settlements = x.settlements; client = c } in y) (ap (λ c. expires c now) idle ∙ sym idle)

-- any lines change nothing in the course of a new client
idle_lines : (width : ℕ) (x : Course Asked) (lines : List (List ℕ)) → x.client ≡ fresh → hearing_lines width x lines ≡ x
idle_lines width x [] idle = refl
idle_lines width x (line ∷ lines) idle = ap (λ y. hearing_lines width y lines) (idle_line width x line idle) ∙ idle_lines width x lines idle

-- the empty list of events leads from a course to an equal one
leads_unchanged : (width : ℕ) (x y : Course Asked) (left : List ℕ) → y ≡ x → Leads width x y left left []
leads_unchanged width x y left same = subst (λ (z : Course Asked). Leads width x z left left []) (sym same) (leads_none width x left)

-- as long as some id is left, so that the client hasn't synchronized, it is a new one
abbrev IsNewUnlessBegun : Course Asked → List ℕ → Type 0
IsNewUnlessBegun x left = (left ≡ [] → ⊥) → x.client ≡ fresh

-- lines that are heard once no id is left are steps, and lead to the course that has heard them
leads_heard : (width : ℕ) (x : Course Asked) (lines : List (List ℕ)) → Leads width x (hearing_lines width x lines) [] [] (map Stepped (map one.Hear lines))
leads_heard width x [] = leads_none width x []
leads_heard width x (line ∷ lines) =
    let more = leads_heard width (course_after width x (one.Hear line)) lines in
    record { turns = λ es h. (refl, more.turns es h); reached = more.reached; behind = more.behind }

-- the events of lines that are fed lead to the course that has heard these lines, if the client is new unless it has synchronized
leads_feed : (width : ℕ) (x : Course Asked) (left : List ℕ) (lines : List (List ℕ)) → IsNewUnlessBegun x left
    → Leads width x (hearing_lines width x lines) left left (step_events left (map one.Hear lines))
leads_feed width x [] lines idle = leads_heard width x lines
leads_feed width x (asked ∷ later) lines idle = leads_unchanged width x _ (asked ∷ later) (idle_lines width x lines (idle (cons_not_nil asked later)))

-- the events of a moment lead to the course after it, if the client is new unless it has synchronized
leads_expire : (width : ℕ) (x : Course Asked) (left : List ℕ) (now : ℕ) → IsNewUnlessBegun x left
    → Leads width x (course_after width x (one.Expire now)) left left (step_events left (one.Expire now ∷ []))
leads_expire width x [] now idle = record { turns = λ es h. (refl, h); reached = λ es. refl; behind = λ es. refl }
leads_expire width x (asked ∷ later) now idle = leads_unchanged width x _ (asked ∷ later) (idle_moment width x now (idle (cons_not_nil asked later)))

-- the events of a restart lead to the course after it, and to the ids that are to be answered then, if the client is new unless
-- it has synchronized
leads_restart : (width : ℕ) (x : Course Asked) (left : List ℕ) → IsNewUnlessBegun x left
    → Leads width x (course_after width x one.Restart) left (left_by_restart left) (step_events left (one.Restart ∷ []))
leads_restart width x [] idle = record { turns = λ es h. (refl, h); reached = λ es. refl; behind = λ es. refl }
leads_restart width x (asked ∷ later) idle = leads_unchanged width x _ (asked ∷ later) (idle_restart width x (idle (cons_not_nil asked later)))

-- a send that makes no step, whichever ids aren't answered, leads from a course to the same one
leads_no_step : (width : ℕ) (x : Course Asked) (left : List ℕ) → Leads width x x left left (step_events left [])
leads_no_step width x [] = leads_none width x []
leads_no_step width x (asked ∷ later) = leads_none width x (asked ∷ later)

-- the event of a send that makes a step leads to the course after the step; no id is left then
leads_send : (width : ℕ) (x : Course Asked) (left : List ℕ) (target : ℕ) (asked : Asked) (deadline : ℕ) → left ≡ []
    → Leads width x (course_after width x (one.Send target asked deadline)) left left (step_events left (one.Send target asked deadline ∷ []))
leads_send width x left target asked deadline none =
    let begun : Leads width x (course_after width x (one.Send target asked deadline)) [] [] (Stepped (one.Send target asked deadline) ∷ []) =
    record { turns = λ es h. (refl, h); reached = λ es. refl; behind = λ es. refl } in
    subst (λ l. Leads width x (course_after width x (one.Send target asked deadline)) l l (step_events l (one.Send target asked deadline ∷ []))) (sym none) begun

-- The events that calls are.

-- these calls lead from stage s to stage t by some events, each in its turn
record Over (width : ℕ) (s : CallStage) (calls : List StateCall) (t : CallStage) : Type 0 where
  events : List ClientEvent
  are : AreEvents s.left s.rest calls events
  turns : AreInTurn s.left events
  reached : t.reached ≡ course width s.reached (steps_among events)
  left : t.left ≡ left_among s.left events

-- where the events of a call that makes these steps lead to the stage after it, and later calls lead from there to stage t
-- (`Over`), the call and the later ones lead to t, if their events are those of the call and then those of the later calls
over_one_more_call : (width : ℕ) (s : CallStage) (call : StateCall) (calls : List StateCall) (t : CallStage) (steps : List (one.Step Asked))
    → Leads width s.reached (course width s.reached steps) s.left (left_by_call s.left s.rest call) (call_events s.left s.rest call steps)
    → (more : Over width (stage_after width s call steps) calls t) → AreEvents s.left s.rest (call ∷ calls) (call_events s.left s.rest call steps ++ more.events)
    → Over width s (call ∷ calls) t
over_one_more_call width s call calls t steps l more are = record {
  events = call_events s.left s.rest call steps ++ more.events;
  are = are;
  turns = l.turns more.events more.turns;
  reached = more.reached ∙ sym (l.reached more.events);
  left = more.left ∙ sym (l.behind more.events);
}

-- calls that lead from stage s to stage t are events that lead from s to t (`Over`), if the client at s is a new one unless it
-- has synchronized
calls_as_events : (width : ℕ) (s : CallStage) (calls : List StateCall) (t : CallStage) → IsNewUnlessBegun s.reached s.left → CallsReach width s calls t → Over width s calls t
calls_as_events width s [] t idle f = record { events = []; are = refl; turns = tt; reached = ap (λ (x : CallStage). x.reached) f; left = ap (λ (x : CallStage). x.left) f }
calls_as_events width s (Send target deadline procedure params ∷ calls) t idle (inl f) =
    let more = calls_as_events width (stage_after width s (Send target deadline procedure params) (one.Send target (Table f.0) deadline ∷ [])) calls t (λ no. absurd (no f.1)) f.3 in
    over_one_more_call width s (Send target deadline procedure params) calls t (one.Send target (Table f.0) deadline ∷ [])
    (leads_send width s.reached s.left target (Table f.0) deadline f.1) more (inl (f.0, f.1, f.2, (more.events, refl, more.are)))
calls_as_events width s (Send target deadline procedure params ∷ calls) t idle (inr f) =
    let more = calls_as_events width (stage_after width s (Send target deadline procedure params) []) calls t idle f.1 in
    over_one_more_call width s (Send target deadline procedure params) calls t [] (leads_no_step width s.reached s.left) more (inr (f.0, (more.events, refl, more.are)))
calls_as_events width s (SendRaw target deadline procedure params ∷ calls) t idle (inl f) =
    let more = calls_as_events width (stage_after width s (SendRaw target deadline procedure params) (one.Send target (Raw f.0) deadline ∷ [])) calls t (λ no. absurd (no f.1)) f.3 in
    over_one_more_call width s (SendRaw target deadline procedure params) calls t (one.Send target (Raw f.0) deadline ∷ [])
    (leads_send width s.reached s.left target (Raw f.0) deadline f.1) more (inl (f.0, f.1, f.2, (more.events, refl, more.are)))
calls_as_events width s (SendRaw target deadline procedure params ∷ calls) t idle (inr f) =
    let more = calls_as_events width (stage_after width s (SendRaw target deadline procedure params) []) calls t idle f.1 in
    over_one_more_call width s (SendRaw target deadline procedure params) calls t [] (leads_no_step width s.reached s.left) more (inr (f.0, (more.events, refl, more.are)))
calls_as_events width s (Begin bytes ∷ calls) t idle f =
    let lines = lines_completed s.rest bytes.now in
    let more = calls_as_events width (stage_after width s (Begin bytes) []) calls t (λ no. idle (λ e. no (ap (λ a. unanswered_after a lines) e ∙ left_none lines))) f in
    over_one_more_call width s (Begin bytes) calls t [] (leads_begin width s.reached s.left s.rest bytes.now) more (more.events, refl, more.are)
calls_as_events width s (Feed bytes ∷ calls) t idle f =
    let lines = lines_completed s.rest bytes.now in
    let more = calls_as_events width (stage_after width s (Feed bytes) (map one.Hear lines)) calls t
    (λ no. ap (λ (x : Course Asked). x.client) (idle_lines width s.reached lines (idle no)) ∙ idle no) f in
    over_one_more_call width s (Feed bytes) calls t (map one.Hear lines) (leads_feed width s.reached s.left lines idle) more (more.events, refl, more.are)
calls_as_events width s (Expire now ∷ calls) t idle f =
    let more = calls_as_events width (stage_after width s (Expire now) (one.Expire now ∷ [])) calls t
    (λ no. ap (λ (x : Course Asked). x.client) (idle_moment width s.reached now (idle no)) ∙ idle no) f in
    over_one_more_call width s (Expire now) calls t (one.Expire now ∷ []) (leads_expire width s.reached s.left now idle) more (more.events, refl, more.are)
calls_as_events width s (Restart ∷ calls) t idle f =
    let more = calls_as_events width (stage_after width s Restart (one.Restart ∷ [])) calls t (λ no. refl) f in
    over_one_more_call width s Restart calls t (one.Restart ∷ []) (leads_restart width s.reached s.left idle) more (more.events, refl, more.are)

-- if the same calls are two lists of events, these lists are equal
same_events : (left rest : List ℕ) (calls : List StateCall) (es fs : List ClientEvent) → AreEvents left rest calls es → AreEvents left rest calls fs → es ≡ fs
same_events left rest [] es fs f g = f ∙ sym g
same_events left rest (Send target deadline procedure params ∷ calls) es fs (inl f) (inl g) =
    f.3.1
    ∙ ap (λ call. step_events left (one.Send target (Table call) deadline ∷ []) ++ f.3.0) (one_call procedure params.now f.0 g.0 f.2 g.2)
    ∙ ap (λ later. step_events left (one.Send target (Table g.0) deadline ∷ []) ++ later) (same_events left rest calls f.3.0 g.3.0 f.3.2 g.3.2)
    ∙ sym g.3.1
same_events left rest (Send target deadline procedure params ∷ calls) es fs (inl f) (inr g) = absurd (g.0 f.1 f.0 f.2)
same_events left rest (Send target deadline procedure params ∷ calls) es fs (inr f) (inl g) = absurd (f.0 g.1 g.0 g.2)
same_events left rest (Send target deadline procedure params ∷ calls) es fs (inr f) (inr g) =
    f.1.1 ∙ ap (λ later. step_events left [] ++ later) (same_events left rest calls f.1.0 g.1.0 f.1.2 g.1.2) ∙ sym g.1.1
same_events left rest (SendRaw target deadline procedure params ∷ calls) es fs (inl f) (inl g) =
    f.3.1
    ∙ ap (λ asked. step_events left (one.Send target asked deadline ∷ []) ++ f.3.0) (one_asked procedure params.now (Raw f.0) (Raw g.0) f.2 g.2)
    ∙ ap (λ later. step_events left (one.Send target (Raw g.0) deadline ∷ []) ++ later) (same_events left rest calls f.3.0 g.3.0 f.3.2 g.3.2)
    ∙ sym g.3.1
same_events left rest (SendRaw target deadline procedure params ∷ calls) es fs (inl f) (inr g) = absurd (g.0 f.1 f.0 f.2)
same_events left rest (SendRaw target deadline procedure params ∷ calls) es fs (inr f) (inl g) = absurd (f.0 g.1 g.0 g.2)
same_events left rest (SendRaw target deadline procedure params ∷ calls) es fs (inr f) (inr g) =
    f.1.1 ∙ ap (λ later. step_events left [] ++ later) (same_events left rest calls f.1.0 g.1.0 f.1.2 g.1.2) ∙ sym g.1.1
same_events left rest (Begin bytes ∷ calls) es fs f g =
    f.1 ∙ ap (λ later. begin_events left rest bytes.now ++ later) (same_events (left_by_bytes left rest bytes.now) (rest_behind rest bytes.now) calls f.0 g.0 f.2 g.2) ∙ sym g.1
same_events left rest (Feed bytes ∷ calls) es fs f g =
    f.1 ∙ ap (λ later. step_events left (map one.Hear (lines_completed rest bytes.now)) ++ later) (same_events left (rest_behind rest bytes.now) calls f.0 g.0 f.2 g.2) ∙ sym g.1
same_events left rest (Expire now ∷ calls) es fs f g = f.1 ∙ ap (λ later. step_events left (one.Expire now ∷ []) ++ later) (same_events left rest calls f.0 g.0 f.2 g.2) ∙ sym g.1
same_events left rest (Restart ∷ calls) es fs f g = f.1 ∙ ap (λ later. step_events left (one.Restart ∷ []) ++ later) (same_events (left_by_restart left) [] calls f.0 g.0 f.2 g.2) ∙ sym g.1

-- the law: any calls on a state are one list of events, and bring the client to where its rule brings it over these
pub over_events : CallsAreEvents
over_events width calls t f =
    let it = calls_as_events width first_stage calls t (λ no. refl) f in
    record { events = it.events; are = it.are; only = λ others are. same_events the_word [] calls others it.events are it.are; turns = it.turns; reached = it.reached; left = it.left }

-- the course after any calls accounts for its sends
pub calls_account_for_sends : (width : ℕ) (calls : List StateCall) (t : CallStage) → CallsReach width first_stage calls t → AccountsForSends t.reached
calls_account_for_sends width calls t f =
    let it = over_events width calls t f in
    subst (λ (c : Course Asked). AccountsForSends c) (sym it.reached) (accounts_for_sends width (steps_among it.events))
