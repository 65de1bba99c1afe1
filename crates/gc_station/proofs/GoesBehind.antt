-- Each command is sent after a call of the table, the first of which is a null procedure. The station counts the requests after the
-- last such call that a reply ended. An act changes this count as the client's steps of its part do (`behind_counted`); so the count is
-- that of the course since the synchronization, and a command is sent only if it is below seven. A course is what a client has sent and settled so far, and
-- the client after that; a part reaches from one synchronization to the next. An act is one call on the link, with its result.
use Rattle.gc_station.proofs.Common.{◌≡◌, ℕ, ◌-◌, ◌<◌, Bool, true, false, List, [], ◌∷◌, ◌++◌, length, map, drop, Option, Some, None, refl, sym, ap, ◌∙◌, subst, arith, if◌then◌else◌, slice_get, AllByRecursion, both_ways, rest_behind, Asked, Table, NullProc, Step, Hear, Expire, begun, ById, WINDOW, Task, is_none_left, one_more_in_window, Act, Told, Untold, Put, Cut, Gave, Silent, Mark, Plan, Action, Progress, has_begun, Part, put_part, first_request_part, heard_steps, client_part, sync_part, turned, time_passed, HoldsBefore, Model, waiting_of, is_heard, with_progress, with_rest, line_came, lines_came, lines_completed, after_piece, moved, Performs, mark_sent, place_next}
use Rattle.std.proofs.Common.{length-drop}
use Rattle.gc_client.specs.Prelude.{Send}
use Rattle.gc_station.proofs.Behind.{behind_by}
use Rattle.gc_station.proofs.Booking.{sent_by}
use Rattle.gc_station.proofs.FirstReply.{SendsNulls}
use Rattle.gc_station.proofs.Invariant.{Invariant}
use Rattle.gc_station.proofs.Walk.{quieted_along, closed_along, walk, piece_before}
use Rattle.gc_station.proofs.Asked.{steps_none}
use Rattle.gc_station.specs.declared.progress.Action.TheVariants as action

-- What an act does.

-- lines that are heard change the count (`behind`) as the steps that hear them do
lines_counted : (s : Model) (lines : List (List ℕ)) → (lines_came s lines).progress.exchange.behind ≡ behind_by s.client s.progress.exchange.behind (map Hear lines)
lines_counted s [] = refl
lines_counted s (line ∷ others) = lines_counted (line_came s line) others

-- once the station has synchronized, a piece changes the count as the steps that hear its lines do
came_counted : (heard : Bool) (word piece : List ℕ) (s : Model) → is_none_left word ≡ true
    → (after_piece heard word piece s).progress.exchange.behind ≡ behind_by s.client s.progress.exchange.behind (heard_steps heard s.rest piece)
came_counted true (asked ∷ others) piece s begun = cc
came_counted true [] piece s begun = lines_counted (with_rest (rest_behind s.rest piece) s) (lines_completed s.rest piece)
came_counted false word piece s begun = refl

-- the step that sends the first of some commands, at least one, counts one request more, up to seven
first_counted : (c : ById Asked) (b now : ℕ) (mark : Mark) (left : List Task) → 0 < length left → one_more_in_window b ≡ behind_by c b (first_request_part now mark left).steps
first_counted c b now mark [] some = absurd (omega (arith, some))
first_counted c b now mark (task ∷ others) some = refl

module _ (plan : Plan) (commands : List Task) where
  -- from s to t an act changes the count as the steps of its part do
  abbrev IsCounted : Action → Model → Act → Model → Type 0
  IsCounted o s act t = t.progress.exchange.behind ≡ behind_by s.client s.progress.exchange.behind (client_part plan commands s o act).steps

  -- once the station has synchronized, each act changes the count as the steps of its part do, unless the station resynchronizes
  pub behind_counted : (s : Model) (o : Action) (act : Act) → Invariant plan commands s → (needs : HoldsBefore plan s.progress (waiting_of s) o) → (performs : Performs commands s o act)
      → (begun : has_begun s.progress ≡ true)
      → (still : has_begun (moved plan commands o (with_progress turned s) act).progress ≡ true) → IsCounted o s act (moved plan commands o (with_progress turned s) act)
  behind_counted s action.Renew (Told m) fine is obeys begun still = cc
  behind_counted s action.Renew Untold fine is obeys begun still = refl
  behind_counted s action.Renew act fine is obeys begun still = absurd obeys
  behind_counted s action.Ask act fine is obeys begun still = absurd (both_ways (has_begun s.progress) is.1 begun)
  behind_counted s action.Send act fine is obeys begun still =
      let left = drop (place_next commands s.progress) commands in
      let many : length left ≡ length commands - place_next commands s.progress = length-drop (place_next commands s.progress) commands in
      let one = first_counted s.client s.progress.exchange.behind s.progress.moment.elapsed (mark_sent plan commands s) left (omega (arith, many, is.2, fine.unsent)) in
      walk plan commands (IsCounted action.Send s) action.Send (with_progress turned s) act obeys (λ m. one, λ n. one)
  behind_counted s (action.Read until) act fine is obeys begun still =
      walk plan commands (IsCounted (action.Read until) s) (action.Read until) (with_progress turned s) act obeys (
        λ bytes m. came_counted (is_heard s.progress.phase) s.progress.exchange.word bytes (piece_before m s) begun,
        λ m. quieted_along (λ (q : Progress). q.exchange.behind ≡ s.progress.exchange.behind) plan s.progress.phase (time_passed until m (turned s.progress)) refl refl refl,
        refl,
        refl,
        refl,
      )
  behind_counted s (action.Close why) act fine is obeys begun still =
      walk plan commands (IsCounted (action.Close why) s) (action.Close why) (with_progress turned s) act obeys
      (closed_along (λ (q : Progress). q.exchange.behind ≡ s.progress.exchange.behind) plan (waiting_of (with_rest [] (with_progress turned s))) why (turned s.progress) refl refl)
  behind_counted s (action.Stop why) act fine is obeys begun still = absurd obeys
  behind_counted s o act fine is obeys begun still = walk plan commands (IsCounted o s) o (with_progress turned s) act obeys (λ m. refl, λ n. refl)

-- What an act sends.

-- a step sends nothing
abbrev pub SendsNothing : Step Asked → Type 0
SendsNothing (Send target call deadline) = ⊥
SendsNothing _ = Unit {0}

-- no send is among steps that send nothing
pub no_send : (steps front later : List (Step Asked)) (target : ℕ) (call : Asked) (deadline : ℕ) → AllByRecursion SendsNothing steps → steps ≡ front ++ Send target call deadline ∷ later → ⊥
no_send [] [] later target call deadline none e = cc
no_send [] (f ∷ front) later target call deadline none e = cc
no_send (x ∷ xs) [] later target call deadline none e = let same : x ≡ Send target call deadline = cc in subst SendsNothing same none.0
no_send (x ∷ xs) (f ∷ front) later target call deadline none e = let tails : xs ≡ front ++ Send target call deadline ∷ later = cc in no_send xs front later target call deadline none.1 tails

-- what holds of each step that hears a line holds of the steps that hear these lines
all_hears : (P : Step Asked → Type 0) → ((line : List ℕ) → P (Hear line)) → (lines : List (List ℕ)) → AllByRecursion P (map Hear lines)
all_hears P each [] = tt
all_hears P each (line ∷ others) = (each line, all_hears P each others)

-- what holds of each step that hears a line holds of the steps for a piece, which is heard or discarded
pub all_heard_steps : (P : Step Asked → Type 0) → ((line : List ℕ) → P (Hear line)) → (heard : Bool) (rest piece : List ℕ) → AllByRecursion P (heard_steps heard rest piece)
all_heard_steps P each true rest piece = all_hears P each (lines_completed rest piece)
all_heard_steps P each false rest piece = tt

-- in a list of one step, no step comes before a send
no_step_before_send : (x : Step Asked) (front later : List (Step Asked)) (target : ℕ) (call : Asked) (deadline : ℕ) → x ∷ [] ≡ front ++ Send target call deadline ∷ later → front ≡ []
no_step_before_send x [] later target call deadline e = refl
no_step_before_send x (f ∷ []) later target call deadline e = cc
no_step_before_send x (f ∷ g ∷ front) later target call deadline e = cc

module _ (plan : Plan) (commands : List Task) (s : Model) (k : ById Asked) (more : List (Option Mark)) (front later : List (Step Asked)) (target : ℕ) (call : Asked) (deadline : ℕ) (mark : Option Mark) where
  -- in this part, with the marks `more` of later requests after its own, a request with the mark `mark` is sent after the steps
  -- `front`
  abbrev GoesOut : Part → Type 0
  GoesOut p = (p.steps ≡ front ++ Send target call deadline ∷ later) × (slice_get (p.marks ++ more) (length (sent_by k front)) ≡ Some mark)

  -- what an action sends that sends a request: a null procedure of the station's own, which has no mark; or a command
  abbrev pub SendsAs : Action → Type 0
  SendsAs action.Flush = (target ≡ 0) × (call ≡ Table NullProc) × (mark ≡ None)
  SendsAs action.Send = Unit {0}
  SendsAs action.Prepare = Unit {0}
  SendsAs _ = ⊥

  -- in the part of a request for the first of some commands, no step comes before the send of a request
  first_goes_out : (now : ℕ) (its : Mark) (left : List Task) → GoesOut (first_request_part now its left) → front ≡ []
  first_goes_out now its [] h = absurd (no_send [] front later target call deadline tt h.0)
  first_goes_out now its (task ∷ others) h = no_step_before_send _ front later target call deadline h.0

  -- with no step before it, the request of a null procedure is one
  null_goes_out : (own : ℕ) → front ≡ [] → Send 0 (Table NullProc) own ∷ [] ≡ front ++ Send target call deadline ∷ later
      → slice_get ((None ∷ []) ++ more) (length (sent_by k front)) ≡ Some mark → SendsAs action.Flush
  null_goes_out own e is at =
      let sent : ◌≡◌ {A = List (Step Asked)} (Send 0 (Table NullProc) own ∷ []) (Send target call deadline ∷ later) = is ∙ ap (λ l. l ++ Send target call deadline ∷ later) e in
      let first : ◌≡◌ {A = Option (Option Mark)} (Some None) (Some mark) = ap (λ l. slice_get ((None ∷ []) ++ more) (length (sent_by k l))) (sym e) ∙ at in (cc, cc, cc)

  -- if a request is sent in the part of an action that puts bytes, no step of the part comes before the send, and the action sends it
  put_goes_out : (o : Action) → GoesOut (put_part plan commands s o) → (front ≡ []) × SendsAs o
  put_goes_out action.Flush h =
      let none = no_step_before_send _ front later target call deadline h.0 in (none, null_goes_out _ none h.0 h.1)
  put_goes_out action.Send h = (first_goes_out s.progress.moment.elapsed (mark_sent plan commands s) (drop (place_next commands s.progress) commands) h, tt)
  put_goes_out action.Prepare h = (no_step_before_send _ front later target call deadline h.0, tt)
  put_goes_out o h = absurd (no_send [] front later target call deadline tt h.0)

  -- if a request is sent in the part of an act, once the station has synchronized, no step of the part comes before the send, and
  -- the action sends it
  client_goes_out : (o : Action) (act : Act) → GoesOut (client_part plan commands s o act) → (front ≡ []) × SendsAs o
  client_goes_out o (Told m) h = absurd (no_send (Expire m.elapsed ∷ []) front later target call deadline (tt, tt) h.0)
  client_goes_out o (Silent m) h = absurd (no_send (Expire m.elapsed ∷ []) front later target call deadline (tt, tt) h.0)
  client_goes_out o (Gave piece m) h =
      absurd (no_send (Expire m.elapsed ∷ heard_steps (is_heard s.progress.phase) s.rest piece) front later target call deadline
      (tt, all_heard_steps SendsNothing (λ line. tt) (is_heard s.progress.phase) s.rest piece) h.0)
  client_goes_out o (Put bytes) h = put_goes_out o h
  client_goes_out o (Cut bytes count) h = put_goes_out o h
  client_goes_out o act h = absurd (no_send [] front later target call deadline tt h.0)

  -- no request is sent while the station synchronizes
  sync_sends_none : (o : Action) (act : Act) → GoesOut (sync_part s o act) → ⊥
  sync_sends_none o act h = no_send [] front later target call deadline tt (sym (steps_none s o act) ∙ h.0)

  -- if a request is sent in the part of an act, whether the station has synchronized (`begun`) or not, no step of the part comes
  -- before the send, and the action sends it
  pub act_goes_out : (o : Action) (act : Act) (begun : Bool) → GoesOut (if begun then client_part plan commands s o act else sync_part s o act) → (front ≡ []) × SendsAs o
  act_goes_out o act true h = client_goes_out o act h
  act_goes_out o act false h = absurd (sync_sends_none o act h)

-- with seven requests behind the last call of the table, only null procedures are sent
module _ (plan : Plan) (commands : List Task) (s : Model) (far : s.progress.exchange.behind ≡ WINDOW) where
  -- by an act that puts bytes
  put_nulls : (o : Action) → HoldsBefore plan s.progress (waiting_of s) o → AllByRecursion SendsNulls (put_part plan commands s o).steps
  put_nulls action.Flush is = (refl, tt)
  put_nulls action.Send is = let near = is.5 in absurd (omega (arith, near, far))
  put_nulls action.Prepare is = let near = is.4 in absurd (omega (arith, near, far))
  put_nulls o is = tt

  -- by any act once the station has synchronized
  pub client_nulls : (o : Action) (act : Act) → HoldsBefore plan s.progress (waiting_of s) o → AllByRecursion SendsNulls (client_part plan commands s o act).steps
  client_nulls o (Told m) is = (tt, tt)
  client_nulls o (Silent m) is = (tt, tt)
  client_nulls o (Gave piece m) is = (tt, all_heard_steps SendsNulls (λ line. tt) (is_heard s.progress.phase) s.rest piece)
  client_nulls o (Put bytes) is = put_nulls o is
  client_nulls o (Cut bytes count) is = put_nulls o is
  client_nulls o act is = tt
