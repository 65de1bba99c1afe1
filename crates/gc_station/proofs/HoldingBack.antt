-- The station holds back: it counts how many requests the last line ended that ended any, and sends none unless these and the
-- outstanding ones are together fewer than seven; and it sends none once a line called for a synchronization. An act changes what the station notes of
-- lines at least as the client's steps of its part do (`lines_noted`): an answer that isn't as expected calls for one, too. A part reaches from one synchronization to the next. An act is one call on
-- the link, with its result.
use Rattle.gc_station.proofs.Common.{◌≡◌, inl, inr, ℕ, ◌+◌, ◌<◌, ◌&&◌, ◌||◌, Bool, true, false, not, List, [], ◌∷◌, ◌++◌, length, map, drop, nat_lt, Some, refl, sym, ap, ◌∙◌, subst, append_assoc, if◌then◌else◌, slice_get, AllByRecursion, both_ways, rest_behind, Asked, Step, Hear, Expire, Restart, ById, fresh, heard, hears, WINDOW, Task, is_none_left, ended_last, calls_for_renewal, last_ended, client_after, client_stepped, Act, Told, Untold, Put, Cut, Gave, Silent, Moment, Mark, Plan, Action, Progress, has_begun, parts, any_unexpected, Part, parts_joined, put_part, first_request_part, heard_steps, client_part, sync_part, part_of_act, in_front, parts_of, turned, time_passed, is_over, loses_all, HoldsBefore, Model, opening, action_at, waiting_of, is_heard, with_progress, with_rest, line_came, lines_came, line_busy, line_news, lines_completed, after_piece, moved, losing, after, Performs, Runs, with_losses, mark_sent, place_next, Scope}
use Rattle.gc_client.specs.Prelude.{Send}
use Rattle.gc_station.specs.HoldingBack.{RequestsAreHeldBack}
use Rattle.gc_station.specs.InDoubt.{NothingIsSentInDoubt}
use Rattle.gc_station.proofs.Booking.{client_append}
use Rattle.gc_station.proofs.Asked.{steps_none, begun_if_nothing_lost}
use Rattle.gc_station.proofs.Counts.{losing_progress}
use Rattle.gc_station.proofs.EachRun.{invariant_after, invariant_opening}
use Rattle.gc_station.proofs.Facts.{action_for}
use Rattle.gc_station.proofs.GoesBehind.{SendsNothing, no_send, all_heard_steps}
use Rattle.gc_station.proofs.Invariant.{Invariant}
use Rattle.gc_station.proofs.Lists.{all_at}
use Rattle.gc_station.proofs.Parting.{leads, keeps_new_client}
use Rattle.gc_station.proofs.SentWell.{Splits, split}
use Rattle.gc_station.proofs.Turns.{no_act_once_over}
use Rattle.gc_station.proofs.Walk.{asked_along, quieted_along, closed_along, walk, piece_before}
use Rattle.gc_station.proofs.Words.{renews_only}
use Rattle.gc_station.specs.declared.progress.Action.TheVariants as action

-- What a station notes of the lines of a part.

-- how many requests the last line ended that ended any, and whether a line called for a synchronization
pub record Noted : Type 0 where
  pub ended : ℕ
  pub doubtful : Bool

-- what a station notes at the start of a part
abbrev none_noted : Noted
none_noted = record { ended = 1; doubtful = false }

-- what this progress has
abbrev pub noted_in : Progress → Noted
noted_in p = record { ended = p.exchange.last_ended; doubtful = p.exchange.doubtful }

-- what is noted after a step of this client; `n` before it
abbrev pub noted_at : ById Asked → (n : Noted) → Step Asked → Noted
noted_at c n (Hear line) = record { ended = ended_last (length (hears c line (heard line)).settlements) n.ended; doubtful = n.doubtful || calls_for_renewal c line }
noted_at c n _ = n

-- the same after these steps of this client, in order
abbrev pub noted_by : ById Asked → (n : Noted) → List (Step Asked) → Noted
noted_by c n [] = n
noted_by c n (step ∷ steps) = noted_by (client_stepped c step) (noted_at c n step) steps

-- what `n` notes of lines is noted in `m`, too, which may note besides that a synchronization is called for
abbrev pub IsNotedIn : (n m : Noted) → Type 0
IsNotedIn n m = (n.ended ≡ m.ended) × (n.doubtful ≡ true → m.doubtful ≡ true)

-- what is equal is noted in the other
pub same_noted : (n m : Noted) → n ≡ m → IsNotedIn n m
same_noted n m e = (ap (λ (x : Noted). x.ended) e, λ d. sym (ap (λ (x : Noted). x.doubtful) e) ∙ d)

-- if one of two alternatives holds, so does one where the first (a) is replaced by what follows from it (b)
either_way : (a b call : Bool) → (a ≡ true → b ≡ true) → (a || call) ≡ true → (b || call) ≡ true
either_way true b call on e = ap (λ (x : Bool). x || call) (on refl)
either_way false true call on e = refl
either_way false false call on e = e

-- a step keeps it so
stepped_noted : (c : ById Asked) (n m : Noted) (step : Step Asked) → IsNotedIn n m → IsNotedIn (noted_at c n step) (noted_at c m step)
stepped_noted c n m (Hear line) is =
    (ap (ended_last (length (hears c line (heard line)).settlements)) is.0, λ d. either_way n.doubtful m.doubtful (calls_for_renewal c line) is.1 d)
stepped_noted c n m step is = is

-- so do steps
steps_noted : (c : ById Asked) (n m : Noted) (steps : List (Step Asked)) → IsNotedIn n m → IsNotedIn (noted_by c n steps) (noted_by c m steps)
steps_noted c n m [] is = is
steps_noted c n m (step ∷ steps) is = steps_noted (client_stepped c step) (noted_at c n step) (noted_at c m step) steps (stepped_noted c n m step is)

-- a request may be sent: those that are outstanding, and those that the last line ended, are together fewer than seven, and no line called
-- for a synchronization
abbrev HasRoomAt : ById Asked → Noted → Type 0
HasRoomAt c n = (length c.waiting + n.ended < WINDOW) × (n.doubtful ≡ false)

-- if it may be by all that is noted, it may be by what is noted of lines
room_for_less : (c : ById Asked) (n m : Noted) → IsNotedIn n m → HasRoomAt c m → HasRoomAt c n
room_for_less c n m is room =
    (subst (λ (k : ℕ). length c.waiting + k < WINDOW) (sym is.0) room.0, by_test n.doubtful refl) where
      -- a synchronization isn't called for by less
      by_test : (b : Bool) → n.doubtful ≡ b → b ≡ false
      by_test true e = let bad : true ≡ false = sym (is.1 e) ∙ room.1 in cc
      by_test false e = refl

-- What an act does.

-- what the steps that hear lines note is noted by the model that heard them, if what was noted before them is
lines_noted : (s : Model) (n : Noted) (lines : List (List ℕ)) → IsNotedIn n (noted_in s.progress) → IsNotedIn (noted_by s.client n (map Hear lines)) (noted_in (lines_came s lines).progress)
lines_noted s n [] is = is
lines_noted s n (line ∷ others) is =
    lines_noted (line_came s line) (noted_at s.client n (Hear line)) others (
      ap (ended_last (length (hears s.client line (heard line)).settlements)) is.0,
      λ d. ap (λ (x : Bool). (x || any_unexpected false (line_news line s)) || nat_lt 0 (line_busy line s))
          (either_way n.doubtful s.progress.exchange.doubtful (calls_for_renewal s.client line) is.1 d),
    )

-- once the station has synchronized, a piece changes it at least as the steps that hear its lines do
came_noted : (heard : Bool) (word piece : List ℕ) (s : Model) → is_none_left word ≡ true
    → IsNotedIn (noted_by s.client (noted_in s.progress) (heard_steps heard s.rest piece)) (noted_in (after_piece heard word piece s).progress)
came_noted true (asked ∷ others) piece s begun = cc
came_noted true [] piece s begun =
    lines_noted (with_rest (rest_behind s.rest piece) s) (noted_in s.progress) (lines_completed s.rest piece) (same_noted (noted_in s.progress) (noted_in s.progress) refl)
came_noted false word piece s begun = same_noted (noted_in s.progress) (noted_in s.progress) refl

-- the step that sends the first of some commands doesn't change it
first_noted : (c : ById Asked) (n : Noted) (now : ℕ) (mark : Mark) (left : List Task) → n ≡ noted_by c n (first_request_part now mark left).steps
first_noted c n now mark [] = refl
first_noted c n now mark (task ∷ others) = refl

-- while the station synchronizes, a piece, heard or discarded, doesn't change it
came_unchanged : (n : Noted) (heard : Bool) (word piece : List ℕ) (s : Model) → is_none_left word ≡ false → (noted_in s.progress) ≡ n → noted_in (after_piece heard word piece s).progress ≡ n
came_unchanged n true [] piece s begins e = cc
came_unchanged n true (asked ∷ others) piece s begins e = asked_along (λ (q : Progress). noted_in q ≡ n) (λ q line e. e) s.progress (lines_completed s.rest piece) e
came_unchanged n false word piece s begins e = e

module _ (plan : Plan) (commands : List Task) where
  -- from s to t an act changes it at least as the steps of its part do
  abbrev pub IsNoted : Action → Model → Act → Model → Type 0
  IsNoted o s act t = IsNotedIn (noted_by s.client (noted_in s.progress) (client_part plan commands s o act).steps) (noted_in t.progress)

  -- what a model notes is noted in it
  same : (s : Model) → IsNotedIn (noted_in s.progress) (noted_in s.progress)
  same s = same_noted (noted_in s.progress) (noted_in s.progress) refl

  -- from s to t an act doesn't change it
  abbrev IsUnchanged : Model → Act → Model → Type 0
  IsUnchanged s act t = (noted_in t.progress) ≡ (noted_in s.progress)

  -- once the station has synchronized, each act changes it at least as the steps of its part do, unless the station resynchronizes
  pub acts_noted : (s : Model) (o : Action) (act : Act) → (needs : HoldsBefore plan s.progress (waiting_of s) o) → (performs : Performs commands s o act)
      → (begun : has_begun s.progress ≡ true)
      → (still : has_begun (moved plan commands o (with_progress turned s) act).progress ≡ true) → IsNoted o s act (moved plan commands o (with_progress turned s) act)
  acts_noted s action.Renew (Told m) is obeys begun still = cc
  acts_noted s action.Renew Untold is obeys begun still = same_noted (noted_in s.progress) (noted_in s.progress) refl
  acts_noted s action.Renew act is obeys begun still = absurd obeys
  acts_noted s action.Ask act is obeys begun still = absurd (both_ways (has_begun s.progress) is.1 begun)
  acts_noted s action.Send act is obeys begun still =
      let left = drop (place_next commands s.progress) commands in
      let one = same_noted (noted_by s.client (noted_in s.progress) (first_request_part s.progress.moment.elapsed (mark_sent plan commands s) left).steps) (noted_in s.progress)
      (sym (first_noted s.client (noted_in s.progress) s.progress.moment.elapsed (mark_sent plan commands s) left)) in
      walk plan commands (IsNoted action.Send s) action.Send (with_progress turned s) act obeys (λ m. one, λ n. one)
  acts_noted s (action.Read until) act is obeys begun still =
      walk plan commands (IsNoted (action.Read until) s) (action.Read until) (with_progress turned s) act obeys (
        λ bytes m. came_noted (is_heard s.progress.phase) s.progress.exchange.word bytes (piece_before m s) begun,
        λ m. quieted_along (λ (q : Progress). IsNotedIn (noted_in s.progress) (noted_in q)) plan s.progress.phase (time_passed until m (turned s.progress)) (same s) (same s) (same s),
        same s,
        same s,
        same s,
      )
  acts_noted s (action.Close why) act is obeys begun still =
      walk plan commands (IsNoted (action.Close why) s) (action.Close why) (with_progress turned s) act obeys
      (closed_along (λ (q : Progress). IsNotedIn (noted_in s.progress) (noted_in q)) plan (waiting_of (with_rest [] (with_progress turned s))) why (turned s.progress) (same s) (same s))
  acts_noted s (action.Stop why) act is obeys begun still = absurd obeys
  acts_noted s o act is obeys begun still = walk plan commands (IsNoted o s) o (with_progress turned s) act obeys (λ m. same s, λ n. same s)

  -- while the station synchronizes, an act doesn't change it
  unchanged_before : (s : Model) (o : Action) (act : Act) → HoldsBefore plan s.progress (waiting_of s) o → Performs commands s o act → has_begun s.progress ≡ false
      → IsUnchanged s act (moved plan commands o (with_progress turned s) act)
  unchanged_before s action.Renew act is obeys begins = absurd (both_ways (has_begun s.progress) begins is.1)
  unchanged_before s action.Prepare act is obeys begins = absurd (both_ways (has_begun s.progress) begins is.1)
  unchanged_before s action.Send act is obeys begins = absurd (both_ways (has_begun s.progress) begins is.1)
  unchanged_before s action.Flush act is obeys begins = absurd (both_ways (has_begun s.progress) begins is.1)
  unchanged_before s (action.Read until) act is obeys begins =
      walk plan commands (IsUnchanged s) (action.Read until) (with_progress turned s) act obeys (
        λ bytes m. came_unchanged (noted_in s.progress) (is_heard s.progress.phase) s.progress.exchange.word bytes (piece_before m s) begins refl,
        λ m. quieted_along (λ (q : Progress). noted_in q ≡ (noted_in s.progress)) plan s.progress.phase (time_passed until m (turned s.progress)) refl refl refl,
        refl,
        refl,
        refl,
      )
  unchanged_before s (action.Close why) act is obeys begins =
      walk plan commands (IsUnchanged s) (action.Close why) (with_progress turned s) act obeys
      (closed_along (λ (q : Progress). noted_in q ≡ (noted_in s.progress)) plan (waiting_of (with_rest [] (with_progress turned s))) why (turned s.progress) refl refl)
  unchanged_before s (action.Stop why) act is obeys begins = absurd obeys
  unchanged_before s o act is obeys begins = walk plan commands (IsUnchanged s) o (with_progress turned s) act obeys (λ m. refl, λ n. refl)

  -- if the station resynchronizes, it is as at the start of a part
  renewed_none : (s : Model) (o : Action) (act : Act) (m : Moment) → o ≡ action.Renew → act ≡ Told m → noted_in (moved plan commands o (with_progress turned s) act).progress ≡ none_noted
  renewed_none s o act m is told =
      ap (λ (x : Action). noted_in (moved plan commands x (with_progress turned s) act).progress) is
      ∙ ap (λ (x : Act). noted_in (moved plan commands action.Renew (with_progress turned s) x).progress) told

-- What an act sends.

-- wherever a request is sent in the part p, if its client is `c` before it, and `n` is noted then, it may be sent
abbrev IsHeldFrom : (c : ById Asked) (n : Noted) → Part → Type 0
IsHeldFrom c n p =
    (front later : List (Step Asked)) (target : ℕ) (call : Asked) (deadline : ℕ) → p.steps ≡ front ++ Send target call deadline ∷ later
    → HasRoomAt (client_after c front) (noted_by c n front)

-- if it is so by all that is noted, it is by what is noted of lines
held_for_less : (c : ById Asked) (n m : Noted) (p : Part) → IsNotedIn n m → IsHeldFrom c m p → IsHeldFrom c n p
held_for_less c n m p is held front later target call deadline e =
    room_for_less (client_after c front) (noted_by c n front) (noted_by c m front) (steps_noted c n m front is) (held front later target call deadline e)

-- it is so of a part of one step, if there is room for it
one_held : (c : ById Asked) (n : Noted) (x : Step Asked) (front later : List (Step Asked)) (target : ℕ) (call : Asked) (deadline : ℕ) → x ∷ [] ≡ front ++ Send target call deadline ∷ later
    → HasRoomAt c n → HasRoomAt (client_after c front) (noted_by c n front)
one_held c n x [] later target call deadline e room = room
one_held c n x (f ∷ []) later target call deadline e room = cc
one_held c n x (f ∷ g ∷ front) later target call deadline e room = cc

-- it is so of the part of a request for the first of some commands, if there is room for it
first_held : (c : ById Asked) (n : Noted) (now : ℕ) (mark : Mark) (left : List Task) → HasRoomAt c n → IsHeldFrom c n (first_request_part now mark left)
first_held c n now mark [] room front later target call deadline e = absurd (no_send [] front later target call deadline tt e)
first_held c n now mark (task ∷ others) room front later target call deadline e = one_held c n _ front later target call deadline e room

module _ (plan : Plan) (commands : List Task) (s : Model) where
  -- it is so of the part of an action that puts bytes, if its conditions hold
  put_held : (o : Action) → HoldsBefore plan s.progress (waiting_of s) o → IsHeldFrom s.client (noted_in s.progress) (put_part plan commands s o)
  put_held action.Flush is front later target call deadline e = one_held s.client (noted_in s.progress) _ front later target call deadline e (is.4.1, is.4.2)
  put_held action.Prepare is front later target call deadline e = one_held s.client (noted_in s.progress) _ front later target call deadline e (is.3.1, is.3.2)
  put_held action.Send is front later target call deadline e =
      let left = drop (place_next commands s.progress) commands in
      first_held s.client (noted_in s.progress) s.progress.moment.elapsed (mark_sent plan commands s) left (is.3.1, is.3.2) front later target call deadline e
  put_held o is front later target call deadline e = absurd (no_send [] front later target call deadline tt e)

  -- it is so of the part of an act, once the station has synchronized
  client_held : (o : Action) (act : Act) → HoldsBefore plan s.progress (waiting_of s) o → IsHeldFrom s.client (noted_in s.progress) (client_part plan commands s o act)
  client_held o (Told m) is front later target call deadline e = absurd (no_send (Expire m.elapsed ∷ []) front later target call deadline (tt, tt) e)
  client_held o (Silent m) is front later target call deadline e = absurd (no_send (Expire m.elapsed ∷ []) front later target call deadline (tt, tt) e)
  client_held o (Gave piece m) is front later target call deadline e =
      absurd (no_send (Expire m.elapsed ∷ heard_steps (is_heard s.progress.phase) s.rest piece) front later target call deadline
      (tt, all_heard_steps SendsNothing (λ line. tt) (is_heard s.progress.phase) s.rest piece) e)
  client_held o (Put bytes) is front later target call deadline e = put_held o is front later target call deadline e
  client_held o (Cut bytes count) is front later target call deadline e = put_held o is front later target call deadline e
  client_held o act is front later target call deadline e = absurd (no_send [] front later target call deadline tt e)

  -- it is so of the part of an act, whether the station has synchronized (`begun`) or not
  act_held : (o : Action) (act : Act) (begun : Bool) → HoldsBefore plan s.progress (waiting_of s) o
      → IsHeldFrom s.client (noted_in s.progress) (if begun then client_part plan commands s o act else sync_part s o act)
  act_held o act true is front later target call deadline e = client_held o act is front later target call deadline e
  act_held o act false is front later target call deadline e = absurd (no_send [] front later target call deadline tt (sym (steps_none s o act) ∙ e))

-- Parts.

-- what is noted after some steps and then others is that after the others, from that after the first ones on
noted_append : (c : ById Asked) (n : Noted) (first later : List (Step Asked)) → noted_by c n (first ++ later) ≡ noted_by (client_after c first) (noted_by c n first) later
noted_append c n [] later = refl
noted_append c n (step ∷ first) later = noted_append (client_stepped c step) _ first later

-- if `IsHeldFrom` holds of a part, and after it of another, it holds of both as one
joined_held : (c : ById Asked) (n : Noted) (p q : Part) → IsHeldFrom c n p → IsHeldFrom (client_after c p.steps) (noted_by c n p.steps) q → IsHeldFrom c n (parts_joined p q)
joined_held c n p q a b front later target call deadline e = by_case (split p.steps q.steps front (Send target call deadline) later e) where
  -- the lemma above, whether the request is sent in the first part or in the other
  by_case : Splits p.steps q.steps front (Send target call deadline) later → HasRoomAt (client_after c front) (noted_by c n front)
  by_case (inl (mid, here)) = a front mid target call deadline here
  by_case (inr (rest, is_front, there)) =
      subst (λ (l : List (Step Asked)). HasRoomAt (client_after c l) (noted_by c n l)) (sym is_front)
      (subst (λ (x : ById Asked). HasRoomAt x (noted_by c n (p.steps ++ rest))) (sym (client_append c p.steps rest))
      (subst (λ (m : Noted). HasRoomAt (client_after (client_after c p.steps) rest) m) (sym (noted_append c n p.steps rest)) (b rest later target call deadline there)))

-- `IsHeldFrom` holds of the first of these parts, and of each other one with a new client
abbrev AreHeldFrom : (c : ById Asked) (n : Noted) → List Part → Type 0
AreHeldFrom c n [] = Unit {0}
AreHeldFrom c n (p ∷ ps) = IsHeldFrom c n p × AllByRecursion (IsHeldFrom fresh none_noted) ps

-- so it holds of each, if the first begins with a new client
held_all : (ps : List Part) → AreHeldFrom fresh none_noted ps → AllByRecursion (IsHeldFrom fresh none_noted) ps
held_all [] h = tt
held_all (p ∷ ps) h = h

-- if it holds by all that is noted, it does by what is noted of lines
all_held_for_less : (c : ById Asked) (n m : Noted) (ps : List Part) → IsNotedIn n m → AreHeldFrom c m ps → AreHeldFrom c n ps
all_held_for_less c n m [] is h = tt
all_held_for_less c n m (p ∷ ps) is h = (held_for_less c n m p is h.0, h.1)

-- with a part in front of the first
front_held : (c : ById Asked) (n : Noted) (p : Part) (ps : List Part) → IsHeldFrom c n p → AreHeldFrom (client_after c p.steps) (noted_by c n p.steps) ps → AreHeldFrom c n (in_front p false ps)
front_held c n p [] a h = (a, tt)
front_held c n p (q ∷ ps) a h = (joined_held c n p q a h.0, h.1)

-- Runs.

module _ (plan : Plan) (commands : List Task) where
  -- no request is sent in a part in which nothing happens
  over_held : (u : Model) (acts : List Act) → is_over u.progress ≡ true → Runs plan commands u acts → AllByRecursion (IsHeldFrom fresh none_noted) (parts_of plan commands u acts)
  over_held u [] over runs = ((λ front later target call deadline e. absurd (no_send [] front later target call deadline tt e)), tt)
  over_held u (act ∷ acts) over runs = absurd (no_act_once_over plan commands u act over runs.0)

  -- one act more, before the acts `acts`
  module _ (s : Model) (act : Act) (acts : List Act) (fine : Invariant plan commands s) (obeys : Performs commands s (action_at plan s) act) where
    -- the action that the act performs
    abbrev o : Action
    o = action_at plan s

    -- the conditions of that action hold
    its : HoldsBefore plan s.progress (waiting_of s) o
    its = action_for plan s.progress (waiting_of s)

    -- the client's part of the act
    abbrev part : Part
    part = part_of_act plan commands s o act

    -- the model after it, before what is outstanding is lost
    abbrev t : Model
    t = moved plan commands o (with_progress turned s) act

    -- the model after the act
    abbrev u : Model
    u = with_losses t

    -- the loss of what is outstanding changes no progress
    same_progress : u.progress ≡ t.progress
    same_progress = losing_progress (loses_all t.progress) t

    -- the parts of the acts after it
    abbrev ps : List Part
    ps = parts_of plan commands u acts

    -- `IsHeldFrom` holds of the part of the act
    alone : IsHeldFrom s.client (noted_in s.progress) part
    alone = act_held plan commands s o act (has_begun s.progress) its

    -- the steps of the act's part, by whether the station has synchronized (b)
    part_is : (b : Bool) → has_begun s.progress ≡ b → part.steps ≡ (if b then client_part plan commands s o act else sync_part s o act).steps
    part_is b w = ap (λ (x : Bool). (if x then client_part plan commands s o act else sync_part s o act).steps) w

    -- all that is outstanding is lost after the act: the others begin with a new client, or there is no other
    lost_held : has_begun s.progress ≡ true → (b going : Bool) → has_begun t.progress ≡ b → is_over t.progress ≡ going → (not b || going) ≡ true → loses_all t.progress ≡ true → Runs plan commands u acts
        → AreHeldFrom u.client (noted_in u.progress) ps → AllByRecursion (IsHeldFrom fresh none_noted) ps
    lost_held begun b true w v loses all runs next = over_held u acts (ap is_over same_progress ∙ v) runs
    lost_held begun true false w v loses all runs next = cc
    lost_held begun false false w v loses all runs next =
        let it = renews_only plan commands s o act obeys begun w in
        let one : (noted_in u.progress) ≡ none_noted = ap noted_in same_progress ∙ renewed_none plan commands s o act it.1 it.0 it.2 in
        let new : u.client ≡ fresh = ap (λ b. (losing b t).client) all in
        held_all ps (subst (λ (c : ById Asked). AreHeldFrom c none_noted ps) new (subst (λ (n : Noted). AreHeldFrom u.client n ps) one next))

    -- if `AreHeldFrom` holds of the parts after the act, it holds with the act's part before them; by whether the station had
    -- synchronized before the act (`started`), and whether what is outstanding is lost at its end (`all`)
    with_part : (started all : Bool) → has_begun s.progress ≡ started → loses_all t.progress ≡ all → Runs plan commands u acts → AreHeldFrom u.client (noted_in u.progress) ps
        → AreHeldFrom s.client (noted_in s.progress) (in_front part (started && all) ps)
    with_part true true w l runs next = (alone, lost_held w (has_begun t.progress) (is_over t.progress) refl refl l l runs next)
    with_part true false w l runs next =
        let same : u ≡ t = ap (λ b. losing b t) l in
        let still = begun_if_nothing_lost t l in
        let client : client_after s.client part.steps ≡ t.client = (leads plan commands s o act fine its obeys).client in
        let n : IsNotedIn (noted_by s.client (noted_in s.progress) part.steps) (noted_in t.progress) =
        subst (λ (steps : List (Step Asked)). IsNotedIn (noted_by s.client (noted_in s.progress) steps) (noted_in t.progress)) (sym (part_is true w))
        (acts_noted plan commands s o act its obeys w still) in
        let there : AreHeldFrom t.client (noted_in t.progress) ps = subst (λ (x : Model). AreHeldFrom x.client (noted_in x.progress) ps) same next in
        front_held s.client (noted_in s.progress) part ps alone
        (subst (λ (c : ById Asked). AreHeldFrom c (noted_by s.client (noted_in s.progress) part.steps) ps) (sym client)
        (all_held_for_less t.client (noted_by s.client (noted_in s.progress) part.steps) (noted_in t.progress) ps n there))
    with_part false all w l runs next =
        let kept = keeps_new_client plan commands s o act its obeys w (fine.begins w) in
        let steps : part.steps ≡ [] = part_is false w ∙ steps_none s o act in
        let new : u.client ≡ fresh = losing_new (loses_all t.progress) kept.0 in
        let same : u.client ≡ client_after s.client part.steps = new ∙ sym (fine.begins w) ∙ ap (client_after s.client) (sym steps) in
        let n : (noted_in u.progress) ≡ noted_by s.client (noted_in s.progress) part.steps =
        ap noted_in same_progress ∙ unchanged_before plan commands s o act its obeys w ∙ ap (noted_by s.client (noted_in s.progress)) (sym steps) in
        front_held s.client (noted_in s.progress) part ps alone
        (subst (λ (c : ById Asked). AreHeldFrom c (noted_by s.client (noted_in s.progress) part.steps) ps) same
        (subst (λ (m : Noted). AreHeldFrom u.client m ps) n next)) where
          -- a new client stays new, whether what is outstanding is lost or not
          losing_new : (b : Bool) → t.client ≡ fresh → (losing b t).client ≡ fresh
          losing_new true e = refl
          losing_new false e = e

  -- `AreHeldFrom` holds of the parts of a run from the model s on
  held_from : (s : Model) (acts : List Act) → Invariant plan commands s → (runs : Runs plan commands s acts) → AreHeldFrom s.client (noted_in s.progress) (parts_of plan commands s acts)
  held_from s [] fine runs = ((λ front later target call deadline e. absurd (no_send [] front later target call deadline tt e)), tt)
  held_from s (act ∷ acts) fine runs =
      let t = moved plan commands (action_at plan s) (with_progress turned s) act in
      let ps = parts_of plan commands (after plan commands s act) acts in
      subst (λ b. AreHeldFrom s.client (noted_in s.progress) (in_front (part_of_act plan commands s (action_at plan s) act) (has_begun s.progress && b) ps))
      (sym (ap loses_all (losing_progress (loses_all t.progress) t)))
      (with_part s act acts fine runs.0 (has_begun s.progress) (loses_all t.progress) refl refl runs.1
      (held_from (after plan commands s act) acts (invariant_after plan commands s act fine) runs.1))

-- what is noted of how many requests the last line ended is `last_ended`
ended_by : (c : ById Asked) (n : Noted) (steps : List (Step Asked)) → (noted_by c n steps).ended ≡ last_ended c n.ended steps
ended_by c n [] = refl
ended_by c n (Send target call deadline ∷ steps) = ended_by (client_stepped c (Send target call deadline)) n steps
ended_by c n (Hear line ∷ steps) = ended_by (client_stepped c (Hear line)) _ steps
ended_by c n (Expire now ∷ steps) = ended_by (client_stepped c (Expire now)) n steps
ended_by c n (Restart ∷ steps) = ended_by (client_stepped c Restart) n steps

-- that a line called for a synchronization stays noted
pub doubt_stays : (c : ById Asked) (n : Noted) (steps : List (Step Asked)) → n.doubtful ≡ true → (noted_by c n steps).doubtful ≡ true
doubt_stays c n [] doubt = doubt
doubt_stays c n (Send target call deadline ∷ steps) doubt = doubt_stays (client_stepped c (Send target call deadline)) n steps doubt
doubt_stays c n (Hear line ∷ steps) doubt = doubt_stays (client_stepped c (Hear line)) _ steps (ap (λ (b : Bool). b || calls_for_renewal c line) doubt)
doubt_stays c n (Expire now ∷ steps) doubt = doubt_stays (client_stepped c (Expire now)) n steps doubt
doubt_stays c n (Restart ∷ steps) doubt = doubt_stays (client_stepped c Restart) n steps doubt

-- if it isn't noted after a line and more steps, the line called for none
none_called : (c : ById Asked) (n : Noted) (line : List ℕ) (steps : List (Step Asked)) → (noted_by c n (Hear line ∷ steps)).doubtful ≡ false → calls_for_renewal c line ≡ false
none_called c n line steps none = by_test n.doubtful (calls_for_renewal c line) refl refl where
  -- the lemma above, whether it was noted before (d), and whether the line calls for one (b)
  by_test : (d b : Bool) → n.doubtful ≡ d → calls_for_renewal c line ≡ b → b ≡ false
  by_test d false was is = refl
  by_test true true was is =
      let stays = doubt_stays (client_stepped c (Hear line)) (noted_at c n (Hear line)) steps (ap (λ (x : Bool). x || calls_for_renewal c line) was) in
      let both : true ≡ false = sym stays ∙ none in cc
  by_test false true was is =
      let stays = doubt_stays (client_stepped c (Hear line)) (noted_at c n (Hear line)) steps (ap (λ (x : Bool). x || calls_for_renewal c line) was ∙ is) in
      let both : true ≡ false = sym stays ∙ none in cc

-- in each part of a run requests are sent where they may be (`IsHeldFrom`)
each_held : (plan : Plan) (commands : List Task) (scope : Scope) (acts : List Act) → Runs plan commands (opening plan scope) acts → (i : ℕ) (part : Part)
    → slice_get (parts plan commands scope acts) i ≡ Some part → IsHeldFrom fresh none_noted part
each_held plan commands scope acts runs i part at =
    all_at (IsHeldFrom fresh none_noted) (parts plan commands scope acts) i part (held_all (parts plan commands scope acts)
    (held_from plan commands (opening plan scope) acts (invariant_opening plan commands scope) runs)) at

-- the law: wherever a request is sent, the outstanding ones, and those that the last line ended that ended any, are together fewer than
-- seven
pub held_back : RequestsAreHeldBack
held_back plan commands scope acts runs i part at front later target call deadline e =
    subst (λ (n : ℕ). length (client_after fresh front).waiting + n < WINDOW) (ended_by fresh none_noted front)
    (each_held plan commands scope acts runs i part at front later target call deadline e).0

-- the law: nothing is sent after a line that calls for a synchronization
pub none_in_doubt : NothingIsSentInDoubt
none_in_doubt plan commands scope acts runs i part at front between later line target call deadline e =
    none_called (client_after fresh front) (noted_by fresh none_noted front) line between
    (ap (λ (n : Noted). n.doubtful) (sym (noted_append fresh none_noted front (Hear line ∷ between)))
    ∙ (each_held plan commands scope acts runs i part at (front ++ Hear line ∷ between) later target call deadline
    (e ∙ sym (append_assoc front (Hear line ∷ between) (Send target call deadline ∷ later)))).1)
