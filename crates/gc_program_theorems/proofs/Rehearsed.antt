-- A run of a station over a rehearsed line is one in the field: what happens on the line are turns and moves that show it.
use Rattle.gc_program_theorems.proofs.Common.{◌≡◌, ◌⊎◌, inl, inr, ℕ, ◌<◌, Bool, true, false, if◌then◌else◌, List, [], ◌∷◌, ◌++◌, length, Option, Some, None, refl, sym, ◌∙◌, ap, subst, append-nil, append_assoc, IsAskedFitting, asked_line, Asked, Wanted, course_at, ById, fresh, is_none_left, client_after, Act, Told, Untold, Put, Cut, Gave, Silent, Ended, Broke, Closed, Opened, Unopened, SceneState, Task, Plan, unanswered_after, heard_in, has_begun, occasion_of, Model, Performs, Runs, action_at, after, after_all, losing, opening, waiting_of, with_progress, MarksAsk, MarkAsks, Part, sync_part, client_part, in_front, idle_part, parts_of, put_part, is_over, loses_all, turned, sends_with_room, sent_by, invariant_after, invariant_opening, HasSome, some_parts, all_at, begins, leaves, none_under_way, MeansSyncSteps, under_way_on, ids_begun, IsInField, IsMeant, IsHeard, IsDiscarded, KeptReplyReads, scene_ends, scene_kept, AreShownAs, ReadsWithItsId, run_faithful, scene_is_an_instrument, AreSmall, word_small, cons_not_nil, Lines, Happening, Acts, ActLeads, Leads, PutLeads, LeadAll, acts_of, AreAskable, IsAskable, Exchange, exchange_at, exchanges_of, RehearsalsAreFaithful, as_program, exchanges_happened, none_in_flight, Has, run}
use Rattle.std.proofs.Common.{◌&&◌, ◌||◌, not}
use Rattle.gc_station.specs.Prelude.{moved}
use Rattle.gc_station.proofs.Asked.{FirstHasNoSyncSteps, begun_if_nothing_lost, first_part_no_sync_steps, word_empty}
use Rattle.gc_station.proofs.Facts.{action_for}
use Rattle.gc_station.proofs.Invariant.{Invariant}
use Rattle.gc_station.proofs.Meant.{IsPutByClient, put_by_client}
use Rattle.gc_station.proofs.Parting.{keeps_new_client, leads}
use Rattle.gc_station.proofs.Turns.{no_act_once_over}
use Rattle.gc_station.proofs.Beginnings.{word_if_resynchronizing}
use Rattle.gc_theorems.proofs.Meant.{is_meant}
use Rattle.gc_program_theorems.proofs.Acted.{MovesTo, TurnsTo, feed_no_line, left_ids_are_small, moves_gave, moves_moment, moves_none, moves_sends, same_line, turns_act}
use Rattle.gc_program_theorems.proofs.Courses.{BeginIsAt, FromBegin, FromClient, Sequel, WorldIsAt, after_exchanges, begins_in_flight, begun_from, begun_in_flight, ended_from, ends_client_idly, ends_begin, ends_client, sequel, steps_move, steps_turn}
use Rattle.gc_program_theorems.proofs.OnLine.{answers_on_line}
use Rattle.gc_program_theorems.proofs.Sides.{SceneWorld}
use Rattle.gc_program_theorems.proofs.Steps.{Holds, happens_by_steps}
use Rattle.gc_client.specs.OneForOne as client
use Rattle.gc_station.specs.Parts as part
use Rattle.gc_theorems.specs.Begin as begin

-- The parts of acts, by the first one and the others.

-- the first of these parts; where there is none, the one in which nothing happens
abbrev pub first_part : List Part → Part
first_part [] = idle_part
first_part (p ∷ ps) = p

-- the parts after the first
abbrev pub other_parts : List Part → List Part
other_parts [] = []
other_parts (p ∷ ps) = ps

-- where there is a part, the parts are the first and the others
pub first_and_others : (ps : List Part) → HasSome ps → ps ≡ first_part ps ∷ other_parts ps
first_and_others [] some = absurd some
first_and_others (p ∷ ps) some = refl

-- `FromBegin` by parts: from the state b of a synchronization on, its run shows the first part, and later runs the others
abbrev pub OnBegin : begin.SyncModel SceneState → Lines → List Part → List ℕ → List Exchange → Type 0
OnBegin b m ps left es = FromBegin b (first_part ps).sync_steps (first_part ps).steps (sequel (other_parts ps) m left es)

-- `FromClient` by parts: from the world w on, its client's run shows the steps of the first part, and later runs the others
abbrev pub OnClient : SceneWorld → Lines → List Part → List ℕ → List Exchange → Type 0
OnClient w m ps left es = FromClient w (first_part ps).steps (sequel (other_parts ps) m left es)

-- if an act comes to the steps of the synchronization in its part p (`TurnsTo`), which has no steps of the client, and `OnBegin`
-- holds of the later parts from each state that these steps may lead to, it holds from b of the later parts with p as the front
-- of the first one (`in_front`)
begin_first : (b : begin.SyncModel SceneState) (p : Part) (word : List ℕ) (n m : Lines) (ps : List Part) (left : List ℕ) (es : List Exchange) → HasSome ps → p.steps ≡ [] → TurnsTo b p.sync_steps word n
    → ((c : begin.SyncModel SceneState) → BeginIsAt c word n → OnBegin c m ps left es) → OnBegin b m (in_front p false ps) left es
begin_first b p word n m [] left es some none to on = absurd some
begin_first b p word n m (q ∷ ps) left es some none to on =
    subst (λ (ss : List (client.Step Asked)). FromBegin b (p.sync_steps ++ q.sync_steps) (ss ++ q.steps) (sequel ps m left es)) (sym none) (to q.sync_steps q.steps (sequel ps m left es) on)

-- if an act comes to the steps of its part p (`MovesTo`), and `OnClient` holds of the later parts from each world that these
-- steps may lead to, it holds from w of the later parts with p as the front of the first one (`in_front`)
client_first : (w : SceneWorld) (p : Part) (c : ById Asked) (n m : Lines) (ps : List Part) (left : List ℕ) (es : List Exchange) → HasSome ps → MovesTo w p.steps c n
    → ((v : SceneWorld) → WorldIsAt v c n → OnClient v m ps left es) → OnClient w m (in_front p false ps) left es
client_first w p c n m [] left es some to on = absurd some
client_first w p c n m (q ∷ ps) left es some to on = to q.steps (sequel ps m left es) on

-- if an act comes to the steps of its part p (`MovesTo`), which ends with the act, and `FromClient` holds from each world that
-- these steps may lead to, with no steps and with the later parts, `OnClient` holds from w of p and then the later parts
client_last : (w : SceneWorld) (p : Part) (c : ById Asked) (n m : Lines) (ps : List Part) (left : List ℕ) (es : List Exchange) → MovesTo w p.steps c n
    → ((v : SceneWorld) → Holds (under_way_on v.wire) n → FromClient v [] (sequel ps m left es)) → OnClient w m (in_front p true ps) left es
client_last w p c n m ps left es to on =
    subst (λ (ss : List (client.Step Asked)). FromClient w ss (sequel ps m left es)) (append-nil p.steps) (to [] (sequel ps m left es) (λ v at. on v at.1))

-- where a part has ended with the world v, and `OnBegin` holds of the later parts from a synchronization over what is in flight
-- in v, `FromClient` holds from v with no steps and with the later parts
client_anew : (v : SceneWorld) (m : Lines) (ps : List Part) (left : List ℕ) (es : List Exchange) → HasSome ps → OnBegin (begins (under_way_on v.wire)) m ps left es
    → FromClient v [] (sequel ps m left es)
client_anew v m [] left es some f = absurd some
client_anew v m (q ∷ ps) left es some f = ended_from v q (sequel ps m left es) f

-- What happens on the line, and is no act.

-- if this leads from the lines l to n, and `FromBegin` holds from each state with the lines n in flight and with the unanswered ids
-- of b, it holds from b, with the exchange of what happened
pub begin_happens : (h : Happening) → ((act : Act) → h ≡ Acts act → ⊥) → (b : begin.SyncModel SceneState) (l n : Lines) (show : List part.SyncStep) (steps : List (client.Step Asked)) (coming : Sequel)
    → Holds (leaves b) l → (does : Leads l h n)
    → ((c : begin.SyncModel SceneState) → Holds (leaves c) n → c.left ≡ b.left → FromBegin c show steps coming)
    → FromBegin b show steps (after_exchanges (exchange_at l h n does) coming)
begin_happens h never b l n show steps coming holds does on =
    let xs = happens_by_steps (leaves b) l n h never holds does in
    subst (λ es. FromBegin b show steps (after_exchanges es coming)) xs.same
    (steps_turn xs.steps b show steps coming xs.are (λ c e k. on c (subst (λ u. Holds u n) (sym e) xs.holds) k))

-- if this leads from the lines l to n, and `FromClient` holds from each world with the lines n in flight and with the client of w, it
-- holds from w, with the exchange of what happened
pub client_happens : (h : Happening) → ((act : Act) → h ≡ Acts act → ⊥) → (w : SceneWorld) (l n : Lines) (steps : List (client.Step Asked)) (coming : Sequel)
    → Holds (under_way_on w.wire) l → (does : Leads l h n)
    → ((v : SceneWorld) → Holds (under_way_on v.wire) n → v.client ≡ w.client → FromClient v steps coming)
    → FromClient w steps (after_exchanges (exchange_at l h n does) coming)
client_happens h never w l n steps coming holds does on =
    let xs = happens_by_steps (under_way_on w.wire) l n h never holds does in
    subst (λ es. FromClient w steps (after_exchanges es coming)) xs.same
    (steps_move xs.steps w steps coming xs.are (λ v e k. on v (subst (λ u. Holds u n) (sym e) xs.holds) k))

-- What commands ask.

-- where the commands are `IsAskable`, what a request asks, by its mark's command or as a null procedure, is allowed
-- (`IsAskedFitting`)
asked_fits : (commands : List Task) (mark : Option _) (a : Wanted Asked) → AreAskable commands → MarkAsks commands mark a → IsAskedFitting a.call
asked_fits commands None a askable is = subst (λ (x : Wanted Asked). IsAskedFitting x.call) (sym is) tt
asked_fits commands (Some mark) a askable is =
    subst (λ (x : Wanted Asked). IsAskedFitting x.call) (sym is.2) (all_at IsAskable commands mark.place is.0 askable is.1 (occasion_of mark))

-- by one send a client sends just that request, if its window has room
sent_one : (c : ById Asked) (target : ℕ) (call : Asked) (deadline : ℕ) → length c.waiting < 7
    → sent_by c (client.Send target call deadline ∷ []) ≡ record { target = target; call = call } ∷ []
sent_one c target call deadline room = ap (λ o. (client.sent_on (course_at c) target call o).sent ++ []) (sends_with_room c target call deadline room)

-- the loss of what is outstanding, at the end of an act, changes nothing in whether all of it is lost
losing_loses : (b : Bool) (t : Model) → loses_all (losing b t).progress ≡ loses_all t.progress
losing_loses true t = refl
losing_loses false t = refl

module _ (plan : Plan) (commands : List Task) (askable : AreAskable commands) where
  -- an act that puts bytes, whole or in part, once the station has synchronized, comes to the steps that it means
  moves_put : (s : Model) (bytes : List ℕ) (w : SceneWorld) (l n : Lines) → Invariant plan commands s → WorldIsAt w s.client l
      → (let p = put_part plan commands s (action_at plan s) in MarksAsk commands p.marks (sent_by s.client p.steps))
      → IsPutByClient s bytes (put_part plan commands s (action_at plan s)) → PutLeads l bytes n
      → MovesTo w (put_part plan commands s (action_at plan s)).steps (client_after s.client (put_part plan commands s (action_at plan s)).steps) n
  moves_put s bytes w l n fine at of (inl feed) (inl same) =
      subst (λ (p : Part). MovesTo w p.steps (client_after s.client p.steps) n) (sym feed.1) (moves_none w s.client l n at same)
  moves_put s bytes w l n fine at of (inl feed) (inr sent) = absurd (feed_no_line sent.0 (sym feed.0 ∙ sent.1))
  moves_put s bytes w l n fine at of (inr x) came =
      let one = subst (λ (p : Part). MarksAsk commands p.marks (sent_by s.client p.steps)) x.part of in
      let fits = asked_fits commands x.mark (record { target = x.target; call = x.call }) askable
      (subst (MarksAsk commands (x.mark ∷ [])) (sent_one s.client x.target x.call x.deadline x.room) one).0 in
      subst (λ (p : Part). MovesTo w p.steps (client_after s.client p.steps) n) (sym x.part) (by_came came fits) where
        -- the steps that the send comes to, by whether the request is lost or is in flight
        by_came : PutLeads l bytes n → IsAskedFitting x.call
            → MovesTo w (client.Send x.target x.call x.deadline ∷ []) (client_after s.client (client.Send x.target x.call x.deadline ∷ [])) n
        by_came (inl same) fits = moves_sends w s.client x.target x.call x.deadline (asked_line (Some s.client.next) x.call) l n at x.room fine.digit fits refl (inl same)
        by_came (inr sent) fits =
            moves_sends w s.client x.target x.call x.deadline sent.0 l n at x.room fine.digit fits
            (same_line sent.0 (asked_line (Some s.client.next) x.call) (sym sent.1 ∙ x.text)) (inr sent.2)

  -- what an act sends once the station has synchronized is of its mark's command, or a null procedure
  sends_of : (s : Model) (act : Act) → Invariant plan commands s → Performs commands s (action_at plan s) act → has_begun s.progress ≡ true
      → MarksAsk commands (client_part plan commands s (action_at plan s) act).marks (sent_by s.client (client_part plan commands s (action_at plan s) act).steps)
  sends_of s act fine obeys begun =
      let o = action_at plan s in
      let books = leads plan commands s o act fine (action_for plan s.progress (waiting_of s)) obeys in
      subst (λ (b : Bool). MarksAsk commands (if b then client_part plan commands s o act else sync_part s o act).marks
      (sent_by s.client (if b then client_part plan commands s o act else sync_part s o act).steps))
      begun books.wrote.sent

  -- an act once the station has synchronized leaves no bytes of an unfinished line if there were none, and comes to the steps
  -- of the act's part
  moves_act : (s : Model) (act : Act) (w : SceneWorld) (l n : Lines) → Invariant plan commands s → Performs commands s (action_at plan s) act
      → (begun : has_begun s.progress ≡ true) → (empty : s.rest ≡ []) → WorldIsAt w s.client l → ActLeads l act n
      → ((after plan commands s act).rest ≡ [])
      × MovesTo w (client_part plan commands s (action_at plan s) act).steps (client_after s.client (client_part plan commands s (action_at plan s) act).steps) n
  moves_act s (Put bytes) w l n fine obeys begun rest at does = (
    (is_meant plan commands s (Put bytes) true begun fine obeys).1.1 ∙ rest,
    moves_put s bytes w l n fine at (sends_of s (Put bytes) fine obeys begun) (put_by_client plan commands s (Put bytes) bytes fine obeys refl begun) does,
  )
  moves_act s (Cut bytes count) w l n fine obeys begun rest at does = (
    (is_meant plan commands s (Cut bytes count) true begun fine obeys).1.1 ∙ rest,
    moves_put s bytes w l n fine at (sends_of s (Cut bytes count) fine obeys begun) (put_by_client plan commands s (Cut bytes count) bytes fine obeys refl begun) (inl does),
  )
  moves_act s (Gave piece moment) w l n fine obeys begun rest at does =
      let p = client_part plan commands s (action_at plan s) (Gave piece moment) in
      let behind = (after plan commands s (Gave piece moment)).rest in
      let means = (is_meant plan commands s (Gave piece moment) true begun fine obeys).1 in
      moves_gave w s.client piece moment p.steps behind l n at (subst (λ r. IsHeard r piece moment p.steps behind ⊎ IsDiscarded r moment p.steps behind) rest means) does
  moves_act s (Told moment) w l n fine obeys begun rest at does = (
    (is_meant plan commands s (Told moment) true begun fine obeys).1.1 ∙ rest,
    moves_moment w s.client moment.elapsed l n at does,
  )
  moves_act s (Silent moment) w l n fine obeys begun rest at does = (
    (is_meant plan commands s (Silent moment) true begun fine obeys).1.1 ∙ rest,
    moves_moment w s.client moment.elapsed l n at does,
  )
  moves_act s Untold w l n fine obeys begun rest at does = ((is_meant plan commands s Untold true begun fine obeys).1.1 ∙ rest, moves_none w s.client l n at does)
  moves_act s Ended w l n fine obeys begun rest at does = ((is_meant plan commands s Ended true begun fine obeys).1.1 ∙ rest, moves_none w s.client l n at does)
  moves_act s Broke w l n fine obeys begun rest at does = ((is_meant plan commands s Broke true begun fine obeys).1.1 ∙ rest, moves_none w s.client l n at does)
  moves_act s Closed w l n fine obeys begun rest at does = ((is_meant plan commands s Closed true begun fine obeys).1.1, moves_none w s.client l n at does)
  moves_act s Opened w l n fine obeys begun rest at does = ((is_meant plan commands s Opened true begun fine obeys).1.1 ∙ rest, moves_none w s.client l n at does)
  moves_act s Unopened w l n fine obeys begun rest at does = ((is_meant plan commands s Unopened true begun fine obeys).1.1 ∙ rest, moves_none w s.client l n at does)

  -- Whole runs.

  -- once the station has synchronized, the client after an act at which not all is lost is the one after the act's steps
  client_on : (s : Model) (act : Act) → Invariant plan commands s → Performs commands s (action_at plan s) act → has_begun s.progress ≡ true
      → loses_all (after plan commands s act).progress ≡ false → (after plan commands s act).client ≡ client_after s.client (client_part plan commands s (action_at plan s) act).steps
  client_on s act fine obeys begun keeps =
      let o = action_at plan s in
      let t = moved plan commands o (with_progress turned s) act in
      let books = leads plan commands s o act fine (action_for plan s.progress (waiting_of s)) obeys in
      let same : loses_all t.progress ≡ false = sym (losing_loses (loses_all t.progress) t) ∙ keeps in
      ap (λ b. (losing b t).client) same
      ∙ sym (subst (λ (b : Bool). client_after s.client (if b then client_part plan commands s o act else sync_part s o act).steps ≡ t.client) begun books.client)

  -- the model after an act, before what is outstanding is lost
  abbrev moved_by : Model → Act → Model
  moved_by s act = moved plan commands (action_at plan s) (with_progress turned s) act

  -- while the station synchronizes, an act leaves the client new
  client_new : (s : Model) (act : Act) → Invariant plan commands s → Performs commands s (action_at plan s) act → has_begun s.progress ≡ false → (after plan commands s act).client ≡ fresh
  client_new s act fine obeys begins = by_loss (loses_all (moved_by s act).progress) where
    -- the act itself leaves the client new
    kept : (moved_by s act).client ≡ fresh
    kept = (keeps_new_client plan commands s (action_at plan s) act (action_for plan s.progress (waiting_of s)) obeys begins (fine.begins begins)).0

    -- the client is new whether what is outstanding is lost (`b`) or not
    by_loss : (b : Bool) → (losing b (moved_by s act)).client ≡ fresh
    by_loss true = refl
    by_loss false = kept

  -- a word of which some ids are left isn't empty
  some_left : (word : List ℕ) → is_none_left word ≡ false → word ≡ [] → ⊥
  some_left [] e none = cc
  some_left (asked ∷ rest) e none = cc

  -- if what happens on the line has no acts, and `FromClient` holds from each world with the lines that this leads to in flight
  -- and with the client of w, it holds from w, with the exchanges of what happens
  goes_idly : (hs : List Happening) (w : SceneWorld) (l m : Lines) (steps : List (client.Step Asked)) (coming : Sequel) → acts_of hs ≡ [] → Holds (under_way_on w.wire) l → (all : LeadAll l hs m)
      → ((v : SceneWorld) → Holds (under_way_on v.wire) m → FromClient v steps coming) → FromClient w steps (after_exchanges (exchanges_of l hs m all) coming)
  goes_idly [] w l m steps coming none holds all on = on w (subst (Holds (under_way_on w.wire)) (sym all) holds)
  goes_idly (Acts act ∷ hs) w l m steps coming none holds all on = absurd (cons_not_nil act (acts_of hs) none)
  goes_idly (h ∷ hs) w l m steps coming none holds all on =
      let others = exchanges_of all.0 hs m all.2 in
      subst (λ es. FromClient w steps (record coming { exchanges = es })) (sym (append_assoc (exchange_at l h all.0 all.1) others coming.exchanges))
      (client_happens h (λ act e. cc) w l all.0 steps (after_exchanges others coming) holds all.1 (λ v next k. goes_idly hs v all.0 m steps coming none next all.2 on))

  -- From a synchronization and from a client on.

  -- if these parts are `FirstHasNoSyncSteps`, the first of them has no steps of a synchronization
  first_none : (ps : List Part) → FirstHasNoSyncSteps ps → (first_part ps).sync_steps ≡ []
  first_none [] none = refl
  first_none (p ∷ ps) none = none

  -- acts that are a run from a model t in which the run is over are none
  none_over : (t : Model) (acts : List Act) → is_over t.progress ≡ true → Runs plan commands t acts → acts ≡ []
  none_over t [] over runs = refl
  none_over t (act ∷ acts) over runs = absurd (no_act_once_over plan commands t act over runs.0)

  -- from each state b of a synchronization on that agrees with the station's model s, which synchronizes, and with the line: what
  -- happens on the line shows the parts of the station's run by these acts, with the exchanges of what happens
  abbrev FromBeginOf : List Happening → Lines → Type 0
  FromBeginOf hs m =
      (s : Model) (b : begin.SyncModel SceneState) (l : Lines) → Invariant plan commands s → s.rest ≡ [] → has_begun s.progress ≡ false → BeginIsAt b s.progress.exchange.word l
      → AreSmall s.progress.exchange.word → (all : LeadAll l hs m) → Runs plan commands s (acts_of hs)
      → OnBegin b m (parts_of plan commands s (acts_of hs)) (after_all plan commands s (acts_of hs)).progress.exchange.word (exchanges_of l hs m all)

  -- from each world w of a client on that agrees with the station's model s, which has synchronized, and with the line: what
  -- happens on the line shows the parts of the station's run by these acts, with the exchanges of what happens
  abbrev FromClientOf : List Happening → Lines → Type 0
  FromClientOf hs m =
      (s : Model) (w : SceneWorld) (l : Lines) → Invariant plan commands s → s.rest ≡ [] → has_begun s.progress ≡ true → WorldIsAt w s.client l
      → (all : LeadAll l hs m) → Runs plan commands s (acts_of hs)
      → OnClient w m (parts_of plan commands s (acts_of hs)) (after_all plan commands s (acts_of hs)).progress.exchange.word (exchanges_of l hs m all)

  -- if what happens later is `FromBeginOf` and `FromClientOf`, it is `FromBeginOf` with one more act before it
  act_begin : (act : Act) (hs : List Happening) (m : Lines) → FromBeginOf hs m → FromClientOf hs m → FromBeginOf (Acts act ∷ hs) m
  act_begin act hs m later_begin later_client s b l fine rest begins at ids all runs =
      let o = action_at plan s in
      let t = after plan commands s act in
      let p = sync_part s o act in
      let left = (after_all plan commands t (acts_of hs)).progress.exchange.word in
      subst (λ x. OnBegin b m (in_front (if x then client_part plan commands s o act else sync_part s o act) (x && loses_all t.progress) (parts_of plan commands t (acts_of hs))) left (exchanges_of all.0 hs m all.2)) (sym begins)
      (begin_first b p (unanswered_after s.progress.exchange.word (heard_in p.sync_steps)) all.0 m (parts_of plan commands t (acts_of hs)) left (exchanges_of all.0 hs m all.2) (some_parts plan commands t (acts_of hs)) means.0 to.1
      (λ c later. next c (subst (λ word. BeginIsAt c word all.0) (sym means.2) later) (has_begun t.progress) refl)) where
        -- the act means its part
        means : IsMeant false s act (sync_part s (action_at plan s) act) (after plan commands s act)
        means = is_meant plan commands s act false begins fine runs.0

        -- no bytes of an unfinished line are left, and the act comes to the steps of its part
        to : ((after plan commands s act).rest ≡ [])
            × TurnsTo b (sync_part s (action_at plan s) act).sync_steps (unanswered_after s.progress.exchange.word (heard_in (sync_part s (action_at plan s) act).sync_steps)) all.0
        to = turns_act b s.progress.exchange.word act (sync_part s (action_at plan s) act).sync_steps (after plan commands s act).rest l all.0 at ids (some_left s.progress.exchange.word begins)
            (subst (λ r. MeansSyncSteps s.progress.exchange.word r act (sync_part s (action_at plan s) act).sync_steps (after plan commands s act).rest) rest means.1) all.1

        -- what happens later, from the state after the act, by whether the station has synchronized then (`x`)
        next : (c : begin.SyncModel SceneState) → BeginIsAt c (after plan commands s act).progress.exchange.word all.0 → (x : Bool) → has_begun (after plan commands s act).progress ≡ x
            → OnBegin c m (parts_of plan commands (after plan commands s act) (acts_of hs)) (after_all plan commands (after plan commands s act) (acts_of hs)).progress.exchange.word
            (exchanges_of all.0 hs m all.2)
        next c later false e =
            later_begin (after plan commands s act) c all.0 (invariant_after plan commands s act fine) to.0 e later
            (subst AreSmall (sym means.2) (left_ids_are_small s.progress.exchange.word (heard_in (sync_part s (action_at plan s) act).sync_steps) ids)) all.2 runs.1
        next c later true e =
            let u = after plan commands s act in
            let ps = parts_of plan commands u (acts_of hs) in
            begun_from c (first_part ps).sync_steps (first_part ps).steps (sequel (other_parts ps) m (after_all plan commands u (acts_of hs)).progress.exchange.word (exchanges_of all.0 hs m all.2))
            (later.0 ∙ word_empty u.progress.exchange.word e) (first_none ps (first_part_no_sync_steps plan commands u (acts_of hs) e))
            (later_client u (ids_begun (leaves c)) all.0 (invariant_after plan commands s act fine) to.0 e
            (sym (client_new s act fine runs.0 begins), subst (λ v. Holds v all.0) (sym (begun_in_flight (leaves c))) later.1) all.2 runs.1)

  -- if what happens later is `FromBeginOf` and `FromClientOf`, it is `FromClientOf` with one more act before it
  act_client : (act : Act) (hs : List Happening) (m : Lines) → FromBeginOf hs m → FromClientOf hs m → FromClientOf (Acts act ∷ hs) m
  act_client act hs m later_begin later_client s w l fine rest begun at all runs =
      let o = action_at plan s in
      let t = after plan commands s act in
      let left = (after_all plan commands t (acts_of hs)).progress.exchange.word in
      subst (λ x. OnClient w m (in_front (if x then client_part plan commands s o act else sync_part s o act) (x && loses_all t.progress) (parts_of plan commands t (acts_of hs))) left (exchanges_of all.0 hs m all.2)) (sym begun)
      (by_loss (loses_all t.progress) refl) where
        -- no bytes of an unfinished line are left, and the act comes to its steps
        to : ((after plan commands s act).rest ≡ [])
            × MovesTo w (client_part plan commands s (action_at plan s) act).steps (client_after s.client (client_part plan commands s (action_at plan s) act).steps) all.0
        to = moves_act s act w l all.0 fine runs.0 begun rest at all.1

        -- a station that loses all, and isn't synchronizing again, is over
        over_of : has_begun (after plan commands s act).progress ≡ true → loses_all (after plan commands s act).progress ≡ true
            → is_over (after plan commands s act).progress ≡ true
        over_of e f = subst (λ y. (not y || is_over (after plan commands s act).progress) ≡ true) e f

        -- what happens later, where the part has ended, by whether the station has synchronized after the act (`x`); if it has,
        -- the run is over
        anew : (v : SceneWorld) → Holds (under_way_on v.wire) all.0 → loses_all (after plan commands s act).progress ≡ true → (x : Bool) → has_begun (after plan commands s act).progress ≡ x
            → FromClient v []
            (sequel (parts_of plan commands (after plan commands s act) (acts_of hs)) m (after_all plan commands (after plan commands s act) (acts_of hs)).progress.exchange.word (exchanges_of all.0 hs m all.2))
        anew v h lost false e =
            let u = after plan commands s act in
            let word = word_if_resynchronizing plan commands s act runs.0 begun e in
            client_anew v m (parts_of plan commands u (acts_of hs)) (after_all plan commands u (acts_of hs)).progress.exchange.word (exchanges_of all.0 hs m all.2)
            (some_parts plan commands u (acts_of hs))
            (later_begin u (begins (under_way_on v.wire)) all.0 (invariant_after plan commands s act fine) to.0 e
            (sym word, subst (λ q. Holds q all.0) (sym (begins_in_flight (under_way_on v.wire))) h) (subst AreSmall (sym word) word_small) all.2 runs.1)
        anew v h lost true e =
            let u = after plan commands s act in
            let none = none_over u (acts_of hs) (over_of e lost) runs.1 in
            let es = exchanges_of all.0 hs m all.2 in
            subst (λ acts. FromClient v [] (sequel (parts_of plan commands u acts) m (after_all plan commands u (acts_of hs)).progress.exchange.word es)) (sym none)
            (subst (λ l. FromClient v [] (sequel (idle_part ∷ []) m (after_all plan commands u (acts_of hs)).progress.exchange.word l)) (append-nil es)
            (goes_idly hs v all.0 m [] (sequel (idle_part ∷ []) m (after_all plan commands u (acts_of hs)).progress.exchange.word []) none h all.2
            (λ x g. ends_client_idly x m (after_all plan commands u (acts_of hs)).progress.exchange.word g)))

        -- `OnClient` holds from w with the act, whether the part ends with it (`x` is true) or goes on
        by_loss : (x : Bool) → loses_all (after plan commands s act).progress ≡ x
            → OnClient w m (in_front (client_part plan commands s (action_at plan s) act) x (parts_of plan commands (after plan commands s act) (acts_of hs)))
            (after_all plan commands (after plan commands s act) (acts_of hs)).progress.exchange.word (exchanges_of all.0 hs m all.2)
        by_loss false e =
            let u = after plan commands s act in
            let p = client_part plan commands s (action_at plan s) act in
            client_first w p (client_after s.client p.steps) all.0 m (parts_of plan commands u (acts_of hs)) (after_all plan commands u (acts_of hs)).progress.exchange.word
            (exchanges_of all.0 hs m all.2) (some_parts plan commands u (acts_of hs)) to.1
            (λ v later. later_client u v all.0 (invariant_after plan commands s act fine) to.0 (begun_if_nothing_lost u e)
            (subst (λ c. WorldIsAt v c all.0) (sym (client_on s act fine runs.0 begun e)) later) all.2 runs.1)
        by_loss true e =
            let u = after plan commands s act in
            let p = client_part plan commands s (action_at plan s) act in
            client_last w p (client_after s.client p.steps) all.0 m (parts_of plan commands u (acts_of hs)) (after_all plan commands u (acts_of hs)).progress.exchange.word
            (exchanges_of all.0 hs m all.2) to.1
            (λ v h. anew v h e (has_begun u.progress) refl)

  -- whatever happens on the line is `FromBeginOf` and `FromClientOf`: it shows what the station sees in a run
  pub shows_the_run : (hs : List Happening) (m : Lines) → FromBeginOf hs m × FromClientOf hs m
  shows_the_run [] m = (
    λ s b l fine rest begins at ids all runs.
        subst (λ left. FromBegin b [] [] (sequel [] m left [])) at.0 (ends_begin b m (λ e. some_left s.progress.exchange.word begins (sym at.0 ∙ e)) (subst (Holds (leaves b)) (sym all) at.1)),
    λ s w l fine rest begun at all runs. ends_client w m s.progress.exchange.word (subst (Holds (under_way_on w.wire)) (sym all) at.1),
  )
  shows_the_run (Acts act ∷ hs) m = let later = shows_the_run hs m in (act_begin act hs m later.0 later.1, act_client act hs m later.0 later.1)
  shows_the_run (h ∷ hs) m =
      let later = shows_the_run hs m in (
        λ s b l fine rest begins at ids all runs.
            let ps = parts_of plan commands s (acts_of hs) in
            begin_happens h (λ act e. cc) b l all.0 (first_part ps).sync_steps (first_part ps).steps
            (sequel (other_parts ps) m (after_all plan commands s (acts_of hs)).progress.exchange.word (exchanges_of all.0 hs m all.2)) at.1 all.1
            (λ c holds k. later.0 s c all.0 fine rest begins (k ∙ at.0, holds) ids all.2 runs),
        λ s w l fine rest begun at all runs.
            let ps = parts_of plan commands s (acts_of hs) in
            client_happens h (λ act e. cc) w l all.0 (first_part ps).steps
            (sequel (other_parts ps) m (after_all plan commands s (acts_of hs)).progress.exchange.word (exchanges_of all.0 hs m all.2)) at.1 all.1
            (λ v holds k. later.1 s v all.0 fine rest begun (k ∙ at.0, holds) all.2 runs),
      )

-- if the instrument keeps no reply, its state is a good one (`KeptReplyReads`)
pub none_kept : (state : SceneState) → state.base.kept ≡ None → KeptReplyReads state
none_kept state none = subst ReadsWithItsId (sym none) tt

-- a run over a rehearsed line is one in the field, and faithful
pub rehearsed_runs_are_faithful : RehearsalsAreFaithful
rehearsed_runs_are_faithful x lines c askable runs =
    let u = none_under_way c.start in
    let start = none_in_flight c.start in
    let es = exchanges_happened lines c in
    let good = none_kept c.start c.none in
    let s = opening x.plan x.scope in
    let g = (shows_the_run x.plan x.commands askable c.happened lines).0 s (begins u) start (invariant_opening x.plan x.commands x.scope) refl refl
    (refl, record { up = tt; down = refl; one = tt; state = refl; good = good }) word_small c.leads (subst (Runs x.plan x.commands s) (sym c.acts_are) runs) in
    let f = subst (λ told. OnBegin (begins u) lines (parts_of x.plan x.commands s told) (after_all x.plan x.commands s told).progress.exchange.word es) c.acts_are g in
    let parts = first_and_others (parts_of x.plan x.commands s x.acts) (some_parts x.plan x.commands s x.acts) in
    let program = as_program x (run f.ts f.ms ∷ f.rs) in
    let field : IsInField scene_ends KeptReplyReads scene_kept u program = record {
      runs = runs;
      lines = record { ids = tt; good = good };
      none = λ word. word;
      shown = subst (AreShownAs scene_ends u (run f.ts f.ms ∷ f.rs)) (sym parts) (f.show, f.see, f.later.show);
      possible = ((f.are, f.may), f.later.may);
    } in
    let faithful = run_faithful scene_ends KeptReplyReads scene_kept scene_is_an_instrument.instrument u program field in
    record {
      runs = run f.ts f.ms ∷ f.rs;
      same = f.same;
      field = field;
      faithful = faithful;
      answers = answers_on_line es u program field.possible (λ e h. subst (Has e) f.same h) faithful.own;
    }
