-- One act of a rehearsed line: what it is to the station, and what it does to the line, are turns of a synchronization, or
-- moves of a client that has synchronized.
use Rattle.gc_program_theorems.proofs.Common.{◌≡◌, ◌⊎◌, inl, inr, ℕ, zero, ◌+◌, ◌<◌, false, List, [], ◌∷◌, ◌++◌, length, map, Some, refl, sym, ◌∙◌, ap, subst, arith, length-append, AllByRecursion, append_cancel_right, map-append, rest_behind, with_end, IsAskedFitting, asked_line, request_line, Asked, Table, NullProc, left_by, ById, heard, hears, sends, course_at, WINDOW, Act, Told, Untold, Put, Cut, Gave, Silent, Ended, Broke, Closed, Opened, Unopened, SceneState, client_after, sending_of, sends_with_room, cons_head, unanswered_after, heard_in, lines_completed, by_ids, IsNullOrLineFeed, IsHeardOrDiscarded, MeansSyncSteps, InFlight, SyncModel, leaves, turns, under_way_on, IsHeard, IsDiscarded, scene_ends, first_heard, shows, Numbered, Request, down_delivered, requested, with_settled, without, Lines, ActLeads, GiveLeads, IsOneLine, PutLeads, TakesReply, AreSmall, small_left, cons_not_nil}
use Rattle.gc_lines.proofs.Plain.{plain_line}
use Rattle.gc_links.specs.declared.link.Moment.{Moment}
use Rattle.gc_station.proofs.Lists.{cons_tail}
use Rattle.gc_program_theorems.proofs.Courses.{BeginIsAt, FromBegin, FromClient, Sequel, WorldIsAt, after_move, move_first, steps_move, steps_turn, turn_first}
use Rattle.gc_program_theorems.proofs.Sides.{SceneWorld}
use Rattle.gc_program_theorems.proofs.Steps.{Holds, IsLineOf, Lose_down, Lose_up, under_way, holds_one_less, holds_one_more, without_last, holds_dropped}
use Rattle.gc_instrument.proofs.HeardFrames.{lines_of}
use Rattle.gc_client.specs.OneForOne as client
use Rattle.gc_station.specs.Parts as part
use Rattle.gc_theorems.specs.Begin as begin
use Rattle.gc_theorems.specs.Field as field

-- Lines of bytes.

-- one line with its CR LF, read from the start of a line on, is that line
pub one_line : (line : List ℕ) → IsOneLine line → lines_completed [] (with_end line) ≡ line ∷ []
one_line line one = ap lines_of (plain_line line one.0 one.1).0

-- one line with its CR LF, read from the start of a line on, leaves no bytes of an unfinished line
pub no_rest : (line : List ℕ) → IsOneLine line → rest_behind [] (with_end line) ≡ []
no_rest line one = (plain_line line one.0 one.1).1

-- a line feed alone is no line with its CR LF
pub feed_no_line : (line : List ℕ) → 10 ∷ [] ≡ with_end line → ⊥
feed_no_line line e =
    let n : length (with_end line) ≡ 1 = sym (ap length e) in
    let m : length (with_end line) ≡ length line + 2 = length-append line (13 ∷ 10 ∷ []) in
    omega (arith, n, m)

-- where the lines of a list, given by `f`, are `line` and then `rest`, the first one's line is `line`, and those of the others
-- are `rest`
first_and_rest : {A : Type 0} (f : A → List ℕ) (xs : List A) (x : A) (q : List A) (line : List ℕ) (rest : List (List ℕ)) → xs ≡ x ∷ q → map f xs ≡ line ∷ rest
    → (f x ≡ line) × (map f q ≡ rest)
first_and_rest f xs x q line rest is are =
    let both : f x ∷ map f q ≡ line ∷ rest = sym (ap (map f) is) ∙ are in (cons_head (f x) line (map f q) rest both, cons_tail (f x) line (map f q) rest both)

-- two lines that are the same bytes with CR LF are the same
pub same_line : (line other : List ℕ) → with_end line ≡ with_end other → line ≡ other
same_line line other e = append_cancel_right line other (13 ∷ 10 ∷ []) e

-- a request of this line was sent, and is lost at once, or in flight behind those before it
abbrev pub MayArrive : (l : Lines) → (line : List ℕ) → (n : Lines) → Type 0
MayArrive l line n = (n ≡ l) ⊎ (n ≡ record l { up = l.up ++ line ∷ [] })

-- While the station synchronizes.

-- where all ids of a word are below 8, so are those that lines leave unanswered
pub left_ids_are_small : (word : List ℕ) (lines : List (List ℕ)) → AreSmall word → AreSmall (unanswered_after word lines)
left_ids_are_small word [] ids = ids
left_ids_are_small word (line ∷ others) ids = left_ids_are_small (left_by word (heard line)) others (small_left word (heard line) ids)

-- what an act comes to while the station synchronizes: from the state b the turns of the act lead to one with these lines in
-- flight and these ids unanswered (`BeginIsAt`), and whatever follows from there follows from b after these turns
abbrev pub TurnsTo : SyncModel SceneState → List part.SyncStep → List ℕ → Lines → Type 0
TurnsTo b turns word n =
    (show : List part.SyncStep) (steps : List (client.Step Asked)) (coming : Sequel)
    → ((c : SyncModel SceneState) → BeginIsAt c word n → FromBegin c show steps coming) → FromBegin b (turns ++ show) steps coming

-- an act that leaves the line as it is comes to no turns
turns_none : (b : SyncModel SceneState) (word : List ℕ) (l n : Lines) → BeginIsAt b word l → n ≡ l → TurnsTo b [] word n
turns_none b word l n at same show steps coming on = on b (subst (BeginIsAt b word) (sym same) at)

-- the null procedure with this id, as a request
abbrev asked_next : ℕ → Request
asked_next id = record { id = id; call = Table NullProc }

-- the state of a synchronization once it has sent the null procedure with this id
abbrev once_asked : SyncModel SceneState → ℕ → SyncModel SceneState
once_asked b id = record b { up = b.up ++ record { old = false; line = asked_next id } ∷ [] }

-- where all unanswered ids are below 8, an act that sends the null procedure of the first of them comes to the turn `Asks`,
-- whether the line loses the request or not
turns_asks : (b : SyncModel SceneState) (asked : ℕ) (rest : List ℕ) (line : List ℕ) (l n : Lines) → BeginIsAt b (asked ∷ rest) l → AreSmall (asked ∷ rest)
    → line ≡ request_line (Some asked) NullProc → MayArrive l line n → TurnsTo b (part.Asks ∷ []) (asked ∷ rest) n
turns_asks b asked rest line l n at ids is came show steps coming on =
    turn_first b begin.Asks show steps coming tt refl (subst (λ (x : SyncModel SceneState). FromBegin x show steps coming) (sym out) (by_came came)) where
      -- what the turn `Asks` leads to
      out : turns scene_ends b begin.Asks ≡ once_asked b asked
      out = ap (λ word. begin.asks b word) at.0

      -- the requests in flight then are those before, and the null procedure
      up_is : map (λ (x : InFlight Request). x.line) (once_asked b asked).up ≡ (leaves b).up ++ asked_next asked ∷ []
      up_is = map-append (λ (x : InFlight Request). x.line) b.up (record { old = false; line = asked_next asked } ∷ [])

      -- the line is that of the null procedure
      of_line : IsLineOf (asked_next asked) line
      of_line = record { text = is; id = ids.0; fits = tt }

      -- once its last request is lost, the requests in flight are those before
      lost : without (length (leaves b).up) (leaves (once_asked b asked)).up ≡ (leaves b).up
      lost = ap (without (length (leaves b).up)) up_is ∙ without_last (leaves b).up (asked_next asked)

      -- from there on `FromBegin` holds, whether the request is lost or is in flight
      by_came : MayArrive l line n → FromBegin (once_asked b asked) show steps coming
      by_came (inl same) =
          steps_turn (Lose_up (length (leaves b).up) ∷ []) (once_asked b asked) show steps coming (tt, tt)
          (λ c e k. on c (k ∙ at.0, subst (λ u. Holds u n) (sym e) (subst (λ q. Holds (under_way q (leaves b).down b.state) n) (sym lost) (subst (Holds (leaves b)) (sym same) at.1))))
      by_came (inr more) =
          on (once_asked b asked)
          (at.0, subst (λ q. Holds (under_way q (leaves b).down b.state) n) (sym up_is) (holds_one_more (leaves b) l n (asked_next asked) line at.1 of_line more))

-- an act that puts bytes, whole or in part, while the station synchronizes comes to the turns that these bytes mean
-- (`IsNullOrLineFeed`)
turns_put : (b : SyncModel SceneState) (word : List ℕ) (bytes : List ℕ) (ts : List part.SyncStep) (l n : Lines) → BeginIsAt b word l → AreSmall word
    → IsNullOrLineFeed word bytes ts → PutLeads l bytes n → (word ≡ [] → ⊥) → TurnsTo b ts word n
turns_put b word bytes ts l n at ids (inl feed) (inl same) some = subst (λ (t : List part.SyncStep). TurnsTo b t word n) (sym feed.1) (turns_none b word l n at same)
turns_put b word bytes ts l n at ids (inl feed) (inr sent) some = absurd (feed_no_line sent.0 (sym feed.0 ∙ sent.1))
turns_put b [] bytes ts l n at ids (inr asks) put some = absurd (some refl)
turns_put b (asked ∷ rest) bytes ts l n at ids (inr asks) (inl same) some =
    subst (λ (t : List part.SyncStep). TurnsTo b t (asked ∷ rest) n) (sym asks.1)
    (turns_asks b asked rest (request_line (Some asked) NullProc) l n at ids refl (inl same))
turns_put b (asked ∷ rest) bytes ts l n at ids (inr asks) (inr sent) some =
    subst (λ (t : List part.SyncStep). TurnsTo b t (asked ∷ rest) n) (sym asks.1)
    (turns_asks b asked rest sent.0 l n at ids (same_line sent.0 (request_line (Some asked) NullProc) (sym sent.1 ∙ asks.0)) (inr sent.2))

-- the state of a synchronization once the front one of these replies came
abbrev once_came : SyncModel SceneState → InFlight (List ℕ) → List (InFlight (List ℕ)) → SyncModel SceneState
once_came b x q = record b { down = q; left = left_by b.left (heard x.line) }

-- an act that brings a reply while the station synchronizes comes to the turn that hears it
turns_comes : (b : SyncModel SceneState) (word : List ℕ) (q : List (InFlight (List ℕ))) (line : List ℕ) (l n : Lines) → b.down ≡ q → BeginIsAt b word l
    → TakesReply l line n → TurnsTo b (part.Hears line ∷ []) (left_by word (heard line)) n
turns_comes b word [] line l n is at takes show steps coming on =
    let none : [] ≡ line ∷ n.down = sym (ap (λ (d : List (InFlight (List ℕ))). map (λ x. x.line) d) is) ∙ at.1.down ∙ takes.front in
    absurd (cons_not_nil line n.down (sym none))
turns_comes b word (x ∷ q) line l n is at takes show steps coming on =
    subst (λ (t : List part.SyncStep). FromBegin b (t ++ show) steps coming) (shows_is ∙ ap (λ z. part.Hears z ∷ []) lines_are.0)
    (turn_first b begin.Comes show steps coming tt refl (subst (λ (c : SyncModel SceneState). FromBegin c show steps coming) (sym came) (on (once_came b x q) (left_next, holds_next)))) where
      -- the front reply in flight in the field is that on the line, and so are those after it
      lines_are : (x.line ≡ line) × (map (λ (y : InFlight (List ℕ)). y.line) q ≡ n.down)
      lines_are = first_and_rest (λ (y : InFlight (List ℕ)). y.line) b.down x q line n.down is (at.1.down ∙ takes.front)

      -- what the turn `Comes` leads to
      came : turns scene_ends b begin.Comes ≡ once_came b x q
      came = ap (λ d. begin.comes b d) is

      -- the turn `Comes` shows the front reply
      shows_is : shows b begin.Comes ≡ part.Hears x.line ∷ []
      shows_is = ap (λ d. first_heard d) is

      -- the ids that are left then are those that the line leaves
      left_next : (once_came b x q).left ≡ left_by word (heard line)
      left_next = ap (λ w. left_by w (heard x.line)) at.0 ∙ ap (λ z. left_by word (heard z)) lines_are.0

      -- what is in flight then is what is in flight on the line
      holds_next : Holds (leaves (once_came b x q)) n
      holds_next = holds_one_less (leaves b) (map (λ (y : InFlight (List ℕ)). y.line) q) l line n at.1 takes lines_are.1

-- a reply that comes while the station synchronizes, and is discarded, comes to no turn of the station: the line loses it
turns_drops : (b : SyncModel SceneState) (word : List ℕ) (line : List ℕ) (l n : Lines) → BeginIsAt b word l → TakesReply l line n → TurnsTo b [] word n
turns_drops b word line l n at takes show steps coming on =
    steps_turn (Lose_down zero ∷ []) b show steps coming (tt, tt)
    (λ c e k. on c (k ∙ at.0, subst (λ u. Holds u n) (sym e) (holds_dropped (leaves b) l line n at.1 takes)))

-- a read that gave bytes while the station synchronizes leaves no bytes of an unfinished line if there were none, and comes to
-- the turns that the read means (`IsHeardOrDiscarded`)
turns_gave : (b : SyncModel SceneState) (word : List ℕ) (piece : List ℕ) (ts : List part.SyncStep) (behind : List ℕ) (l n : Lines) → BeginIsAt b word l
    → IsHeardOrDiscarded [] piece ts behind → GiveLeads l piece n → (behind ≡ []) × TurnsTo b ts (unanswered_after word (heard_in ts)) n
turns_gave b word piece ts behind l n at (inl taken) given =
    let one = (subst (AllByRecursion IsOneLine) given.2.front at.1.one).0 in
    let ts_is : ts ≡ part.Hears given.0 ∷ [] = taken.0 ∙ ap (λ bytes. map part.Hears (lines_completed [] bytes)) given.1 ∙ ap (map part.Hears) (one_line given.0 one) in
    let behind_is : behind ≡ [] = taken.1 ∙ ap (rest_behind []) given.1 ∙ no_rest given.0 one in
    (behind_is, subst (λ (t : List part.SyncStep). TurnsTo b t (unanswered_after word (heard_in t)) n) (sym ts_is) (turns_comes b word b.down given.0 l n refl at given.2))
turns_gave b word piece ts behind l n at (inr taken) given =
    (taken.1, subst (λ (t : List part.SyncStep). TurnsTo b t (unanswered_after word (heard_in t)) n) (sym taken.0) (turns_drops b word given.0 l n at given.2))

-- an act that means no turn, and leaves the line as it is, comes to no turns; it leaves no bytes of an unfinished line if there
-- were none
turns_quiet : (b : SyncModel SceneState) (word : List ℕ) (ts : List part.SyncStep) (behind rest : List ℕ) (l n : Lines) → BeginIsAt b word l
    → (ts ≡ []) × (behind ≡ rest) → rest ≡ [] → n ≡ l → (behind ≡ []) × TurnsTo b ts (unanswered_after word (heard_in ts)) n
turns_quiet b word ts behind rest l n at means empty same =
    (means.1 ∙ empty, subst (λ (t : List part.SyncStep). TurnsTo b t (unanswered_after word (heard_in t)) n) (sym means.0) (turns_none b word l n at same))

-- bytes that are put leave all ids of the word unanswered
put_answers_none : (word bytes : List ℕ) (ts : List part.SyncStep) → IsNullOrLineFeed word bytes ts → unanswered_after word (heard_in ts) ≡ word
put_answers_none word bytes ts (inl feed) = ap (λ (t : List part.SyncStep). unanswered_after word (heard_in t)) feed.1
put_answers_none word bytes ts (inr asks) = ap (λ (t : List part.SyncStep). unanswered_after word (heard_in t)) asks.1

-- an act while the station synchronizes leaves no bytes of an unfinished line if there were none, and comes to the turns that
-- the act means (`MeansSyncSteps`)
pub turns_act : (b : SyncModel SceneState) (word : List ℕ) (act : Act) (ts : List part.SyncStep) (behind : List ℕ) (l n : Lines) → BeginIsAt b word l → AreSmall word
    → (word ≡ [] → ⊥) → MeansSyncSteps word [] act ts behind → ActLeads l act n → (behind ≡ []) × TurnsTo b ts (unanswered_after word (heard_in ts)) n
turns_act b word (Put bytes) ts behind l n at ids some means does =
    (means.1, subst (λ w. TurnsTo b ts w n) (sym (put_answers_none word bytes ts means.0)) (turns_put b word bytes ts l n at ids means.0 does some))
turns_act b word (Cut bytes count) ts behind l n at ids some means does =
    (means.1, subst (λ w. TurnsTo b ts w n) (sym (put_answers_none word bytes ts means.0)) (turns_put b word bytes ts l n at ids means.0 (inl does) some))
turns_act b word (Gave piece moment) ts behind l n at ids some means does = turns_gave b word piece ts behind l n at means does
turns_act b word (Told moment) ts behind l n at ids some means does = turns_quiet b word ts behind [] l n at means refl does
turns_act b word Untold ts behind l n at ids some means does = turns_quiet b word ts behind [] l n at means refl does
turns_act b word (Silent moment) ts behind l n at ids some means does = turns_quiet b word ts behind [] l n at means refl does
turns_act b word Ended ts behind l n at ids some means does = turns_quiet b word ts behind [] l n at means refl does
turns_act b word Broke ts behind l n at ids some means does = turns_quiet b word ts behind [] l n at means refl does
turns_act b word Closed ts behind l n at ids some means does = turns_quiet b word ts behind [] l n at means refl does
turns_act b word Opened ts behind l n at ids some means does = turns_quiet b word ts behind [] l n at means refl does
turns_act b word Unopened ts behind l n at ids some means does = turns_quiet b word ts behind [] l n at means refl does

-- Once it has synchronized.

-- what an act comes to once the station has synchronized: from the world w the client's steps of the act lead to one with these
-- lines in flight and this client (`WorldIsAt`), and whatever follows from there follows from w after these steps
abbrev pub MovesTo : SceneWorld → List (client.Step Asked) → ById Asked → Lines → Type 0
MovesTo w ss c n =
    (steps : List (client.Step Asked)) (coming : Sequel)
    → ((v : SceneWorld) → WorldIsAt v c n → FromClient v steps coming) → FromClient w (ss ++ steps) coming

-- an act that leaves the line as it is comes to no steps
pub moves_none : (w : SceneWorld) (c : ById Asked) (l n : Lines) → WorldIsAt w c l → n ≡ l → MovesTo w [] c n
moves_none w c l n at same steps coming on = on w (subst (WorldIsAt w c) (sym same) at)

-- an act that reads a moment, and then comes to some steps, comes to the step that reads it and then these
moves_told : (w : SceneWorld) (c : ById Asked) (now : ℕ) (ss : List (client.Step Asked)) (l n : Lines) → WorldIsAt w c l
    → ((v : SceneWorld) → WorldIsAt v (client_after c (client.Expire now ∷ [])) l → MovesTo v ss (client_after (client_after c (client.Expire now ∷ [])) ss) n)
    → MovesTo w (client.Expire now ∷ ss) (client_after c (client.Expire now ∷ ss)) n
moves_told w c now ss l n at later steps coming on =
    move_first w (field.Tells now) (ss ++ steps) coming tt refl
    (later (after_move w (field.Tells now)) (ap (λ x. (by_ids WINDOW scene_ends).expire x now) at.0, at.1) steps coming on)

-- an act that only reads a moment comes to the step that reads it
pub moves_moment : (w : SceneWorld) (c : ById Asked) (now : ℕ) (l n : Lines) → WorldIsAt w c l → n ≡ l
    → MovesTo w (client.Expire now ∷ []) (client_after c (client.Expire now ∷ [])) n
moves_moment w c now l n at same = moves_told w c now [] l n at (λ v next. moves_none v (client_after c (client.Expire now ∷ [])) l n next same)

-- the world once the front one of these replies came
abbrev once_heard : SceneWorld → Numbered (List ℕ) → List (Numbered (List ℕ)) → SceneWorld
once_heard w x q = with_settled (record w.wire { down = q }) ((by_ids WINDOW scene_ends).reply w.client x)

-- an act that brings a reply comes to the step that hears it
moves_comes : (w : SceneWorld) (c : ById Asked) (q : List (Numbered (List ℕ))) (line : List ℕ) (l n : Lines) → w.wire.down ≡ q → WorldIsAt w c l
    → TakesReply l line n → MovesTo w (client.Hear line ∷ []) (client_after c (client.Hear line ∷ [])) n
moves_comes w c [] line l n is at takes steps coming on =
    let none : [] ≡ line ∷ n.down = sym (ap (λ (d : List (Numbered (List ℕ))). map (λ x. x.line) d) is) ∙ at.1.down ∙ takes.front in
    absurd (cons_not_nil line n.down (sym none))
moves_comes w c (x ∷ q) line l n is at takes steps coming on =
    move_first w (field.Comes line) steps coming (x.number, q, is ∙ front_is) refl
    (subst (λ (v : SceneWorld). FromClient v steps coming) (sym came) (on (once_heard w x q) (client_next, holds_next))) where
      -- the front reply in flight in the field is that on the line, and so are those after it
      lines_are : (x.line ≡ line) × (map (λ (y : Numbered (List ℕ)). y.line) q ≡ n.down)
      lines_are = first_and_rest (λ (y : Numbered (List ℕ)). y.line) w.wire.down x q line n.down is (at.1.down ∙ takes.front)

      -- the front reply in flight is this line, with its number
      front_is : x ∷ q ≡ record { number = x.number; line = line } ∷ q
      front_is = ap (λ z. record { number = x.number; line = z } ∷ q) lines_are.0

      -- what the move `Comes` leads to
      came : after_move w (field.Comes line) ≡ once_heard w x q
      came = ap (λ d. down_delivered (by_ids WINDOW scene_ends) w d) is

      -- the client then is the one that has heard the line
      client_next : (once_heard w x q).client ≡ client_after c (client.Hear line ∷ [])
      client_next = ap (λ y. (hears y x.line (heard x.line)).client) at.0 ∙ ap (λ z. (hears c z (heard z)).client) lines_are.0

      -- what is in flight then is what is in flight on the line
      holds_next : Holds (under_way_on (once_heard w x q).wire) n
      holds_next = holds_one_less (under_way_on w.wire) (map (λ (y : Numbered (List ℕ)). y.line) q) l line n at.1 takes lines_are.1

-- a reply that comes, and is discarded, comes to no step: the line loses it
moves_drops : (w : SceneWorld) (c : ById Asked) (line : List ℕ) (l n : Lines) → WorldIsAt w c l → TakesReply l line n → MovesTo w [] c n
moves_drops w c line l n at takes steps coming on =
    steps_move (Lose_down zero ∷ []) w steps coming (tt, tt)
    (λ v e k. on v (k ∙ at.0, subst (λ u. Holds u n) (sym e) (holds_dropped (under_way_on w.wire) l line n at.1 takes)))

-- a read that gave bytes, of which the client hears the lines or which the station discards, leaves no bytes of an unfinished
-- line if there were none, and comes to the steps that the read means
pub moves_gave : (w : SceneWorld) (c : ById Asked) (piece : List ℕ) (moment : Moment) (ss : List (client.Step Asked)) (behind : List ℕ) (l n : Lines) → WorldIsAt w c l
    → IsHeard [] piece moment ss behind ⊎ IsDiscarded [] moment ss behind → GiveLeads l piece n → (behind ≡ []) × MovesTo w ss (client_after c ss) n
moves_gave w c piece moment ss behind l n at (inl heard) given =
    let one = (subst (AllByRecursion IsOneLine) given.2.front at.1.one).0 in
    let lines_are : lines_completed [] piece ≡ given.0 ∷ [] = ap (lines_completed []) given.1 ∙ one_line given.0 one in
    let ss_is : ss ≡ client.Expire moment.elapsed ∷ (client.Hear given.0 ∷ []) = heard.lines ∙ ap (λ ls. client.Expire moment.elapsed ∷ map client.Hear ls) lines_are in
    let behind_is : behind ≡ [] = heard.rest ∙ ap (rest_behind []) given.1 ∙ no_rest given.0 one in (
      behind_is,
      subst (λ (t : List (client.Step Asked)). MovesTo w t (client_after c t) n) (sym ss_is)
          (moves_told w c moment.elapsed (client.Hear given.0 ∷ []) l n at
          (λ v next. moves_comes v (client_after c (client.Expire moment.elapsed ∷ [])) v.wire.down given.0 l n refl next given.2)),
    )
moves_gave w c piece moment ss behind l n at (inr dropped) given = (
  dropped.rest,
  subst (λ (t : List (client.Step Asked)). MovesTo w t (client_after c t) n) (sym dropped.lines)
      (moves_told w c moment.elapsed [] l n at
      (λ v next. moves_drops v (client_after c (client.Expire moment.elapsed ∷ [])) given.0 l n next given.2)),
)

-- the request that the client of a world sends next
abbrev sent_next : SceneWorld → ById Asked → Asked → Numbered Request
sent_next w c call = record { number = length w.wire.sent; line = record { id = c.next; call = call } }

-- the world once its client has sent that request
abbrev once_sent : SceneWorld → ById Asked → (target : ℕ) → Asked → (deadline : ℕ) → SceneWorld
once_sent w c target call deadline = requested w target call (Some (sending_of c target call deadline))

-- an act that sends a request that is allowed, while the client's window has room and its next id is below 8, comes to the step
-- that sends it, whether the line loses the request or not
pub moves_sends : (w : SceneWorld) (c : ById Asked) (target : ℕ) (call : Asked) (deadline : ℕ) (line : List ℕ) (l n : Lines) → WorldIsAt w c l → (room : length c.waiting < 7)
    → (digit : c.next < 8) → IsAskedFitting call → line ≡ asked_line (Some c.next) call → MayArrive l line n
    → MovesTo w (client.Send target call deadline ∷ []) (client_after c (client.Send target call deadline ∷ [])) n
moves_sends w c target call deadline line l n at room digit fits text came steps coming on =
    move_first w (field.Sends target call deadline) steps coming tt refl (subst (λ (v : SceneWorld). FromClient v steps coming) (sym out) (by_came came)) where
      -- what the move `Sends` leads to
      out : after_move w (field.Sends target call deadline) ≡ once_sent w c target call deadline
      out = ap (λ o. requested w target call o) (ap (λ x. sends 7 x target call deadline) at.0 ∙ sends_with_room c target call deadline room)

      -- the requests in flight then are those before, and this one
      up_is : (under_way_on (once_sent w c target call deadline).wire).up ≡ (under_way_on w.wire).up ++ (sent_next w c call).line ∷ []
      up_is = map-append (λ (x : Numbered Request). x.line) w.wire.up (sent_next w c call ∷ [])

      -- the line is that of the request
      of_line : IsLineOf (sent_next w c call).line line
      of_line = record { text = text; id = digit; fits = fits }

      -- once its last request is lost, the requests in flight are those before
      lost : without (length (under_way_on w.wire).up) (under_way_on (once_sent w c target call deadline).wire).up ≡ (under_way_on w.wire).up
      lost = ap (without (length (under_way_on w.wire).up)) up_is ∙ without_last (under_way_on w.wire).up (sent_next w c call).line

      -- the client then is the one that has sent the request
      client_is : (once_sent w c target call deadline).client ≡ client_after c (client.Send target call deadline ∷ [])
      client_is = sym (ap (λ o. (client.sent_on (course_at c) target call o).client) (sends_with_room c target call deadline room))

      -- from there on `FromClient` holds, whether the request is lost or is in flight
      by_came : MayArrive l line n → FromClient (once_sent w c target call deadline) steps coming
      by_came (inl same) =
          steps_move (Lose_up (length (under_way_on w.wire).up) ∷ []) (once_sent w c target call deadline) steps coming (tt, tt)
          (λ v e k. on v (
            k ∙ client_is,
            subst (λ u. Holds u n) (sym e)
                (subst (λ q. Holds (under_way q (under_way_on w.wire).down w.wire.state) n) (sym lost) (subst (Holds (under_way_on w.wire)) (sym same) at.1)),
          ))
      by_came (inr more) =
          on (once_sent w c target call deadline) (
            client_is,
            subst (λ q. Holds (under_way q (under_way_on w.wire).down w.wire.state) n) (sym up_is)
                (holds_one_more (under_way_on w.wire) l n (sent_next w c call).line line at.1 of_line more),
          )
