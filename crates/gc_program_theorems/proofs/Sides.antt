-- Steps of the line before and after the end of a synchronization: as turns while a station synchronizes, and as moves once it
-- has.
use Rattle.gc_program_theorems.proofs.Common.{◌≡◌, ℕ, Bool, true, false, List, [], ◌∷◌, length, map, refl, sym, ◌∙◌, ap, ltb-false, map-append, Asked, WINDOW, ById, SceneState, by_ids, InFlight, SyncModel, IsTurn, leaves, turns, under_way_on, Move, IsPossible, moves, seen, KeptReplyReads, scene_ends, scene_handed, scene_kept, shows, Numbered, Request, Wire, World, without, doubled, up_delivered, with_up, with_down, exchange_of_move, exchange_of_turn}
use Rattle.std.proofs.Common.{nat_lt}
use Rattle.gc_world.proofs.Queues.{without_map, doubled_map, without_past, doubled_past}
use Rattle.gc_program_theorems.proofs.Steps.{Step, Reach, Lose_up, Repeat_up, Lose_down, Repeat_down, Start, Change, IsStep, exchange_of_step, under_way, reached, stepped}
use Rattle.gc_theorems.proofs.Shown.{left_reaches}
use Rattle.gc_theorems.specs.Begin as begin
use Rattle.gc_theorems.specs.Field as field
use Rattle.gc_theorems.specs.World as world

-- While a station synchronizes.

-- the turn that a step of the line is
abbrev pub turn_of : Step → begin.SyncTurn SceneState
turn_of Reach = begin.Reaches
turn_of (Lose_up k) = begin.Up_lose k
turn_of (Repeat_up k) = begin.Up_repeat k
turn_of (Lose_down k) = begin.Down_lose k
turn_of (Repeat_down k) = begin.Down_repeat k
turn_of Start = begin.Anew
turn_of (Change state) = begin.Changes state

-- what a synchronization leaves in flight once the front request, if there is one, reached the instrument, by `reached`
leaves_reach : (b : SyncModel SceneState) (q : List (InFlight Request)) → leaves (begin.reaches scene_ends b q) ≡ reached (leaves b) (map (λ x. x.line) q)
leaves_reach b [] = refl
leaves_reach b (x ∷ rest) =
    let h = scene_handed b.state x.line.id x.line.call in
    let reply : InFlight (List ℕ) = record { old = x.old; line = h.reply } in
    ap (λ d. under_way (map (λ y. y.line) rest) d h.state) (map-append (λ (y : InFlight (List ℕ)). y.line) b.down (reply ∷ []))

-- a step leaves in flight what its turn leaves
pub leaves_turn : (b : SyncModel SceneState) (x : Step) → leaves (turns scene_ends b (turn_of x)) ≡ stepped (leaves b) x
leaves_turn b Reach = leaves_reach b b.up
leaves_turn b (Lose_up k) = ap (λ q. under_way q (leaves b).down b.state) (sym (without_map (λ (y : InFlight Request). y.line) k b.up))
leaves_turn b (Repeat_up k) = ap (λ q. under_way q (leaves b).down b.state) (sym (doubled_map (λ (y : InFlight Request). y.line) k b.up))
leaves_turn b (Lose_down k) = ap (λ q. under_way (leaves b).up q b.state) (sym (without_map (λ (y : InFlight (List ℕ)). y.line) k b.down))
leaves_turn b (Repeat_down k) = ap (λ q. under_way (leaves b).up q b.state) (sym (doubled_map (λ (y : InFlight (List ℕ)). y.line) k b.down))
leaves_turn b Start = refl
leaves_turn b (Change state) = refl

-- the turn of a step shows nothing to the station
pub shows_none : (b : SyncModel SceneState) (x : Step) → shows b (turn_of x) ≡ []
shows_none b Reach = refl
shows_none b (Lose_up k) = refl
shows_none b (Repeat_up k) = refl
shows_none b (Lose_down k) = refl
shows_none b (Repeat_down k) = refl
shows_none b Start = refl
shows_none b (Change state) = refl

-- the turn of a step answers no id
pub turn_answers_none : (b : SyncModel SceneState) (x : Step) → (turns scene_ends b (turn_of x)).left ≡ b.left
turn_answers_none b Reach = left_reaches scene_ends b b.up
turn_answers_none b (Lose_up k) = refl
turn_answers_none b (Repeat_up k) = refl
turn_answers_none b (Lose_down k) = refl
turn_answers_none b (Repeat_down k) = refl
turn_answers_none b Start = refl
turn_answers_none b (Change state) = refl

-- the turn of a step has the step's exchange
pub turn_exchange : (b : SyncModel SceneState) (x : Step) → exchange_of_turn b (turn_of x) ≡ exchange_of_step (leaves b) x
turn_exchange b Reach = refl
turn_exchange b (Lose_up k) = refl
turn_exchange b (Repeat_up k) = refl
turn_exchange b (Lose_down k) = refl
turn_exchange b (Repeat_down k) = refl
turn_exchange b Start = refl
turn_exchange b (Change state) = refl

-- the turn of a possible step is possible
pub is_turn : (b : SyncModel SceneState) (x : Step) → IsStep (leaves b) x → IsTurn KeptReplyReads scene_kept b (turn_of x)
is_turn b Reach is = tt
is_turn b (Lose_up k) is = tt
is_turn b (Repeat_up k) is = tt
is_turn b (Lose_down k) is = tt
is_turn b (Repeat_down k) is = tt
is_turn b Start is = tt
is_turn b (Change state) is = is

-- Once it has synchronized.

-- a world whose client knows ids, and whose instrument is that of a scene
abbrev pub SceneWorld : Type 0
SceneWorld = World (ById Asked) SceneState

-- the move that a step of the line is
abbrev pub move_of : Step → Move SceneState
move_of Reach = field.OnLine world.Up_deliver
move_of (Lose_up k) = field.OnLine (world.Up_lose k)
move_of (Repeat_up k) = field.OnLine (world.Up_repeat k)
move_of (Lose_down k) = field.OnLine (world.Down_lose k)
move_of (Repeat_down k) = field.OnLine (world.Down_repeat k)
move_of Start = field.Anew
move_of (Change state) = field.Changes state

-- what is in flight once the front request, if there is one, reached the instrument, by `reached`
line_reach : (w : Wire SceneState) (q : List (Numbered Request)) → under_way_on (up_delivered scene_ends w q) ≡ reached (under_way_on w) (map (λ x. x.line) q)
line_reach w [] = refl
line_reach w (x ∷ rest) =
    let h = scene_handed w.state x.line.id x.line.call in
    let reply : Numbered (List ℕ) = record { number = x.number; line = h.reply } in
    ap (λ d. under_way (map (λ y. y.line) rest) d h.state) (map-append (λ (y : Numbered (List ℕ)). y.line) w.down (reply ∷ []))

-- after a change of the requests, which are q then, q is in flight, with the replies and the state as before; q must be the old
-- requests if the change isn't possible (b is false)
line_up : (w : Wire SceneState) (q : List (Numbered Request)) (b : Bool) → (b ≡ false → q ≡ w.up) → under_way_on (with_up w q b) ≡ under_way (map (λ x. x.line) q) (under_way_on w).down w.state
line_up w q true same = refl
line_up w q false same = ap (λ (l : List (Numbered Request)). under_way (map (λ x. x.line) l) (under_way_on w).down w.state) (sym (same refl))

-- after a change of the replies, which are q then, q is in flight, with the requests and the state as before; q must be the old
-- replies if the change isn't possible (b is false)
line_down : (w : Wire SceneState) (q : List (Numbered (List ℕ))) (b : Bool) → (b ≡ false → q ≡ w.down) → under_way_on (with_down w q b) ≡ under_way (under_way_on w).up (map (λ x. x.line) q) w.state
line_down w q true same = refl
line_down w q false same = ap (λ (l : List (Numbered (List ℕ))). under_way (under_way_on w).up (map (λ x. x.line) l) w.state) (sym (same refl))

-- a step leaves in flight what its move leaves
pub line_move : (w : SceneWorld) (x : Step) → under_way_on (moves scene_ends (by_ids WINDOW scene_ends) w (move_of x)).wire ≡ stepped (under_way_on w.wire) x
line_move w Reach = line_reach w.wire w.wire.up
line_move w (Lose_up k) =
    let q = w.wire.up in
    line_up w.wire (without k q) (nat_lt k (length q)) (λ no. without_past k q (ltb-false k (length q) no))
    ∙ ap (λ l. under_way l (under_way_on w.wire).down w.wire.state) (sym (without_map (λ (y : Numbered Request). y.line) k q))
line_move w (Repeat_up k) =
    let q = w.wire.up in
    line_up w.wire (doubled k q) (nat_lt k (length q)) (λ no. doubled_past k q (ltb-false k (length q) no))
    ∙ ap (λ l. under_way l (under_way_on w.wire).down w.wire.state) (sym (doubled_map (λ (y : Numbered Request). y.line) k q))
line_move w (Lose_down k) =
    let q = w.wire.down in
    line_down w.wire (without k q) (nat_lt k (length q)) (λ no. without_past k q (ltb-false k (length q) no))
    ∙ ap (λ l. under_way (under_way_on w.wire).up l w.wire.state) (sym (without_map (λ (y : Numbered (List ℕ)). y.line) k q))
line_move w (Repeat_down k) =
    let q = w.wire.down in
    line_down w.wire (doubled k q) (nat_lt k (length q)) (λ no. doubled_past k q (ltb-false k (length q) no))
    ∙ ap (λ l. under_way (under_way_on w.wire).up l w.wire.state) (sym (doubled_map (λ (y : Numbered (List ℕ)). y.line) k q))
line_move w Start = refl
line_move w (Change state) = refl

-- the move of a step leaves the client as it is
pub client_move : (w : SceneWorld) (x : Step) → (moves scene_ends (by_ids WINDOW scene_ends) w (move_of x)).client ≡ w.client
client_move w Reach = refl
client_move w (Lose_up k) = refl
client_move w (Repeat_up k) = refl
client_move w (Lose_down k) = refl
client_move w (Repeat_down k) = refl
client_move w Start = refl
client_move w (Change state) = refl

-- the move of a step has the step's exchange
pub move_exchange : (w : SceneWorld) (x : Step) → exchange_of_move w (move_of x) ≡ exchange_of_step (under_way_on w.wire) x
move_exchange w Reach = refl
move_exchange w (Lose_up k) = refl
move_exchange w (Repeat_up k) = refl
move_exchange w (Lose_down k) = refl
move_exchange w (Repeat_down k) = refl
move_exchange w Start = refl
move_exchange w (Change state) = refl

-- the move of a possible step is possible
pub is_move : (w : SceneWorld) (x : Step) → IsStep (under_way_on w.wire) x → IsPossible KeptReplyReads scene_kept w (move_of x)
is_move w Reach is = tt
is_move w (Lose_up k) is = tt
is_move w (Repeat_up k) is = tt
is_move w (Lose_down k) is = tt
is_move w (Repeat_down k) is = tt
is_move w Start is = tt
is_move w (Change state) is = is

-- the client sees nothing of the move of a step
pub seen_none : (x : Step) → seen (move_of x ∷ []) ≡ []
seen_none Reach = refl
seen_none (Lose_up k) = refl
seen_none (Repeat_up k) = refl
seen_none (Lose_down k) = refl
seen_none (Repeat_down k) = refl
seen_none Start = refl
seen_none (Change state) = refl
