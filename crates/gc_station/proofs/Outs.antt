-- Which command is sent, of a cycle or of the setup: a command of a cycle is sent only once the setup is done, and one of the
-- setup only while it isn't.
use Rattle.gc_station.proofs.Common.{◌≡◌, ◌⊎◌, inl, inr, ◌<◌, Bool, true, false, List, if◌then◌else◌, sym, ap, subst, arith, Task, Mark, Plan, Action, Prepare, Send, is_preparing, IsAsking, Model, IsSending, action_at, waiting_of, cycle_to_send, place_to_send, mark_sent, mark_setup_sent, cycles_begun, place_next}
use Rattle.gc_station.proofs.Closings.{needs_of}

-- if a command of a cycle is next, the setup is done
pub send_done : (plan : Plan) (s : Model) → action_at plan s ≡ Send → is_preparing plan s.progress (waiting_of s) ≡ false
send_done plan s is = (needs_of plan s Send is).8

-- if a command of the setup is next, the setup isn't done
pub prepare_not_done : (plan : Plan) (s : Model) → action_at plan s ≡ Prepare → is_preparing plan s.progress (waiting_of s) ≡ true
prepare_not_done plan s is = (needs_of plan s Prepare is).2.0

-- if a command of a cycle is next, the cycle of what is sent is the number of cycles begun
pub send_cycle : (plan : Plan) (s : Model) → action_at plan s ≡ Send → cycle_to_send plan s ≡ cycles_begun plan s.progress
send_cycle plan s is = ap (λ (b : Bool). if b then 0 else cycles_begun plan s.progress) (send_done plan s is)

-- if a command of a cycle is next, the place of what is sent is the cycle's next place
pub send_place : (plan : Plan) (commands : List Task) (s : Model) → action_at plan s ≡ Send → place_to_send plan commands s ≡ place_next commands s.progress
send_place plan commands s is = ap (λ (b : Bool). if b then s.progress.prepared else place_next commands s.progress) (send_done plan s is)

-- if a command of the setup is next, the cycle of what is sent is 0
pub prepare_cycle : (plan : Plan) (s : Model) → action_at plan s ≡ Prepare → cycle_to_send plan s ≡ 0
prepare_cycle plan s is = ap (λ (b : Bool). if b then 0 else cycles_begun plan s.progress) (prepare_not_done plan s is)

-- if a command of the setup is next, the place of what is sent is the setup's next place
pub prepare_place : (plan : Plan) (commands : List Task) (s : Model) → action_at plan s ≡ Prepare → place_to_send plan commands s ≡ s.progress.prepared
prepare_place plan commands s is = ap (λ (b : Bool). if b then s.progress.prepared else place_next commands s.progress) (prepare_not_done plan s is)

-- if a command is sent whose cycle is above 0, the action is `Send`
pub sends_of_cycle : (plan : Plan) (s : Model) → IsSending plan s → 0 < cycle_to_send plan s → action_at plan s ≡ Send
sends_of_cycle plan s (inl is) many = is
sends_of_cycle plan s (inr is) many = let none = prepare_cycle plan s is in absurd (omega (arith, none, many))

-- a command that is sent is a request of the client
pub sending_asks : (plan : Plan) (s : Model) → IsSending plan s → IsAsking (action_at plan s)
sending_asks plan s (inl is) = subst IsAsking (sym is) tt
sending_asks plan s (inr is) = subst IsAsking (sym is) tt

-- the action o sends the command with this mark: the next of a cycle, or the next of the setup
abbrev pub SendsMarked : Plan → List Task → Model → (o : Action) → Mark → Type 0
SendsMarked plan commands s o mark = ((o ≡ Send) × (mark ≡ mark_sent plan commands s)) ⊎ ((o ≡ Prepare) × (mark ≡ mark_setup_sent commands s))

-- if the mark is of a cycle, the action sends the next command of a cycle, and the mark is that command's
pub sends_next_of_cycle : (plan : Plan) (commands : List Task) (s : Model) (o : Action) (mark : Mark) → SendsMarked plan commands s o mark → 0 < mark.cycle
    → (o ≡ Send) × (mark ≡ mark_sent plan commands s)
sends_next_of_cycle plan commands s o mark (inl it) many = it
sends_next_of_cycle plan commands s o mark (inr it) many = let none : mark.cycle ≡ 0 = ap (λ (m : Mark). m.cycle) it.1 in absurd (omega (arith, none, many))
