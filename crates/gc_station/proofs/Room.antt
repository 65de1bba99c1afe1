-- If a request is sent there is room for it.
use Rattle.gc_station.proofs.Common.{◌≡◌, ◌⊎◌, inl, inr, ◌<◌, arith, leb_tells, Plan, Action, Progress, Waiting, HoldsBefore, HasRoomToAsk, IsAsking, state_after, action_at, waiting_of}
use Rattle.gc_station.specs.Room.{RequestsHaveRoom}
use Rattle.gc_station.proofs.Facts.{action_for}
use Rattle.gc_station.specs.declared.progress.Action.TheVariants as actions

-- if a request of the client is next, there is room
room_of : (plan : Plan) (p : Progress) (w : Waiting) (next : Action) → IsAsking next → HoldsBefore plan p w next → HasRoomToAsk plan p w
room_of plan p w actions.Prepare puts is = is.3
room_of plan p w actions.Send puts is = is.3
room_of plan p w actions.Flush puts is = is.4
room_of plan p w next puts is = absurd puts

-- if there is room, none is in flight that hasn't timed out, or fewer than the plan's width
few_in_flight : (plan : Plan) (p : Progress) (w : Waiting) → HasRoomToAsk plan p w → (w.current ≡ 0) ⊎ (w.current < plan.width)
few_in_flight plan p w room = elim (leb_tells plan.width 0) as (λ _. (w.current ≡ 0) ⊎ (w.current < plan.width)) [
  | inl none ↦ let least = none.1 in let here = room.0 in inl (omega (arith, least, here))
  | inr some ↦ let least = some.1 in let here = room.0 in inr (omega (arith, least, here))
]

-- the law: if a request of the client is sent next, none is in flight that hasn't timed out, or fewer than the plan's width; and there
-- is room (`HasRoomToAsk`)
pub have_room : RequestsHaveRoom
have_room plan commands scope acts puts =
    let s = state_after plan commands scope acts in
    let room = room_of plan s.progress (waiting_of s) (action_at plan s) puts (action_for plan s.progress (waiting_of s)) in
    (few_in_flight plan s.progress (waiting_of s) room, room.1)
