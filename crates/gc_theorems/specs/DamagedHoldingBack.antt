-- Holding back in the field, this project's own: a rule by which each send is fresh however long lines are in flight. The client stores how
-- many requests the last line settled that settled any (`last`), and sends only while these and the outstanding ones are together fewer
-- than seven; and no two lines in a row that settle something are damaged. A reply to a request that damage made, if it is kept and sent
-- again (`ComesAgain`), counts as undamaged here: it settles the very request for which it was sent again.
use Rattle.gc_theorems.specs.Common.{Asked, WINDOW, ById, Sending, sends, KeptReply}
use Rattle.std.specs.Prelude.{◌≡◌, ◌⊎◌, ℕ, ◌+◌, ◌-◌, ◌<◌, ◌≤◌, Bool, true, false, List, [], ◌∷◌, length, Option, Some, None, nat_lt}
use Rattle.gc_theorems.specs.World.{Ends}
use Rattle.gc_theorems.specs.Field.{Move, Sends, Comes, IsPossible}
use Rattle.gc_theorems.specs.Begin.{UnderWay}
use Rattle.gc_theorems.specs.Begun.{IsClean}
use Rattle.gc_theorems.specs.Instrument.{OfAnyInstrument}
use Rattle.gc_theorems.specs.Harm.{Harm, Does, Damages, Strikes, Harmed, KeepsItsOwnAfter, MayHarm, harm_begun, harms}
use Rattle.gc_theorems.specs.Rarely.{IsFreshAndOwn}

-- a world; how many requests the last line settled that settled any; and whether that line came undamaged, which the client doesn't
-- know
pub record Holding (State : Type 0) : Type 0 where
  pub harmed : Harmed State
  pub last : ℕ
  pub undamaged : Bool

-- how many requests were settled from one world to the next
abbrev pub ended : {State : Type 0} → (before after : Harmed State) → ℕ
ended before after = length after.world.wire.settled - length before.world.wire.settled

-- what is stored of the last line that settled something, once a line came that settled so many (`more`): if it settled none, as before
abbrev pub last_if : (ends_some : Bool) → (more last : ℕ) → ℕ
last_if true more last = more
last_if false more last = last

-- whether the last line that settled something was undamaged, once a line came of which `now` says so
abbrev pub undamaged_if : (ends_some : Bool) → (now before : Bool) → Bool
undamaged_if true now before = now
undamaged_if false now before = before

-- once a line came, undamaged or not (`now`), after which the world is `h`
abbrev pub holding_heard : {State : Type 0} → Holding State → (now : Bool) → Harmed State → Holding State
holding_heard g now h = record {
  harmed = h;
  last = last_if (nat_lt 0 (ended g.harmed h)) (ended g.harmed h) g.last;
  undamaged = undamaged_if (nat_lt 0 (ended g.harmed h)) now g.undamaged;
}

module _ {State : Type 0} (width : ℕ) (ends : Ends State) where
  -- what a move does
  abbrev pub holding_moves : Holding State → Move State → Holding State
  holding_moves g (Comes line) = holding_heard g true (harms width ends g.harmed (Does (Comes line)))
  holding_moves g move = record { harmed = harms width ends g.harmed (Does move); last = g.last; undamaged = g.undamaged }

  -- what a step does
  abbrev pub holding_harms : Holding State → Harm State → Holding State
  holding_harms g (Does move) = holding_moves g move
  holding_harms g (Damages line) = holding_heard g false (harms width ends g.harmed (Damages line))
  holding_harms g (Strikes id call) = record { harmed = harms width ends g.harmed (Strikes id call); last = g.last; undamaged = g.undamaged }

  -- at the end of a synchronization; the eighth null procedure counts as settled by an undamaged line, and `last` as 0
  abbrev pub holding_begun : UnderWay State → Holding State
  holding_begun u = record { harmed = harm_begun width ends u; last = 0; undamaged = true }

  -- if the send isn't refused, the instrument keeps its own reply to it, or nothing (`KeepsItsOwnAfter`), and there is room for it:
  -- outstanding requests, and those that the last line settled, are together fewer than seven
  abbrev pub HasRoomIfSent : (State → Type 0) → (State → Option KeptReply) → Holding State → Asked → Option (Sending (ById Asked)) → Type 0
  HasRoomIfSent Good kept g call None = Unit {0}
  HasRoomIfSent Good kept g call (Some x) = KeepsItsOwnAfter ends Good kept call × (length g.harmed.world.client.waiting + g.last < WINDOW)

  -- a move is possible, and there is room if it is a send
  abbrev pub MayDoApart : (State → Type 0) → (State → Option KeptReply) → Holding State → Move State → Type 0
  MayDoApart Good kept g (Sends target call deadline) = HasRoomIfSent Good kept g call (sends width g.harmed.world.client target call deadline)
  MayDoApart Good kept g move = IsPossible Good kept g.harmed.world move

  -- a step is possible, and there is room if it is a send; a damaged line settles nothing, or the last one that settled something was
  -- undamaged
  abbrev pub MayHarmApart : (State → Type 0) → (State → Option KeptReply) → Holding State → Harm State → Type 0
  MayHarmApart Good kept g (Does move) = MayDoApart Good kept g move
  MayHarmApart Good kept g (Damages line) = (ended g.harmed (harms width ends g.harmed (Damages line)) ≡ 0) ⊎ (g.undamaged ≡ true)
  MayHarmApart Good kept g (Strikes id call) = MayHarm width ends Good kept g.harmed (Strikes id call)

  -- each of these steps is so
  abbrev pub AllMayHarmApart : (State → Type 0) → (State → Option KeptReply) → List (Harm State) → Holding State → Type 0
  AllMayHarmApart Good kept [] g = Unit {0}
  AllMayHarmApart Good kept (m ∷ ms) g = MayHarmApart Good kept g m × AllMayHarmApart Good kept ms (holding_harms g m)

-- for any instrument: after a clean synchronization, if the client holds back, and no two lines in a row that settle something are damaged,
-- each send is fresh, and each answer own or damaged
abbrev pub HeldBackDamageIsLocalInField : Type 0 → Type 0
HeldBackDamageIsLocalInField State = OfAnyInstrument {State = State} (λ ends Good kept.
    (width : ℕ) → width ≤ WINDOW → (u : UnderWay State) → IsClean Good kept u → (ms : List (Harm State)) →
    AllMayHarmApart width ends Good kept ms (holding_begun width ends u) → IsFreshAndOwn width ends Good kept u ms)
