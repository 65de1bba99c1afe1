-- The field without damage as an instance of the field with it, this project's own: of moves of the field alone, in which the client asks
-- only for calls of the table, each send is fresh, though that isn't asked, and each answer is own.
use Rattle.gc_theorems.specs.Common.{WINDOW, Answered, Settlement, KeptReply, Asked}
use Rattle.std.specs.Prelude.{◌≡◌, ℕ, ◌≤◌, List, Option, map, Some, slice_get}
use Rattle.gc_theorems.specs.World.{Ends}
use Rattle.gc_theorems.specs.Field.{Move, AsksTheTable}
use Rattle.gc_theorems.specs.Begin.{UnderWay}
use Rattle.gc_theorems.specs.Begun.{IsClean, ArePossibleOnceBegun}
use Rattle.gc_theorems.specs.Instrument.{OfAnyInstrument}
use Rattle.gc_theorems.specs.Harm.{Does, AllMayHarm, IsOwn, harm_begun, harmed}

-- what follows of these moves, as steps without damage: they are possible as steps with damage, so each send is fresh; and each
-- answer is own
pub record IsOwnWithoutDamage {State : Type 0} (width : ℕ) (ends : Ends State) (Good : State → Type 0) (kept : State → Option KeptReply)
    (u : UnderWay State) (ms : List (Move State)) : Type 0 where
  pub fresh : AllMayHarm width ends Good kept (map Does ms) (harm_begun width ends u)
  pub own :
      (m : ℕ) (s : Settlement Asked) (line : List ℕ) → 8 ≤ m →
      slice_get (harmed width ends (map Does ms) (harm_begun width ends u)).world.wire.settled m ≡ Some s → s.outcome ≡ Answered line →
      IsOwn width ends (harm_begun width ends u) (map Does ms) m line

-- for any instrument, and a client with a window of at most seven requests: after a clean synchronization, of possible moves
-- without damage, with calls of the table alone, `IsOwnWithoutDamage` holds
abbrev pub WithoutDamageAllIsOwn : Type 0 → Type 0
WithoutDamageAllIsOwn State = OfAnyInstrument {State = State} (λ ends Good kept.
    (width : ℕ) → width ≤ WINDOW → (u : UnderWay State) → IsClean Good kept u → (ms : List (Move State)) →
    ArePossibleOnceBegun width ends u Good kept ms → AsksTheTable ms → IsOwnWithoutDamage width ends Good kept u ms)
