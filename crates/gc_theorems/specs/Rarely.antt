-- Rare damage in the field, this project's own: a bound on damaged lines by which each send is fresh. Those that come (`Damages`) are
-- counted since the request of each line in flight, or kept, was sent.
use Rattle.gc_theorems.specs.Common.{AllByRecursion, Asked, WINDOW, ById, Sending, sends, KeptReply}
use Rattle.std.specs.Prelude.{◌≡◌, ℕ, ◌+◌, ◌*◌, ◌≤◌, List, [], ◌∷◌, length, Option, Some, None, if◌then◌else◌, nat_eq}
use Rattle.gc_theorems.specs.World.{Ends}
use Rattle.gc_theorems.specs.Field.{Move, Sends, IsPossible}
use Rattle.gc_theorems.specs.Begin.{UnderWay}
use Rattle.gc_theorems.specs.Begun.{IsClean}
use Rattle.gc_theorems.specs.Instrument.{OfAnyInstrument}
use Rattle.gc_theorems.specs.Harm.{Harm, Does, Damages, Strikes, Harmed, AllMayHarm, AreOwnOr, KeepsItsOwnAfter, MayHarm, harm_begun, harms, no_line}

-- a world; how many damaged lines have come; and how many had come when request n was sent (`seen`)
pub record Tally (State : Type 0) : Type 0 where
  pub harmed : Harmed State
  pub came : ℕ
  pub seen : ℕ → ℕ

-- these numbers, with v for n
abbrev pub noted : (ℕ → ℕ) → (n v : ℕ) → ℕ → ℕ
noted f n v i = if nat_eq i n then v else f i

module _ {State : Type 0} (width : ℕ) (ends : Ends State) where
  -- how many had come when each request was sent, once a request was handed to the client, by what its rule gave
  abbrev pub seen_sent : Tally State → Option (Sending (ById Asked)) → ℕ → ℕ
  seen_sent r None = r.seen
  seen_sent r (Some x) = noted r.seen (length r.harmed.world.wire.sent) r.came

  -- the same once this move was made
  abbrev pub seen_by : Tally State → Move State → ℕ → ℕ
  seen_by r (Sends target call deadline) = seen_sent r (sends width r.harmed.world.client target call deadline)
  seen_by r _ = r.seen

  -- what a step does
  abbrev pub tally_harms : Tally State → Harm State → Tally State
  tally_harms r (Does move) = record { harmed = harms width ends r.harmed (Does move); came = r.came; seen = seen_by r move }
  tally_harms r (Damages line) = record { harmed = harms width ends r.harmed (Damages line); came = r.came + 1; seen = r.seen }
  tally_harms r (Strikes id call) = record { harmed = harms width ends r.harmed (Strikes id call); came = r.came; seen = r.seen }

  -- after a synchronization, with no damaged line counted
  abbrev pub tally_begun : UnderWay State → Tally State
  tally_begun u = record { harmed = harm_begun width ends u; came = 0; seen = λ n. 0 }

  -- if the client sends a request, the instrument keeps its own reply to it, or nothing (`KeepsItsOwnAfter`), and at most k damaged lines
  -- have come since the request of any line in flight was sent, or of the one that the instrument was handed last, if it keeps a reply
  pub record IsRareSend (k : ℕ) (Good : State → Type 0) (kept : State → Option KeptReply) (r : Tally State) (call : Asked) : Type 0 where
    pub own : KeepsItsOwnAfter ends Good kept call
    pub up : AllByRecursion (λ x. r.came ≤ r.seen x.number + k) r.harmed.world.wire.up
    pub down : AllByRecursion (λ x. r.came ≤ r.seen x.number + k) r.harmed.world.wire.down
    pub keeps : (reply : KeptReply) (n : ℕ) → kept r.harmed.world.wire.state ≡ Some reply → r.harmed.last ≡ Some n → r.came ≤ r.seen n + k

  -- if the client sends, damage was rare
  abbrev pub IsRareIfSent : ℕ → (State → Type 0) → (State → Option KeptReply) → Tally State → Asked → Option (Sending (ById Asked)) → Type 0
  IsRareIfSent k Good kept r call None = Unit {0}
  IsRareIfSent k Good kept r call (Some x) = IsRareSend k Good kept r call

  -- a move is possible, and damage was rare at a send
  abbrev pub MayDoRarely : ℕ → (State → Type 0) → (State → Option KeptReply) → Tally State → Move State → Type 0
  MayDoRarely k Good kept r (Sends target call deadline) = IsRareIfSent k Good kept r call (sends width r.harmed.world.client target call deadline)
  MayDoRarely k Good kept r move = IsPossible Good kept r.harmed.world move

  -- a step is possible, and damage was rare at a send
  abbrev pub MayHarmRarely : ℕ → (State → Type 0) → (State → Option KeptReply) → Tally State → Harm State → Type 0
  MayHarmRarely k Good kept r (Does move) = MayDoRarely k Good kept r move
  MayHarmRarely k Good kept r (Damages line) = Unit {0}
  MayHarmRarely k Good kept r (Strikes id call) = MayHarm width ends Good kept r.harmed (Strikes id call)

  -- each of these steps is so
  abbrev pub AllMayHarmRarely : ℕ → (State → Type 0) → (State → Option KeptReply) → List (Harm State) → Tally State → Type 0
  AllMayHarmRarely k Good kept [] r = Unit {0}
  AllMayHarmRarely k Good kept (m ∷ ms) r = MayHarmRarely k Good kept r m × AllMayHarmRarely k Good kept ms (tally_harms r m)

-- what follows: each send is fresh, and each answer own or damaged
pub record IsFreshAndOwn {State : Type 0} (width : ℕ) (ends : Ends State) (Good : State → Type 0) (kept : State → Option KeptReply)
    (u : UnderWay State) (ms : List (Harm State)) : Type 0 where
  pub fresh : AllMayHarm width ends Good kept ms (harm_begun width ends u)
  pub own : AreOwnOr width ends no_line (harm_begun width ends u) ms

-- for any instrument: after a clean synchronization, if at most k damaged lines come while a line of any one request is in flight or
-- kept, and the window is at most 7 / (k + 1) wide, each send is fresh, and each answer own or damaged
abbrev pub RareDamageIsLocalInField : Type 0 → Type 0
RareDamageIsLocalInField State = OfAnyInstrument {State = State} (λ ends Good kept.
    (width k : ℕ) → (k + 1) * width ≤ WINDOW → (u : UnderWay State) → IsClean Good kept u → (ms : List (Harm State)) →
    AllMayHarmRarely width ends k Good kept ms (tally_begun width ends u) → IsFreshAndOwn width ends Good kept u ms)
