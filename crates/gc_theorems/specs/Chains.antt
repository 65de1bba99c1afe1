-- Chains in the field, this project's own: what the instrument had executed when it executed a command of a chain. Each earlier
-- command of the chain had been executed before, with the reply that was booked for it; between the two only what was sent
-- between them was executed; and the instrument's state was what these executions had made of it, apart from what it keeps. A
-- part is what a station sees of its run from one synchronization to the next, and a stretch what happens on the line meanwhile,
-- once it has synchronized.
use Rattle.gc_theorems.specs.Common.{AllByRecursion, AllZip, Asked, WINDOW, KeptReply, line_of, Expected, AreChained, WasAnsweredWell, Part, mark_of, Record}
use Rattle.std.specs.Prelude.{◌≡◌, ℕ, Bool, ◌+◌, ◌<◌, ◌≤◌, true, false, List, [], ◌∷◌, ◌++◌, Option, Some, fold, slice_get}
use Rattle.gc_theorems.specs.World.{Ends, Sent, Up_deliver, Wire}
use Rattle.gc_theorems.specs.Begin.{UnderWay}
use Rattle.gc_theorems.specs.Begun.{WasMadeOn}
use Rattle.gc_theorems.specs.Field.{Move, OnLine, Anew, Changes, Joins}
use Rattle.gc_theorems.specs.Instrument.{KeepsItsReply, OfAnyInstrument}
use Rattle.gc_theorems.specs.Once.{IsInOrder}
use Rattle.gc_theorems.specs.Runs.{IsInField, Program, program_parts, program_records, world_at}
use Rattle.gc_theorems.specs.Shown.{Stretch, stretches}

-- What happens between two executions.

-- no start of the instrument is among these moves
abbrev pub HasNoStartAmong : {State : Type 0} → List (Move State) → Type 0
HasNoStartAmong [] = Unit {0}
HasNoStartAmong (Anew ∷ ms) = ⊥
HasNoStartAmong (_ ∷ ms) = HasNoStartAmong ms

-- among these moves the instrument neither starts again nor changes by itself, and no two requests reach it as one line (`Joins`)
abbrev pub IsUndisturbed : {State : Type 0} → List (Move State) → Type 0
IsUndisturbed [] = Unit {0}
IsUndisturbed (Anew ∷ ms) = ⊥
IsUndisturbed (Changes state ∷ ms) = ⊥
IsUndisturbed (Joins line ∷ ms) = ⊥
IsUndisturbed (_ ∷ ms) = IsUndisturbed ms

-- these are the calls of the requests with these numbers, one for one, in order
abbrev pub AreCalls : List Sent → List ℕ → List Asked → Type 0
AreCalls sent ns calls = AllZip (λ n call. (r : Sent) × (slice_get sent n ≡ Some r) × (r.call ≡ call)) ns calls

-- executing a call changes an instrument's state by `effect`, whatever id the request has, and a reply that is sent again
-- changes nothing. Both are said of the state without what the instrument keeps, which `apart` gives; and by `alike` the
-- effect doesn't depend on what is kept
pub record HasEffect {State : Type 0} (ends : Ends State) (apart : State → State) (effect : State → Asked → State) : Type 0 where
  pub executes : (state : State) (id : ℕ) (call : Asked) → (ends.handed state id call).executed ≡ true → apart (ends.handed state id call).state ≡ apart (effect state call)
  pub repeats : (state : State) (id : ℕ) (call : Asked) → (ends.handed state id call).executed ≡ false → apart (ends.handed state id call).state ≡ apart state
  pub alike : (s t : State) (call : Asked) → apart s ≡ apart t → apart (effect s call) ≡ apart (effect t call)

-- a request that was executed: its number and its call, and the line that was made on executing it
pub record ExecutedRequest : Type 0 where
  pub number : ℕ
  pub call : Asked
  pub line : List ℕ

-- the wire after these moves of a stretch
abbrev pub stretch_wire : {State : Type 0} → Ends State → Stretch State → List (Move State) → Wire State
stretch_wire ends s ms = (world_at ends s ms).wire

-- if a reply in time ended the command of record b (`line_of`), in a cycle and not in the setup: P holds of that reply's line and
-- of the place of each command before it in its chain
abbrev pub OfEachBeforeInChain : {State : Type 0} → Program State → (b : Record) → (P : List ℕ → ℕ → Type 0) → Type 0
OfEachBeforeInChain x b P =
    (line : List ℕ) (a : ℕ) → line_of b.end ≡ Some line → 0 < b.cycle → x.plan.setup ≤ a → a < b.place → AreChained x.commands a b.place → P line a

module _ {State : Type 0} (ends : Ends State) (Good : State → Type 0) (kept : State → Option KeptReply) where
  -- Two executions of a stretch.

  -- in a stretch request m was executed, and later request n
  pub record IsExecutedBefore (s : Stretch State) (m n : ExecutedRequest) : Type 0 where
    pub first : WasMadeOn WINDOW ends s.from s.moves m.number m.call m.line
    pub second : WasMadeOn WINDOW ends s.from s.moves n.number n.call n.line
    pub between : List (Move State)
    pub order : second.front ≡ first.front ++ OnLine Up_deliver ∷ between
    -- the requests that were executed between them, by their numbers: in the order of sending, none sent before m, and none
    -- after n
    pub numbers : List ℕ
    pub executed : (stretch_wire ends s second.front).executed ≡ (stretch_wire ends s first.front).executed ++ m.number ∷ numbers
    pub in_order : IsInOrder numbers
    pub within : AllByRecursion (λ x. (m.number ≤ x) × (x ≤ n.number)) numbers
    -- if the instrument keeps its reply to each request that it knows, and didn't start between, each of these was sent after
    -- m and before n
    pub strictly :
        (knows : Asked → Bool) → KeepsItsReply ends Good kept knows → HasNoStartAmong between →
        AllByRecursion (λ x. (r : Sent) → slice_get (stretch_wire ends s s.moves).sent x ≡ Some r → knows r.call ≡ true → (m.number < x) × (x < n.number)) numbers
    -- if the instrument neither started nor changed by itself between, its state when n reached it is, apart from what it
    -- keeps, the state in which m reached it, changed by executing m and then the requests between (`HasEffect`)
    pub calls : List Asked
    pub asked : AreCalls (stretch_wire ends s s.moves).sent numbers calls
    pub state :
        (apart : State → State) (effect : State → Asked → State) → HasEffect ends apart effect → IsUndisturbed between →
        apart (stretch_wire ends s second.front).state ≡ apart (fold effect (stretch_wire ends s first.front).state (m.call ∷ calls))

  -- A chain of a run.

  module _ (u : UnderWay State) (x : Program State) where
    -- in the run `x`, with `u` in flight at its start, the command of record b was executed after the command at place a of the
    -- same cycle. `line_b` is the reply of record b
    pub record IsChainedTo (a : ℕ) (b : Record) (line_b : List ℕ) : Type 0 where
      -- the command at place a has a record, too, which is an answer of a good quality: with both codes 0 and values that read,
      -- or with a return code that is accepted of that command (`IsGoodAnswer`)
      pub earlier : WasAnsweredWell x.scope.reads x.commands (program_records x) b.cycle a
      -- both are requests of the client in one part of the run, number i, and so in one stretch: request m for place a, and
      -- request n, which was sent later, for record b
      pub i : ℕ
      pub part : Part
      pub stretch : Stretch State
      pub of_parts : slice_get (program_parts x) i ≡ Some part
      pub of_stretches : slice_get (stretches ends u x.runs) i ≡ Some stretch
      pub m : ℕ
      pub n : ℕ
      pub goes_on : m < n
      pub expected_a : Expected
      pub expected_b : Expected
      pub mark_a : slice_get part.marks m ≡ Some (Some (mark_of expected_a earlier.answer))
      pub mark_b : slice_get part.marks n ≡ Some (Some (mark_of expected_b b))
      -- the commands that were sent between them are those of the places between them, of the same cycle
      pub between : (k : ℕ) (mark : _) → m < k → k < n → slice_get part.marks k ≡ Some (Some mark) → (mark.cycle ≡ b.cycle) × (a < mark.place) × (mark.place < b.place)
      -- and they were executed in this order, with these replies
      pub executed :
          IsExecutedBefore stretch (record { number = 8 + m; call = earlier.answer.command.call; line = earlier.good.line })
          (record { number = 8 + n; call = b.command.call; line = line_b })

    -- if a reply in time ended the command of record b, each command before it in its chain was executed before it
    -- (`IsChainedTo`)
    abbrev pub IsExecutedInChain : Record → Type 0
    IsExecutedInChain b = OfEachBeforeInChain x b (λ line a. IsChainedTo a b line)

    -- each record of the run is `IsExecutedInChain`
    abbrev pub AreExecutedInChain : Type 0
    AreExecutedInChain = AllByRecursion IsExecutedInChain (program_records x)

-- each record is `IsExecutedInChain`: for any instrument, every plan, all commands, every run of the station in the field
-- (`IsInField`), and all that the line and the instrument may do meanwhile
abbrev pub ChainsAreExecuted : Type 0 → Type 0
ChainsAreExecuted State = OfAnyInstrument {State = State} (λ ends Good kept.
    (u : UnderWay State) (x : Program State) → IsInField ends Good kept u x → AreExecutedInChain ends Good kept u x)
