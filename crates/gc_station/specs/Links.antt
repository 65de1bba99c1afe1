-- Chains by the parts of a run, this project's own: the commands of a chain are requests of one part, each after the answer of
-- the one before it. A part reaches from one synchronization to the next (`Parts`). An act is one call on the link, with its
-- result.
use Rattle.gc_station.specs.Common.{Act, Expected, Task}
use Rattle.std.specs.Prelude.{◌≡◌, ◌⊎◌, ℕ, suc, ◌<◌, ◌≤◌, true, List, ◌++◌, drop, length, Some, slice_get}
use Rattle.gc_station.specs.Parts.{Part, mark_of, parts_of}
use Rattle.gc_station.specs.Qualities.{IsGoodAnswer}
use Rattle.gc_station.specs.Records.{Record, Grew}
use Rattle.gc_station.specs.Runs.{state_after, OfEachRun}
use Rattle.gc_station.specs.Scopes.{Scope, Reads}
use Rattle.gc_station.specs.Model.{opening}
use Rattle.gc_station.specs.NextCommand.{first_is_chained}
use Rattle.gc_station.specs.declared.mark.Mark.{Mark}
use Rattle.gc_station.specs.declared.plan.Plan.{Plan}

-- each command of the list after the one at place `a`, up to the one at place `b`, is sent only once the one before it was
-- answered well
abbrev pub AreChained : List Task → (a b : ℕ) → Type 0
AreChained commands a b = (p : ℕ) → a < p → p ≤ b → first_is_chained (drop p commands) ≡ true

-- the pair of i and m comes before the pair of j and n: by the first numbers or, if these are equal, by the second ones
abbrev pub IsBefore : (i m j n : ℕ) → Type 0
IsBefore i m j n = (i < j) ⊎ ((i ≡ j) × (m < n))

-- the parts of the run that makes `acts`
abbrev pub parts : Plan → List Task → Scope → List Act → List Part
parts plan commands scope acts = parts_of plan commands (opening plan scope) acts

-- one of `records`, number `k`, is of the command at place `a` of this cycle, and is an answer of a good quality
-- (`IsGoodAnswer`)
pub record WasAnsweredWell (reads : Reads) (commands : List Task) (records : List Record) (cycle a : ℕ) : Type 0 where
  pub k : ℕ
  pub answer : Record
  pub among : slice_get records k ≡ Some answer
  pub own_cycle : answer.cycle ≡ cycle
  pub own_place : answer.place ≡ a
  pub good : IsGoodAnswer reads commands answer

-- after `acts` the command at place `a` of this cycle has a record, and was answered well (`its`). Request number `m` of `part`
-- is of that command, and each command that was sent after it in that part is of a cycle, and none of the setup
pub record IsAnsweredEarlier (plan : Plan) (commands : List Task) (scope : Scope) (acts : List Act) (part : Part) (cycle a : ℕ) : Type 0 where
  pub its : WasAnsweredWell scope.reads commands (state_after plan commands scope acts).records cycle a
  pub m : ℕ
  pub expected : Expected
  pub mark : slice_get part.marks m ≡ Some (Some (mark_of expected its.answer))
  pub of_cycles : (x : ℕ) (mark : Mark) → m < x → slice_get part.marks x ≡ Some (Some mark) → 0 < mark.cycle

-- what holds just before request number `n` of part number `i` (both counted from 0) is sent, which is of the command with this
-- mark: after the acts `before` part `i` is the last one, and `so_far` is that part so far, with `n` requests; and each earlier
-- command of the same chain was answered well, as a request of `so_far`
pub record IsSentAfter (plan : Plan) (commands : List Task) (scope : Scope) (acts : List Act) (i n : ℕ) (mark : Mark) : Type 0 where
  pub before : List Act
  pub rest : List Act
  pub order : acts ≡ before ++ rest
  pub so_far : Part
  pub of_parts : slice_get (parts plan commands scope before) i ≡ Some so_far
  pub last : length (parts plan commands scope before) ≡ suc i
  pub count : length so_far.marks ≡ n
  pub chain : (a : ℕ) → plan.setup ≤ a → a < mark.place → AreChained commands a mark.place → IsAnsweredEarlier plan commands scope before so_far mark.cycle a

-- each command of a cycle is sent only after the answers of all earlier commands of its chain, as a request of the same part of
-- a run
abbrev pub ChainsStay : Type 0
ChainsStay = OfEachRun (λ plan commands scope acts.
    (i n : ℕ) (part : Part) (mark : Mark) → slice_get (parts plan commands scope acts) i ≡ Some part → slice_get part.marks n ≡ Some (Some mark)
    → 0 < mark.cycle → IsSentAfter plan commands scope acts i n mark)

-- of two commands of cycles that are requests `m` of part `i` and `n` of part `j`, counted from 0, the later one has a later
-- place in the same cycle, or is of a later cycle
abbrev pub MarksGoOnIn : List Part → Type 0
MarksGoOnIn ps =
    (i j m n : ℕ) (p q : Part) (a b : Mark) → slice_get ps i ≡ Some p → slice_get ps j ≡ Some q
    → slice_get p.marks m ≡ Some (Some a) → slice_get q.marks n ≡ Some (Some b)
    → IsBefore i m j n → 0 < a.cycle → 0 < b.cycle → IsBefore a.cycle a.place b.cycle b.place

-- in the parts of each run the commands of cycles go on, as `MarksGoOnIn` says
abbrev pub MarksGoOn : Type 0
MarksGoOn = OfEachRun (λ plan commands scope acts. MarksGoOnIn (parts plan commands scope acts))

-- the records after the acts `before` are still there, and come first, after the further acts `rest`
abbrev pub RecordsStay : Type 0
RecordsStay =
    (plan : Plan) (commands : List Task) (scope : Scope) (before rest : List Act)
    → Grew (state_after plan commands scope before).records (state_after plan commands scope (before ++ rest)).records
