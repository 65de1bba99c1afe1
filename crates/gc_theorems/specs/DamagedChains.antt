-- Chains over a line that damages, this project's own: in which order the instrument executed the commands of a chain whose answers are its
-- own lines.
use Rattle.gc_theorems.specs.Common.{line_of, AreChained, WasAnsweredWell, Record}
use Rattle.std.specs.Prelude.{◌≡◌, ℕ, ◌<◌, ◌≤◌, List, ◌∷◌, ◌++◌, Some, slice_get}
use Rattle.gc_theorems.specs.World.{Ends, Up_deliver}
use Rattle.gc_theorems.specs.Begin.{UnderWay}
use Rattle.gc_theorems.specs.Field.{OnLine}
use Rattle.gc_theorems.specs.Instrument.{OfAnyInstrument}
use Rattle.gc_theorems.specs.Harm.{Harm, Does}
use Rattle.gc_theorems.specs.DamagedRuns.{HarmedProgram, HasItsAnswer, IsInHarmedField, IsOwnLine, parts_of_program, records_of_program, sent_until}

module _ {State : Type 0} (ends : Ends State) (x : HarmedProgram State) where
  -- where the answer `line` of record number n of this run, which is `r`, comes from
  abbrev pub AnswerAt : (n : ℕ) → (r : Record) → (line : List ℕ) → Type 0
  AnswerAt n r line = HasItsAnswer ends x.commands (parts_of_program x) x.stretches (sent_until (records_of_program x) n) r line

  -- that line was made on executing the very request of that record (`IsOwnLine`)
  abbrev pub IsOwnAt : (n : ℕ) (r : Record) (line : List ℕ) → AnswerAt n r line → Type 0
  IsOwnAt n r line h = IsOwnLine ends x.commands (parts_of_program x) x.stretches (sent_until (records_of_program x) n) r h.of line

  -- record number n of this run, `b`, with the reply `line_b`, is of a command that was sent after the command at place a of the same cycle
  pub record IsChainedTo (a n : ℕ) (b : Record) (line_b : List ℕ) : Type 0 where
    -- the command at place a has a record, too, which is an answer of a good quality
    pub earlier : WasAnsweredWell x.scope.reads x.commands (records_of_program x) b.cycle a
    -- both replies settled requests of one stretch, that of record b the later one; and each is own or damaged, if damage is apart there
    pub first : AnswerAt earlier.k earlier.answer earlier.good.line
    pub second : AnswerAt n b line_b
    pub one_stretch : first.of.k ≡ second.of.k
    pub goes_on : first.of.m < second.of.m
    -- if both are own, the earlier request was executed before the later one: at an earlier step of the stretch
    pub in_order :
        (f : IsOwnAt earlier.k earlier.answer earlier.good.line first) (h : IsOwnAt n b line_b second) →
        (between : List (Harm State)) × (h.front ≡ f.front ++ Does (OnLine Up_deliver) ∷ between)

  -- if a reply in time ended the command of record number n, `b`, in a cycle and not in the setup, it is `IsChainedTo` each command before
  -- it in its chain
  abbrev pub IsInOrderInChain : (n : ℕ) → (b : Record) → Type 0
  IsInOrderInChain n b =
      (line : List ℕ) (a : ℕ) → line_of b.end ≡ Some line → 0 < b.cycle → x.plan.setup ≤ a → a < b.place → AreChained x.commands a b.place
      → IsChainedTo a n b line

-- for any instrument, each record of a run over a line that damages is `IsInOrderInChain`
abbrev pub ChainsAreExecutedInOrder : Type 0 → Type 0
ChainsAreExecutedInOrder State = OfAnyInstrument {State = State} (λ ends Good kept.
    (u : UnderWay State) (x : HarmedProgram State) → IsInHarmedField ends Good kept u x →
    (n : ℕ) (b : Record) → slice_get (records_of_program x) n ≡ Some b → IsInOrderInChain ends x n b)
