-- Chains that are sent twice over a line that damages, this project's own: the lines of an answer of a second sending, and of that of the
-- first with which it agrees.
use Rattle.gc_theorems.specs.Common.{Answer, is_good, Second, Task, AgreesWithFirst, Record}
use Rattle.std.specs.Prelude.{◌≡◌, ◌⊎◌, ℕ, ◌+◌, true, List, ◌∷◌, ◌++◌, length, Option, Some, slice_get}
use Rattle.gc_texts.specs.Prelude.{Answered}
use Rattle.gc_texts.specs.declared.agree.Agree.{Agree}
use Rattle.gc_texts.specs.declared.quality.Quality.{Quality}
use Rattle.gc_theorems.specs.World.{Ends}
use Rattle.gc_theorems.specs.Begin.{UnderWay}
use Rattle.gc_theorems.specs.Instrument.{OfAnyInstrument}
use Rattle.gc_theorems.specs.DamagedRuns.{HarmedProgram, HasItsAnswer, HasItsRequest, IsInHarmedField, IsOwnLine, WasSettledByDamage, parts_of_program, records_of_program, sent_until}
use Rattle.gc_theorems.specs.Stretches.{HasDamageApart}

module _ {State : Type 0} (ends : Ends State) (x : HarmedProgram State) where
  -- the request of the record `r` of this run, before which are the records `before`
  abbrev pub RequestOf : (before : List Record) → Record → Type 0
  RequestOf before r = HasItsRequest x.commands (parts_of_program x) x.stretches (sent_until (records_of_program x) (length before)) r

  -- where the answer `line` of the record `r` of this run comes from, before which are the records `before`
  abbrev pub AnswerOf : (before : List Record) → Record → (line : List ℕ) → Type 0
  AnswerOf before r line = HasItsAnswer ends x.commands (parts_of_program x) x.stretches (sent_until (records_of_program x) (length before)) r line

  -- the line was made on executing the very request of that record (`IsOwnLine`)
  abbrev pub IsOwnLineOf : (before : List Record) (r : Record) → RequestOf before r → (line : List ℕ) → Type 0
  IsOwnLineOf before r of line = IsOwnLine ends x.commands (parts_of_program x) x.stretches (sent_until (records_of_program x) (length before)) r of line

  module _ (front before : List Record) (f r : Record) (a : RequestOf front f) (b : RequestOf before r) (said line : List ℕ) where
    -- the requests of the records `f` and `r` were settled by these two lines, which are both damaged; and not at one step
    pub record AreBothByDamage : Type 0 where
      pub first : WasSettledByDamage ends a.stretch (8 + a.m) said
      pub second : WasSettledByDamage ends b.stretch (8 + b.m) line
      pub two : a.k ≡ b.k → first.front ≡ second.front → ⊥

    -- one of these two lines at least was made on executing the request of its own record, or both are damaged
    abbrev pub IsOneOwn : Type 0
    IsOneOwn = IsOwnLineOf front f a said ⊎ (IsOwnLineOf before r b line ⊎ AreBothByDamage)

  -- this answer of the record `r`, with this line, agrees within `agree` with that of the first sending, of which there is a record among
  -- those before (`agreed`). It is known where the two lines come from (`first`, `second`); and if damage is apart in the stretches of the
  -- two requests, one line at least is own, or both are damaged
  pub record HasAnOwnAnswer (agree : Agree) (before : List Record) (r : Record) (answer : Option Answer) (line : List ℕ) : Type 0 where
    pub agreed : AgreesWithFirst agree before r answer
    pub first : AnswerOf agreed.first.front agreed.first.first agreed.first.line
    pub second : AnswerOf before r line
    pub own :
        HasDamageApart ends first.of.stretch → HasDamageApart ends second.of.stretch →
        IsOneOwn agreed.first.front before agreed.first.first r first.of second.of agreed.first.line line

  -- if the record `r` of this run is of a second sending, and ended as answered and isn't refused, it is so of its answer
  -- (`HasAnOwnAnswer`). `before` are the records before it
  abbrev pub HasAnOwnAnswerIfAgreed : (before : List Record) → Record → Type 0
  HasAnOwnAnswerIfAgreed before r =
      (task : Task) (agree : Agree) (nth : ℕ) (quality : Quality) (answer : Option Answer) (line : List ℕ)
      → slice_get x.commands r.place ≡ Some task → task.twice ≡ Second agree nth → r.end ≡ Answered quality answer line → is_good quality ≡ true
      → HasAnOwnAnswer agree before r answer line

-- for any instrument, `HasAnOwnAnswerIfAgreed` holds of each record of a run over a line that damages, with the records before it
abbrev pub AgreedRowsHaveAnOwnAnswer : Type 0 → Type 0
AgreedRowsHaveAnOwnAnswer State = OfAnyInstrument {State = State} (λ ends Good kept.
    (u : UnderWay State) (x : HarmedProgram State) → IsInHarmedField ends Good kept u x →
    (before later : List Record) (r : Record) → records_of_program x ≡ before ++ r ∷ later → HasAnOwnAnswerIfAgreed ends x before r)
