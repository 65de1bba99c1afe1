-- Runs without damage as instances of runs with it, this project's own: the runs of the field (`IsInField`), in which nothing is damaged.
use Rattle.gc_theorems.specs.Common.{AllByRecursion, WINDOW, KeptReply}
use Rattle.std.specs.Prelude.{◌⊎◌, List, [], ◌∷◌, map, Option}
use Rattle.gc_theorems.specs.World.{Ends}
use Rattle.gc_theorems.specs.Begin.{UnderWay}
use Rattle.gc_theorems.specs.Beginnings.{Run, left_by_run}
use Rattle.gc_theorems.specs.Instrument.{OfAnyInstrument, TreatsRawsAlike}
use Rattle.gc_theorems.specs.Runs.{IsInField, Program}
use Rattle.gc_theorems.specs.DamagedRuns.{AreOfTable, HarmedProgram, IsInHarmedField}
use Rattle.gc_theorems.specs.Stretches.{HarmedStretch, HasDamageApart}
use Rattle.gc_theorems.specs.Harm as harm
use Rattle.gc_theorems.specs.DamagedSynchronizing as sync

module _ {State : Type 0} (ends : Ends State) where
  -- the stretches of runs, each over what the run before it left, in which nothing is damaged
  abbrev pub undamaged_stretches : UnderWay State → List (Run State) → List (HarmedStretch State)
  undamaged_stretches u [] = []
  undamaged_stretches u (r ∷ rs) = record { over = u; turns = map sync.Does r.turns; steps = map harm.Does r.moves } ∷ undamaged_stretches (left_by_run WINDOW ends u r) rs

  -- the same program, as one of a run over a line that damages
  abbrev pub undamaged_program : UnderWay State → Program State → HarmedProgram State
  undamaged_program u x = record { plan = x.plan; commands = x.commands; scope = x.scope; acts = x.acts; stretches = undamaged_stretches u x.runs }

-- what follows of a program in the field: it is in the field with damage, and damage is apart in each stretch
pub record IsInstance {State : Type 0} (ends : Ends State) (Good : State → Type 0) (kept : State → Option KeptReply) (u : UnderWay State) (x : Program State) : Type 0 where
  pub field : IsInHarmedField ends Good kept u (undamaged_program ends u x)
  pub apart : AllByRecursion (HasDamageApart ends) (undamaged_stretches ends u x.runs)

-- for any instrument, each program in the field is `IsInstance`, if it asks only for calls of the table, or the instrument treats raw
-- requests alike
abbrev pub UndamagedRunsAreInstances : Type 0 → Type 0
UndamagedRunsAreInstances State = OfAnyInstrument {State = State} (λ ends Good kept.
    (u : UnderWay State) (x : Program State) → IsInField ends Good kept u x → AreOfTable x.commands ⊎ TreatsRawsAlike ends Good kept → IsInstance ends Good kept u x)
