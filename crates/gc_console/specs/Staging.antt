-- The instrument that a scene sets up, with rules or without them: this project's own.
use Rattle.gc_console.specs.Common.{Consumes, IsAtEnd, IsLineOf, takes_all, OpensPlain, OpensRuled, OpensTimed, SceneFault, SetsUp, IsReadFault, RunFault}
use Rattle.std.specs.Prelude.{◌⊎◌, ℕ, IsTrue, List, Option}
use Rattle.gc_filters.specs.declared.scene_line.SceneLine.{SceneLine}
use Rattle.gc_console.specs.Refusing.{refusal_fault}
use Rattle.gc_console.specs.declared.refusal.Refusal.{Refusal}
use Rattle.gc_console.specs.declared.scene.Staged.{Staged}
use Rattle.gc_console.specs.declared.scene.Staged.TheVariants.{Plain, Ruled}
use Rattle.gc_console.specs.declared.scene.Timed.{Timed}
use Rattle.gc_console.specs.declared.scene.Timed.TheVariants.{Still, Slow}
use Rattle.gc_filters.specs.declared.scene_line.SceneKind.TheVariants as kind

-- this is the opening state of the instrument that the lines set up, which has rules unless they are those of a scene without rules
abbrev pub OpensStaged : List SceneLine → Staged → Type 0
OpensStaged lines (Plain state) = IsTrue (takes_all kind.Plain lines) × OpensPlain lines state
OpensStaged lines (Ruled state) = OpensRuled lines state

-- this is the opening state of the instrument that the lines set up for `serve`, which needs the clock unless no line needs it
abbrev pub OpensTimedStage : List SceneLine → Timed → Type 0
OpensTimedStage lines (Still staged) = IsTrue (takes_all kind.Still lines) × OpensStaged lines staged
OpensTimedStage lines (Slow state) = OpensTimed lines state

-- the text is a scene that needs no clock, and this is the opening state of its instrument
abbrev pub IsStaged : List ℕ → Staged → Type 0
IsStaged text staged = SetsUp (IsLineOf kind.Still) OpensStaged text staged

-- the text is a scene, maybe one that needs a clock, as with delays, and this is the opening state of its instrument for `serve`,
-- which has a clock
abbrev pub IsTimed : List ℕ → Timed → Type 0
IsTimed text timed = SetsUp (IsLineOf kind.Timed) OpensTimedStage text timed

-- a text sets up no instrument, for this fault that it has as a scene that needs no clock
abbrev pub StagedFault : List ℕ → RunFault → Type 0
StagedFault text fault = SceneFault (IsLineOf kind.Still) text fault

-- a text sets up no instrument for `serve`, which has a clock, for this fault that it has as a scene that may need one
abbrev pub TimedStagedFault : List ℕ → RunFault → Type 0
TimedStagedFault text fault = SceneFault (IsLineOf kind.Timed) text fault

-- Of a source: `old` and `new` are the bytes that were still to come before it was read and are still to come now, where they are
-- known.

-- a source gave a text to its end, and `Is` holds of that text and the instrument
abbrev pub GivesInstrument : {X : Type 0} → (Is : List ℕ → X → Type 0) → (old new : Option (List ℕ)) → X → Type 0
GivesInstrument Is old new instrument = (text : List ℕ) × Consumes old new text × IsAtEnd new × Is text instrument

-- a source gave no instrument, for the fault of `r`: it wasn't read to its end, or, as `Fails` says, the bytes that it gave set up
-- none
abbrev pub GivesNoInstrument : (Fails : List ℕ → RunFault → Type 0) → (old new : Option (List ℕ)) → Refusal → Type 0
GivesNoInstrument Fails old new r =
    (given : List ℕ) × Consumes old new given × (IsReadFault given (refusal_fault r) ⊎ Fails given (refusal_fault r))
