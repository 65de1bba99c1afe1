-- The instrument that a subcommand begins with, and what is reported where its scene is refused: this project's own.
use Rattle.gc_console.specs.Common.{State, simulator_opening, SceneState, Ports}
use Rattle.std.specs.Prelude.{◌≡◌, ◌⊎◌, Option, None}
use Rattle.gc_console.specs.Refusing.{EndSeen, TellsRefusal}
use Rattle.gc_console.specs.declared.refusal.Refusal.{Refusal}

-- nothing was read from the source, and nothing written into the sink
abbrev pub AreUnused : (old new : Ports) → Type 0
AreUnused old new = (new.remaining ≡ old.remaining) × (new.taken ≡ old.taken)

-- the scene that was named was refused, which is reported (`TellsRefusal`), and source and sink weren't used (`AreUnused`)
pub record RefusesScene {Name : Type 0} (scene : Option Name) (seen : EndSeen) : Type 0 where
  pub refusal : Refusal
  pub tells : TellsRefusal refusal seen.status seen.told_before seen.told
  pub unused : AreUnused seen.old seen.new
  pub named : scene ≡ None → ⊥

-- `Plain` holds of the opening state of the scene's instrument without rules, or `Ruled` of that of one with rules. Where no
-- scene is named the instrument is the simulator, without rules
abbrev pub HoldsOfInstrument : {Name : Type 0} → (scene : Option Name) → (Plain : State → Type 0) → (Ruled : SceneState → Type 0) → Type 0
HoldsOfInstrument scene Plain Ruled =
    ((start : State) × (scene ≡ None → start ≡ simulator_opening) × Plain start)
    ⊎ ((scene ≡ None → ⊥) × ((start : SceneState) × Ruled start))
