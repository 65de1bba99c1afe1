-- What the code appends for a request: this project's own. `number` is an id; `old` and `new` are the bytes before and after.
use Rattle.gc_scenes.specs.Common.{IsPlain, Handed}
use Rattle.std.specs.Prelude.{◌≡◌, ℕ, true, List, ◌++◌}
use Rattle.gc_scenes.specs.SceneExecution.{Played}
use Rattle.gc_scenes.specs.SceneReplying.{played_line}
use Rattle.gc_scenes.specs.SceneState.{SceneState}

-- the state after a request is that of `x`, and the reply of `x`, which has neither CR nor LF, was appended to `old`
pub record AppendsHanded (x : Handed SceneState) (after : SceneState) (old new : List ℕ) : Type 0 where
  pub state : after ≡ x.state
  pub appended : new ≡ old ++ x.reply
  pub plain : IsPlain x.reply

-- the state after a request is that of `p`, and the reply line of `p` with this id was appended to `old`
abbrev pub AppendsPlayed : (number : ℕ) → Played → (after : SceneState) → (old new : List ℕ) → Type 0
AppendsPlayed number p after old new = AppendsHanded (record { state = p.state; reply = played_line number p; executed = true }) after old new
