-- What `serve` did, and how it reports its end: this project's own. `rule` is what an instrument does with a frame, and `restart` what a
-- restart makes of its state; `old` and `new` are the messages before and after.
use Rattle.gc_console.specs.Common.{LinkResult, KeepsServing, IsFaultOfPlace, ServesEach, AnswersFrame, State, restarted, simulator_opening, AnswerRule, Place, TellsAt, is_port, Refuses, range_line, are_open, Standard, PlaysFrame, SceneState, scene_restarted, HearsSometime, SlowState, slow_restarted, RunFault}
use Rattle.std.specs.Prelude.{◌≡◌, ◌⊎◌, ℕ, Bool, false, List, Option, None, Some, Err}
use Rattle.gc_lines.specs.declared.frame.Frame.{Frame}
use Rattle.gc_console.specs.Serves.{most_reads}
use Rattle.gc_console.specs.declared.serve.Serving.{Serving}

-- an instrument was served at a place, over so many connections one after the other, or up to a fault (`ServesEach`), and how that ended is
-- reported (`TellsAt`)
pub record ServesAt {S : Type 0} (rule : AnswerRule S Frame) (restart : S → S) (place : Place) (count : ℕ) (before : S) (status : ℕ)
    (old new : Option (List ℕ)) : Type 0 where
  pub end : LinkResult
  pub after : S
  pub serves : ServesEach rule restart most_reads IsFaultOfPlace count before after end
  pub tells : TellsAt (is_port place) end status old new

-- a place was kept: so many connections were served, whatever became of each (`KeepsServing`), with status 0; or the place couldn't be had,
-- for a fault that is reported (`TellsAt`), and nothing was served
abbrev pub KeepsAt : {S : Type 0} → AnswerRule S Frame → (restart : S → S) → Place → (connections : Option ℕ) → (before : S) → (status : ℕ)
    → (old new : Option (List ℕ)) → Type 0
KeepsAt rule restart place connections before status old new =
    ((status ≡ 0) × (all_written : Bool) × KeepsServing rule restart most_reads connections before all_written old new)
    ⊎ ((fault : RunFault) × IsFaultOfPlace fault × TellsAt {X = Unit {0}} (is_port place) (Err fault) status old new)

-- how many connections are served: as many as the words say, or else one
abbrev pub count_of : Option ℕ → ℕ
count_of None = 1
count_of (Some count) = count

-- an instrument was served as the words of `serve` say, with `--keep` or without it
abbrev pub ServesByIdle : {S : Type 0} → AnswerRule S Frame → (restart : S → S) → Place → (connections idle : Option ℕ) → (before : S) → (status : ℕ)
    → (old new : Option (List ℕ)) → Type 0
ServesByIdle rule restart place connections None before status old new = ServesAt rule restart place (count_of connections) before status old new
ServesByIdle rule restart place connections (Some _) before status old new = KeepsAt rule restart place connections before status old new

-- an instrument with this opening state was served as the words of `serve` say; or a number of them was refused, and nothing was served
abbrev pub ServesAsAsked : {S : Type 0} → AnswerRule S Frame → (restart : S → S) → Serving → (before : S) → (status : ℕ) → (old new : Option (List ℕ)) → Type 0
ServesAsAsked rule restart serving before status old new =
    Refuses range_line status old new ⊎ ServesByIdle rule restart serving.place serving.connections serving.idle before status old new

-- the instrument of the scene, which is the simulator where none is named, was served as the words of `serve` say (`ServesAsAsked`)
abbrev pub ServesScene : Serving → (status : ℕ) → (old new : Option (List ℕ)) → Type 0
ServesScene serving status old new =
    ((start : State) × (serving.scene ≡ None → start ≡ simulator_opening) × ServesAsAsked AnswersFrame restarted serving start status old new)
    ⊎ ((serving.scene ≡ None → ⊥) × ((start : SceneState) × ServesAsAsked PlaysFrame scene_restarted serving start status old new))
    ⊎ ((serving.scene ≡ None → ⊥) × ((start : SlowState) × ServesAsAsked HearsSometime slow_restarted serving start status old new))

-- nothing was served, with status 1, since the scene that was named was refused or its clock couldn't be read; or the instrument was served
-- (`ServesScene`)
abbrev pub ServesOrRefuses : Serving → (status : ℕ) → (old new : Option (List ℕ)) → Type 0
ServesOrRefuses serving status old new = ((serving.scene ≡ None → ⊥) × (status ≡ 1)) ⊎ ServesScene serving status old new

-- `serve` ended with this status: nothing was served, with status 1, since the place of a closed stream couldn't be filled; or as
-- `ServesOrRefuses` says
abbrev pub TellsServe : Standard → Serving → (status : ℕ) → (old new : Option (List ℕ)) → Type 0
TellsServe standard serving status old new = ((are_open standard ≡ false) × (status ≡ 1)) ⊎ ServesOrRefuses serving status old new
