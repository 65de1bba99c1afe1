-- What serving with a scene's instrument writes, and how it ends: this project's own.
use Rattle.gc_scenes.specs.Common.{AnswersFrames, IsRunOverPorts, Ports, AnswersLines, frames, Frame}
use Rattle.std.specs.Prelude.{ℕ, List, Option, Result}
use Rattle.gc_lines.specs.declared.served.Served.{Served}
use Rattle.gc_lines.specs.declared.served.ServeFault.{ServeFault}
use Rattle.gc_scenes.specs.SceneReplying.{IsPlayed}
use Rattle.gc_scenes.specs.SceneState.{SceneState}

-- what a scene's instrument does with a frame, where `text` is what it sends: the reply to a line with its CR LF, and nothing for
-- a frame that is no line
abbrev pub PlaysFrame : (before : SceneState) → Frame → (after : SceneState) → (text : Option (List ℕ)) → Type 0
PlaysFrame before frame after text = AnswersLines IsPlayed before frame after text

-- serving in at most `most` reads led the instrument from the state `from` to `to` and the ports from `old` to `new`, and had
-- this result: the frames of the bytes that the source gave were answered, and the sink took the replies, as `AnswersFrames` says
abbrev pub IsSceneServing : (from to : SceneState) → (old new : Ports) → (most : ℕ) → Result Served ServeFault → Type 0
IsSceneServing from to old new most result = IsRunOverPorts (λ given. AnswersFrames PlaysFrame from to (frames given)) old new most result
