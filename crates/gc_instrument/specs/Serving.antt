-- What serving writes, and how it ends: this project's own.
use Rattle.std.specs.Prelude.{◌≡◌, ℕ, ◌+◌, ◌<◌, List, ◌∷◌, ◌++◌, length, take, Option, Some, Result}
use Rattle.std.specs.Io.KnownBytes.{Appends}
use Rattle.gc_lines.specs.Prelude.{IsRunOverPorts, Ports, Progress, WholeOrCut, progress, AnswersLines, lines, with_end}
use Rattle.gc_lines.specs.declared.frame.Frame.{Frame}
use Rattle.gc_lines.specs.declared.served.Served.{Served}
use Rattle.gc_lines.specs.declared.served.ServeFault.{ServeFault}
use Rattle.gc_instrument.specs.State.{State}
use Rattle.gc_instrument.specs.Replying.{IsReplied}
use Rattle.gc_instrument.specs.Hearing.{Hears, replies_text}

-- what an instrument does with a frame, where `text` is what it sends: the reply to a line with its CR LF, and nothing for a
-- frame that is no line
abbrev pub AnswersFrame : (before : State) → Frame → (after : State) → (text : Option (List ℕ)) → Type 0
AnswersFrame before frame after text = AnswersLines IsReplied before frame after text

-- between the progress `from` and `to` the instrument answered all lines `heard`, and their replies were written whole
pub record ServesAll (from to : Progress State) (heard : List (List ℕ)) : Type 0 where
  pub replies : List (List ℕ)
  pub hears : Hears from.state heard to.state replies
  pub counts : to.whole ≡ from.whole + length replies
  pub took : Appends from.taken to.taken (replies_text replies)

-- between the progress `from` and `to` the instrument answered the lines `heard` up to one, `line`, and of the reply to `line`
-- only the first `bytes` bytes were written, and not all; later lines weren't handed over
pub record ServesPart (from to : Progress State) (heard : List (List ℕ)) (bytes : ℕ) : Type 0 where
  -- the lines whose replies were written whole, the one whose reply was cut, and those after it
  pub earlier : List (List ℕ)
  pub line : List ℕ
  pub later : List (List ℕ)
  pub order : heard ≡ earlier ++ line ∷ later
  -- the state after the earlier lines, and their replies
  pub state : State
  pub replies : List (List ℕ)
  pub hears : Hears from.state earlier state replies
  -- the reply that was cut
  pub reply : List ℕ
  pub gives : IsReplied state line to.state (Some reply)
  pub counts : to.whole ≡ from.whole + length replies
  pub not_all : bytes < length (with_end reply)
  pub took : Appends from.taken to.taken (replies_text replies ++ take bytes (with_end reply))

-- which of the lines that were read, `heard`, were answered, by the result of serving: all, or after a failed write those up to
-- the one whose reply was cut. That led the instrument from the state `from` to `to`, and the sink had taken `old` before and
-- `new` after, where that is known
abbrev pub Serves : (from to : State) → (heard : List (List ℕ)) → (old new : Option (List ℕ)) → Result Served ServeFault → Type 0
Serves from to heard old new result =
    WholeOrCut (λ count. ServesAll (progress from old 0) (progress to new count) heard)
    (λ count bytes. ServesPart (progress from old 0) (progress to new count) heard bytes) result

-- serving in at most `most` reads led the instrument from the state `from` to `to` and the ports from `old` to `new`, and had
-- this result: the instrument got the lines of the bytes that the source gave, and the sink took the replies, as `Serves` says
abbrev pub IsServing : (from to : State) → (old new : Ports) → (most : ℕ) → Result Served ServeFault → Type 0
IsServing from to old new most result = IsRunOverPorts (λ given. Serves from to (lines given)) old new most result
