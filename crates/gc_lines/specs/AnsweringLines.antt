-- What an answerer of lines does with a line and with a frame: this project's own. `before` and `after` are its states.
use Rattle.std.specs.Prelude.{◌≡◌, ℕ, List, Option, Some, None}
use Rattle.std.specs.Option.{option_map}
use Rattle.gc_lines.specs.Answering.{AnswerRule}
use Rattle.gc_lines.specs.Lines.{with_end}
use Rattle.gc_lines.specs.Requests.{RequestFields, IsRequest, IsNoRequest}
use Rattle.gc_lines.specs.declared.frame.Frame.{Frame}
use Rattle.gc_lines.specs.declared.frame.Frame.TheVariants.{Line}

-- what an answerer does with a line, and its reply, if there is one. `does` says what it does with a request, and what it replies
pub data RepliesTo {State : Type 0} (does : State → RequestFields → State → List ℕ → Type 0) (before : State) (line : List ℕ) (after : State)
    (reply : Option (List ℕ)) : Type 0 where
  -- the line is no request: nothing changes
  silent : IsNoRequest line → after ≡ before → reply ≡ None → RepliesTo does before line after reply
  -- the line is a request
  answers : (q : RequestFields) → IsRequest line q → (text : List ℕ) → does before q after text → reply ≡ Some text
      → RepliesTo does before line after reply

-- what answering a line may do: the state before the line, the line, the state after it, and the reply, if there is one
abbrev pub ReplyRule : Type 0 → Type 1
ReplyRule State = AnswerRule State (List ℕ)

-- a state and a line determine the state after the line, and the reply or that there is none, where `replies` says what an
-- answerer does with a line
abbrev pub HasOneReply : {State : Type 0} → (replies : ReplyRule State) → Type 0
HasOneReply {State} replies = (s t u : State) (line : List ℕ) (p q : Option (List ℕ)) → replies s line t p → replies s line u q → (t ≡ u) × (p ≡ q)

-- what an answerer does with a frame, where `replies` says what it does with a line: it answers a line with its reply and CR LF,
-- or with nothing where the line gets no reply. A frame that is no line gets nothing, and leaves the state as it is
abbrev pub AnswersLines : {State : Type 0} → (replies : ReplyRule State) → (before : State) → Frame → (after : State)
    → (text : Option (List ℕ)) → Type 0
AnswersLines replies before (Line line) after text =
    (reply : Option (List ℕ)) × replies before line.items after reply × (text ≡ option_map with_end reply)
AnswersLines replies before _ after text = (after ≡ before) × (text ≡ None)
