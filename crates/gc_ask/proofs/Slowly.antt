-- How an instrument whose replies take time answers a frame: as an answerer of lines does, at the moment at which the line came.
use Rattle.gc_ask.proofs.Common.{◌≡◌, ℕ, List, [], ◌∷◌, ◌++◌, true, false, AppendsAnswer, Line, SlowState, HearsLine, HearsSometime}
use Rattle.gc_lines.proofs.AnsweringLines.{line_answered, line_unanswered}

-- appending a line's reply, and CR LF after it, is how the frame of that line is answered
pub slowly_answered : (before after : SlowState) (line : List ℕ) (at : ℕ) (old between new : List ℕ) → AppendsAnswer (HearsLine before line at after) old between true
    → new ≡ between ++ 13 ∷ 10 ∷ [] → AppendsAnswer (HearsSometime before (Line (record { items = line })) after) old new true
slowly_answered before after line at old between new h e =
    let a = line_answered (λ s l t reply. HearsLine s l at t reply) before after line old between new h e in (a.0, (at, a.1), a.2)

-- the frame of a line without a reply is answered by nothing
pub slowly_unanswered : (before after : SlowState) (line : List ℕ) (at : ℕ) (old new : List ℕ) → AppendsAnswer (HearsLine before line at after) old new false
    → AppendsAnswer (HearsSometime before (Line (record { items = line })) after) old new false
slowly_unanswered before after line at old new h =
    let a = line_unanswered (λ s l t reply. HearsLine s l at t reply) before after line old new h in ((at, a.0), a.1)
