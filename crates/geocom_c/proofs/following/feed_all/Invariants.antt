use Rattle.geocom_c.proofs.Common.{◌≡◌, ℕ, List, length, Asked, Course, hearing_lines, StandsForCourse, HeardBut}
use Rattle.geocom_c.proofs.following.feed_all.Given as goal

-- all bytes but those that are left were fed (`HeardBut`), and as many null procedures are answered as at first
abbrev pub invariant-loop-left : goal.invariant-loop-left
invariant-loop-left l =
    record {
      fed : (width : ℕ) (x : Course Asked) (rest : List ℕ) → StandsForCourse width l.fn.state x rest
          → HeardBut (hearing_lines width) (StandsForCourse width l.state) x rest l.bytes l.left;
      answered : l.state.answered ≡ l.fn.state.answered;
    }

-- how many bytes are left
abbrev pub decreases-loop-left : goal.decreases-loop-left
decreases-loop-left l = length l.left
