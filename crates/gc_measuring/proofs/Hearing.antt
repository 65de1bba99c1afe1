-- A text that was read whole from a source that notes what it gave, and gives no tasks.
use Rattle.gc_measuring.proofs.Common.{ℕ, List, inl, inr, subst, sym, HasNoTasks, HearsNoTasks, RefusesTasks, Stop, Hearing, HearsText, Input, WasRead}

-- a text that was read whole, and gives no tasks, is refused
pub refused_if_read : (given : List ℕ) (old new : Input) (stop : Stop) → WasRead given old new → HasNoTasks given stop → RefusesTasks given old new stop
refused_if_read given old new stop read (inl none) = inl (none.0, inr (read, none.1), none.2)
refused_if_read given old new stop read (inr alone) =
    inr (record {
      read = read;
      deadline = alone.0.deadline;
      chained = alone.0.chained;
      all = alone.0.all;
      are = alone.0.are;
      none = alone.0.none;
      is = alone.1;
    })

-- if it was heard, too, what was heard is what is refused
pub refused_if_heard : (old new : Hearing) (text : List ℕ) (stop : Stop) → HearsText old new text → HasNoTasks text stop → HearsNoTasks old new stop
refused_if_heard old new text stop heard none = (
  heard.0,
  heard.1,
  heard.2,
  (
    heard.3.0,
    refused_if_read heard.0 old.input new.input stop heard.3.1.1
        (subst (λ (t : List ℕ). HasNoTasks t stop) (sym heard.3.1.0) none),
  ),
)
