-- In which direction bytes went, as a log shows it: this project's own.
use Rattle.gc_logs.specs.Common.{AllByRecursion, mark_text}
use Rattle.std.specs.Prelude.{◌≡◌, ℕ, List, ◌∷◌}
use Rattle.gc_logs.specs.Logging.{Entry, entries, entries_of_pending}
use Rattle.gc_logs.specs.declared.logging.Unwritten.{Unwritten}
use Rattle.gc_logs.specs.declared.logging.Direction.{Direction}
use Rattle.gc_logs.specs.declared.logging.Direction.TheVariants.{Went, Came}

-- the first character of a mark: `>` for sent bytes, `<` for received bytes
abbrev pub sign_of : Direction → ℕ
sign_of Went = 62
sign_of Came = 60

-- the mark of a log's line begins with this character
abbrev pub IsSigned : ℕ → Entry → Type 0
IsSigned sign e = (rest : List ℕ) × (mark_text e.mark ≡ sign ∷ rest)

-- each line of a log of sent bytes begins its mark with `>`, and each of received bytes with `<`, whole or in part; so does the
-- line of what is pending at a close
pub record MarksTellTheWay : Type 0 where
  pub lines : (way : Direction) (p : Unwritten) (bytes : List ℕ) → AllByRecursion (IsSigned (sign_of way)) (entries way p bytes)
  pub cut : (way : Direction) (bytes : List ℕ) → AllByRecursion (IsSigned (sign_of way)) (entries_of_pending way bytes)
