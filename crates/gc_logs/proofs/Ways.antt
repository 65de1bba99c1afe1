-- A log marks each line by the direction of its bytes: `>` if they were sent, `<` if they were received.
use Rattle.gc_logs.proofs.Common.{◌-◌, ◌==◌, ◌&&◌, ℕ, cond, not, List, [], ◌∷◌, ◌++◌, length, take, refl, AllByRecursion, cond_both, ends_in_return, entry, line_mark, part_mark, takes_one_more, entry_of_line, entries_at, pending_at, entries, entries_of_pending, Unwritten, Direction, Went, Came}
use Rattle.gc_lines.proofs.Lists.{all_append}
use Rattle.gc_logs.specs.Ways.{sign_of, IsSigned, MarksTellTheWay}

-- a whole line is marked by its direction
whole_line_signed : (way : Direction) (bytes : List ℕ) → IsSigned (sign_of way) (entry (line_mark way) bytes)
whole_line_signed Went bytes = ([], refl)
whole_line_signed Came bytes = ([], refl)

-- a part is marked by its direction
part_signed : (way : Direction) (bytes : List ℕ) → IsSigned (sign_of way) (entry (part_mark way) bytes)
part_signed Went bytes = (124 ∷ [], refl)
part_signed Came bytes = (124 ∷ [], refl)

-- the line that a line feed makes of what is pending is marked by its direction
ended_line_signed : (way : Direction) (p : Unwritten) → IsSigned (sign_of way) (entry_of_line way p)
ended_line_signed way p =
    let line = take (length p.bytes.items - 1) p.bytes.items in
    let part = p.bytes.items ++ 10 ∷ [] in
    cond_both (not p.is_long && ends_in_return p.bytes.items) (entry (line_mark way) line) (entry (part_mark way) part) (IsSigned (sign_of way))
    (λ _. whole_line_signed way line) (λ _. part_signed way part)

-- the lines that one more byte gives are marked by their direction
byte_signed : (way : Direction) (p : Unwritten) (b : ℕ) → AllByRecursion (IsSigned (sign_of way)) (entries_at way p b)
byte_signed way p b =
    let part = entry (part_mark way) p.bytes.items ∷ [] in
    let is_short = takes_one_more p in
    cond_both (b == 10) (entry_of_line way p ∷ []) (cond is_short [] part) (AllByRecursion (IsSigned (sign_of way))) (λ _. (ended_line_signed way p, tt))
    (λ _. cond_both is_short [] part (AllByRecursion (IsSigned (sign_of way))) (λ _. tt) (λ _. (part_signed way p.bytes.items, tt)))

-- the lines that bytes give are marked by their direction
lines_signed : (way : Direction) (p : Unwritten) (bytes : List ℕ) → AllByRecursion (IsSigned (sign_of way)) (entries way p bytes)
lines_signed way p [] = tt
lines_signed way p (b ∷ bs) = all_append (IsSigned (sign_of way)) (entries_at way p b) (entries way (pending_at p b) bs) (byte_signed way p b) (lines_signed way (pending_at p b) bs)

-- the line that a close makes of what is pending is marked by its direction
pending_signed : (way : Direction) (bytes : List ℕ) → AllByRecursion (IsSigned (sign_of way)) (entries_of_pending way bytes)
pending_signed way [] = tt
pending_signed way (b ∷ bs) = (part_signed way (b ∷ bs), tt)

-- the law: each line is marked by its direction
pub tell_the_way : MarksTellTheWay
tell_the_way = record { lines = lines_signed; cut = pending_signed }
