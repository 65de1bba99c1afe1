-- The counters of a text, this project's own: a counter is a line with an item `>`, and is counted in the order of the text from 0. Of
-- each the number is kept that the answer had under this item which was recorded last in the run. The next answer to that line is to have
-- a greater one there.
use Rattle.gc_station.specs.Common.{Decimal, Settlement, Asked, End, line_of, count_in, Expected}
use Rattle.std.specs.Prelude.{ℕ, List, [], ◌∷◌, fold, Option, Some, None, get_or, if◌then◌else◌, nat_lt, slice_set}
use Rattle.gc_texts.specs.declared.expectation.Expectation.{Expectation}
use Rattle.gc_texts.specs.declared.expectation.TheConstants.{COUNTERS}
use Rattle.gc_station.specs.Marks.{end_of, with_marks}
use Rattle.gc_station.specs.Scopes.{Reads}
use Rattle.gc_station.specs.declared.mark.Mark.{Mark}

-- the counts before any answer was recorded: one place for each counter, without a number
abbrev pub no_counts : List (Option Decimal)
no_counts =
    None ∷ None ∷ None ∷ None ∷ None ∷ None ∷ None ∷ None ∷ None ∷ None ∷ None ∷ None ∷ None ∷ None ∷ None ∷ None ∷ []

-- the number that is kept of a counter; `None`: there is no counter, or no answer had a number
abbrev pub count_at : (counts : List (Option Decimal)) → (counter : Option ℕ) → Option Decimal
count_at counts None = None
count_at counts (Some k) = get_or counts k None

-- `mark` of a command that is sent, with the number that is kept of its counter
abbrev pub with_before : (counts : List (Option Decimal)) → Mark → Mark
with_before counts mark = record mark { expected = record mark.expected { before = count_at counts mark.expected.counter } }

-- the counts with `found`, the number that an answer has, in the place of its counter; as they were if it has none, or no counter
abbrev pub with_count : (found : Option Decimal) → (counter : Option ℕ) → (counts : List (Option Decimal)) → List (Option Decimal)
with_count None counter counts = counts
with_count (Some number) None counts = counts
with_count (Some number) (Some k) counts = if nat_lt k COUNTERS then slice_set counts k (Some number) else counts

-- the number under the item `>` in the line of a reply, if a reply came in time
abbrev pub count_found : Option Expectation → (line : Option (List ℕ)) → Option Decimal
count_found expects None = None
count_found expects (Some line) = count_in expects line

-- the counts once a command of which this is expected was recorded with this ending: with the number that its line has under the item
-- `>`, whether the answer is as expected or not
abbrev pub count_noted : Expected → End → (counts : List (Option Decimal)) → List (Option Decimal)
count_noted expected end counts = with_count (count_found expected.expects (line_of end)) expected.counter counts

-- the counts once this settlement of the request with `mark` is recorded
abbrev pub counts_after_settlement : Reads → (counts : List (Option Decimal)) → Mark → Settlement Asked → List (Option Decimal)
counts_after_settlement reads counts mark x = count_noted mark.expected (end_of reads mark.expected x.call x.outcome) counts

-- the counts once these settlements are recorded, by the marks of all outstanding requests (`with_marks`)
abbrev pub counts_after_settlements : Reads → (counts : List (Option Decimal)) → List (Option Mark) → List (Settlement Asked) → List (Option Decimal)
counts_after_settlements reads counts marks settlements =
    fold (λ (so : List (Option Decimal)) (x : Mark × Settlement Asked). counts_after_settlement reads so x.0 x.1) counts (with_marks marks settlements)
