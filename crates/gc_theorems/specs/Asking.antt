-- What the acts of a link mean to a station while it synchronizes, this project's own: steps of its synchronization. Such a step
-- is a null procedure that is sent, or a line that is heard. The word is the list of the ids of the null procedures that aren't
-- answered.
use Rattle.gc_theorems.specs.Common.{rest_behind, Act, Put, Cut, Gave, Closed, SyncStep, Asks, Hears, lines_completed, null_text}
use Rattle.std.specs.Prelude.{◌≡◌, ◌⊎◌, ℕ, List, [], ◌∷◌, map}

-- what bytes that are put mean to a synchronizing station: a line feed clears the receiver, and is no step; and the line of the
-- null procedure of the first id that isn't answered (no bytes if all are answered) is the step `Asks`
abbrev pub IsNullOrLineFeed : (word bytes : List ℕ) → List SyncStep → Type 0
IsNullOrLineFeed word bytes steps = ((bytes ≡ 10 ∷ []) × (steps ≡ [])) ⊎ ((bytes ≡ null_text word) × (steps ≡ Asks ∷ []))

-- what becomes of a piece that comes while a station synchronizes: it is heard line by line; or it is discarded, as if its
-- lines had been lost. `before` and `behind` are the bytes since the last line feed, before the piece and after it
abbrev pub IsHeardOrDiscarded : (before piece : List ℕ) → List SyncStep → List ℕ → Type 0
IsHeardOrDiscarded before piece steps behind = ((steps ≡ map Hears (lines_completed before piece)) × (behind ≡ rest_behind before piece)) ⊎ ((steps ≡ []) × (behind ≡ before))

-- what an act means while these ids of the word aren't answered: its steps. `before` and `behind` are the bytes since the last
-- line feed, before and after the act; a close forgets them
abbrev pub MeansSyncSteps : (word before : List ℕ) → Act → List SyncStep → List ℕ → Type 0
MeansSyncSteps word before (Put bytes) steps behind = IsNullOrLineFeed word bytes steps × (behind ≡ before)
MeansSyncSteps word before (Cut bytes count) steps behind = IsNullOrLineFeed word bytes steps × (behind ≡ before)
MeansSyncSteps word before (Gave piece m) steps behind = IsHeardOrDiscarded before piece steps behind
MeansSyncSteps word before Closed steps behind = (steps ≡ []) × (behind ≡ [])
MeansSyncSteps word before _ steps behind = (steps ≡ []) × (behind ≡ before)
