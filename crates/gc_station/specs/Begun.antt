-- When a part of a run has synchronized, this project's own: the lines that it heard answer all of its synchronization. A part
-- reaches from one synchronization of the station to the next (`Parts`).
use Rattle.gc_station.specs.Common.{the_word}
use Rattle.std.specs.Prelude.{◌≡◌, ◌⊎◌, ℕ, List, [], ◌∷◌}
use Rattle.gc_station.specs.Beginnings.{unanswered_after}
use Rattle.gc_station.specs.Parts.{Part, SyncStep, Asks, Hears}

-- the lines that are heard in these steps of a synchronization, in order
abbrev pub heard_in : List SyncStep → List (List ℕ)
heard_in [] = []
heard_in (Asks ∷ others) = heard_in others
heard_in (Hears line ∷ others) = line ∷ heard_in others

-- each part but the last has synchronized: its lines answered the null procedures of its synchronization, of which the first
-- part has those with the ids `word`, and each other part all eight. The last part has no step of the client, or has
-- synchronized as well
abbrev pub AreBegun : List ℕ → List Part → Type 0
AreBegun word [] = Unit {0}
AreBegun word (p ∷ []) = (p.steps ≡ []) ⊎ (unanswered_after word (heard_in p.sync_steps) ≡ [])
AreBegun word (p ∷ q ∷ ps) = (unanswered_after word (heard_in p.sync_steps) ≡ []) × AreBegun the_word (q ∷ ps)
