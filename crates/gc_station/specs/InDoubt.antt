-- In doubt, this project's own. A stray that can't repeat the reply that settled last raises a doubt (`raises_doubt`): it was altered, or
-- the line that settled last was, and then replies to requests that it ended may still come, with ids that a later request could have. A
-- line with a sign-on in it shows that the instrument was switched on or off. After either (`calls_for_renewal`) nothing is sent before the
-- station has synchronized anew. A part reaches from one synchronization to the next (`Parts`).
use Rattle.gc_station.specs.Common.{Asked, Step, Send, Hear, fresh, calls_for_renewal, client_after}
use Rattle.std.specs.Prelude.{◌≡◌, ℕ, false, List, ◌∷◌, ◌++◌, Some, slice_get}
use Rattle.gc_station.specs.Links.{parts}
use Rattle.gc_station.specs.Parts.{Part}
use Rattle.gc_station.specs.Runs.{OfEachRun}

-- no line of this part of a run calls for a synchronization after which a request is sent, be it a null procedure of the station's own. `front` are the
-- client's steps before the line
abbrev pub SendsNothingInDoubt : Part → Type 0
SendsNothingInDoubt part =
    (front between later : List (Step Asked)) (line : List ℕ) (target : ℕ) (call : Asked) (deadline : ℕ)
    → part.steps ≡ front ++ Hear line ∷ (between ++ Send target call deadline ∷ later) → calls_for_renewal (client_after fresh front) line ≡ false

-- in each part of a run nothing is sent in doubt (`SendsNothingInDoubt`)
abbrev pub NothingIsSentInDoubt : Type 0
NothingIsSentInDoubt =
    OfEachRun (λ plan commands scope acts. (i : ℕ) (part : Part) → slice_get (parts plan commands scope acts) i ≡ Some part → SendsNothingInDoubt part)
