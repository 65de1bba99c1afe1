-- A synchronization ends with a null procedure of the client, this project's own. Of the null procedures of the synchronization a
-- reply may still be on its way, or may be kept by the instrument, and come once more; it has the id of one of the client's first
-- requests. So the first of these is a null procedure, which is alone on the line, and no command is sent before a reply has ended
-- one. A part reaches from one synchronization to the next (`Parts`).
use Rattle.gc_station.specs.Common.{Asked, Table, NullProc, Course, Step, Send, Wanted, begun, course, Settlement, Lost, deadlines, WINDOW}
use Rattle.std.specs.Prelude.{◌≡◌, ◌⊎◌, ℕ, List, [], ◌∷◌, ◌++◌, length, Option, Some, None, slice_get}
use Rattle.gc_station.specs.declared.mark.Mark.{Mark}
use Rattle.gc_station.specs.Links.{parts}
use Rattle.gc_station.specs.Parts.{Part}
use Rattle.gc_station.specs.Runs.{OfEachRun}

-- what a null procedure of the station's own asks: it is for no target
abbrev pub null_asked : Wanted Asked
null_asked = record { target = 0; call = Table NullProc }

-- of the requests that a client sent since its synchronization, one is a null procedure that a reply ended: request `k`, with its
-- settlement `s`, which is answered or late
abbrev pub HasEndedANull : Course Asked → Type 0
HasEndedANull x = (k : ℕ) × (s : Settlement Asked) × (slice_get x.settlements k ≡ Some s) × (s.call ≡ Table NullProc) × (s.outcome ≡ Lost → ⊥)

-- of the requests that a client sent since its synchronization none is settled, and all have timed out
abbrev pub HasAllUnanswered : Course Asked → Type 0
HasAllUnanswered x = (x.settlements ≡ []) × (deadlines x.client.waiting ≡ [])

-- in this part of a run the client begins with a null procedure, and sends no command before a reply has ended one
pub record BeginsWithANull (part : Part) : Type 0 where
  -- the first request is a null procedure of the station's own, which has no mark
  pub first : (asked : Wanted Asked) (mark : Option Mark) → slice_get (course WINDOW begun part.steps).sent 0 ≡ Some asked → slice_get part.marks 0 ≡ Some mark
      → (asked ≡ null_asked) × (mark ≡ None)
  -- wherever a command is sent, a reply has ended a null procedure. `front` are the client's steps before the command
  pub ended : (front later : List (Step Asked)) (target : ℕ) (call : Asked) (deadline : ℕ) (mark : Mark) → part.steps ≡ front ++ Send target call deadline ∷ later
      → slice_get part.marks (length (course WINDOW begun front).sent) ≡ Some (Some mark) → HasEndedANull (course WINDOW begun front)
  -- wherever a request is sent, a reply has ended a null procedure, or all requests before it have timed out without a reply: so each
  -- null procedure is alone on the line until a reply has ended one
  pub alone : (front later : List (Step Asked)) (target : ℕ) (call : Asked) (deadline : ℕ) (mark : Option Mark) → part.steps ≡ front ++ Send target call deadline ∷ later
      → slice_get part.marks (length (course WINDOW begun front).sent) ≡ Some mark → HasEndedANull (course WINDOW begun front) ⊎ HasAllUnanswered (course WINDOW begun front)

-- each part of a run begins with a null procedure (`BeginsWithANull`)
abbrev pub SynchronizationsEndWithANull : Type 0
SynchronizationsEndWithANull =
    OfEachRun (λ plan commands scope acts. (i : ℕ) (part : Part) → slice_get (parts plan commands scope acts) i ≡ Some part → BeginsWithANull part)
