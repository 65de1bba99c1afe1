-- What happens on a line that keeps order, this project's own: requests go up to an instrument, and replies down from it, each
-- the line without its CR LF. Each line arrives whole or not at all, and after those that were sent before it; one that comes
-- twice comes the second time directly after the first.
use Rattle.std.specs.Prelude.{◌≡◌, ◌⊎◌, ℕ, ◌≤◌, List, [], ◌∷◌, ◌++◌, length, Option, Some, None}
use Rattle.gc_lines.specs.Prelude.{IsPlain, with_end}
use Rattle.gc_links.specs.Prelude.{Act, Put, Gave}
use Rattle.gc_scenes.specs.Prelude.{IsPlayed, SceneState, scene_restarted, at_moment}

-- the lines in flight up and down, the one that was sent first in front, and the instrument
pub record Lines : Type 0 where
  pub up : List (List ℕ)
  pub down : List (List ℕ)
  pub state : SceneState

-- one event on a line
pub data Happening : Type 0 where
  -- a call of the link, with its result
  Acts : (act : Act) → Happening
  -- the request in front is handed to the instrument; its reply, if there is one, is sent or lost
  Reaches : Happening
  -- the instrument restarts
  Restarts : Happening
  -- the instrument's clock is set to this moment
  Passes : (moment : ℕ) → Happening
  -- the request (`Repeats_up`) or the reply (`Repeats_down`) that was sent last comes twice
  Repeats_up : Happening
  Repeats_down : Happening
  -- all requests in flight (`Loses_up`), or all replies in flight (`Loses_down`), are lost
  Loses_up : Happening
  Loses_down : Happening
  -- the reply in front is lost
  Loses_front : Happening

-- a write of these bytes leads from the lines `l` to the lines `m`: nothing of them arrives, or they are a line with its CR LF,
-- which is sent up
abbrev pub PutLeads : (l : Lines) → (bytes : List ℕ) → (m : Lines) → Type 0
PutLeads l bytes m = (m ≡ l) ⊎ ((line : List ℕ) × (bytes ≡ with_end line) × (m ≡ record l { up = l.up ++ line ∷ [] }))

-- the lines `m` are the lines `l` without the reply in front, which is this line
pub record TakesReply (l : Lines) (line : List ℕ) (m : Lines) : Type 0 where
  pub front : l.down ≡ line ∷ m.down
  pub others : m ≡ record l { down = m.down }

-- a read of these bytes leads from the lines `l` to the lines `m`: they are the reply in front, whole, with its CR LF
abbrev pub GiveLeads : (l : Lines) → (bytes : List ℕ) → (m : Lines) → Type 0
GiveLeads l bytes m = (line : List ℕ) × (bytes ≡ with_end line) × TakesReply l line m

-- an act of the link leads from the lines `l` to the lines `m`: a whole write by `PutLeads`, a read of bytes by `GiveLeads`, and
-- any other act changes nothing
abbrev pub ActLeads : (l : Lines) → Act → (m : Lines) → Type 0
ActLeads l (Put bytes) m = PutLeads l bytes m
ActLeads l (Gave bytes moment) m = GiveLeads l bytes m
ActLeads l other m = m ≡ l

-- an act that changes nothing on the line: neither a whole write nor a read of bytes
abbrev pub CarriesNothing : Act → Type 0
CarriesNothing (Put bytes) = ⊥
CarriesNothing (Gave bytes moment) = ⊥
CarriesNothing other = Unit {0}

-- these bytes are one line, without CR LF: plain bytes, at most 512
abbrev pub IsOneLine : List ℕ → Type 0
IsOneLine line = IsPlain line × (length line ≤ 512)

-- the reply that an instrument made, if it made one, was sent or lost: the replies in flight were `down`, and are `new`, as
-- before, or with the reply at the back, if it is one line
abbrev pub IsSentOrLost : (down : List (List ℕ)) → Option (List ℕ) → (new : List (List ℕ)) → Type 0
IsSentOrLost down None new = new ≡ down
IsSentOrLost down (Some line) new = (new ≡ down) ⊎ (IsOneLine line × (new ≡ down ++ line ∷ []))

-- the instrument played this request (`IsPlayed`); its reply, if it made one, was sent or lost
pub record HasPlayed (line : List ℕ) (l m : Lines) : Type 0 where
  pub reply : Option (List ℕ)
  pub played : IsPlayed l.state line m.state reply
  pub sends : IsSentOrLost l.down reply m.down

-- the request in front reached the instrument, which played it (`HasPlayed`)
pub record HasReached (l m : Lines) : Type 0 where
  pub line : List ℕ
  pub front : l.up ≡ line ∷ m.up
  pub plays : HasPlayed line l m

-- `new` are the same lines, with the last one twice
abbrev pub IsRepeated : (lines new : List (List ℕ)) → Type 0
IsRepeated lines new = (front : List (List ℕ)) × (line : List ℕ) × (lines ≡ front ++ line ∷ []) × (new ≡ lines ++ line ∷ [])

-- an event leads from the lines `l` to the lines `m`
abbrev pub Leads : (l : Lines) → Happening → (m : Lines) → Type 0
Leads l (Acts act) m = ActLeads l act m
Leads l Reaches m = HasReached l m
Leads l Restarts m = m ≡ record l { state = scene_restarted l.state }
Leads l (Passes moment) m = m ≡ record l { state = at_moment moment l.state }
Leads l Repeats_up m = (up : List (List ℕ)) × IsRepeated l.up up × (m ≡ record l { up = up })
Leads l Repeats_down m = (down : List (List ℕ)) × IsRepeated l.down down × (m ≡ record l { down = down })
Leads l Loses_up m = m ≡ record l { up = [] }
Leads l Loses_down m = m ≡ record l { down = [] }
Leads l Loses_front m = (line : List ℕ) × TakesReply l line m

-- these events, in order, lead from the first lines to the last
abbrev pub LeadAll : (l : Lines) → List Happening → (m : Lines) → Type 0
LeadAll l [] m = m ≡ l
LeadAll l (h ∷ hs) m = (n : Lines) × Leads l h n × LeadAll n hs m

-- the acts of the link among these events
abbrev pub acts_of : List Happening → List Act
acts_of [] = []
acts_of (Acts act ∷ hs) = act ∷ acts_of hs
acts_of (other ∷ hs) = acts_of hs

-- these acts are those of a line that keeps order, on which nothing was in flight at first, and whose instrument stored no reply
-- then; it has now come to these lines
pub record HasComeTo (acts : List Act) (lines : Lines) : Type 0 where
  pub start : SceneState
  pub happened : List Happening
  pub none : start.base.kept ≡ None
  pub acts_are : acts_of happened ≡ acts
  pub leads : LeadAll (record { up = []; down = []; state = start }) happened lines

-- these acts are those of a line that keeps order, whatever lines it has now come to (`HasComeTo`)
abbrev pub IsOfLine : List Act → Type 0
IsOfLine acts = (lines : Lines) × HasComeTo acts lines
