-- What lasts while a run goes on, this project's own: at each act of the link all that the acts before it settled is in the
-- book; and it lasts before anything is sent, read, opened or closed. An act is one call on the link, with its result. The book is
-- what takes the texts of the records; `text` gives the text of a record.
use Rattle.gc_station.specs.Common.{Appends, Task, RunFault, Output, Act, Closed, AddsActs, acts_code}
use Rattle.std.specs.Prelude.{◌≡◌, ℕ, Bool, true, false, List, [], ◌∷◌, ◌++◌, Option, Result, Ok, Err, refl}
use Rattle.std.specs.Coded.{Coded, code_by, coded×, coded_ℕ, coded_bool, coded_list, coded_option}
use Rattle.gc_station.specs.declared.plan.Plan.{Plan}
use Rattle.gc_station.specs.declared.progress.Action.{Action}
use Rattle.gc_station.specs.declared.progress.Action.TheVariants.{ReadClock, Renew, Begin, Skip, Pass}
use Rattle.gc_station.specs.ActKinds.{ReadsClock}
use Rattle.gc_station.specs.Records.{Record, texts_of}
use Rattle.gc_station.specs.Model.{opening, Runs}
use Rattle.gc_station.specs.Runs.{RunSeen, state_after}
use Rattle.gc_station.specs.Scopes.{Reads, Scope, scoped}

-- what contracts see of a link and a book just before an act of a run; each act is a turn of the run
pub record Snapshot : Type 0 where
  -- the acts that the link has recorded, if they are known
  pub acts : Option (List Act)
  -- the bytes that the book has taken, if they are known
  pub taken : Option (List ℕ)
  -- whether these bytes are durable, as far as the book is meant to make them so; a book that isn't meant to always says `true`
  pub lasts : Bool

-- the action only reads the clock: it sends nothing, reads nothing from the instrument, and opens and closes no connection
abbrev pub reads_clock_alone : Action → Bool
reads_clock_alone ReadClock = true
reads_clock_alone Renew = true
reads_clock_alone Begin = true
reads_clock_alone Skip = true
reads_clock_alone Pass = true
reads_clock_alone _ = false

-- a run of `scope`. Before it the link had recorded `told`, and the book had taken `taken`
module _ (plan : Plan) (commands : List Task) (scope : Scope) (text : Record → List ℕ) (told : Option (List Act)) (taken : Option (List ℕ)) where
  -- before `act`, the act of this turn, the link had recorded `acts` after those of `told`, and the book had taken, after
  -- `taken`, the texts of all records that these acts settled. They were durable, unless `act` is a mere reading of the clock
  pub record IsKept (acts : List Act) (act : Act) (turn : Snapshot) : Type 0 where
    pub tells : AddsActs told turn.acts acts
    pub took : Appends taken turn.taken (texts_of text (state_after plan commands scope acts).records)
    pub lasts : (ReadsClock act → ⊥) → turn.lasts ≡ true

  -- the acts `acts`, which follow those of `done`, have these turns, one for one and in order: each turn is of the moment before
  -- its act, and `IsKept` says that what the acts before that moment settled was in the book, and durable if more than the clock
  -- was to be read
  abbrev pub AreKept : (done acts : List Act) → List Snapshot → Type 0
  AreKept done [] [] = Unit {0}
  AreKept done [] (turn ∷ turns) = ⊥
  AreKept done (act ∷ acts) [] = ⊥
  AreKept done (act ∷ acts) (turn ∷ turns) = IsKept done act turn × AreKept (done ++ act ∷ []) acts turns

-- a run of `scope`. From `told` to `told'` the link recorded acts, and before them the book had taken `taken`. The list of turns
-- was `seen` before the run, and is `seen'` after it
module _ (plan : Plan) (commands : List Task) (scope : Scope) (text : Record → List ℕ) (told told' : Option (List Act)) (taken : Option (List ℕ))
    (seen seen' : List Snapshot) where
  -- the link recorded the acts of a run (`acts`), each the one that was to be made next, and after them `others`. Before each of
  -- `acts` one turn was added to the list of turns; and at that turn all that the acts before it settled was in the book, and
  -- durable unless the act is a mere reading of the clock (`AreKept`)
  pub record KeepsUp (others : List Act) : Type 0 where
    pub acts : List Act
    pub tells : AddsActs told told' (acts ++ others)
    pub runs : Runs plan commands (opening plan scope) acts
    pub turns : List Snapshot
    pub saw : seen' ≡ seen ++ turns
    pub kept : AreKept plan commands scope text told taken [] acts turns

-- a run with this many turns, in which the commands with the places `watched` are watched, and of which `old` is seen before it and `new`
-- after it, with a list of turns as above
module _ (plan : Plan) (commands : List Task) (turns : ℕ) (watched : List ℕ) (old new : RunSeen) (seen seen' : List Snapshot) where
  -- `KeepsUp` of the run, if each reply says of its call what `reads` gives
  abbrev pub KeepsUpBy : (others : List Act) → Reads → Type 0
  KeepsUpBy others reads = KeepsUp plan commands (scoped turns watched reads) old.text old.acts new.acts old.taken seen seen' others

-- the acts of a link after a run with this result: a close if the book failed (`Err`); otherwise none
abbrev pub close_if_failed : {X E : Type 0} → Result X E → List Act
close_if_failed (Ok _) = []
close_if_failed (Err _) = Closed ∷ []

-- the acts of a link after a run with this result: a close if the fault is `Output`, which means that the book failed;
-- otherwise none
abbrev pub close_at_output : {X : Type 0} → Result X RunFault → List Act
close_at_output (Ok _) = []
close_at_output (Err Output) = Closed ∷ []
close_at_output (Err fault) = []

-- How the logic stores what was seen.

-- nested pairs, as which a snapshot is stored in ghost state
abbrev Pairs : Type 0
Pairs = Option (List Act) × (Option (List ℕ) × Bool)

-- a snapshot as nested pairs
abbrev to_pairs : Snapshot → Pairs
to_pairs turn = (turn.acts, (turn.taken, turn.lasts))

-- the snapshot that nested pairs are of
abbrev from_pairs : Pairs → Snapshot
from_pairs p = record { acts = p.0; taken = p.1.0; lasts = p.1.1 }

-- a snapshot that is turned into pairs and back is itself
pub from_pairs-to_pairs : (turn : Snapshot) → from_pairs (to_pairs turn) ≡ turn
from_pairs-to_pairs turn = refl

-- how a list of snapshots is stored in ghost state
abbrev pub snapshots_code : Coded (List Snapshot)
snapshots_code = coded_list (code_by Pairs (coded× (coded_option acts_code) (coded× (coded_option (coded_list coded_ℕ)) coded_bool)) to_pairs from_pairs from_pairs-to_pairs)
