-- Whole runs of a station, this project's own: each act was the one that was to be made next, and the book has what they
-- record. An act is one call on the link, with its result. The book is what takes the texts of the records; `text` gives the text
-- of a record.
use Rattle.gc_station.specs.Common.{AllByRecursion, Appends, Task, RunFault, Output, Act, Closed, AddsActs}
use Rattle.std.specs.Prelude.{◌≡◌, ◌⊎◌, ℕ, Bool, true, List, [], ◌∷◌, ◌++◌, Option, Some, None, Result, Ok, Err}
use Rattle.gc_station.specs.Causes.{fault_of_cause}
use Rattle.gc_station.specs.declared.book.Book.{Ghosts as Book}
use Rattle.gc_station.specs.declared.plan.Plan.{Plan}
use Rattle.gc_station.specs.declared.cause.Cause.{Cause}
use Rattle.gc_station.specs.declared.progress.Action.{Action}
use Rattle.gc_station.specs.declared.progress.Action.TheVariants.{Stop}
use Rattle.gc_station.specs.declared.tally.Tally.{Tally}
use Rattle.gc_station.specs.Records.{Record, texts_of, WritesPart}
use Rattle.gc_station.specs.Model.{Model, opening, action_at, after_all, Runs}
use Rattle.gc_station.specs.Tallies.{tally_of}
use Rattle.gc_station.specs.Scopes.{Reads, Scope, scoped}

-- the model of a station after `acts`, which begin a run
abbrev pub state_after : Plan → List Task → Scope → List Act → Model
state_after plan commands scope acts = after_all plan commands (opening plan scope) acts

-- `Holds` is true of any acts, of a run or not, whatever the plan, the commands and the scope are
abbrev pub OfAnyActs : (Plan → List Task → Scope → List Act → Type 0) → Type 0
OfAnyActs Holds = (plan : Plan) (commands : List Task) (scope : Scope) (acts : List Act) → Holds plan commands scope acts

-- `Holds` is true of the acts of each run, whatever its plan, commands and scope are
abbrev pub OfEachRun : (Plan → List Task → Scope → List Act → Type 0) → Type 0
OfEachRun Holds = OfAnyActs (λ plan commands scope acts. Runs plan commands (opening plan scope) acts → Holds plan commands scope acts)

-- `Holds` is true of the acts of each run after which `action` is next
abbrev pub WhereNext : Action → (Plan → List Task → Scope → List Act → Type 0) → Type 0
WhereNext action Holds = OfEachRun (λ plan commands scope acts. action_at plan (state_after plan commands scope acts) ≡ action → Holds plan commands scope acts)

-- `Holds` is true of each act of each run, with the acts before it
abbrev pub OfEachAct : (Plan → List Task → Scope → (earlier : List Act) → Act → Type 0) → Type 0
OfEachAct Holds =
    (plan : Plan) (commands : List Task) (scope : Scope) (earlier later : List Act) (act : Act)
    → Runs plan commands (opening plan scope) (earlier ++ act ∷ later) → Holds plan commands scope earlier act

-- after each run `Holds` is true of each record, with the acts of the run
abbrev pub OfEachRecord : (Plan → List Task → Scope → List Act → Record → Type 0) → Type 0
OfEachRecord Holds = OfEachRun (λ plan commands scope acts. AllByRecursion (Holds plan commands scope acts) (state_after plan commands scope acts).records)

-- after any acts, of a run or not, `Holds` is true of each record
abbrev pub OfAnyRecord : (List Task → Scope → Record → Type 0) → Type 0
OfAnyRecord Holds = OfAnyActs (λ plan commands scope acts. AllByRecursion (Holds commands scope) (state_after plan commands scope acts).records)

-- a run of `scope`. From `told` to `told'` its link recorded acts, and from `taken` to `taken'` its book took the texts of
-- records
module _ (plan : Plan) (commands : List Task) (scope : Scope) (text : Record → List ℕ) (told told' : Option (List Act)) (taken taken' : Option (List ℕ)) where
  -- the run ended for `cause` with `tally`. The link recorded `acts`, each the one that was to be made next; after them none was.
  -- The book took the texts of the records of these acts, and `tally` counts these records
  pub record RanTo (cause : Cause) (tally : Tally) : Type 0 where
    pub acts : List Act
    pub tells : AddsActs told told' acts
    pub runs : Runs plan commands (opening plan scope) acts
    pub stops : action_at plan (state_after plan commands scope acts) ≡ Stop cause
    pub took : Appends taken taken' (texts_of text (state_after plan commands scope acts).records)
    pub counts : tally ≡ tally_of (state_after plan commands scope acts).records

  -- the book failed at a record. The link recorded `acts` and `last`, each the one that was to be made next, and after them a
  -- close. The book took the texts of all records of `acts`, and of the records that `last` adds a part
  pub record FailedAtRecord : Type 0 where
    pub acts : List Act
    pub last : Act
    pub tells : AddsActs told told' (acts ++ last ∷ (Closed ∷ []))
    pub runs : Runs plan commands (opening plan scope) (acts ++ last ∷ [])
    pub took : WritesPart text (state_after plan commands scope acts).records (state_after plan commands scope (acts ++ last ∷ [])).records taken taken'

  -- the book couldn't make its records last. The link recorded `acts`, each the one that was to be made next, and after them a
  -- close. The book took the texts of all records of these acts
  pub record FailedAtSync : Type 0 where
    pub acts : List Act
    pub tells : AddsActs told told' (acts ++ Closed ∷ [])
    pub runs : Runs plan commands (opening plan scope) acts
    pub took : Appends taken taken' (texts_of text (state_after plan commands scope acts).records)

  -- the book failed: at a record (`FailedAtRecord`), or when its records were to be made durable (`FailedAtSync`)
  abbrev pub BookFailed : Type 0
  BookFailed = FailedAtRecord ⊎ FailedAtSync

  -- the run with this result: it ended for the cause of the result, with its tally (`Ok`); or the book failed (`Err`)
  abbrev pub EndsAs : {E : Type 0} → Result (Cause × Tally) E → Type 0
  EndsAs (Ok end) = RanTo end.0 end.1
  EndsAs (Err _) = BookFailed

  -- the run with this result. `Ok`: it ended for a cause without a fault, because it is done or its end was asked for. `Err
  -- Output`: the book failed. Any other fault: it ended for a cause with that fault
  abbrev pub Ran : Result Tally RunFault → Type 0
  Ran (Ok tally) = (cause : Cause) × RanTo cause tally × (fault_of_cause cause ≡ None)
  Ran (Err Output) = BookFailed
  Ran (Err fault) = (cause : Cause) × (tally : Tally) × RanTo cause tally × (fault_of_cause cause ≡ Some fault)

-- what contracts see of the link and the book of a run at a moment
pub record RunSeen : Type 0 where
  -- the acts that the link has recorded, if they are known
  pub acts : Option (List Act)
  -- the bytes of a record, as the book writes them
  pub text : Record → List ℕ
  -- the bytes that the book has taken, if they are known
  pub taken : Option (List ℕ)

-- what is seen of a link that has recorded these acts, and of this book, by the ghost members of its trait
abbrev pub run_seen : {B : Type 0} → Option (List Act) → Book B → B → RunSeen
run_seen acts of_book book = record { acts = acts; text = of_book.text book; taken = of_book.taken book }

-- a run with this many turns, in which the commands with the places `watched` are watched, and of which `old` is seen before it and `new`
-- after it
module _ (plan : Plan) (commands : List Task) (turns : ℕ) (watched : List ℕ) (old new : RunSeen) where
  -- the run with this result ended as `EndsAs` says, if each reply says of its call what `reads` gives
  abbrev pub EndsBy : {E : Type 0} → Result (Cause × Tally) E → Reads → Type 0
  EndsBy result reads = EndsAs plan commands (scoped turns watched reads) old.text old.acts new.acts old.taken new.taken result

  -- the run with this result is as `Ran` says, if each reply says of its call what `reads` gives
  abbrev pub RanBy : Result Tally RunFault → Reads → Type 0
  RanBy result reads = Ran plan commands (scoped turns watched reads) old.text old.acts new.acts old.taken new.taken result

-- after a run with the fault `Output` its book has failed (`new`); after any other run the book has failed exactly if it had
-- before (`old`)
abbrev pub FailsAtOutput : {X : Type 0} → (old new : Bool) → Result X RunFault → Type 0
FailsAtOutput old new (Ok _) = new ≡ old
FailsAtOutput old new (Err Output) = new ≡ true
FailsAtOutput old new (Err fault) = new ≡ old

-- after a run with this result all records are durable (`is_durable`); nothing is said if the book failed (`Output`)
abbrev pub LastUnlessFailed : {X : Type 0} → (is_durable : Bool) → Result X RunFault → Type 0
LastUnlessFailed is_durable (Ok _) = is_durable ≡ true
LastUnlessFailed is_durable (Err Output) = Unit {0}
LastUnlessFailed is_durable (Err fault) = is_durable ≡ true
