-- What `geocom` had done when it ended, by the words of its command line: this project's own. `begun` is what is known of its standard
-- streams at the start.
use Rattle.gc_console.specs.Common.{Appends, bytes_eq, Refuses, at_line, date_line, place_line, range_line, refusal_line, stale_line, unit_line, Standard, limit_refusal, fault_line, run_fault_text, Memory, Output}
use Rattle.std.specs.Prelude.{◌≡◌, ◌≤◌, ◌||◌, ℕ, ◌⊎◌, Bool, true, List, Option, Some, Result, Ok, Err, codes}
use Rattle.std.specs.declared.io.ErrorKind.{ErrorKind}
use Rattle.std.specs.declared.io.ErrorKind.TheVariants.{OutOfMemory}
use Rattle.std.specs.List.{list_any}
use Rattle.clap.specs.Takes.{takes}
use Rattle.gc_console.specs.Program.{IsJobOfWords, program}
use Rattle.gc_console.specs.declared.words.Job.{Job}
use Rattle.gc_console.specs.Stations.{DoesOver, HasNoRun, Seeing}
use Rattle.gc_console.specs.Subcommands.{DoesCheck, DoesDrill, DoesExec, DoesServe, EndsFrom, Opening}
use Rattle.gc_console.specs.declared.traces.Traces.{Traces}
use Rattle.gc_console.specs.declared.words.Job.TheVariants as asked

-- a job was refused: the status is 2, and exactly this line was written on the messages
abbrev pub RefusesJob : (line : List ℕ) → (begun : Opening) → Traces → (status : ℕ) → Type 0
RefusesJob line begun traces status = Refuses line status begun.told (Some traces.said.bytes)

-- what a job without a client did. Of a rehearsal nothing but a bound of its status is said here (`run_nights` of gc_rehearsal says more). Where
-- words name no place, no unit, a limit or a number that can't be, or a file with a percent sign that begins no part of a date, the job is refused
abbrev pub DoesWithoutClient : Standard → (begun : Opening) → Job → Traces → (status : ℕ) → Type 0
DoesWithoutClient standard begun (asked.Exec scene) traces status = EndsFrom (DoesExec scene) begun traces status
DoesWithoutClient standard begun (asked.Check log) traces status = EndsFrom (DoesCheck log) begun traces status
DoesWithoutClient standard begun (asked.Drill drilling) traces status = EndsFrom (DoesDrill drilling) begun traces status
DoesWithoutClient standard begun (asked.Serve serving) traces status = DoesServe standard serving begun.told (Some traces.said.bytes) status
DoesWithoutClient standard begun (asked.Rehearse rehearsal) traces status = status ≤ 1
DoesWithoutClient standard begun (asked.Nowhere serves) traces status = RefusesJob (place_line serves) begun traces status
DoesWithoutClient standard begun (asked.BadLimit limit) traces status = RefusesJob (refusal_line (limit_refusal limit)) begun traces status
DoesWithoutClient standard begun asked.NumberMissing traces status = RefusesJob range_line begun traces status
DoesWithoutClient standard begun asked.NoUnit traces status = RefusesJob unit_line begun traces status
DoesWithoutClient standard begun asked.StaleTooSoon traces status = RefusesJob stale_line begun traces status
DoesWithoutClient standard begun asked.AtWithoutMultiple traces status = RefusesJob at_line begun traces status
DoesWithoutClient standard begun asked.NoDate traces status = RefusesJob date_line begun traces status
DoesWithoutClient standard begun (asked.Client job) traces status = ⊥

-- the job that the words asked for was done: a client's as `DoesOver` says, and any other as `DoesWithoutClient` says, and then no station
-- ran
abbrev pub DoesAsked : {S T F K E M : Type 0} → Seeing S T F K M → (shown : E → Option (List ℕ)) → Standard → (begun : Opening) → Job → Traces → (status : ℕ) → Type 0
DoesAsked seeing shown standard begun (asked.Client job) traces status = DoesOver seeing shown standard begun job traces status
DoesAsked seeing shown standard begun job traces status = DoesWithoutClient standard begun job traces status × HasNoRun traces.acted

-- what was done for these words, the first of which is the program's name: they ask for a job (`IsJobOfWords`), and that was done
-- (`DoesAsked`)
pub record DoesJobOf {S T F K E M : Type 0} (seeing : Seeing S T F K M) (shown : E → Option (List ℕ)) (standard : Standard) (begun : Opening)
    (words : List (List ℕ)) (traces : Traces) (status : ℕ) : Type 0 where
  pub job : Job
  pub asked : IsJobOfWords words job
  pub does : DoesAsked seeing shown standard begun job traces status

-- this word asks for the help or the version
abbrev pub asks_for_text : List ℕ → Bool
asks_for_text word =
    bytes_eq word (codes "--help") || (bytes_eq word (codes "-h") || (bytes_eq word (codes "--version") || bytes_eq word (codes "-V")))

-- memory ran out, which was reported as any fault: with status 1 and its line. `old` and `new` are the messages before and after
abbrev pub LacksMemory : (status : ℕ) → (old new : Option (List ℕ)) → Type 0
LacksMemory status old new = (status ≡ 1) × Appends old new (fault_line (run_fault_text Memory))

-- the help or the version was written, with status 0 and no message; or the output failed, with status 1 and the line of that fault
abbrev pub ShowsText : (status : ℕ) → (old new : Option (List ℕ)) → Type 0
ShowsText status old new = ((status ≡ 0) × (new ≡ old)) ⊎ ((status ≡ 1) × Appends old new (fault_line (run_fault_text Output)))

-- words for which no job was done were answered: with the help or the version, only if one of them asks for it (`asks`); or memory ran
-- out; or with status 2. What the messages have then of the words, isn't said
pub record IsAnswered (asks : Bool) (status : ℕ) (old new : Option (List ℕ)) : Type 0 where
  pub is : ((asks ≡ true) × ShowsText status old new) ⊎ (LacksMemory status old new ⊎ (status ≡ 2))

-- no job was done for these words, which were answered (`IsAnswered`), and no station ran. Words that the command line takes (`takes`)
-- were answered by the report that memory ran out (`LacksMemory`)
pub record HasNoJob (begun : Opening) (words : List (List ℕ)) (traces : Traces) (status : ℕ) : Type 0 where
  pub answers : IsAnswered (list_any asks_for_text words) status begun.told (Some traces.said.bytes)
  pub taken : takes program words ≡ true → LacksMemory status begun.told (Some traces.said.bytes)
  pub none : HasNoRun traces.acted

-- words were answered: the job that they ask for was done (`DoesJobOf`); or no job was done (`HasNoJob`)
abbrev pub DoesWords : {S T F K E M : Type 0} → Seeing S T F K M → (shown : E → Option (List ℕ)) → Standard → (begun : Opening) → (words : List (List ℕ)) → Traces → (status : ℕ) → Type 0
DoesWords seeing shown standard begun words traces status =
    DoesJobOf seeing shown standard begun words traces status ⊎ HasNoJob begun words traces status

-- these words were read (`all`): the reading of `words` succeeded, and `items_of` gives the words of its value
pub record AreReadFrom {A W X : Type 0} (items_of : A → List W) (words : Result A X) (all : List W) : Type 0 where
  pub args : A
  pub is : words ≡ Ok args
  pub are : all ≡ items_of args

-- why no words are there to go by: the error of their reading; or, if they were read, an error of want of memory, which ran out as
-- they were put together
abbrev pub IsUnread : {A X : Type 0} → (kind : X → ErrorKind) → (words : Result A X) → (error : X) → Type 0
IsUnread kind (Ok args) error = kind error ≡ OutOfMemory
IsUnread kind (Err why) error = error ≡ why

-- the line that says that a word isn't UTF-8
abbrev pub unread_line : List ℕ
unread_line = refusal_line (codes "a word of the command line is no text")

-- words couldn't be read, for an error of this kind, which was reported: want of memory with status 1, as any fault, and every other error
-- with status 2, by the line that a word is no text
abbrev pub RefusesUnread : (kind : ErrorKind) → (status : ℕ) → (old new : Option (List ℕ)) → Type 0
RefusesUnread kind status old new = ((kind ≡ OutOfMemory) × LacksMemory status old new) ⊎ ((kind ≡ OutOfMemory → ⊥) × Refuses unread_line status old new)

-- the words couldn't be read (`IsUnread`), which was reported (`RefusesUnread`), and no station ran
pub record ReadsNoWords {A X : Type 0} (kind : X → ErrorKind) (begun : Opening) (words : Result A X) (traces : Traces) (status : ℕ) : Type 0 where
  pub error : X
  pub unread : IsUnread kind words error
  pub refuses : RefusesUnread (kind error) status begun.told (Some traces.said.bytes)
  pub none : HasNoRun traces.acted

-- what the program did by the words of its command line (`DoesWords`), of which `texts` gives the texts; or these couldn't be read
-- (`ReadsNoWords`), where `kind` gives the kind of an error
pub record DoesProgram {S T F K E M A X : Type 0} (seeing : Seeing S T F K M) (shown : E → Option (List ℕ)) (standard : Standard) (begun : Opening)
    (texts : A → List (List ℕ)) (kind : X → ErrorKind) (words : Result A X) (traces : Traces) (status : ℕ) : Type 0 where
  pub is : ((args : A) × (words ≡ Ok args) × DoesWords seeing shown standard begun (texts args) traces status) ⊎ ReadsNoWords kind begun words traces status
