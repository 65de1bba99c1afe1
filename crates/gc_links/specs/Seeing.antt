-- What becomes of the acts of a link in one over it that looks for the files by which somebody asks for the run's end and for a cycle, and
-- reads files with values: this project's own.
use Rattle.std.specs.Prelude.{◌≡◌, ◌⊎◌, ℕ, ◌-◌, Bool, false, ◌||◌, List, [], ◌∷◌, ◌++◌, length, replicate, Option, Some, None, option_map}
use Rattle.std.specs.Borrow.{Bor}
use Rattle.gc_values.specs.Prelude.{IsValueIn, no_value, path_of}
use Rattle.gc_values.specs.declared.file_value.TheConstants.{FILE_VALUES}
use Rattle.gc_values.specs.declared.file_value.ValueFile.{ValueFile}
use Rattle.gc_links.specs.Acts.{Act, Told, Gave, Silent}
use Rattle.gc_links.specs.Calls.{Call, Looked, Kept, NotKept}
use Rattle.gc_links.specs.declared.link.Moment.{Moment}
use Rattle.gc_links.specs.declared.signals.Signals.{Signals}

-- the path at which a file is looked for, if there is one
abbrev pub path_at : Option (Bor (List ℕ)) → Option (List ℕ)
path_at until = option_map (λ path. path.now) until

-- the paths of the files by which somebody asks for something while a run goes on: for its end once the file at `until` is there, and for a
-- cycle each time that the file at `now` is changed
pub record SignalsSeen : Type 0 where
  pub until : Option (List ℕ)
  pub now : Option (List ℕ)

-- the paths of these signals
abbrev pub signals_at : Signals → SignalsSeen
signals_at signals = record { until = path_at signals.until; now = path_at signals.now }

-- `looks` are the looks for the file at `until` at one moment, which found it or not (`here`): one look; or none, and nothing
-- found, without a path
abbrev pub IsLook : (until : Option (List ℕ)) → (looks : List Call) → (here : Bool) → Type 0
IsLook (Some path) looks here = looks ≡ Looked path here ∷ []
IsLook None looks here = (looks ≡ []) × (here ≡ false)

-- this call read the file at this path, and `touched` is when that was changed last, in milliseconds since 1970; 0 if it couldn't be read
abbrev pub IsTouchBy : (path : List ℕ) (read : Call) (touched : ℕ) → Type 0
IsTouchBy path (Kept from changed bytes) touched = (from ≡ path) × (touched ≡ changed)
IsTouchBy path (NotKept from) touched = (from ≡ path) × (touched ≡ 0)
IsTouchBy path _ touched = ⊥

-- `reads` is one call that read the file at `now`, which was changed last at `touched` (`IsTouchBy`); or none, and 0, without a path
abbrev pub IsTouch : (now : Option (List ℕ)) (reads : List Call) (touched : ℕ) → Type 0
IsTouch (Some path) reads touched = (read : Call) × (reads ≡ read ∷ []) × IsTouchBy path read touched
IsTouch None reads touched = (reads ≡ []) × (touched ≡ 0)

-- this call read the file at this path at the moment `now`, and `value` is its value then, as it is kept: that of the file that was read, if it
-- isn't older than so many seconds; none, if none was read
abbrev pub IsTaken : (path : List ℕ) (seconds now : ℕ) (read : Call) (value : List ℕ) → Type 0
IsTaken path seconds now (Kept from changed bytes) value = (from ≡ path) × IsValueIn bytes changed now seconds value
IsTaken path seconds now (NotKept from) value = (from ≡ path) × (value ≡ no_value)
IsTaken path seconds now _ value = ⊥

-- `reads` is one call that read the file at this path, and its value is `value` (`IsTaken`); or the file wasn't read, and has no value
abbrev pub IsTakenBy : (path : List ℕ) (seconds now : ℕ) (reads : List Call) (value : List ℕ) → Type 0
IsTakenBy path seconds now reads value =
    ((read : Call) × (reads ≡ read ∷ []) × IsTaken path seconds now read value) ⊎ ((reads ≡ []) × (value ≡ no_value))

-- `reads` read these files at the moment `now`, one after the other, and these are their values
pub data AreTaken (now : ℕ) : (files : List ValueFile) (reads : List Call) (values : List (List ℕ)) → Type 0 where
  none : AreTaken now [] [] []
  one_more : {files : List ValueFile} {reads : List Call} {values : List (List ℕ)} → AreTaken now files reads values
      → (file : ValueFile) (more : List Call) (value : List ℕ) → IsTakenBy (path_of file) file.seconds now more value
      → AreTaken now (files ++ file ∷ []) (reads ++ more) (values ++ value ∷ [])

-- `reads` read these files at the moment `now`, and `all` are their values, and none in the places behind
pub record AreValues (files : List ValueFile) (now : ℕ) (reads : List Call) (all : List (List ℕ)) : Type 0 where
  pub values : List (List ℕ)
  pub taken : AreTaken now files reads values
  pub all_are : all ≡ values ++ replicate (FILE_VALUES - length values) no_value

-- `m'` is the moment `m` at which the files of these signals were looked for, and these files were read: where the one at `until` is there,
-- the end of the run is asked for; the one at `now` was changed last at `touched`; and the values are those of the others by then
pub record IsSeenAt (signals : SignalsSeen) (files : List ValueFile) (looks : List Call) (m m' : Moment) : Type 0 where
  pub here : Bool
  pub look_calls : List Call
  pub look : IsLook signals.until look_calls here
  pub touched : ℕ
  pub touch_calls : List Call
  pub touch : IsTouch signals.now touch_calls touched
  pub values : List (List ℕ)
  pub read_calls : List Call
  pub reads : AreValues files m.utc read_calls values
  pub looks_are : looks ≡ look_calls ++ (touch_calls ++ read_calls)
  pub is : m' ≡ record { elapsed = m.elapsed; utc = m.utc; stops = m.stops || here; touched = touched; values = values }

-- the act `seen` is the act of the link inside: with the moment as the looks for the signals' files and the reads of the others made it, if
-- it has a moment; else the same, without a look
abbrev pub IsSeen : (signals : SignalsSeen) → List ValueFile → (act : Act) → (looks : List Call) → (seen : Act) → Type 0
IsSeen signals files (Told m) looks seen = (m' : Moment) × IsSeenAt signals files looks m m' × (seen ≡ Told m')
IsSeen signals files (Gave bytes m) looks seen = (m' : Moment) × IsSeenAt signals files looks m m' × (seen ≡ Gave bytes m')
IsSeen signals files (Silent m) looks seen = (m' : Moment) × IsSeenAt signals files looks m m' × (seen ≡ Silent m')
IsSeen signals files act looks seen = (looks ≡ []) × (seen ≡ act)

-- the link inside read its clock at first, which gave the moment `began`; each act after that (`inner`) is the act of `seen` at its
-- place, by the looks for the signals' files and the reads of the others that were made for it
pub data AreSeen (signals : SignalsSeen) (files : List ValueFile) (began : Moment) : (inner : List Act) (looks : List Call) (seen : List Act) → Type 0 where
  begun : AreSeen signals files began (Told began ∷ []) [] []
  more : {inner : List Act} {looks : List Call} {seen : List Act} → AreSeen signals files began inner looks seen
      → (act : Act) (look : List Call) (act' : Act) → IsSeen signals files act look act'
      → AreSeen signals files began (inner ++ act ∷ []) (looks ++ look) (seen ++ act' ∷ [])
