-- A run that appends to a file, and what is left of it.
use Rattle.gc_measuring.specs.Common.{Act, Followed, Streams, Snapshot, for_file, Settings}
use Rattle.std.specs.Prelude.{◌≡◌, ℕ, ◌⊎◌, Bool, List, [], Option, Some, None}
use Rattle.gc_measuring.specs.Telling.{AppendingRun, HoldsOfFiled, MeasuresAllAtLink, RefusesFile, ReportsAtSite, Stage, Views, acts_of, began_of, stage}
use Rattle.gc_measuring.specs.declared.recording.Appended.{Appended}

-- the file that the run left, if there is one
abbrev pub file_of : {R : Type 0} → Option (Appended R) → Option (Followed R)
file_of None = None
file_of (Some left) = Some left.file

-- the acts that the run's link recorded, if there was a link
abbrev pub acts_in : {R : Type 0} → Option (Appended R) → Option (List Act)
acts_in None = None
acts_in (Some left) = acts_of left.link

-- when the run's link was made, if there was a link
abbrev pub began_in : {R : Type 0} → Option (Appended R) → Option ℕ
began_in None = None
began_in (Some left) = began_of left.link

-- the run that began with the streams `old`, without an act, had the streams `new` at its end, and left `left`; `turns` and
-- `turns'` are what had been seen of link and file at each act so far, at its start and at its end
abbrev pub appending_run : {R S K E : Type 0} → (old new : Streams S K E) → (turns turns' : List Snapshot) → (left : Option (Appended R)) → AppendingRun S (Followed R) K E
appending_run old new turns turns' left =
    record { before = stage old None (Some []) turns; after = stage new (began_in left) (acts_in left) turns'; file = file_of left }

-- a run over a file, of which `IsBegun` holds as the run began, from `old` to `new`, is reported with this status (`ReportsAtSite`);
-- and with status 0 the run over the commands of a text is done, or its end was asked for
pub record AppendsTo {S F E : Type 0} (IsBegun : F → Type 0) (views : Views S F E) (has_log : Bool) (station : Settings) (old new : Stage S F E) (status : ℕ) : Type 0 where
  pub begun : IsBegun old.streams.output
  pub told : ReportsAtSite views has_log (for_file station) old new status
  pub done : status ≡ 0 → MeasuresAllAtLink views (for_file station) old new

-- a file of records can't be had, which is reported (`RefusesFile`); there is no file and no link, and no act was seen
pub record IsUnfiled {S F K E : Type 0} (shown : E → Option (List ℕ)) (whole : AppendingRun S F K E) (status : ℕ) : Type 0 where
  pub refuses : RefusesFile shown whole.before.streams whole.after.streams status
  pub acts : whole.after.acts ≡ None
  pub turns : whole.after.turns ≡ whole.before.turns
  pub file : whole.file ≡ None

-- a file of records can't be had (`IsUnfiled`); or a run appended to the file, of which `IsBegun` holds as the run began, and which is
-- handed back as the run left it (`AppendsTo`)
abbrev pub AppendsToFile : {S F K E : Type 0} → (IsBegun : F → Type 0) → Views S F E → (has_log : Bool) → Settings → AppendingRun S F K E → (status : ℕ) → Type 0
AppendsToFile IsBegun views has_log station whole status =
    IsUnfiled views.shown whole status
    ⊎ HoldsOfFiled views.sink whole (λ old new. AppendsTo IsBegun views has_log station old new status)
