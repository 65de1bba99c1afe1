-- What is left of the rows of a run that was killed, over crashes of the machine, or after a sync that failed: this project's
-- own.
use Rattle.gc_program_theorems.specs.Common.{Sides, RunEnd, MayEnd, sides_ended, doubt_ended, Event, settled, same_sides, sides_after, doubt_after, ArePossibleEvents, runs_of, IsFound, IsTrusted, Step, Life, content, later_by, MayBeLeft, opened_table, OpensFile, IsFront, whole, IsHead, Happen, life_after, rows_of, AreRowCounts, steps_in, taken_in, is_durable, asks_sync, Act, EarlierFilesLast, bytes_in, steps_before, Followed, ReadsClock, Snapshot, texts_of, ForEachReadings, Reads, Survey, text_by, AppendingRun, ReportsAppended, views_by, Settings}
use Rattle.std.specs.Prelude.{◌≡◌, ◌⊎◌, ℕ, Bool, true, false, List, [], ◌∷◌, ◌++◌, Option, Some}
use Rattle.gc_files.specs.Prelude.{Run}
use Rattle.gc_lines.specs.declared.ports.Source.{Ghosts as Source}
use Rattle.gc_lines.specs.declared.ports.Sink.{Ghosts as Sink}
use Rattle.gc_program_theorems.specs.Tables.{IsStationRun, StationRun, acts_in, records_in}

-- a run of a file, as clause `told` of `append_at` says it of the file that it hands back: a run of a station (`IsStationRun`),
-- whose output has its header already, and took what was appended to the file since it was opened
pub record IsRunOfFile {R : Type 0} (run : StationRun) (file : Followed R) : Type 0 where
  pub is_run : IsStationRun run
  pub headed : run.survey.layout.headed ≡ true
  pub fresh : run.old.taken ≡ Some []
  pub took : run.new.taken ≡ Some (bytes_in file)

-- there is a run of this file (`IsRunOfFile`) after which its link has recorded these acts; `turns` and `turns'` are what had
-- been seen of link and file at each act so far, before the run and after it
pub record HasRunOfFile {R : Type 0} (file : Followed R) (acts : Option (List Act)) (turns turns' : List Snapshot) : Type 0 where
  pub run : StationRun
  pub is : IsRunOfFile run file
  pub by_acts : acts ≡ Some run.recorded
  pub before : run.old.turns ≡ turns
  pub after : run.new.turns ≡ turns'

-- what clause `told` of `append_at` says of a run that began without an act and left a file (`ReportsAppended`, over the views
-- that `views_by` makes) comes to this: either no act was made, so that what was seen at each act stays the same, or the run is
-- one of that file (`HasRunOfFile`). `K` and `E` are the types of the output and the messages
abbrev pub AppendsAreRuns : {S R : Type 0} → Source S → Sink (Followed R) → (K E : Type 0) → Type 0
AppendsAreRuns {S = S} {R = R} source sink K E =
    (lasts : Followed R → Bool) (shown : E → Option (List ℕ)) (has_log : Bool) (station : Settings) (whole : AppendingRun S (Followed R) K E) (file : Followed R)
    (status : ℕ) → whole.before.acts ≡ Some [] → whole.file ≡ Some file → ReportsAppended (views_by source sink lasts shown) has_log station whole status
    → (whole.after.turns ≡ whole.before.turns) ⊎ HasRunOfFile file whole.after.acts whole.before.turns whole.after.turns

-- a moment of a run that appends to a file, at an act or after it: the run and the file that it left; what was seen at that act
-- (`turn`), the acts that were done before it, the file as it was then, and the calls that this file had had by the moment, since
-- it was opened
pub record RunMoment (R : Type 0) : Type 0 where
  pub run : StationRun
  pub file : Followed R
  pub turn : Snapshot
  pub done : List Act
  pub was : Followed R
  pub calls : List Step

-- the moment's turn was seen at an act of the run. The acts of `done` were done then, and the act was `next`: it sent, read,
-- opened or closed something, so it is no mere reading of the clock. What was seen of the file, its bytes and whether it is durable,
-- is that of `was`
pub record IsSeen {R : Type 0} (m : RunMoment R) : Type 0 where
  pub earlier : List Snapshot
  pub later : List Snapshot
  pub among : m.run.new.turns ≡ m.run.old.turns ++ (earlier ++ m.turn ∷ later)
  pub done : m.turn.acts ≡ Some m.done
  pub next : Act
  pub rest : List Act
  pub recorded : m.run.recorded ≡ m.done ++ next ∷ rest
  pub is_more : ReadsClock next → ⊥
  pub taken : m.turn.taken ≡ Some (bytes_in m.was)
  pub lasts : m.turn.lasts ≡ is_durable m.was.rows

-- the moment's calls begin with those that the file had at the moment's act, and are the first of those that it has in the end.
-- The rows didn't go on in another file in between
pub record IsReached {R : Type 0} (m : RunMoment R) : Type 0 where
  pub left : steps_before m.file ≡ steps_before m.was
  pub since : List Step
  pub begins : m.calls ≡ steps_in m.was.rows ++ since
  pub rest : List Step
  pub ends : steps_in m.file.rows ≡ m.calls ++ rest

-- this is a moment of a run that appends to a file which syncs: it was opened so that it does
pub record IsRunMoment {R : Type 0} (m : RunMoment R) : Type 0 where
  pub run : IsRunOfFile m.run m.file
  pub synced : asks_sync m.was.rows ≡ true
  pub seen : IsSeen m
  pub reached : IsReached m

-- the rows of all records that these acts settle, in order, as the run writes them
abbrev pub rows_by : Survey → Reads → List Act → List ℕ
rows_by survey reads acts = texts_of (text_by survey) (records_in survey reads acts)

-- `left` has the rows that are left of a run, after a moment
pub record AreLeft {R : Type 0} (m : RunMoment R) (reads : Reads) (left : List ℕ) : Type 0 where
  -- the rows that the run had written by the moment's act, into this file and into others before it, are those of all records
  -- that the acts of `done` settled
  pub settled : bytes_in m.was ≡ rows_by m.run.survey reads m.done
  -- all that this file had taken by then is left, and perhaps more
  pub more : List ℕ
  pub has : left ≡ taken_in m.was.rows ++ more
  -- no other rows are left than of the run's records; and none is left in part, as all bytes end in a line feed, if there are any
  pub own : IsFront (bytes_in m.was ++ more) (rows_by m.run.survey reads (acts_in m.run))
  pub lines : whole (bytes_in m.was ++ more) ≡ bytes_in m.was ++ more

-- what happened to a file until a run was killed, or the machine crashed: the head of its table; what the file held at first, all
-- of it on the disk; the earlier runs; the calls by which the run opened the file; and what was found at last
pub record CrashHistory : Type 0 where
  pub head : List ℕ
  pub first : List ℕ
  pub earlier : List Run
  pub opening : List Step
  pub found : List ℕ

-- the life of the file when the run began
abbrev pub life_begun : CrashHistory → Life
life_begun x = life_after (settled x.first) x.earlier

-- all this may happen if a run that made these calls after its opening is killed, or the machine crashes: earlier runs may have
-- ended so, too
pub record IsCrashHistory (calls : List Step) (x : CrashHistory) : Type 0 where
  pub is_head : IsHead x.head
  pub happened : Happen x.head (settled x.first) x.earlier
  pub opens : OpensFile x.head (content (life_begun x)) x.opening
  pub is_found : MayBeLeft (later_by (x.opening ++ calls) (life_begun x)) x.found

-- a run is killed at a moment, or the machine crashes (`IsCrashHistory`). Whatever is found then, the next start makes of it the table
-- that was there at first, after it rows of the earlier runs, and then the rows that are left of this run: where `reads` gives what
-- replies say of their calls (`AreReadings`)
abbrev pub OutlastsCrashes : {R : Type 0} → RunMoment R → Type 0
OutlastsCrashes m = ForEachReadings (λ reads. (x : CrashHistory) → IsCrashHistory m.calls x
    → (counts : List ℕ) × (left : List ℕ) × AreRowCounts x.earlier counts × AreLeft m reads left
    × (opened_table x.head x.found ≡ (opened_table x.head x.first ++ rows_of x.earlier counts) ++ left))

-- so it is at each moment of a run that appends to a file which syncs (`IsRunMoment`)
abbrev pub RowsOutlastCrashes : Type 0 → Type 0
RowsOutlastCrashes R = (m : RunMoment R) → IsRunMoment m → OutlastsCrashes m

-- Over failed syncs, too.

-- what happened to a file around a run: the head of its table; what the file held at first, all of it on the disk; the events
-- before the run; the calls by which the run opened the file; how the run ended; the events after it; and what was found at last
pub record FileHistory : Type 0 where
  pub head : List ℕ
  pub first : List ℕ
  pub earlier : List Event
  pub opening : List Step
  pub ending : RunEnd
  pub later : List Event
  pub found : List ℕ

-- both sides of the file when the run began
abbrev pub sides_begun : FileHistory → Sides
sides_begun x = sides_after (same_sides (settled x.first)) x.earlier

-- both sides of the file when the run had ended, which made these calls after its opening
abbrev pub sides_left : FileHistory → List Step → Sides
sides_left x calls = sides_ended (sides_begun x) (x.opening ++ calls) x.ending

-- all this may happen around a run that made these calls after its opening: the events before and after it, where no run goes on
-- in a file in doubt (`IsTrusted`); the opening, in a file that isn't in doubt; the ending; and what was found
pub record IsFileHistory (calls : List Step) (x : FileHistory) : Type 0 where
  pub is_head : IsHead x.head
  pub happened_before : ArePossibleEvents IsTrusted x.head (same_sides (settled x.first)) false x.earlier
  pub trusted : IsTrusted (doubt_after false x.earlier)
  pub opens : OpensFile x.head (content (sides_begun x).read) x.opening
  pub ends : MayEnd (sides_begun x) (x.opening ++ calls) x.ending
  pub happened_after : ArePossibleEvents IsTrusted x.head (sides_left x calls) (doubt_ended x.ending false) x.later
  pub is_found : IsFound (sides_after (sides_left x calls) x.later) x.found

-- after events, in a file that isn't in doubt, a run ends at a moment, by a kill or by a sync that fails, and other events follow
-- (`IsFileHistory`). Whatever is found then, the next start makes of it the table that was there at first, rows of the earlier runs, the
-- rows that are left of this run, and rows of the later ones: where `reads` gives what replies say of their calls (`AreReadings`)
abbrev pub OutlastsFailures : {R : Type 0} → RunMoment R → Type 0
OutlastsFailures m = ForEachReadings (λ reads. (x : FileHistory) → IsFileHistory m.calls x
    → (counts : List ℕ) × (left : List ℕ) × (counts' : List ℕ) × AreRowCounts (runs_of x.earlier) counts × AreLeft m reads left × AreRowCounts (runs_of x.later) counts'
    × (opened_table x.head x.found ≡ ((opened_table x.head x.first ++ rows_of (runs_of x.earlier) counts) ++ left) ++ rows_of (runs_of x.later) counts'))

-- so it is at each moment of a run that syncs (`IsRunMoment`)
abbrev pub RowsOutlastFailures : Type 0 → Type 0
RowsOutlastFailures R = (m : RunMoment R) → IsRunMoment m → OutlastsFailures m

-- The files that a run wrote one after the other, as those of a path with a date.

-- a run that appends to files: what these took, one file after the other, is the first bytes of the rows of the run's records; each file but
-- the last has whole rows, so none is lost between two files, split or in both; and if the files sync, each of them lasts with all its rows
-- (`EarlierFilesLast`): where `reads` gives what replies say of their calls
abbrev pub EachFileHasItsRows : Type 0 → Type 0
EachFileHasItsRows R = ForEachReadings (λ reads. (run : StationRun) (file : Followed R) → IsRunOfFile run file
    → IsFront (bytes_in file) (rows_by run.survey reads (acts_in run)) × EarlierFilesLast file)
