-- From the words of a command line to the station that they ask for, if they ask for one.
use Rattle.gc_program_theorems.proofs.Common.{◌≡◌, ◌⊎◌, inl, inr, ℕ, Bool, true, false, List, Option, Result, Ok, refl, are_open, Standard, IsJobOfWords, DoesAsked, DoesProgram, DoesJob, DoesOver, HasNoRun, RecordsLossy, Seeing, Opening, ClientJob, with_status_line, Settings, Recording, Site, Traces, AskForStation}
use Rattle.std.specs.declared.io.ErrorKind.{ErrorKind}
use Rattle.gc_console.specs.declared.words.Job.{Job}
use Rattle.gc_console.specs.declared.words.ClientJob.TheVariants as client
use Rattle.gc_console.specs.declared.words.Job.TheVariants as job

module _ {S T F K E M A X : Type 0} (seeing : Seeing S T F K M) (shown : E → Option (List ℕ)) (standard : Standard) (begun : Opening) (texts : A → List (List ℕ))
    (kind : X → ErrorKind) (words : Result A X) (traces : Traces) (status : ℕ) where
  -- the words asked for a station, and it did this over its streams (`RecordsLossy`)
  pub record DoesStation : Type 0 where
    pub site : Site
    pub station : Settings
    pub recording : Option Recording
    pub asked : AskForStation standard texts words site station recording
    pub over : DoesOver seeing shown standard begun (client.Station site station recording) traces status
    pub does : RecordsLossy seeing site recording (with_status_line standard.terminal station) over.old over.new traces.acted status

  -- what came of the words: no station ran, or one did
  abbrev Came : Type 0
  Came = HasNoRun traces.acted ⊎ DoesStation

  -- of a job of a client, over streams that are open
  by_client : (args : A) → words ≡ Ok args → (asked : ClientJob) → IsJobOfWords (texts args) (job.Client asked) → are_open standard ≡ true
      → (o : DoesOver seeing shown standard begun asked traces status) → DoesJob seeing shown standard asked o.old o.new traces.acted status → Came
  by_client args read (client.Station site station recording) is streams o does = inr (record {
    site = site;
    station = station;
    recording = recording;
    asked = record { args = args; read = read; asked = is; streams = streams };
    over = o;
    does = does;
  })
  by_client args read (client.Outline choice unit) is streams o does = inl does.none
  by_client args read (client.Loop scene) is streams o does = inl does.none
  by_client args read (client.Ask place) is streams o does = inl does.none

  -- whether the streams are open or not
  by_streams : (args : A) → words ≡ Ok args → (asked : ClientJob) → IsJobOfWords (texts args) (job.Client asked)
      → (o : DoesOver seeing shown standard begun asked traces status) → (are : Bool) → are_open standard ≡ are → Came
  by_streams args read asked is o true streams = by_client args read asked is streams o (o.does streams)
  by_streams args read asked is o false streams = inl (o.closed streams).1

  -- of any job
  by_job : (args : A) → words ≡ Ok args → (asked : Job) → IsJobOfWords (texts args) asked → DoesAsked seeing shown standard begun asked traces status → Came
  by_job args read (job.Client asked) is does = by_streams args read asked is does (are_open standard) refl
  by_job args read (job.Exec scene) is does = inl does.1
  by_job args read (job.Check log) is does = inl does.1
  by_job args read (job.Drill drilling) is does = inl does.1
  by_job args read (job.Serve serving) is does = inl does.1
  by_job args read (job.Rehearse rehearsal) is does = inl does.1
  by_job args read (job.Nowhere serves) is does = inl does.1
  by_job args read (job.BadLimit limit) is does = inl does.1
  by_job args read job.NumberMissing is does = inl does.1
  by_job args read job.NoUnit is does = inl does.1
  by_job args read job.StaleTooSoon is does = inl does.1
  by_job args read job.AtWithoutMultiple is does = inl does.1
  by_job args read job.NoDate is does = inl does.1

  -- of what the program did by its words
  pub by_words : DoesProgram seeing shown standard begun texts kind words traces status → Came
  by_words d = elim d.is [
    | inl w ↦ elim w.2 [
      | inl j ↦ by_job w.0 w.1 j.job j.asked j.does
      | inr answered ↦ inl answered.none
    ]
    | inr unread ↦ inl unread.none
  ]
