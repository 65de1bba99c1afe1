-- A run's link and its file, once they are handed back.
use Rattle.gc_measuring.proofs.Common.{◌≡◌, ℕ, Bool, List, Option, Some, Result, Ok, sym, subst, IfOk-weaker, IfOk-at_ok, IfOk, exit_status, Act, Watched, AppendingRun, AppendsAll, MeasuresAllAtLink, ReportsAppending, ReportsAtSite, Stage, Views, acts_of, began_of, stage, Snapshot, Settings}
use Rattle.std.specs.declared.process.ExitCode.{ExitCode}
use Rattle.gc_measuring.specs.Appending.{AppendsToFile, appending_run}
use Rattle.gc_measuring.specs.declared.recording.Appended.{Appended}
use Rattle.gc_logs.specs.declared.following.Followed.{Followed}
use Rattle.gc_logs.specs.declared.streams.Streams.{Streams}

-- what is known of a run's link, of which the moment `run` is known at which it was made, and of the status, is known of the link that is
-- handed back, which was made at that moment
handed_back : {R X E : Type 0} (Known : Option ℕ → Option (List Act) → X → Type 0) (run : ℕ) (ended kept : Result X E) (link : Watched R) (left : Option (Watched R))
    → IfOk kept (λ status. (ended ≡ Ok status) × (left ≡ Some link) × (link.began.utc ≡ run)) → IfOk ended (λ status. Known (Some run) (Some link.history.acts) status)
    → IfOk kept (λ status. Known (began_of left) (acts_of left) status)
handed_back Known run ended kept link left same known =
    IfOk-weaker kept _ _
    (λ status s. subst (λ l. Known (began_of l) (acts_of l) status) (sym s.1)
    (subst (λ at. Known (Some at) (Some link.history.acts) status) (sym s.2) (IfOk-at_ok (λ status. Known (Some run) (Some link.history.acts) status) s.0 known)))
    same

-- how the run's end is reported
pub reports_handed_back : {R X S K E : Type 0} (views : Views S K E) (has_log : Bool) (station : Settings) (old : Stage S K E) (streams : Streams S K E) (run : ℕ) (turns : List Snapshot)
    (ended kept : Result ExitCode X) (link : Watched R) (left : Option (Watched R)) → IfOk kept (λ status. (ended ≡ Ok status) × (left ≡ Some link) × (link.began.utc ≡ run))
    → IfOk ended (λ status. ReportsAtSite views has_log station old (stage streams (Some run) (Some link.history.acts) turns) (exit_status status))
    → IfOk kept (λ status. ReportsAtSite views has_log station old (stage streams (began_of left) (acts_of left) turns) (exit_status status))
reports_handed_back views has_log station old streams run turns ended kept link left same known =
    handed_back (λ began acts status. ReportsAtSite views has_log station old (stage streams began acts turns) (exit_status status)) run ended kept link left same known

-- that the run is done or its end was asked for, with status 0
pub measures_handed_back : {R X S K E : Type 0} (views : Views S K E) (station : Settings) (old : Stage S K E) (streams : Streams S K E) (run : ℕ) (turns : List Snapshot)
    (ended kept : Result ExitCode X) (link : Watched R) (left : Option (Watched R)) → IfOk kept (λ status. (ended ≡ Ok status) × (left ≡ Some link) × (link.began.utc ≡ run))
    → IfOk ended (λ status. exit_status status ≡ 0 → MeasuresAllAtLink views station old (stage streams (Some run) (Some link.history.acts) turns))
    → IfOk kept (λ status. exit_status status ≡ 0 → MeasuresAllAtLink views station old (stage streams (began_of left) (acts_of left) turns))
measures_handed_back views station old streams run turns ended kept link left same known =
    handed_back (λ began acts status. exit_status status ≡ 0 → MeasuresAllAtLink views station old (stage streams began acts turns)) run ended kept link left same known

-- what is known of a run that left a file, and of the status, is known of the run with what is handed back
left_back : {R X S K E Y : Type 0} (Known : AppendingRun S (Followed R) K E → X → Type 0) (old new : Streams S K E) (turns turns' : List Snapshot) (ended kept : Result X Y)
    (given : Appended R) (left : Option (Appended R)) → IfOk kept (λ status. (ended ≡ Ok status) × (left ≡ Some given))
    → IfOk ended (λ status. Known (appending_run old new turns turns' (Some given)) status) → IfOk kept (λ status. Known (appending_run old new turns turns' left) status)
left_back Known old new turns turns' ended kept given left same known =
    IfOk-weaker kept _ _
    (λ status s. subst (λ l. Known (appending_run old new turns turns' l) status) (sym s.1)
    (IfOk-at_ok (λ status. Known (appending_run old new turns turns' (Some given)) status) s.0 known))
    same

-- how its end is reported
pub reports_left_back : {R X S K E : Type 0} (views : Views S (Followed R) E) (has_log : Bool) (station : Settings) (old new : Streams S K E) (turns turns' : List Snapshot)
    (ended kept : Result ExitCode X) (given : Appended R) (left : Option (Appended R)) → IfOk kept (λ status. (ended ≡ Ok status) × (left ≡ Some given))
    → IfOk ended (λ status. ReportsAppending views has_log station (appending_run old new turns turns' (Some given)) (exit_status status))
    → IfOk kept (λ status. ReportsAppending views has_log station (appending_run old new turns turns' left) (exit_status status))
reports_left_back views has_log station old new turns turns' ended kept given left same known =
    left_back (λ run status. ReportsAppending views has_log station run (exit_status status)) old new turns turns' ended kept given left same known

-- that the run is done or its end was asked for, with status 0
pub appends_left_back : {R X S K E : Type 0} (views : Views S (Followed R) E) (station : Settings) (old new : Streams S K E) (turns turns' : List Snapshot)
    (ended kept : Result ExitCode X) (given : Appended R) (left : Option (Appended R)) → IfOk kept (λ status. (ended ≡ Ok status) × (left ≡ Some given))
    → IfOk ended (λ status. exit_status status ≡ 0 → AppendsAll views station (appending_run old new turns turns' (Some given)))
    → IfOk kept (λ status. exit_status status ≡ 0 → AppendsAll views station (appending_run old new turns turns' left))
appends_left_back views station old new turns turns' ended kept given left same known =
    left_back (λ run status. exit_status status ≡ 0 → AppendsAll views station run) old new turns turns' ended kept given left same known

-- both, of a run of whose file `IsBegun` holds as it began
pub files_left_back : {R X S K E : Type 0} (IsBegun : Followed R → Type 0) (views : Views S (Followed R) E) (has_log : Bool) (station : Settings) (old new : Streams S K E)
    (turns turns' : List Snapshot) (ended kept : Result ExitCode X) (given : Appended R) (left : Option (Appended R)) → IfOk kept (λ status. (ended ≡ Ok status) × (left ≡ Some given))
    → IfOk ended (λ status. AppendsToFile IsBegun views has_log station (appending_run old new turns turns' (Some given)) (exit_status status))
    → IfOk kept (λ status. AppendsToFile IsBegun views has_log station (appending_run old new turns turns' left) (exit_status status))
files_left_back IsBegun views has_log station old new turns turns' ended kept given left same known =
    left_back (λ run status. AppendsToFile IsBegun views has_log station run (exit_status status)) old new turns turns' ended kept given left same known
