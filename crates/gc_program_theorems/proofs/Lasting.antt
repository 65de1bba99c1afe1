-- The rows that are left of a run that was killed: what the run's contract says of its acts, and the laws on files of rows, put
-- together.
use Rattle.gc_program_theorems.proofs.Common.{◌≡◌, ◌⊎◌, ℕ, true, List, [], ◌∷◌, ◌++◌, Option, Some, Result, inl, inr, refl, sym, ◌∙◌, ap, subst, append_assoc, append_cancel_left, Appends, Step, cuts_none, appended, IsFront, steps_in, taken_in, appended_two, Act, bytes_in, steps_before, ReadsClock, KeepsUp, close_at_output, Runs, opening, Record, texts_of, AreReadings, Reads, Scope, Followed, Tally, begun_at, Settings, Stop, Ghosts as Source, PortsSeen, Measures, most_turns, survey_of, Survey, text_by, front_text, RunsAfterFront, same_Some, HasRunOfFile, AppendsAreRuns, EachFileHasItsRows, IsRunOfFile, RunMoment, IsRunMoment, rows_by, AreLeft, RowsOutlastCrashes, RowsOutlastFailures, AreLeftSoFar, IsFileRunSoFar, FileMomentsAreRunsSoFar, file_so_far_at, StationRun, acts_in, acts_measured, records_of_run, scope_of, cuts_first}
use Rattle.gc_logs.proofs.Leaving.{earlier_files_last}
use Rattle.gc_lines.specs.declared.ports.Sink.{Ghosts as Sink}
use Rattle.gc_program_theorems.proofs.LastingSoFar.{so_far_outlast_crashes, so_far_outlast_failures}
use Rattle.gc_program_theorems.proofs.RunMoments.{measured_are}
use Rattle.gc_program_theorems.proofs.Seen.{IsKeptAt, kept_at, done_at, next_at, seen_at}
use Rattle.gc_program_theorems.proofs.Taken.{appended_to_known, run_took, written_front}
use Rattle.gc_program_theorems.proofs.SoundLabels.{labels_sound}
use Rattle.gc_options.specs.Stations as words

-- What the clauses say.

-- nothing comes before the rows of a file whose header is there already
nothing_between : (survey : Survey) (between : Option (List ℕ)) → survey.layout.headed ≡ true → Appends (Some []) between (front_text survey.layout survey.labels.columns) → between ≡ Some []
nothing_between survey between headed front =
    let none : front_text survey.layout survey.labels.columns ≡ [] = rw (headed) refl in
    appended_to_known [] (front_text survey.layout survey.labels.columns) between front ∙ ap (λ (l : List ℕ). Some l) none

-- What `append_at` reports is a run of a file.

-- if a station whose output has its header already (`headed`) measured over a link that had recorded no acts, into a file that
-- had taken no bytes, and then had taken those of `file`, either no act was made, or there is a run of that file (`HasRunOfFile`)
run_or_no_act : {R : Type 0} (station : Settings) (given : List ℕ) (old new : PortsSeen) (end : Result Tally Stop) (told : List Act) (file : Followed R)
    → station.layout.headed ≡ true → old.acts ≡ Some [] → new.acts ≡ Some told → old.taken ≡ Some [] → new.taken ≡ Some (bytes_in file)
    → Measures given station most_turns old new end → (new.turns ≡ old.turns) ⊎ HasRunOfFile file new.acts old.turns new.turns
run_or_no_act station given old new end told file headed none acts fresh took (inl (stop, is, refuses, unused)) = inl unused.turns
run_or_no_act station given old new end told file headed none acts fresh took (inr (all, gives, inl front)) = inl front.turns
run_or_no_act station given old new end told file headed none acts fresh took (inr (all, gives, inr behind)) = inr (record {
  run = record { survey = survey_of station most_turns all; old = old; new = new; result = end; recorded = told };
  is = record { is_run = record { labels = labels_sound given station.choice.deadline station.choice.chained all gives.are; none = none; acts = acts; ran = behind }; headed = headed; fresh = fresh; took = took };
  by_acts = acts;
  before = refl;
  after = refl;
})

-- for a sink that has taken the bytes of its file (`bytes_in`), what `append_at` reports is a run of the file that it hands
-- back, or no act was made (`AppendsAreRuns`)
pub appends_are_runs : {S R : Type 0} (source : Source S) (sink : Sink (Followed R)) (K E : Type 0) → ((f : Followed R) → sink.taken f ≡ Some (bytes_in f)) → AppendsAreRuns source sink K E
appends_are_runs source sink K E taken lasts shown has_log station whole file status none left tells = elim tells.holds.ran [
  | inl ran ↦
      let it = same_Some file tells.ended.output (sym left ∙ tells.filed.left) in
      run_or_no_act (begun_at ran.run (words.for_file station)) ran.measured.0 _ _ tells.holds.end ran.told file refl none ran.is tells.filed.fresh
      (subst (λ f. sink.taken f ≡ Some (bytes_in file)) it (taken file)) ran.measured.2
  | inr unbegun ↦ inl unbegun.turns
]

-- what the files of a run took in the end is a front of the rows of the run's records
front_of_rows : {R : Type 0} (run : StationRun) (file : Followed R) → IsRunOfFile run file → (reads : Reads) → AreReadings reads → IsFront (bytes_in file) (rows_by run.survey reads (acts_in run))
front_of_rows run file is reads are =
    let took = run_took reads are run [] is.is_run is.fresh in
    let written = texts_of (text_by run.survey) took.are.written ++ took.torn in
    let none : front_text run.survey.layout run.survey.labels.columns ≡ [] = rw (is.headed) refl in
    let same : bytes_in file ≡ written = same_Some (bytes_in file) written (sym is.took ∙ took.is ∙ ap (λ (l : List ℕ). Some (l ++ written)) none) in
    subst (λ (l : List ℕ). IsFront l (rows_by run.survey reads (acts_in run))) (sym same) (written_front (text_by run.survey) (records_of_run reads run) run.result took.torn took.are)

-- the law on the files of a run
pub each_file_has_its_rows : {R : Type 0} → EachFileHasItsRows R
each_file_has_its_rows reads are run file is = (front_of_rows run file is reads are, earlier_files_last file)

module _ {R : Type 0} (m : RunMoment R) (is : IsRunMoment m) (reads : Reads) (are : AreReadings reads) where
  -- the scope of the moment's run
  abbrev scope : Scope
  scope = scope_of m.run.survey reads

  -- the text of a record, as the moment's run writes it
  abbrev text : Record → List ℕ
  text = text_by m.run.survey

  -- the moment's run, by its contract
  abbrev ran : RunsAfterFront m.run.survey m.run.old m.run.new m.run.result
  ran = is.run.is_run.ran

  -- no bytes came before the run's rows
  none_between : ran.between ≡ Some []
  none_between = nothing_between m.run.survey ran.between is.run.headed (subst (λ (t : Option (List ℕ)). Appends t ran.between (front_text m.run.survey.layout m.run.survey.labels.columns)) is.run.fresh ran.front)

  -- the run kept up: at each of its turns, what the acts before it settled was kept
  keeps : KeepsUp m.run.survey.plan m.run.survey.tasks scope text (Some []) (Some m.run.recorded) (Some []) m.run.old.turns m.run.new.turns (close_at_output ran.end)
  keeps = rw (← is.run.is_run.none, ← is.run.is_run.acts, ← none_between) (ran.run.keeps.0 reads are)

  -- at the moment's turn, which is one of the run's, all that the acts before it settled was kept (`IsKeptAt`)
  seen : IsKeptAt m.run.survey.plan m.run.survey.tasks scope text (Some []) (Some []) [] keeps.acts m.turn
  seen =
      let turns = append_cancel_left m.run.old.turns keeps.turns (is.seen.earlier ++ m.turn ∷ is.seen.later) (sym keeps.saw ∙ is.seen.among) in
      kept_at m.run.survey.plan m.run.survey.tasks scope text (Some []) (Some []) [] keeps.acts is.seen.earlier is.seen.later m.turn (rw (← turns) keeps.kept)

  -- what the file and those before it had taken at the turn are the rows of what the acts of `done` settled
  settled_by : bytes_in m.was ≡ rows_by m.run.survey reads m.done
  settled_by = seen_at m.run.survey.plan m.run.survey.tasks scope text m.turn seen.front m.done seen.act (bytes_in m.was) seen.kept is.seen.done is.seen.taken

  -- the act before which the moment's turn was seen is the one that `IsSeen` names, so it is no mere reading of the clock
  is_more : ReadsClock seen.act → ⊥
  is_more =
      let is_next = next_at m.run.recorded keeps.acts (close_at_output ran.end) seen.front seen.behind m.done is.seen.rest seen.act is.seen.next
      keeps.tells seen.all (done_at m.run.survey.plan m.run.survey.tasks scope text m.turn seen.front m.done seen.act seen.kept is.seen.done) is.seen.recorded in
      subst (λ (act : Act). ReadsClock act → ⊥) is_next is.seen.is_more

  -- what the file and those before it took in the end is a front of the rows of the run's records
  end : IsFront (bytes_in m.file) (rows_by m.run.survey reads (acts_in m.run))
  end = front_of_rows m.run m.file is.run reads are

  -- the calls of the file in the end are those at the turn, those since, and a rest
  calls_are : steps_in m.file.rows ≡ (steps_in m.was.rows ++ is.reached.since) ++ is.reached.rest
  calls_are = is.reached.ends ∙ ap (λ (l : List Step). l ++ is.reached.rest) is.reached.begins

  -- what the file and those before it took in the end is what they had taken at the turn, what was appended since, and a rest
  file_is : bytes_in m.file ≡ (bytes_in m.was ++ appended is.reached.since) ++ appended is.reached.rest
  file_is =
      ap (λ (l : List Step). appended l ++ taken_in m.file.rows) is.reached.left
      ∙ ap (λ (l : List ℕ). appended (steps_before m.was) ++ l)
      (ap appended calls_are ∙ appended_two (steps_in m.was.rows ++ is.reached.since) is.reached.rest
      ∙ ap (λ (l : List ℕ). l ++ appended is.reached.rest) (appended_two (steps_in m.was.rows) is.reached.since))
      ∙ sym (append_assoc (appended (steps_before m.was)) (taken_in m.was.rows ++ appended is.reached.since) (appended is.reached.rest))
      ∙ ap (λ (l : List ℕ). l ++ appended is.reached.rest) (sym (append_assoc (appended (steps_before m.was)) (taken_in m.was.rows) (appended is.reached.since)))

  -- the acts that were done by the turn are first ones of the run's
  acts_are : acts_in m.run ≡ m.done ++ seen.act ∷ seen.behind
  acts_are =
      ap (λ r. acts_measured r m.run.recorded) ran.is ∙ measured_are ran.end m.run.recorded keeps.acts keeps.tells ∙ seen.all
      ∙ ap (λ (xs : List Act). xs ++ seen.act ∷ seen.behind) (sym (done_at m.run.survey.plan m.run.survey.tasks scope text m.turn seen.front m.done seen.act seen.kept is.seen.done))

  -- the moment is a run of a file so far
  pub moment_of_file : IsFileRunSoFar reads (file_so_far_at m)
  moment_of_file =
      let none : cuts_none ((steps_in m.was.rows ++ is.reached.since) ++ is.reached.rest) ≡ true = subst (λ (l : List Step). cuts_none l ≡ true) calls_are m.file.rows.only_appends in
      record {
        labels = is.run.is_run.labels;
        runs = subst (λ (xs : List Act). Runs m.run.survey.plan m.run.survey.tasks (opening m.run.survey.plan scope) xs)
            (sym (ap (λ r. acts_measured r m.run.recorded) ran.is ∙ measured_are ran.end m.run.recorded keeps.acts keeps.tells)) keeps.runs;
        others = seen.act ∷ seen.behind;
        order = acts_are;
        settled = settled_by;
        syncs = is.synced;
        lasts = sym is.seen.lasts ∙ seen.kept.lasts is_more;
        since = is.reached.since;
        begins = is.reached.begins;
        appends = subst (λ (l : List Step). cuts_none l ≡ true) (sym is.reached.begins) (cuts_first (steps_in m.was.rows ++ is.reached.since) is.reached.rest none);
        own = record {
          rest = appended is.reached.rest ++ end.rest;
          split = end.split ∙ ap (λ (l : List ℕ). l ++ end.rest) file_is ∙ append_assoc (bytes_in m.was ++ appended is.reached.since) (appended is.reached.rest) end.rest;
        };
      }

  -- what is left of it is left of the run
  left_of : (left : List ℕ) → AreLeftSoFar (file_so_far_at m) reads left → AreLeft m reads left
  left_of left l = record { settled = settled_by; more = l.more; has = l.has; own = l.own; lines = l.lines }

-- the law: each moment of a run of a file that returned is a run of a file so far
pub file_moments_so_far : {R : Type 0} → FileMomentsAreRunsSoFar R
file_moments_so_far reads are m is = moment_of_file m is reads are

-- the law on crashes: what is left of a run so far is left of the run
pub rows_outlast_crashes : {R : Type 0} → RowsOutlastCrashes R
rows_outlast_crashes m is reads are x was =
    let p = so_far_outlast_crashes reads are (file_so_far_at m) (moment_of_file m is reads are) x was in
    (p.0, p.1, p.2, left_of m is reads are p.1 p.3, p.4)

-- the law on failed syncs: so it is there
pub rows_outlast_failures : {R : Type 0} → RowsOutlastFailures R
rows_outlast_failures m is reads are x was =
    let p = so_far_outlast_failures reads are (file_so_far_at m) (moment_of_file m is reads are) x was in
    (p.0, p.1, p.2, p.3, left_of m is reads are p.1 p.4, p.5, p.6)
