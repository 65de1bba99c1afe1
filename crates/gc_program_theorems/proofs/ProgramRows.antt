-- From the run of a station that the program ran to its rows: of that run each law holds.
use Rattle.gc_program_theorems.proofs.Common.{◌≡◌, inl, inr, ℕ, Bool, true, List, [], ◌∷◌, Option, Some, None, IfSome, sym, ap, ◌∙◌, subst, none-some, run_faithful, AnyState, Ends, run_local, KeptReply, Ghosts as Source, Act, acts_noted, bytes_in, Followed, Standard, ClientJob, Settings, Recording, Site, DoesOver, HasNoRun, Seeing, seeing_by, Opening, Traces, AreFewByDamagedLines, HarmedRun, HasObjectsOwnOrDamaged, HasRowsOwnOrDamaged, HasTableOwnOrDamaged, OfEachHarmedRun, own_or_damaged_lines, IsRunMoment, IsRunOfFile, RunMoment, LeavesObjects, LeavesTable, HasOwnObjects, HasLastingRows, HasTrueRows, HoldsInField, HoldsOverDamage, IsRunOfProgram, ProgramsAreFaithful, ProgramsWithoutActsWriteNoRow, field_run, harmed_run, FieldRun, HasOwnTable, IsStationRun, OfEachFieldRun, StationRun, acts_in, own_lines, program_of, Reads}
use Rattle.gc_lines.specs.declared.ports.Sink.{Ghosts as Sink}
use Rattle.gc_console.specs.declared.traces.Acted.{Acted}
use Rattle.gc_program_theorems.specs.Programs.{IsMomentOf}
use Rattle.gc_program_theorems.proofs.Damaged.{objects_own_or_damaged, rows_few, rows_own_or_damaged, tables_own_or_damaged}
use Rattle.gc_program_theorems.proofs.Lasting.{rows_outlast_crashes, rows_outlast_failures}
use Rattle.gc_program_theorems.proofs.Left.{left_objects_own, left_objects_own_or_damaged, left_tables_own, left_tables_own_or_damaged}
use Rattle.gc_program_theorems.proofs.Objected.{objects_own}
use Rattle.gc_program_theorems.proofs.Owning.{rows_own}
use Rattle.gc_program_theorems.proofs.ProgramIdle.{wrote_lossy}
use Rattle.gc_program_theorems.proofs.ProgramRuns.{AreNoted, HasFile, ran_lossy}
use Rattle.gc_program_theorems.proofs.ProgramWords.{by_words}
use Rattle.gc_program_theorems.proofs.Tabled.{tables_own}

module _ {R : Type 0} (run : StationRun) (is : IsStationRun run) (fresh : run.old.taken ≡ Some []) (headed : run.survey.layout.headed ≡ true) (recording : Recording)
    (filed : HasFile R run recording) where
  -- the run is one of its file
  of_file : IsRunOfFile run filed.file
  of_file = record { is_run = is; headed = headed; fresh = fresh; took = filed.took }

  -- each of its moments is one of a run that appends to a file which syncs, if the recording asks for that
  moment : recording.sync ≡ true → (m : RunMoment R) → IsMomentOf run filed.file m → IsRunMoment m
  moment asked m of = record {
    run = subst (λ (f : Followed R). IsRunOfFile m.run f) (sym of.is_file) (subst (λ (r : StationRun). IsRunOfFile r filed.file) (sym of.is_run) of_file);
    synced = of.same ∙ filed.syncs ∙ asked;
    seen = of.seen;
    reached = of.reached;
  }

module _ (State : Type 0) (run : StationRun) (is : IsStationRun run) (fresh : run.old.taken ≡ Some []) where
  -- what is true of each run in the field is true of this one
  in_field : (Holds : Ends State → (State → Option KeptReply) → Reads → FieldRun State → Type 0)
      → OfEachFieldRun {State = State} (λ ends kept reads x. Holds ends kept reads x) → HoldsInField {State = State} run Holds
  in_field Holds law ends kept instrument reads are in_flight happened field =
      law ends kept instrument reads are (field_run run in_flight happened) (record { is_run = is; took = fresh; in_field = field })

  -- what is true of each run over a line that damages is true of this one
  over_damage : (Holds : Ends State → (State → Option KeptReply) → Reads → HarmedRun State → Type 0)
      → OfEachHarmedRun {State = State} (λ ends kept reads x. Holds ends kept reads x) → HoldsOverDamage {State = State} run Holds
  over_damage Holds law ends kept instrument reads are in_flight happened field =
      law ends kept instrument reads are (harmed_run run in_flight happened) (record { is_run = is; took = fresh; in_field = field })

  -- its rows are true
  true_rows : HasTrueRows State run
  true_rows = record {
    faithful = λ ends kept instrument reads are in_flight happened field. run_faithful ends AnyState kept instrument in_flight _ field;
    table = in_field (λ ends kept reads x. HasOwnTable ends kept reads x) tables_own;
    objects = in_field (λ ends kept reads x. HasOwnObjects ends kept reads x) objects_own;
    records = λ ends kept instrument reads are in_flight happened field columns form.
        rows_own ends kept instrument run.survey.layout columns run.survey.labels form in_flight (program_of run.survey reads (acts_in run) happened) field;
    local = λ ends kept instrument reads are in_flight happened field. run_local ends AnyState kept instrument in_flight _ field;
    damaged_table = over_damage (λ ends kept reads x. HasTableOwnOrDamaged ends reads x) tables_own_or_damaged;
    damaged_objects = over_damage (λ ends kept reads x. HasObjectsOwnOrDamaged ends reads x) objects_own_or_damaged;
    damaged_records = over_damage (λ ends kept reads x. HasRowsOwnOrDamaged ends reads x) rows_own_or_damaged;
    few = over_damage (λ ends kept reads x. AreFewByDamagedLines ends reads x) rows_few;
  }

  -- its rows last
  lasting_rows : {R : Type 0} → run.survey.layout.headed ≡ true → (recording : Recording) → HasFile R run recording → HasLastingRows R State run recording
  lasting_rows {R} headed recording filed = record {
    file = filed.file;
    is_of = of_file run is fresh headed recording filed;
    at = filed.at;
    syncs = filed.syncs;
    crashes = λ asked m of. rows_outlast_crashes m (moment run is fresh headed recording filed asked m of);
    failures = λ asked m of. rows_outlast_failures m (moment run is fresh headed recording filed asked m of);
    table = in_field (λ ends kept reads x. LeavesTable R (own_lines ends AnyState kept reads x) reads x.run) left_tables_own;
    objects = in_field (λ ends kept reads x. LeavesObjects R (own_lines ends AnyState kept reads x) reads x.run) left_objects_own;
    damaged_table = over_damage (λ ends kept reads x. LeavesTable R (own_or_damaged_lines ends reads x) reads x.run) left_tables_own_or_damaged;
    damaged_objects = over_damage (λ ends kept reads x. LeavesObjects R (own_or_damaged_lines ends reads x) reads x.run) left_objects_own_or_damaged;
  }

-- the rows of a run of the program last, if they go to a file
lasting_of : (R State : Type 0) (standard : Standard) (site : Site) (station : Settings) (recording : Option Recording) (traces : Traces) (status : ℕ) (run : StationRun)
    → IsRunOfProgram standard site station recording traces status run → IfSome recording (λ recording. HasFile R run recording)
    → IfSome recording (λ recording. HasLastingRows R State run recording)
lasting_of R State standard site station None traces status run is filed = tt
lasting_of R State standard site station (Some recording) traces status run is filed =
    lasting_rows State run is.is_run is.fresh (ap (λ survey. survey.layout.headed) is.survey) recording filed

-- The laws.

-- where no run was made, no act was
no_run_no_act : (acted : Acted) (act : Act) (acts : List Act) → HasNoRun acted → acts_noted acted.link ≡ Some (act ∷ acts) → ⊥
no_run_no_act acted act acts none made = none-some (act ∷ acts) (sym (ap acts_noted none.link) ∙ made)

module _ {S T R K E M : Type 0} (source : Source S) (over : Source T) (sink : Sink K) (lasts : K → Bool) (file_sink : Sink (Followed R)) (file_lasts : Followed R → Bool)
    (shown : M → Option (List ℕ)) (messages : E → Option (List ℕ)) where
  -- how the ports are seen
  abbrev seeing : Seeing S T (Followed R) K M
  seeing = seeing_by source over sink lasts file_sink file_lasts shown

  -- what is noted of the streams of a client's job
  noted_over : (standard : Standard) (begun : Opening) (asked : ClientJob) (traces : Traces) (status : ℕ) (o : DoesOver seeing messages standard begun asked traces status)
      → AreNoted sink traces o.old o.new
  noted_over standard begun asked traces status o = record { unheard = o.unheard; heard = o.heard; fresh = o.untold; told = o.told }

  -- the law: if a link made any act, in what the program did by its words, these asked for a station, and of its run each law holds
  pub programs_faithful : ((f : Followed R) → file_sink.taken f ≡ Some (bytes_in f)) → (A X State : Type 0) → ProgramsAreFaithful seeing messages A X State
  programs_faithful taken A X State standard begun texts kind words traces status does act acts made =
      elim (by_words seeing messages standard begun texts kind words traces status does) [
        | inl none ↦ absurd (no_run_no_act traces.acted act acts none made)
        | inr d ↦
            let noted = noted_over standard begun _ traces status d.over in
            let r = ran_lossy source over sink lasts file_sink file_lasts shown standard d.site d.station traces status act acts made taken d.recording d.over.old d.over.new noted d.does in
            record {
              site = d.site;
              station = d.station;
              recording = d.recording;
              asked = d.asked;
              input = subst (λ (t : Option (List ℕ)). IfSome t (λ bytes. traces.heard.bytes ≡ bytes)) d.over.bytes r.input;
              run = r.run;
              is = r.is;
              rows = true_rows State r.run r.is.is_run r.is.fresh;
              lasting = lasting_of R State standard d.site d.station d.recording traces status r.run r.is r.filed;
            }
      ]

  -- the law: if no act was made, no station ran, or it wrote no row
  pub idle_programs : (A X : Type 0) → ProgramsWithoutActsWriteNoRow seeing messages A X
  idle_programs A X standard begun texts kind words traces status does idle =
      elim (by_words seeing messages standard begun texts kind words traces status does) [
        | inl none ↦ inl none
        | inr d ↦
            let noted = noted_over standard begun _ traces status d.over in
            let wrote = wrote_lossy source over sink lasts file_sink file_lasts shown standard d.site d.station traces status idle d.recording d.over.old d.over.new noted d.does in
            inr (record { site = d.site; station = d.station; recording = d.recording; asked = d.asked; front = wrote.front; alone = wrote.alone })
      ]
