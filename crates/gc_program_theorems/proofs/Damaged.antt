-- The rows of a run over a line that damages: the line of each of its replies is own or damaged, so what holds of the rows of a run
-- that is answered by such lines holds of them.
use Rattle.gc_program_theorems.proofs.Common.{Option, KeptReply, AnswerIsJustified, form_at, Reads, answers_true, all_at, Ends, AnyState, IsAnInstrument, IsRunLocal, run_local, HarmedRun, IsHarmedRun, ObjectsAreOwnOrDamaged, RowsAreOwnOrDamaged, RowsByDamagedLinesAreFew, RunsInFieldAreInstances, TablesAreOwnOrDamaged, harmed_program_of, own_or_damaged_lines, acts_in, program_of, records_of_run, scope_of, came_at, one_added}
use Rattle.gc_theorems.proofs.UndamagedRuns.{is_instance}
use Rattle.gc_program_theorems.proofs.Objected.{objected}
use Rattle.gc_program_theorems.proofs.Owning.{row_and_fault}
use Rattle.gc_program_theorems.proofs.Tabled.{tabled}
use Rattle.gc_program_theorems.proofs.Written.{IsAnswered}

module _ {State : Type 0} (ends : Ends State) (kept : State → Option KeptReply) (is : IsAnInstrument ends AnyState kept) (reads : Reads) (x : HarmedRun State)
    (was : IsHarmedRun ends kept reads x) where
  -- the run is local
  local : IsRunLocal ends AnyState kept (harmed_program_of x.run.survey reads (acts_in x.run) x.happened)
  local = run_local ends AnyState kept is x.in_flight (harmed_program_of x.run.survey reads (acts_in x.run) x.happened) was.in_field

  -- it is answered by lines that are own or damaged
  pub answered : IsAnswered (own_or_damaged_lines ends reads x) reads x.run.survey (acts_in x.run)
  answered = record { labels = was.is_run.labels; runs = was.in_field.runs; answers = λ n r got. local.answers n r got }

-- what a sink took of a run over a line that damages is a table
pub tables_own_or_damaged : {State : Type 0} → TablesAreOwnOrDamaged State
tables_own_or_damaged ends kept is reads are x was columns form =
    tabled (own_or_damaged_lines ends reads x) reads are x.run x.had was.is_run was.took (answered ends kept is reads x was) columns form

-- or lines of JSON
pub objects_own_or_damaged : {State : Type 0} → ObjectsAreOwnOrDamaged State
objects_own_or_damaged ends kept is reads are x was form small =
    objected (own_or_damaged_lines ends reads x) reads are x.run x.had was.is_run was.took (answered ends kept is reads x was) form small

-- the row of each record whose command a reply in time ended is that of a line that is own or damaged
pub rows_own_or_damaged : {State : Type 0} → RowsAreOwnOrDamaged State
rows_own_or_damaged ends kept is reads are x was columns form place r got line answers =
    let survey = x.run.survey in
    let acts = acts_in x.run in
    let scope = scope_of survey reads in
    let came = all_at (AnswerIsJustified survey.plan survey.tasks scope acts) (records_of_run reads x.run) place r (answers_true survey.plan survey.tasks scope acts was.in_field.runs) got in
    let row = row_and_fault survey.layout columns survey.labels form survey.plan survey.tasks scope acts r came line answers in
    record {
      is_of = row.is_of;
      came = came_at survey.plan survey.tasks scope acts was.in_field.runs r line answers (came line answers);
      fault = row.fault reads are (form_at survey.tasks r.place) (one_added survey.plan survey.tasks scope acts was.in_field.runs place r got).1;
      answer = (local ends kept is reads x was).answers place r got line answers;
    }

-- few records are by damaged lines
pub rows_few : {State : Type 0} → RowsByDamagedLinesAreFew State
rows_few ends kept is reads are x was = (local ends kept is reads x was).few_records

-- a run in the field is one over a line that damages
pub runs_are_instances : {State : Type 0} → RunsInFieldAreInstances State
runs_are_instances ends kept is reads are x was own =
    let there = is_instance ends AnyState kept is x.in_flight (program_of x.run.survey reads (acts_in x.run) x.happened) was.in_field own in
    (record { is_run = was.is_run; took = was.took; in_field = there.field }, there.apart)
