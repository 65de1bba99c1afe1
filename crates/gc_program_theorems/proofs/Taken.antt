-- What a sink took of a run, and which acts and records were its own.
use Rattle.gc_program_theorems.proofs.Common.{◌≡◌, inl, inr, ℕ, List, [], ◌∷◌, ◌++◌, take, drop, Option, Some, None, Result, Ok, Err, refl, sym, ap, ◌∙◌, subst, arith, append_assoc, append-nil, Appends, length-drop, take-append-drop, RunFault, Output, Task, IsFront, Act, Closed, Record, texts_of, WritesPart, Ran, state_after, AreReadings, Reads, Scope, Plan, Tally, front_text, text_by, end_of_run, Stop, AreWritten, IsPartOfNext, IsStationRun, StationRun, acts_measured, records_in, records_of_run, scope_of, without_last, flat_map-append}
use Rattle.gc_measuring.specs.declared.stop.Stop.TheVariants.{Run}

-- what is appended to known bytes comes after them
pub appended_to_known : (start bytes : List ℕ) (has : Option (List ℕ)) → Appends (Some start) has bytes → has ≡ Some (start ++ bytes)
appended_to_known start bytes None e = absurd e
appended_to_known start bytes (Some ys) e = ap Some e

module _ (text : Record → List ℕ) where
  -- a sink that had the bytes `start` has these records' texts after them now, all or, if the output failed, the first ones and
  -- a part of the next
  pub record Took (records : List Record) (result : Result Tally Stop) (start : List ℕ) (has : Option (List ℕ)) : Type 0 where
    pub torn : List ℕ
    pub are : AreWritten text records result torn
    pub is : has ≡ Some (start ++ (texts_of text are.written ++ torn))

  -- if all texts were written, `Took` holds
  took_all : (records : List Record) (result : Result Tally Stop) (start : List ℕ) (has : Option (List ℕ)) → Appends (Some start) has (texts_of text records) → Took records result start has
  took_all records result start has took = record {
    torn = [];
    are = record { written = records; unwritten = []; order = sym (append-nil records); all = λ _. refl; part = refl };
    is = appended_to_known start (texts_of text records) has took ∙ ap (λ (l : List ℕ). Some (start ++ l)) (sym (append-nil (texts_of text records)));
  }

  -- if a part was written and the output failed, `Took` holds
  took_part : (before records : List Record) (start : List ℕ) (has : Option (List ℕ)) → WritesPart text before records (Some start) has → Took records (Err (Run Output)) start has
  took_part before records start has w = record {
    torn = take w.part (text w.next);
    are = record {
      written = before ++ w.earlier;
      unwritten = w.next ∷ w.later;
      order = w.order ∙ sym (append_assoc before w.earlier (w.next ∷ w.later));
      all = λ no. absurd (no refl);
      part = (drop w.part (text w.next), sym (take-append-drop w.part (text w.next)), let left = length-drop w.part (text w.next) in let some = w.not_all in omega (arith, left, some));
    };
    is = appended_to_known start (texts_of text (before ++ w.earlier) ++ take w.part (text w.next)) has w.took;
  }

  module _ (plan : Plan) (commands : List Task) (scope : Scope) (told : List Act) (start : List ℕ) (has : Option (List ℕ)) where
    -- if the texts of all records of these acts were written, `Took` holds
    took_records : (acts measured : List Act) (result : Result Tally Stop) → measured ≡ acts → Appends (Some start) has (texts_of text (state_after plan commands scope acts).records)
        → Took (state_after plan commands scope measured).records result start has
    took_records acts measured result e took =
        subst (λ (xs : List Act). Took (state_after plan commands scope xs).records result start has) (sym e) (took_all (state_after plan commands scope acts).records result start has took)

    -- `Took` holds of a run, whatever its end
    ran_took : (end : Result Tally RunFault) → Ran plan commands scope text (Some []) (Some told) (Some start) has end
        → Took (state_after plan commands scope (acts_measured (end_of_run end) told)).records (end_of_run end) start has
    ran_took (Ok tally) r = took_records r.1.acts told (Ok tally) r.1.tells r.1.took
    ran_took (Err Output) (inl r) =
        let whole : told ≡ (r.acts ++ r.last ∷ []) ++ Closed ∷ [] = r.tells ∙ sym (append_assoc r.acts (r.last ∷ []) (Closed ∷ [])) in
        let measured : acts_measured (Err (Run Output)) told ≡ r.acts ++ r.last ∷ [] = ap (acts_measured (Err (Run Output))) whole ∙ without_last (r.acts ++ r.last ∷ []) Closed in
        subst (λ (acts : List Act). Took (state_after plan commands scope acts).records (Err (Run Output)) start has) (sym measured)
        (took_part (state_after plan commands scope r.acts).records (state_after plan commands scope (r.acts ++ r.last ∷ [])).records start has r.took)
    ran_took (Err Output) (inr r) =
        took_records r.acts (acts_measured (Err (Run Output)) told) (Err (Run Output)) (ap (acts_measured (Err (Run Output))) r.tells ∙ without_last r.acts Closed) r.took
    ran_took (Err fault) r = took_records r.2.acts told (Err (Run fault)) r.2.tells r.2.took

-- a part of the next one of these records is a front of their texts
part_front : (text : Record → List ℕ) (records : List Record) (torn : List ℕ) → IsPartOfNext text records torn → IsFront torn (texts_of text records)
part_front text [] torn is = record { rest = []; split = sym (append-nil torn ∙ is) }
part_front text (next ∷ later) torn part =
    record { rest = part.0 ++ texts_of text later; split = ap (λ (l : List ℕ). l ++ texts_of text later) part.1 ∙ append_assoc torn part.0 (texts_of text later) }

-- what was written of records is a front of their texts
pub written_front : (text : Record → List ℕ) (records : List Record) (result : Result Tally Stop) (torn : List ℕ) (are : AreWritten text records result torn)
    → IsFront (texts_of text are.written ++ torn) (texts_of text records)
written_front text records result torn are =
    let part = part_front text are.unwritten torn are.part in
    record {
      rest = part.rest;
      split = ap (texts_of text) are.order ∙ flat_map-append text are.written are.unwritten ∙ ap (λ (l : List ℕ). texts_of text are.written ++ l) part.split
          ∙ sym (append_assoc (texts_of text are.written) torn part.rest);
    }

-- what a sink took of a run is what was written of its records, after what the sink had and what comes before the records
pub run_took : (reads : Reads) → AreReadings reads → (run : StationRun) (had : List ℕ) → IsStationRun run → run.old.taken ≡ Some had
    → Took (text_by run.survey) (records_of_run reads run) run.result (had ++ front_text run.survey.layout run.survey.labels.columns) run.new.taken
run_took reads are run had is took =
    let survey = run.survey in
    let b = is.ran in
    let text = text_by survey in
    let scope = scope_of survey reads in
    let start = had ++ front_text survey.layout survey.labels.columns in
    let between : b.between ≡ Some start =
    appended_to_known had (front_text survey.layout survey.labels.columns) b.between (subst (λ (t : Option (List ℕ)). Appends t b.between (front_text survey.layout survey.labels.columns)) took b.front) in
    let ran : Ran survey.plan survey.tasks scope text (Some []) (Some run.recorded) (Some start) run.new.taken b.end =
    subst (λ (t : Option (List ℕ)). Ran survey.plan survey.tasks scope text (Some []) (Some run.recorded) t run.new.taken b.end) between
    (subst (λ (t : Option (List Act)). Ran survey.plan survey.tasks scope text (Some []) t b.between run.new.taken b.end) is.acts
    (subst (λ (t : Option (List Act)). Ran survey.plan survey.tasks scope text t run.new.acts b.between run.new.taken b.end) is.none (b.run.ran.0 reads are))) in
    subst (λ (r : Result Tally Stop). Took text (records_in survey reads (acts_measured r run.recorded)) r start run.new.taken) (sym b.is)
    (ran_took text survey.plan survey.tasks scope run.recorded start run.new.taken b.end ran)
