-- What is left of the rows of a run that was killed, or whose sync failed, as it is read: whole rows, each its own.
use Rattle.gc_program_theorems.proofs.Common.{◌≡◌, ℕ, Bool, List, sym, ap, ◌∙◌, subst, Json, AreReadings, Reads, AnyState, own_or_damaged_lines, AreLeft, RunMoment, AreLeftSoFar, AreLeftObjects, IsLeftTable, LeftObjectsAreOwnOrDamaged, LeftObjectsAreTheirOwn, LeftTablesAreOwnOrDamaged, LeftTablesAreTheirOwn, AreTyped, file_so_far_at, Answers, StationRun, acts_in, own_lines, records_of_run, table_form}
use Rattle.gc_program_theorems.proofs.Damaged.{answered}
use Rattle.gc_program_theorems.proofs.LeftSoFar.{left_objects, left_table}
use Rattle.gc_program_theorems.proofs.Written.{IsAnswered, answered_in_field}

-- what is left of a run is left of it as a run so far
left_so_far : {R : Type 0} (m : RunMoment R) (reads : Reads) (left : List ℕ) → AreLeft m reads left → AreLeftSoFar (file_so_far_at m) reads left
left_so_far m reads left l = record { more = l.more; has = l.has; own = l.own; lines = l.lines }

module _ {R : Type 0} (CanAnswer : Answers) (reads : Reads) (are : AreReadings reads) (m : RunMoment R) (is : IsAnswered CanAnswer reads m.run.survey (acts_in m.run))
    (left : List ℕ) (left_are : AreLeft m reads left) where
  -- what is left is a table's
  table_left : (columns : Bool) → m.run.survey.layout.form ≡ table_form columns → IsLeftTable CanAnswer columns reads m left
  table_left columns form =
      let t = left_table CanAnswer reads are (file_so_far_at m) is left (left_so_far m reads left left_are) columns form in
      record {
        records = t.records;
        is_of = record { more = t.is_of.more; has = t.is_of.has; others = t.is_of.others; order = t.is_of.order; texts = t.is_of.texts };
        rows = t.rows;
        reads_as = t.reads_as;
        one_for_one = t.one_for_one;
      }

  -- what is left are objects
  objects_left : m.run.survey.layout.form ≡ Json → AreTyped m.run.survey (records_of_run reads m.run) → AreLeftObjects CanAnswer reads m left
  objects_left form small =
      let t = left_objects CanAnswer reads are (file_so_far_at m) is left (left_so_far m reads left left_are) form small in
      record {
        records = t.records;
        is_of = record { more = t.is_of.more; has = t.is_of.has; others = t.is_of.others; order = t.is_of.order; texts = t.is_of.texts };
        lines = t.lines;
        split = t.split;
        unbroken = t.unbroken;
        one_for_one = t.one_for_one;
      }

-- a run that is answered is answered under another name
renamed : (CanAnswer : Answers) (reads : Reads) (run other : StationRun) → other ≡ run → IsAnswered CanAnswer reads run.survey (acts_in run)
    → IsAnswered CanAnswer reads other.survey (acts_in other)
renamed CanAnswer reads run other same is = subst (λ (r : StationRun). IsAnswered CanAnswer reads r.survey (acts_in r)) (sym same) is

-- what is left of a run in the field are its own rows
pub left_tables_own : {R State : Type 0} → LeftTablesAreTheirOwn R State
left_tables_own ends kept is reads are x was columns form m left same l =
    let can = own_lines ends AnyState kept reads x in
    table_left can reads are m (renamed can reads x.run m.run same (answered_in_field ends kept is reads x was)) left l columns
    (ap (λ (run : StationRun). run.survey.layout.form) same ∙ form)

-- or its own objects
pub left_objects_own : {R State : Type 0} → LeftObjectsAreTheirOwn R State
left_objects_own ends kept is reads are x was form small m left same l =
    let can = own_lines ends AnyState kept reads x in
    objects_left can reads are m (renamed can reads x.run m.run same (answered_in_field ends kept is reads x was)) left l
    (ap (λ (run : StationRun). run.survey.layout.form) same ∙ form) (subst (λ (run : StationRun). AreTyped run.survey (records_of_run reads run)) (sym same) small)

-- what is left of a run over a line that damages are rows by lines that are own or damaged
pub left_tables_own_or_damaged : {R State : Type 0} → LeftTablesAreOwnOrDamaged R State
left_tables_own_or_damaged ends kept is reads are x was columns form m left same l =
    let can = own_or_damaged_lines ends reads x in
    table_left can reads are m (renamed can reads x.run m.run same (answered ends kept is reads x was)) left l columns
    (ap (λ (run : StationRun). run.survey.layout.form) same ∙ form)

-- or such objects
pub left_objects_own_or_damaged : {R State : Type 0} → LeftObjectsAreOwnOrDamaged R State
left_objects_own_or_damaged ends kept is reads are x was form small m left same l =
    let can = own_or_damaged_lines ends reads x in
    objects_left can reads are m (renamed can reads x.run m.run same (answered ends kept is reads x was)) left l
    (ap (λ (run : StationRun). run.survey.layout.form) same ∙ form) (subst (λ (run : StationRun). AreTyped run.survey (records_of_run reads run)) (sym same) small)
