-- The rows of the eventful run, computed, are their own: what is in a row of an answer was made by the instrument on
-- executing the very request of the row's cycle and place.
use Rattle.gc_program_theorems.proofs.Common.{List, [], Some, Ok, false, refl, subst, sym, AllByRecursion, Form, Json, days_after, Snapshot, Record, AreReadings, Reads, Done, RunsAfterFront, text_in, AnyState, never_kept, acts, at_start, off_target_reply, empty_reply, measured_reply, numbered_reply, pointed_reply, program, tally, reporting, IsOwnIfAnswered, IsFieldRun, table_form, no_labels, HasOwnRows, SomeRowIsItsOwn, survey, table_layout, layout_in, ports_at, run_in, taken, AreTyped}
use Rattle.std.specs.Fmt.{digits}
use Rattle.gc_station.proofs.Readings.{for_readings}
use Rattle.gc_program_theorems.proofs.Eventful.{eventful, ran_whole}
use Rattle.gc_program_theorems.proofs.Owning.{rows_own}
use Rattle.gc_program_theorems.proofs.Tabled.{tables_own}
use Rattle.gc_program_theorems.proofs.Turned.{keeps_whole, turns}
use Rattle.gc_program_theorems.proofs.Typed.{records_are_typed}
use Rattle.gc_program_theorems.proofs.Objected.{objects_own}

-- the row of each of these records whose command a reply in time ended is its own
abbrev EachHasOwnRow : Reads → List Record → Type 0
EachHasOwnRow reads = AllByRecursion (IsOwnIfAnswered reporting AnyState never_kept table_layout no_labels at_start (program reads))

-- what is seen at each act of the eventful run, where its records are written in this form
abbrev turns_in : Form → List Snapshot
turns_in form = turns (text_in (layout_in form) no_labels)

-- in each form, the run is one as a station's contract has it
is_measured : (form : Form) → RunsAfterFront (survey form) (ports_at [] [] []) (ports_at acts (taken form) (turns_in form)) (Ok tally)
is_measured form =
    record {
      between = Some [];
      front = refl;
      end = Ok tally;
      is = refl;
      run = record {
        ran = for_readings _ (λ reads are. (Done, ran_whole (text_in (layout_in form) no_labels) reads are, refl));
        keeps = for_readings _ (keeps_whole (text_in (layout_in form) no_labels));
      };
    }

-- in each form, the eventful run is one in the field
is_field_run : (reads : Reads) → AreReadings reads → (form : Form) → IsFieldRun reporting never_kept reads (run_in form (turns_in form))
is_field_run reads are form = record { is_run = record { labels = record { each = tt; new = refl; plain = refl }; none = refl; acts = refl; ran = is_measured form }; took = refl; in_field = (eventful reads are).field }

-- `HasOwnRows` holds of the eventful run, with every function that gives what each reply says of its call
own_rows : (reads : Reads) → AreReadings reads → HasOwnRows reads
unfolding digits days_after
own_rows reads are =
    let run = eventful reads are in
    let all = rows_own reporting never_kept run.is_instrument table_layout false no_labels refl at_start (program reads) run.field in
    let each = subst (EachHasOwnRow reads) run.written all in
    let answers = each.1.1.1.1.1.1.1.1.1.1.1.1.1.1 in
    record {
      run = run;
      points = (refl, answers.0 pointed_reply refl);
      chained = (refl, answers.1.0 measured_reply refl);
      off_target = (refl, answers.1.1.0 off_target_reply refl);
      number = (refl, answers.1.1.1.0 numbered_reply refl);
      unreadable = (refl, answers.1.1.1.1.0 empty_reply refl);
      turns = turns_in;
      tables = λ columns.
          tables_own reporting never_kept run.is_instrument reads are (run_in (table_form columns) (turns_in (table_form columns))) (is_field_run reads are (table_form columns)) columns refl;
      objects = objects_own reporting never_kept run.is_instrument reads are (run_in Json (turns_in Json)) (is_field_run reads are Json) refl
          (subst (AreTyped (survey Json)) (sym run.written) records_are_typed);
    }

-- the eventful run meets all that the law on rows asks, and its rows are their own
pub witnessed : SomeRowIsItsOwn
witnessed = record { own = for_readings HasOwnRows own_rows; measured = λ form. (turns_in form, is_measured form) }
