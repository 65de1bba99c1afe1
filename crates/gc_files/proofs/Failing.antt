-- Over failed syncs a table stays, where a copy takes the file's place before a run goes on. A file has two sides: what a
-- read returns, and what is on the disk. `Lasts` says of a side that whatever a crash leaves of it has the rows of some runs
-- after the table from before them.
use Rattle.gc_files.proofs.Common.{◌≡◌, inl, inr, ℕ, Bool, true, false, List, [], ◌∷◌, ◌++◌, refl, sym, ◌∙◌, ap, subst, append_assoc, append-nil, Life, content, later_by, has_feed, opened_table, Run, IsHead, IsRun, HasRows, Sides, settled, same_sides, done_by, Loses, Stopped, Unsynced, Event, Ran, Copied, Crashed, sides_after, ArePossibleEvents, runs_of, IsTrusted, IsFound, TablesOutlastFailures}
use Rattle.gc_files.proofs.Whole.{whole_front}
use Rattle.gc_files.proofs.Moments.{may_stay}
use Rattle.gc_files.proofs.Lasting.{Lasts, lasts_over_one_more, same_table}

-- both sides of a file have the rows of these runs after the table `before`, and the sides are the same where the file isn't
-- in doubt
record HasRowsOnBothSides (head before : List ℕ) (runs : List Run) (sides : Sides) (doubted : Bool) : Type 0 where
  read : HasRows head before runs (content sides.read)
  disk : Lasts head before runs sides.disk
  same : doubted ≡ false → sides.read ≡ sides.disk

-- bytes at the end that end no row are no part of the table
hole_has_no_row : (head front hole : List ℕ) → has_feed hole ≡ false → opened_table head (front ++ hole) ≡ opened_table head front
hole_has_no_row head front hole none = same_table head (front ++ hole) front (whole_front front hole none)

-- where a file that holds `held` has the rows of these runs, a file that holds `left` and has the same table has these rows,
-- too
same_rows : (head before : List ℕ) (runs : List Run) (held left : List ℕ)
    → HasRows head before runs held → opened_table head left ≡ opened_table head held → HasRows head before runs left
same_rows head before runs held left has same = (has.0, has.1, same ∙ has.2)

-- where all that a file holds is on the disk, and it has the rows of these runs, whatever a crash leaves has them
settled_lasts : (head before : List ℕ) (runs : List Run) (held : List ℕ)
    → HasRows head before runs held → Lasts head before runs (settled held)
settled_lasts head before runs held has left may = subst (HasRows head before runs) (sym may) has

-- where whatever a crash leaves of a side has the rows of these runs, what a failed sync makes of that side has them, too
lost_side_has_rows : (head before : List ℕ) (runs : List Run) (life : Life) (now : List ℕ)
    → Lasts head before runs life → Loses life now → HasRows head before runs now
lost_side_has_rows head before runs life now lasts lost =
    same_rows head before runs lost.front now (lasts lost.front lost.may) (ap (opened_table head) lost.is ∙ hole_has_no_row head lost.front lost.hole lost.none)

-- for a file with this head, and `before` as its table before all runs
module _ (head before : List ℕ) (heads : IsHead head) where
  -- where both sides have the rows of some runs, the file isn't in doubt, and one more run is over what a read returns (`IsRun`),
  -- then after the steps of that run the side on the disk has the rows of all these runs (`Lasts`)
  run_lasts : (runs : List Run) (sides : Sides) (run : Run)
      → HasRowsOnBothSides head before runs sides false → IsRun head (content sides.read) run
      → Lasts head before (runs ++ run ∷ []) (later_by run.steps sides.disk)
  run_lasts runs sides run has is = lasts_over_one_more head before heads runs sides.disk run has.disk (subst (λ (life : Life). IsRun head (content life) run) (has.same refl) is)

  -- as `run_lasts`, of both sides: after the steps of that run both have the rows of all these runs, and the file isn't in doubt
  after_run : (runs : List Run) (sides : Sides) (run : Run)
      → HasRowsOnBothSides head before runs sides false → IsRun head (content sides.read) run
      → HasRowsOnBothSides head before (runs ++ run ∷ []) (done_by run.steps sides) false
  after_run runs sides run has is =
      let more = run_lasts runs sides run has is in
      let both : later_by run.steps sides.read ≡ later_by run.steps sides.disk = ap (later_by run.steps) (has.same refl) in
      record {
        read = subst (λ (life : Life). HasRows head before (runs ++ run ∷ []) (content life)) (sym both)
            (more (content (later_by run.steps sides.disk)) (may_stay sides.disk.start (later_by run.steps sides.disk).steps));
        disk = more;
        same = λ _. both;
      }

  -- as `after_run`, where the last sync of that run failed, which made of each side what `Loses` allows: both sides have the rows
  -- of all these runs, and the file is in doubt
  after_failed_sync : (runs : List Run) (sides : Sides) (run : Run) (read disk : List ℕ)
      → HasRowsOnBothSides head before runs sides false → IsRun head (content sides.read) run
      → Loses (later_by run.steps sides.read) read → Loses (later_by run.steps sides.disk) disk
      → HasRowsOnBothSides head before (runs ++ run ∷ []) (record { read = settled read; disk = settled disk }) true
  after_failed_sync runs sides run read disk has is loses_read loses_disk =
      let all = runs ++ run ∷ [] in
      let more = run_lasts runs sides run has is in
      let there = subst (λ (life : Life). Loses life read) (ap (later_by run.steps) (has.same refl)) loses_read in
      record {
        read = lost_side_has_rows head before all (later_by run.steps sides.disk) read more there;
        disk = settled_lasts head before all disk (lost_side_has_rows head before all (later_by run.steps sides.disk) disk more loses_disk);
        same = λ wrong. let clash : true ≡ false = wrong in cc;
      }

  -- where both sides have the rows of the runs `done`, whatever is found after more events, among which runs go on only in a file
  -- that isn't in doubt, has the rows of `done`, and then those of the runs among these events
  lasts_over_events : (done : List Run) (sides : Sides) (doubted : Bool) (events : List Event)
      → HasRowsOnBothSides head before done sides doubted → ArePossibleEvents IsTrusted head sides doubted events
      → (left : List ℕ) → IsFound (sides_after sides events) left → HasRows head before (done ++ runs_of events) left
  lasts_over_events done sides doubted [] good possible left found =
      subst (λ (rs : List Run). HasRows head before rs left) (sym (append-nil done)) (elim found [
        | inl is ↦ subst (HasRows head before done) (sym is) good.read
        | inr may ↦ good.disk left may
      ])
  lasts_over_events done sides doubted (Ran run Stopped ∷ events) good possible left found =
      let trusted = subst (HasRowsOnBothSides head before done sides) possible.0.0 good in
      let next = subst (HasRowsOnBothSides head before (done ++ run ∷ []) (done_by run.steps sides)) (sym possible.0.0) (after_run done sides run trusted possible.0.1) in
      subst (λ (rs : List Run). HasRows head before rs left) (append_assoc done (run ∷ []) (runs_of events))
      (lasts_over_events (done ++ run ∷ []) (done_by run.steps sides) doubted events next possible.1 left found)
  lasts_over_events done sides doubted (Ran run (Unsynced read disk) ∷ events) good possible left found =
      let trusted = subst (HasRowsOnBothSides head before done sides) possible.0.0 good in
      let next = after_failed_sync done sides run read disk trusted possible.0.1 possible.0.2.0 possible.0.2.1 in
      subst (λ (rs : List Run). HasRows head before rs left) (append_assoc done (run ∷ []) (runs_of events))
      (lasts_over_events (done ++ run ∷ []) (record { read = settled read; disk = settled disk }) true events next possible.1 left found)
  lasts_over_events done sides doubted (Copied true ∷ events) good possible left found =
      let next : HasRowsOnBothSides head before done (same_sides (settled (content sides.read))) false = record {
        read = good.read;
        disk = settled_lasts head before done (content sides.read) good.read;
        same = λ _. refl;
      } in
      lasts_over_events done (same_sides (settled (content sides.read))) false events next possible.1 left found
  lasts_over_events done sides doubted (Copied false ∷ events) good possible left found =
      let next : HasRowsOnBothSides head before done (record { read = settled (content sides.read); disk = sides.disk }) true = record {
        read = good.read;
        disk = good.disk;
        same = λ wrong. let clash : true ≡ false = wrong in cc;
      } in
      lasts_over_events done (record { read = settled (content sides.read); disk = sides.disk }) true events next possible.1 left found
  lasts_over_events done sides doubted (Crashed there ∷ events) good possible left found =
      let has = good.disk there possible.0 in
      let next : HasRowsOnBothSides head before done (same_sides (settled there)) false = record { read = has; disk = settled_lasts head before done there has; same = λ _. refl } in
      lasts_over_events done (same_sides (settled there)) false events next possible.1 left found

-- the law: the table lasts over failed syncs, too, where no run goes on in a file in doubt
pub tables_outlast_failures : TablesOutlastFailures
tables_outlast_failures head held heads events possible left found =
    let has : HasRows head (opened_table head held) [] held = ([], tt, sym (append-nil (opened_table head held))) in
    lasts_over_events head (opened_table head held) heads [] (same_sides (settled held)) false events
    (record { read = has; disk = settled_lasts head (opened_table head held) [] held has; same = λ _. refl }) possible left found
