-- The rows that are left of a run that goes on or was killed, at one of its moments: what its acts settle, and the laws on files of rows, put
-- together.
use Rattle.gc_program_theorems.proofs.Common.{◌≡◌, ℕ, ◌≤◌, Bool, true, false, List, [], ◌∷◌, ◌++◌, take, sym, ◌∙◌, ap, subst, append_assoc, not-true, not, Sides, RunEnd, MayEnd, sides_ended, doubt_ended, Event, feeds, settled, same_sides, doubt_after, ArePossibleEvents, runs_of, IsFound, IsTrusted, Step, Life, content, MayBeLeft, whole, opened_table, OpensFile, cuts_none, appended, synced, row_lines, IsRun, HasRows, steps_in, taken_in, appended_two, whole_more, Act, bytes_in, steps_before, AreReadings, Reads, text_by, life_begun, sides_begun, AreLeftSoFar, FileRunSoFar, IsFileRunSoFar, RowsSoFarOutlastCrashes, RowsSoFarOutlastFailures, texts_by, records_in, all_pieces, rows_left, whole_rest, run_by, is_run, happen_append, life_append, no_rows_of_none, splits_at_run, possible_events_append, sides_append, runs_of_append}
use Rattle.std.specs.Prelude.{if◌then◌else◌}
use Rattle.gc_files.specs.Prelude.{Ran, Run}
use Rattle.gc_files.proofs.Failing.{tables_outlast_failures}
use Rattle.gc_files.proofs.Lasting.{tables_last}
use Rattle.gc_program_theorems.proofs.Ended.{text_whole}
use Rattle.gc_program_theorems.proofs.Seen.{texts_whole}

module _ {R : Type 0} (reads : Reads) (are : AreReadings reads) (m : FileRunSoFar R) (is : IsFileRunSoFar reads m) where
  -- the rows of what any acts settle end in a line feed, unless there is none
  rows_whole : (acts : List Act) → whole (texts_by m.survey reads acts) ≡ texts_by m.survey reads acts
  rows_whole acts = texts_whole (text_by m.survey) (text_whole m.survey.layout m.survey.labels) (records_in m.survey reads acts)

  -- what the run wrote into files before this one
  abbrev earlier_bytes : List ℕ
  earlier_bytes = appended (steps_before m.was)

  -- what this file had taken after the acts `done`
  abbrev taken : List ℕ
  taken = taken_in m.was.rows

  -- the file's calls since then
  abbrev since : List Step
  since = is.since

  -- all rows of the run's records after what the file had taken then
  abbrev rest : List ℕ
  rest = appended since ++ is.own.rest

  -- what the file had taken then ends in a line feed, unless it is nothing
  taken_whole : whole taken ≡ taken
  taken_whole = whole_rest earlier_bytes taken (rw (is.settled) (rows_whole m.done))

  -- all rows of the run's records are those of earlier files, those that the file had taken, and a rest
  all_is : texts_by m.survey reads m.acts ≡ earlier_bytes ++ (taken ++ rest)
  all_is =
      is.own.split ∙ append_assoc (earlier_bytes ++ taken) (appended since) is.own.rest ∙ append_assoc earlier_bytes taken (appended since ++ is.own.rest)

  -- the rows that may follow (`rest`) end in a line feed, unless there are none
  rest_whole : whole rest ≡ rest
  rest_whole = whole_rest taken rest (whole_rest earlier_bytes (taken ++ rest) (subst (λ (l : List ℕ). whole l ≡ l) all_is (rows_whole m.acts)))

  -- what the file had taken was all synced
  kept : synced (steps_in m.was.rows) ≡ taken
  kept =
      let isnt : not m.was.rows.unkept ≡ true = subst (λ (b : Bool). (if b then not m.was.rows.unkept else true) ≡ true) is.syncs is.lasts in
      m.was.rows.kept (not-true m.was.rows.unkept isnt)

  -- `AreLeftSoFar` holds of the first `count` lines of `taken` and `rest`, if these are at least as many as the lines of `taken`
  left_of : (count : ℕ) → feeds taken ≤ count → AreLeftSoFar m reads (row_lines (take count (all_pieces (taken ++ rest))))
  left_of count least =
      let l = rows_left taken rest count taken_whole rest_whole least in
      record {
        more = l.more;
        has = l.has;
        own = record {
          rest = l.own.rest;
          split = all_is ∙ ap (λ (xs : List ℕ). earlier_bytes ++ xs) l.own.split ∙ sym (append_assoc earlier_bytes (taken ++ l.more) l.own.rest)
              ∙ ap (λ (xs : List ℕ). xs ++ l.own.rest) (sym (append_assoc earlier_bytes taken l.more));
        };
        lines = whole_more (bytes_in m.was) l.more (rw (is.settled) (rows_whole m.done)) ∙ ap (λ (xs : List ℕ). bytes_in m.was ++ xs) l.lines;
      }

  -- the run as the laws on files of rows have one: after the calls of its opening, those up to the moment
  abbrev run : List Step → Run
  run steps = run_by steps m.calls taken (taken ++ rest)

  -- with the calls of an opening of a file that held these bytes, `run` is a run as the laws on files of rows have one
  run_is_run : (head held : List ℕ) (steps : List Step) → OpensFile head held steps → IsRun head held (run steps)
  run_is_run head held steps opens =
      subst (λ (calls : List Step). IsRun head held (run_by steps calls taken (taken ++ rest))) (sym is.begins)
      (is_run head held steps (steps_in m.was.rows) since rest opens kept taken_whole rest_whole (subst (λ (l : List Step). cuts_none l ≡ true) is.begins is.appends)
      (record {
        rest = is.own.rest;
        split = sym (append_assoc taken (appended since) is.own.rest) ∙ ap (λ (l : List ℕ). l ++ is.own.rest) (sym (appended_two (steps_in m.was.rows) since));
      }))

-- the law on crashes: after one, the file's table is the one that was there at first, rows of the earlier runs, and the rows
-- that are left of this run
pub so_far_outlast_crashes : {R : Type 0} → RowsSoFarOutlastCrashes R
so_far_outlast_crashes reads are m is x was =
    let one_run : Run = run reads are m is x.opening in
    let now = run_is_run reads are m is x.head (content (life_begun x)) x.opening was.opens in
    let all = happen_append x.head (settled x.first) x.earlier (one_run ∷ []) was.happened (now, tt, tt) in
    let there = subst (λ (l : Life). MayBeLeft l x.found) (sym (life_append (settled x.first) x.earlier (one_run ∷ []))) was.is_found in
    let p = splits_at_run x.head (opened_table x.head x.first) x.found x.earlier [] one_run (tables_last x.head x.first was.is_head (x.earlier ++ one_run ∷ []) all x.found there) in
    (p.counts, row_lines (take p.count one_run.rows), p.first, left_of reads are m is p.count p.least, p.is ∙ no_rows_of_none p.counts' p.others _)

-- the law on failed syncs: where a run ended by a kill or by a sync that failed, and events came before and after, the file's
-- table is the one that was there at first, rows of the earlier runs, the rows that are left of this run, and rows of the later
-- ones
pub so_far_outlast_failures : {R : Type 0} → RowsSoFarOutlastFailures R
so_far_outlast_failures reads are m is x was =
    let sides = sides_begun x in
    let one_run : Run = run reads are m is x.opening in
    let event = Ran one_run x.ending in
    let now = run_is_run reads are m is x.head (content sides.read) x.opening was.opens in
    let behind = possible_after x.head sides (doubt_after false x.earlier) one_run x.ending x.later was.trusted now was.ends was.happened_after in
    let all = possible_events_append x.head (same_sides (settled x.first)) false x.earlier (event ∷ x.later) was.happened_before behind in
    let there = subst (λ (s : Sides). IsFound s x.found) (sym (sides_append (same_sides (settled x.first)) x.earlier (event ∷ x.later))) was.is_found in
    let has = tables_outlast_failures x.head x.first was.is_head (x.earlier ++ event ∷ x.later) all x.found there in
    let p = splits_at_run x.head (opened_table x.head x.first) x.found (runs_of x.earlier) (runs_of x.later) one_run
    (subst (λ (rs : List Run). HasRows x.head (opened_table x.head x.first) rs x.found) (runs_of_append x.earlier (event ∷ x.later)) has) in
    (p.counts, row_lines (take p.count one_run.rows), p.counts', p.first, left_of reads are m is p.count p.least, p.others, p.is)
  where
    -- a run that ends in this way, in a file that isn't in doubt, and events that can happen after that, can happen as one list
    possible_after : (head : List ℕ) (sides : Sides) (doubted : Bool) (run : Run) (ending : RunEnd) (later : List Event) → doubted ≡ false → IsRun head (content sides.read) run
        → MayEnd sides run.steps ending → ArePossibleEvents IsTrusted head (sides_ended sides run.steps ending) (doubt_ended ending false) later
        → ArePossibleEvents IsTrusted head sides doubted (Ran run ending ∷ later)
    possible_after head sides doubted run ending later trusted is ends after =
        ((trusted, is, ends), subst (λ (d : Bool). ArePossibleEvents IsTrusted head (sides_ended sides run.steps ending) (doubt_ended ending d) later) (sym trusted) after)
