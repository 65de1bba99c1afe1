-- A run of a file, with earlier runs or events before it and later ones after it: a sync in it kept all that it had taken by
-- then. A file's life is what it held when the machine started, and the calls since then. Its sides are two lives: the one that
-- a read returns, and the one of which a crash may leave a part.
use Rattle.gc_files.proofs.Common.{◌≡◌, inl, inr, ℕ, ◌≤◌, Bool, true, false, List, [], ◌∷◌, ◌++◌, length, take, refl, sym, ◌∙◌, ap, subst, append_assoc, None, cases_Bool, Sides, Event, Ran, Copied, Crashed, feeds, sides_by, sides_after, doubt_by, doubt_after, ArePossibleEvents, runs_of, IsTrusted, Step, Append, Cut, Sync, Life, has_sync, whole, opened_table, head_written, OpensFile, mended, cuts_none, appended, IsFront, synced, Run, row_lines, IsRun, WereKept, OpensAndWrites, Happen, life_after, life_once_ended, rows_of, AreRowCounts, HasRows}
use Rattle.std.proofs.Common.{append-nil}
use Rattle.gc_files.proofs.Killing.{openings_are_runs}
use Rattle.gc_files.proofs.Moments.{mended_by_two_steps, mend_synced, none_synced}
use Rattle.gc_files.proofs.Whole.{whole_more}
use Rattle.gc_files.proofs.Pieces.{all_pieces, pieces_rows, pieces_whole, pieces_fit, pieces_front}

-- What was synced.

-- if there is a sync among the steps `xs`, there is one among `xs` and `ys` together
has_sync_first : (xs ys : List Step) → has_sync xs ≡ true → has_sync (xs ++ ys) ≡ true
has_sync_first [] ys some = let wrong : false ≡ true = some in cc
has_sync_first (Append bytes ∷ xs) ys some = has_sync_first xs ys some
has_sync_first (Cut size ∷ xs) ys some = has_sync_first xs ys some
has_sync_first (Sync ∷ xs) ys some = refl

-- if there is a sync among the steps `ys`, there is one among `xs` and `ys` together
has_sync_behind : (xs ys : List Step) → has_sync ys ≡ true → has_sync (xs ++ ys) ≡ true
has_sync_behind [] ys some = some
has_sync_behind (Append bytes ∷ xs) ys some = has_sync_behind xs ys some
has_sync_behind (Cut size ∷ xs) ys some = has_sync_behind xs ys some
has_sync_behind (Sync ∷ xs) ys some = refl

-- the empty list is a front of any bytes
front_nil : (all : List ℕ) → IsFront [] all
front_nil all = record { rest = all; split = refl }

-- a front stays one if the same bytes come before both
front_behind : (xs front all : List ℕ) → IsFront front all → IsFront (xs ++ front) (xs ++ all)
front_behind xs front all f = record { rest = f.rest; split = ap (λ (l : List ℕ). xs ++ l) f.split ∙ sym (append_assoc xs front f.rest) }

-- what was synced by some steps is a front of what is synced by them and more
synced_more : (xs ys : List Step) → IsFront (synced xs) (synced (xs ++ ys))
synced_more [] ys = front_nil (synced ys)
synced_more (Append bytes ∷ xs) ys = elim (cases_Bool (has_sync xs)) [
  | inl some ↦ rw (some, has_sync_first xs ys some) (front_behind bytes (synced xs) (synced (xs ++ ys)) (synced_more xs ys))
  | inr isnt ↦ rw (isnt) (front_nil (synced (Append bytes ∷ (xs ++ ys))))
]
synced_more (Cut size ∷ xs) ys = synced_more xs ys
synced_more (Sync ∷ xs) ys = synced_more xs ys

-- if there is a sync among the later steps `ys`, what is synced by the steps `xs` and `ys` is all that `xs` appended, and then
-- what `ys` sync
synced_behind : (xs ys : List Step) → has_sync ys ≡ true → synced (xs ++ ys) ≡ appended xs ++ synced ys
synced_behind [] ys some = refl
synced_behind (Append bytes ∷ xs) ys some =
    rw (has_sync_behind xs ys some) (ap (λ (l : List ℕ). bytes ++ l) (synced_behind xs ys some) ∙ sym (append_assoc bytes (appended xs) (synced ys)))
synced_behind (Cut size ∷ xs) ys some = synced_behind xs ys some
synced_behind (Sync ∷ xs) ys some = synced_behind xs ys some

-- The run.

-- if no step cuts the file, none of the first ones does
pub cuts_first : (xs ys : List Step) → cuts_none (xs ++ ys) ≡ true → cuts_none xs ≡ true
cuts_first [] ys none = refl
cuts_first (Append bytes ∷ xs) ys none = cuts_first xs ys none
cuts_first (Sync ∷ xs) ys none = cuts_first xs ys none
cuts_first (Cut size ∷ xs) ys none = let wrong : false ≡ true = none in cc

-- a run of the file that no crash ends. `steps` are those of its opening, and `calls` those after that. `all` are all rows that
-- it may append; of these the rows of `taken`, which it had appended by a sync, count as kept
abbrev pub run_by : (steps calls : List Step) (taken all : List ℕ) → Run
run_by steps calls taken all = record { rows = all_pieces all; steps = steps ++ calls; kept = feeds taken; left = None }

module _ (head held : List ℕ) (steps was since : List Step) (rest : List ℕ) (opened : OpensFile head held steps)
    (kept : synced was ≡ appended was) (is_whole : whole (appended was) ≡ appended was) where
  -- if a sync is among the calls `was`, what was at the start and all that these calls appended is a front of what is synced,
  -- whatever calls follow
  synced_all : has_sync was ≡ true → IsFront (head_written head held ++ appended was) (synced (steps ++ (was ++ since)))
  synced_all some =
      let all : synced (steps ++ (was ++ since)) ≡ head_written head held ++ synced (was ++ since) =
      ap (λ (xs : List Step). synced (xs ++ (was ++ since))) opened.split ∙ ap synced (append_assoc (mended held) opened.later (was ++ since))
      ∙ ap (λ (xs : List Step). synced (xs ++ (opened.later ++ (was ++ since)))) (sym (mended_by_two_steps held)) ∙ mend_synced held 2 (opened.later ++ (was ++ since))
      ∙ synced_behind opened.later (was ++ since) (has_sync_first was since some) ∙ ap (λ (l : List ℕ). l ++ synced (was ++ since)) opened.puts.all in
      subst (λ (l : List ℕ). IsFront (head_written head held ++ appended was) l) (sym all)
      (front_behind (head_written head held) (appended was) (synced (was ++ since)) (subst (λ (l : List ℕ). IsFront l (synced (was ++ since))) kept (synced_more was since)))

  -- all rows that the calls `was` appended count as kept
  were_kept : WereKept head held (all_pieces (appended was ++ rest)) (feeds (appended was)) (steps ++ (was ++ since))
  were_kept = elim (cases_Bool (has_sync was)) [
    | inl some ↦
        inr (subst (λ (l : List ℕ). IsFront (head_written head held ++ l) (synced (steps ++ (was ++ since)))) (sym (pieces_front (appended was) rest is_whole)) (synced_all some))
    | inr isnt ↦ inl (ap feeds (sym kept ∙ none_synced was isnt))
  ]

  -- if the rows that may follow (`rest`) are whole, no call cuts the file, and what the calls appended is a front of all rows,
  -- these steps are those of a run of the file (`run_by`), in which the rows that the calls `was` appended count as kept
  pub is_run : whole rest ≡ rest → cuts_none (was ++ since) ≡ true → IsFront (appended (was ++ since)) (appended was ++ rest)
      → IsRun head held (run_by steps (was ++ since) (appended was) (appended was ++ rest))
  is_run rest_whole none front =
      let all = appended was ++ rest in
      let all_whole : whole all ≡ all = whole_more (appended was) rest is_whole ∙ ap (λ (l : List ℕ). appended was ++ l) rest_whole in
      let run = run_by steps (was ++ since) (appended was) all in
      let did : OpensAndWrites head held run = record {
        opening = steps;
        later = was ++ since;
        split = refl;
        opened = opened;
        front = appended (was ++ since);
        puts = record { none_cut = none; all = refl };
        is_front = subst (λ (l : List ℕ). IsFront (appended (was ++ since)) l) (sym (pieces_whole all all_whole)) front;
      } in
      openings_are_runs head held run did (pieces_rows all) (pieces_fit (appended was) rest is_whole) were_kept

-- After other runs and events.

-- runs that may happen, and then others that may happen after them, may happen as one list
pub happen_append : (head : List ℕ) (life : Life) (xs ys : List Run) → Happen head life xs → Happen head (life_after life xs) ys → Happen head life (xs ++ ys)
happen_append head life [] ys first second = second
happen_append head life (run ∷ xs) ys first second = (first.0, first.1, happen_append head (life_once_ended life run run.left) xs ys first.2 second)

-- the life of a file after two lists of runs is what the second makes of the life after the first
pub life_append : (life : Life) (xs ys : List Run) → life_after life (xs ++ ys) ≡ life_after (life_after life xs) ys
life_append life [] ys = refl
life_append life (run ∷ xs) ys = life_append (life_once_ended life run run.left) xs ys

-- a table with the rows of runs, split at one of them: what was there before all runs (`before`), and rows of the earlier ones;
-- the first of its own rows, at least those that it kept; and rows of the later runs
pub record SplitsAtRun (head before found : List ℕ) (earlier later : List Run) (run : Run) : Type 0 where
  pub counts : List ℕ
  pub first : AreRowCounts earlier counts
  pub count : ℕ
  pub least : run.kept ≤ count
  pub few : count ≤ length run.rows
  pub counts' : List ℕ
  pub others : AreRowCounts later counts'
  pub is : opened_table head found ≡ ((before ++ rows_of earlier counts) ++ row_lines (take count run.rows)) ++ rows_of later counts'

-- a table with the rows of runs splits at each of the runs: into rows of the runs before it, of the run, and of those after it
pub splits_at_run : (head before found : List ℕ) (earlier later : List Run) (run : Run) → HasRows head before (earlier ++ run ∷ later) found → SplitsAtRun head before found earlier later run
splits_at_run head before found [] later run ([], cs, is) = absurd cs
splits_at_run head before found [] later run (n ∷ counts, cs, is) = record {
  counts = [];
  first = tt;
  count = n;
  least = cs.0;
  few = cs.1;
  counts' = counts;
  others = cs.2;
  is = is ∙ sym (append_assoc before (row_lines (take n run.rows)) (rows_of later counts))
      ∙ ap (λ (l : List ℕ). (l ++ row_lines (take n run.rows)) ++ rows_of later counts) (sym (append-nil before));
}
splits_at_run head before found (r ∷ earlier) later run ([], cs, is) = absurd cs
splits_at_run head before found (r ∷ earlier) later run (n ∷ counts, cs, is) =
    let p = splits_at_run head (before ++ row_lines (take n r.rows)) found earlier later run
    (counts, cs.2, is ∙ sym (append_assoc before (row_lines (take n r.rows)) (rows_of (earlier ++ run ∷ later) counts))) in
    record {
      counts = n ∷ p.counts;
      first = (cs.0, cs.1, p.first);
      count = p.count;
      least = p.least;
      few = p.few;
      counts' = p.counts';
      others = p.others;
      is = p.is ∙ ap (λ (l : List ℕ). (l ++ row_lines (take p.count run.rows)) ++ rows_of later p.counts') (append_assoc before (row_lines (take n r.rows)) (rows_of earlier p.counts));
    }

-- the rows of an empty list of runs are empty, so appending them changes nothing
pub no_rows_of_none : (counts : List ℕ) → AreRowCounts [] counts → (l : List ℕ) → l ++ rows_of [] counts ≡ l
no_rows_of_none [] cs l = append-nil l
no_rows_of_none (n ∷ counts) cs l = absurd cs

-- the sides of a file after two lists of events are what the second makes of the sides after the first
pub sides_append : (sides : Sides) (xs ys : List Event) → sides_after sides (xs ++ ys) ≡ sides_after (sides_after sides xs) ys
sides_append sides [] ys = refl
sides_append sides (event ∷ xs) ys = sides_append (sides_by event sides) xs ys

-- the runs of two lists of events are those of the first and then those of the second
pub runs_of_append : (xs ys : List Event) → runs_of (xs ++ ys) ≡ runs_of xs ++ runs_of ys
runs_of_append [] ys = refl
runs_of_append (Ran run ending ∷ xs) ys = ap (λ (rs : List Run). run ∷ rs) (runs_of_append xs ys)
runs_of_append (Copied named ∷ xs) ys = runs_of_append xs ys
runs_of_append (Crashed left ∷ xs) ys = runs_of_append xs ys

-- events that can happen, and then others that can happen after them, can happen as one list
pub possible_events_append : (head : List ℕ) (sides : Sides) (doubted : Bool) (xs ys : List Event) → ArePossibleEvents IsTrusted head sides doubted xs
    → ArePossibleEvents IsTrusted head (sides_after sides xs) (doubt_after doubted xs) ys → ArePossibleEvents IsTrusted head sides doubted (xs ++ ys)
possible_events_append head sides doubted [] ys first second = second
possible_events_append head sides doubted (event ∷ xs) ys first second = (first.0, possible_events_append head (sides_by event sides) (doubt_by event doubted) xs ys first.1 second)
