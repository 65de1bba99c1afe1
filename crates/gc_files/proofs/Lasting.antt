-- Over runs and crashes a table stays. A table is the head and the whole rows of a file; `held` is what the file held before a
-- run, and `left` what is found in it at some moment of the run or after it.
use Rattle.gc_files.proofs.Common.{◌≡◌, ◌⊎◌, inl, inr, ℕ, zero, suc, ◌≤◌, Bool, true, false, List, [], ◌∷◌, ◌++◌, length, take, refl, sym, ◌∙◌, ap, subst, arith, append_assoc, length-append, if◌then◌else◌, Option, Some, None, cases_Bool, append-nil, Step, Append, Cut, Sync, Life, has_sync, content, later_by, MayBeLeft, MayLeave, whole, row_line, is_empty, head_written, opened_table, mended, appended, MendedAndPut, IsFront, synced, Run, row_lines, run_bytes, AreRows, IsHead, IsRun, life_once_ended, CrashMayLeave, Happen, life_after, rows_of, AreRowCounts, HasRows, TablesLast}
use Rattle.std.proofs.lemmas.List.Prefix.{front_fits}
use Rattle.gc_files.specs.Files.{settled}
use Rattle.gc_files.proofs.Whole.{whole_whole, whole_more, Within, whole_rows_within}
use Rattle.gc_files.proofs.Moments.{may_stay, leaves_two, none_synced, mended_leaves_whole, mend_moments, mended_by_two_steps, mend_synced, front_take, put_moments}

-- the table of a file that holds `left` is the one from before a run and the first `count` of the run's rows, at least all that
-- end within the first k bytes of what the run appends
pub record HasRowsWithin (head held : List ℕ) (rows : List (List ℕ)) (k : ℕ) (left : List ℕ) : Type 0 where
  pub count : ℕ
  pub few : count ≤ length rows
  pub is : opened_table head left ≡ opened_table head held ++ row_lines (take count rows)
  pub least : (m : ℕ) → m ≤ length rows → length (run_bytes head held (take m rows)) ≤ k → m ≤ count

-- where `rows` are the whole rows of a file that holds `left`, the file's table is `rows`, or the head where `rows` is empty
table_by_whole_rows : (head left : List ℕ) (rows : List ℕ) → whole left ≡ rows → opened_table head left ≡ rows ++ (if is_empty rows then head else [])
table_by_whole_rows head left rows is = ap (λ (l : List ℕ). l ++ (if is_empty l then head else [])) is

-- where what is found, `left`, has the same table as what was there before a run, `held`, `HasRowsWithin` is true for 0 bytes:
-- none of the run's rows was added, and none ends within 0 bytes
pub no_rows_within : (head held : List ℕ) (rows : List (List ℕ)) (left : List ℕ) → AreRows rows → opened_table head left ≡ opened_table head held → HasRowsWithin head held rows 0 left
no_rows_within head held rows left are same =
    let w = whole_rows_within rows 0 are in
    record {
      count = w.count;
      few = w.few;
      is = same ∙ sym (ap (λ (l : List ℕ). opened_table head held ++ l) (sym w.is) ∙ append-nil (opened_table head held));
      least = λ m few le. w.least m few (omega (arith, le, length-append (head_written head held) (row_lines (take m rows))));
    }

-- the table of a file with a whole row is its whole rows
table_of_rows : (head : List ℕ) (b : ℕ) (bs : List ℕ) (left : List ℕ) → whole left ≡ b ∷ bs → opened_table head left ≡ b ∷ bs
table_of_rows head b bs left is = table_by_whole_rows head left (b ∷ bs) is ∙ append-nil (b ∷ bs)

-- the line of a row has a first byte
line_first : (row : List ℕ) → (b : ℕ) × (bs : List ℕ) × (row_line row ≡ b ∷ bs)
line_first [] = (10, [], refl)
line_first (b ∷ row) = (b, row ++ 10 ∷ [], refl)

-- where a file held a whole row before a run, and `left` is its whole rows and then the first k bytes that the run appends,
-- `left` has the rows that end within these k bytes (`HasRowsWithin`)
rows_within_after_rows : (head held : List ℕ) (b : ℕ) (bs : List ℕ) (rows : List (List ℕ)) (k : ℕ) (left : List ℕ) → AreRows rows → whole held ≡ b ∷ bs
    → left ≡ whole held ++ take k (run_bytes head held rows) → HasRowsWithin head held rows k left
rows_within_after_rows head held b bs rows k left are some is =
    let w = whole_rows_within rows k are in
    let start : head_written head held ≡ [] = ap (λ (l : List ℕ). if is_empty l then head else []) some in
    let at : left ≡ whole held ++ take k (row_lines rows) = is ∙ ap (λ (l : List ℕ). whole held ++ take k (l ++ row_lines rows)) start in
    let whole_at : whole left ≡ whole held ++ row_lines (take w.count rows) =
    ap whole at ∙ whole_more (whole held) (take k (row_lines rows)) (whole_whole held) ∙ ap (λ (l : List ℕ). whole held ++ l) w.is in
    let first : whole left ≡ b ∷ (bs ++ row_lines (take w.count rows)) = whole_at ∙ ap (λ (l : List ℕ). l ++ row_lines (take w.count rows)) some in
    record {
      count = w.count;
      few = w.few;
      is = table_of_rows head b (bs ++ row_lines (take w.count rows)) left first ∙ ap (λ (l : List ℕ). l ++ row_lines (take w.count rows)) (sym (table_of_rows head b bs held some));
      least = λ m few le. w.least m few (subst (λ (l : List ℕ). length (l ++ row_lines (take m rows)) ≤ k) start le);
    }

-- where a file held no whole row before a run, there is no head, and `left` is the first k bytes that the run appends, `left` has
-- the rows that end within these k bytes (`HasRowsWithin`)
rows_within_without_head : (held : List ℕ) (rows : List (List ℕ)) (k : ℕ) (left : List ℕ) → AreRows rows → whole held ≡ []
    → left ≡ whole held ++ take k (run_bytes [] held rows) → HasRowsWithin [] held rows k left
rows_within_without_head held rows k left are none is =
    let w = whole_rows_within rows k are in
    let start : head_written [] held ≡ [] = ap (λ (l : List ℕ). if is_empty l then [] else []) none in
    let at : left ≡ take k (row_lines rows) = is ∙ ap (λ (l : List ℕ). l ++ take k (head_written [] held ++ row_lines rows)) none ∙ ap (λ (l : List ℕ). take k (l ++ row_lines rows)) start in
    record {
      count = w.count;
      few = w.few;
      is = plain left ∙ ap whole at ∙ w.is ∙ ap (λ (l : List ℕ). l ++ row_lines (take w.count rows)) (sym (plain held ∙ none));
      least = λ m few le. w.least m few (subst (λ (l : List ℕ). length (l ++ row_lines (take m rows)) ≤ k) start le);
    }
  where
    -- a choice between a list and the same list is that list
    either_same : (e : List ℕ) (t : Bool) → (if t then e else e) ≡ e
    either_same e true = refl
    either_same e false = refl

    -- without a head, a file's table is its whole rows
    plain : (l : List ℕ) → opened_table [] l ≡ whole l
    plain l = ap (λ (e : List ℕ). whole l ++ e) (either_same [] (is_empty (whole l))) ∙ append-nil (whole l)

-- where a file held no whole row before a run, the head is the line of `row`, and the whole rows of `left` are those of the first
-- k bytes of the lines of `row` and of the run's rows (`Within`), `left` has the run's rows that end within the first k bytes
-- that the run appends (`HasRowsWithin`)
rows_within_after_head : (row held : List ℕ) (rows : List (List ℕ)) (k : ℕ) (left : List ℕ) → whole held ≡ [] → (w : Within (row ∷ rows) k)
    → whole left ≡ row_lines (take w.count (row ∷ rows)) → HasRowsWithin (row_line row) held rows k left
rows_within_after_head row held rows k left none w is = by w.count refl where
  -- `left` has these rows (`HasRowsWithin`), whether none of the lines is whole, or the head's and some of the rows' are
  by : (count : ℕ) → w.count ≡ count → HasRowsWithin (row_line row) held rows k left
  by zero e =
      let start : head_written (row_line row) held ≡ row_line row = ap (λ (l : List ℕ). if is_empty l then row_line row else []) none in
      let nothing : whole left ≡ [] = is ∙ ap (λ n. row_lines (take n (row ∷ rows))) e in
      record {
        count = 0;
        few = omega arith;
        is = table_by_whole_rows (row_line row) left [] nothing ∙ sym (append-nil (opened_table (row_line row) held) ∙ table_by_whole_rows (row_line row) held [] none);
        least = λ m few le. absurd (omega (arith, e, w.least (suc m) (omega (arith, few)) (subst (λ (l : List ℕ). length (l ++ row_lines (take m rows)) ≤ k) start le)));
      }
  by (suc n) e =
      let start : head_written (row_line row) held ≡ row_line row = ap (λ (l : List ℕ). if is_empty l then row_line row else []) none in
      let some : whole left ≡ row_line row ++ row_lines (take n rows) = is ∙ ap (λ c. row_lines (take c (row ∷ rows))) e in
      let f = line_first row in
      let first : whole left ≡ f.0 ∷ (f.1 ++ row_lines (take n rows)) = some ∙ ap (λ (l : List ℕ). l ++ row_lines (take n rows)) f.2 in
      record {
        count = n;
        few = omega (arith, e, w.few);
        is = table_of_rows (row_line row) f.0 (f.1 ++ row_lines (take n rows)) left first
            ∙ ap (λ (l : List ℕ). l ++ row_lines (take n rows)) (sym f.2 ∙ sym (table_by_whole_rows (row_line row) held [] none));
        least = λ m few le. omega (arith, e, w.least (suc m) (omega (arith, few)) (subst (λ (l : List ℕ). length (l ++ row_lines (take m rows)) ≤ k) start le));
      }

-- a list is empty, or has a first item
list_cases : (xs : List ℕ) → (xs ≡ []) ⊎ ((b : ℕ) × (bs : List ℕ) × (xs ≡ b ∷ bs))
list_cases [] = inl refl
list_cases (b ∷ bs) = inr (b, bs, refl)

-- where `left` is the whole rows that a file held before a run, and then the first k bytes that the run appends, `left` has the
-- rows that end within these k bytes (`HasRowsWithin`)
pub rows_within : (head held : List ℕ) (rows : List (List ℕ)) (k : ℕ) (left : List ℕ) → IsHead head → AreRows rows
    → left ≡ whole held ++ take k (run_bytes head held rows) → HasRowsWithin head held rows k left
rows_within head held rows k left heads are is = elim (list_cases (whole held)) [
  | inr some ↦ rows_within_after_rows head held some.0 some.1 rows k left are some.2 is
  | inl none ↦ elim heads [
    | inl empty ↦ subst (λ (h : List ℕ). HasRowsWithin h held rows k left) (sym empty)
        (rows_within_without_head held rows k left are none (subst (λ (h : List ℕ). left ≡ whole held ++ take k (run_bytes h held rows)) empty is))
    | inr one ↦
        let row = one.0 in
        let w = whole_rows_within (row ∷ rows) k (one.1, are) in
        let start : head_written head held ≡ row_line row = ap (λ (l : List ℕ). if is_empty l then head else []) none ∙ one.2 in
        let at : left ≡ take k (row_lines (row ∷ rows)) = is ∙ ap (λ (l : List ℕ). l ++ take k (run_bytes head held rows)) none ∙ ap (λ (l : List ℕ). take k (l ++ row_lines rows)) start in
        subst (λ (h : List ℕ). HasRowsWithin h held rows k left) (sym one.2) (rows_within_after_head row held rows k left none w (ap whole at ∙ w.is))
  ]
]

-- a file that was found with `left`, at a moment of a run, has the table from before and the run's first `count` rows, at least
-- the kept ones
pub record RunHas (head held : List ℕ) (run : Run) (left : List ℕ) : Type 0 where
  pub count : ℕ
  pub least : run.kept ≤ count
  pub few : count ≤ length run.rows
  pub is : opened_table head left ≡ opened_table head held ++ row_lines (take count run.rows)

-- where a run is one over `held` (`IsRun`), at most k of the bytes that it appended were synced, and `left` has the rows that end
-- within the first k bytes that the run appends (`HasRowsWithin`), `left` has first rows of the run, at least the kept ones
-- (`RunHas`)
kept_within : (head held : List ℕ) (run : Run) (left : List ℕ) (k : ℕ)
    → IsRun head held run → length (synced run.steps) ≤ k → HasRowsWithin head held run.rows k left → RunHas head held run left
kept_within head held run left k one enough has = record {
  count = has.count;
  least = elim one.kept [
    | inl none ↦ omega (arith, none)
    | inr front ↦ has.least run.kept one.few (omega (arith, enough, front_fits _ _ front.rest front.split))
  ];
  few = has.few;
  is = has.is;
}

-- where a run is one over `held` (`IsRun`), and nothing of it was synced, `RunHas` is true with any bytes `left` both as what was
-- there before the run and as what is found: none of the run's rows is kept, and none is added
no_row_kept : (head held : List ℕ) (run : Run) (left : List ℕ) → IsRun head held run → synced run.steps ≡ [] → RunHas head left run left
no_row_kept head held run left one nothing =
    let w = whole_rows_within run.rows 0 one.rows in
    record {
      count = w.count;
      least = elim one.kept [
        | inl none ↦ omega (arith, none)
        | inr front ↦
            w.least run.kept one.few (omega (arith, front_fits _ _ front.rest front.split, ap length nothing, length-append (head_written head held) (row_lines (take run.kept run.rows))))
      ];
      few = w.few;
      is = sym (ap (λ (l : List ℕ). opened_table head left ++ l) (sym w.is) ∙ append-nil (opened_table head left));
    }

-- files with the same whole rows have the same table
pub same_table : (head left held : List ℕ) → whole left ≡ whole held → opened_table head left ≡ opened_table head held
same_table head left held same = table_by_whole_rows head left (whole held) same

-- no more bytes were synced than were appended
pub synced_length : (steps : List Step) → length (synced steps) ≤ length (appended steps)
synced_length [] = omega arith
synced_length (Append bytes ∷ steps) = elim (cases_Bool (has_sync steps)) [
  | inl some ↦ rw (some) (omega (arith, synced_length steps, length-append bytes (synced steps), length-append bytes (appended steps)))
  | inr isnt ↦ rw (isnt) (omega arith)
]
synced_length (Sync ∷ steps) = synced_length steps
synced_length (Cut size ∷ steps) = synced_length steps

-- whatever a crash in a run, or after it, may leave of a file has the table from before and first rows of the run, at least the
-- kept ones (`RunHas`)
pub run_moments : (head held : List ℕ) (run : Run) (left : List ℕ)
    → IsHead head → IsRun head held run → MayLeave held run.steps left → RunHas head held run left
run_moments head held run left heads one may = elim one.steps [
  | inl mending ↦
      let here = subst (λ (steps : List Step). MayLeave held steps left) mending.is may in
      let nothing : synced run.steps ≡ [] = ap synced mending.is ∙ ap synced (sym (append-nil (take mending.count (mended held)))) ∙ mend_synced held mending.count [] in
      kept_within head held run left 0 one (omega (arith, ap length nothing)) (no_rows_within head held run.rows left one.rows (same_table head left held (mend_moments held mending.count left here)))
  | inr all ↦ ran_moments all.0 all.1 all.2
]
  where
    -- where the run mended the file whole, and then appended `bytes`, a front of the head (where no whole row was there) and,
    -- after it, the lines of the run's rows, then what a crash left, `left`, has the table from before and first rows of the run,
    -- at least the kept ones (`RunHas`)
    ran_moments : (bytes : List ℕ) → MendedAndPut held run.steps bytes → IsFront bytes (run_bytes head held run.rows) → RunHas head held run left
    ran_moments bytes ran front =
        let steps = mended held ++ ran.later in
        let here = subst (λ (steps : List Step). MayLeave held steps left) ran.split may in
        let is_synced : synced run.steps ≡ synced ran.later = ap synced ran.split ∙ whole_mended ran.later in
        elim (leaves_two held (mended held) ran.later left here) [
          | inl before ↦
              let nothing : synced run.steps ≡ [] = is_synced ∙ none_synced ran.later before.0 in
              let same = mend_moments held 2 left (subst (λ (steps : List Step). MayLeave held steps left) (sym (mended_by_two_steps held)) before.1) in
              kept_within head held run left 0 one (omega (arith, ap length nothing)) (no_rows_within head held run.rows left one.rows (same_table head left held same))
          | inr behind_it ↦
              let there = subst (λ (h : List ℕ). MayLeave h ran.later left) (mended_leaves_whole held) behind_it in
              let moment = put_moments ran.later (whole held) left ran.puts.none_cut there in
              let at_bytes : left ≡ whole held ++ take moment.count bytes = moment.is ∙ ap (λ (l : List ℕ). whole held ++ take moment.count l) ran.puts.all in
              let t = front_take (whole held) (run_bytes head held run.rows) bytes moment.count front in
              let enough : length (synced run.steps) ≤ t.0 = elim t.1 [
                | inl more ↦ omega (arith, more, moment.enough, ap length is_synced)
                | inr more ↦ omega (arith, more, synced_length ran.later, ap length ran.puts.all, ap length is_synced)
              ] in
              kept_within head held run left t.0 one enough (rows_within head held run.rows t.0 left heads one.rows (at_bytes ∙ t.2))
        ]
      where
        -- of the steps that mend a file, and of the steps `later` after them, the same is synced as of `later` alone
        whole_mended : (later : List Step) → synced (mended held ++ later) ≡ synced later
        whole_mended later = ap (λ (steps : List Step). synced (steps ++ later)) (sym (mended_by_two_steps held)) ∙ mend_synced held 2 later

-- counts for some runs, and after them a count for one more run, at least its kept rows and at most all its rows, are counts for
-- all of these runs (`AreRowCounts`)
pub counts_more : (runs : List Run) (counts : List ℕ) (run : Run) (n : ℕ)
    → AreRowCounts runs counts → run.kept ≤ n → n ≤ length run.rows → AreRowCounts (runs ++ run ∷ []) (counts ++ n ∷ [])
counts_more [] [] run n cs least few = (least, few, tt)
counts_more [] (m ∷ counts) run n cs least few = absurd cs
counts_more (r ∷ runs) [] run n cs least few = absurd cs
counts_more (r ∷ runs) (m ∷ counts) run n cs least few = (cs.0, cs.1, counts_more runs counts run n cs.2 least few)

-- where each of some runs has its count, the rows of these runs and of one more, whose count is n, are the rows of these runs,
-- and then the first n of that one
pub rows_more : (runs : List Run) (counts : List ℕ) (run : Run) (n : ℕ)
    → AreRowCounts runs counts → rows_of (runs ++ run ∷ []) (counts ++ n ∷ []) ≡ rows_of runs counts ++ row_lines (take n run.rows)
rows_more [] [] run n cs = append-nil (row_lines (take n run.rows))
rows_more [] (m ∷ counts) run n cs = absurd cs
rows_more (r ∷ runs) [] run n cs = absurd cs
rows_more (r ∷ runs) (m ∷ counts) run n cs = ap (λ (l : List ℕ). row_lines (take m r.rows) ++ l) (rows_more runs counts run n cs.2)
    ∙ sym (append_assoc (row_lines (take m r.rows)) (rows_of runs counts) (row_lines (take n run.rows)))

-- where a file has the rows of some runs, and what is found of it after one more run, `left`, has first rows of that run, at
-- least the kept ones (`RunHas`), `left` has the rows of all these runs
pub has_rows_more : (head before : List ℕ) (runs : List Run) (run : Run) (held left : List ℕ)
    → HasRows head before runs held → RunHas head held run left → HasRows head before (runs ++ run ∷ []) left
has_rows_more head before runs run held left has more = (
  has.0 ++ more.count ∷ [],
  counts_more runs has.0 run more.count has.1 more.least more.few,
  more.is ∙ ap (λ (l : List ℕ). l ++ row_lines (take more.count run.rows)) has.2 ∙ append_assoc before (rows_of runs has.0) (row_lines (take more.count run.rows))
      ∙ ap (λ (l : List ℕ). before ++ l) (sym (rows_more runs has.0 run more.count has.1)),
)

-- whatever a crash leaves of a file with this life has the rows of the runs after the table `before`
abbrev pub Lasts : (head before : List ℕ) → List Run → Life → Type 0
Lasts head before runs life = (left : List ℕ) → MayBeLeft life left → HasRows head before runs left

-- for a file with this head, and `before` as its table before all runs
module _ (head before : List ℕ) (heads : IsHead head) where
  -- where `Lasts` is true of a life and some runs, and one more run is over what the file then holds, `Lasts` is true of the life
  -- with that run's steps, and of all these runs
  pub lasts_over_one_more : (runs : List Run) (life : Life) (run : Run)
      → Lasts head before runs life → IsRun head (content life) run → Lasts head before (runs ++ run ∷ []) (later_by run.steps life)
  lasts_over_one_more runs life run lasts one left may = elim (leaves_two life.start life.steps run.steps left may) [
    | inl old ↦
        let nothing = none_synced run.steps old.0 in
        let more = no_row_kept head (content life) run left one nothing in
        has_rows_more head before runs run left left (lasts left old.1) more
    | inr new ↦ has_rows_more head before runs run (content life) left (lasts (content life) (may_stay life.start life.steps)) (run_moments head (content life) run left heads one new)
  ]

  -- where `Lasts` is true of a life and some runs, and one more run is over what the file then holds, and ended in a crash that
  -- left what it may leave (`Some`), or in none (`None`), `Lasts` is true of the life once that run has ended, and of all these
  -- runs
  lasts_once_ended : (runs : List Run) (life : Life) (run : Run) (left : Option (List ℕ)) → Lasts head before runs life → IsRun head (content life) run
      → CrashMayLeave life run left → Lasts head before (runs ++ run ∷ []) (life_once_ended life run left)
  lasts_once_ended runs life run None lasts one end = lasts_over_one_more runs life run lasts one
  lasts_once_ended runs life run (Some there) lasts one end = λ left may. subst (HasRows head before (runs ++ run ∷ [])) (sym may) (lasts_over_one_more runs life run lasts one there end)

  -- where `Lasts` is true of a life and the runs `earlier`, and `runs` happen after these (`Happen`), `Lasts` is true of the life
  -- after `runs`, and of all these runs
  lasts_over_runs : (earlier runs : List Run) (life : Life)
      → Lasts head before earlier life → Happen head life runs → Lasts head before (earlier ++ runs) (life_after life runs)
  lasts_over_runs earlier [] life lasts happen = subst (λ (rs : List Run). Lasts head before rs life) (sym (append-nil earlier)) lasts
  lasts_over_runs earlier (run ∷ runs) life lasts happen =
      subst (λ (rs : List Run). Lasts head before rs (life_after (life_once_ended life run run.left) runs)) (append_assoc earlier (run ∷ []) runs)
      (lasts_over_runs (earlier ++ run ∷ []) runs (life_once_ended life run run.left) (lasts_once_ended earlier life run run.left lasts happen.0 happen.1) happen.2)

-- the law: over any runs and crashes the table lasts
pub tables_last : TablesLast
tables_last head held heads runs happen =
    lasts_over_runs head (opened_table head held) heads [] runs (settled held)
    (λ left may. ([], tt, ap (opened_table head) may ∙ sym (append-nil (opened_table head held)))) happen
