-- Files of rows that took rows in turn: what is known of each once one more is left, and that a left file has all its rows.
use Rattle.gc_files.proofs.Common.{◌≡◌, inl, inr, ℕ, ◌<◌, true, List, [], ◌∷◌, ◌++◌, length, drop, map, take, refl, sym, ◌∙◌, ap, subst, arith, append_assoc, length-append, cases_Bool, map_push, take_all, Step, Life, MayBeLeft, content, later_by, AllByRecursion, AreOnlyAppendedTo, AreSynced, HaveWholeRows, LastsWhole, LeftFilesLast, all_steps, appended, cuts_none, has_feed, opened_table, whole, IsRun, life_after, row_lines, rows_of}
use Rattle.std.proofs.Common.{append-nil}
use Rattle.gc_files.specs.Files.{settled}
use Rattle.gc_files.proofs.Lasting.{tables_last}
use Rattle.gc_files.proofs.Pieces.{all_pieces, pieces_count, pieces_whole}
use Rattle.gc_files.proofs.Staying.{happen_append, is_run, life_append, no_rows_of_none, run_by, splits_at_run}
use Rattle.gc_files.proofs.Whole.{whole_and_torn, whole_behind, whole_none}

-- where two functions give the same for each of these files and for one more, they give the same for all of them
pub same_for_more : {X : Type 0} (f g : List Step → X) (files new : List (List Step)) (steps : List Step) → new ≡ files ++ steps ∷ [] → map f files ≡ map g files → f steps ≡ g steps
    → map f new ≡ map g new
same_for_more f g files new steps is same one =
    ap (map f) is ∙ map_push f files steps ∙ ap (λ xs. xs ++ f steps ∷ []) same ∙ ap (λ x. map g files ++ x ∷ []) one ∙ sym (map_push g files steps) ∙ sym (ap (map g) is)

-- the steps of these files and of one more are those of the files, and then those of the one
pub all_steps_more : (files : List (List Step)) (steps : List Step) → all_steps (files ++ steps ∷ []) ≡ all_steps files ++ steps
all_steps_more [] steps = append-nil steps
all_steps_more (first ∷ files) steps = ap (λ (xs : List Step). first ++ xs) (all_steps_more files steps) ∙ sym (append_assoc first (all_steps files) steps)

-- bytes of which as many are whole rows as there are end in a line feed, or are none
pub all_whole : (bytes : List ℕ) → length (whole bytes) ≡ length bytes → whole bytes ≡ bytes
all_whole bytes same =
    let t = whole_and_torn bytes in
    let none : t.torn ≡ [] = nothing t.torn (omega (arith, same, ap length t.split, length-append (whole bytes) t.torn)) in
    sym (t.split ∙ ap (λ (l : List ℕ). whole bytes ++ l) none ∙ append-nil (whole bytes))
  where
    -- a list of no length is empty
    nothing : (xs : List ℕ) → length xs ≡ 0 → xs ≡ []
    nothing [] e = refl
    nothing (x ∷ xs) e = absurd (omega (arith, e))

-- what was appended (`bytes`) is whole rows, if what is appended to it now ends in a line feed
pub ends_more : (old new taken : List ℕ) → 0 < length taken → new ≡ old ++ taken → length (whole taken) ≡ length taken → whole new ≡ new
ends_more old new taken some is same = elim (cases_Bool (has_feed taken)) [
  | inl feed ↦ ap whole is ∙ whole_behind old taken feed ∙ ap (λ (l : List ℕ). old ++ l) (all_whole taken same) ∙ sym is
  | inr none ↦ absurd (omega (arith, some, same, ap length (whole_none taken none)))
]

-- a left file has all that the run appended to it
pub left_files_last : LeftFilesLast
left_files_last calls none lines kept head first before opening found is_head happened opens may =
    let life = life_after (settled first) before in
    let run = run_by opening (calls ++ []) (appended calls) (appended calls ++ []) in
    let now : IsRun head (content life) run =
    is_run head (content life) opening calls [] [] opens kept lines refl (subst (λ (l : List Step). cuts_none l ≡ true) (sym (append-nil calls)) none)
    (record { rest = []; split = ap (λ (l : List ℕ). l ++ []) (ap appended (sym (append-nil calls))) }) in
    let all = happen_append head (settled first) before (run ∷ []) happened (now, tt, tt) in
    let there : MayBeLeft (later_by (opening ++ (calls ++ [])) life) found = subst (λ (l : List Step). MayBeLeft (later_by (opening ++ l) life) found) (sym (append-nil calls)) may in
    let last = subst (λ (l : Life). MayBeLeft l found) (sym (life_append (settled first) before (run ∷ []))) there in
    let p = splits_at_run head (opened_table head first) found before [] run (tables_last head first is_head (before ++ run ∷ []) all found last) in
    let rows : row_lines (take p.count (all_pieces (appended calls ++ []))) ≡ appended calls =
    ap (λ (l : List ℕ). row_lines (take p.count (all_pieces l))) (append-nil (appended calls))
    ∙ ap row_lines (take_all p.count (all_pieces (appended calls)) (omega (arith, p.least, pieces_count (appended calls) lines)))
    ∙ pieces_whole (appended calls) lines in
    (p.counts, p.first, p.is ∙ no_rows_of_none p.counts' p.others _ ∙ ap (λ (l : List ℕ). (opened_table head first ++ rows_of before p.counts) ++ l) rows)

-- so does each of several left files
pub all_left_last : (files : List (List Step)) → AreOnlyAppendedTo files → HaveWholeRows files → AreSynced files → AllByRecursion LastsWhole files
all_left_last [] none lines kept = tt
all_left_last (calls ∷ files) none lines kept = (
  left_files_last calls (ap (first_or true) none) (ap (first_or []) lines) (ap (first_or []) kept),
  all_left_last files (ap (drop 1) none) (ap (drop 1) lines) (ap (drop 1) kept),
)
  where
    -- the first of a list, or this where there is none
    first_or : {X : Type 0} → X → List X → X
    first_or x [] = x
    first_or x (y ∷ ys) = y
