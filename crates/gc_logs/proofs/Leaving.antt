-- A file of rows that is left joins the earlier ones, and the next file has taken nothing yet.
use Rattle.gc_logs.proofs.Common.{◌≡◌, ℕ, List, [], ◌∷◌, ◌++◌, ap, refl, sym, ◌∙◌, Step, appended, all_steps, files_in, appended_two, EarlierFilesLast}
use Rattle.std.proofs.lemmas.List.{append-nil}
use Rattle.gc_files.proofs.InTurn.{all_left_last, all_steps_more}
use Rattle.gc_logs.specs.declared.following.Followed.{Followed}

-- a file, whose steps (`steps`) appended `taken`, joins the earlier files, whose steps were `left` and are then `left'`. The file
-- that takes its place has taken nothing (`next`), nor has it after its sync (`after`): what was appended to all files is what it
-- was before
pub appended_after_leaving : (left left' steps : List Step) (taken next after : List ℕ) → left' ≡ left ++ steps → appended steps ≡ taken → next ≡ [] → after ≡ next
    → appended left' ++ after ≡ appended left ++ taken
appended_after_leaving left left' steps taken next after is same none kept =
    ap (λ xs. appended left' ++ xs) (kept ∙ none)
    ∙ append-nil (appended left')
    ∙ ap appended is
    ∙ appended_two left steps
    ∙ ap (λ xs. appended left ++ xs) same

-- a file, whose steps (`steps`) appended `taken`, joins the earlier ones (`files`), which are then `files'`; and the file that takes its place
-- has taken nothing (`next`)
pub appended_once_left : (files files' : List (List Step)) (steps next : List Step) → files' ≡ files ++ steps ∷ [] → next ≡ []
    → appended (all_steps files') ++ appended next ≡ appended (all_steps files) ++ appended steps
appended_once_left files files' steps next is none =
    appended_after_leaving (all_steps files) (all_steps files') steps (appended steps) (appended next) (appended next) (ap all_steps is ∙ all_steps_more files steps) refl (ap appended none) refl

-- the law on earlier files
pub earlier_files_last : {R : Type 0} → (followed : Followed R) → EarlierFilesLast followed
earlier_files_last followed = record {
  whole_rows = followed.earlier.whole_rows;
  last = λ syncs. all_left_last (files_in followed.earlier) followed.earlier.only_appends followed.earlier.whole_rows (followed.earlier.kept (sym followed.alike ∙ syncs));
}
