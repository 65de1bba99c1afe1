-- The files of the values that tasks take, task by task.
use Rattle.gc_texts.proofs.Common.{◌≡◌, inl, inr, ◌≤◌, ◌<◌, ◌==◌, ◌&&◌, ◌+◌, ℕ, not, take, drop, get_or, List, [], ◌∷◌, ◌++◌, length, arith, refl, ap, sym, subst, ◌∙◌, drop_more, length-append, take_all, take_more, raw_bytes, ValueFile, AddsFilesOf, AreFilesFrom, AreFilesOf, AreNextFiles, NameFiles, takes_next, value_items, Task}

-- items name as many files as they are
same_many : (items : List (List ℕ)) (xs ys : List ValueFile) → NameFiles items xs → NameFiles items ys → length xs ≡ length ys
same_many [] [] [] a b = refl
same_many [] [] (y ∷ ys) a b = absurd b
same_many [] (x ∷ xs) ys a b = absurd a
same_many (item ∷ items) [] ys a b = absurd a
same_many (item ∷ items) (x ∷ xs) [] a b = absurd b
same_many (item ∷ items) (x ∷ xs) (y ∷ ys) a b = let same = same_many items xs ys a.1 b.1 in omega (arith, same)

-- whether a task's values are the next ones depends on the number of files alone
next_by_count : (task : Task) (a b : List ValueFile) → length a ≡ length b → takes_next task a ≡ takes_next task b
next_by_count task a b same = ap (λ n. not (task.needs.count == 0) && (task.needs.first == n)) same

-- behind as many files, tasks have as many
other_front : (a b : List ValueFile) (tasks : List Task) (files : List ValueFile) → length a ≡ length b → AreFilesFrom a tasks files
    → (others : List ValueFile) × AreFilesFrom b tasks others × (length others ≡ length files)
other_front a b [] files same are = (b, refl, sym same ∙ ap length (sym are))
other_front a b (task ∷ later) files same (next, (inl (none, stays)), more) =
    let rest = other_front next b later files (ap length stays ∙ same) more in
    (rest.0, (b, inl (next_by_count task b a (sym same) ∙ none, refl), rest.1), rest.2)
other_front a b (task ∷ later) files same (next, (inr (some, raw, is, added, names, grows)), more) =
    let one = length-append a added in
    let other = length-append b added in
    let long = ap length grows in
    let rest = other_front next (b ++ added) later files (omega (arith, one, other, long, same)) more in
    (rest.0, (b ++ added, inr (next_by_count task b a (sym same) ∙ some, raw, is, added, names, refl), rest.1), rest.2)

-- the files only grow
files_grow : (a : List ValueFile) (tasks : List Task) (files : List ValueFile) → AreFilesFrom a tasks files → length a ≤ length files
files_grow a [] files are = let same = ap length are in omega (arith, same)
files_grow a (task ∷ later) files (next, (inl (none, stays)), more) =
    let rest = files_grow next later files more in
    let same = ap length stays in
    omega (arith, rest, same)
files_grow a (task ∷ later) files (next, (inr (some, raw, is, added, names, grows)), more) =
    let rest = files_grow next later files more in
    let long = ap length grows ∙ length-append a added in
    omega (arith, rest, long)

-- one more task behind others
one_task_behind : (a : List ValueFile) (tasks : List Task) (b : List ValueFile) (task : Task) (next : List ValueFile) → AreFilesFrom a tasks b → AreNextFiles task b next
    → AreFilesFrom a (tasks ++ task ∷ []) next
one_task_behind a [] b task next are more = (next, subst (λ files. AreNextFiles task files next) are more, refl)
one_task_behind a (t ∷ tasks) b task next (after, is, others) more = (after, is, one_task_behind after tasks b task next others more)

-- the files of the first i tasks, if these and the others have at most 16
pub record FilesAt (tasks : List Task) (i : ℕ) (now : List ValueFile) : Type 0 where
  pub front : AreFilesOf (take i tasks) now
  pub later : List ValueFile
  pub rest : AreFilesFrom now (drop i tasks) later
  pub few : length later ≤ 16

abbrev pub FilesSoFar : (tasks : List Task) (i : ℕ) (now : List ValueFile) → Type 0
FilesSoFar tasks i now = (files : List ValueFile) → AreFilesOf tasks files → length files ≤ 16 → FilesAt tasks i now

-- at first there are none
pub no_task_passed : (tasks : List Task) → FilesSoFar tasks 0 []
no_task_passed tasks files are few = record { front = refl; later = files; rest = are; few = few }

-- at last those of all tasks
pub all_tasks_passed : (tasks : List Task) (i : ℕ) (now : List ValueFile) → length tasks ≤ i → FilesSoFar tasks i now
    → (files : List ValueFile) → AreFilesOf tasks files → length files ≤ 16 → AreFilesOf tasks now
all_tasks_passed tasks i now done so files are few = subst (λ ts. AreFilesOf ts now) (take_all i tasks done) (so files are few).front

-- one more task adds its files
pub one_task_passed : (tasks : List Task) (i : ℕ) (d : Task) (now new : List ValueFile) → i < length tasks → FilesSoFar tasks i now → AddsFilesOf (get_or tasks i d) now new
    → FilesSoFar tasks (i + 1) new
one_task_passed tasks i d now new below so adds files are few = passed (so files are few) where
  -- the task adds these files, and those after it add theirs behind them
  with_next : (later : List ValueFile) → FilesAt tasks i now → AreNextFiles (get_or tasks i d) now new → AreFilesFrom new (drop (i + 1) tasks) later → length later ≤ 16 → FilesAt tasks (i + 1) new
  with_next later at is rest few =
      record {
        front = subst (λ ts. AreFilesOf ts new) (sym (take_more tasks i d below)) (one_task_behind [] (take i tasks) now (get_or tasks i d) new at.front is);
        later = later;
        rest = rest;
        few = few;
      }

  by_next : (at : FilesAt tasks i now) → AreFilesFrom now (get_or tasks i d ∷ drop (i + 1) tasks) at.later → FilesAt tasks (i + 1) new
  by_next at (next, (inl (none, stays)), more) =
      let same : new ≡ now = adds.none none in
      with_next at.later at (inl (none, same)) (subst (λ fs. AreFilesFrom fs (drop (i + 1) tasks) at.later) (stays ∙ sym same) more) at.few
  by_next at (next, (inr (some, raw, is, added, names, grows)), more) =
      let room : length (now ++ added) ≤ 16 = let long = ap length grows in let low = files_grow next (drop (i + 1) tasks) at.later more in omega (arith, long, low, at.few) in
      let its = adds.some raw some is added names room in
      let many = same_many (value_items (raw_bytes raw.params)) added its.0 names its.1 in
      let one = length-append now added in
      let other = length-append now its.0 in
      let next_long = ap length grows in
      let new_long = ap length its.2 in
      let rest = other_front next new (drop (i + 1) tasks) at.later (omega (arith, many, one, other, next_long, new_long)) more in
      with_next rest.0 at (inr (some, raw, is, its.0, its.1, its.2)) rest.1 (let same = rest.2 in omega (arith, same, at.few))

  passed : FilesAt tasks i now → FilesAt tasks (i + 1) new
  passed at = by_next at (subst (λ ts. AreFilesFrom now ts at.later) (drop_more tasks i d below) at.rest)
