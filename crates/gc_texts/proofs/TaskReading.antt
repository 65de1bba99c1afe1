-- The tasks, names and places of lines that follow one another, and how far the reading of a station's text has come
-- (`ReadsTasks`). The mode at a line is what the lines before it make hold there.
use Rattle.gc_texts.proofs.Common.{cond_both, length-append, flat_map-append, ◌⊎◌, inr, arith, if◌then◌else◌, ◌≡◌, ◌+◌, ◌≤◌, ℕ, List, [], ◌∷◌, ◌++◌, length, Option, Bool, true, false, refl, ap, subst, sym, ◌∙◌, append_assoc, append-nil, flat_map, is_skipped, is_kept, IsTaskLine, LinesGave, Grows, CountsAtMost, counters_with, no_standing, standing_after, standing_by, standing_in, standing_of, first_mode, mode_after, chained_at, place_in_chain, task_at, given_by, setup_at, setup_of, planned_at, planned_of, name_at, names_of, near_at, nears_of, unwatched_at, unwatched_of, described_at, described_of, columns_at, IsInPlace, MayFollow, FirstFaultyTaskLine, ReachesASoundTaskLine, ArrayVec, counts, fresh_names, new_columns, with_columns, Expectation, Description, Name, Near, TaskLine, Mode, Standing, values_asked, Wording, Plain, Now, Described, raw_bytes, Asked, Table, Raw}
use Rattle.std.proofs.lemmas.Slice.Zip.{AllZip-long}
use Rattle.std.specs.Prelude.{filter}
use Rattle.gc_texts.proofs.ValueForms.{few_raw, few_value_items}
use Rattle.gc_texts.specs.declared.tasks.Given.{Given}
use Rattle.gc_texts.proofs.TaskForms.{one_said}
use Rattle.gc_texts.proofs.TextLines.{HasRead, ReadsSoFar, lines_left, reads_few, is_here, line_skips, line_reads}
use Rattle.gc_texts.specs.declared.task_line.TaskLine.TheVariants as says

-- the mode after these lines, where `mode` holds before the first
abbrev pub mode_after_lines : Mode → List TaskLine → Mode
mode_after_lines mode [] = mode
mode_after_lines mode (line ∷ later) = mode_after_lines (mode_after mode line) later

-- the mode after `xs` and then `ys` is the mode after `ys`, where the mode after `xs` holds before them
pub mode_after_both : (mode : Mode) (xs ys : List TaskLine) → mode_after_lines mode (xs ++ ys) ≡ mode_after_lines (mode_after_lines mode xs) ys
mode_after_both mode [] ys = refl
mode_after_both mode (x ∷ xs) ys = mode_after_both (mode_after mode x) xs ys

-- what `xs` and then `ys` give (`given_by`) is what `xs` give, and then what `ys` give, where the mode after `xs` holds before
-- `ys`
pub given_both : {Item : Type 0} (given_at : Mode → TaskLine → List Item) (mode : Mode) (xs ys : List TaskLine)
    → given_by given_at mode (xs ++ ys) ≡ given_by given_at mode xs ++ given_by given_at (mode_after_lines mode xs) ys
given_both given_at mode [] ys = refl
given_both given_at mode (x ∷ xs) ys =
    ap (λ items. given_at mode x ++ items) (given_both given_at (mode_after mode x) xs ys)
    ∙ sym (append_assoc (given_at mode x) (given_by given_at (mode_after mode x) xs) (given_by given_at (mode_after_lines (mode_after mode x) xs) ys))

-- what lines and then `next` give (`given_by`) is what the lines give, and then what `next` gives by the mode after them
given_with_one_more : {Item : Type 0} (given_at : Mode → TaskLine → List Item) (mode : Mode) (lines : List TaskLine) (next : TaskLine)
    → given_by given_at mode (lines ++ next ∷ []) ≡ given_by given_at mode lines ++ given_at (mode_after_lines mode lines) next
given_with_one_more given_at mode lines next =
    given_both given_at mode lines (next ∷ []) ∙ ap (λ items. given_by given_at mode lines ++ items) (append-nil (given_at (mode_after_lines mode lines) next))

-- what decides whether a command may have an item `>` and take values of files, after one more line, by the mode after it
standing_of_one_more : (mode : Mode) (line : TaskLine) → standing_in (mode_after mode line) ≡ standing_by (standing_in mode) line
standing_of_one_more mode (says.Command c w x) = refl
standing_of_one_more mode says.AtStart = refl
standing_of_one_more mode says.EachCycle = refl
standing_of_one_more mode (says.Every every) = refl
standing_of_one_more mode line = refl

-- and after lines
pub standing_after_lines : (mode : Mode) (lines : List TaskLine) → standing_in (mode_after_lines mode lines) ≡ standing_after (standing_in mode) lines
standing_after_lines mode [] = refl
standing_after_lines mode (line ∷ later) =
    standing_after_lines (mode_after mode line) later ∙ ap (λ s. standing_after s later) (standing_of_one_more mode line)

-- a command takes at most 504 values of files
pub few_values : (wording : Wording) (call : Asked) → values_asked wording call ≤ 504
few_values Plain call = omega arith
few_values Now call = omega arith
few_values Described (Table call) = omega arith
few_values Described (Raw raw) = few_value_items (raw_bytes raw.params) (few_raw raw)

-- with one more command there is one with an item `>` more at most
one_counter_more : (counters n : ℕ) (expects : Option Expectation) → counters ≤ n → counters_with counters expects ≤ n + 1
one_counter_more counters n expects few = cond_both (counts expects) (counters + 1) counters (λ k. k ≤ n + 1) (λ _. omega (arith, few)) (λ _. omega (arith, few))

-- where each count of a mode is at most n, each count of the mode after one more line is at most n + 1
counts_after_one_more : (mode : Mode) (line : TaskLine) (n : ℕ) → CountsAtMost mode n → CountsAtMost (mode_after mode line) (n + 1)
counts_after_one_more mode (says.Command c w x) n h = record {
  begun = cond_both mode.setup (mode.begun + 1) mode.begun (λ k. k ≤ n + 1) (λ _. omega (arith, h.begun)) (λ _. omega (arith, h.begun));
  place = cond_both mode.setup mode.place (mode.place + 1) (λ k. k ≤ n + 1) (λ _. omega (arith, h.place)) (λ _. omega (arith, h.place));
  link =
      let inner : (if chained_at mode c.target then mode.link else 0) ≤ n = cond_both (chained_at mode c.target) mode.link 0 (λ k. k ≤ n) (λ _. h.link) (λ _. omega arith) in
      let low : place_in_chain mode (chained_at mode c.target) ≤ n =
      cond_both mode.setup mode.begun (if chained_at mode c.target then mode.link else 0) (λ k. k ≤ n) (λ _. h.begun) (λ _. inner) in
      omega (arith, low);
  counters = one_counter_more mode.counters n x h.counters;
  values = let few = few_values w c.call in omega (arith, few, h.values);
}
counts_after_one_more mode line n h = record { begun = omega (arith, h.begun); place = omega (arith, h.place); link = omega (arith, h.link); counters = omega (arith, h.counters); values = omega (arith, h.values) }

-- where each count of a mode is at most n, each count of the mode after lines is at most n plus the number of the lines
counts_after_lines : (mode : Mode) (lines : List TaskLine) (n : ℕ) → CountsAtMost mode n → CountsAtMost (mode_after_lines mode lines) (n + length lines)
counts_after_lines mode [] n h = record { begun = omega (arith, h.begun); place = omega (arith, h.place); link = omega (arith, h.link); counters = omega (arith, h.counters); values = omega (arith, h.values) }
counts_after_lines mode (line ∷ lines) n h =
    let more = counts_after_lines (mode_after mode line) lines (n + 1) (counts_after_one_more mode line n h) in
    record { begun = omega (arith, more.begun); place = omega (arith, more.place); link = omega (arith, more.link); counters = omega (arith, more.counters); values = omega (arith, more.values) }

-- a line gives one command of the cycle at most
one_planned_at_most : (mode : Mode) (line : TaskLine) → length (planned_at mode line) ≤ 1
one_planned_at_most mode (says.Command c w x) =
    cond_both mode.setup [] (record { task = task_at mode c w x; retry = mode.retry; agree = mode.agree } ∷ []) (λ ps. length ps ≤ 1) (λ _. omega arith) (λ _. omega arith)
one_planned_at_most mode line = omega arith

-- there are at most as many commands of the cycle as lines
planned_few : (mode : Mode) (lines : List TaskLine) → length (planned_of mode lines) ≤ length lines
planned_few mode [] = omega arith
planned_few mode (line ∷ lines) =
    let one = one_planned_at_most mode line in
    let more = planned_few (mode_after mode line) lines in
    let all : length (planned_at mode line ++ planned_of (mode_after mode line) lines) ≡ length (planned_at mode line) + length (planned_of (mode_after mode line) lines) =
    length-append (planned_at mode line) (planned_of (mode_after mode line) lines) in
    omega (arith, one, more, all)

-- at most as many lines aren't skipped as there are lines
kept_few : (lines : List (List ℕ)) → length (filter is_kept lines) ≤ length lines
kept_few [] = omega arith
kept_few (line ∷ lines) =
    let few = kept_few lines in
    cond_both (is_kept line) (line ∷ filter is_kept lines) (filter is_kept lines) (λ kept. length kept ≤ length (line ∷ lines)) (λ _. omega (arith, few)) (λ _. omega (arith, few))

-- what lines and then `next` give, each by itself, is what the lines give, and then what `next` gives
flat_map_one_more : {Item : Type 0} (given_at : TaskLine → List Item) (lines : List TaskLine) (next : TaskLine)
    → flat_map given_at (lines ++ next ∷ []) ≡ flat_map given_at lines ++ given_at next
flat_map_one_more given_at lines next =
    flat_map-append given_at lines (next ∷ []) ∙ ap (λ items. flat_map given_at lines ++ items) (append-nil (given_at next))

-- a line in its place behind lists and lines of which this holds is in its place behind equal ones
pub placed_alike : (names ns : List Name) (nears ps : List Near) (unwatched us : List ℕ) (described ds : List Description) (s t : Standing) (line : TaskLine)
    → names ≡ ns → nears ≡ ps → unwatched ≡ us → described ≡ ds → s ≡ t
    → IsInPlace names nears unwatched described s line → IsInPlace ns ps us ds t line
placed_alike names ns nears ps unwatched us described ds s t line a b c d e is =
    subst (λ (k : Standing). IsInPlace ns ps us ds k line) e
    (subst (λ (l : List Description). IsInPlace ns ps us l s line) d
    (subst (λ (l : List ℕ). IsInPlace ns ps l described s line) c
    (subst (λ (l : List Near). IsInPlace ns l unwatched described s line) b
    (subst (λ (l : List Name). IsInPlace l nears unwatched described s line) a is))))

-- where lines may follow these names, places, unwatched targets, descriptions and lines of which `s` holds, and one more line may follow
-- these together with those of the lines, all of these lines may follow these
follow_one_more : (names : List Name) (nears : List Near) (unwatched : List ℕ) (described : List Description) (s : Standing) (lines : List TaskLine) (next : TaskLine)
    → MayFollow names nears unwatched described s lines
    → IsInPlace (names ++ names_of lines) (nears ++ nears_of lines) (unwatched ++ unwatched_of lines) (described ++ described_of lines) (standing_after s lines) next
    → MayFollow names nears unwatched described s (lines ++ next ∷ [])
follow_one_more names nears unwatched described s [] next follow allowed = (
  placed_alike (names ++ []) names (nears ++ []) nears (unwatched ++ []) unwatched (described ++ []) described s s next
      (append-nil names) (append-nil nears) (append-nil unwatched) (append-nil described) refl allowed,
  tt,
)
follow_one_more names nears unwatched described s (line ∷ lines) next follow allowed = (
  follow.0,
  follow_one_more (names ++ name_at line) (nears ++ near_at line) (unwatched ++ unwatched_at line) (described ++ described_at line) (standing_by s line) lines next follow.1
      (placed_alike (names ++ (name_at line ++ names_of lines)) ((names ++ name_at line) ++ names_of lines)
      (nears ++ (near_at line ++ nears_of lines)) ((nears ++ near_at line) ++ nears_of lines)
      (unwatched ++ (unwatched_at line ++ unwatched_of lines)) ((unwatched ++ unwatched_at line) ++ unwatched_of lines)
      (described ++ (described_at line ++ described_of lines)) ((described ++ described_at line) ++ described_of lines)
      (standing_after s (line ∷ lines)) (standing_after (standing_by s line) lines) next
      (sym (append_assoc names (name_at line) (names_of lines))) (sym (append_assoc nears (near_at line) (nears_of lines)))
      (sym (append_assoc unwatched (unwatched_at line) (unwatched_of lines))) (sym (append_assoc described (described_at line) (described_of lines)))
      refl allowed),
)

-- the columns of descriptions and of further ones are the columns of these behind those of the former
pub columns_of_both : (columns : List (ArrayVec ℕ)) (xs ys : List Description) → with_columns columns (xs ++ ys) ≡ with_columns (with_columns columns xs) ys
columns_of_both columns [] ys = refl
columns_of_both columns (x ∷ xs) ys = columns_of_both (columns ++ fresh_names columns x.values.items) xs ys

-- the columns of descriptions and of one more line are the former, and then those that the line adds to them
columns_with_one_more : (described : List Description) (line : TaskLine)
    → new_columns (described ++ described_at line) ≡ new_columns described ++ columns_at (new_columns described) line
columns_with_one_more described (says.Describing d) = columns_of_both [] described (d ∷ [])
columns_with_one_more described line = ap new_columns (append-nil described) ∙ sym (append-nil (new_columns described))

-- where lines gave `old`, and this grew to `new` by what `next` gives by the mode after them, the lines and then `next` gave
-- `new`
gave_with_one_more : (first mode : Mode) (lines : List TaskLine) (next : TaskLine) (old new : Given)
    → LinesGave first lines old → mode ≡ mode_after_lines first lines → Grows mode next old new → LinesGave first (lines ++ next ∷ []) new
gave_with_one_more first mode lines next old new gave is grows =
    record {
      setup_are = grows.setup_more ∙ ap (λ ts. ts ++ setup_at mode next) gave.setup_are ∙ ap (λ m. setup_of first lines ++ setup_at m next) is ∙ sym (given_with_one_more setup_at first lines next);
      cycle_are = grows.cycle_more ∙ ap (λ ts. ts ++ planned_at mode next) gave.cycle_are ∙ ap (λ m. planned_of first lines ++ planned_at m next) is
          ∙ sym (given_with_one_more planned_at first lines next);
      names_are = grows.names_more ∙ ap (λ ns. ns ++ name_at next) gave.names_are ∙ sym (flat_map_one_more name_at lines next);
      nears_are = grows.nears_more ∙ ap (λ ns. ns ++ near_at next) gave.nears_are ∙ sym (flat_map_one_more near_at lines next);
      unwatched_are = grows.unwatched_more ∙ ap (λ us. us ++ unwatched_at next) gave.unwatched_are ∙ sym (flat_map_one_more unwatched_at lines next);
      described_are = grows.described_more ∙ ap (λ ds. ds ++ described_at next) gave.described_are ∙ sym (flat_map_one_more described_at lines next);
      columns_are = grows.columns_more ∙ ap (λ cs. cs ++ columns_at cs next) gave.columns_are ∙ sym (columns_with_one_more old.described.items next)
          ∙ ap new_columns (sym grows.described_more);
    }

-- how far the reading has come, which began in the mode `first`: `left` of the text is unread, `number` lines were read, `given`
-- is what they gave, and `mode` is the mode after them. Where a line that isn't skipped was read, a line that isn't faulty was
-- reached
pub record ReadsTasks (text : List ℕ) (first : Mode) (left : Option (List ℕ)) (number : ℕ) (given : Given) (mode : Mode) : Type 0 where
  pub said : List TaskLine
  pub reads : ReadsSoFar IsTaskLine text left number said
  pub follow : MayFollow [] [] [] [] no_standing said
  pub gave : LinesGave first said given
  pub mode_is : mode ≡ mode_after_lines first said
  pub reached : (said ≡ []) ⊎ ReachesASoundTaskLine text

-- what holds of the lines that were read of a text of at most 65,536 bytes
module _
    (text : List ℕ) (deadline : ℕ) (chained : Bool) (left : Option (List ℕ)) (number : ℕ) (given : Given) (mode : Mode)
    (within : length text ≤ 65536) (r : ReadsTasks text (first_mode deadline chained) left number given mode) where
  -- at most 65,537 lines were read, so that a u32 counts them
  pub tasks_few : number ≤ 65537
  tasks_few = reads_few IsTaskLine text left number r.said within r.reads

  -- at most 65,537 of the lines that were read aren't skipped
  said_few : length r.said ≤ 65537
  said_few =
      let many = AllZip-long IsTaskLine (filter is_kept r.reads.read) r.said r.reads.items_are in
      let few = kept_few r.reads.read in
      omega (arith, many, few, tasks_few, r.reads.count)

  -- each count of the mode is at most 65,537
  pub counted : CountsAtMost mode 65537
  counted =
      let all = counts_after_lines (first_mode deadline chained) r.said 0 (record { begun = omega arith; place = omega arith; link = omega arith; counters = omega arith; values = omega arith }) in
      let few = said_few in
      subst (λ m. CountsAtMost m 65537) (sym r.mode_is) (record { begun = omega (arith, few, all.begun); place = omega (arith, few, all.place); link = omega (arith, few, all.link); counters = omega (arith, few, all.counters); values = omega (arith, few, all.values) })

  -- the cycle's commands are at most 65,537
  pub cycle_few : length given.cycle.items ≤ 65537
  cycle_few = let few = said_few in let all = planned_few (first_mode deadline chained) r.said in let is = ap length r.gave.cycle_are in omega (arith, few, all, is)

-- what becomes of the next line of a text that is being read
module _
    (text : List ℕ) (first : Mode) (left : Option (List ℕ)) (number : ℕ) (given : Given) (mode : Mode) (begins : standing_in first ≡ no_standing)
    (r : ReadsTasks text first left number given mode) (line : List ℕ) (rest : Option (List ℕ)) (at : HasRead IsTaskLine text (line ∷ lines_left rest) number r.said) where
  -- the mode says of the lines that were read what decides whether a line may follow them
  standing_so_far : standing_in mode ≡ standing_of r.said
  standing_so_far = ap standing_in r.mode_is ∙ standing_after_lines first r.said ∙ ap (λ s. standing_after s r.said) begins

  -- a line is in its place behind the lines that were read
  abbrev IsPlacedBehind : TaskLine → Type 0
  IsPlacedBehind said = IsInPlace (names_of r.said) (nears_of r.said) (unwatched_of r.said) (described_of r.said) (standing_of r.said) said

  -- a line is in its place behind what the lines so far gave
  abbrev IsPlacedNow : TaskLine → Type 0
  IsPlacedNow said = IsInPlace given.names.items given.nears.items given.unwatched.items given.described.items (standing_in mode) said

  -- these are the same
  placed_so_far : (said : TaskLine) → IsPlacedNow said → IsPlacedBehind said
  placed_so_far said =
      placed_alike given.names.items (names_of r.said) given.nears.items (nears_of r.said) given.unwatched.items (unwatched_of r.said)
      given.described.items (described_of r.said) (standing_in mode) (standing_of r.said) said
      r.gave.names_are r.gave.nears_are r.gave.unwatched_are r.gave.described_are standing_so_far

  placed_behind : (said : TaskLine) → IsPlacedBehind said → IsPlacedNow said
  placed_behind said =
      placed_alike (names_of r.said) given.names.items (nears_of r.said) given.nears.items (unwatched_of r.said) given.unwatched.items
      (described_of r.said) given.described.items (standing_of r.said) (standing_in mode) said
      (sym r.gave.names_are) (sym r.gave.nears_are) (sym r.gave.unwatched_are) (sym r.gave.described_are) (sym standing_so_far)

  -- if the line is skipped, it is read, and changes nothing but the number of lines
  pub task_skips : is_skipped line ≡ true → ReadsTasks text first rest (number + 1) given mode
  task_skips is =
      record {
        said = r.said;
        reads = line_skips IsTaskLine text line rest number r.said at is;
        follow = r.follow;
        gave = r.gave;
        mode_is = r.mode_is;
        reached = r.reached;
      }

  -- if the line isn't skipped, and says nothing that may follow the lines before it, it is the first faulty one
  is_first_faulty : is_skipped line ≡ false → ((said : TaskLine) → IsTaskLine line said → IsPlacedNow said → ⊥)
      → FirstFaultyTaskLine text (number + 1)
  is_first_faulty isnt none =
      record {
        front = at.read;
        line = line;
        here = is_here IsTaskLine text line rest number r.said at isnt;
        place = ap (λ n. n + 1) at.count;
        before = r.said;
        lines = record { forms = at.items_are; follow = r.follow };
        faulty = λ said is placed. none said is (placed_behind said placed);
      }

  -- if the line isn't skipped and has no form, it is the first faulty one
  pub task_fails : is_skipped line ≡ false → ((said : TaskLine) → IsTaskLine line said → ⊥) → FirstFaultyTaskLine text (number + 1)
  task_fails isnt none = is_first_faulty isnt (λ said is. absurd (none said is))

  -- if the line isn't skipped, has a form, and isn't in its place behind what the lines so far gave (`IsInPlace`), it is the first faulty
  -- one
  pub task_refused : (said : TaskLine) → is_skipped line ≡ false → IsTaskLine line said → (IsPlacedNow said → ⊥) → FirstFaultyTaskLine text (number + 1)
  task_refused said isnt is no_more = is_first_faulty isnt (λ other form placed. no_more (subst IsPlacedNow (one_said line other said form is) placed))

  -- if the line isn't skipped, has a form and is in its place behind what the lines so far gave (`IsInPlace`), the text has a line that
  -- isn't faulty, with no faulty line before it (`ReachesASoundTaskLine`): this is needed where memory is refused at the line
  pub task_wants : (said : TaskLine) → is_skipped line ≡ false → IsTaskLine line said → IsPlacedNow said → ReachesASoundTaskLine text
  task_wants said isnt is did =
      record {
        front = at.read;
        line = line;
        here = is_here IsTaskLine text line rest number r.said at isnt;
        before = r.said;
        lines = record { forms = at.items_are; follow = r.follow };
        said = said;
        form = is;
        allowed = placed_so_far said did;
      }

  -- if the line isn't skipped, has a form and is in its place behind what the lines so far gave (`IsInPlace`), it is read: what the lines
  -- gave grows by what it gives, and the mode is the one after it
  pub task_reads :
      (said : TaskLine) (new : Given) (next : Mode)
      (isnt : is_skipped line ≡ false) (is : IsTaskLine line said) (did : IsPlacedNow said)
      (grows : Grows mode said given new) (more : next ≡ mode_after mode said)
      → ReadsTasks text first rest (number + 1) new next
  task_reads said new next isnt is did grows more =
      record {
        said = r.said ++ said ∷ [];
        reads = line_reads IsTaskLine text line rest number r.said at said (r.said ++ said ∷ []) isnt is refl;
        follow = follow_one_more [] [] [] [] no_standing r.said said r.follow (placed_so_far said did);
        gave = gave_with_one_more first mode r.said said given new r.gave r.mode_is grows;
        mode_is = more ∙ ap (λ m. mode_after m said) r.mode_is ∙ sym (mode_after_both first r.said (said ∷ []));
        reached = inr (task_wants said isnt is did);
      }
