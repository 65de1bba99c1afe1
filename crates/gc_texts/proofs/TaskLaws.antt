-- Laws of a station's text: it has one reading; a command text (lines of commands alone) is one; and chains keep their targets.
-- The mode at a line is what the lines before it make hold there, and a group a run of commands for one target (`specs/Tasks`).
use Rattle.gc_texts.proofs.Common.{arith, subst, length, ◌||◌, ◌+◌, ◌*◌, zero, suc, nat_lt, if◌then◌else◌, append_assoc, append-nil, ◌≡◌, ℕ, List, [], ◌∷◌, ◌++◌, map, Option, Some, None, Bool, true, false, ◌&&◌, ◌⊎◌, inl, inr, refl, ap, sym, ◌∙◌, AllByRecursion, flat_map, length-map, map-append, all_by_recursion_push, eqb-true, le-leb, and_from, and_parts, both_ways, or-true, nat_tests, same_Some, no_again, no_codes, IsCommand, OneTaskList, CommandsAreTasks, plain_tasks, CommandsArePlain, KeepTargets, IsOneChain, ChainsKeepTargets, attempt_number, in_attempt, attempts_from, tasks_planned, attempts, laid_from, laid_out, sendings, no_retry, Description, Again, Agree, Once, Retry, Planned, is_kept, text_lines, AreLinesOf, IsTaskLine, TasksSeen, first_mode, mode_after, continues_group, task_at, setup_of, planned_of, tasks_of, name_at, names_of, near_at, nears_of, unwatched_at, unwatched_of, described_at, described_of, form_of_asked, placed, no_standing, standing_by, MayFollow, new_columns, no_needs, wish_of, Asked, Table, Raw, Plain, Command, Name, Near, Standing, TaskLine, Mode, Task}
use Rattle.std.specs.Prelude.{filter}
use Rattle.gc_texts.proofs.OneReading.{one_list}
use Rattle.gc_texts.proofs.SentAs.{all_sendings}
use Rattle.gc_texts.proofs.TaskForms.{one_said}
use Rattle.gc_texts.specs.declared.task_line.TaskLine.TheVariants as says

-- what two texts give is the same if the numbers of setup tasks are, the tasks, the names, the places, the unwatched targets, the
-- descriptions and the columns that these add
same_tasks : (a b : TasksSeen) → a.setup ≡ b.setup → a.tasks ≡ b.tasks → a.names ≡ b.names → a.nears ≡ b.nears → a.unwatched ≡ b.unwatched
    → a.described ≡ b.described → a.columns ≡ b.columns → a ≡ b
same_tasks a b e f g h i j k =
    ap (λ n. record a { setup = n }) e
    ∙ ap (λ ts. record a { setup = b.setup; tasks = ts }) f
    ∙ ap (λ ns. record a { setup = b.setup; tasks = b.tasks; names = ns }) g
    ∙ ap (λ ns. record a { setup = b.setup; tasks = b.tasks; names = b.names; nears = ns }) h
    ∙ ap (λ us. record b { unwatched = us; described = a.described; columns = a.columns }) i
    ∙ ap (λ ds. record b { described = ds; columns = a.columns }) j
    ∙ ap (λ cs. record b { columns = cs }) k

-- the law: with a caller's deadline and chaining, a text gives one number of setup tasks at most, one list of tasks, one of
-- names, one of places, one of unwatched targets, one of descriptions, and one of the columns that these add
pub one_task_list : OneTaskList
one_task_list text deadline chained one other h k =
    let same : h.said ≡ k.said = one_list IsTaskLine one_said (filter is_kept (text_lines text)) h.said k.said h.lines.forms k.lines.forms in
    let places : one.nears ≡ other.nears = h.nears_are ∙ ap nears_of same ∙ sym k.nears_are in
    let apart : one.unwatched ≡ other.unwatched = h.unwatched_are ∙ ap unwatched_of same ∙ sym k.unwatched_are in
    let procedures : one.described ≡ other.described = h.described_are ∙ ap described_of same ∙ sym k.described_are in
    same_tasks one other (h.setup_is ∙ ap (λ said. length (setup_of (first_mode deadline chained) said)) same ∙ sym k.setup_is)
    (h.tasks_are ∙ ap (λ ns. map (placed ns one.unwatched one.described) (tasks_of (first_mode deadline chained) h.said)) places
    ∙ ap (λ us. map (placed other.nears us one.described) (tasks_of (first_mode deadline chained) h.said)) apart
    ∙ ap (λ ds. map (placed other.nears other.unwatched ds) (tasks_of (first_mode deadline chained) h.said)) procedures
    ∙ ap (λ said. map (placed other.nears other.unwatched other.described) (tasks_of (first_mode deadline chained) said)) same ∙ sym k.tasks_are)
    (h.names_are ∙ ap names_of same ∙ sym k.names_are) places apart procedures (h.columns_are ∙ ap new_columns procedures ∙ sym k.columns_are)

-- what the lines of a command text say as lines of a station's text: these commands, none of which sets a clock to its moment
abbrev lines_of : List Command → List TaskLine
lines_of commands = map (λ command. says.Command (wish_of command) Plain None) commands

-- lines that have the forms of commands say these commands as lines of a station's text (`lines_of`)
lines_have_forms : (lines : List (List ℕ)) (commands : List Command) → AreLinesOf IsCommand lines commands → AreLinesOf IsTaskLine lines (lines_of commands)
lines_have_forms [] [] are = tt
lines_have_forms [] (c ∷ cs) are = absurd are
lines_have_forms (line ∷ lines) [] are = absurd are
lines_have_forms (line ∷ lines) (c ∷ cs) are = (are.0, lines_have_forms lines cs are.1)

-- lines of commands may follow any names, places, unwatched targets and descriptions
lines_follow : (names : List Name) (nears : List Near) (unwatched : List ℕ) (described : List Description) (s : Standing) (commands : List Command) → MayFollow names nears unwatched described s (lines_of commands)
lines_follow names nears unwatched described s [] = tt
lines_follow names nears unwatched described s (c ∷ cs) =
    (record { follows = and_from (nat_lt s.counters 16 || true) true (or-true (nat_lt s.counters 16)) refl; fits = tt }, lines_follow (names ++ []) (nears ++ []) (unwatched ++ []) (described ++ []) (standing_by s (says.Command (wish_of c) Plain None)) cs)

-- where the line of a command gives nothing, as it gives no name and no place, the lines of commands give nothing
lines_give_none : {Item : Type 0} (given_at : TaskLine → List Item) → ((c : Command) → given_at (says.Command (wish_of c) Plain None) ≡ [])
    → (commands : List Command) → [] ≡ flat_map given_at (lines_of commands)
lines_give_none given_at none [] = refl
lines_give_none given_at none (c ∷ cs) = lines_give_none given_at none cs ∙ ap (λ items. items ++ flat_map given_at (lines_of cs)) (sym (none c))

-- this task is as before its chain is laid out in attempts, and before it gets the place of its target: it has attempt number 1,
-- and neither a rule nor a count of others nor a place
pub record IsAsPlanned (task : Task) : Type 0 where
  pub near : task.near ≡ None
  pub again : task.again ≡ no_again
  pub attempt : task.turn.attempt ≡ 1
  pub others : task.others ≡ 0

-- the tasks of these commands are as planned (`IsAsPlanned`)
abbrev pub AreAsPlanned : List Planned → Type 0
AreAsPlanned planned = AllByRecursion (λ p. IsAsPlanned p.task) planned

-- a command that isn't repeated, and is sent once in an attempt, with its task as planned (`IsAsPlanned`)
record IsSentOnce (planned : Planned) : Type 0 where
  retry : planned.retry ≡ no_retry
  agree : planned.agree ≡ None
  twice : planned.task.twice ≡ Once
  task : IsAsPlanned planned.task

-- the first attempt of a command whose chain is sent once is its task
first_attempt_is_task : (n : ℕ) (p : Planned) → IsSentOnce p → in_attempt 1 no_again n p.task ≡ p.task
first_attempt_is_task n p h =
    ap (λ w. record p.task { again = no_again; turn = record { place = p.task.turn.place; attempt = attempt_number 1 w; link = p.task.turn.link }; others = 0 }) h.twice
    ∙ ap (λ a. record p.task { again = a; turn = record { place = p.task.turn.place; attempt = 1; link = p.task.turn.link }; others = 0 }) (sym h.task.again)
    ∙ ap (λ k. record p.task { turn = record { place = p.task.turn.place; attempt = k; link = p.task.turn.link }; others = 0 }) (sym h.task.attempt)
    ∙ ap (λ k. record p.task { others = k }) (sym h.task.others)

-- the first attempts of commands whose chains are sent once are their tasks
first_attempts_are_tasks : (n : ℕ) (ps : List Planned) → AllByRecursion IsSentOnce ps → map (in_attempt 1 no_again n) (tasks_planned ps) ≡ tasks_planned ps
first_attempts_are_tasks n [] all = refl
first_attempts_are_tasks n (p ∷ ps) all =
    ap (λ t. t ∷ map (in_attempt 1 no_again n) (tasks_planned ps)) (first_attempt_is_task n p all.0) ∙ ap (λ ts. p.task ∷ ts) (first_attempts_are_tasks n ps all.1)

-- where a chain is sent once, its attempts are its commands' tasks
attempts_are_tasks : (retry : Retry) (agree : Option Agree) (chain : List Planned) → retry ≡ no_retry → agree ≡ None → AllByRecursion IsSentOnce chain
    → attempts retry agree chain ≡ tasks_planned chain
attempts_are_tasks retry agree chain none once all =
    ap (λ r. attempts r agree chain) none ∙ ap (λ a. attempts no_retry a chain) once ∙ first_attempts_are_tasks (length (tasks_planned chain)) chain all

-- where all chains are sent once, their attempts are the commands' tasks
laid_once : (retry : Retry) (agree : Option Agree) (chain later : List Planned)
    → retry ≡ no_retry → agree ≡ None → AllByRecursion IsSentOnce chain → AllByRecursion IsSentOnce later
    → laid_from retry agree chain later ≡ tasks_planned chain ++ tasks_planned later
laid_once retry agree chain [] none once all rest = attempts_are_tasks retry agree chain none once all ∙ sym (append-nil (tasks_planned chain))
laid_once retry agree chain (p ∷ later) none once all rest =
    by_chained (laid_once retry agree (chain ++ p ∷ []) later none once (all_by_recursion_push IsSentOnce chain p all rest.0) rest.1)
    (laid_once p.retry p.agree (p ∷ []) later rest.0.retry rest.0.agree (rest.0, tt) rest.1) p.task.chained where
      -- the lemma above for `p ∷ later`, by whether `p` goes on with the chain (`b`)
      by_chained : laid_from retry agree (chain ++ p ∷ []) later ≡ tasks_planned (chain ++ p ∷ []) ++ tasks_planned later
          → laid_from p.retry p.agree (p ∷ []) later ≡ p.task ∷ tasks_planned later → (b : Bool)
          → (if b then laid_from retry agree (chain ++ p ∷ []) later else attempts retry agree chain ++ laid_from p.retry p.agree (p ∷ []) later)
          ≡ tasks_planned chain ++ p.task ∷ tasks_planned later
      by_chained on anew true =
          on ∙ ap (λ ts. ts ++ tasks_planned later) (map-append (λ (q : Planned). q.task) chain (p ∷ [])) ∙ append_assoc (tasks_planned chain) (p.task ∷ []) (tasks_planned later)
      by_chained on anew false =
          ap (λ ts. ts ++ laid_from p.retry p.agree (p ∷ []) later) (attempts_are_tasks retry agree chain none once all)
          ∙ ap (λ ts. tasks_planned chain ++ ts) anew

-- this task has no place of its target, is watched, has no form of its answers, and has its turn in each cycle
record IsUnplaced (task : Task) : Type 0 where
  near : task.near ≡ None
  watched : task.watched ≡ true
  form : task.form ≡ None
  every : task.every ≡ 1

-- without descriptions no answer has a form
formless : (asked : Asked) → form_of_asked [] asked ≡ None
formless (Table call) = refl
formless (Raw raw) = refl

-- tasks without places and forms that are watched, and have their turn in each cycle, stay as they are where the text says no place, leaves
-- no target unwatched, and describes no procedure
unplaced_stay : (tasks : List Task) → AllByRecursion IsUnplaced tasks → map (placed [] [] []) tasks ≡ tasks
unplaced_stay [] all = refl
unplaced_stay (t ∷ ts) all =
    ap (λ w. record t { near = None; watched = w; form = form_of_asked [] t.command.call } ∷ map (placed [] [] []) ts) (le-leb t.every 1 (omega (arith, all.0.every)))
    ∙ ap (λ f. record t { near = None; watched = true; form = f } ∷ map (placed [] [] []) ts) (formless t.command.call ∙ sym all.0.form)
    ∙ ap (λ n. record t { near = n; watched = true } ∷ map (placed [] [] []) ts) (sym all.0.near) ∙ ap (λ w. record t { watched = w } ∷ map (placed [] [] []) ts) (sym all.0.watched)
    ∙ ap (λ us. t ∷ us) (unplaced_stay ts all.1)

-- commands alone, read in a mode of the cycle without accepted codes and without retries, which counts `place` commands before
-- them, and `link` of the chain that the first may continue
module _ (deadline : ℕ) (chained : Bool) where
  -- the mode with this group, with `place` commands in front, of which `link` are in the chain
  abbrev mode_in_cycle : (group : Option ℕ) (place link : ℕ) → Mode
  mode_in_cycle group place link =
      record {
        deadline = deadline;
        chained = chained;
        group = group;
        accepted = no_codes;
        busy = no_codes;
        retry = no_retry;
        agree = None;
        setup = false;
        every = 1;
        begun = 0;
        place = place;
        link = link;
        counters = 0;
        values = 0;
      }

  -- how many commands the chain has after a command for this target, where it has `link` before it
  abbrev next_link : (group : Option ℕ) (link target : ℕ) → ℕ
  next_link group link target = (if chained && continues_group group target then link else 0) + 1

  -- commands that are read in such a mode (`mode_in_cycle`) give no setup
  no_setup : (group : Option ℕ) (place link : ℕ) (commands : List Command) → setup_of (mode_in_cycle group place link) (lines_of commands) ≡ []
  no_setup group place link [] = refl
  no_setup group place link (c ∷ cs) = no_setup (Some c.target) (place + 1) (next_link group link c.target) cs

  -- the chain of each command that is read in such a mode (`mode_in_cycle`) is sent once
  each_is_sent_once : (group : Option ℕ) (place link : ℕ) (commands : List Command)
      → AllByRecursion IsSentOnce (planned_of (mode_in_cycle group place link) (lines_of commands))
  each_is_sent_once group place link [] = tt
  each_is_sent_once group place link (c ∷ cs) =
      (record { retry = refl; agree = refl; twice = refl; task = record { near = refl; again = refl; attempt = refl; others = refl } }, each_is_sent_once (Some c.target) (place + 1) (next_link group link c.target) cs)

  -- no task of commands that are read in such a mode (`mode_in_cycle`) has a place of its target, all are watched, and have their turn in each
  -- cycle
  none_placed : (group : Option ℕ) (place link : ℕ) (commands : List Command)
      → AllByRecursion IsUnplaced (map (λ p. p.task) (planned_of (mode_in_cycle group place link) (lines_of commands)))
  none_placed group place link [] = tt
  none_placed group place link (c ∷ cs) = (record { near = refl; watched = refl; form = refl; every = refl }, none_placed (Some c.target) (place + 1) (next_link group link c.target) cs)

  -- the tasks of commands that are read in such a mode (`mode_in_cycle`) ask for these commands, in order
  asked_tasks : (group : Option ℕ) (place link : ℕ) (commands : List Command)
      → map (λ task. task.command) (map (λ p. p.task) (planned_of (mode_in_cycle group place link) (lines_of commands))) ≡ map wish_of commands
  asked_tasks group place link [] = refl
  asked_tasks group place link (c ∷ cs) = ap (λ l. wish_of c ∷ l) (asked_tasks (Some c.target) (place + 1) (next_link group link c.target) cs)

  -- the tasks of the commands, read in the first mode, are the tasks that lines of these commands alone give
  tasks_are_asked : (commands : List Command)
      → map (λ p. p.task) (planned_of (first_mode deadline chained) (lines_of commands)) ≡ map (placed [] [] []) (tasks_of (first_mode deadline chained) (lines_of commands))
  tasks_are_asked commands =
      let planned = planned_of (first_mode deadline chained) (lines_of commands) in
      let laid : laid_out planned ≡ map (λ p. p.task) planned = laid_once no_retry None [] planned refl refl tt (each_is_sent_once None 0 0 commands) in
      sym (unplaced_stay (map (λ p. p.task) planned) (none_placed None 0 0 commands)) ∙ ap (map (placed [] [] [])) (sym laid)
      ∙ ap (λ ts. map (placed [] [] []) (ts ++ laid_out planned)) (sym (no_setup None 0 0 commands))

-- the law: each command text is a station's text, of the same commands in the same order, and without setup, names and places
pub commands_are_tasks : CommandsAreTasks
commands_are_tasks text commands deadline chained are = (
  map (λ p. p.task) (planned_of (first_mode deadline chained) (lines_of commands)),
  record {
    said = lines_of commands;
    lines = record { forms = lines_have_forms (filter is_kept (text_lines text)) commands are; follow = lines_follow [] [] [] [] no_standing commands };
    tasks_are = tasks_are_asked deadline chained commands;
    setup_is = ap length (sym (no_setup deadline chained None 0 0 commands));
    names_are = lines_give_none name_at (λ c. refl) commands;
    nears_are = lines_give_none near_at (λ c. refl) commands;
    unwatched_are = lines_give_none unwatched_at (λ c. refl) commands;
    described_are = lines_give_none described_at (λ c. refl) commands;
    columns_are = refl;
  },
  asked_tasks deadline chained None 0 0 commands,
)

-- read in a mode of the cycle without chaining (`mode_in_cycle`), commands give the tasks `plain_tasks`, which have the deadline
-- `deadline` and are numbered from `place` on
unchained_are_plain : (deadline : ℕ) (group : Option ℕ) (place link : ℕ) (commands : List Command)
    → plain_tasks deadline place commands ≡ map (λ p. p.task) (planned_of (mode_in_cycle deadline false group place link) (lines_of commands))
unchained_are_plain deadline group place link [] = refl
unchained_are_plain deadline group place link (c ∷ cs) =
    ap (λ l. record {
      command = wish_of c;
      deadline = deadline;
      chained = false;
      near = None;
      watched = true;
      form = None;
      accepted = no_codes;
      busy = no_codes;
      expects = None;
      counter = None;
      again = no_again;
      turn = record { place = place; attempt = 1; link = 0 };
      others = 0;
      every = 1;
      now = false;
      needs = no_needs;
      twice = Once;
    } ∷ l)
    (unchained_are_plain deadline (Some c.target) (place + 1) 1 cs)

-- the law: a command text, read as a station's text without chains, gives one task for each command, in order, not chained and
-- with the caller's deadline (`plain_tasks`), and neither setup nor names nor places nor unwatched targets nor descriptions
pub commands_are_plain : CommandsArePlain
commands_are_plain text commands deadline are =
    record {
      said = lines_of commands;
      lines = record { forms = lines_have_forms (filter is_kept (text_lines text)) commands are; follow = lines_follow [] [] [] [] no_standing commands };
      tasks_are = unchained_are_plain deadline None 0 0 commands ∙ tasks_are_asked deadline false commands;
      setup_is = ap length (sym (no_setup deadline false None 0 0 commands));
      names_are = lines_give_none name_at (λ c. refl) commands;
      nears_are = lines_give_none near_at (λ c. refl) commands;
      unwatched_are = lines_give_none unwatched_at (λ c. refl) commands;
      described_are = lines_give_none described_at (λ c. refl) commands;
      columns_are = refl;
    }

-- a group that a command for a target continues is the group of that target
pub continued_group_is : (group : Option ℕ) (target : ℕ) → continues_group group target ≡ true → group ≡ Some target
continued_group_is None target e = cc
continued_group_is (Some before) target e = ap Some (eqb-true before target e)

-- `group` is the target of the group, and `before` that of the task before, or `None` where there is none. Where `group` is
-- `None` or equals `before`, and is `Some target`, `before` is `Some target`
group_before : (group before : Option ℕ) (target : ℕ) → (group ≡ None) ⊎ (group ≡ before) → group ≡ Some target → before ≡ Some target
group_before group before target (inl none) e = let bad : None ≡ Some target = sym none ∙ e in cc
group_before group before target (inr same) e = sym same ∙ e

-- commands of the cycle keep targets as their tasks do (`KeepTargets`): each chained one follows one for the same target
abbrev pub CommandsKeepTargets : Option ℕ → List Planned → Type 0
CommandsKeepTargets before planned = KeepTargets before (tasks_planned planned)

-- `before` is the target of the cycle's command before these lines, if there is one. Where the mode is the setup's, or its group
-- is none or that target, each chained command of the cycle follows one for the same target
pub commands_keep_targets : (mode : Mode) (before : Option ℕ) (said : List TaskLine)
    → (mode.setup ≡ true) ⊎ ((mode.group ≡ None) ⊎ (mode.group ≡ before)) → CommandsKeepTargets before (planned_of mode said)
commands_keep_targets mode before [] h = tt
commands_keep_targets mode before (says.Command c w x ∷ later) h =
    by_setup mode.setup refl h (λ e. commands_keep_targets (mode_after mode (says.Command c w x)) before later (inl e))
    (commands_keep_targets (mode_after mode (says.Command c w x)) (Some c.target) later (inr (inr refl))) where
      -- the lemma above for a command and the lines after it, by whether the mode is that of the setup (`b`)
      by_setup : (b : Bool) → mode.setup ≡ b → (mode.setup ≡ true) ⊎ ((mode.group ≡ None) ⊎ (mode.group ≡ before))
          → (mode.setup ≡ true → CommandsKeepTargets before (planned_of (mode_after mode (says.Command c w x)) later))
          → CommandsKeepTargets (Some c.target) (planned_of (mode_after mode (says.Command c w x)) later)
          → CommandsKeepTargets before
          ((if b then [] else record { task = task_at mode c w x; retry = mode.retry; agree = mode.agree } ∷ []) ++ planned_of (mode_after mode (says.Command c w x)) later)
      by_setup true e h at_start in_cycle = at_start e
      by_setup false e (inl is) at_start in_cycle = let bad : true ≡ false = sym is ∙ e in cc
      by_setup false e (inr is) at_start in_cycle = (
        (λ on.
            let so : (mode.chained && continues_group mode.group c.target) ≡ true = ap (λ b. if b then nat_lt 0 mode.begun else mode.chained && continues_group mode.group c.target) (sym e) ∙ on in
            group_before mode.group before c.target is (continued_group_is mode.group c.target (and_parts mode.chained (continues_group mode.group c.target) so).1)),
        in_cycle,
      )
commands_keep_targets mode before (says.Deadline d ∷ later) h = commands_keep_targets (mode_after mode (says.Deadline d)) before later h
commands_keep_targets mode before (says.Chained ∷ later) h = commands_keep_targets (mode_after mode says.Chained) before later (inr (inl refl))
commands_keep_targets mode before (says.Unchained ∷ later) h = commands_keep_targets (mode_after mode says.Unchained) before later (inr (inl refl))
commands_keep_targets mode before (says.Retrying r ∷ later) h = commands_keep_targets (mode_after mode (says.Retrying r)) before later (inr (inl refl))
commands_keep_targets mode before (says.Agreeing a ∷ later) h = commands_keep_targets (mode_after mode (says.Agreeing a)) before later (inr (inl refl))
commands_keep_targets mode before (says.AtStart ∷ later) h = commands_keep_targets (mode_after mode says.AtStart) before later (inr (inl refl))
commands_keep_targets mode before (says.EachCycle ∷ later) h = commands_keep_targets (mode_after mode says.EachCycle) before later (inr (inl refl))
commands_keep_targets mode before (says.Every n ∷ later) h = commands_keep_targets (mode_after mode (says.Every n)) before later (inr (inl refl))
commands_keep_targets mode before (line ∷ later) h = commands_keep_targets (mode_after mode line) before later h

-- if tasks keep targets with no task before them, so that their first isn't chained, they do so after a task for any target, too
keep_targets_after_any : (before : Option ℕ) (tasks : List Task) → KeepTargets None tasks → KeepTargets before tasks
keep_targets_after_any before [] are = tt
keep_targets_after_any before (t ∷ ts) are = ((λ e. let bad : None ≡ Some t.command.target = are.0 e in cc), are.1)

-- tasks that keep targets, and after them tasks that do so with no task before them, keep targets together
keep_targets_together : (before : Option ℕ) (xs ys : List Task) → KeepTargets before xs → KeepTargets None ys → KeepTargets before (xs ++ ys)
keep_targets_together before [] ys first second = keep_targets_after_any before ys second
keep_targets_together before (x ∷ xs) ys first second = (first.0, keep_targets_together (Some x.command.target) xs ys first.1 second)

-- where commands keep targets after a command for the target `before`, if there is one, so do the tasks of one attempt of them
attempt_keeps_targets : (attempt : ℕ) (again : Again) (n : ℕ) (before : Option ℕ) (commands : List Task)
    → KeepTargets before commands → KeepTargets before (map (in_attempt attempt again n) commands)
attempt_keeps_targets attempt again n before [] are = tt
attempt_keeps_targets attempt again n before (t ∷ ts) are = (are.0, attempt_keeps_targets attempt again n (Some t.command.target) ts are.1)

-- where the commands of an attempt keep targets with none before them, so do the tasks of the attempts from `attempt` on
attempts_keep_targets : (attempt left : ℕ) (again : Again) (commands : List Task)
    → KeepTargets None commands → KeepTargets None (attempts_from attempt left again commands)
attempts_keep_targets attempt zero again commands are = attempt_keeps_targets attempt no_again (length commands) None commands are
attempts_keep_targets attempt (suc left) again commands are =
    keep_targets_together None (map (in_attempt attempt again (length commands * suc (suc left))) commands) (attempts_from (attempt + 1) left again commands)
    (attempt_keeps_targets attempt again (length commands * suc (suc left)) None commands are) (attempts_keep_targets (attempt + 1) left again commands are)

-- all these tasks are for this target
abbrev AreFor : ℕ → List Task → Type 0
AreFor target tasks = AllByRecursion (λ task. task.command.target ≡ target) tasks

-- the first of these tasks, if there is one, isn't chained
abbrev BeginsUnchained : List Task → Type 0
BeginsUnchained [] = Unit {0}
BeginsUnchained (task ∷ later) = task.chained ≡ false

-- tasks for one target keep targets after one for that target
one_target_keeps : (target : ℕ) (tasks : List Task) → AreFor target tasks → KeepTargets (Some target) tasks
one_target_keeps target [] all = tt
one_target_keeps target (t ∷ ts) all =
    ((λ e. ap Some (sym all.0)), subst (λ n. KeepTargets (Some n) ts) (sym all.0) (one_target_keeps target ts all.1))

-- tasks for one target, of which the first isn't chained, keep targets with none before them
one_target_begins : (target : ℕ) (tasks : List Task) → BeginsUnchained tasks → AreFor target tasks → KeepTargets None tasks
one_target_begins target [] is all = tt
one_target_begins target (t ∷ ts) is all =
    ((λ e. absurd (both_ways t.chained is e)), subst (λ n. KeepTargets (Some n) ts) (sym all.0) (one_target_keeps target ts all.1))

-- an attempt of a chain begins as the chain does
sendings_begin : (agree : Option Agree) (chain : List Task) → BeginsUnchained chain → BeginsUnchained (sendings agree chain)
sendings_begin None chain is = is
sendings_begin (Some agree) [] is = tt
sendings_begin (Some agree) (task ∷ later) is = is

-- the tasks of all attempts of a chain for one target keep targets with none before them
chain_keeps_targets : (retry : Retry) (agree : Option Agree) (target : ℕ) (chain : List Planned)
    → BeginsUnchained (tasks_planned chain) → AreFor target (tasks_planned chain) → KeepTargets None (attempts retry agree chain)
chain_keeps_targets retry agree target chain is all =
    attempts_keep_targets 1 retry.times retry.again (sendings agree (tasks_planned chain))
    (one_target_begins target (sendings agree (tasks_planned chain)) (sendings_begin agree (tasks_planned chain) is)
    (all_sendings (λ task. task.command.target ≡ target) (λ count nth task e. e) (λ a count nth task e. e) agree (tasks_planned chain) all))

-- a chain for one target and one more command for it are for that target
for_one_more : (target : ℕ) (chain : List Planned) (p : Planned) → AreFor target (tasks_planned chain) → p.task.command.target ≡ target
    → AreFor target (tasks_planned (chain ++ p ∷ []))
for_one_more target [] p all is = (is, tt)
for_one_more target (q ∷ chain) p all is = (all.0, for_one_more target chain p all.1 is)

-- where a chain that was begun is for one target, and the commands after it keep targets after one for that target, the tasks of all
-- attempts of it and of the chains after it keep targets with none before them
laid_keep_targets : (retry : Retry) (agree : Option Agree) (target : ℕ) (first : Planned) (chain later : List Planned)
    → BeginsUnchained (tasks_planned (first ∷ chain)) → AreFor target (tasks_planned (first ∷ chain)) → CommandsKeepTargets (Some target) later
    → KeepTargets None (laid_from retry agree (first ∷ chain) later)
laid_keep_targets retry agree target first chain [] is all more = chain_keeps_targets retry agree target (first ∷ chain) is all
laid_keep_targets retry agree target first chain (p ∷ later) is all more =
    by_chained p.task.chained refl
    (λ e. let same : p.task.command.target ≡ target = sym (same_Some target p.task.command.target (more.0 e)) in
    laid_keep_targets retry agree target first (chain ++ p ∷ []) later is (for_one_more target (first ∷ chain) p all same) (subst (λ n. CommandsKeepTargets (Some n) later) same more.1))
    (λ e. laid_keep_targets p.retry p.agree p.task.command.target p [] later e (refl, tt) more.1) where
      -- the lemma above for `p ∷ later`, by whether `p` goes on with the chain (`b`)
      by_chained : (b : Bool) → p.task.chained ≡ b
          → (p.task.chained ≡ true → KeepTargets None (laid_from retry agree (first ∷ (chain ++ p ∷ [])) later))
          → (p.task.chained ≡ false → KeepTargets None (laid_from p.retry p.agree (p ∷ []) later))
          → KeepTargets None (if b then laid_from retry agree ((first ∷ chain) ++ p ∷ []) later else attempts retry agree (first ∷ chain) ++ laid_from p.retry p.agree (p ∷ []) later)
      by_chained true e on anew = on e
      by_chained false e on anew =
          keep_targets_together None (attempts retry agree (first ∷ chain)) (laid_from p.retry p.agree (p ∷ []) later)
          (chain_keeps_targets retry agree target (first ∷ chain) is all) (anew e)

-- where commands keep targets with none before them, so do the tasks of all attempts of their chains
laid_out_keeps_targets : (planned : List Planned) → CommandsKeepTargets None planned → KeepTargets None (laid_out planned)
laid_out_keeps_targets [] are = tt
laid_out_keeps_targets (p ∷ later) are = by_chained p.task.chained refl (λ e. laid_keep_targets p.retry p.agree p.task.command.target p [] later e (refl, tt) are.1) where
  -- the lemma above for `p ∷ later`: `p` isn't chained, because no command is before it
  by_chained : (b : Bool) → p.task.chained ≡ b → (p.task.chained ≡ false → KeepTargets None (laid_from p.retry p.agree (p ∷ []) later))
      → KeepTargets None (if b then laid_from no_retry None ([] ++ p ∷ []) later else attempts no_retry None [] ++ laid_from p.retry p.agree (p ∷ []) later)
  by_chained true e anew = let bad : None ≡ Some p.task.command.target = are.0 e in cc
  by_chained false e anew = anew e

-- tasks that keep targets do so, too, once they have their places, which change neither which are chained nor for which target
-- they are
placed_keep_targets : (nears : List Near) (unwatched : List ℕ) (described : List Description) (before : Option ℕ) (tasks : List Task) → KeepTargets before tasks → KeepTargets before (map (placed nears unwatched described) tasks)
placed_keep_targets nears unwatched described before [] are = tt
placed_keep_targets nears unwatched described before (task ∷ later) are = (are.0, placed_keep_targets nears unwatched described (Some task.command.target) later are.1)

-- these tasks, after n others of a chain, are the rest of that chain: all are chained, but for the first where n is 0
abbrev ContinueChain : ℕ → List Task → Type 0
ContinueChain zero tasks = IsOneChain tasks
ContinueChain (suc n) tasks = AllByRecursion (λ task. task.chained ≡ true) tasks

-- where tasks are the rest of a chain after n + 1 others, they and a task before them, which is chained exactly if n isn't 0, are
-- the rest after n others
chain_continued : (n : ℕ) (task : Task) (later : List Task) → task.chained ≡ nat_lt 0 n → ContinueChain (n + 1) later → ContinueChain n (task ∷ later)
chain_continued zero task later is more = (is, more)
chain_continued (suc n) task later is more = (is ∙ suc_above_zero n, subst (λ k. ContinueChain k later) (suc_and_one n) more) where
  -- `nat_lt` says that n + 1 is above 0
  suc_above_zero : (n : ℕ) → nat_lt 0 (suc n) ≡ true
  suc_above_zero n = grind (arith, nat_tests)

  -- n + 1 and 1 are n + 2
  suc_and_one : (n : ℕ) → suc n + 1 ≡ suc (suc n)
  suc_and_one n = omega arith

-- the setup tasks of these lines, with their places, continue as one chain (`ContinueChain`) the tasks that the mode before the
-- lines has counted (`begun`)
setup_chain : (nears : List Near) (unwatched : List ℕ) (described : List Description) (mode : Mode) (said : List TaskLine) → ContinueChain mode.begun (map (placed nears unwatched described) (setup_of mode said))
setup_chain nears unwatched described mode [] = none_continues mode.begun where
  -- the empty list of tasks continues a chain of whatever number of tasks (`ContinueChain`)
  none_continues : (n : ℕ) → ContinueChain n []
  none_continues zero = tt
  none_continues (suc n) = tt
setup_chain nears unwatched described mode (says.Command c w x ∷ later) = by_setup mode.setup refl (setup_chain nears unwatched described (mode_after mode (says.Command c w x)) later) where
  -- the lemma above for a command and the lines after it, by whether the mode is that of the setup (`b`)
  by_setup : (b : Bool) → mode.setup ≡ b
      → ContinueChain (mode_after mode (says.Command c w x)).begun (map (placed nears unwatched described) (setup_of (mode_after mode (says.Command c w x)) later))
      → ContinueChain mode.begun
      (map (placed nears unwatched described) ((if b then task_at mode c w x ∷ [] else []) ++ setup_of (mode_after mode (says.Command c w x)) later))
  by_setup true e more =
      chain_continued mode.begun (placed nears unwatched described (task_at mode c w x)) (map (placed nears unwatched described) (setup_of (mode_after mode (says.Command c w x)) later))
      (ap (λ b. if b then nat_lt 0 mode.begun else mode.chained && continues_group mode.group c.target) e)
      (subst (λ n. ContinueChain n (map (placed nears unwatched described) (setup_of (mode_after mode (says.Command c w x)) later))) (ap (λ b. if b then mode.begun + 1 else mode.begun) e) more)
  by_setup false e more = subst (λ n. ContinueChain n (map (placed nears unwatched described) (setup_of (mode_after mode (says.Command c w x)) later))) (ap (λ b. if b then mode.begun + 1 else mode.begun) e) more
setup_chain nears unwatched described mode (line ∷ later) = setup_chain nears unwatched described (mode_after mode line) later

-- the law: the setup is one chain, and of the tasks after it the first isn't chained, and each chained one follows one for the
-- same target
pub chains_keep_targets : ChainsKeepTargets
chains_keep_targets text deadline chained all is =
    let first = first_mode deadline chained in
    let front = map (placed all.nears all.unwatched all.described) (setup_of first is.said) in
    let cycle = map (placed all.nears all.unwatched all.described) (laid_out (planned_of first is.said)) in (
      front,
      cycle,
      is.tasks_are ∙ map-append (placed all.nears all.unwatched all.described) (setup_of first is.said) (laid_out (planned_of first is.said)),
      is.setup_is ∙ sym (length-map (setup_of first is.said) (placed all.nears all.unwatched all.described)),
      setup_chain all.nears all.unwatched all.described first is.said,
      placed_keep_targets all.nears all.unwatched all.described None (laid_out (planned_of first is.said))
          (laid_out_keeps_targets (planned_of first is.said) (commands_keep_targets first None is.said (inr (inl refl)))),
    )
