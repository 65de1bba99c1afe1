-- What holds of a command in a station's text, by the lines before it. The mode at a line is what these lines make hold there:
-- the deadline, the accepted return codes, the retry, whether commands are chained, and the target of the group that a command
-- may continue. A group is a run of commands for one target, which a line `chained`, `unchained`, `retry`, `agree`, `at start`,
-- `each cycle` or `every N cycles` ends. `Says` says that a mode is what these lines say.
use Rattle.gc_texts.proofs.Common.{◌≡◌, inl, inr, ◌+◌, ◌≤◌, nat_le, nat_lt, if◌then◌else◌, arith, ℕ, ◌&&◌, ◌||◌, Bool, true, false, not, List, [], ◌∷◌, ◌++◌, length, map, Option, Some, None, refl, sym, ap, ◌∙◌, subst, append_assoc, append-nil, AllByRecursion, eq-eqb, and_parts, and_from, length-map, length-append, map-append, all_by_recursion_push, none-some, same_Some, section_after, every_after, setup_commands, cycle_commands, IsSetAfter, SaysNoDeadline, IsDeadlineAfter, SaysNoChaining, chaining_line, IsChainingAfter, SaysNoCodes, AreAcceptedAfter, SaysNoBusy, AreBusyAfter, SaysNoRetry, IsRetryAfter, SaysNoAgree, IsAgreeAfter, IsSentAfter, KeepsGroup, EndsInGroupOf, IsTaskOf, TasksFollowTheirLines, attempt_number, in_attempt, laid_out, RetriesHold, no_codes, counts, no_retry, Form, Wording, Again, Agree, Twice, Once, Planned, no_again, near_of, is_unwatched, TasksSeen, IsTasks, first_mode, mode_after, continues_group, chained_at, counter_at, needs_from, place_in_chain, standing_of, task_at, setup_at, setup_of, planned_at, planned_of, tasks_of, form_of_asked, placed, Expectation, Wish, Near, Standing, values_asked, TaskLine, Mode, Task}
use Rattle.gc_texts.specs.Wordings.{sets_clock}
use Rattle.gc_texts.specs.declared.agree.Twice.TheVariants.{First}
use Rattle.gc_texts.proofs.TaskReading.{standing_after_lines, mode_after_lines, mode_after_both, given_both}
use Rattle.gc_texts.proofs.FirstAttempts.{chains_have_first}
use Rattle.gc_texts.proofs.SameRules.{SameRules, same_rules}
use Rattle.gc_texts.proofs.SentAs.{IsFirstSent}
use Rattle.gc_texts.proofs.TaskLaws.{continued_group_is}
use Rattle.gc_texts.specs.declared.task_line.TaskLine.TheVariants as says

-- after lines, the mode is that of the setup exactly where `section_after` says so of these lines; `mode` holds before them
section_after_lines : (mode : Mode) (lines : List TaskLine) → (mode_after_lines mode lines).setup ≡ section_after mode.setup lines
section_after_lines mode [] = refl
section_after_lines mode (says.AtStart ∷ later) = section_after_lines (mode_after mode says.AtStart) later
section_after_lines mode (line ∷ later) = section_after_lines (mode_after mode line) later

-- after lines, the mode says in every how many cycles commands have their turn as `every_after` says so of these lines; `mode` holds before
-- them
every_after_lines : (mode : Mode) (lines : List TaskLine) → (mode_after_lines mode lines).every ≡ every_after mode.every lines
every_after_lines mode [] = refl
every_after_lines mode (says.AtStart ∷ later) = every_after_lines (mode_after mode says.AtStart) later
every_after_lines mode (line ∷ later) = every_after_lines (mode_after mode line) later

-- if `ts` has n tasks, it has n + 1 with a task put in front where b is true, and n where it isn't, as no task is put there then
one_task_more : (b : Bool) (t : Task) (ts : List Task) (n : ℕ) → length ts ≡ n → length ((if b then t ∷ [] else []) ++ ts) ≡ (if b then 1 else 0) + n
one_task_more true t ts n e = omega (arith, e)
one_task_more false t ts n e = omega (arith, e)

-- the setup of lines has as many tasks as there are commands of it
setup_count : (mode : Mode) (lines : List TaskLine) → length (setup_of mode lines) ≡ setup_commands mode.setup lines
setup_count mode [] = refl
setup_count mode (says.Command c w x ∷ later) =
    one_task_more mode.setup (task_at mode c w x) (setup_of (mode_after mode (says.Command c w x)) later) (setup_commands mode.setup later)
    (setup_count (mode_after mode (says.Command c w x)) later)
setup_count mode (line ∷ later) = setup_count (mode_after mode line) later

-- 1 that is added to n only where b is true may be added to k instead: the sum m is the same
counted_in_section : (b : Bool) (n m k : ℕ) → m ≡ (if b then n + 1 else n) + k → m ≡ n + ((if b then 1 else 0) + k)
counted_in_section true n m k e = omega (arith, e)
counted_in_section false n m k e = omega (arith, e)

-- 1 that is added to n only where b is false may be added to k instead: the sum m is the same
counted_in_other_section : (b : Bool) (n m k : ℕ) → m ≡ (if b then n else n + 1) + k → m ≡ n + ((if b then 0 else 1) + k)
counted_in_other_section true n m k e = omega (arith, e)
counted_in_other_section false n m k e = omega (arith, e)

-- after lines, the mode's count of the setup's commands (`begun`) is greater by as many of them as these lines have
setup_counted : (mode : Mode) (lines : List TaskLine) → (mode_after_lines mode lines).begun ≡ mode.begun + setup_commands mode.setup lines
setup_counted mode [] = omega arith
setup_counted mode (says.Command c w x ∷ later) = counted_in_section mode.setup mode.begun (mode_after_lines (mode_after mode (says.Command c w x)) later).begun (setup_commands mode.setup later)
    (setup_counted (mode_after mode (says.Command c w x)) later)
setup_counted mode (line ∷ later) = setup_counted (mode_after mode line) later

-- after lines, the mode's count of the cycle's commands (`place`) is greater by as many of them as these lines have
cycle_counted : (mode : Mode) (lines : List TaskLine) → (mode_after_lines mode lines).place ≡ mode.place + cycle_commands mode.setup lines
cycle_counted mode [] = omega arith
cycle_counted mode (says.Command c w x ∷ later) = counted_in_other_section mode.setup mode.place (mode_after_lines (mode_after mode (says.Command c w x)) later).place (cycle_commands mode.setup later)
    (cycle_counted (mode_after mode (says.Command c w x)) later)
cycle_counted mode (line ∷ later) = cycle_counted (mode_after mode line) later

-- after lines of a text, the mode's count of items `>` is how many of these lines have one
counters_counted : (deadline : ℕ) (chained : Bool) (lines : List TaskLine) → (mode_after_lines (first_mode deadline chained) lines).counters ≡ (standing_of lines).counters
counters_counted deadline chained lines = ap (λ (s : Standing). s.counters) (standing_after_lines (first_mode deadline chained) lines)

-- and its count of values of files is how many these lines take
values_counted : (deadline : ℕ) (chained : Bool) (lines : List TaskLine) → (mode_after_lines (first_mode deadline chained) lines).values ≡ (standing_of lines).values
values_counted deadline chained lines = ap (λ (s : Standing). s.values) (standing_after_lines (first_mode deadline chained) lines)

-- `mode` is what these lines say. Its deadline, its accepted codes, those that say busy, its retry, its `agree` and whether commands are chained are each as the
-- last line that sets it says; where none does, they are `deadline`, none, none, none, none, and `chained`. Where the mode has a group, the
-- group's target is that of the last command, and no line after that command ends the group (`EndsInGroupOf`)
record Says (deadline : ℕ) (chained : Bool) (lines : List TaskLine) (mode : Mode) : Type 0 where
  deadline_is : IsDeadlineAfter deadline lines mode.deadline
  chained_is : IsChainingAfter chained lines mode.chained
  accepted_are : AreAcceptedAfter lines mode.accepted
  busy_are : AreBusyAfter lines mode.busy
  retry_is : IsRetryAfter lines mode.retry
  agree_is : IsAgreeAfter lines mode.agree
  group : (target : ℕ) → mode.group ≡ Some target → EndsInGroupOf lines target

-- a setting that has this value after some lines (`IsSetAfter`) still has it after one more line that doesn't set it
still_set : {Value : Type 0} (SetsNone : TaskLine → Type 0) (line_of : Value → TaskLine) (given value : Value) (lines : List TaskLine) (line : TaskLine)
    → SetsNone line → IsSetAfter SetsNone line_of given lines value → IsSetAfter SetsNone line_of given (lines ++ line ∷ []) value
still_set SetsNone line_of given value lines line none (inl all) = inl (all_by_recursion_push SetsNone lines line all.0 none, all.1)
still_set SetsNone line_of given value lines line none (inr (before, between, at, without)) =
    inr (before, between ++ line ∷ [], ap (λ xs. xs ++ line ∷ []) at ∙ append_assoc before (line_of value ∷ between) (line ∷ []), all_by_recursion_push SetsNone between line without none)

-- where the mode has the deadline that holds after some lines (`IsDeadlineAfter`), the mode after one more line has the one that
-- holds after all of them
deadline_after_one_more : (deadline : ℕ) (lines : List TaskLine) (mode : Mode) (line : TaskLine) → IsDeadlineAfter deadline lines mode.deadline
    → IsDeadlineAfter deadline (lines ++ line ∷ []) (mode_after mode line).deadline
deadline_after_one_more deadline lines mode (says.Deadline d) is = inr (lines, [], refl, tt)
deadline_after_one_more deadline lines mode line is = still_set SaysNoDeadline says.Deadline deadline mode.deadline lines line tt is

-- where the mode says whether commands are chained after some lines (`IsChainingAfter`), the mode after one more line says
-- whether they are after all of these lines
chaining_after_one_more : (chained : Bool) (lines : List TaskLine) (mode : Mode) (line : TaskLine) → IsChainingAfter chained lines mode.chained
    → IsChainingAfter chained (lines ++ line ∷ []) (mode_after mode line).chained
chaining_after_one_more chained lines mode says.Chained is = inr (lines, [], refl, tt)
chaining_after_one_more chained lines mode says.Unchained is = inr (lines, [], refl, tt)
chaining_after_one_more chained lines mode line is = still_set SaysNoChaining chaining_line chained mode.chained lines line tt is

-- where the mode has the codes that are accepted after some lines (`AreAcceptedAfter`), the mode after one more line has those
-- that are accepted after all of them
codes_after_one_more : (lines : List TaskLine) (mode : Mode) (line : TaskLine)
    → AreAcceptedAfter lines mode.accepted → AreAcceptedAfter (lines ++ line ∷ []) (mode_after mode line).accepted
codes_after_one_more lines mode (says.Accepting cs) are = inr (lines, [], refl, tt)
codes_after_one_more lines mode line are = still_set SaysNoCodes says.Accepting no_codes mode.accepted lines line tt are

-- where the mode has the codes that say busy after some lines (`AreBusyAfter`), the mode after one more line has those that do after all
-- of them
busy_after_one_more : (lines : List TaskLine) (mode : Mode) (line : TaskLine)
    → AreBusyAfter lines mode.busy → AreBusyAfter (lines ++ line ∷ []) (mode_after mode line).busy
busy_after_one_more lines mode (says.Busy cs) are = inr (lines, [], refl, tt)
busy_after_one_more lines mode line are = still_set SaysNoBusy says.Busy no_codes mode.busy lines line tt are

-- where the mode has the retry that holds after some lines (`IsRetryAfter`), the mode after one more line has the
-- one that holds after all of them
retry_after_one_more : (lines : List TaskLine) (mode : Mode) (line : TaskLine)
    → IsRetryAfter lines mode.retry → IsRetryAfter (lines ++ line ∷ []) (mode_after mode line).retry
retry_after_one_more lines mode (says.Retrying r) is = inr (lines, [], refl, tt)
retry_after_one_more lines mode line is = still_set SaysNoRetry says.Retrying no_retry mode.retry lines line tt is

-- where the mode has what holds of sendings after some lines (`IsAgreeAfter`), the mode after one more line has what holds of them after
-- all of these lines
agree_after_one_more : (lines : List TaskLine) (mode : Mode) (line : TaskLine)
    → IsAgreeAfter lines mode.agree → IsAgreeAfter (lines ++ line ∷ []) (mode_after mode line).agree
agree_after_one_more lines mode (says.Agreeing a) is = inr (lines, [], refl, tt)
agree_after_one_more lines mode line is = still_set SaysNoAgree says.Agreeing None mode.agree lines line tt is

-- lines that end in the group of a target (`EndsInGroupOf`) still do so with one more line that keeps the group (`KeepsGroup`)
still_in_group : (lines : List TaskLine) (line : TaskLine) (target : ℕ)
    → KeepsGroup line → EndsInGroupOf lines target → EndsInGroupOf (lines ++ line ∷ []) target
still_in_group lines line target keeps (before, command, wording, expects, between, at, all, same) = (
  before,
  command,
  wording,
  expects,
  between ++ line ∷ [],
  ap (λ xs. xs ++ line ∷ []) at
      ∙ append_assoc before (says.Command command wording expects ∷ between) (line ∷ []),
  all_by_recursion_push KeepsGroup between line all keeps,
  same,
)

-- where the group of the mode, if it has one, is that of the last command of the lines before (`EndsInGroupOf`), the group of the
-- mode after one more line, if it has one, is that of the last command of all of these lines
group_after_one_more : (lines : List TaskLine) (mode : Mode) (line : TaskLine) → ((target : ℕ) → mode.group ≡ Some target → EndsInGroupOf lines target)
    → (target : ℕ) → (mode_after mode line).group ≡ Some target → EndsInGroupOf (lines ++ line ∷ []) target
group_after_one_more lines mode (says.Command c w x) group target e = (lines, c, w, x, [], refl, tt, same_Some c.target target e)
group_after_one_more lines mode (says.Deadline d) group target e = still_in_group lines (says.Deadline d) target tt (group target e)
group_after_one_more lines mode (says.Naming n) group target e = still_in_group lines (says.Naming n) target tt (group target e)
group_after_one_more lines mode (says.Locating n) group target e = still_in_group lines (says.Locating n) target tt (group target e)
group_after_one_more lines mode (says.Unwatching n) group target e = still_in_group lines (says.Unwatching n) target tt (group target e)
group_after_one_more lines mode (says.Describing d) group target e = still_in_group lines (says.Describing d) target tt (group target e)
group_after_one_more lines mode (says.Accepting cs) group target e = still_in_group lines (says.Accepting cs) target tt (group target e)
group_after_one_more lines mode (says.Busy cs) group target e = still_in_group lines (says.Busy cs) target tt (group target e)
group_after_one_more lines mode line group target e = absurd (none-some target e)

-- where `mode` is what `lines` say (`Says`), the mode after one more line is what all of them say. `deadline` and `chained`
-- are what holds before all lines
says_after_one_more : (deadline : ℕ) (chained : Bool) (lines : List TaskLine) (mode : Mode) (line : TaskLine) → Says deadline chained lines mode
    → Says deadline chained (lines ++ line ∷ []) (mode_after mode line)
says_after_one_more deadline chained lines mode line h = record {
  deadline_is = deadline_after_one_more deadline lines mode line h.deadline_is;
  chained_is = chaining_after_one_more chained lines mode line h.chained_is;
  accepted_are = codes_after_one_more lines mode line h.accepted_are;
  busy_are = busy_after_one_more lines mode line h.busy_are;
  retry_is = retry_after_one_more lines mode line h.retry_is;
  agree_is = agree_after_one_more lines mode line h.agree_is;
  group = λ target e. group_after_one_more lines mode line h.group target e;
}

-- where a mode is what the lines `done` say (`Says`), the mode after further lines is what all of these lines say
says_all : (deadline : ℕ) (chained : Bool) (done : List TaskLine) (mode : Mode) (lines : List TaskLine) → Says deadline chained done mode
    → Says deadline chained (done ++ lines) (mode_after_lines mode lines)
says_all deadline chained done mode [] h = subst (λ xs. Says deadline chained xs mode) (sym (append-nil done)) h
says_all deadline chained done mode (line ∷ later) h =
    subst (λ xs. Says deadline chained xs (mode_after_lines (mode_after mode line) later)) (append_assoc done (line ∷ []) later)
    (says_all deadline chained (done ++ line ∷ []) (mode_after mode line) later (says_after_one_more deadline chained done mode line h))

-- the first mode, which has the caller's deadline and chaining, is what no lines say (`Says`)
says_none : (deadline : ℕ) (chained : Bool) → Says deadline chained [] (first_mode deadline chained)
says_none deadline chained = record {
  deadline_is = inl (tt, refl);
  chained_is = inl (tt, refl);
  accepted_are = inl (tt, refl);
  busy_are = inl (tt, refl);
  retry_is = inl (tt, refl);
  agree_is = inl (tt, refl);
  group = λ target e. absurd (none-some target e);
}

-- lines that are deadlines, names, places, accepted codes and those that say busy leave the group as it is
group_stays : (mode : Mode) (lines : List TaskLine) → AllByRecursion KeepsGroup lines → (mode_after_lines mode lines).group ≡ mode.group
group_stays mode [] keeps = refl
group_stays mode (says.Deadline d ∷ later) keeps = group_stays (mode_after mode (says.Deadline d)) later keeps.1
group_stays mode (says.Naming n ∷ later) keeps = group_stays mode later keeps.1
group_stays mode (says.Locating n ∷ later) keeps = group_stays mode later keeps.1
group_stays mode (says.Unwatching n ∷ later) keeps = group_stays mode later keeps.1
group_stays mode (says.Describing d ∷ later) keeps = group_stays mode later keeps.1
group_stays mode (says.Accepting cs ∷ later) keeps = group_stays (mode_after mode (says.Accepting cs)) later keeps.1
group_stays mode (says.Busy cs ∷ later) keeps = group_stays (mode_after mode (says.Busy cs)) later keeps.1
group_stays mode (line ∷ later) keeps = absurd keeps.0

-- where the last command of lines is for a target, and only lines that keep its group (`KeepsGroup`) follow it, the group after
-- them is of that target
group_of : (mode : Mode) (lines : List TaskLine) (target : ℕ) → EndsInGroupOf lines target → (mode_after_lines mode lines).group ≡ Some target
group_of mode lines target (before, command, wording, expects, between, at, keeps, same) =
    ap (λ xs. (mode_after_lines mode xs).group) at ∙ ap (λ (m : Mode). m.group) (mode_after_both mode before (says.Command command wording expects ∷ between))
    ∙ group_stays (mode_after (mode_after_lines mode before) (says.Command command wording expects)) between keeps ∙ ap Some same

-- whether commands are chained is the same before and after lines of which none is `chained` or `unchained`
chaining_stays : (mode : Mode) (lines : List TaskLine) → AllByRecursion SaysNoChaining lines → (mode_after_lines mode lines).chained ≡ mode.chained
chaining_stays mode [] none = refl
chaining_stays mode (says.Chained ∷ later) none = absurd none.0
chaining_stays mode (says.Unchained ∷ later) none = absurd none.0
chaining_stays mode (line ∷ later) none = chaining_stays (mode_after mode line) later none.1

-- after `chained` commands are chained, and after `unchained` they aren't
chaining_line_sets : (mode : Mode) (b : Bool) → (mode_after mode (chaining_line b)).chained ≡ b
chaining_line_sets mode true = refl
chaining_line_sets mode false = refl

-- whether commands are chained after some lines is as the last line `chained` or `unchained` among them says, or as it was
-- before them
chaining_of_lines : (mode : Mode) (lines : List TaskLine) (b : Bool) → IsChainingAfter mode.chained lines b → (mode_after_lines mode lines).chained ≡ b
chaining_of_lines mode lines b (inl given) = chaining_stays mode lines given.0 ∙ sym given.1
chaining_of_lines mode lines b (inr (before, between, at, none)) =
    ap (λ xs. (mode_after_lines mode xs).chained) at ∙ ap (λ (m : Mode). m.chained) (mode_after_both mode before (chaining_line b ∷ between))
    ∙ chaining_stays (mode_after (mode_after_lines mode before) (chaining_line b)) between none ∙ chaining_line_sets (mode_after_lines mode before) b

-- a command for a target continues the group of that target
continues_its_group : (group : Option ℕ) (target : ℕ) → group ≡ Some target → continues_group group target ≡ true
continues_its_group group target e = ap (λ r. continues_group r target) e ∙ eq-eqb target target refl

-- a command of the cycle is chained exactly where the mode chains commands and the command continues the group
chained_in_cycle : (mode : Mode) (target : ℕ) → mode.setup ≡ false → chained_at mode target ≡ (mode.chained && continues_group mode.group target)
chained_in_cycle mode target e = ap (λ b. if b then nat_lt 0 mode.begun else mode.chained && continues_group mode.group target) e

-- the task of the command after the lines `front`, with any rule, place, count of others and place in its chain, in the sending that the
-- lines say
module _ (deadline : ℕ) (chained : Bool) (front : List TaskLine) (command : Wish) (wording : Wording) (expects : Option Expectation) (near : Option Near) (watched : Bool) (form : Option Form) (again : Again) (others link : ℕ) (twice : Twice) where
  -- the mode before the command
  abbrev mode : Mode
  mode = mode_after_lines (first_mode deadline chained) front

  -- the task of the command
  abbrev its_task : Task
  its_task =
      record {
        command = command;
        deadline = mode.deadline;
        chained = chained_at mode command.target;
        near = near;
        watched = watched;
        form = form;
        accepted = mode.accepted;
        busy = mode.busy;
        expects = expects;
        counter = counter_at mode expects;
        again = again;
        turn = record { place = if mode.setup then mode.begun else mode.place; attempt = attempt_number 1 twice; link = link };
        others = others;
        every = if mode.setup then 1 else mode.every;
        now = sets_clock wording || nat_lt 0 (values_asked wording command.call);
        needs = needs_from mode.values (values_asked wording command.call);
        twice = twice;
      }

  -- the mode before the command is what the lines before the command say (`Says`)
  mode_is_said : Says deadline chained front mode
  mode_is_said = says_all deadline chained [] (first_mode deadline chained) front (says_none deadline chained)

  -- `its_task` is as the lines before the command say, as `IsTaskOf` has it
  task_follows_lines : attempt_number 1 twice ≡ 1 → (mode.setup ≡ true → twice ≡ Once) → (mode.setup ≡ false → IsSentAfter front twice)
      → IsTaskOf deadline chained front command wording expects its_task
  task_follows_lines first once sent =
      record {
        asks = refl;
        moment = refl;
        needs = ap (λ n. needs_from n (values_asked wording command.call)) (values_counted deadline chained front);
        expects_is = refl;
        counter = ap (λ n. if counts expects then Some n else None) (counters_counted deadline chained front);
        first = first;
        deadline_is = mode_is_said.deadline_is;
        accepted_are = mode_is_said.accepted_are;
        busy_are = mode_is_said.busy_are;
        at_start = λ e.
            let setup : mode.setup ≡ true = section_after_lines (first_mode deadline chained) front ∙ e in
            let begun : mode.begun ≡ setup_commands false front = let counted = setup_counted (first_mode deadline chained) front in omega (arith, counted) in
            record {
              place = ap (λ b. if b then mode.begun else mode.place) setup ∙ begun;
              chained = ap (λ b. if b then nat_lt 0 mode.begun else mode.chained && continues_group mode.group command.target) setup ∙ ap (nat_lt 0) begun;
              once = once setup;
              turns = ap (λ b. if b then 1 else mode.every) setup;
            };
        in_cycle = λ e.
            let cycle : mode.setup ≡ false = section_after_lines (first_mode deadline chained) front ∙ e in
            let place : mode.place ≡ cycle_commands false front = let counted = cycle_counted (first_mode deadline chained) front in omega (arith, counted) in
            let so = chained_in_cycle mode command.target cycle in
            record {
              place = ap (λ b. if b then mode.begun else mode.place) cycle ∙ place;
              only = λ is.
                  let both = and_parts mode.chained (continues_group mode.group command.target) (sym so ∙ is) in
                  (subst (λ b. IsChainingAfter chained front b) both.0 mode_is_said.chained_is, mode_is_said.group command.target (continued_group_is mode.group command.target both.1));
              found = λ a b. so ∙ and_from mode.chained (continues_group mode.group command.target) (chaining_of_lines (first_mode deadline chained) front true a)
                  (continues_its_group mode.group command.target (group_of (first_mode deadline chained) front command.target b));
              sent = sent cycle;
              turns = ap (λ b. if b then 1 else mode.every) cycle ∙ every_after_lines (first_mode deadline chained) front;
            };
      }

-- a command of a text, after the lines `front`
module _
    (text : List ℕ) (deadline : ℕ) (chained : Bool) (given : TasksSeen) (is : IsTasks text deadline chained given)
    (front later : List TaskLine) (command : Wish) (wording : Wording) (expects : Option Expectation) (at : is.said ≡ front ++ says.Command command wording expects ∷ later) where
  -- the mode before the command
  abbrev mode_before : Mode
  mode_before = mode_after_lines (first_mode deadline chained) front

  -- the task of the command, before it has its place
  abbrev own_task : Task
  own_task = task_at mode_before command wording expects

  -- the setup tasks before the command
  abbrev setup_before : List Task
  setup_before = setup_of (first_mode deadline chained) front

  -- the cycle's commands before the command
  abbrev planned : List Planned
  planned = planned_of (first_mode deadline chained) front

  -- the mode after the command
  abbrev mode_behind : Mode
  mode_behind = mode_after mode_before (says.Command command wording expects)

  -- all tasks of the text without their places; `b` says whether the command is of the setup
  abbrev all_tasks : (b : Bool) → List Task
  all_tasks b =
      (setup_before ++ ((if b then own_task ∷ [] else []) ++ setup_of mode_behind later))
      ++ laid_out (planned ++ ((if b then [] else record { task = own_task; retry = mode_before.retry; agree = mode_before.agree } ∷ []) ++ planned_of mode_behind later))

  -- where b says whether the command is of the setup, the text's tasks are `all_tasks b`, each with the place of its target, if a
  -- line of the text says that place
  all_tasks_are : (b : Bool) → mode_before.setup ≡ b → given.tasks ≡ map (placed given.nears given.unwatched given.described) (all_tasks b)
  all_tasks_are b e =
      is.tasks_are ∙ ap (λ said. map (placed given.nears given.unwatched given.described) (tasks_of (first_mode deadline chained) said)) at
      ∙ ap (λ ts. map (placed given.nears given.unwatched given.described) (ts ++ laid_out (planned_of (first_mode deadline chained) (front
      ++ says.Command command wording expects ∷ later)))) (given_both setup_at (first_mode deadline chained) front (says.Command command wording expects ∷ later))
      ∙ ap (λ ps. map (placed given.nears given.unwatched given.described) ((setup_before ++ setup_of mode_before (says.Command command wording expects ∷ later)) ++ laid_out ps))
      (given_both planned_at (first_mode deadline chained) front (says.Command command wording expects ∷ later))
      ∙ ap (λ t. map (placed given.nears given.unwatched given.described) (all_tasks t)) e

  -- the command as its first or only sending has it: its place in the chain, and which sending this is
  record FirstTask (first : Task) : Type 0 where
    link : ℕ
    twice : Twice
    same : first ≡ record own_task { turn = record { place = own_task.turn.place; attempt = own_task.turn.attempt; link = link }; twice = twice }
    one : attempt_number 1 twice ≡ 1
    sent : IsSentAfter front twice

  -- the first or only sending of the command is as the lines before it say
  first_is_sent : (agree : Option Agree) (first : Task) → mode_before.agree ≡ agree → IsFirstSent agree own_task first → FirstTask first
  first_is_sent None first e is = record {
    link = own_task.turn.link;
    twice = Once;
    same = is;
    one = refl;
    sent = inl (subst (IsAgreeAfter front) e (mode_is_said deadline chained front command wording expects None true None no_again 0 0 Once).agree_is, refl);
  }
  first_is_sent (Some agree) first e is = record {
    link = is.1;
    twice = First;
    same = is.2;
    one = omega arith;
    sent = inr (agree, subst (IsAgreeAfter front) e (mode_is_said deadline chained front command wording expects None true None no_again 0 0 First).agree_is, refl);
  }

  -- the law for this command, by whether it is of the setup (`b`)
  by_section : (b : Bool) → mode_before.setup ≡ b
      → (earlier : List Task) × (task : Task) × (others : List Task) × (given.tasks ≡ earlier ++ task ∷ others)
      × (section_after false front ≡ true → length earlier ≡ setup_commands false front) × (section_after false front ≡ false → given.setup ≤ length earlier)
      × IsTaskOf deadline chained front command wording expects task × (task.near ≡ near_of command.target given.nears)
      × (task.watched ≡ (not (is_unwatched command.target given.unwatched) && nat_le task.every 1)) × (task.form ≡ form_of_asked given.described command.call)
  by_section true e =
      let rest = setup_of mode_behind later ++ laid_out (planned ++ planned_of mode_behind later) in (
        map (placed given.nears given.unwatched given.described) setup_before,
        placed given.nears given.unwatched given.described own_task,
        map (placed given.nears given.unwatched given.described) rest,
        all_tasks_are true e ∙ ap (map (placed given.nears given.unwatched given.described)) (append_assoc setup_before (own_task ∷ setup_of mode_behind later) (laid_out (planned ++ planned_of mode_behind later)))
            ∙ map-append (placed given.nears given.unwatched given.described) setup_before (own_task ∷ rest),
        (λ s. length-map setup_before (placed given.nears given.unwatched given.described) ∙ setup_count (first_mode deadline chained) front),
        (λ s. let bad : true ≡ false = sym e ∙ section_after_lines (first_mode deadline chained) front ∙ s in cc),
        task_follows_lines deadline chained front command wording expects (near_of command.target given.nears) (not (is_unwatched command.target given.unwatched) && nat_le own_task.every 1) (form_of_asked given.described command.call) no_again 0
            (place_in_chain mode_before (chained_at mode_before command.target)) Once refl (λ s. refl)
            (λ s. let bad : true ≡ false = sym e ∙ s in cc),
        refl,
        refl,
        refl,
      )
  by_section false e =
      let p : Planned = record { task = own_task; retry = mode_before.retry; agree = mode_before.agree } in
      let follow = same_rules (first_mode deadline chained) no_retry None is.said (inr (inl refl)) in
      let those : planned_of (first_mode deadline chained) is.said ≡ planned ++ p ∷ planned_of mode_behind later =
      ap (planned_of (first_mode deadline chained)) at ∙ given_both planned_at (first_mode deadline chained) front (says.Command command wording expects ∷ later)
      ∙ ap (λ b. planned ++ ((if b then [] else p ∷ []) ++ planned_of mode_behind later)) e in
      let among = chains_have_first no_retry None [] planned (planned_of mode_behind later) p (subst (SameRules no_retry None) those follow) in
      let first = first_is_sent mode_before.agree among.first refl among.is in
      let in_front = setup_before ++ setup_of mode_behind later in
      let many : given.setup ≡ length in_front =
      is.setup_is ∙ ap (λ said. length (setup_of (first_mode deadline chained) said)) at ∙ ap length (given_both setup_at (first_mode deadline chained) front (says.Command command wording expects ∷ later))
      ∙ ap (λ b. length (setup_before ++ ((if b then own_task ∷ [] else []) ++ setup_of mode_behind later))) e in
      let long : length (map (placed given.nears given.unwatched given.described) (in_front ++ among.earlier)) ≡ length in_front + length among.earlier = length-map (in_front ++ among.earlier) (placed given.nears given.unwatched given.described)
      ∙ length-append in_front among.earlier in (
        map (placed given.nears given.unwatched given.described) (in_front ++ among.earlier),
        placed given.nears given.unwatched given.described (in_attempt 1 among.again among.commands among.first),
        map (placed given.nears given.unwatched given.described) among.others,
        all_tasks_are false e ∙ ap (λ ts. map (placed given.nears given.unwatched given.described) (in_front ++ ts)) among.are
            ∙ ap (map (placed given.nears given.unwatched given.described)) (sym (append_assoc in_front among.earlier (in_attempt 1 among.again among.commands among.first ∷ among.others)))
            ∙ map-append (placed given.nears given.unwatched given.described) (in_front ++ among.earlier) (in_attempt 1 among.again among.commands among.first ∷ among.others),
        (λ s. let bad : false ≡ true = sym e ∙ section_after_lines (first_mode deadline chained) front ∙ s in cc),
        (λ s. omega (arith, many, long)),
        subst (λ t. IsTaskOf deadline chained front command wording expects (placed given.nears given.unwatched given.described (in_attempt 1 among.again among.commands t))) (sym first.same)
            (task_follows_lines deadline chained front command wording expects (near_of command.target given.nears) (not (is_unwatched command.target given.unwatched) && nat_le own_task.every 1) (form_of_asked given.described command.call) among.again 0 first.link first.twice
            first.one (λ s. let bad : true ≡ false = sym s ∙ e in cc) (λ s. first.sent)),
        ap (λ (t : Task). near_of t.command.target given.nears) first.same,
        ap (λ (t : Task). not (is_unwatched t.command.target given.unwatched) && nat_le among.first.every 1) first.same,
        ap (λ (t : Task). form_of_asked given.described t.command.call) first.same,
      )

-- the law: each command of a text has a task that is as the lines before it say (`IsTaskOf`), with the place of its target, if
-- any. Before the task of a command of the setup there are as many tasks as commands of the setup before that command, and before
-- that of one of the cycle at least as many as the setup has
pub tasks_follow_their_lines : TasksFollowTheirLines
tasks_follow_their_lines text deadline chained given is front later command wording expects at =
    by_section text deadline chained given is front later command wording expects at (mode_after_lines (first_mode deadline chained) front).setup refl

-- the law: a command of the cycle has the retry that the last line `retry` before it says, and what the last line `agree` says; without
-- such lines it isn't repeated, and is sent once in an attempt
pub retries_hold : RetriesHold
retries_hold deadline chained front later command wording expects cycle =
    let first = first_mode deadline chained in
    let mode = mode_after_lines first front in
    let said : Says deadline chained front mode = says_all deadline chained [] first front (says_none deadline chained) in
    let p : Planned = record { task = task_at mode command wording expects; retry = mode.retry; agree = mode.agree } in (
      p,
      planned_of (mode_after mode (says.Command command wording expects)) later,
      given_both planned_at first front (says.Command command wording expects ∷ later)
          ∙ ap (λ b. planned_of first front ++ ((if b then [] else p ∷ []) ++ planned_of (mode_after mode (says.Command command wording expects)) later)) (section_after_lines first front ∙ cycle),
      refl,
      said.retry_is,
      said.agree_is,
    )
