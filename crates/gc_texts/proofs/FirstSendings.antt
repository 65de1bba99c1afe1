-- Each second sending of a command follows its first.
use Rattle.gc_texts.proofs.Common.{◌≡◌, ◌<◌, ◌≤◌, ◌+◌, ◌*◌, ℕ, zero, suc, Bool, true, false, List, [], ◌∷◌, ◌++◌, length, map, Option, Some, None, arith, refl, ap, sym, subst, ◌∙◌, append_assoc, append-nil, if◌then◌else◌, AllByRecursion, map-append, all_by_recursion_push, cons_head, cons_tail, no_again, in_attempt, attempts_from, tasks_planned, attempts, laid_from, laid_out, no_retry, sent_as, sent_from, sendings, first_mode, mode_after, task_at, setup_of, planned_of, placed, Description, Again, Agree, Twice, Near, Mode, Retry, First, Second, Planned, TaskLine, Task}
use Rattle.gc_texts.specs.SentTwice.{FollowsInChain, AreBothSendings, HasFirstSending, SecondsFollowTheirFirsts}
use Rattle.gc_texts.proofs.SentAs.{all_of_both}
use Rattle.gc_texts.specs.declared.agree.Twice.TheVariants as twice
use Rattle.gc_texts.specs.declared.task_line.TaskLine.TheVariants as says

-- of each second sending among these tasks, which follow `earlier`, the tasks before it have the first
abbrev Follow : (earlier tasks : List Task) → Type 0
Follow earlier [] = Unit {0}
Follow earlier (task ∷ later) =
    ((agree : Agree) (nth : ℕ) → task.twice ≡ twice.Second agree nth → HasFirstSending earlier task nth) × Follow (earlier ++ task ∷ []) later

-- what `Follow` says of each task, it says of one after tasks that it is split off from
follow_at : (front tasks earlier others : List Task) (second : Task) (agree : Agree) (nth : ℕ) → Follow front tasks
    → tasks ≡ earlier ++ second ∷ others → second.twice ≡ twice.Second agree nth → HasFirstSending (front ++ earlier) second nth
follow_at front [] [] others second agree nth h e is = cc
follow_at front [] (x ∷ earlier) others second agree nth h e is = cc
follow_at front (t ∷ tasks) [] others second agree nth h e is =
    let same = cons_head t second tasks others e in
    subst (λ l. HasFirstSending l second nth) (sym (append-nil front))
    (subst (λ u. HasFirstSending front u nth) same (h.0 agree nth (ap (λ (u : Task). u.twice) same ∙ is)))
follow_at front (t ∷ tasks) (x ∷ earlier) others second agree nth h e is =
    let same = cons_head t x tasks (earlier ++ second ∷ others) e in
    subst (λ l. HasFirstSending l second nth) (append_assoc front (t ∷ []) earlier ∙ ap (λ u. front ++ u ∷ earlier) same)
    (follow_at (front ++ t ∷ []) tasks earlier others second agree nth h.1 (cons_tail t x tasks (earlier ++ second ∷ others) e) is)

-- with other tasks before them, tasks still have the first sending of a second
first_sending_after : (more earlier : List Task) (second : Task) (nth : ℕ) → HasFirstSending earlier second nth → HasFirstSending (more ++ earlier) second nth
first_sending_after more earlier second nth h = record {
  before = more ++ h.before;
  first = h.first;
  between = h.between;
  are = ap (λ l. more ++ l) h.are ∙ sym (append_assoc more h.before (h.first ∷ h.between));
  both = h.both;
  in_chain = h.in_chain;
}

-- what holds of tasks after `earlier` holds of them with other tasks before these
follow_after : (more earlier tasks : List Task) → Follow earlier tasks → Follow (more ++ earlier) tasks
follow_after more earlier [] h = tt
follow_after more earlier (t ∷ tasks) h = (
  λ agree nth is. first_sending_after more earlier t nth (h.0 agree nth is),
  subst (λ l. Follow l tasks) (sym (append_assoc more earlier (t ∷ []))) (follow_after more (earlier ++ t ∷ []) tasks h.1),
)

-- tasks, and others after them
follow_both : (earlier xs ys : List Task) → Follow earlier xs → Follow (earlier ++ xs) ys → Follow earlier (xs ++ ys)
follow_both earlier [] ys first second = subst (λ l. Follow l ys) (append-nil earlier) second
follow_both earlier (x ∷ xs) ys first second =
    (first.0, follow_both (earlier ++ x ∷ []) xs ys first.1 (subst (λ l. Follow l ys) (sym (append_assoc earlier (x ∷ []) xs)) second))

-- tasks, and others after them that have their first sendings among themselves
follow_apart : (xs ys : List Task) → Follow [] xs → Follow [] ys → Follow [] (xs ++ ys)
follow_apart xs ys first second = follow_both [] xs ys first (subst (λ l. Follow l ys) (append-nil xs) (follow_after xs [] ys second))

-- a task isn't in a second sending
abbrev IsNoSecond : Task → Type 0
IsNoSecond task = (agree : Agree) (nth : ℕ) → task.twice ≡ twice.Second agree nth → ⊥

-- tasks of which none is in a second sending
follow_without : (earlier tasks : List Task) → AllByRecursion IsNoSecond tasks → Follow earlier tasks
follow_without earlier [] none = tt
follow_without earlier (t ∷ tasks) none = ((λ agree nth is. absurd (none.0 agree nth is)), follow_without (earlier ++ t ∷ []) tasks none.1)

-- the place in its chain of the command of a second sending; 0 for any other
abbrev nth_of : Twice → ℕ
nth_of (twice.Second agree nth) = nth
nth_of _ = 0

-- the first of a list, and one more after it, moved to the lists before and after
regroup : (front firsts seconds : List Task) (x y : Task) → (front ++ ((x ∷ firsts) ++ seconds)) ++ y ∷ [] ≡ (front ++ x ∷ []) ++ (firsts ++ (seconds ++ y ∷ []))
regroup front firsts seconds x y =
    append_assoc front (x ∷ (firsts ++ seconds)) (y ∷ []) ∙ ap (λ l. front ++ x ∷ l) (append_assoc firsts seconds (y ∷ []))
    ∙ sym (append_assoc front (x ∷ []) (firsts ++ (seconds ++ y ∷ [])))

-- a task is chained, and its place in its chain is at least n
record IsBehind (n : ℕ) (task : Task) : Type 0 where
  chained : task.chained ≡ true
  behind : n ≤ task.turn.link

-- tasks behind all places below n come after each of these places
behind_each : (n nth : ℕ) (tasks : List Task) → nth < n → AllByRecursion (IsBehind n) tasks → AllByRecursion (FollowsInChain nth) tasks
behind_each n nth [] below all = tt
behind_each n nth (t ∷ tasks) below all = let far = all.0.behind in (record { chained = all.0.chained; behind = omega (arith, below, far) }, behind_each n nth tasks below all.1)

-- tasks with the places of their targets, in attempt number `attempt` of a chain of n commands, whose number isn't 0
module _ (nears : List Near) (unwatched : List ℕ) (described : List Description) (attempt : ℕ) (again : Again) (commands n : ℕ) (agree : Agree) (some : 0 < attempt) where
  -- the task of a command
  abbrev made : Task → Task
  made t = placed nears unwatched described (in_attempt attempt again commands t)

  -- the tasks of the first sending from place `nth` on
  abbrev firsts : (nth : ℕ) → List Task → List Task
  firsts nth rest = map made (sent_from First n nth rest)

  -- the tasks of the second sending from place `nth` on
  abbrev seconds : (nth : ℕ) → List Task → List Task
  seconds nth rest = map made (sent_from (Second agree) n nth rest)

  -- the tasks of the first sending from place `start` on come after each place before it, if their commands are chained
  firsts_follow : (nth start : ℕ) (rest : List Task) → nth < start → AllByRecursion (λ task. task.chained ≡ true) rest → AllByRecursion (FollowsInChain nth) (firsts start rest)
  firsts_follow nth start [] below all = tt
  firsts_follow nth start (t ∷ rest) below all = (record { chained = all.0; behind = below }, firsts_follow nth (start + 1) rest (omega (arith, below)) all.1)

  -- the two tasks of a command are of one attempt
  both_sendings : (nth : ℕ) (t : Task) → AreBothSendings nth (made (sent_as First n nth t)) (made (sent_as (Second agree) n nth t))
  both_sendings nth t = record { is_first = refl; same = refl; place = refl; attempt = omega (arith, some); link = refl }

  -- the commands of a chain, of which all but the first are chained
  abbrev ContinueChained : List Task → Type 0
  ContinueChained [] = Unit {0}
  ContinueChained (t ∷ rest) = AllByRecursion (λ task. task.chained ≡ true) rest

  -- what follows in a chain, all of it chained, continues chained
  continue_chained : (rest : List Task) → AllByRecursion (λ task. task.chained ≡ true) rest → ContinueChained rest
  continue_chained [] all = tt
  continue_chained (t ∷ rest) all = all.1

  -- the tasks of the second sending from place `nth` on, after all of the first sending, and those of the second before them (`done`)
  seconds_follow : (front done : List Task) (nth : ℕ) (rest : List Task)
      → nth + length rest ≡ n → ContinueChained rest → AllByRecursion (IsBehind n) done
      → Follow (front ++ (firsts nth rest ++ done)) (seconds nth rest)
  seconds_follow front done nth [] count chained all = tt
  seconds_follow front done nth (t ∷ rest) count chained all =
      let first = made (sent_as First n nth t) in
      let second = made (sent_as (Second agree) n nth t) in
      let below : nth < n = omega (arith, count) in
      let own : FollowsInChain nth second = record { chained = refl; behind = omega (arith, below) } in
      let last : IsBehind n second = record { chained = refl; behind = omega arith } in
      let between : AllByRecursion (FollowsInChain nth) (firsts (nth + 1) rest ++ done) =
      all_of_both (FollowsInChain nth) (firsts (nth + 1) rest) done (firsts_follow nth (nth + 1) rest (omega arith) chained) (behind_each n nth done below all) in (
        λ a k is.
            subst (λ m. HasFirstSending (front ++ (firsts nth (t ∷ rest) ++ done)) second m) (ap nth_of is)
            (record {
              before = front;
              first = first;
              between = firsts (nth + 1) rest ++ done;
              are = refl;
              both = both_sendings nth t;
              in_chain = all_by_recursion_push (FollowsInChain nth) (firsts (nth + 1) rest ++ done) second between own;
            }),
        subst (λ l. Follow l (seconds (nth + 1) rest)) (sym (regroup front (firsts (nth + 1) rest) done first second))
            (seconds_follow (front ++ first ∷ []) (done ++ second ∷ []) (nth + 1) rest (omega (arith, count)) (continue_chained rest chained)
            (all_by_recursion_push (IsBehind n) done second all last)),
      )

  -- no task of the first sending is in a second
  firsts_are_no_seconds : (nth : ℕ) (rest : List Task) → AllByRecursion IsNoSecond (firsts nth rest)
  firsts_are_no_seconds nth [] = tt
  firsts_are_no_seconds nth (t ∷ rest) = ((λ a k is. let bad : twice.First ≡ twice.Second a k = is in cc), firsts_are_no_seconds (nth + 1) rest)

  -- the tasks of both sendings of a chain with n commands
  both_follow : (chain : List Task) → length chain ≡ n → ContinueChained chain → Follow [] (firsts 0 chain ++ seconds 0 chain)
  both_follow chain count chained =
      follow_both [] (firsts 0 chain) (seconds 0 chain) (follow_without [] (firsts 0 chain) (firsts_are_no_seconds 0 chain))
      (subst (λ l. Follow l (seconds 0 chain)) (append-nil (firsts 0 chain)) (seconds_follow [] [] 0 chain (omega (arith, count)) chained tt))

-- the text sends each of these commands once, as its lines say it
abbrev AreOnce : List Task → Type 0
AreOnce tasks = AllByRecursion (λ task. task.twice ≡ twice.Once) tasks

-- tasks with the places `nears` of their targets
module _ (nears : List Near) (unwatched : List ℕ) (described : List Description) where
  -- none of the tasks of one attempt of commands that are sent once is in a second sending
  once_no_seconds : (attempt : ℕ) (again : Again) (commands : ℕ) (tasks : List Task) → AreOnce tasks
      → AllByRecursion IsNoSecond (map (placed nears unwatched described) (map (in_attempt attempt again commands) tasks))
  once_no_seconds attempt again commands [] all = tt
  once_no_seconds attempt again commands (t ∷ tasks) all =
      ((λ a k is. let bad : twice.Once ≡ twice.Second a k = sym all.0 ∙ is in cc), once_no_seconds attempt again commands tasks all.1)

  -- none of these commands, which are sent once, is in a second sending
  once_are_no_seconds : (tasks : List Task) → AreOnce tasks → AllByRecursion IsNoSecond (map (placed nears unwatched described) tasks)
  once_are_no_seconds [] all = tt
  once_are_no_seconds (t ∷ tasks) all = ((λ a k is. let bad : twice.Once ≡ twice.Second a k = sym all.0 ∙ is in cc), once_are_no_seconds tasks all.1)

  -- the tasks of one attempt of a chain
  attempt_follows : (attempt : ℕ) (again : Again) (commands : ℕ) (agree : Option Agree) (first : Task) (chain : List Task) → 0 < attempt
      → AllByRecursion (λ task. task.chained ≡ true) chain → AreOnce (first ∷ chain)
      → Follow [] (map (placed nears unwatched described) (map (in_attempt attempt again commands) (sendings agree (first ∷ chain))))
  attempt_follows attempt again commands None first chain some chained once =
      follow_without [] (map (placed nears unwatched described) (map (in_attempt attempt again commands) (first ∷ chain))) (once_no_seconds attempt again commands (first ∷ chain) once)
  attempt_follows attempt again commands (Some agree) first chain some chained once =
      let n = length (first ∷ chain) in
      let one = sent_from First n 0 (first ∷ chain) in
      let other = sent_from (Second agree) n 0 (first ∷ chain) in
      subst (Follow [])
      (sym (ap (map (placed nears unwatched described)) (map-append (in_attempt attempt again commands) one other)
      ∙ map-append (placed nears unwatched described) (map (in_attempt attempt again commands) one) (map (in_attempt attempt again commands) other)
      ∙ twice_mapped one other))
      (both_follow nears unwatched described attempt again commands n agree some (first ∷ chain) refl chained) where
        -- to make the task of each command in an attempt, and to place it, is to do both at once
        mapped : (tasks : List Task) → map (placed nears unwatched described) (map (in_attempt attempt again commands) tasks) ≡ map (λ t. placed nears unwatched described (in_attempt attempt again commands t)) tasks
        mapped [] = refl
        mapped (t ∷ tasks) = ap (λ ts. placed nears unwatched described (in_attempt attempt again commands t) ∷ ts) (mapped tasks)

        -- the same of two lists
        twice_mapped : (one other : List Task)
            → map (placed nears unwatched described) (map (in_attempt attempt again commands) one) ++ map (placed nears unwatched described) (map (in_attempt attempt again commands) other)
            ≡ map (λ t. placed nears unwatched described (in_attempt attempt again commands t)) one ++ map (λ t. placed nears unwatched described (in_attempt attempt again commands t)) other
        twice_mapped one other =
            ap (λ ts. ts ++ map (placed nears unwatched described) (map (in_attempt attempt again commands) other)) (mapped one)
            ∙ ap (λ ts. map (λ t. placed nears unwatched described (in_attempt attempt again commands t)) one ++ ts) (mapped other)

  -- the tasks of a chain's attempts from number `attempt` on
  attempts_follow : (attempt left : ℕ) (again : Again) (agree : Option Agree) (first : Task) (chain : List Task) → 0 < attempt
      → AllByRecursion (λ task. task.chained ≡ true) chain → AreOnce (first ∷ chain)
      → Follow [] (map (placed nears unwatched described) (attempts_from attempt left again (sendings agree (first ∷ chain))))
  attempts_follow attempt zero again agree first chain some chained once =
      attempt_follows attempt no_again (length (sendings agree (first ∷ chain))) agree first chain some chained once
  attempts_follow attempt (suc left) again agree first chain some chained once =
      let sent = sendings agree (first ∷ chain) in
      let commands = length sent * suc (suc left) in
      subst (Follow []) (sym (map-append (placed nears unwatched described) (map (in_attempt attempt again commands) sent) (attempts_from (attempt + 1) left again sent)))
      (follow_apart (map (placed nears unwatched described) (map (in_attempt attempt again commands) sent)) (map (placed nears unwatched described) (attempts_from (attempt + 1) left again sent))
      (attempt_follows attempt again commands agree first chain some chained once) (attempts_follow (attempt + 1) left again agree first chain (omega arith) chained once))

  -- the tasks of a chain that was begun, and of the chains after it
  laid_follow : (retry : Retry) (agree : Option Agree) (first : Planned) (chain later : List Planned)
      → AllByRecursion (λ task. task.chained ≡ true) (tasks_planned chain) → AreOnce (tasks_planned (first ∷ chain)) → AreOnce (tasks_planned later)
      → Follow [] (map (placed nears unwatched described) (laid_from retry agree (first ∷ chain) later))
  laid_follow retry agree first chain [] chained once rest =
      attempts_follow 1 retry.times retry.again agree first.task (tasks_planned chain) (omega arith) chained once
  laid_follow retry agree first chain (p ∷ later) chained once rest =
      by_chained p.task.chained refl
      (λ e. laid_follow retry agree first (chain ++ p ∷ []) later (with_one_more (λ (t : Task). t.chained ≡ true) chain p chained e)
      (once.0, with_one_more (λ (t : Task). t.twice ≡ twice.Once) chain p once.1 rest.0) rest.1)
      (laid_follow p.retry p.agree p [] later tt (rest.0, tt) rest.1) where
        -- what holds of the commands of a chain and of one more holds of all
        with_one_more : (Holds : Task → Type 0) (chain : List Planned) (p : Planned) → AllByRecursion Holds (tasks_planned chain) → Holds p.task
            → AllByRecursion Holds (tasks_planned (chain ++ p ∷ []))
        with_one_more Holds [] p all is = (is, tt)
        with_one_more Holds (q ∷ chain) p all is = (all.0, with_one_more Holds chain p all.1 is)

        -- the lemma above for `p ∷ later`, by whether `p` goes on with the chain (`b`)
        by_chained : (b : Bool) → p.task.chained ≡ b
            → (p.task.chained ≡ true → Follow [] (map (placed nears unwatched described) (laid_from retry agree (first ∷ (chain ++ p ∷ [])) later)))
            → Follow [] (map (placed nears unwatched described) (laid_from p.retry p.agree (p ∷ []) later))
            → Follow [] (map (placed nears unwatched described) (if b then laid_from retry agree ((first ∷ chain) ++ p ∷ []) later
            else attempts retry agree (first ∷ chain) ++ laid_from p.retry p.agree (p ∷ []) later))
        by_chained true e on anew = on e
        by_chained false e on anew =
            subst (Follow []) (sym (map-append (placed nears unwatched described) (attempts retry agree (first ∷ chain)) (laid_from p.retry p.agree (p ∷ []) later)))
            (follow_apart (map (placed nears unwatched described) (attempts retry agree (first ∷ chain))) (map (placed nears unwatched described) (laid_from p.retry p.agree (p ∷ []) later))
            (attempts_follow 1 retry.times retry.again agree first.task (tasks_planned chain) (omega arith) chained once) anew)

  -- the tasks of all attempts of the chains of these commands
  all_follow : (planned : List Planned) → AreOnce (tasks_planned planned) → Follow [] (map (placed nears unwatched described) (laid_out planned))
  all_follow [] once = tt
  all_follow (p ∷ later) once = by_chained p.task.chained (laid_follow no_retry None p [] later tt (once.0, tt) once.1) (laid_follow p.retry p.agree p [] later tt (once.0, tt) once.1) where
    -- the lemma above for `p ∷ later`, by whether `p` is chained (`b`)
    by_chained : (b : Bool) → Follow [] (map (placed nears unwatched described) (laid_from no_retry None (p ∷ []) later))
        → Follow [] (map (placed nears unwatched described) (laid_from p.retry p.agree (p ∷ []) later))
        → Follow [] (map (placed nears unwatched described) (if b then laid_from no_retry None ([] ++ p ∷ []) later else attempts no_retry None [] ++ laid_from p.retry p.agree (p ∷ []) later))
    by_chained true on anew = on
    by_chained false on anew = anew

-- the cycle's commands, as their lines give them, are no sendings of two
cycle_once : (mode : Mode) (lines : List TaskLine) → AreOnce (tasks_planned (planned_of mode lines))
cycle_once mode [] = tt
cycle_once mode (says.Command c w x ∷ later) = by_setup mode.setup (cycle_once (mode_after mode (says.Command c w x)) later) where
  -- the lemma above for a command and the lines after it, by whether the mode is that of the setup (`b`)
  by_setup : (b : Bool) → AreOnce (tasks_planned (planned_of (mode_after mode (says.Command c w x)) later))
      → AreOnce (tasks_planned
      ((if b then [] else record { task = task_at mode c w x; retry = mode.retry; agree = mode.agree } ∷ []) ++ planned_of (mode_after mode (says.Command c w x)) later))
  by_setup true more = more
  by_setup false more = (refl, more)
cycle_once mode (line ∷ later) = cycle_once (mode_after mode line) later

-- the setup's commands are no sendings of two
setup_once : (mode : Mode) (lines : List TaskLine) → AreOnce (setup_of mode lines)
setup_once mode [] = tt
setup_once mode (says.Command c w x ∷ later) = by_setup mode.setup (setup_once (mode_after mode (says.Command c w x)) later) where
  -- the lemma above for a command and the lines after it, by whether the mode is that of the setup (`b`)
  by_setup : (b : Bool) → AreOnce (setup_of (mode_after mode (says.Command c w x)) later)
      → AreOnce ((if b then task_at mode c w x ∷ [] else []) ++ setup_of (mode_after mode (says.Command c w x)) later)
  by_setup true more = (refl, more)
  by_setup false more = more
setup_once mode (line ∷ later) = setup_once (mode_after mode line) later

-- the law: in the tasks of a text each second sending of a command follows its first
pub seconds_follow_their_firsts : SecondsFollowTheirFirsts
seconds_follow_their_firsts text deadline chained all is =
    let first = first_mode deadline chained in
    let place = placed all.nears all.unwatched all.described in
    let setup = map place (setup_of first is.said) in
    let cycle = map place (laid_out (planned_of first is.said)) in
    let follow : Follow [] (setup ++ cycle) =
    follow_apart setup cycle (follow_without [] setup (once_are_no_seconds all.nears all.unwatched all.described (setup_of first is.said) (setup_once first is.said)))
    (all_follow all.nears all.unwatched all.described (planned_of first is.said) (cycle_once first is.said)) in
    let same : all.tasks ≡ setup ++ cycle = is.tasks_are ∙ map-append place (setup_of first is.said) (laid_out (planned_of first is.said)) in
    λ earlier others second agree nth at is_second. follow_at [] (setup ++ cycle) earlier others second agree nth follow (sym same ∙ at) is_second
