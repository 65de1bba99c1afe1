-- The attempts of the chains of a station's text.
use Rattle.gc_texts.proofs.Common.{subst, ◌≡◌, ◌+◌, ◌*◌, inr, inl, ℕ, zero, suc, ◌&&◌, nat_le, Bool, true, false, not, List, [], ◌∷◌, ◌++◌, length, map, Option, Some, None, refl, ap, sym, ◌∙◌, append_assoc, append-nil, if◌then◌else◌, AllByRecursion, flat_map, length-map, map-append, all_by_recursion_push, no_again, attempt_number, in_attempt, attempts_from, tasks_planned, attempts, laid_from, laid_out, IsOneChain, near_of, is_unwatched, as_planned, IsAttempt, AreAttempts, Chain, planned_in, placed_planned, AreLaidOut, ChainsGoOutAgain, no_retry, sent_as, sendings, first_mode, mode_after, task_at, setup_of, planned_of, form_of_asked, placed, Description, Again, Agree, Near, Retry, Sending, First, Second, TaskLine, Mode, Planned, Task}
use Rattle.gc_texts.specs.declared.sending.Sending.TheVariants.{Once}
use Rattle.gc_texts.proofs.SameRules.{HasRules, SameRules, same_rules}
use Rattle.gc_texts.proofs.SentAs.{all_sendings, placed_sendings}
use Rattle.gc_texts.proofs.TaskLaws.{IsAsPlanned, AreAsPlanned, CommandsKeepTargets, commands_keep_targets}
use Rattle.gc_texts.specs.declared.task_line.TaskLine.TheVariants as says

-- the cycle's commands, as their lines give them, are as planned (`AreAsPlanned`)
cycle_as_planned : (mode : Mode) (lines : List TaskLine) → AreAsPlanned (planned_of mode lines)
cycle_as_planned mode [] = tt
cycle_as_planned mode (says.Command c w x ∷ later) = by_setup mode.setup (cycle_as_planned (mode_after mode (says.Command c w x)) later) where
  -- the lemma above for a command and the lines after it, by whether the mode is that of the setup (`b`)
  by_setup : (b : Bool) → AreAsPlanned (planned_of (mode_after mode (says.Command c w x)) later)
      → AreAsPlanned
      ((if b then [] else record { task = task_at mode c w x; retry = mode.retry; agree = mode.agree } ∷ []) ++ planned_of (mode_after mode (says.Command c w x)) later)
  by_setup true more = more
  by_setup false more = (record { near = refl; again = refl; attempt = refl; others = refl }, more)
cycle_as_planned mode (line ∷ later) = cycle_as_planned (mode_after mode line) later

-- tasks with the places `nears` of their targets
module _ (nears : List Near) (unwatched : List ℕ) (described : List Description) where
  -- the task of a command, with the place of its target
  abbrev placed_task : Planned → Task
  placed_task p = placed nears unwatched described p.task

  -- the tasks of an attempt of these commands, with their places; `n` is how many commands it and the later attempts have
  -- together
  abbrev attempt_tasks : (attempt : ℕ) → Again → (n : ℕ) → List Task → List Task
  attempt_tasks attempt again n ts = map (placed nears unwatched described) (map (in_attempt attempt again n) ts)

  -- each of these tasks is as planned (`IsAsPlanned`)
  abbrev ArePlanned : List Task → Type 0
  ArePlanned ts = AllByRecursion IsAsPlanned ts

  -- if a command is as planned (`IsAsPlanned`), the task of an attempt of it, with its place, is the command with its place, but for the
  -- fields that distinguish attempts (`as_planned`)
  one_as_planned : (attempt : ℕ) (again : Again) (n : ℕ) (t : Task) → IsAsPlanned t → as_planned (placed nears unwatched described (in_attempt attempt again n t)) ≡ placed nears unwatched described t
  one_as_planned attempt again n t h =
      let near = near_of t.command.target nears in
      let watched = not (is_unwatched t.command.target unwatched) && nat_le t.every 1 in
      let form = form_of_asked described t.command.call in
      ap (λ a. record t { near = near; watched = watched; form = form; again = a; turn = record { place = t.turn.place; attempt = 1; link = t.turn.link }; others = 0 }) (sym h.again)
      ∙ ap (λ k. record t { near = near; watched = watched; form = form; turn = record { place = t.turn.place; attempt = k; link = t.turn.link }; others = 0 }) (sym h.attempt)
      ∙ ap (λ k. record t { near = near; watched = watched; form = form; others = k }) (sym h.others)

  -- if commands are as planned, the tasks of an attempt of them, with their places (`attempt_tasks`), are the commands with their
  -- places, but for the fields that distinguish attempts (`as_planned`)
  all_as_planned : (attempt : ℕ) (again : Again) (n : ℕ) (ts : List Task)
      → ArePlanned ts → map as_planned (attempt_tasks attempt again n ts) ≡ map (placed nears unwatched described) ts
  all_as_planned attempt again n [] all = refl
  all_as_planned attempt again n (t ∷ ts) all = ap (λ u. u ∷ map as_planned (attempt_tasks attempt again n ts)) (one_as_planned attempt again n t all.0)
      ∙ ap (λ us. placed nears unwatched described t ∷ us) (all_as_planned attempt again n ts all.1)

  -- what holds of the task, with its place, of whatever command in this attempt holds of all tasks of the attempt (`attempt_tasks`)
  each_in_attempt : (Holds : Task → Type 0) (attempt : ℕ) (again : Again) (n : ℕ) → ((t : Task) → Holds (placed nears unwatched described (in_attempt attempt again n t)))
      → (ts : List Task) → AllByRecursion Holds (attempt_tasks attempt again n ts)
  each_in_attempt Holds attempt again n each [] = tt
  each_in_attempt Holds attempt again n each (t ∷ ts) = (each t, each_in_attempt Holds attempt again n each ts)

  -- where commands are as planned, the tasks of an attempt of them are an attempt of the commands (`IsAttempt`)
  attempt_is : (attempt : ℕ) (again : Again) (n : ℕ) (ts : List Task)
      → ArePlanned ts → IsAttempt attempt again (map (placed nears unwatched described) ts) (attempt_tasks attempt again n ts)
  attempt_is attempt again n ts all = record {
    same = all_as_planned attempt again n ts all;
    numbered = each_in_attempt (λ task. task.turn.attempt ≡ attempt_number attempt task.twice) attempt again n (λ t. refl) ts;
    ruled = each_in_attempt (λ task. task.again ≡ again) attempt again n (λ t. refl) ts;
  }

  -- where commands are as planned, the tasks of attempts of them from number `attempt` on, with `left` more after that one, are attempts
  -- of the commands (`AreAttempts`)
  attempts_are : (attempt left : ℕ) (again : Again) (ts : List Task) → ArePlanned ts
      → AreAttempts attempt left again (map (placed nears unwatched described) ts) (map (placed nears unwatched described) (attempts_from attempt left again ts))
  attempts_are attempt zero again ts all = attempt_is attempt no_again (length ts) ts all
  attempts_are attempt (suc left) again ts all = (
    attempt_tasks attempt again (length ts * suc (suc left)) ts,
    map (placed nears unwatched described) (attempts_from (attempt + 1) left again ts),
    map-append (placed nears unwatched described) (map (in_attempt attempt again (length ts * suc (suc left))) ts) (attempts_from (attempt + 1) left again ts),
    attempt_is attempt again (length ts * suc (suc left)) ts all,
    attempts_are (attempt + 1) left again ts all,
  )

  -- the tasks of commands, with their places
  placed_tasks : (ps : List Planned) → map (placed nears unwatched described) (tasks_planned ps) ≡ map placed_task ps
  placed_tasks [] = refl
  placed_tasks (p ∷ ps) = ap (λ ts. placed_task p ∷ ts) (placed_tasks ps)

  -- where the tasks of commands are as planned, all of them are
  all_planned : (ps : List Planned) → AreAsPlanned ps → ArePlanned (tasks_planned ps)
  all_planned [] all = tt
  all_planned (p ∷ ps) all = (all.0, all_planned ps all.1)

  -- a command in a sending is as planned where the command is
  sent_as_planned : (sending : Sending) (count nth : ℕ) (t : Task) → IsAsPlanned t → IsAsPlanned (sent_as sending count nth t)
  sent_as_planned Once count nth t h = h
  sent_as_planned First count nth t h = record { near = h.near; again = h.again; attempt = h.attempt; others = h.others }
  sent_as_planned (Second agree) count nth t h = record { near = h.near; again = h.again; attempt = h.attempt; others = h.others }

  -- where the tasks of a chain's commands are as planned, the tasks of its attempts, with their places, are attempts of its sendings
  chain_attempts_are : (retry : Retry) (agree : Option Agree) (ps : List Planned) → AreAsPlanned ps
      → AreAttempts 1 retry.times retry.again (sendings agree (map placed_task ps)) (map (placed nears unwatched described) (attempts retry agree ps))
  chain_attempts_are retry agree ps all =
      subst (λ commands. AreAttempts 1 retry.times retry.again commands (map (placed nears unwatched described) (attempts retry agree ps)))
      (placed_sendings nears unwatched described agree (tasks_planned ps) ∙ ap (sendings agree) (placed_tasks ps))
      (attempts_are 1 retry.times retry.again (sendings agree (tasks_planned ps))
      (all_sendings IsAsPlanned (λ count nth t h. sent_as_planned First count nth t h) (λ a count nth t h. sent_as_planned (Second a) count nth t h) agree (tasks_planned ps) (all_planned ps all)))

  -- where the tasks of all these commands are chained, and the task of one more command is, the tasks of all
  -- of them and that one are chained
  chained_one_more : (ps : List Planned) (p : Planned) → AllByRecursion (λ task. task.chained ≡ true) (map placed_task ps) → p.task.chained ≡ true
      → AllByRecursion (λ task. task.chained ≡ true) (map placed_task (ps ++ p ∷ []))
  chained_one_more [] p all is = (is, tt)
  chained_one_more (q ∷ ps) p all is = (all.0, chained_one_more ps p all.1 is)

  -- a task with the rules of its chain
  abbrev with_rules : Retry → Option Agree → Task → Planned
  with_rules retry agree task = record { task = task; retry = retry; agree = agree }

  -- these tasks are the attempts of some chains, whose commands, in order, are these commands with the places of their targets
  abbrev AreLaidOutOf : List Task → List Planned → Type 0
  AreLaidOutOf tasks planned =
      (chains : List Chain) × AreLaidOut chains tasks
      × (flat_map planned_in chains ≡ map (placed_planned nears unwatched described) planned)

  -- each of these commands has these rules
  abbrev HaveRules : Retry → Option Agree → List Planned → Type 0
  HaveRules retry agree ps = AllByRecursion (HasRules retry agree) ps

  -- where commands have the same rules, their tasks (`placed_task`) with these rules are the commands with the places of their targets
  -- (`placed_planned`)
  rules_are : (retry : Retry) (agree : Option Agree) (ps : List Planned) → HaveRules retry agree ps
      → map (with_rules retry agree) (map placed_task ps) ≡ map (placed_planned nears unwatched described) ps
  rules_are retry agree [] have = refl
  rules_are retry agree (p ∷ ps) have =
      ap (λ r. record { task = placed_task p; retry = r; agree = agree } ∷ map (with_rules retry agree) (map placed_task ps)) (sym have.0.retry_is)
      ∙ ap (λ a. record { task = placed_task p; retry = p.retry; agree = a } ∷ map (with_rules retry agree) (map placed_task ps)) (sym have.0.agree_is)
      ∙ ap (λ l. placed_planned nears unwatched described p ∷ l) (rules_are retry agree ps have.1)

  -- if tasks are the attempts of the chains of the commands `later` (`AreLaidOutOf`), and `chain` is one chain of commands that
  -- have these rules and tasks as planned (`AreAsPlanned`), the attempts of that chain and then those tasks are the attempts of the
  -- chains of all these commands
  laid_one_more : (retry : Retry) (agree : Option Agree) (chain later : List Planned) (tasks : List Task)
      → IsOneChain (map placed_task chain) → AreAsPlanned chain → HaveRules retry agree chain → AreLaidOutOf tasks later
      → AreLaidOutOf (map (placed nears unwatched described) (attempts retry agree chain) ++ tasks) (chain ++ later)
  laid_one_more retry agree chain later tasks one all have (chains, laid, are) = (
    record { retry = retry; agree = agree; commands = map placed_task chain } ∷ chains,
    (one, (map (placed nears unwatched described) (attempts retry agree chain), tasks, refl, chain_attempts_are retry agree chain all, laid)),
    ap (λ ps. map (with_rules retry agree) (map placed_task chain) ++ ps) are ∙ ap (λ ps. ps ++ map (placed_planned nears unwatched described) later) (rules_are retry agree chain have)
        ∙ sym (map-append (placed_planned nears unwatched described) chain later),
  )

  -- `AreLaidOutOf` holds of the empty list of tasks and the empty list of commands
  none_laid : AreLaidOutOf [] []
  none_laid = ([], refl, refl)

  -- where a chain was begun, whose commands have these rules, each chained command after it has the rules of the one before it,
  -- and the tasks of all are as planned, the attempts that are laid out of these commands are the attempts of their chains
  -- (`AreLaidOutOf`)
  laid_are : (retry : Retry) (agree : Option Agree) (first : Planned) (chain later : List Planned)
      (one : IsOneChain (map placed_task (first ∷ chain))) (all : AreAsPlanned (first ∷ chain)) (rest : AreAsPlanned later)
      (have : HaveRules retry agree (first ∷ chain)) (follow : SameRules retry agree later)
      → AreLaidOutOf (map (placed nears unwatched described) (laid_from retry agree (first ∷ chain) later)) ((first ∷ chain) ++ later)
  laid_are retry agree first chain [] one all rest have follow =
      subst (λ ts. AreLaidOutOf ts ((first ∷ chain) ++ [])) (append-nil (map (placed nears unwatched described) (attempts retry agree (first ∷ chain))))
      (laid_one_more retry agree (first ∷ chain) [] [] one all have none_laid)
  laid_are retry agree first chain (p ∷ later) one all rest have follow =
      by_chained p.task.chained refl
      (λ e. laid_are retry agree first (chain ++ p ∷ []) later (one.0, chained_one_more chain p one.1 e) (all.0, all_by_recursion_push (λ (q : Planned). IsAsPlanned q.task) chain p all.1 rest.0) rest.1
      (have.0, all_by_recursion_push (HasRules retry agree) chain p have.1 (follow.0 e))
      (subst (λ a. SameRules retry a later) (follow.0 e).agree_is (subst (λ r. SameRules r p.agree later) (follow.0 e).retry_is follow.1)))
      (λ e. laid_are p.retry p.agree p [] later (e, tt) (rest.0, tt) rest.1 (record { retry_is = refl; agree_is = refl }, tt) follow.1) where
        -- the lemma above for `p ∷ later`, by whether `p` goes on with the chain (`b`)
        by_chained : (b : Bool) → p.task.chained ≡ b
            → (p.task.chained ≡ true → AreLaidOutOf (map (placed nears unwatched described) (laid_from retry agree (first ∷ (chain ++ p ∷ [])) later)) ((first ∷ (chain ++ p ∷ [])) ++ later))
            → (p.task.chained ≡ false → AreLaidOutOf (map (placed nears unwatched described) (laid_from p.retry p.agree (p ∷ []) later)) (p ∷ later))
            → AreLaidOutOf (map (placed nears unwatched described) (if b then laid_from retry agree ((first ∷ chain) ++ p ∷ []) later
            else attempts retry agree (first ∷ chain) ++ laid_from p.retry p.agree (p ∷ []) later)) ((first ∷ chain) ++ p ∷ later)
        by_chained true e on anew =
            subst (λ ps. AreLaidOutOf (map (placed nears unwatched described) (laid_from retry agree ((first ∷ chain) ++ p ∷ []) later)) ps) (append_assoc (first ∷ chain) (p ∷ []) later) (on e)
        by_chained false e on anew =
            subst (λ ts. AreLaidOutOf ts ((first ∷ chain) ++ p ∷ later)) (sym (map-append (placed nears unwatched described) (attempts retry agree (first ∷ chain)) (laid_from p.retry p.agree (p ∷ []) later)))
            (laid_one_more retry agree (first ∷ chain) (p ∷ later) (map (placed nears unwatched described) (laid_from p.retry p.agree (p ∷ []) later)) one all have (anew e))

  -- where these commands keep targets with none before them (`CommandsKeepTargets None`), so that the first isn't chained, each chained
  -- one has the rules of the one before it, and the tasks of all are as planned, the attempts that are laid out of them are the
  -- attempts of their chains (`AreLaidOutOf`)
  all_laid : (planned : List Planned)
      → CommandsKeepTargets None planned → AreAsPlanned planned → SameRules no_retry None planned
      → AreLaidOutOf (map (placed nears unwatched described) (laid_out planned)) planned
  all_laid [] are all follow = none_laid
  all_laid (p ∷ later) are all follow = by_chained p.task.chained refl (λ e. laid_are p.retry p.agree p [] later (e, tt) (all.0, tt) all.1 (record { retry_is = refl; agree_is = refl }, tt) follow.1) where
    -- the lemma above for `p ∷ later`: `p` isn't chained, because no command is before it
    by_chained : (b : Bool) → p.task.chained ≡ b → (p.task.chained ≡ false → AreLaidOutOf (map (placed nears unwatched described) (laid_from p.retry p.agree (p ∷ []) later)) (p ∷ later))
        → AreLaidOutOf (map (placed nears unwatched described) (if b then laid_from no_retry None ([] ++ p ∷ []) later
        else attempts no_retry None [] ++ laid_from p.retry p.agree (p ∷ []) later)) (p ∷ later)
    by_chained true e anew = let bad : None ≡ Some p.task.command.target = are.0 e in cc
    by_chained false e anew = anew e

-- the law: the tasks after the setup are the attempts of chains, in order, whose commands are the text's commands of the cycle,
-- in order, each with the retry and `agree` that hold for it
pub chains_go_out_again : ChainsGoOutAgain
chains_go_out_again text deadline chained all is =
    let first = first_mode deadline chained in
    let planned = planned_of first is.said in
    let laid = all_laid all.nears all.unwatched all.described planned (commands_keep_targets first None is.said (inr (inl refl))) (cycle_as_planned first is.said) (same_rules first no_retry None is.said (inr (inl refl))) in (
      laid.0,
      map (placed all.nears all.unwatched all.described) (setup_of first is.said),
      map (placed all.nears all.unwatched all.described) (laid_out planned),
      is.tasks_are ∙ map-append (placed all.nears all.unwatched all.described) (setup_of first is.said) (laid_out planned),
      is.setup_is ∙ sym (length-map (setup_of first is.said) (placed all.nears all.unwatched all.described)),
      laid.1,
      laid.2,
    )
