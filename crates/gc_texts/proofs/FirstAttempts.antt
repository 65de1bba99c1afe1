-- The first attempt of each command of the cycle is among the tasks that its chain gives.
use Rattle.gc_texts.proofs.Common.{◌≡◌, ◌*◌, if◌then◌else◌, ℕ, zero, suc, Bool, true, false, List, [], ◌∷◌, ◌++◌, length, map, Option, refl, sym, ap, ◌∙◌, subst, append_assoc, map-append, no_again, in_attempt, attempts_from, tasks_planned, attempts, laid_from, sendings, Again, Agree, Planned, Retry, Task}
use Rattle.gc_texts.proofs.SameRules.{SameRules}
use Rattle.gc_texts.proofs.SentAs.{IsFirstSent, HasFirstSent, sendings_have_first}

-- among these tasks is a command of the cycle in the first attempt of its chain, and in its first or only sending
pub record HasFirstAttempt (agree : Option Agree) (task : Task) (tasks : List Task) : Type 0 where
  pub earlier : List Task
  pub again : Again
  pub commands : ℕ
  pub first : Task
  pub others : List Task
  pub are : tasks ≡ earlier ++ in_attempt 1 again commands first ∷ others
  pub is : IsFirstSent agree task first

-- where tasks have the first attempt of a command (`HasFirstAttempt`), they have it with other tasks in front of them, too
has_first_after : (agree : Option Agree) (task : Task) (front tasks : List Task) → HasFirstAttempt agree task tasks → HasFirstAttempt agree task (front ++ tasks)
has_first_after agree task front tasks h =
    record {
      earlier = front ++ h.earlier;
      again = h.again;
      commands = h.commands;
      first = h.first;
      others = h.others;
      are = ap (λ ts. front ++ ts) h.are
          ∙ sym (append_assoc front h.earlier (in_attempt 1 h.again h.commands h.first ∷ h.others));
      is = h.is;
    }

-- where tasks have the first attempt of a command (`HasFirstAttempt`), they have it with other tasks after them, too
has_first_before : (agree : Option Agree) (task : Task) (tasks later : List Task) → HasFirstAttempt agree task tasks → HasFirstAttempt agree task (tasks ++ later)
has_first_before agree task tasks later h =
    record {
      earlier = h.earlier;
      again = h.again;
      commands = h.commands;
      first = h.first;
      others = h.others ++ later;
      are = ap (λ ts. ts ++ later) h.are
          ∙ append_assoc h.earlier (in_attempt 1 h.again h.commands h.first ∷ h.others) later;
      is = h.is;
    }

-- the tasks of the first attempt of commands, among which a command is in its first or only sending, have its first attempt
first_attempt_has : (again : Again) (commands : ℕ) (agree : Option Agree) (task : Task) (sent : List Task)
    → HasFirstSent agree task sent → HasFirstAttempt agree task (map (in_attempt 1 again commands) sent)
first_attempt_has again commands agree task sent h =
    record {
      earlier = map (in_attempt 1 again commands) h.earlier;
      again = again;
      commands = commands;
      first = h.first;
      others = map (in_attempt 1 again commands) h.others;
      are = ap (map (in_attempt 1 again commands)) h.are ∙ map-append (in_attempt 1 again commands) h.earlier (h.first ∷ h.others);
      is = h.is;
    }

-- the tasks of a chain's attempts from the first on have the first attempt of each of its commands
attempts_have_first : (times : ℕ) (again : Again) (agree : Option Agree) (task : Task) (sent : List Task)
    → HasFirstSent agree task sent → HasFirstAttempt agree task (attempts_from 1 times again sent)
attempts_have_first zero again agree task sent h = first_attempt_has no_again (length sent) agree task sent h
attempts_have_first (suc n) again agree task sent h =
    has_first_before agree task (map (in_attempt 1 again (length sent * suc (suc n))) sent) (attempts_from 2 n again sent)
    (first_attempt_has again (length sent * suc (suc n)) agree task sent h)

-- the tasks of a chain have the first attempt of each of its commands
chain_has_its_first : (retry : Retry) (agree : Option Agree) (c d : List Planned) (p : Planned)
    → HasFirstAttempt agree p.task (attempts retry agree (c ++ p ∷ d))
chain_has_its_first retry agree c d p =
    attempts_have_first retry.times retry.again agree p.task (sendings agree (tasks_planned (c ++ p ∷ d)))
    (subst (λ ts. HasFirstSent agree p.task (sendings agree ts)) (sym (map-append (λ (q : Planned). q.task) c (p ∷ d))) (sendings_have_first agree (tasks_planned c) (tasks_planned d) p.task))

-- the tasks of the chain that was begun and of the chains after it have the first attempt of each command of that chain
chain_has_first : (retry : Retry) (agree : Option Agree) (c d later : List Planned) (p : Planned) → HasFirstAttempt agree p.task (laid_from retry agree (c ++ p ∷ d) later)
chain_has_first retry agree c d [] p = chain_has_its_first retry agree c d p
chain_has_first retry agree c d (q ∷ later) p = by_chained (chain_has_first retry agree c (d ++ q ∷ []) later p) q.task.chained where
  -- the lemma above for `q ∷ later`, by whether `q` goes on with the chain (`b`)
  by_chained : HasFirstAttempt agree p.task (laid_from retry agree (c ++ p ∷ (d ++ q ∷ [])) later) → (b : Bool)
      → HasFirstAttempt agree p.task
      (if b then laid_from retry agree ((c ++ p ∷ d) ++ q ∷ []) later else attempts retry agree (c ++ p ∷ d) ++ laid_from q.retry q.agree (q ∷ []) later)
  by_chained on true = subst (λ l. HasFirstAttempt agree p.task (laid_from retry agree l later)) (sym (append_assoc c (p ∷ d) (q ∷ []))) on
  by_chained on false = has_first_before agree p.task (attempts retry agree (c ++ p ∷ d)) (laid_from q.retry q.agree (q ∷ []) later) (chain_has_its_first retry agree c d p)

-- the tasks of the chain that was begun (`chain`) and of the commands after it have the first attempt
-- of each of these later commands, which have the rules of their chains
pub chains_have_first : (retry : Retry) (agree : Option Agree) (chain front later : List Planned) (p : Planned) → SameRules retry agree (front ++ p ∷ later)
    → HasFirstAttempt p.agree p.task (laid_from retry agree chain (front ++ p ∷ later))
chains_have_first retry agree chain [] later p same = by_chained p.task.chained refl where
  -- the lemma above for `p ∷ later`, by whether `p` goes on with the chain (`b`)
  by_chained : (b : Bool) → p.task.chained ≡ b
      → HasFirstAttempt p.agree p.task (if b then laid_from retry agree (chain ++ p ∷ []) later else attempts retry agree chain ++ laid_from p.retry p.agree (p ∷ []) later)
  by_chained true e = subst (λ a. HasFirstAttempt a p.task (laid_from retry agree (chain ++ p ∷ []) later)) (sym (same.0 e).agree_is) (chain_has_first retry agree chain [] later p)
  by_chained false e = has_first_after p.agree p.task (attempts retry agree chain) (laid_from p.retry p.agree (p ∷ []) later) (chain_has_first p.retry p.agree [] [] later p)
chains_have_first retry agree chain (q ∷ front) later p same = by_chained q.task.chained refl
    (λ e. chains_have_first retry agree (chain ++ q ∷ []) front later p
    (subst (λ a. SameRules retry a (front ++ p ∷ later)) (same.0 e).agree_is (subst (λ r. SameRules r q.agree (front ++ p ∷ later)) (same.0 e).retry_is same.1)))
    (chains_have_first q.retry q.agree (q ∷ []) front later p same.1) where
      -- the lemma above for `q ∷ front`, by whether `q` goes on with the chain (`b`)
      by_chained : (b : Bool) → q.task.chained ≡ b
          → (q.task.chained ≡ true → HasFirstAttempt p.agree p.task (laid_from retry agree (chain ++ q ∷ []) (front ++ p ∷ later)))
          → HasFirstAttempt p.agree p.task (laid_from q.retry q.agree (q ∷ []) (front ++ p ∷ later))
          → HasFirstAttempt p.agree p.task
          (if b then laid_from retry agree (chain ++ q ∷ []) (front ++ p ∷ later)
          else attempts retry agree chain ++ laid_from q.retry q.agree (q ∷ []) (front ++ p ∷ later))
      by_chained true e on next = on e
      by_chained false e on next = has_first_after p.agree p.task (attempts retry agree chain) (laid_from q.retry q.agree (q ∷ []) (front ++ p ∷ later)) next
