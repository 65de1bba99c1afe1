-- How far the chains of a text are laid out: which attempts were appended to the tasks before (`old`).
use Rattle.gc_texts.proofs.Common.{◌≡◌, ◌<◌, ◌≤◌, ◌+◌, ◌-◌, ◌*◌, ℕ, zero, suc, Bool, true, get_or, take, drop, Option, List, [], ◌∷◌, ◌++◌, length, map, arith, ap, subst, sym, ◌∙◌, append_assoc, if◌then◌else◌, drop_more, drop-drop, in_attempt, attempts_from, attempts, laid_from, laid_out, Agree, Retry, Planned, Task}
use Rattle.gc_client.proofs.Lists.{take_next, head_of_drop}

-- to the tasks `old` the attempts of these commands before number `attempt` were appended, which gave the tasks `now`; to come are
-- that attempt and the `left` ones after it
pub record Pushes (old now : List Task) (retry : Retry) (sent : List Task) (attempt left : ℕ) : Type 0 where
  pub same : old ++ attempts_from 1 retry.times retry.again sent ≡ now ++ attempts_from attempt left retry.again sent
  pub counts : attempt + left ≡ retry.times + 1
  pub some : 0 < attempt

-- where the attempts before number `attempt`, which isn't the last, were appended, and then that attempt, those before number
-- `attempt + 1` were
pub pushes_one : (old now new : List Task) (retry : Retry) (sent : List Task) (attempt left commands : ℕ)
    → Pushes old now retry sent attempt left → 0 < left → commands ≡ length sent * (left + 1)
    → new ≡ now ++ map (in_attempt attempt retry.again commands) sent → Pushes old new retry sent (attempt + 1) (left - 1)
pushes_one old now new retry sent attempt zero commands h some is more = absurd (omega (arith, some))
pushes_one old now new retry sent attempt (suc left) commands h some is more =
    let count : commands ≡ length sent * suc (suc left) = is ∙ ap (λ n. length sent * n) (omega arith) in
    let one : suc left - 1 ≡ left = omega arith in
    subst (λ n. Pushes old new retry sent (attempt + 1) n) (sym one)
    (record {
      same = h.same ∙ sym (append_assoc now (map (in_attempt attempt retry.again (length sent * suc (suc left))) sent) (attempts_from (attempt + 1) left retry.again sent))
          ∙ ap (λ n. (now ++ map (in_attempt attempt retry.again n) sent) ++ attempts_from (attempt + 1) left retry.again sent) (sym count)
          ∙ ap (λ ts. ts ++ attempts_from (attempt + 1) left retry.again sent) (sym more);
      counts = let n = h.counts in omega (arith, n);
      some = omega arith;
    })

-- the commands at place `from` and after it, but before place `to`
abbrev commands_between : (cycle : List Planned) (from to : ℕ) → List Planned
commands_between cycle from to = take (to - from) (drop from cycle)

-- to the tasks `old` the attempts of the chains of the commands before place `from` were appended, which gave the tasks `now`.
-- The chain that begins at that place was begun: `retry` and `agree` are its own, and the commands from there on, but before place `place`,
-- are its own so far (none before the first command)
pub record Lays (old now : List Task) (cycle : List Planned) (retry : Retry) (agree : Option Agree) (from place : ℕ) : Type 0 where
  pub same : old ++ laid_out cycle ≡ now ++ laid_from retry agree (commands_between cycle from place) (drop place cycle)
  pub order : from ≤ place
  pub within : place ≤ length cycle

-- the next command, at `place`, goes on with the chain that was begun, or begins the next
module _ (old now : List Task) (cycle : List Planned) (retry : Retry) (agree : Option Agree) (from place : ℕ) (planned : Planned)
    (h : Lays old now cycle retry agree from place) (below : place < length cycle) (is : planned ≡ get_or cycle place planned) where
  -- the commands from `place` on are `planned` and those after it
  left_is : drop place cycle ≡ planned ∷ drop (place + 1) cycle
  left_is = drop_more cycle place planned below ∙ ap (λ (p : Planned). p ∷ drop (place + 1) cycle) (sym is)

  -- the tasks `old` and those of all chains are the tasks `now` and those of the chains that are left: where the command is
  -- chained (`b`), it goes on with the chain that was begun, and else it begins the next
  same_with : (b : Bool) → planned.task.chained ≡ b
      → old ++ laid_out cycle
      ≡ now ++ (if b then laid_from retry agree (commands_between cycle from place ++ planned ∷ []) (drop (place + 1) cycle)
      else attempts retry agree (commands_between cycle from place) ++ laid_from planned.retry planned.agree (planned ∷ []) (drop (place + 1) cycle))
  same_with b e =
      h.same ∙ ap (λ l. now ++ laid_from retry agree (commands_between cycle from place) l) left_is
      ∙ ap (λ t. now ++ (if t then laid_from retry agree (commands_between cycle from place ++ planned ∷ []) (drop (place + 1) cycle) else attempts retry agree (commands_between cycle from place)
      ++ laid_from planned.retry planned.agree (planned ∷ []) (drop (place + 1) cycle))) e

  -- where the next command is chained, it is one more of the chain that was begun
  pub lays_on : planned.task.chained ≡ true → Lays old now cycle retry agree from (place + 1)
  lays_on e =
      let order = h.order in
      let gap : from + (place - from) ≡ place = omega (arith, order) in
      let next : place + 1 - from ≡ suc (place - from) = omega (arith, order) in
      let here = head_of_drop (drop from cycle) (place - from) planned (drop (place + 1) cycle) (drop-drop (place - from) from cycle ∙ ap (λ n. drop n cycle) gap ∙ left_is) in
      let grown : commands_between cycle from (place + 1) ≡ commands_between cycle from place ++ planned ∷ [] =
      ap (λ n. take n (drop from cycle)) next ∙ take_next (drop from cycle) (place - from) planned here in
      record {
        same = same_with true e ∙ ap (λ c. now ++ laid_from retry agree c (drop (place + 1) cycle)) (sym grown);
        order = omega (arith, order);
        within = omega (arith, below);
      }
