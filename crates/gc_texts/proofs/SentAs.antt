-- What stays in the sendings of a chain's commands, and where each command is in the first of them.
use Rattle.gc_texts.proofs.Common.{◌≡◌, ◌<◌, ◌+◌, ℕ, get_or, take, List, [], ◌∷◌, ◌++◌, length, map, Option, Some, None, arith, refl, ap, sym, ◌∙◌, append_assoc, AllByRecursion, length-map, length-append, map-append, tasks_planned, sent_as, sent_from, sendings, Description, Agree, Planned, Near, Sending, First, Second, Task, placed}
use Rattle.std.proofs.Common.{length-take-le}
use Rattle.gc_texts.specs.declared.sending.Sending.TheVariants.{Once}
use Rattle.gc_texts.proofs.SettlementLines.{split_at_item}

-- a sending of some commands and then others is that of the ones, and then that of the others, whose places follow
pub sent_both : (sending : Sending) (count nth : ℕ) (xs ys : List Task)
    → sent_from sending count nth (xs ++ ys) ≡ sent_from sending count nth xs ++ sent_from sending count (nth + length xs) ys
sent_both sending count nth [] ys = let same : nth ≡ nth + 0 = omega arith in ap (λ n. sent_from sending count n ys) same
sent_both sending count nth (x ∷ xs) ys =
    let same : nth + 1 + length xs ≡ nth + length (x ∷ xs) = omega arith in
    ap (λ ts. sent_as sending count nth x ∷ ts) (sent_both sending count (nth + 1) xs ys)
    ∙ ap (λ n. sent_as sending count nth x ∷ (sent_from sending count (nth + 1) xs ++ sent_from sending count n ys)) same

-- the one sending of a chain is its commands
pub sent_once : (count nth : ℕ) (chain : List Task) → sent_from Once count nth chain ≡ chain
sent_once count nth [] = refl
sent_once count nth (task ∷ later) = ap (λ ts. task ∷ ts) (sent_once count (nth + 1) later)

-- a sending has as many commands as the chain
pub sent_many : (sending : Sending) (count nth : ℕ) (chain : List Task) → length (sent_from sending count nth chain) ≡ length chain
sent_many sending count nth [] = refl
sent_many sending count nth (task ∷ later) = let more = sent_many sending count (nth + 1) later in omega (arith, more)

-- an attempt that sends a chain twice has twice as many commands
pub twice_as_many : (agree : Agree) (chain : List Task) → length (sendings (Some agree) chain) ≡ length chain + length chain
twice_as_many agree chain =
    let n = length chain in
    let both = length-append (sent_from First n 0 chain) (sent_from (Second agree) n 0 chain) in
    let first = sent_many First n 0 chain in
    let second = sent_many (Second agree) n 0 chain in
    omega (arith, both, first, second)

-- what a sending leaves of each command holds of all of its commands
pub all_sent : (Holds Sent : Task → Type 0) (sending : Sending) (count : ℕ) → ((nth : ℕ) (task : Task) → Holds task → Sent (sent_as sending count nth task))
    → (nth : ℕ) (chain : List Task) → AllByRecursion Holds chain → AllByRecursion Sent (sent_from sending count nth chain)
all_sent Holds Sent sending count each nth [] all = tt
all_sent Holds Sent sending count each nth (task ∷ later) all = (each nth task all.0, all_sent Holds Sent sending count each (nth + 1) later all.1)

-- what holds of all tasks of two lists holds of all of both together
pub all_of_both : (Holds : Task → Type 0) (xs ys : List Task) → AllByRecursion Holds xs → AllByRecursion Holds ys → AllByRecursion Holds (xs ++ ys)
all_of_both Holds [] ys all more = more
all_of_both Holds (x ∷ xs) ys all more = (all.0, all_of_both Holds xs ys all.1 more)

-- what both sendings leave of each command holds of all commands of an attempt
pub all_sendings : (Holds : Task → Type 0) → ((count nth : ℕ) (task : Task) → Holds task → Holds (sent_as First count nth task))
    → ((agree : Agree) (count nth : ℕ) (task : Task) → Holds task → Holds (sent_as (Second agree) count nth task))
    → (agree : Option Agree) (chain : List Task) → AllByRecursion Holds chain → AllByRecursion Holds (sendings agree chain)
all_sendings Holds first second None chain all = all
all_sendings Holds first second (Some agree) chain all =
    all_of_both Holds (sent_from First (length chain) 0 chain) (sent_from (Second agree) (length chain) 0 chain)
    (all_sent Holds Holds First (length chain) (first (length chain)) 0 chain all) (all_sent Holds Holds (Second agree) (length chain) (second agree (length chain)) 0 chain all)

-- a command with the place of its target, as it is in a sending, is that of the sending with this place
placed_sent : (nears : List Near) (unwatched : List ℕ) (described : List Description) (sending : Sending) (count nth : ℕ) (task : Task)
    → placed nears unwatched described (sent_as sending count nth task) ≡ sent_as sending count nth (placed nears unwatched described task)
placed_sent nears unwatched described Once count nth task = refl
placed_sent nears unwatched described First count nth task = refl
placed_sent nears unwatched described (Second agree) count nth task = refl

-- the commands of a sending, with the places of their targets, are the sending of the commands with these places
placed_all_sent : (nears : List Near) (unwatched : List ℕ) (described : List Description) (sending : Sending) (count nth : ℕ) (chain : List Task)
    → map (placed nears unwatched described) (sent_from sending count nth chain) ≡ sent_from sending count nth (map (placed nears unwatched described) chain)
placed_all_sent nears unwatched described sending count nth [] = refl
placed_all_sent nears unwatched described sending count nth (task ∷ later) =
    ap (λ t. t ∷ map (placed nears unwatched described) (sent_from sending count (nth + 1) later)) (placed_sent nears unwatched described sending count nth task)
    ∙ ap (λ ts. sent_as sending count nth (placed nears unwatched described task) ∷ ts) (placed_all_sent nears unwatched described sending count (nth + 1) later)

-- the commands of an attempt, with the places of their targets, are those of an attempt of the commands with these places
pub placed_sendings : (nears : List Near) (unwatched : List ℕ) (described : List Description) (agree : Option Agree) (chain : List Task)
    → map (placed nears unwatched described) (sendings agree chain) ≡ sendings agree (map (placed nears unwatched described) chain)
placed_sendings nears unwatched described None chain = refl
placed_sendings nears unwatched described (Some agree) chain =
    let place = placed nears unwatched described in
    let n = length chain in
    map-append place (sent_from First n 0 chain) (sent_from (Second agree) n 0 chain)
    ∙ ap (λ ts. ts ++ map place (sent_from (Second agree) n 0 chain)) (placed_all_sent nears unwatched described First n 0 chain)
    ∙ ap (λ ts. sent_from First n 0 (map place chain) ++ ts) (placed_all_sent nears unwatched described (Second agree) n 0 chain)
    ∙ ap (λ k. sent_from First k 0 (map place chain) ++ sent_from (Second agree) k 0 (map place chain)) (sym (length-map chain place))

-- where `old` and the tasks of a sending of the first `nth` commands of a chain are `now`, with that of the next command they are those of
-- one more; `made` is what is made of each
pub sent_one_more :
    (made : Task → Task) (sending : Sending) (chain : List Planned) (nth : ℕ) (p : Planned) (old now : List Task) (next : Task)
    → nth < length chain → p ≡ get_or chain nth p → now ≡ old ++ map made (sent_from sending (length chain) 0 (tasks_planned (take nth chain)))
    → next ≡ made (sent_as sending (length chain) nth p.task)
    → now ++ next ∷ [] ≡ old ++ map made (sent_from sending (length chain) 0 (tasks_planned (take (nth + 1) chain)))
sent_one_more made sending chain nth p old now next below at is more =
    let n = length chain in
    let front = tasks_planned (take nth chain) in
    let many : length front ≡ nth = length-map (take nth chain) (λ (q : Planned). q.task) ∙ length-take-le nth chain (omega (arith, below)) in
    let place : 0 + length front ≡ nth = omega (arith, many) in
    let grown : sent_from sending n 0 (tasks_planned (take (nth + 1) chain)) ≡ sent_from sending n 0 front ++ sent_as sending n nth p.task ∷ [] =
    ap (λ ps. sent_from sending n 0 (tasks_planned ps)) (split_at_item chain nth p below at).0 ∙ ap (sent_from sending n 0) (map-append (λ (q : Planned). q.task) (take nth chain) (p ∷ []))
    ∙ sent_both sending n 0 front (p.task ∷ []) ∙ ap (λ k. sent_from sending n 0 front ++ sent_as sending n k p.task ∷ []) place in
    ap (λ ts. ts ++ next ∷ []) is ∙ append_assoc old (map made (sent_from sending n 0 front)) (next ∷ [])
    ∙ ap (λ t. old ++ (map made (sent_from sending n 0 front) ++ t ∷ [])) more
    ∙ ap (λ ts. old ++ ts) (sym (map-append made (sent_from sending n 0 front) (sent_as sending n nth p.task ∷ [])))
    ∙ ap (λ ts. old ++ map made ts) (sym grown)

-- `first` is a command of a chain as its first, or only, sending has it
abbrev pub IsFirstSent : Option Agree → (task first : Task) → Type 0
IsFirstSent None task first = first ≡ task
IsFirstSent (Some agree) task first = (count : ℕ) × (nth : ℕ) × (first ≡ sent_as First count nth task)

-- among the commands of an attempt is this command of the chain, in its first or only sending
pub record HasFirstSent (agree : Option Agree) (task : Task) (sent : List Task) : Type 0 where
  pub earlier : List Task
  pub first : Task
  pub others : List Task
  pub are : sent ≡ earlier ++ first ∷ others
  pub is : IsFirstSent agree task first

-- the commands of an attempt have each command of the chain in its first or only sending
pub sendings_have_first : (agree : Option Agree) (c d : List Task) (task : Task) → HasFirstSent agree task (sendings agree (c ++ task ∷ d))
sendings_have_first None c d task = record { earlier = c; first = task; others = d; are = refl; is = refl }
sendings_have_first (Some agree) c d task =
    let chain = c ++ task ∷ d in
    let n = length chain in
    let seconds = sent_from (Second agree) n 0 chain in
    let first = sent_as First n (0 + length c) task in
    record {
      earlier = sent_from First n 0 c;
      first = first;
      others = sent_from First n (0 + length c + 1) d ++ seconds;
      are = ap (λ ts. ts ++ seconds) (sent_both First n 0 c (task ∷ d)) ∙ append_assoc (sent_from First n 0 c) (first ∷ sent_from First n (0 + length c + 1) d) seconds;
      is = (n, 0 + length c, refl);
    }
