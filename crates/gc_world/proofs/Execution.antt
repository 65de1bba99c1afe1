-- The executions of a run are as `HasExecutions` has them, and each booked answer was made for its request. Both are drawn from a
-- replay (`Replays`): the executions of requests ns, one after the other, with replies ms, from the state s to the state t; j
-- executions came before.
use Rattle.gc_world.proofs.Common.{◌≡◌, ℕ, zero, suc, ◌+◌, Bool, true, false, List, [], ◌∷◌, length, Option, Some, refl, sym, ◌∙◌, ap, subst, arith, AllByRecursion, slice_get, Settlement, Numbered, Ends, Wire, IsExchange, has_number, restarted_if, Increasing, IsOneForOne, IsReplyTo, IsBooked, IsExecutedIn, handed_in, IsExecuted, IsReplyAt, HasExecutions, same_Some, none-some, slice_get_within}
use Rattle.gc_world.specs.World.{Sent}
use Rattle.gc_world.proofs.Booked.{Has, has_at, AllMade, answer_made}
use Rattle.gc_world.proofs.Replay.{Executes, Replays}
use Rattle.gc_world.proofs.Places.{all_at, element_at}
use Rattle.gc_world.specs.Worlds

-- a property that each element of a list has holds of any element that is in the list
pub each_has : {A : Type 0} (P : A → Type 0) (xs : List A) (x : A) → AllByRecursion P xs → Has x xs → P x
each_has P xs x h has = let at = has_at x xs has in all_at P xs at.0 x h at.1

module _ {State : Type 0} (ends : Ends State) where
  -- the state before execution k of a replay, counted from 0; where there is no execution k, the state that the replay ends with
  pub before_in : (sent : List Sent) (starts : List ℕ) (j : ℕ) (s : State) (ns : List ℕ) (ms : List (Numbered (List ℕ))) (t : State)
      → Replays ends sent starts j s ns ms t → ℕ → State
  before_in sent starts j s [] [] t h k = s
  before_in sent starts j s (n ∷ ns) (m ∷ ms) t h zero = s
  before_in sent starts j s (n ∷ ns) (m ∷ ms) t h (suc k) = before_in sent starts (j + 1) (restarted_if ends.restarted (has_number (j + 1) starts) h.0) ns ms t h.2 k
  before_in sent starts j s [] (m ∷ ms) t h k = absurd h
  before_in sent starts j s (n ∷ ns) [] t h k = absurd h

  -- `before_in` at place 0 is the state that the replay begins with, also where there is no execution
  before_first : (sent : List Sent) (starts : List ℕ) (j : ℕ) (s : State) (ns : List ℕ) (ms : List (Numbered (List ℕ))) (t : State)
      (h : Replays ends sent starts j s ns ms t) → before_in sent starts j s ns ms t h 0 ≡ s
  unfolding before_in
  before_first sent starts j s [] [] t h = refl
  before_first sent starts j s (n ∷ ns) (m ∷ ms) t h = refl
  before_first sent starts j s [] (m ∷ ms) t h = absurd h
  before_first sent starts j s (n ∷ ns) [] t h = absurd h

  -- `before_in` at place length ns, behind the last execution, is the state that the replay ends with
  before_last : (sent : List Sent) (starts : List ℕ) (j : ℕ) (s : State) (ns : List ℕ) (ms : List (Numbered (List ℕ))) (t : State)
      (h : Replays ends sent starts j s ns ms t) → t ≡ before_in sent starts j s ns ms t h (length ns)
  unfolding before_in
  before_last sent starts j s [] [] t h = sym h
  before_last sent starts j s (n ∷ ns) (m ∷ ms) t h = before_last sent starts (j + 1) (restarted_if ends.restarted (has_number (j + 1) starts) h.0) ns ms t h.2
  before_last sent starts j s [] (m ∷ ms) t h = absurd h
  before_last sent starts j s (n ∷ ns) [] t h = absurd h

  -- a replay has as many replies as executions
  replays_entries : (sent : List Sent) (starts : List ℕ) (j : ℕ) (s : State) (ns : List ℕ) (ms : List (Numbered (List ℕ))) (t : State)
      → Replays ends sent starts j s ns ms t → length ms ≡ length ns
  replays_entries sent starts j s [] [] t h = refl
  replays_entries sent starts j s (n ∷ ns) (m ∷ ms) t h = ap suc (replays_entries sent starts (j + 1) _ ns ms t h.2)
  replays_entries sent starts j s [] (m ∷ ms) t h = absurd h
  replays_entries sent starts j s (n ∷ ns) [] t h = absurd h

  -- an execution of request n, which is the i-th execution, counted from 1: it leads from `state` to `next`, restarted where
  -- `starts` has the number i, and `entry` is its reply
  record IsIthExecution (sent : List Sent) (starts : List ℕ) (i : ℕ) (state next : State) (entry : Option (Numbered (List ℕ))) (n : ℕ) : Type 0 where
    is_executed : IsExecutedIn ends sent n state
    made : entry ≡ Some (record { number = n; line = (handed_in ends is_executed).reply })
    next_is : next ≡ restarted_if ends.restarted (has_number i starts) (handed_in ends is_executed).state

  -- execution k of a replay is that of request n, the number at place k of ns, and its reply is at place k of ms. It leads from
  -- `before_in` at place k to `before_in` at place k + 1, as `IsIthExecution` has it, and is the (j + k + 1)-th execution
  ith_execution : (sent : List Sent) (starts : List ℕ) (j : ℕ) (s : State) (ns : List ℕ) (ms : List (Numbered (List ℕ))) (t : State)
      (h : Replays ends sent starts j s ns ms t) (k n : ℕ) → slice_get ns k ≡ Some n
      → IsIthExecution sent starts (j + k + 1) (before_in sent starts j s ns ms t h k) (before_in sent starts j s ns ms t h (suc k)) (slice_get ms k) n
  unfolding before_in
  ith_execution sent starts j s [] [] t h k n e = absurd (none-some n e)
  ith_execution sent starts j s (n' ∷ ns) (m ∷ ms) t h zero n e =
      let r = h.1 in
      let d = r.is_executed in
      let same : n' ≡ n = same_Some n' n e in
      let i : j + 1 ≡ j + 0 + 1 = omega arith in
      record {
        is_executed = record {
          request = d.request;
          found = subst (λ x. slice_get sent x ≡ Some d.request) same d.found;
          id = d.id;
          small = d.small;
          line = d.line;
          executed = d.executed;
        };
        made = ap Some (entry_is m n r.number same (handed_in ends d).reply r.line);
        next_is =
            before_first sent starts (j + 1) (restarted_if ends.restarted (has_number (j + 1) starts) h.0) ns ms t h.2
            ∙ ap (λ (x : State). restarted_if ends.restarted (has_number (j + 1) starts) x) (sym r.leads)
            ∙ ap (λ x. restarted_if ends.restarted (has_number x starts) (handed_in ends d).state) i;
      }
    where
      entry_is : (x : Numbered (List ℕ)) (n : ℕ) → x.number ≡ n' → n' ≡ n → (line : List ℕ) → x.line ≡ line → x ≡ record { number = n; line = line }
      entry_is x n e1 e2 line e3 = ap (λ (i : ℕ). record x { number = i }) (e1 ∙ e2) ∙ ap (λ (l : List ℕ). record { number = n; line = l }) e3
  ith_execution sent starts j s (n' ∷ ns) (m ∷ ms) t h (suc k) n e =
      let v = restarted_if ends.restarted (has_number (j + 1) starts) h.0 in
      let i : j + 1 + k + 1 ≡ j + suc k + 1 = omega arith in
      subst (λ x. IsIthExecution sent starts x (before_in sent starts (j + 1) v ns ms t h.2 k) (before_in sent starts (j + 1) v ns ms t h.2 (suc k)) (slice_get ms k) n) i
      (ith_execution sent starts (j + 1) v ns ms t h.2 k n e)
  ith_execution sent starts j s [] (m ∷ ms) t h k n e = absurd h
  ith_execution sent starts j s (n' ∷ ns) [] t h k n e = absurd h

  -- Let a replay execute what the wire w has as executed, let each of its replies be among those that the wire has as made, and
  -- each of those be one of its replies.
  module _ (opening : State) (w : Wire State) (replies : List (Numbered (List ℕ)))
      (h : Replays ends w.sent w.starts 0 (ends.restarted opening) w.executed replies w.state)
      (each : AllByRecursion (λ m. Has m w.made) replies) (among : AllByRecursion (λ m. Has m replies) w.made) where
    -- the state before execution j, by the replay
    state_before : ℕ → State
    state_before = before_in w.sent w.starts 0 (ends.restarted opening) w.executed replies w.state h

    -- execution j is that of request n, as `IsExecuted` has it
    executed_at : (j n : ℕ) → slice_get w.executed j ≡ Some n → IsExecuted ends w state_before j n
    unfolding state_before
    executed_at j n e =
        let s = ith_execution w.sent w.starts 0 (ends.restarted opening) w.executed replies w.state h j n e in
        let i : j + 1 ≡ suc j = omega arith in
        let i' : 0 + j + 1 ≡ j + 1 = omega arith in
        let d = s.is_executed in
        let m : Numbered (List ℕ) = record { number = n; line = (handed_in ends d).reply } in
        let at = has_at m w.made (all_at (λ x. Has x w.made) replies j m each s.made) in
        record {
          is_executed = d;
          next =
              ap state_before i ∙ s.next_is
              ∙ ap (λ x. restarted_if ends.restarted (has_number x w.starts) (handed_in ends d).state) i';
          place = at.0;
          made = at.1;
        }

    -- each reply of the replay is that of one of the executions
    reply_at : (entry : Numbered (List ℕ)) → Has entry replies → IsReplyAt ends w state_before entry
    unfolding state_before executed_at
    reply_at entry has =
        let at = has_at entry replies has in
        let size = replays_entries w.sent w.starts 0 (ends.restarted opening) w.executed replies w.state h in
        let n = element_at w.executed at.0 (omega (arith, size, slice_get_within replies at.0 entry at.1)) in
        let s = ith_execution w.sent w.starts 0 (ends.restarted opening) w.executed replies w.state h at.0 n.0 n.1 in
        let d = s.is_executed in
        let entry_is : entry ≡ record { number = n.0; line = (handed_in ends d).reply } = same_Some _ _ (sym at.1 ∙ s.made) in
        let number : n.0 ≡ entry.number = sym (ap (λ (m : Numbered (List ℕ)). m.number) entry_is) in
        let found : slice_get w.executed at.0 ≡ Some entry.number = n.1 ∙ ap Some number in
        subst (λ (m : Numbered (List ℕ)). IsReplyAt ends w state_before m) (sym entry_is) (record { j = at.0; executed = n.1; execution = executed_at at.0 n.0 n.1; line = refl })

    -- where the executed numbers strictly increase, the executions are as `HasExecutions` has them
    pub execution : Increasing 0 w.executed → HasExecutions ends opening w
    unfolding state_before
    execution climbs =
        let state = ends.restarted opening in
        record {
          before = state_before;
          first = before_first w.sent w.starts 0 state w.executed replies w.state h;
          each = executed_at;
          replies = λ k entry e. reply_at entry (all_at (λ m. Has m replies) w.made k entry among e);
          last = before_last w.sent w.starts 0 state w.executed replies w.state h;
          climbs = climbs;
        }

module _ {Q State : Type 0} (ends : Worlds.Ends Q State) (Good : State → Type 0) where
  -- the entry is a reply to the call of the request with its number
  pub record IsAnswerAt (sent : List (Worlds.Sent Q)) (m : Numbered (List ℕ)) : Type 0 where
    pub request : Worlds.Sent Q
    pub found : slice_get sent m.number ≡ Some request
    pub reply : IsReplyTo ends Good request.call m.line

  -- where `IsOneForOne` holds of requests and settlements, each answer was made for its request, and each reply made is one to
  -- its request's call, settlement m, if it is an answer, is booked for request m (`IsBooked`)
  pub booked : (sent : List (Worlds.Sent Q)) (made : List (Numbered (List ℕ))) (settled : List (Settlement Q)) → IsOneForOne sent settled → AllMade made 0 settled
      → AllByRecursion (IsAnswerAt sent) made → (m : ℕ) (s : Settlement Q) → slice_get settled m ≡ Some s → IsBooked ends Good made m s
  booked sent made settled one all at m s e bytes answered =
      let has = answer_made made settled m s bytes all e answered in
      let a = each_has (IsAnswerAt sent) made (record { number = m; line = bytes }) at has in
      let same = (one.same m s a.request e a.found).1 in
      (has_at _ made has, subst (λ c. IsReplyTo ends Good c bytes) (sym same) a.reply)

module _ {State : Type 0} (ends : Ends State) (Good : State → Type 0) (ex : IsExchange ends Good) where
  -- where an execution of request n begins in a good state, its reply is a reply to the call of request n, as `IsAnswerAt` has it
  answer_at : (sent : List Sent) (s : State) (n : ℕ) (m : Numbered (List ℕ)) (t : State) → Good s → Executes ends sent s n m t → IsAnswerAt ends Good sent m
  answer_at sent s n m t good h =
      let d = h.is_executed in
      record {
        request = d.request;
        found = ap (λ k. slice_get sent k) h.number ∙ d.found;
        reply = record { state = s; good = good; id = d.id; small = d.small; executed = d.executed; reply = h.line };
      }

  -- an execution in a good state, with a restart after it (b true) or without, leads to a good state
  good_next : (sent : List Sent) (s : State) (n : ℕ) (m : Numbered (List ℕ)) (t : State) (b : Bool) → Good s → Executes ends sent s n m t
      → Good (restarted_if ends.restarted b t)
  good_next sent s n m t false good h = subst Good h.leads (ex.stays_good s h.is_executed.id h.is_executed.request.call good h.is_executed.small)
  good_next sent s n m t true good h =
      ex.restart_good t (subst Good h.leads (ex.stays_good s h.is_executed.id h.is_executed.request.call good h.is_executed.small))

  -- each reply of a replay from a good state on is a reply to the call of the request whose number it has
  pub answers_at : (sent : List Sent) (starts : List ℕ) (j : ℕ) (s : State) (ns : List ℕ) (ms : List (Numbered (List ℕ))) (t : State) → Good s
      → Replays ends sent starts j s ns ms t → AllByRecursion (IsAnswerAt ends Good sent) ms
  answers_at sent starts j s [] [] t good h = tt
  answers_at sent starts j s (n ∷ ns) (m ∷ ms) t good h = (
    answer_at sent s n m h.0 good h.1,
    answers_at sent starts (j + 1) (restarted_if ends.restarted (has_number (j + 1) starts) h.0) ns ms t
        (good_next sent s n m h.0 (has_number (j + 1) starts) good h.1) h.2,
  )
  answers_at sent starts j s [] (m ∷ ms) t good h = absurd h
  answers_at sent starts j s (n ∷ ns) [] t good h = absurd h
