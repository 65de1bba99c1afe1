-- What the laws of the runs say of a run's lists of requests, executions, replies and settlements: how they correspond. This
-- project's own.
use Rattle.gc_world.specs.Common.{request_line, IDS, Settlement, Answered, Handed}
use Rattle.std.specs.Prelude.{◌≡◌, ℕ, ◌+◌, ◌<◌, ◌≤◌, List, [], ◌∷◌, length, true, Some, slice_get}
use Rattle.gc_world.specs.Faithful.{has_number, restarted_if}
use Rattle.gc_world.specs.World.{Sent, Numbered, Ends, Wire}
use Rattle.gc_world.specs.Worlds

-- the numbers of a list strictly increase, and none is below `low`
abbrev pub Increasing : ℕ → List ℕ → Type 0
Increasing low [] = Unit {0}
Increasing low (x ∷ xs) = (low ≤ x) × Increasing (x + 1) xs

-- of a wire's requests and settlements what `OneForOne` says of a report's: settlement m has the target and the call of request
-- m, and there are no more settlements than requests
pub record IsOneForOne {Q : Type 0} (sent : List (Worlds.Sent Q)) (settled : List (Settlement Q)) : Type 0 where
  pub count : length settled ≤ length sent
  pub same :
      (m : ℕ) (s : Settlement Q) (r : Worlds.Sent Q) → slice_get settled m ≡ Some s → slice_get sent m ≡ Some r →
      (s.target ≡ r.target) × (s.call ≡ r.call)

module _ {Q State : Type 0} (ends : Worlds.Ends Q State) where
  -- these bytes are the reply that the instrument makes when it executes this call in some good state, with some id from 0 to 7
  pub record IsReplyTo (Good : State → Type 0) (call : Q) (bytes : List ℕ) : Type 0 where
    pub state : State
    pub good : Good state
    pub id : ℕ
    pub small : id < IDS
    pub executed : (ends.handed state id call).executed ≡ true
    pub reply : bytes ≡ (ends.handed state id call).reply

  -- where settlement m is answered, its line is among those that were made for request m, and is a reply to the settlement's call
  -- (`IsReplyTo`)
  abbrev pub IsBooked : (State → Type 0) → List (Numbered (List ℕ)) → ℕ → Settlement Q → Type 0
  IsBooked Good made m s =
      (bytes : List ℕ) → s.outcome ≡ Answered bytes →
      ((j : ℕ) × (slice_get made j ≡ Some (record { number = m; line = bytes }))) × IsReplyTo Good s.call bytes

module _ {State : Type 0} (ends : Ends State) where
  -- request n of those that were sent is executed in this state; its line is that of its call with some id from 0 to 7
  pub record IsExecutedIn (sent : List Sent) (n : ℕ) (state : State) : Type 0 where
    pub request : Sent
    pub found : slice_get sent n ≡ Some request
    pub id : ℕ
    pub small : id < IDS
    pub line : request.line ≡ request_line (Some id) request.call
    pub executed : (ends.handed state id request.call).executed ≡ true

  -- what the instrument did with a request that is executed
  abbrev pub handed_in : {sent : List Sent} {n : ℕ} {state : State} → IsExecutedIn sent n state → Handed State
  handed_in {sent} {n} {state} d = ends.handed state d.id d.request.call

  -- execution j is that of request n, in the state `before j`; and `before (j + 1)` is the state that comes of it, restarted
  -- where `starts` has the number j + 1
  pub record IsExecuted (w : Wire State) (before : ℕ → State) (j n : ℕ) : Type 0 where
    pub is_executed : IsExecutedIn w.sent n (before j)
    pub next : before (j + 1) ≡ restarted_if ends.restarted (has_number (j + 1) w.starts) (handed_in is_executed).state
    -- its reply is among those that were made
    pub place : ℕ
    pub made : slice_get w.made place ≡ Some (record { number = n; line = (handed_in is_executed).reply })

  -- this entry, a reply that was made, is the reply of execution j, which is that of the entry's request
  pub record IsReplyAt (w : Wire State) (before : ℕ → State) (entry : Numbered (List ℕ)) : Type 0 where
    pub j : ℕ
    pub executed : slice_get w.executed j ≡ Some entry.number
    pub execution : IsExecuted w before j entry.number
    pub line : entry.line ≡ (handed_in execution.is_executed).reply

  -- the executions of a run: `before j` is the state before execution j, at first the restarted opening state, and the wire's
  -- state is the one before the execution that would come next; each reply that was made is that of an execution
  pub record HasExecutions (opening : State) (w : Wire State) : Type 0 where
    pub before : ℕ → State
    pub first : before 0 ≡ ends.restarted opening
    pub each : (j n : ℕ) → slice_get w.executed j ≡ Some n → IsExecuted w before j n
    pub replies : (k : ℕ) (entry : Numbered (List ℕ)) → slice_get w.made k ≡ Some entry → IsReplyAt w before entry
    pub last : w.state ≡ before (length w.executed)
    -- requests are executed in order, and none twice
    pub climbs : Increasing 0 w.executed
