-- No part of this crate's promise: what the proofs ask of the two ends, and of the reply that an instrument keeps.
use Rattle.gc_world.specs.Common.{kept_line, KeptReply, heard, IDS}
use Rattle.std.specs.Prelude.{◌≡◌, ℕ, ◌<◌, List, true, false, Option, Some, None, IfSome}
use Rattle.gc_world.specs.Worlds.{Ends}

-- the line of this kept reply, if there is one, reads as a reply with the id that it is kept with
abbrev pub ReadsWithItsId : Option KeptReply → Type 0
ReadsWithItsId kept = IfSome kept (λ k. heard k.line ≡ Some k.id)

-- in a good state (`Good`) the reply to a request, whose id is below `IDS`, reads as one with that id, and the state after it is
-- good again; a restart leads from a good state to a good one
pub record IsExchange {Q State : Type 0} (ends : Ends Q State) (Good : State → Type 0) : Type 0 where
  pub reads : (state : State) (id : ℕ) (call : Q) → Good state → id < IDS → ends.heard (ends.handed state id call).reply ≡ Some id
  pub stays_good : (state : State) (id : ℕ) (call : Q) → Good state → id < IDS → Good (ends.handed state id call).state
  pub restart_good : (state : State) → Good state → Good (ends.restarted state)

-- the instrument keeps its last reply, with the reply's id: `kept` gives what a state keeps. In a good state (`Good`) a request with
-- the kept id gets the kept line, isn't executed, and leaves the state as it is; any other request is executed, and its reply is
-- kept. Restarting twice is restarting once, and leaves nothing kept
pub record IsKeeper {Q State : Type 0} (ends : Ends Q State) (Good : State → Type 0) (kept : State → Option KeptReply) : Type 0 where
  pub twice : (state : State) → ends.restarted (ends.restarted state) ≡ ends.restarted state
  pub forgets : (state : State) → kept (ends.restarted state) ≡ None
  pub again : (state : State) (id : ℕ) (call : Q) (line : List ℕ) → Good state → kept_line (kept state) (Some id) ≡ Some line
      → ends.handed state id call ≡ record { state = state; reply = line; executed = false }
  pub executes : (state : State) (id : ℕ) (call : Q) → Good state → kept_line (kept state) (Some id) ≡ None → (ends.handed state id call).executed ≡ true
  pub keeps : (state : State) (id : ℕ) (call : Q) → Good state → kept_line (kept state) (Some id) ≡ None
      → kept (ends.handed state id call).state ≡ Some (record { id = id; line = (ends.handed state id call).reply })
