-- What is asked of an instrument, the simulator or that of a scene: this project's own.
use Rattle.gc_world.specs.Common.{IsPlain, Call, heard, Handed}
use Rattle.std.specs.Prelude.{◌≡◌, ℕ, Bool, true, false, List, Option}
use Rattle.gc_world.specs.World.{Ends}

-- what an instrument does: with the request line of a call with an id, and at a restart
pub record Behaviour (State : Type 0) : Type 0 where
  pub handed : State → (id : ℕ) → Call → Handed State
  pub restarted : State → State

-- the two ends: an instrument that behaves so, and a client that reads replies by their grammar. A restart of the client restarts
-- the instrument, too
abbrev pub ends_with : {State : Type 0} → Behaviour State → Ends State
ends_with b = record { handed = b.handed; restarted = b.restarted; heard = heard; joint = true }

-- the state after a request, the reply, and whether the request was executed are those of `h`; the reply has neither CR nor LF
pub record IsHandedOver {State : Type 0} (h : Handed State) (after : State) (reply : List ℕ) (executed : Bool) : Type 0 where
  pub state : after ≡ h.state
  pub line : reply ≡ h.reply
  pub plain : IsPlain reply
  pub is_executed : executed ≡ h.executed

-- a request was handed over, by which the stored id went from `before` to `after`, and `executed` is what that tells: nothing was
-- executed if the instrument stores replies (`repeats`) and the id stayed; else the request was
pub record TellsExecution (repeats : Bool) (before after : Option ℕ) (executed : Bool) : Type 0 where
  pub same : repeats ≡ true → before ≡ after → executed ≡ false
  pub another : (before ≡ after → ⊥) → executed ≡ true
  pub never : repeats ≡ false → executed ≡ true
