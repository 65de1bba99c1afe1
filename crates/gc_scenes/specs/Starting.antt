-- An instrument that starts anew at some requests: this project's own. The sign-on line is from memory, and was compared with no
-- instrument. `rpc` is a procedure's number.
use Rattle.gc_scenes.specs.Common.{RequestFields, IsRequest, IsNoRequest}
use Rattle.std.specs.Prelude.{◌≡◌, ℕ, Bool, true, false, List, Option, Some, None, codes, find, is_some}
use Rattle.gc_scenes.specs.Rules.{counted, is_due}
use Rattle.gc_scenes.specs.SceneReplying.{IsPlayed}
use Rattle.gc_scenes.specs.SceneState.{SceneState, scene_restarted, at_moment}
use Rattle.gc_scenes.specs.declared.rules.Fault.{Fault}

-- the line that an instrument sends once it has started, without CR LF
abbrev pub sign_on : List ℕ
sign_on = codes "%N1,0,255,,0%T0,0,0,:"

-- the state of a scene's instrument that starts anew at some requests
pub record StartingState : Type 0 where
  pub scene : SceneState
  -- the faults at which it starts anew, each with the count of the requests of its procedure; their return codes aren't used
  pub starts : List Fault

-- the state after a restart: that of the scene's instrument restarts. The counts of requests stay
abbrev pub starting_restarted : StartingState → StartingState
starting_restarted s = record s { scene = scene_restarted s.scene }

-- the state with this moment of the next request
abbrev pub starting_at : (moment : ℕ) → StartingState → StartingState
starting_at moment s = record s { scene = at_moment moment s.scene }

-- the state after one more request of this procedure: each fault of the procedure has counted it
abbrev pub counting_starts : (rpc : ℕ) → StartingState → StartingState
counting_starts rpc s = record s { starts = counted rpc s.starts }

-- whether the instrument starts anew at the next request of this procedure: one of these faults is due then
abbrev pub is_start_due : (rpc : ℕ) → List Fault → Bool
is_start_due rpc starts = is_some (find (is_due rpc) starts)

-- what the instrument does with a line, and what it sends, if anything
pub data StartsOrPlays (before : StartingState) (line : List ℕ) (after : StartingState) (sent : Option (List ℕ)) : Type 0 where
  -- the line is no request: nothing changes
  ignores : IsNoRequest line → after ≡ before → sent ≡ None → StartsOrPlays before line after sent
  -- a start is due at the request: it is counted and not executed, the instrument restarts, and so has no stored reply, and it
  -- sends the sign-on line in place of a reply
  starts : (q : RequestFields) → IsRequest line q → is_start_due q.rpc before.starts ≡ true
      → after ≡ starting_restarted (counting_starts q.rpc before) → sent ≡ Some sign_on → StartsOrPlays before line after sent
  -- no start is due at the request: it is counted, and the scene's instrument does with it what it does without starts
  plays : (q : RequestFields) → IsRequest line q → is_start_due q.rpc before.starts ≡ false
      → (scene : SceneState) → IsPlayed before.scene line scene sent
      → after ≡ record (counting_starts q.rpc before) { scene = scene } → StartsOrPlays before line after sent
