-- What is claimed of the definitions themselves: this project's own.
use Rattle.gc_scenes.specs.Common.{HasOneReply, ReplyFields, IsReply, RequestFields, IsRequest, State, Pointing, Target}
use Rattle.std.specs.Prelude.{◌≡◌, ◌<◌, ◌≤◌, ℕ, List, [], ◌∷◌, ◌++◌, map, true, Option, Some, None}
use Rattle.std.specs.List.{AllByRecursion}
use Rattle.gc_scenes.specs.Ways.{no_ways, apart, window, nearest}
use Rattle.gc_scenes.specs.SceneReplying.{IsPlayed}
use Rattle.gc_scenes.specs.SceneState.{SceneState, scene_restarted, seeing}
use Rattle.gc_scenes.specs.Starting.{StartingState, StartsOrPlays, is_start_due, sign_on}
use Rattle.gc_scenes.specs.declared.rules.Prism.{Prism}
use Rattle.gc_instrument.specs.Replying as table

-- a target that never moves and is never hidden
abbrev pub still : Target → Prism
still t = record { at = t; drift = None; from = 1; to = 0 }

-- targets that never move and are never hidden
abbrev pub all_still : List Target → List Prism
all_still targets = map still targets

-- the state of an instrument in a scene without rules, after this many looks (measurements and searches) and with this moment of
-- the next request: it has the values and the targets of the state `s` of the execution table, sends a stored reply again for a
-- repeat, and has none of the ways of real instruments
abbrev pub ruleless : (looks moment : ℕ) → State → SceneState
ruleless looks moment s = record {
  base = seeing [] s;
  prisms = all_still s.scene;
  faults = [];
  answers = [];
  noise = None;
  looks = looks;
  repeats = true;
  ways = no_ways;
  clock = None;
  moment = moment;
}

-- in a scene without rules the instrument does with a line what the instrument of the execution table does, and replies the same;
-- how many looks there were then (`more`) is left open
abbrev pub TableIsTheInstance : Type 0
TableIsTheInstance = (before after : State) (line : List ℕ) (reply : Option (List ℕ)) (looks moment : ℕ)
    → table.IsReplied before line after reply
    → (more : ℕ) × IsPlayed (ruleless looks moment before) line (ruleless more moment after) reply

-- a state, which contains the noise's seed, and a line determine the state after the line, and the reply or that there is none
abbrev pub OneReply : Type 0
OneReply = HasOneReply IsPlayed

-- a scene's instrument that never starts anew at a request, in this state
abbrev pub without_starts : SceneState → StartingState
without_starts s = record { scene = s; starts = [] }

-- of an instrument that starts anew at some requests
pub record StartsAnew : Type 0 where
  -- a state and a line determine the state after the line, and what is sent or that nothing is
  pub one : HasOneReply StartsOrPlays
  -- at a request at which a start is due it restarts, which leaves no reply stored, and sends the sign-on line
  pub starts : (before after : StartingState) (line : List ℕ) (sent : Option (List ℕ)) (q : RequestFields)
      → StartsOrPlays before line after sent → IsRequest line q → is_start_due q.rpc before.starts ≡ true
      → (after.scene ≡ scene_restarted before.scene) × (after.scene.base.kept ≡ None) × (sent ≡ Some sign_on)
  -- the sign-on line is no reply
  pub no_reply : (fields : ReplyFields) → IsReply sign_on fields → ⊥
  -- without starts it does what the scene's instrument does
  pub without : (before after : SceneState) (line : List ℕ) (reply : Option (List ℕ)) → IsPlayed before line after reply
      → StartsOrPlays (without_starts before) line (without_starts after) reply

-- each target is beyond the window of target recognition
abbrev pub IsFarOff : Pointing → List Target → Type 0
IsFarOff there targets = AllByRecursion (λ u. window < apart there u) targets

-- `t` is one of these targets and within the window round where the telescope points (`there`); each target before `t` is farther
-- off, and none after `t` is nearer
pub record IsNearest (there : Pointing) (targets : List Target) (t : Target) : Type 0 where
  pub front : List Target
  pub behind : List Target
  pub among : targets ≡ front ++ t ∷ behind
  pub within : apart there t ≤ window
  pub earlier : AllByRecursion (λ u. apart there t < apart there u) front
  pub later : AllByRecursion (λ u. apart there t ≤ apart there u) behind

-- this is the target to aim at: the nearest one (`IsNearest`), or none if all are beyond the window
abbrev pub IsAimedAt : Pointing → List Target → Option Target → Type 0
IsAimedAt there targets (Some t) = IsNearest there targets t
IsAimedAt there targets None = IsFarOff there targets

-- `nearest` gives the nearest target within the window, the first of several that are equally near, or none if all are beyond the
-- window
abbrev pub NearestIsNearest : Type 0
NearestIsNearest = (there : Pointing) (targets : List Target) → IsAimedAt there targets (nearest there targets)
