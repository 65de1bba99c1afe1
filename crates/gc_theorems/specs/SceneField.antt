-- The instrument of a scene with rules, of which any procedure is asked, this project's own: what it does with each request, and
-- what is claimed of it.
use Rattle.gc_theorems.specs.Common.{asked_line, call_fields, IsFitting, request_line, Asked, Table, Raw, RawCall, IDS, Handed, KeptReply, ReadsWithItsId}
use Rattle.std.specs.Prelude.{ℕ, ◌<◌, Option, Some}
use Rattle.gc_catalogue.specs.declared.call.Call.{Call}
use Rattle.gc_scenes.specs.Prelude.{IsPlayed, handed_call, handed_raw, SceneState, scene_restarted, at_moment}
use Rattle.gc_theorems.specs.Instrument.{IsAnInstrument, MayBecome}
use Rattle.gc_theorems.specs.World.{Ends, ends_of}

-- what the instrument of a scene does with a request: its state afterwards, its reply, and whether it executed the request
abbrev pub scene_handed : SceneState → ℕ → Asked → Handed SceneState
scene_handed s id (Table call) = handed_call s (call_fields call).number (Some id) call
scene_handed s id (Raw raw) = handed_raw s raw.rpc (Some id)

-- the two ends: the instrument of a scene, and a client that reads replies by their grammar
abbrev pub scene_ends : Ends SceneState
scene_ends = ends_of scene_handed scene_restarted

-- the reply that the instrument of a scene keeps, if any
abbrev pub scene_kept : SceneState → Option KeptReply
scene_kept s = s.base.kept

-- the good states of the instrument of a scene: the reply that is kept, if any, reads as a reply with its id
abbrev pub KeptReplyReads : SceneState → Type 0
KeptReplyReads s = ReadsWithItsId s.base.kept

-- the instrument of a scene is an instrument, whatever the scene's rules are
pub record SceneIsAnInstrument : Type 0 where
  pub instrument : IsAnInstrument scene_ends KeptReplyReads scene_kept
  -- the scene's clock may show another moment: that is one of the changes that an instrument's state may have by itself
  pub passes : (s : SceneState) (moment : ℕ) → KeptReplyReads s → MayBecome KeptReplyReads scene_kept s (at_moment moment s)
  -- `scene_handed` is what the scene's instrument does with the line of a request with an id from 0 to 7, for a call of the table
  -- that fits (`IsFitting`), and for any procedure that isn't in the table
  pub calls : (s : SceneState) (id : ℕ) (call : Call) → id < IDS → IsFitting call
      → IsPlayed s (request_line (Some id) call) (scene_handed s id (Table call)).state (Some (scene_handed s id (Table call)).reply)
  pub raws : (s : SceneState) (id : ℕ) (raw : RawCall) → id < IDS
      → IsPlayed s (asked_line (Some id) (Raw raw)) (scene_handed s id (Raw raw)).state (Some (scene_handed s id (Raw raw)).reply)
