-- The reply of a scene's instrument to a line: this project's own. The communication codes are the manual's. A parameter `number`
-- is an id, `rpc` a procedure's number, and `rc` a return code.
use Rattle.gc_scenes.specs.Common.{RepliesTo, IsPlain, reply_text, RequestFields, IsCall, IsRefusal, Call, Handed, kept_line, kept_after, with_kept, refusal_line, reply_id, KeptReply}
use Rattle.std.specs.Prelude.{◌≡◌, ℕ, List, true, false, Option, Some, None, unwrap_or, if◌then◌else◌}
use Rattle.gc_values.specs.declared.fault.ValueFault.{ValueFault}
use Rattle.gc_catalogue.specs.declared.fault.CallFault.TheVariants.{Unknown, Parameters}
use Rattle.gc_scenes.specs.SceneExecution.{Played, played_call, played_raw, scripted_played, counting}
use Rattle.gc_scenes.specs.SceneState.{SceneState}
use Rattle.gc_scenes.specs.declared.replying.Fresh.{Fresh}
pub use Rattle.gc_lines.specs.AnsweringLines.{silent, answers}
use Rattle.gc_scenes.specs.declared.replying.Fresh.TheVariants as fresh

-- the reply line with this id, this return code and these parameters
abbrev pub line_with : (number rc : ℕ) → (params : List ℕ) → List ℕ
line_with number rc params = reply_text (record { rc_com = 0; id = Some number; rc = rc; params = params })

-- the reply line with this id, and with the return code and the parameters of `p`
abbrev pub played_line : (number : ℕ) → Played → List ℕ
played_line number p = line_with number p.rc p.params

-- the stored line that answers a request with this id, if the instrument repeats; none if no line is stored for the id, or the
-- instrument doesn't repeat
abbrev pub resent_line : SceneState → (id : Option ℕ) → Option (List ℕ)
resent_line s id = if s.repeats then kept_line s.base.kept id else None

-- the stored reply after a request was answered with this line: as `kept_after` has it if the instrument repeats, else none
abbrev pub kept_if_repeating : SceneState → (id : Option ℕ) → (line : List ℕ) → Option KeptReply
kept_if_repeating s id line = if s.repeats then kept_after s.base.kept id line else None

-- the state, but with this stored reply, or none
abbrev pub holding : Option KeptReply → SceneState → SceneState
holding kept s = record s { base = with_kept kept s.base }

-- what the instrument does with a request: it sends the stored line again, if there is one for the id, and executes nothing; else
-- it does `p`, and stores the reply (`kept_if_repeating`). `executed` is false for a repeat alone, so it is true also where a
-- fault answers
abbrev pub again_or_played : SceneState → (id : Option ℕ) → Played → (stored : Option (List ℕ)) → Handed SceneState
again_or_played s id p (Some line) = record { state = s; reply = line; executed = false }
again_or_played s id p None =
    let line = played_line (unwrap_or id 0) p in
    record { state = holding (kept_if_repeating p.state id line) p.state; reply = line; executed = true }

-- what the instrument does with a request that names this call
unfoldable pub handed_call : SceneState → (rpc : ℕ) (id : Option ℕ) → Call → Handed SceneState
handed_call s rpc id call = again_or_played s id (played_call s rpc call) (resent_line s id)

-- what the instrument does with a request whose procedure isn't in the table. `Some p`: it sends a stored line again, or else
-- does `p` (`again_or_played`). `None`: nothing answers the request, so the instrument refuses it, even if a line is stored for
-- its id, and only the faults count the request; `executed` says no more than that no stored line was sent
abbrev pub played_or_refused : SceneState → (rpc : ℕ) (id : Option ℕ) → Option Played → Handed SceneState
played_or_refused s rpc id (Some p) = again_or_played s id p (resent_line s id)
played_or_refused s rpc id None = record { state = counting rpc s; reply = refusal_line (unwrap_or id 0) Unknown; executed = true }

-- what the instrument does with a request whose procedure isn't in the table
unfoldable pub handed_raw : SceneState → (rpc : ℕ) (id : Option ℕ) → Handed SceneState
handed_raw s rpc id = played_or_refused s rpc id (played_raw s rpc)

-- the state after a request and the reply to it are those of `x`
pub record IsHanded (x : Handed SceneState) (after : SceneState) (reply : List ℕ) : Type 0 where
  pub state : after ≡ x.state
  pub line : reply ≡ x.reply

-- what the instrument does with a request, and its reply
pub data AnswersRequest (before : SceneState) (q : RequestFields) (after : SceneState) (reply : List ℕ) : Type 0 where
  -- the request names a call
  names_call : (call : Call) → IsCall q.rpc q.params call → IsHanded (handed_call before q.rpc q.id call) after reply
      → AnswersRequest before q after reply
  -- the request's procedure isn't in the table
  names_none : IsRefusal q.rpc q.params Unknown → IsHanded (handed_raw before q.rpc q.id) after reply → AnswersRequest before q after reply
  -- the request's parameters can't be read: nothing changes
  unreadable : (e : ValueFault) → IsRefusal q.rpc q.params (Parameters e) → after ≡ before
      → reply ≡ refusal_line (reply_id q) (Parameters e) → AnswersRequest before q after reply

-- what the instrument does with a request, and its reply, which has neither CR nor LF
pub record AnswersPlainly (before : SceneState) (q : RequestFields) (after : SceneState) (reply : List ℕ) : Type 0 where
  pub answers : AnswersRequest before q after reply
  pub plain : IsPlain reply

-- what the instrument does with a line, and its reply, if there is one
abbrev pub IsPlayed : (before : SceneState) → (line : List ℕ) → (after : SceneState) → (reply : Option (List ℕ)) → Type 0
IsPlayed before line after reply = RepliesTo AnswersRequest before line after reply

-- what the instrument does with a request of the procedure with this number, where the request isn't a repeat
abbrev pub played_fresh : SceneState → (rpc : ℕ) → Fresh → Played
played_fresh s rpc (fresh.Call call) = played_call s rpc call.now
played_fresh s rpc (fresh.Raw reply) = scripted_played (counting rpc s) reply.now

-- what the instrument does with a request of the procedure with this number: it sends a stored line again, or else does
-- `played_fresh`
abbrev pub handed_fresh : SceneState → (rpc : ℕ) → (id : Option ℕ) → Fresh → Handed SceneState
handed_fresh s rpc id asked = again_or_played s id (played_fresh s rpc asked) (resent_line s id)
