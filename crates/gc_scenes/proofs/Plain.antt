-- The replies of a scene's instrument are plain: they have neither CR nor LF.
use Rattle.gc_scenes.proofs.Common.{◌≡◌, ℕ, ◌<◌, Bool, true, false, List, [], Option, Some, None, refl, sym, subst, lit<, eqb, IfSome, option_map, unwrap_or, cond_both, AppendsAnswer, AnswersLines, RepliesTo, MayBeId, IsPlainByte, IsPlain, reply_text, kept_line, kept_after, KeptReply, IsPlainKept, scripted_params, AnswersPlainly, IsPlayed, silent, answers, SceneState}
use Rattle.std.proofs.lemmas.List.Elements.{All-from_recursion}
use Rattle.gc_lines.proofs.Plain.{reply_plain}
use Rattle.gc_lines.specs.declared.frame.Frame.{Frame}
use Rattle.gc_lines.specs.declared.frame.Frame.TheVariants.{Line, Cleared, Overlong, More}
use Rattle.gc_catalogue.specs.declared.raw.RawCall.{RawCall}
use Rattle.gc_scenes.specs.SceneServing.{PlaysFrame}

-- Lines.

-- no bytes are plain
pub nothing_plain : IsPlain []
nothing_plain = All-from_recursion IsPlainByte [] tt

-- a reply with an id below 8, codes of 16 bits and plain parameters is plain
pub line_plain : (rc_com id rc : ℕ) (params : List ℕ) → rc_com < 65536 → id < 8 → rc < 65536 → IsPlain params
    → IsPlain (reply_text (record { rc_com = rc_com; id = Some id; rc = rc; params = params }))
line_plain rc_com id rc params sent digit code plain =
    reply_plain (record { rc_com = rc_com; id = Some id; rc = rc; params = params }) (record { rc_com = sent; id = digit; rc = code }) plain

-- the parameters of a scripted reply are plain
pub scripted_plain : (with : Option RawCall) → IsPlain (scripted_params with)
scripted_plain None = nothing_plain
scripted_plain (Some call) = call.is.plain

-- the id of a reply is below 8: the request's, or 0 if it has none
pub reply_id_below : (id : Option ℕ) → MayBeId id → unwrap_or id 0 < 8
reply_id_below None h = lit< tt
reply_id_below (Some id) h = h id refl

-- The stored line.

-- what is stored once a plain line was stored, or not, is plain, where what was stored before is
pub kept_plain : (k : Option KeptReply) (id : Option ℕ) (line : List ℕ) → IsPlainKept k → IsPlain line → IsPlainKept (kept_after k id line)
kept_plain k None line h plain = h
kept_plain k (Some id) line h plain = plain

-- the stored line for an id is plain, where what is stored is
kept_line_plain : (k : Option KeptReply) (id : Option ℕ) → IsPlainKept k → IfSome (kept_line k id) IsPlain
kept_line_plain None id h = tt
kept_line_plain (Some k) None h = tt
kept_line_plain (Some k) (Some id) h = cond_both (eqb k.id id) (Some k.line) None (λ o. IfSome o IsPlain) (λ _. h) (λ _. tt)

-- a line that is lent as the stored line for an id is plain, where what is stored is
pub lent_plain : {R : Type 0} (now : R → List ℕ) (o : Option R) (k : Option KeptReply) (id : Option ℕ) → option_map now o ≡ kept_line k id → IsPlainKept k
    → IfSome o (λ r. IsPlain (now r))
lent_plain now None k id e h = tt
lent_plain now (Some r) k id e h = subst (λ (o : Option (List ℕ)). IfSome o IsPlain) (sym e) (kept_line_plain k id h)

-- Replies.

-- replies that are `AnswersPlainly` are those of the instrument
is_played : (before after : SceneState) (line : List ℕ) (reply : Option (List ℕ)) → RepliesTo AnswersPlainly before line after reply → IsPlayed before line after reply
is_played before after line reply (silent other same none) = silent other same none
is_played before after line reply (answers q is text does some) = answers q is text does.answers some

-- replies that are `AnswersPlainly` are plain
is_plain : (before after : SceneState) (line : List ℕ) (reply : Option (List ℕ)) → RepliesTo AnswersPlainly before line after reply → IfSome reply IsPlain
is_plain before after line reply (silent other same none) = subst (λ (o : Option (List ℕ)). IfSome o IsPlain) (sym none) tt
is_plain before after line reply (answers q is text does some) = subst (λ (o : Option (List ℕ)). IfSome o IsPlain) (sym some) does.plain

module _ (before after : SceneState) (line old new : List ℕ) where
  -- where the text that was appended, or none, is a reply of `AnswersPlainly`, it is the instrument's
  pub line_played : (b : Bool) → AppendsAnswer (RepliesTo AnswersPlainly before line after) old new b → AppendsAnswer (IsPlayed before line after) old new b
  line_played true h = (h.0, is_played before after line (Some h.0) h.1, h.2)
  line_played false h = (is_played before after line None h.0, h.1)

  -- where the text that was appended, or none, is a reply of `AnswersPlainly`, it is plain
  pub line_is_plain : (b : Bool) → AppendsAnswer (RepliesTo AnswersPlainly before line after) old new b → AppendsAnswer (λ reply. IfSome reply IsPlain) old new b
  line_is_plain true h = (h.0, is_plain before after line (Some h.0) h.1, h.2)
  line_is_plain false h = (tt, h.1)

-- a text that answers a frame by replies that are `AnswersPlainly` answers it as `PlaysFrame` says
plays_frame : (before after : SceneState) (frame : Frame) (text : Option (List ℕ)) → AnswersLines (RepliesTo AnswersPlainly) before frame after text
    → PlaysFrame before frame after text
plays_frame before after (Line line) text h = (h.0, is_played before after line.items h.0 h.1, h.2)
plays_frame before after Cleared text h = h
plays_frame before after Overlong text h = h
plays_frame before after More text h = h

-- where the text that was appended, or none, answers a frame by replies that are `AnswersPlainly`, it answers the frame as
-- `PlaysFrame` says
pub played_frame : (before after : SceneState) (frame : Frame) (old new : List ℕ) (b : Bool)
    → AppendsAnswer (AnswersLines (RepliesTo AnswersPlainly) before frame after) old new b → AppendsAnswer (PlaysFrame before frame after) old new b
played_frame before after frame old new true h = (h.0, plays_frame before after frame (Some h.0) h.1, h.2)
played_frame before after frame old new false h = (plays_frame before after frame None h.0, h.1)
