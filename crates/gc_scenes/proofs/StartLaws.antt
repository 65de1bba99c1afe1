-- What holds of an instrument that starts anew at some requests.
use Rattle.gc_scenes.proofs.Common.{◌≡◌, ℕ, List, Option, Some, None, true, false, slice_index, refl, sym, ◌∙◌, ap, arith, true≢false, HasOneReply, ReplyFields, IsReply, RequestFields, IsRequest, StartsAnew, without_starts, IsPlayed, SceneState, scene_restarted, StartingState, StartsOrPlays, ignores, starts, is_start_due, counting_starts, starting_restarted, sign_on}
use Rattle.gc_lines.specs.Prelude.{silent, answers}
use Rattle.gc_lines.proofs.Requests.{one_request}
use Rattle.gc_scenes.specs.Starting.{plays}
use Rattle.gc_scenes.proofs.Turns.{one_reply}

-- a start isn't due and not due at one request
both_due : (s : StartingState) (line : List ℕ) (a b : RequestFields) → IsRequest line a → IsRequest line b → is_start_due a.rpc s.starts ≡ true
    → is_start_due b.rpc s.starts ≡ false → ⊥
both_due s line a b is other due none =
    true≢false (sym due ∙ ap (λ (x : RequestFields). is_start_due x.rpc s.starts) (one_request line a b is other) ∙ none)

-- a state and a line determine the state after the line, and what is sent or that nothing is
one_sending : HasOneReply StartsOrPlays
one_sending s t u line p q (ignores none same quiet) (ignores never again mute) = (same ∙ sym again, quiet ∙ sym mute)
one_sending s t u line p q (ignores none same quiet) (starts b other due makes told) = absurd (none b other)
one_sending s t u line p q (ignores none same quiet) (plays b other not scene played makes) = absurd (none b other)
one_sending s t u line p q (starts a is due makes told) (ignores none same quiet) = absurd (none a is)
one_sending s t u line p q (starts a is due makes told) (starts b other again does says) = (
  makes ∙ ap (λ (x : RequestFields). starting_restarted (counting_starts x.rpc s)) (one_request line a b is other) ∙ sym does,
  told ∙ sym says,
)
one_sending s t u line p q (starts a is due makes told) (plays b other not scene played does) = absurd (both_due s line a b is other due not)
one_sending s t u line p q (plays a is not scene played makes) (ignores none same quiet) = absurd (none a is)
one_sending s t u line p q (plays a is not scene played makes) (starts b other due does told) = absurd (both_due s line b a other is due not)
one_sending s t u line p q (plays a is not scene played makes) (plays b other never stage acted does) =
    let one = one_reply s.scene scene stage line p q played acted in (
      makes ∙ ap (λ (x : RequestFields). record (counting_starts x.rpc s) { scene = scene }) (one_request line a b is other)
          ∙ ap (λ (x : SceneState). record (counting_starts b.rpc s) { scene = x }) one.0 ∙ sym does,
      one.1,
    )

-- at a request at which a start is due the instrument restarts, and sends the sign-on line
start_due : (before after : StartingState) (line : List ℕ) (sent : Option (List ℕ)) (q : RequestFields)
    → StartsOrPlays before line after sent → IsRequest line q → is_start_due q.rpc before.starts ≡ true
    → (after.scene ≡ scene_restarted before.scene) × (after.scene.base.kept ≡ None) × (sent ≡ Some sign_on)
start_due before after line sent q (ignores none same quiet) is due = absurd (none q is)
start_due before after line sent q (starts a other again makes told) is due =
    (ap (λ (t : StartingState). t.scene) makes, ap (λ (t : StartingState). t.scene.base.kept) makes, told)
start_due before after line sent q (plays a other not scene played makes) is due = absurd (both_due before line q a is other due not)

-- the sign-on line is no reply: its second byte is N (78), and not R (82)
sign_on_is_no_reply : (fields : ReplyFields) → IsReply sign_on fields → ⊥
sign_on_is_no_reply fields is = let same : ◌≡◌ {A = ℕ} 78 82 = ap (λ (bytes : List ℕ). slice_index bytes 1) is.whole in omega arith

-- without starts the instrument does what the scene's instrument does
without : (before after : SceneState) (line : List ℕ) (reply : Option (List ℕ)) → IsPlayed before line after reply
    → StartsOrPlays (without_starts before) line (without_starts after) reply
without before after line reply (silent none same quiet) = ignores none (ap without_starts same) quiet
without before after line reply (answers q is text does told) = plays q is refl after (answers q is text does told) refl

-- the law
pub starts_anew : StartsAnew
starts_anew = record { one = one_sending; starts = start_due; no_reply = sign_on_is_no_reply; without = without }
