-- Lines `answer` of a scene with rules, and the reply that each gives.
use Rattle.gc_filters.proofs.Common.{◌≡◌, ℕ, ◌<◌, ◌≤◌, List, length, Option, Some, None, refl, sym, ◌∙◌, subst, arith, IfSome, IfNone, scripted_params, Scripted, IsNumber, IsRpc, second_word, IsReadAs, one_number, BeginsAnswer, rc_in_answer, params_in_answer, IsAnswerLine, Scripts, BeginsWith, IsLineRead, IsReplyTrouble, IsSceneTrouble, IsScriptRead, SceneWord}
use Rattle.std.specs.Prelude.{Result, Ok, Err}
use Rattle.gc_catalogue.specs.Prelude.{raw_bytes}
use Rattle.gc_catalogue.specs.declared.raw.RawCall.{RawCall}
use Rattle.gc_filters.specs.declared.scene_trouble.SceneTrouble.{SceneTrouble}
use Rattle.gc_filters.specs.declared.scene_trouble.SceneTrouble.TheVariants as trouble

-- where a request of this procedure has these parameters, and r is the reply made of it with this return code, or `None` if its
-- parameters have more than 490 bytes, too many for a reply, r is read as `Scripts` says
pub made_reply_is_scripted : (rpc rc : ℕ) (params : List ℕ) (call : RawCall) (r : Option Scripted) → call.rpc ≡ rpc → raw_bytes call.params ≡ params
    → IfSome r (λ s. (s.rpc ≡ call.rpc) × (s.with ≡ Some call) × (s.rc ≡ rc)) → IfNone r (490 < length (raw_bytes call.params))
    → IsReadAs (Scripts rpc rc params) r
made_reply_is_scripted rpc rc params call None number bytes made long = λ a is.
    let short : length (raw_bytes is.call.params) ≤ 490 = subst (λ (w : Option RawCall). length (scripted_params w) ≤ 490) is.with_is a.short in
    let one : raw_bytes is.call.params ≡ raw_bytes call.params = is.params_are ∙ sym bytes in
    omega (arith, subst (λ (x : List ℕ). length x ≤ 490) one short, long)
made_reply_is_scripted rpc rc params call (Some s) number bytes made long =
    record { rpc_is = made.0 ∙ number; rc_is = made.2; call = call; with_is = made.1; number = number; params_are = bytes }

-- where a line is `answer` with this procedure and this return code, and r is the reply made of these and of the line's parameters, r is
-- what the line is read as
pub read_as_answer : (line : List ℕ) (rpc rc : ℕ) (r : Result Scripted SceneTrouble) → BeginsAnswer line rpc rc → IsScriptRead rpc rc (params_in_answer line) r
    → IsLineRead (IsAnswerLine line) line r
read_as_answer line rpc rc (Err t) begins unread = (none, at_fault t unread.1) where
  -- the line says no reply
  none : (a : Scripted) → IsAnswerLine line a → ⊥
  none a is =
      let rpc_is : a.rpc ≡ rpc = one_number (second_word line) a.rpc rpc 65535 is.begins.rpc_is begins.rpc_is in
      unread.0 a (record {
        rpc_is = rpc_is;
        rc_is = one_number (rc_in_answer line) a.rc rc 65535 is.begins.rc_is begins.rc_is;
        call = is.reply.call;
        with_is = is.reply.with_is;
        number = is.reply.number ∙ rpc_is;
        params_are = is.reply.params_are;
      })

  -- what is at fault in the parameters of the reply is at fault in the line
  at_fault : (t : SceneTrouble) → IsReplyTrouble rpc (params_in_answer line) t → IsSceneTrouble line t
  at_fault (trouble.InTable n) h = (begins.word, (rpc, begins.rpc_is, h))
  at_fault trouble.Params h = (begins.word, (rpc, begins.rpc_is, h))
  at_fault (trouble.Form w) h = subst (λ (v : SceneWord). BeginsWith v line) (sym h) begins.word
  at_fault t h = absurd h
read_as_answer line rpc rc (Ok a) begins made = record {
  begins = record {
    word = begins.word;
    rpc_is = subst (λ (n : ℕ). IsRpc (second_word line) n) (sym made.rpc_is) begins.rpc_is;
    rc_is = subst (λ (n : ℕ). IsNumber (rc_in_answer line) n 65535) (sym made.rc_is) begins.rc_is;
  };
  reply = record {
    rpc_is = refl;
    rc_is = refl;
    call = made.call;
    with_is = made.with_is;
    number = made.number ∙ sym made.rpc_is;
    params_are = made.params_are;
  };
}
