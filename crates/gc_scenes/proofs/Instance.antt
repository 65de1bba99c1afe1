-- The execution table is the instance without rules.
use Rattle.gc_scenes.proofs.Common.{◌≡◌, ℕ, ◌≤◌, Bool, true, false, not, ◌&&◌, nat_le, cond, List, [], ◌∷◌, Option, Some, None, refl, sym, ap, ◌∙◌, subst, arith, unwrap_or, leb-true, RequestFields, Call, Unknown, Parameters, Executed, exec, kept_line, kept_after, with_kept, executed_line, refusal_line, State, KeptReply, is_at, Pointing, Target, exec_outcome, kept_stays, still, all_still, ruleless, TableIsTheInstance, seen, drifted, moved_by, is_clear, Played, plays, played_of, outcome, after_call, look_of, is_measurement, silent, answers, AnswersRequest, names_call, names_none, unreadable, IsHanded, again_or_played, handed_call, handed_raw, holding, seeing, acted_faceless, no_ways}
use Rattle.gc_scenes.specs.declared.rules.Prism.{Prism}
use Rattle.gc_scenes.specs.declared.rules.Sight.{Sight}
use Rattle.gc_scenes.proofs.Acted.{table_without_ways}
use Rattle.gc_instrument.specs.Replying as table

-- no number is at least 1 and at most 0
no_look_from_1_to_0 : (look : ℕ) (a b : Bool) → nat_le 1 look ≡ a → nat_le look 0 ≡ b → not (a && b) ≡ true
no_look_from_1_to_0 look true true x y = let low : 1 ≤ look = leb-true 1 look x in let high : look ≤ 0 = leb-true look 0 y in absurd (omega (arith, low, high))
no_look_from_1_to_0 look true false x y = refl
no_look_from_1_to_0 look false b x y = refl

-- a target that is never hidden can be seen in each look
clear_still : (look : ℕ) (t : Target) → is_clear look (still t) ≡ true
clear_still look t = no_look_from_1_to_0 look (nat_le 1 look) (nat_le look 0) refl refl

-- the sight in this look, from where the telescope points (`there`), in face I
abbrev in_face_one : (look : ℕ) (there : Pointing) → Sight
in_face_one look there = record { turned = false; look = look; there = there }

-- of targets that are never hidden, all are seen in each look in face I, at their own angles
seen_still : (look : ℕ) (there : Pointing) (ts : List Target) → seen (in_face_one look there) (all_still ts) ≡ ts
seen_still look there [] = refl
seen_still look there (t ∷ ts) =
    let others = seen (in_face_one look there) (all_still ts) in
    ap (λ (b : Bool). cond b (t ∷ others) others) (clear_still look t) ∙ ap (λ (xs : List Target). t ∷ xs) (seen_still look there ts)

-- a target that never moves stays as it is, whether it was measured (true) or not
still_stays : (b : Bool) (t : Target) → cond b (moved_by None (still t)) (still t) ≡ still t
still_stays true t = refl
still_stays false t = refl

-- targets that never move stay as they are after a measurement in face I
drifted_still : (look : ℕ) (there : Pointing) (ts : List Target) → drifted (in_face_one look there) (all_still ts) ≡ all_still ts
drifted_still look there [] = refl
drifted_still look there (t ∷ ts) =
    ap (λ (p : Prism). p ∷ drifted (in_face_one look there) (all_still ts)) (still_stays (is_clear look (still t) && is_at there t) t)
    ∙ ap (λ (ps : List Prism). still t ∷ ps) (drifted_still look there ts)

-- targets that never move stay as they are after a call in face I, whether it measures (true) or not
still_after : (b : Bool) (look : ℕ) (there : Pointing) (ts : List Target)
    → cond b (drifted (in_face_one look there) (all_still ts)) (all_still ts) ≡ all_still ts
still_after true look there ts = drifted_still look there ts
still_after false look there ts = refl

-- x, put together from its parts, as `acted` puts an outcome together
abbrev rebuilt_outcome : Executed → Executed
rebuilt_outcome x = record { state = x.state; rc = x.rc; answer = x.answer }

module _ (looks moment : ℕ) (s : State) (call : Call) where
  -- the outcome of the call in a scene without rules is that of the execution table
  outcome_is : outcome (ruleless looks moment s) call ≡ rebuilt_outcome (exec s call)
  outcome_is =
      ap (λ (ts : List Target). rebuilt_outcome (acted_faceless no_ways None (seeing ts s) call)) (seen_still (look_of false looks call) s.pointing s.scene)
      ∙ ap rebuilt_outcome (table_without_ways s call)

  -- the state after the call in a scene without rules is, with any stored reply, that of the table after the call
  after_is : (kept : Option KeptReply)
      → ruleless (look_of false looks call) moment (with_kept kept (exec s call).state) ≡ holding kept (after_call (ruleless looks moment s) call (exec s call))
  after_is kept =
      let x = exec s call in
      let targets : all_still x.state.scene ≡ cond (is_measurement call) (drifted (in_face_one (look_of false looks call) s.pointing) (all_still s.scene)) (all_still s.scene) =
      ap (λ (t : State). all_still t.scene) (exec_outcome s call).same ∙ sym (still_after (is_measurement call) (look_of false looks call) s.pointing s.scene) in
      ap (λ (ps : List Prism). record (ruleless (look_of false looks call) moment (with_kept kept x.state)) { prisms = ps }) targets

  -- what an instrument without rules does with the call is what `played_of` makes of the table's outcome
  played : plays (ruleless looks moment s) call ≡ played_of (ruleless looks moment s) call (exec s call)
  unfolding plays
  played = ap (played_of (ruleless looks moment s) call) outcome_is

  -- where the request is no repeat, the table's state after the call and its reply are those of the scene's instrument
  gave_new : (rpc : ℕ) (id : Option ℕ) (after : State) (reply : List ℕ) → kept_line s.kept id ≡ None
      → after ≡ with_kept (kept_after s.kept id reply) (exec s call).state
      → reply ≡ executed_line (unwrap_or id 0) (exec s call)
      → IsHanded (handed_call (ruleless looks moment s) rpc id call) (ruleless (look_of false looks call) moment after) reply
  unfolding handed_call
  gave_new rpc id after reply none state line =
      let p = played_of (ruleless looks moment s) call (exec s call) in
      subst (λ (o : Option (List ℕ)). IsHanded (again_or_played (ruleless looks moment s) id (plays (ruleless looks moment s) call) o)
      (ruleless (look_of false looks call) moment after) reply) (sym none)
      (subst (λ (y : Played). IsHanded (again_or_played (ruleless looks moment s) id y None) (ruleless (look_of false looks call) moment after) reply) (sym played)
      (record {
        state = ap (ruleless (look_of false looks call) moment) state
            ∙ ap (λ (l : List ℕ). ruleless (look_of false looks call) moment (with_kept (kept_after s.kept id l) (exec s call).state)) line
            ∙ after_is (kept_after s.kept id (executed_line (unwrap_or id 0) (exec s call)))
            ∙ ap (λ (k : Option KeptReply). holding (kept_after k id (executed_line (unwrap_or id 0) (exec s call))) p.state) (sym (kept_stays s call));
        line = line;
      }))

  -- where the request is a repeat, the unchanged state and the stored reply are those of the scene's instrument
  gave_kept : (rpc : ℕ) (id : Option ℕ) (after : State) (reply : List ℕ) → kept_line s.kept id ≡ Some reply → after ≡ s
      → IsHanded (handed_call (ruleless looks moment s) rpc id call) (ruleless looks moment after) reply
  unfolding handed_call
  gave_kept rpc id after reply some same =
      subst (λ (o : Option (List ℕ)). IsHanded (again_or_played (ruleless looks moment s) id (plays (ruleless looks moment s) call) o) (ruleless looks moment after) reply) (sym some)
      (record { state = ap (ruleless looks moment) same; line = refl })

-- in a scene without rules a request for an unknown procedure is refused, and changes nothing
gave_refusal : (looks moment rpc : ℕ) (s after : State) (id : Option ℕ) (reply : List ℕ) → after ≡ s → reply ≡ refusal_line (unwrap_or id 0) Unknown
    → IsHanded (handed_raw (ruleless looks moment s) rpc id) (ruleless looks moment after) reply
unfolding handed_raw
gave_refusal looks moment rpc s after id reply same line = record { state = ap (ruleless looks moment) same; line = line }

-- what the instrument of the table does with a request, the instrument of a scene without rules does, after some number of looks
-- (`more`)
request_instance : (s t : State) (q : RequestFields) (reply : List ℕ) (looks moment : ℕ) → table.AnswersRequest s q t reply
    → (more : ℕ) × AnswersRequest (ruleless looks moment s) q (ruleless more moment t) reply
request_instance s t q reply looks moment (table.refuses Unknown is same line) = (looks, names_none is (gave_refusal looks moment q.rpc s t q.id reply same line))
request_instance s t q reply looks moment (table.refuses (Parameters e) is same line) = (looks, unreadable e is (ap (ruleless looks moment) same) line)
request_instance s t q reply looks moment (table.answers_call call is (table.repeats some same)) = (looks, names_call call is (gave_kept looks moment s call q.rpc q.id t reply some same))
request_instance s t q reply looks moment (table.answers_call call is (table.executes none state line)) =
    (look_of false looks call, names_call call is (gave_new looks moment s call q.rpc q.id t reply none state line))

-- what the instrument of the table does with a line, the instrument of a scene without rules does, after some number of looks
pub table_is_the_instance : TableIsTheInstance
table_is_the_instance s t line reply looks moment (silent none same quiet) = (looks, silent none (ap (ruleless looks moment) same) quiet)
table_is_the_instance s t line reply looks moment (answers q is text does told) =
    let h = request_instance s t q text looks moment does in
    (h.0, answers q is text h.1 told)
