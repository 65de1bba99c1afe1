-- What the instrument of a scene does with the request line of a call. Its reply has the request's id, whatever the scene's
-- rules say.
use Rattle.gc_world.proofs.Common.{◌≡◌, ℕ, ◌<◌, Bool, true, false, cond, List, [], Option, Some, None, refl, sym, ◌∙◌, ap, subst, lit<, IfSome, AppendsAnswer, IsPlain, call_fields, IsFitting, request_line, request_of, Call, heard, Handed, kept_line, kept_after, kept_id, fault_of, Played, plays, played_call, unless_faulted, counting, IsHanded, IsPlayed, answers, names_call, resent_line, again_or_played, handed_call, played_line, SceneState, scene_handed, scene_ends, IsHandedOver, TellsExecution, IsExchange, ReadsWithItsId, same_Some, none-some}
use Rattle.gc_lines.proofs.Requests.{request_found}
use Rattle.gc_catalogue.proofs.LineLaws.{call_again}
use Rattle.gc_scenes.proofs.Codes.{fault_bound, call_bound}
use Rattle.gc_scenes.proofs.Plain.{nothing_plain}
use Rattle.gc_scenes.proofs.Turns.{one_reply}
use Rattle.gc_world.proofs.Handing.{again_kept, kept_reads, id_is_not_kept, reply_heard}

-- The reply to a request line.

-- the instrument does with the request line of a call with values in range and an id below 8 what `scene_handed` says of the call
plays_line : (s : SceneState) (id : ℕ) (call : Call) → id < 8 → IsFitting call
    → IsPlayed s (request_line (Some id) call) (scene_handed s id call).state (Some (scene_handed s id call).reply)
plays_line s id call small fits =
    let q = request_of (Some id) call in
    let back = call_again (Some id) call small fits in
    answers q (request_found (request_line (Some id) call) q back.line) (scene_handed s id call).reply (names_call call back.is_asked (record { state = refl; line = refl })) refl

-- where the instrument got the request line of a call with values in range and an id below 8, and its reply, if there is one (b),
-- was appended to the empty text, the state then and this text are those that `scene_handed` says (`IsHanded`)
exchanged_is_handed : (s after : SceneState) (new : List ℕ) (b : Bool) (id : ℕ) (call : Call) → id < 8 → IsFitting call
    → AppendsAnswer (IsPlayed s (request_line (Some id) call) after) [] new b → IsHanded (scene_handed s id call) after new
exchanged_is_handed s after new true id call small fits h =
    let one = one_reply s after (scene_handed s id call).state (request_line (Some id) call) (Some h.0) (Some (scene_handed s id call).reply) h.1 (plays_line s id call small fits) in
    record { state = one.0; line = h.2 ∙ same_Some h.0 (scene_handed s id call).reply one.1 }
exchanged_is_handed s after new false id call small fits h =
    let one = one_reply s after (scene_handed s id call).state (request_line (Some id) call) None (Some (scene_handed s id call).reply) h.0 (plays_line s id call small fits) in
    absurd (none-some (scene_handed s id call).reply one.1)

-- The id of a reply.

-- in this state the stored line, if there is one, reads as a reply with the stored id
abbrev pub StoredReads : SceneState → Type 0
StoredReads s = ReadsWithItsId s.base.kept

-- where the stored line reads as a reply with the stored id, the request's reply has the request's id, and the line that is
-- stored after the request reads as a reply with the id that is stored then
record KeepsIds (s : SceneState) (id : ℕ) (h : Handed SceneState) : Type 0 where
  reads : StoredReads s → heard h.reply ≡ Some id
  good : StoredReads s → StoredReads h.state

-- `KeepsIds` holds of a request with an id below 8 that is answered by the line sent again (`o`), if there is one, or else by
-- what was played, whose return code has 16 bits
played_keeps_ids : (s : SceneState) (id : ℕ) (p : Played) (o : Option (List ℕ)) → resent_line s (Some id) ≡ o → id < 8 → p.rc < 65536
    → KeepsIds s id (again_or_played s (Some id) p o)
played_keeps_ids s id p (Some line) again small code =
    record { reads = λ good. subst ReadsWithItsId (again_kept s.repeats s.base.kept id line again) good; good = λ good. good }
played_keeps_ids s id p None again small code =
    let line = played_line id p in
    let own : heard line ≡ Some id = reply_heard 0 id p.rc p.params (lit< tt) small code in
    record { reads = λ good. own; good = λ good. kept_reads p.state.repeats id line p.state.base.kept own }

-- `KeepsIds` holds of a request for a call with an id below 8
call_keeps_ids : (s : SceneState) (id : ℕ) (call : Call) → id < 8 → KeepsIds s id (scene_handed s id call)
unfolding handed_call
call_keeps_ids s id call small =
    let rpc = (call_fields call).number in
    played_keeps_ids s id (played_call s rpc call) (resent_line s (Some id)) refl small (call_bound (counting rpc s) call (fault_of rpc s.faults) (fault_bound rpc s.faults))

-- from states in which the stored line reads as a reply with the stored id (`StoredReads`), replies have the ids of their
-- requests, and requests and restarts lead to such states again
pub exchange : IsExchange scene_ends StoredReads
exchange = record {
  reads = λ s id call good small. (call_keeps_ids s id call small).reads good;
  stays_good = λ s id call good small. (call_keeps_ids s id call small).good good;
  restart_good = λ s good. tt;
}

-- Executions.

-- a call, whether a fault answers it or not, leaves as it is whether the instrument repeats
pub same_repeats : (s : SceneState) (rpc : ℕ) (call : Call) (o : Option ℕ) → (unless_faulted (counting rpc s) call o).state.repeats ≡ s.repeats
unfolding plays
same_repeats s rpc call (Some code) = refl
same_repeats s rpc call None = refl

-- where a request was answered by the line sent again (`o`), if there is one, or else by what was played (`p`), what the stored
-- ids tell (`TellsExecution`) is whether the request was executed
execution_told_by : (s : SceneState) (id : ℕ) (p : Played) (o : Option (List ℕ)) (told : Bool) → resent_line s (Some id) ≡ o → p.state.repeats ≡ s.repeats
    → TellsExecution s.repeats (kept_id s.base.kept) (kept_id (again_or_played s (Some id) p o).state.base.kept) told
    → told ≡ (again_or_played s (Some id) p o).executed
execution_told_by s id p (Some line) told again same h = by_repeats s.repeats refl
  where
    -- the lemma above, by whether the instrument repeats (`b`)
    by_repeats : (b : Bool) → s.repeats ≡ b → told ≡ false
    by_repeats true e = h.same e refl
    by_repeats false e = absurd (none-some line (sym (ap (λ b. cond b (kept_line s.base.kept (Some id)) None) e) ∙ again))
execution_told_by s id p None told again same h = by_repeats s.repeats refl
  where
    -- the lemma above, by whether the instrument repeats (`b`)
    by_repeats : (b : Bool) → s.repeats ≡ b → told ≡ true
    by_repeats false e = h.never e
    by_repeats true e =
        let none : kept_line s.base.kept (Some id) ≡ None = sym (ap (λ b. cond b (kept_line s.base.kept (Some id)) None) e) ∙ again in
        let kept : kept_id (again_or_played s (Some id) p None).state.base.kept ≡ Some id =
        ap (λ b. kept_id (cond b (kept_after p.state.base.kept (Some id) (played_line id p)) None)) (same ∙ e) in
        h.another (λ equal. id_is_not_kept s.base.kept id none (equal ∙ kept))

-- where `after` is the state after a request for a call, what the stored ids tell (`TellsExecution`) is whether it was executed
execution_told : (s : SceneState) (id : ℕ) (call : Call) (after : SceneState) (told : Bool) → after ≡ (scene_handed s id call).state
    → TellsExecution s.repeats (kept_id s.base.kept) (kept_id after.base.kept) told → told ≡ (scene_handed s id call).executed
unfolding handed_call
execution_told s id call after told is h =
    let rpc = (call_fields call).number in
    execution_told_by s id (played_call s rpc call) (resent_line s (Some id)) told refl (same_repeats s rpc call (fault_of rpc s.faults))
    (subst (λ (t : SceneState). TellsExecution s.repeats (kept_id s.base.kept) (kept_id t.base.kept) told) is h)

-- a text that is a plain reply, appended to the empty text, or none, is plain
appended_plain : (new : List ℕ) (b : Bool) → AppendsAnswer (λ reply. IfSome reply IsPlain) [] new b → IsPlain new
appended_plain new true h = subst IsPlain (sym h.2) h.1
appended_plain new false h = subst IsPlain (sym h.1) nothing_plain

-- where the instrument got the request line of a call with values in range and an id below 8, and its reply, if there is one (b),
-- was appended to the empty text, the state, this text and what the stored ids tell are those that `scene_handed` says
pub scene_handed_over : (s after : SceneState) (new : List ℕ) (b told : Bool) (id : ℕ) (call : Call) → id < 8 → IsFitting call
    → AppendsAnswer (IsPlayed s (request_line (Some id) call) after) [] new b → AppendsAnswer (λ reply. IfSome reply IsPlain) [] new b
    → TellsExecution s.repeats (kept_id s.base.kept) (kept_id after.base.kept) told → IsHandedOver (scene_handed s id call) after new told
scene_handed_over s after new b told id call small fits h plain tells =
    let did = exchanged_is_handed s after new b id call small fits h in
    record { state = did.state; line = did.line; plain = appended_plain new b plain; is_executed = execution_told s id call after told did.state tells }

-- if `TellsExecution` holds, it holds with values equal to its first three in their places, too
pub told_of_equal : {r repeats : Bool} {b before a after : Option ℕ} {told : Bool} → r ≡ repeats → b ≡ before → a ≡ after → TellsExecution r b a told
    → TellsExecution repeats before after told
told_of_equal {r} {repeats} {b} {before} {a} {after} {told} er eb ea h =
    subst (λ (x : Bool). TellsExecution x before after told) er (subst (λ (x : Option ℕ). TellsExecution r x after told) eb (subst (λ (x : Option ℕ). TellsExecution r b x told) ea h))
