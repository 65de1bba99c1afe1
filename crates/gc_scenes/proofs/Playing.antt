-- What the code appends for a request is what the definitions give.
use Rattle.gc_scenes.proofs.Common.{◌≡◌, ℕ, ◌<◌, List, [], ◌++◌, Some, None, Option, refl, sym, ap, ◌∙◌, subst, lit<, option_map, unwrap_or, AppendsText, IsPlain, RequestFields, ValueFault, IsCall, IsRefusal, reply_line, Answer, Call, Unknown, Parameters, Executed, refusal_line, reply_id, AppendsHanded, AppendsPlayed, fault_of, scripted_reply, noisy, noise_after, Played, HasCodeAndAnswer, plays, outcome, after_call, replied_answer, played_call, played_raw, unless_faulted_raw, scripted_played, counting, faulted_raw, names_call, unreadable, AnswersPlainly, resent_line, again_or_played, handed_call, handed_raw, played_or_refused, holding, kept_if_repeating, played_line, SceneState, Scripted}
use Rattle.gc_scenes.specs.declared.rules.Noise.{Noise}
use Rattle.gc_scenes.proofs.Plain.{line_plain, nothing_plain}

-- A request that is answered again, or for the first time.

-- where a stored line is sent again for the id (`resent_line`), appending it is what `again_or_played` says of the request
pub gave_again : (s : SceneState) (id : Option ℕ) (p : Played) (line old new : List ℕ) → resent_line s id ≡ Some line → new ≡ old ++ line → IsPlain line
    → AppendsHanded (again_or_played s id p (resent_line s id)) s old new
gave_again s id p line old new again appended plain =
    subst (λ (o : Option (List ℕ)). AppendsHanded (again_or_played s id p o) s old new) (sym again) (record { state = refl; appended = appended; plain = plain })

-- where no stored line is sent again for the id (`resent_line`), appending the request's own reply (`AppendsPlayed`), and storing
-- it as `kept_if_repeating` has it, is what `again_or_played` says of the request
pub gave_played : (s : SceneState) (id : Option ℕ) (p : Played) (played after : SceneState) (old new : List ℕ) → resent_line s id ≡ None
    → AppendsPlayed (unwrap_or id 0) p played old new → after ≡ holding (kept_if_repeating played id (played_line (unwrap_or id 0) p)) played
    → AppendsHanded (again_or_played s id p (resent_line s id)) after old new
gave_played s id p played after old new none h kept =
    subst (λ (o : Option (List ℕ)). AppendsHanded (again_or_played s id p o) after old new) (sym none)
    (record {
      state = kept ∙ ap (λ (t : SceneState). holding (kept_if_repeating t id (played_line (unwrap_or id 0) p)) t) h.state;
      appended = h.appended;
      plain = h.plain;
    })

-- A request of a procedure that isn't in the table, by what the scene has for it.
module _ (s after : SceneState) (rpc : ℕ) (id : Option ℕ) (old new : List ℕ) where
  -- where `played_raw` gives `o` for the request, what `played_or_refused` says of `o` is what `handed_raw` says of the request
  by_played : (o : Option Played) → played_raw s rpc ≡ o → AppendsHanded (played_or_refused s rpc id o) after old new
      → AppendsHanded (handed_raw s rpc id) after old new
  unfolding handed_raw
  by_played o is h = subst (λ (p : Option Played). AppendsHanded (played_or_refused s rpc id p) after old new) (sym is) h

  -- where a fault answers the request, what `again_or_played` says of a reply with its code, without parameters, is what
  -- `handed_raw` says of the request
  pub gave_fault : (code : ℕ) → Some code ≡ fault_of rpc s.faults
      → AppendsHanded (again_or_played s id (faulted_raw (counting rpc s) code) (resent_line s id)) after old new
      → AppendsHanded (handed_raw s rpc id) after old new
  gave_fault code is h = by_played (Some (faulted_raw (counting rpc s) code)) (ap (unless_faulted_raw (counting rpc s) rpc) (sym is)) h

  -- where no fault answers the request, and the scene has a reply for the request's procedure, what `again_or_played` says of
  -- that reply is what `handed_raw` says of the request
  pub gave_scripted : (a : Scripted) → None ≡ fault_of rpc s.faults → Some a ≡ scripted_reply rpc s.answers
      → AppendsHanded (again_or_played s id (scripted_played (counting rpc s) a) (resent_line s id)) after old new
      → AppendsHanded (handed_raw s rpc id) after old new
  gave_scripted a none is h =
      by_played (Some (scripted_played (counting rpc s) a))
      (ap (unless_faulted_raw (counting rpc s) rpc) (sym none) ∙ ap (option_map (scripted_played (counting rpc s))) (sym is)) h

  -- where no fault answers the request, and the scene has no reply for the request's procedure, counting the request and
  -- appending its refusal is what `handed_raw` says of it
  pub gave_refusal : None ≡ fault_of rpc s.faults → None ≡ scripted_reply rpc s.answers → after ≡ counting rpc s
      → new ≡ old ++ refusal_line (unwrap_or id 0) Unknown → unwrap_or id 0 < 8
      → AppendsHanded (handed_raw s rpc id) after old new
  gave_refusal none unknown state appended digit =
      by_played None (ap (unless_faulted_raw (counting rpc s) rpc) (sym none) ∙ ap (option_map (scripted_played (counting rpc s))) (sym unknown)) (record {
        state = state;
        appended = appended;
        plain = line_plain 3081 (unwrap_or id 0) 0 [] (lit< tt) digit (lit< tt) nothing_plain;
      })

-- Executing.

-- how the call was executed in the state s, and its reply, with this id, appended to `old`: `t` is the state after the call, but with
-- the old noise, and `u` that with the noise after the answer; `said` is the answer, and `told` the answer with the noise
pub record IsExecuted (s : SceneState) (call : Call) (number : ℕ) (u : SceneState) (old new : List ℕ) : Type 0 where
  pub t : SceneState
  pub code : ℕ
  pub said : Answer
  pub told : Answer
  pub gives : HasCodeAndAnswer (outcome s call) code said
  pub state : t ≡ record (after_call s call (outcome s call)) { noise = s.noise }
  pub noise : told ≡ noisy t.noise said
  pub drawn : u ≡ record t { noise = noise_after t.noise said }
  pub appended : new ≡ old ++ reply_line number code (replied_answer u.ways.values u.base.pointing call code told) u.base.precision
  pub plain : IsPlain (reply_line number code (replied_answer u.ways.values u.base.pointing call code told) u.base.precision)

-- executing a call, adding the noise and appending the reply (`IsExecuted`) is what `plays` says of the call
pub executing_plays : (s : SceneState) (call : Call) (number : ℕ) (u : SceneState) (old new : List ℕ) → IsExecuted s call number u old new
    → AppendsPlayed number (plays s call) u old new
unfolding plays
executing_plays s call number u old new h =
    let x = outcome s call in
    let rc : h.code ≡ x.rc = sym (ap (λ (y : Executed). y.rc) h.gives) in
    let ans : h.said ≡ x.answer = sym (ap (λ (y : Executed). y.answer) h.gives) in
    let quiet : h.t.noise ≡ s.noise = ap (λ (y : SceneState). y.noise) h.state in
    let after : u ≡ after_call s call x =
    h.drawn ∙ ap (λ (y : SceneState). record y { noise = noise_after y.noise h.said }) h.state ∙ ap (λ (a : Answer). record (after_call s call x) { noise = noise_after s.noise a }) ans in
    let said_is : h.told ≡ noisy s.noise x.answer = h.noise ∙ ap (λ (n : Option Noise). noisy n h.said) quiet ∙ ap (noisy s.noise) ans in
    let line =
    ap (λ (y : SceneState). reply_line number h.code (replied_answer y.ways.values y.base.pointing call h.code h.told) y.base.precision) after
    ∙ ap (λ (c : ℕ). reply_line number c (replied_answer s.ways.values x.state.pointing call c h.told) x.state.precision) rc
    ∙ ap (λ (a : Answer). reply_line number x.rc (replied_answer s.ways.values x.state.pointing call x.rc a) x.state.precision) said_is in
    record { state = after; appended = h.appended ∙ ap (λ l. old ++ l) line; plain = subst IsPlain line h.plain }

-- Lines.

-- where a request names a call, and `AppendsHanded` holds of what `again_or_played` says of the call, the text that was appended is
-- the reply to the request (`AnswersPlainly`)
pub call_reply : (before after : SceneState) (q : RequestFields) (call : Call) (old new : List ℕ) → IsCall q.rpc q.params call
    → AppendsHanded (again_or_played before q.id (played_call before q.rpc call) (resent_line before q.id)) after old new
    → AppendsText (AnswersPlainly before q after) old new
unfolding handed_call
call_reply before after q call old new is h = record {
  text = (handed_call before q.rpc q.id call).reply;
  appended = h.appended;
  is = record { answers = names_call call is (record { state = h.state; line = refl }); plain = h.plain };
}

-- where a request's parameters can't be read, and their refusal was appended, with the state as it was, that refusal is the reply
-- to the request (`AnswersPlainly`)
pub unread_reply : (s : SceneState) (q : RequestFields) (e : ValueFault) (number : ℕ) (old new : List ℕ)
    → IsRefusal q.rpc q.params (Parameters e) → number ≡ reply_id q
    → new ≡ old ++ refusal_line number (Parameters e) → number < 8 → AppendsText (AnswersPlainly s q s) old new
unread_reply s q e number old new is same appended digit = record {
  text = refusal_line number (Parameters e);
  appended = appended;
  is = record { answers = unreadable e is refl (ap (λ n. refusal_line n (Parameters e)) same); plain = line_plain 3080 number 0 [] (lit< tt) digit (lit< tt) nothing_plain };
}
