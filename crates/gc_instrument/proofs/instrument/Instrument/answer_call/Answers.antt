use Rattle.gc_instrument.proofs.Common.{◌≡◌, ℕ, Option, None, sym, ap, ◌∙◌, subst, unwrap_or, option_map, AppendsText, IsReplyToCall, IsReplyToExecuted, IsAnswered, kept_after, kept_line, with_kept, IsSoundState, state_of, KeptReply, State}
use Rattle.gc_instrument.proofs.Keeping.{appended_bytes, sound_keeping, kept_anew}
use Rattle.gc_instrument.proofs.instrument.Instrument.answer_call.Goals as goal

pub invariant_of-self : goal.invariant_of-self
invariant_of-self g c =
    let h = c.carry_out_onto.ensures.replies in
    let line : _ ≡ h.text = appended_bytes c.args.out.now.items c.deref.result.now h.text c.len-start.result (c.deref.ensures.0 ∙ h.appended) c.len-start.ensures.value in
    let kept : c.keep.new.self ≡ kept_after c.self-2.inside.kept c.args.id h.text = c.keep.ensures ∙ ap (kept_after c.self-2.inside.kept c.args.id) line in
    let says : IsAnswered c.args.self.now (unwrap_or c.args.id 0) c.args.call.now h.text =
    subst (λ (n : ℕ). IsAnswered c.args.self.now n c.args.call.now h.text) c.unwrap_or.ensures h.is.says in
    subst (λ (k : Option KeptReply). IsSoundState (with_kept k (state_of c.self-2.inside))) (sym kept)
    (sound_keeping (state_of c.self-2.inside) c.args.self.now c.args.id c.args.call.now h.text c.self-2.invariant says h.is.plain)

pub returns-clause-replies : goal.returns-clause-replies
returns-clause-replies g c =
    let id = c.args.id in
    let call = c.args.call.now in
    let old = c.args.out.now.items in
    let new = c.carry_out_onto.new.out.items in
    let after : State = state_of c.self-2.inside in
    let h : AppendsText (IsReplyToExecuted c.args.self.now (unwrap_or id 0) call after) old new =
    subst (λ (n : ℕ). AppendsText (IsReplyToExecuted c.args.self.now n call after) old new) c.unwrap_or.ensures
    (subst (λ (s : State). AppendsText (IsReplyToExecuted c.args.self.now c.unwrap_or.result call s) old new) (sym c.self-2.view_is) c.carry_out_onto.ensures.replies) in
    let line : _ ≡ h.text = appended_bytes old c.deref.result.now h.text c.len-start.result (c.deref.ensures.0 ∙ h.appended) c.len-start.ensures.value in
    let none : kept_line c.self.inside.kept id ≡ None = sym c.line_of.ensures.line ∙ ap (option_map (λ r. r.now)) c.in_default.is in
    let own : c.self.inside.kept ≡ c.args.self.now.kept = ap (λ (s : State). s.kept) c.self.view_is in
    let kept : c.keep.new.self ≡ kept_after after.kept id h.text = c.keep.ensures ∙ ap (kept_after c.self-2.inside.kept id) line in
    record {
      text = h.text;
      appended = h.appended;
      is = subst (λ (k : Option KeptReply). IsReplyToCall c.args.self.now id call (with_kept k after) h.text) (sym kept)
          (kept_anew c.args.self.now after id call h.text (ap (λ k. kept_line k id) (sym own) ∙ none) h.is);
    }
