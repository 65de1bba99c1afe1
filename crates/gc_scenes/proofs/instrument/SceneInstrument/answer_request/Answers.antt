use Rattle.gc_scenes.proofs.Common.{◌≡◌, sym, ap, ◌∙◌, subst, ℕ, None, unwrap_or, IfSome, IsPlain, appended_bytes, AppendsPlayed, resent_line, played_fresh, played_line, holding, kept_if_repeating, SceneState}
use Rattle.std.specs.Option.{option_map}
use Rattle.gc_scenes.proofs.Playing.{gave_again, gave_played}
use Rattle.gc_scenes.proofs.instrument.SceneInstrument.answer_request.Goals as goal

pub returns-in-Some-clause-gave : goal.returns-in-Some-clause-gave
returns-in-Some-clause-gave g c =
    let s = c.args.self.now in
    gave_again s c.args.id (played_fresh s c.args.rpc c.args.fresh.now) c.in-Some.line.now _ _ (sym c.resent_line.ensures.line ∙ ap (option_map (λ r. r.now)) c.in-Some.is) c.append.ensures
    (subst (λ o. IfSome o (λ r. IsPlain r.now)) c.in-Some.is c.resent_line.ensures.plain)

pub keep-requires-clause-plain : goal.keep-requires-clause-plain
keep-requires-clause-plain g c =
    let h = c.fresh_onto.ensures.played in
    subst IsPlain (sym (appended_bytes c.args.out.now.items c.deref.result.now _ c.len-start.result (c.deref.ensures.0 ∙ h.appended) c.len-start.ensures.value)) h.plain

pub returns-clause-gave : goal.returns-clause-gave
returns-clause-gave g c =
    let s = c.args.self.now in
    let id = c.args.id in
    let n = unwrap_or id 0 in
    let old = c.args.out.now.items in
    let new = c.fresh_onto.new.out.items in
    let p = played_fresh s c.args.rpc c.args.fresh.now in
    let played : SceneState = c.fresh_onto.new.self in
    let h : AppendsPlayed n p played old new = subst (λ (m : ℕ). AppendsPlayed m p played old new) c.unwrap_or.ensures c.fresh_onto.ensures.played in
    let none : resent_line s id ≡ None = sym c.resent_line.ensures.line ∙ ap (option_map (λ r. r.now)) c.in_default.is in
    let own = appended_bytes old c.deref.result.now (played_line n p) c.len-start.result (c.deref.ensures.0 ∙ h.appended) c.len-start.ensures.value in
    gave_played s id p played c.keep.new.self old new none h (c.keep.ensures ∙ ap (λ l. holding (kept_if_repeating played id l) played) own)
