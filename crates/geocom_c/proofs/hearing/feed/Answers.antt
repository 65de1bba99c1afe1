use Rattle.geocom_c.proofs.Common.{◌∙◌, ◌++◌, [], take, refl, sym, ap, subst, frame_of, Frame, Session, feed_effect, IsFedTo, at_feed, frame_kind_in, frame_settles, session_past, StandsForSession, StoresSession, GeocomHeard}
use Rattle.geocom_c.proofs.Counts.{HasCounts}
use Rattle.geocom_c.proofs.SessionFrames.{at_feed_counts, at_feed_settings, few_at_feed, held_few, past_counts, past_settings}
use Rattle.geocom_c.proofs.Frames.{fed_unended, fed_used}
use Rattle.geocom_c.proofs.SessionSettings.{still_allowed}
use Rattle.geocom_c.proofs.hearing.feed.Goals as goal

pub store_session-requires : goal.store_session-requires
store_session-requires c =
    let held = c.requires.session.1 in
    let s = c.args.session in
    let at = at_feed c.args.now c.args.bytes.now s in
    let frame = c.take-used.result.1 in
    subst HasCounts (sym (c.hear_frame-told.ensures.session ∙ ap (λ (t : Session). session_past t frame) c.come.ensures))
    (past_counts frame at (few_at_feed c.args.now c.args.bytes.now s (held_few c.args.state.now s _ held)) (at_feed_counts c.args.now c.args.bytes.now s held.standing.exchange.counts))

pub returns-clause-more : goal.returns-clause-more
returns-clause-more c = λ rest held none.
    let s = c.args.session in
    let at = at_feed c.args.now c.args.bytes.now s in
    let frame = c.take-used.result.1 in
    let t = c.take-used.ensures.more rest held.client.incomplete none in
    let fed = subst (λ (u : Session). IsFedTo u frame (feed_effect c.hear_frame-told.result c.hear_frame-told.new.settlements c.hear_frame-told.new.text)) c.come.ensures c.hear_frame-told.ensures.fed in
    let stored = subst (λ (u : Session). StoresSession (record c.args.state.now { client = record c.args.state.now.client { rest = c.take-used.new.self } }) c.store_session.new.state u)
    (c.hear_frame-told.ensures.session ∙ ap (λ (u : Session). session_past u frame) c.come.ensures) c.store_session.ensures in
    let stands = stored (rest ++ c.args.bytes.now) t.1.1 (still_allowed s.settings (session_past at frame).settings (past_settings frame at ∙ at_feed_settings c.args.now c.args.bytes.now s) held.settings.allowed) in (
      fed_unended (frame_kind_in at) (frame_settles at) frame c.hear_frame-told.result c.using.result _ _ c.take-used.result.0 c.using.ensures fed _ refl refl t.1.0 t.0,
      subst (λ (g : Frame). StandsForSession c.store_session.new.state (session_past at g) (rest ++ c.args.bytes.now)) t.1.0 stands,
    )

pub returns-clause-frame : goal.returns-clause-frame
returns-clause-frame c = λ rest k held some.
    let s = c.args.session in
    let at = at_feed c.args.now c.args.bytes.now s in
    let frame = c.take-used.result.1 in
    let t = c.take-used.ensures.frame rest k held.client.incomplete some in
    let fed = subst (λ (u : Session). IsFedTo u frame (feed_effect c.hear_frame-told.result c.hear_frame-told.new.settlements c.hear_frame-told.new.text)) c.come.ensures c.hear_frame-told.ensures.fed in
    let stored = subst (λ (u : Session). StoresSession (record c.args.state.now { client = record c.args.state.now.client { rest = c.take-used.new.self } }) c.store_session.new.state u)
    (c.hear_frame-told.ensures.session ∙ ap (λ (u : Session). session_past u frame) c.come.ensures) c.store_session.ensures in
    let stands = stored [] t.1.1 (still_allowed s.settings (session_past at frame).settings (past_settings frame at ∙ at_feed_settings c.args.now c.args.bytes.now s) held.settings.allowed) in
    record {
      used_is = ap (λ (x : GeocomHeard). x.used) c.using.ensures ∙ t.0;
      fed = fed_used (frame_kind_in at) (frame_settles at) frame c.hear_frame-told.result c.using.result _ _ c.take-used.result.0 c.using.ensures fed (frame_of (rest ++ take k c.args.bytes.now)) t.1.0;
      stands = subst (λ (g : Frame). StandsForSession c.store_session.new.state (session_past at g) []) t.1.0 stands;
    }
