use Rattle.gc_scenes.proofs.Common.{[], List, sym, ap, ◌∙◌, subst, Executed, Gives, State, Target, scene_of, outcome, SceneState, seeing}
use Rattle.gc_scenes.proofs.Acted.{acts_over_seen, acts_with_face}
use Rattle.gc_scenes.proofs.instrument.SceneInstrument.act_over_seen.Goals as goal

pub returns-clause-gives : goal.returns-clause-gives
returns-clause-gives c =
    let i = c.self.inside in
    let s = c.args.self.now in
    let seen = c.set_scene.ensures ∙ ap (λ (ts : List Target). seeing ts i.base) c.seen_by-targets.ensures in
    let is = acts_over_seen i s _ c.set_face_by_angle.new.instrument _ c.args.call.now c.act_faceless-rc.result c.act_faceless-rc.new.answer c.self.view_is seen c.clock_shows-now.ensures
    (acts_with_face i.ways c.clock_shows-now.result c.set_scene.new.self _ _ c.args.call.now _ _ c.act_faceless-rc.ensures c.set_face_by_angle.ensures) in
    subst (λ (t : State). Gives (outcome s c.args.call.now) t c.act_faceless-rc.result c.act_faceless-rc.new.answer) (sym (ap (λ (x : Executed). x.state) is)) is

pub returns-clause-state : goal.returns-clause-state
returns-clause-state c =
    let i = c.self.inside in
    let s = c.args.self.now in
    let seen = c.set_scene.ensures ∙ ap (λ (ts : List Target). seeing ts i.base) c.seen_by-targets.ensures in
    let is = acts_over_seen i s _ c.set_face_by_angle.new.instrument _ c.args.call.now c.act_faceless-rc.result c.act_faceless-rc.new.answer c.self.view_is seen c.clock_shows-now.ensures
    (acts_with_face i.ways c.clock_shows-now.result c.set_scene.new.self _ _ c.args.call.now _ _ c.act_faceless-rc.ensures c.set_face_by_angle.ensures) in
    ap (λ (t : State). record (scene_of i) { base = seeing [] t }) (sym (ap (λ (x : Executed). x.state) is))
    ∙ ap (λ (v : SceneState). record v { base = seeing v.base.scene (outcome s c.args.call.now).state }) c.self.view_is
