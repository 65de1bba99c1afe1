use Rattle.gc_scenes.proofs.Common.{◌∙◌, ap, subst, IsPlain, reply_line, Answer, answer_or_values, SceneState}
use Rattle.gc_scenes.proofs.Playing.{executing_plays}
use Rattle.gc_scenes.proofs.instrument.SceneInstrument.execute_onto.Goals as goal

pub returns-clause-played : goal.returns-clause-played
returns-clause-played g c =
    let line = rw c.answer_or_values-replied.ensures at c.answer_onto.ensures.line in
    let u : SceneState = c.disturb.new.self in
    let told = c.answer_or_values-replied.ensures ∙ ap (λ d. answer_or_values u.ways.values u.base.pointing c.args.call.now c.execute-rc.result d c.disturb.new.answer) c.zero.ensures in
    let plain = subst (λ (a : Answer). IsPlain (reply_line c.args.id c.execute-rc.result a u.base.precision)) told c.answer_onto.ensures.plain in
    executing_plays c.args.self.now c.args.call.now c.args.id c.disturb.new.self c.args.out.now.items c.answer_onto.new.out.items (record {
      t = c.execute-rc.new.self;
      code = c.execute-rc.result;
      said = c.execute-rc.new.answer;
      told = c.disturb.new.answer;
      gives = c.execute-rc.ensures.gives;
      state = c.execute-rc.ensures.state;
      noise = c.disturb.ensures.answer;
      drawn = c.disturb.ensures.state;
      appended = rw c.zero.ensures at line;
      plain = plain;
    })
