use Rattle.gc_world.proofs.Common.{List, ℕ, Some, subst, IfSome, AppendsAnswer, IsPlain, request_line, IsPlayed}
use Rattle.gc_world.proofs.Exchanges.{scene_handed_over, told_of_equal}
use Rattle.gc_world.proofs.executing.SceneInstrumentExecutes.execute.Goals as goal

pub returns : goal.returns
returns c = λ id call small fits is.
    let s = c.args.self.now in
    let did = c.reply_onto-sent in
    scene_handed_over s did.new.self did.new.out.items did.result c.is_execution.result id call small fits
    (subst (λ old. AppendsAnswer (IsPlayed s (request_line (Some id) call) did.new.self) old did.new.out.items did.result) c.requires
    (subst (λ (line : List ℕ). AppendsAnswer (IsPlayed s line did.new.self) c.args.reply.now.items did.new.out.items did.result) is did.ensures.played))
    (subst (λ old. AppendsAnswer (λ reply. IfSome reply IsPlain) old did.new.out.items did.result) c.requires did.ensures.plain)
    (told_of_equal c.repeats-repeats.ensures c.kept_id-before.ensures c.kept_id-after.ensures c.is_execution.ensures)
