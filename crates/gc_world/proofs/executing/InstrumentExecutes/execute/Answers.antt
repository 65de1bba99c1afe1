use Rattle.gc_world.proofs.Common.{refl, subst, AppendsAnswer, IsExchanged}
use Rattle.gc_world.proofs.Exchanges.{told_of_equal}
use Rattle.gc_world.proofs.Handing.{handed_over}
use Rattle.gc_world.proofs.executing.InstrumentExecutes.execute.Goals as goal

pub returns : goal.returns
returns c = λ id call small fits is.
    let did = c.reply_onto-answered in
    handed_over c.args.self.now did.new.self id call did.new.out.items did.result c.is_execution.result
    (subst (λ old. AppendsAnswer (IsExchanged c.args.self.now id call did.new.self) old did.new.out.items did.result) c.requires (did.ensures.exchanged id call small fits is))
    (told_of_equal refl c.kept_id-before.ensures c.kept_id-after.ensures c.is_execution.ensures)
