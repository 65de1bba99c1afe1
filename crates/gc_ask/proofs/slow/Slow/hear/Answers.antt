use Rattle.gc_ask.proofs.Common.{subst, true, false, AppendsAnswer, Line, SlowState, HearsSometime}
use Rattle.gc_ask.proofs.Slowly.{slowly_answered, slowly_unanswered}
use Rattle.gc_ask.proofs.slow.Slow.hear.Goals as goal

pub returns-then-not-hear-clause-heard : goal.returns-then-not-hear-clause-heard
returns-then-not-hear-clause-heard c =
    subst (λ (b : SlowState). AppendsAnswer (HearsSometime b (Line (record { items = c.args.line.now })) c.hear.new.self) c.args.text.now.items c.hear.new.out.items false)
    c.self.view_is (slowly_unanswered c.self.inside.slow c.hear.new.self c.args.line.now c.args.at c.args.text.now.items c.hear.new.out.items c.if-not-hear.ensures.heard)

pub returns-clause-heard : goal.returns-clause-heard
returns-clause-heard c =
    subst (λ (b : SlowState). AppendsAnswer (HearsSometime b (Line (record { items = c.args.line.now })) c.hear.new.self) c.args.text.now.items c.append.new.to.items true)
    c.self.view_is (slowly_answered c.self.inside.slow c.hear.new.self c.args.line.now c.args.at c.args.text.now.items c.hear.new.out.items c.append.new.to.items
    c.if-not-hear.ensures.heard c.append.ensures)
