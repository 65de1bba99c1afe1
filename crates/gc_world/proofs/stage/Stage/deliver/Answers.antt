use Rattle.gc_world.proofs.Common.{sym, subst, OnOk, Direction, delivery, TakesNoMemory, staging, Follows}
use Rattle.gc_world.proofs.stage.Stage.deliver.Goals as goal

pub returns-in-Up-clause-follows : goal.returns-in-Up-clause-follows
returns-in-Up-clause-follows g c =
    subst (λ (d : Direction). OnOk c.up_deliver.result (Follows (staging g.I.Executes.acts) c.args.self.now (delivery d) c.up_deliver.new.self)) (sym c.in-Up.is) c.up_deliver.ensures.follows

pub returns-in-Down-clause-follows : goal.returns-in-Down-clause-follows
returns-in-Down-clause-follows g c =
    subst (λ (d : Direction). OnOk c.down_deliver.result (Follows (staging g.I.Executes.acts) c.args.self.now (delivery d) c.down_deliver.new.self)) (sym c.in-Down.is) c.down_deliver.ensures.follows

pub returns-in-Down-clause-spare : goal.returns-in-Down-clause-spare
returns-in-Down-clause-spare g c =
    λ width v h t. c.down_deliver.ensures.spare width v h (subst (λ (d : Direction). TakesNoMemory width v (delivery d)) c.in-Down.is t)
