use Rattle.gc_scenes.proofs.Common.{eqb, rules, tests, ◌∙◌, YieldsList-from_slice, find_from_yields_List, Scripted}
use Rattle.gc_scenes.proofs.instrument.SceneInstrument.scripted_reply.Goals as goal

pub returns : goal.returns
returns c =
    c.copied.ensures ∙ find_from_yields_List (λ (a : Scripted). eqb a.rpc c.args.rpc) _ _ c.find.result c.find.ensures.ran (YieldsList-from_slice c.args.self.now.answers cc)
    (λ x b q k. search (rules, tests))
