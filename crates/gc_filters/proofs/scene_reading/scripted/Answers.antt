use Rattle.gc_filters.proofs.Common.{Some, None, refl}
use Rattle.gc_filters.proofs.RuleForms.{made_reply_is_scripted}
use Rattle.gc_filters.proofs.scene_reading.scripted.Goals as goal

pub returns-in-Some : goal.returns-in-Some
returns-in-Some c =
    made_reply_is_scripted c.args.rpc c.args.rc c.args.params.now c.in-Ok.call (Some c.in-Some.answer) c.in-Ok.ensures.found.0 c.in-Ok.ensures.found.1 c.in-Some.ensures.made c.in-Some.ensures.none

pub returns-in-None : goal.returns-in-None
returns-in-None c =
    (made_reply_is_scripted c.args.rpc c.args.rc c.args.params.now c.in-Ok.call None c.in-Ok.ensures.found.0 c.in-Ok.ensures.found.1 c.in-None.ensures.made c.in-None.ensures.none, refl)
