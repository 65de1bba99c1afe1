use Rattle.gc_scenes.proofs.Common.{Option, subst, ℕ, lit<, AppendsPlayed, scripted_params, fault_of, unless_faulted, SceneState}
use Rattle.gc_scenes.proofs.Plain.{line_plain, scripted_plain}
use Rattle.gc_scenes.proofs.instrument.SceneInstrument.fresh_onto.Goals as goal

pub returns-in-Call-clause-played : goal.returns-in-Call-clause-played
returns-in-Call-clause-played g c =
    let call = c.in-Call.call.now in
    let Does : SceneState → Option ℕ → Type 0 = λ s fault. AppendsPlayed c.args.id (unless_faulted s call fault) c.play_onto.new.self c.args.out.now.items c.play_onto.new.out.items in
    rw c.in-Call.is (subst (λ (s : SceneState). Does s (fault_of c.args.rpc c.args.self.now.faults)) c.count.ensures
    (subst (λ (fault : Option ℕ). Does c.count.new.self fault) c.fault_of-fault.ensures c.play_onto.ensures.played))

pub returns-in-Raw-clause-played : goal.returns-in-Raw-clause-played
returns-in-Raw-clause-played g c =
    let line = rw c.params.ensures.value at c.push_reply_with.ensures.line in
    let reply = c.in-Raw.reply.now in
    rw c.in-Raw.is (record { state = c.count-in-Raw.ensures; appended = line; plain = line_plain 0 c.args.id reply.rc (scripted_params reply.with) (lit< tt) c.requires.id reply.fits (scripted_plain reply.with) })
