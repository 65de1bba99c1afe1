use Rattle.gc_console.proofs.Common.{ℕ, List, sym, subst, inr, refusal_fault, RunFault}
use Rattle.gc_console.proofs.scene.instrument_in.Goals as goal

pub returns-clause-fault : goal.returns-clause-fault
returns-clause-fault g c =
    let at : g.I.SetUp.fails c.as_slice.result.now (refusal_fault c.of.result) =
    subst (λ (e : RunFault). g.I.SetUp.fails c.as_slice.result.now e) (sym c.of.ensures) c.in-Err-of_text.ensures.fault in
    let fault : g.I.SetUp.fails c.in-Ok.text.items (refusal_fault c.of.result) =
    subst (λ (t : List ℕ). g.I.SetUp.fails t (refusal_fault c.of.result)) c.as_slice.ensures.value at in
    (c.in-Ok.text.items, c.in-Ok.ensures.found.0, inr fault)
