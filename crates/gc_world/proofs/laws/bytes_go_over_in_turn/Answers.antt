use Rattle.gc_world.proofs.Common.{◌+◌, ◌<◌, [], ◌∷◌, length, sym, ◌∙◌, ap, subst, Call, ById, State, restarted, by_ids, ends, ids_open, streams_by_ids, bytes, lines, Streams, untouched}
use Rattle.gc_world.proofs.Additive.{bytes_add, bytes_end}
use Rattle.gc_world.proofs.Flow.{flow_append}
use Rattle.gc_world.proofs.laws.bytes_go_over_in_turn.Goals as goal

pub returns-clause-adds : goal.returns-clause-adds
returns-clause-adds c = λ d width opening events m n some.
    let rule = by_ids width ends in
    let begins = untouched (ids_open (restarted opening)) in
    let v = streams_by_ids width ends events (restarted opening) in
    let under = subst (λ (x : Streams (ById Call) State). 0 < length (lines d x.world.wire)) (flow_append ends rule events (bytes d (m + 1) ∷ []) begins) some in
    flow_append ends rule events (bytes d (m + 1 + (n + 1)) ∷ []) begins ∙ bytes_add ends rule d v m n under
    ∙ sym (flow_append ends rule events (bytes d (m + 1) ∷ bytes d (n + 1) ∷ []) begins)

pub returns-clause-ends : goal.returns-clause-ends
returns-clause-ends c = λ d width opening events m n none.
    let rule = by_ids width ends in
    let begins = untouched (ids_open (restarted opening)) in
    let v = streams_by_ids width ends events (restarted opening) in
    let one = flow_append ends rule events (bytes d (m + 1) ∷ []) begins in
    flow_append ends rule events (bytes d (m + 1 + n) ∷ []) begins
    ∙ bytes_end ends rule d v m n (ap (λ (x : Streams (ById Call) State). lines d x.world.wire) (sym one) ∙ none) ∙ sym one
