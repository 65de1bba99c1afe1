use Rattle.gc_rehearsal.proofs.Common.{◌≡◌, ◌<◌, ◌-◌, length, get_or, ◌∙◌, subst}
use Rattle.gc_rehearsal.proofs.Queued.{adds_copy}
use Rattle.gc_rehearsal.proofs.flight.repeat_last.Goals as goal

pub returns : goal.returns
returns c =
    let q = c.args.queue.now in
    let last = c.in-Some.last.now in
    let some : 0 < length q.items = c.in-Some.ensures.item.3.0 in
    adds_copy q.items c.add.new.queue.items last _ some (subst (λ n. last ≡ get_or q.items (n - 1) last) q.ok.0 c.in-Some.ensures.lookup) (c.line_from.ensures ∙ c.as_slice.ensures.value) c.add.ensures
