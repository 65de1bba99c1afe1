use Rattle.gc_client.proofs.Common.{◌≡◌, ◌+◌, not, take, Some, length, sym, ap, ◌∙◌, arith, length-append, slice_get, deadlines}
use Rattle.gc_client.proofs.Earliest.{one_more_deadline, same_deadlines}
use Rattle.gc_client.proofs.client.Client.current.Goals.{then-not-get, else-not-get}
use Rattle.gc_client.proofs.client.Client.current.Goals as goal

pub loop-k-preserved : goal.loop-k-preserved
loop-k-preserved g c =
    let ws = c.args.self.now.ids.waiting in
    let k = c.loop-k.k in
    let p = c.get.result in
    let before = c.loop-k.invariant in
    let here : slice_get ws k ≡ Some p = ap (λ d. slice_get d.ids.waiting k) (sym c.self.view_is) ∙ c.get.ensures in
    elim c.if-not-get.branch [
      | then-not-get w ↦
          let more = ap length (one_more_deadline k ws p here (ap not w.if-not-get.true)) ∙ length-append (deadlines (take k ws)) _ in
          record {
            counted = w.current-is ∙ ap (λ n. n + 1) before.counted ∙ sym more;
            within = omega (arith, w.current-is, before.within);
          }
      | else-not-get w ↦
          record {
            counted = w.current-is ∙ before.counted ∙ sym (ap length (same_deadlines k ws p here (ap not w.if-not-get.false)));
            within = omega (arith, w.current-is, before.within);
          }
    ]
