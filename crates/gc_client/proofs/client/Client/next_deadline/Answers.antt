use Rattle.gc_client.proofs.Common.{◌≡◌, ◌+◌, not, take, Some, length, sym, subst, ap, ◌∙◌, arith, slice_get, take_all, deadlines, IsEarliest}
use Rattle.gc_client.proofs.Earliest.{one_more_deadline, same_deadlines}
use Rattle.gc_client.proofs.client.Client.next_deadline.Goals.{then-not-pending, else-not-pending}
use Rattle.gc_client.proofs.client.Client.next_deadline.Goals as goal

pub loop-k-preserved : goal.loop-k-preserved
loop-k-preserved g c =
    let ws = c.args.self.now.ids.waiting in
    let k = c.loop-k.k in
    let p = c.get-pending.result in
    let here : slice_get ws k ≡ Some p = ap (λ d. slice_get d.ids.waiting k) (sym c.self.view_is) ∙ c.get-pending.ensures in
    elim c.if-not-pending.branch [
      | then-not-pending w ↦ subst (λ o. IsEarliest (deadlines (take (k + 1) ws)) o) (sym w.earliest-is)
          (subst (λ ds. IsEarliest ds (Some w.earlier.result)) (sym (one_more_deadline k ws p here (ap not w.if-not-pending.true)))
          (w.earlier.ensures (deadlines (take k ws)) c.loop-k.invariant))
      | else-not-pending w ↦ subst (λ o. IsEarliest (deadlines (take (k + 1) ws)) o) (sym w.earliest-is)
          (subst (λ ds. IsEarliest ds c.loop-k.earliest) (sym (same_deadlines k ws p here (ap not w.if-not-pending.false))) c.loop-k.invariant)
    ]

pub returns : goal.returns
returns g c =
    let ws = c.args.self.now.ids.waiting in
    let n = ap (λ d. length d.ids.waiting) c.self.view_is in
    subst (λ ds. IsEarliest (deadlines ds) c.loop-k.earliest) (take_all c.loop-k.k ws (omega (arith, n, c.len-k-end.ensures.len, c.loop-k-test.false))) c.loop-k.invariant
