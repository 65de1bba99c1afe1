use Rattle.gc_client.proofs.Common.{◌≡◌, true, false, not, length, ap, ◌∙◌, arith, is_expiring}
use Rattle.gc_client.proofs.Expiry.{due_done, due_listed, not_due_done, not_due_listed, expires_when_due, not_expiring_early, not_expiring_again}
use Rattle.gc_client.proofs.client.Client.expire.Goals.{then-p-now+then-not-p, else-p-now, else-p-now-via-then-p-now+else-not-p, else-p-now-via-else-p-now}
use Rattle.gc_client.proofs.client.Client.expire.Goals as goal

pub loop-k-preserved : goal.loop-k-preserved
loop-k-preserved g c =
    let pendings = g.W.Window.pendings in
    let now = c.args.now in
    let k = c.loop-k.k in
    let p = c.get-p.result in
    let ws = c.args.self.now.ids.waiting in
    let before = c.loop-k.invariant in
    elim c.if-p-now.branch [
      | then-p-now+then-not-p w ↦
          let due : is_expiring now p ≡ true = expires_when_due now p w.if-p-now.true (ap not w.if-not-p.true) in
          record {
            done = ap (λ s. pendings s.window) w.self-inside-is ∙ due_done now k ws _ p before.done c.get-p.ensures _ due w.give_up.ensures;
            listed = ap (λ t. t.items) w.targets-is ∙ w.push.ensures.items ∙ due_listed now k ws _ p before.done c.get-p.ensures _ before.listed due;
            count = let len = ap (λ t. length t.items) w.targets-is in omega (arith, len, w.push.ensures.len, before.count);
            next = ap (λ s. s.next) w.self-inside-is ∙ before.next;
            width = ap (λ s. s.width) w.self-inside-is ∙ before.width;
          }
      | else-p-now w ↦
          let kept : is_expiring now p ≡ false = elim w.else-p-now.branch [
            | else-p-now-via-then-p-now+else-not-p w' ↦ not_expiring_again now p (ap not w'.if-not-p.false)
            | else-p-now-via-else-p-now w' ↦ not_expiring_early now p w'.if-p-now.false
          ] in
          record {
            done = ap (λ s. pendings s.window) w.self-inside-is ∙ not_due_done now k ws _ p before.done c.get-p.ensures kept;
            listed = ap (λ t. t.items) w.targets-is ∙ not_due_listed now k ws _ p before.done c.get-p.ensures _ before.listed kept;
            count = let len = ap (λ t. length t.items) w.targets-is in omega (arith, len, before.count);
            next = ap (λ s. s.next) w.self-inside-is ∙ before.next;
            width = ap (λ s. s.width) w.self-inside-is ∙ before.width;
          }
    ]
