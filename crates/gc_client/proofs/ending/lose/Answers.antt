use Rattle.gc_client.proofs.Common.{◌+◌, ◌<◌, length, map, take, set, sym, subst, ap, ◌∙◌, arith, length-set, ArrayVec, Settlement, lost, AreSettledBy}
use Rattle.gc_client.proofs.Lists.{rest_after_first, none_is_no_some}
use Rattle.gc_client.proofs.Settling.{next_lost, settled_one_written}
use Rattle.gc_client.proofs.ending.lose.Goals.{in-Some, in_default}
use Rattle.gc_client.proofs.ending.lose.Goals as goal

pub loop-k-preserved : goal.loop-k-preserved
loop-k-preserved g c =
    let pendings = g.W.Window.pendings in
    let says = g.W.Asked.Asking.says in
    let ws = pendings c.args.window.now in
    let k = c.loop-k.k in
    let p = c.take_first-p.result in
    let before = c.loop-k.invariant in
    let next = next_lost ws k p (pendings c.loop-k.window) (pendings c.take_first-p.new.self) before.left c.take_first-p.ensures in
    let left = rest_after_first ws k p (pendings c.loop-k.window) (pendings c.take_first-p.new.self) before.left c.take_first-p.ensures in
    let old = c.loop-k.settled.items in
    let lt : k < length old = omega (arith, c.requires.places, c.loop-k-test.true, before.places) in
    elim c.match-get_mut.branch [
      | in-Some w ↦
          let s = w.set_lost.new.settlement in
          let written = settled_one_written says old k (map lost (take k ws)) s (lost p) lt before.settled w.set_lost.ensures in
          record {
            settled = subst (λ (x : ArrayVec (Settlement _)). AreSettledBy says (take (k + 1) x.items) (map lost (take (k + 1) ws))) (sym w.settled-is)
                (subst (λ rs. AreSettledBy says (take (k + 1) (set old k s)) rs) (sym next) written);
            left = left;
            places = ap (λ (x : ArrayVec (Settlement _)). length x.items) w.settled-is ∙ length-set old k s ∙ before.places;
          }
      | in_default w ↦ absurd (none_is_no_some c.get_mut.result w.in_default.is (c.get_mut.ensures.variant.1 lt))
    ]
