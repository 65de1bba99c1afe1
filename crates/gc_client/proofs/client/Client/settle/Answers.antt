use Rattle.gc_client.proofs.Common.{◌≡◌, ◌+◌, ◌<◌, true, [], ◌∷◌, ◌++◌, length, map, take, set, sym, subst, ap, ◌∙◌, arith, length-set, take_all, ArrayVec, Settlement, Windowed, lost, settled_by_line, settle, settles_at, AreSettledBy}
use Rattle.gc_client.proofs.Ends.{settle_is, fewer_left}
use Rattle.gc_client.proofs.Lists.{rest_after_first, none_is_no_some}
use Rattle.gc_client.proofs.Settling.{settled_one_written}
use Rattle.gc_client.proofs.client.Client.settle.Goals.{in-Some, in_default}
use Rattle.gc_client.proofs.client.Client.settle.Goals as goal

pub invariant_of-self : goal.invariant_of-self
invariant_of-self g c =
    let next = sym c.lose.ensures.left ∙ c.take_first-p.ensures in
    (c.self.invariant.0, fewer_left _ _ _ _ _ next c.self.invariant.1, c.self.invariant.2)

-- the first k requests are settled as lost, and the one at place k by the reply
pub returns-clause-settled : goal.returns-clause-settled
returns-clause-settled g c =
    let says = g.W.Asked.Asking.says in
    let ws = g.W.Window.pendings c.self.inside.window in
    let line = c.args.line.now in
    let k = c.args.k in
    let p = c.take_first-p.result in
    let old = c.lose.new.settled.items in
    let places : length old ≡ k + 1 = c.lose.ensures.places ∙ c.make_places.ensures in
    let lt : k < length old = omega (arith, places) in
    let ruled = map lost (take k ws) ++ settled_by_line p line ∷ [] in
    elim c.match-get_mut.branch [
      | in-Some w ↦
          let s = w.set_replied.new.settlement in
          let all = take_all (k + 1) (set old k s) (omega (arith, places, length-set old k s)) in
          let are = subst (λ ss. AreSettledBy says ss ruled) all (settled_one_written says old k (map lost (take k ws)) s (settled_by_line p line) lt c.lose.ensures.settled w.set_replied.ensures) in
          let by_rule = subst (λ rs. AreSettledBy says (set old k s) rs)
          (sym (settle_is k line ws p _ (sym c.lose.ensures.left ∙ c.take_first-p.ensures))
          ∙ ap (λ (d : Windowed _). settle k line d.ids.waiting) c.self.view_is) are in
          subst (λ (x : ArrayVec (Settlement _)). AreSettledBy says x.items (settle k line c.args.self.now.ids.waiting)) (sym w.settled-is) by_rule
      | in_default w ↦ absurd (none_is_no_some c.get_mut.result w.in_default.is (c.get_mut.ensures.variant.1 lt))
    ]

-- the requests after place k still wait
pub returns-clause-client : goal.returns-clause-client
returns-clause-client g c =
    let ws = g.W.Window.pendings c.self.inside.window in
    let left = rest_after_first ws c.args.k c.take_first-p.result (g.W.Window.pendings c.lose.new.window) (g.W.Window.pendings c.take_first-p.new.self) c.lose.ensures.left c.take_first-p.ensures in
    ap (λ ps. let d : Windowed _ = record { width = c.self.inside.width; ids = record { next = c.self.inside.next; waiting = ps } } in d) left
    ∙ ap (λ (d : Windowed _). record d { ids = (settles_at d.ids c.args.line.now c.args.k true).client }) c.self.view_is
