use Rattle.gc_client.proofs.Common.{length, sym, ap, ◌∙◌, arith, option_copied_mut, given_up_at}
use Rattle.gc_client.specs.declared.ring.RingOf.TheInside.{Inside}
use Rattle.gc_client.proofs.Marks.{set_some_is_given_up, none_is_past}
use Rattle.gc_client.proofs.ring.RingOfWindow.give_up.Goals.{in-Some, in_default}
use Rattle.gc_client.proofs.ring.RingOfWindow.give_up.Goals as goal

-- the mark is on the k-th that waits, which is there
pub returns : goal.returns
returns g c =
    let items = c.self.inside.buffer.items in
    elim c.match-get_mut.branch [
      | in-Some w ↦ ap (λ (r : Inside _). r.buffer.items) w.self-inside-is
          ∙ set_some_is_given_up items c.args.k w.in-Some.p.now (sym c.get_mut.follows ∙ ap option_copied_mut w.in-Some.is)
          ∙ ap (given_up_at c.args.k) c.self.view_is
      | in_default w ↦
          let same_length = ap length c.self.view_is in
          let past = none_is_past items c.args.k (sym c.get_mut.follows ∙ ap option_copied_mut w.in_default.is) in
          absurd (omega (arith, past, same_length, c.requires))
    ]
