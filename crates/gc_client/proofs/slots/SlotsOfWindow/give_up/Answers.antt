use Rattle.gc_client.proofs.Common.{◌<◌, length, set, sym, ap, ◌∙◌, arith, given_up_at, waiting_in}
use Rattle.gc_client.proofs.Rounds.{length-waiting, get_or-waiting, waiting_after_set}
use Rattle.gc_client.proofs.Marks.{marked_timed_out, set_is_given_up}
use Rattle.gc_client.proofs.slots.SlotsOfWindow.give_up.Goals as goal

-- the mark is in the place of the k-th that waits
pub returns : goal.returns
returns g c =
    let s = c.self.inside in
    let k = c.args.k in
    let d = c.index-self-place.result in
    let old = waiting_in s.oldest s.len s.places in
    let length_old = length-waiting 8 s.oldest s.len s.places c.self.invariant.0 (omega arith) c.self.invariant.2 in
    let same_length = ap length c.self.view_is in
    let waits : k < s.len = omega arith in
    waiting_after_set 8 s.oldest s.len s.places c.self.invariant.0 (omega arith) c.self.invariant.2 k _ waits
    ∙ ap (λ p. set old k (marked_timed_out p)) (sym (get_or-waiting 8 s.oldest s.len s.places c.self.invariant.0 (omega arith) c.self.invariant.2 k d waits))
    ∙ set_is_given_up old k d (omega arith)
    ∙ ap (given_up_at k) c.self.view_is
