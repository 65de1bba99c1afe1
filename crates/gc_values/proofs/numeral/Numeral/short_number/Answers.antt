use Rattle.gc_values.proofs.Common.{◌+◌, ◌*◌, ◌^◌, ◌≤◌, length, subst, sym, ap, ◌∙◌, arith, number}
use Rattle.gc_values.proofs.Kept.{number-append, digits_leave_room}
use Rattle.gc_values.proofs.Powers.{ten_pow_le}
use Rattle.gc_values.proofs.numeral.Numeral.short_number.Goals as goal

pub followed_by-requires-clause-small : goal.followed_by-requires-clause-small
followed_by-requires-clause-small c = omega (arith, ten_pow_le (length c.args.self.now.whole.now) 18 (omega arith))

pub followed_by-requires-2-clause-small : goal.followed_by-requires-2-clause-small
followed_by-requires-2-clause-small c =
    let n = c.args.self.now in
    subst (λ front. (front + 1) * 10 ^ length n.fraction.now ≤ 10 ^ 18) (sym (omega (arith, c.followed_by.ensures)))
    (digits_leave_room n.whole.now n.fraction.now n.whole_are_digits c.requires)

pub returns : goal.returns
returns c =
    let n = c.args.self.now in
    c.followed_by-2.ensures ∙ ap (λ front. front * 10 ^ length n.fraction.now + number n.fraction.now) (omega (arith, c.followed_by.ensures))
    ∙ sym (number-append n.whole.now n.fraction.now)
