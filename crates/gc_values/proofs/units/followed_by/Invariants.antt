use Rattle.gc_values.proofs.Common.{◌≡◌, ◌+◌, ◌*◌, ◌^◌, take, number}
use Rattle.gc_values.proofs.units.followed_by.Given as goal

abbrev pub invariant-loop-digit : goal.invariant-loop-digit
invariant-loop-digit l = l.value ≡ l.front * 10 ^ l.digit-index + number (take l.digit-index l.digits)
