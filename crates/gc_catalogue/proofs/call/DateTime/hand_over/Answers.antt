use Rattle.gc_catalogue.proofs.Common.{rules}
use Rattle.gc_catalogue.proofs.call.DateTime.hand_over.Goals as goal

pub returns : goal.returns
returns g c = λ vs t taken.
    let bytes = c.byte.ensures.takes _ t (c.byte-2.ensures.takes _ t (c.byte-3.ensures.takes _ t (c.byte-4.ensures.takes _ t (c.byte-5.ensures.takes vs t taken)))) in
    search rules
