use Rattle.gc_measuring.proofs.Common.{IfOk-weaker, Appends-trans}
use Rattle.gc_measuring.proofs.counts.write_counts.Goals as goal

pub returns : goal.returns
returns g c =
    let front = Appends-trans _ _ _ _ _ c.in_ok-write_main_counts.ensures c.in_ok-write_other_counts.ensures in
    IfOk-weaker c.write_repeats.result _ _
    (λ _ told. Appends-trans _ _ _ _ _ (Appends-trans _ _ _ _ _ front c.in_ok-write_judged_counts.ensures) told) c.write_repeats.ensures
