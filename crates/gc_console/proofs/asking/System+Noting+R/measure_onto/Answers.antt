use Rattle.gc_console.proofs.Common.{refl, sym, IfOk-weaker, place_seen, signals_at}
use Rattle.gc_console.proofs.asking.System+Noting+R.measure_onto.Goals as goal

pub returns-clause-told : goal.returns-clause-told
returns-clause-told g c =
    let left = c.record_of.ensures in
    IfOk-weaker c.measure_text_at-streams.result.1 _ _
    (λ status t. record {
      ran = t;
      place = left.meant (place_seen c.args.spot.site.place) (signals_at c.args.spot.site.signals) c.measure_text_at-streams.ensures.place;
      file = refl;
    })
    (rw (c.new-kept.ensures, sym left.acts, sym left.began) at c.measure_text_at-streams.ensures.told)
