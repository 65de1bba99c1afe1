use Rattle.gc_texts.proofs.Common.{Option, ap, map, ◌∙◌, codes, Decimal, field_seen, decimal_in, direction_from, value_under}
use Rattle.gc_texts.proofs.measured.measured_direction.Goals as goal

pub returns : goal.returns
returns c =
    c.direction_from.ensures
    ∙ ap (λ (hz : Option Decimal). direction_from hz c.decimal_under-v.result) c.decimal_under-hz.ensures
    ∙ ap (λ (v : Option Decimal). direction_from (decimal_in (value_under (codes "hz_rad") (map field_seen c.args.fields.now) c.args.values.now)) v) c.decimal_under-v.ensures
