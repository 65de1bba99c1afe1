use Rattle.gc_values.proofs.Common.{◌++◌, ◌-◌, ◌*◌, ◌/◌, ◌%◌, ◌^◌, length, ap, ◌∙◌, arith, last_digits}
use Rattle.gc_values.proofs.WrittenLemmas.{places_are_last_digits, length-places_text, length-put}
use Rattle.gc_values.proofs.decimal.put_places.Goals as goal

pub returns-in-Ok-clause-digits : goal.returns-in-Ok-clause-digits
returns-in-Ok-clause-digits c =
    places_are_last_digits c.args.scale c.args.magnitude c.in-Ok.short _ (omega arith) (omega (arith, c.in-Ok.ensures))
    (c.put_last.ensures.digits ∙ ap (λ xs. last_digits c.args.scale c.in-Ok.short ++ xs) c.requires.empty)

pub returns-in-Ok-clause-few : goal.returns-in-Ok-clause-few
returns-in-Ok-clause-few c = omega (arith, ap length (returns-in-Ok-clause-digits c), length-places_text c.args.scale (c.args.magnitude % 10 ^ c.args.scale) c.requires.places)

pub returns-clause-few : goal.returns-clause-few
returns-clause-few c = omega (
  arith,
  length-put c.args.scale (c.args.magnitude - c.args.magnitude / c.power_of_ten-unit.result * c.power_of_ten-unit.result)
      c.args.tail.now c.put_fraction.new.self c.put_fraction.ensures c.requires.empty,
)
