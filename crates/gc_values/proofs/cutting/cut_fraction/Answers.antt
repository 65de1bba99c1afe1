use Rattle.gc_values.proofs.Common.{◌∷◌, Some, refl, ap, ◌∙◌}
use Rattle.gc_values.proofs.cutting.cut_fraction.Goals as goal

pub returns-in-Some : goal.returns-in-Some
returns-in-Some c = record {
  fraction = Some c.cut_digits.result.0.now;
  text_is = c.in-Some.ensures.found ∙ ap (λ bs. 46 ∷ bs) c.cut_digits.ensures.text_is;
  run_is = refl;
  digits = c.cut_digits.ensures.digits;
  no_point = λ h. absurd (cc);
  longest = c.cut_digits.ensures.longest;
}
