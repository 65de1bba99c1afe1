use Rattle.gc_texts.proofs.Common.{◌≡◌, true, false, inr, subst, sym, ◌∙◌, is_place, Decimal}
use Rattle.gc_texts.proofs.near_numbers.is_hz.Goals as goal

pub returns-in-Some-clause-fit : goal.returns-in-Some-clause-fit
returns-in-Some-clause-fit c holds =
    record {
      number = c.in-Some.hz;
      spelled = c.in-Some.ensures;
      is = subst (λ (z : Decimal). is_place (record { hz = c.in-Some.hz; v = z }) ≡ true) c.zero.ensures (sym c.is_place.ensures ∙ holds);
    }

pub returns-in-Some-clause-unfit : goal.returns-in-Some-clause-unfit
returns-in-Some-clause-unfit c fails =
    record {
      is = inr (c.in-Some.hz, c.in-Some.ensures, subst (λ (z : Decimal). is_place (record { hz = c.in-Some.hz; v = z }) ≡ false) c.zero.ensures (sym c.is_place.ensures ∙ fails));
    }
