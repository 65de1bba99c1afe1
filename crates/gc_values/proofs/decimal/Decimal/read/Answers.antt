use Rattle.gc_values.proofs.Common.{subst, sym, Spells}
use Rattle.gc_values.proofs.DecimalLaws.{written_spells_decimal}
use Rattle.gc_values.proofs.Reading.{IsDecimalRead, reads_units}
use Rattle.gc_values.proofs.decimal.Decimal.read.Goals.{After-try_from_parts}
use Rattle.gc_values.proofs.decimal.Decimal.read.Goals as goal

-- what `Decimal::read` returns for a text that has the parts of a number is as `IsDecimalRead` says
result_is_reading : (c : After-try_from_parts) → IsDecimalRead c.args.text.now c.try_from_parts.result
result_is_reading c =
    reads_units c.args.text.now _ _ _ c.try_from_parts.result
    (record { numeral = c.in-Some.ensures.found; rounded = c.rounded_units-magnitude.ensures })
    c.try_from_parts.ensures.made c.try_from_parts.ensures.exact

pub returns-clause-value : goal.returns-clause-value
returns-clause-value c = (result_is_reading c).value

pub returns-clause-only : goal.returns-clause-only
returns-clause-only c = (result_is_reading c).only

pub returns-clause-range : goal.returns-clause-range
returns-clause-range c = (result_is_reading c).range

pub returns-clause-spelling : goal.returns-clause-spelling
returns-clause-spelling c = (result_is_reading c).spelling

pub returns-clause-faults : goal.returns-clause-faults
returns-clause-faults c = (result_is_reading c).faults

pub returns-clause-again : goal.returns-clause-again
returns-clause-again c d e = (result_is_reading c).only d (subst (λ xs. Spells xs d.digits d.scale) (sym e) (written_spells_decimal d))

pub returns-in_default-clause-again : goal.returns-in_default-clause-again
returns-in_default-clause-again c d e =
    let s = subst (λ xs. Spells xs d.digits d.scale) (sym e) (written_spells_decimal d) in
    absurd (c.in_default.ensures.none s.1.0 s.1.1 s.1.2)
