use Rattle.gc_values.proofs.Asking.{list_fault}
use Rattle.gc_values.proofs.parameters.Listed.new.Goals as goal

pub returns-clause-fails : goal.returns-clause-fails
returns-clause-fails c = λ ks e f.
    list_fault c.split.result ks c.args.params.now e
    (record { found = c.split.ensures.found; faults = c.split.ensures.faults; odd = c.split.ensures.open_quote.0; many = c.split.ensures.too_many.0 }) f
