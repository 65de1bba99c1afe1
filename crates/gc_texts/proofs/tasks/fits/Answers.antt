use Rattle.gc_texts.proofs.Common.{rules}
use Rattle.gc_texts.proofs.Fitting.{fits_not, fits_so}
use Rattle.gc_texts.proofs.tasks.fits.Goals as goal

pub returns-in-Some-clause-found : goal.returns-in-Some-clause-found
returns-in-Some-clause-found c so =
    fits_so c.args.described.now c.args.asked.now c.in-Raw.raw c.number.result c.in-Some.description.now c.in-Raw.is c.number.ensures (search rules) (c.takes.ensures.found so)

pub returns-in-Some-clause-none : goal.returns-in-Some-clause-none
returns-in-Some-clause-none c so =
    fits_not c.args.described.now c.args.asked.now c.in-Raw.raw c.number.result c.in-Some.description.now c.in-Raw.is c.number.ensures (search rules) (c.takes.ensures.none so)
