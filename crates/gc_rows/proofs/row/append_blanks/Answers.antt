use Rattle.gc_rows.proofs.Common.{◌++◌, ap, ◌∙◌, take-replicate, MOST_QUANTITIES}
use Rattle.gc_rows.proofs.row.append_blanks.Goals as goal

pub returns-clause-text : goal.returns-clause-text
returns-clause-text g c = c.append.ensures ∙ ap (λ l. c.args.row.now.items ++ l) (take-replicate c.args.count MOST_QUANTITIES 44 c.requires.few)
