use Rattle.gc_filters.proofs.Forms.{read_as_numbered}
use Rattle.gc_filters.proofs.event.number_behind.Goals as goal

pub returns : goal.returns
returns c = read_as_numbered c.args.word.now c.args.line.now c.in_ok-digits.digits.now c.args.max c.number_of.result c.in_ok-digits.ensures c.number_of.ensures
