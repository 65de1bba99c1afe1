use Rattle.gc_texts.proofs.Numerals.{read_is_found}
use Rattle.gc_texts.proofs.item.number_in.Goals as goal

pub returns : goal.returns
returns c = read_is_found c.args.text.now c.read_double.result c.read_double.ensures
