use Rattle.gc_options.proofs.Common.{found_of}
use Rattle.gc_options.proofs.Getters.{text_given}
use Rattle.gc_options.proofs.given.text_in.Goals as goal

pub returns : goal.returns
returns c = text_given (found_of c.args.words.now) c.args.name.now c.get_str.result c.get_str.ensures
