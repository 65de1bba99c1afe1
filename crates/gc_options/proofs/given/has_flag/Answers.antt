use Rattle.gc_options.proofs.Common.{◌∙◌, found_of}
use Rattle.gc_options.proofs.Getters.{flag_given}
use Rattle.gc_options.proofs.given.has_flag.Goals as goal

pub returns : goal.returns
returns c =
    c.unwrap_or.ensures
    ∙ flag_given (found_of c.args.words.now) c.args.name.now c.get_one.result c.get_one.ensures.none c.get_one.ensures.value
