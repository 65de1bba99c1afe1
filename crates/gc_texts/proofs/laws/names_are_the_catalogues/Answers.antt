use Rattle.gc_texts.proofs.RawTroubles.{printed_names_are}
use Rattle.gc_texts.proofs.laws.names_are_the_catalogues.Goals as goal

pub returns : goal.returns
returns c = printed_names_are
