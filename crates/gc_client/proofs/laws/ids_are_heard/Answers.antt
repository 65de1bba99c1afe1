use Rattle.gc_client.proofs.Digits.{heard_by_grammar}
use Rattle.gc_client.proofs.laws.ids_are_heard.Goals as goal

pub returns : goal.returns
returns c = heard_by_grammar
