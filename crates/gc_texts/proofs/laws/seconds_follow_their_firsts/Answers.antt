use Rattle.gc_texts.proofs.FirstSendings.{seconds_follow_their_firsts}
use Rattle.gc_texts.proofs.laws.seconds_follow_their_firsts.Goals as goal

pub returns : goal.returns
returns c = seconds_follow_their_firsts
