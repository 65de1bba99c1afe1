use Rattle.gc_texts.proofs.Moments.{stamps_give_moments}
use Rattle.gc_texts.proofs.laws.stamps_are_moments.Goals as goal

pub returns : goal.returns
returns c = stamps_give_moments
