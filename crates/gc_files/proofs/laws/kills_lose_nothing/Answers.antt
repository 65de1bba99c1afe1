use Rattle.gc_files.proofs.Killing.{kills_lose_nothing}
use Rattle.gc_files.proofs.laws.kills_lose_nothing.Goals as goal

pub returns : goal.returns
returns c head heads life runs killed = kills_lose_nothing head heads life runs killed
