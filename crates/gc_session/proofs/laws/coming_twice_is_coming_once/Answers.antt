use Rattle.gc_session.proofs.Repeats.{came_twice}
use Rattle.gc_session.proofs.laws.coming_twice_is_coming_once.Goals as goal

pub returns : goal.returns
returns c = came_twice
