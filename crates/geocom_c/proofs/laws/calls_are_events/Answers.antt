use Rattle.geocom_c.proofs.Courses.{over_events}
use Rattle.geocom_c.proofs.laws.calls_are_events.Goals as goal

pub returns : goal.returns
returns c = over_events
