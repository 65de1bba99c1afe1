-- The names that crates above cite, passed on from one place. Declares nothing.
pub use Rattle.gc_rehearsal.specs.Askable.{AreAskable, IsAskable}
pub use Rattle.gc_rehearsal.specs.Carrying.{ActLeads, Acts, CarriesNothing, GiveLeads, Happening, HasComeTo, HasReached, IsOfLine, IsOneLine, IsSentOrLost, LeadAll, Leads, Lines, Loses_down, Loses_front, Loses_up, Passes, PutLeads, Reaches, Repeats_down, Repeats_up, Restarts, TakesReply, acts_of}
pub use Rattle.gc_rehearsal.specs.Runs.{AreRuns, AreRunsOnLine, AreRunsUnlessAltered, IsRunOf, RehearsedStation, RunsAndStops, acts_of_all}
