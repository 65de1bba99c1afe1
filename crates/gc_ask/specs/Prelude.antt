-- The names that crates above cite, passed on from one place. Declares nothing.
pub use Rattle.gc_ask.specs.AskRuns.{AskRunsConnected, AsksOverFresh, AsksWithin, SeenAtClient}
pub use Rattle.gc_ask.specs.Asking.{Asks, LinkResult, LosesOne, RunsConnected, StopsAt, Written}
pub use Rattle.gc_ask.specs.Keeping.{KeepsServing}
pub use Rattle.gc_ask.specs.Looping.{LoopRunsConnected, LoopsOverFresh}
pub use Rattle.gc_ask.specs.Places.{IsFaultOfDevice, IsFaultOfPlace, fault_of_unusable}
pub use Rattle.gc_ask.specs.Serving.{ServesEach}
pub use Rattle.gc_ask.specs.Showing.{unless_shown}
