-- The names that crates above cite, passed on from one place. Declares nothing.
pub use Rattle.gc_links.specs.Acts.{Act, AddsActs, Broke, CameWithin, Closed, Cut, Ended, Gave, IsPartIfErr, Opened, Put, Silent, Told, Unopened, Untold, put_act, read_act}
pub use Rattle.gc_links.specs.Coding.{acts_code}
pub use Rattle.gc_links.specs.LinksMeant.{IsMeantAt, MeansActs}
pub use Rattle.gc_links.specs.Noted.{act_of}
pub use Rattle.gc_links.specs.Placed.{PlaceSeen, calls_in, place_seen}
pub use Rattle.gc_links.specs.Places.{NamesPlace}
pub use Rattle.gc_links.specs.Seeing.{SignalsSeen, signals_at}
